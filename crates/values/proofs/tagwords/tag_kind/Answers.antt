-- `values::tagwords::tag_kind` meets its contract: the 8 bits above the address are the kind's number.
use mathlib.Core.Path.{sym, ◌∙◌}
use Rattle.settings.proofs.TagLaws.{kind_of_word}
use Rattle.values.proofs.tagwords.tag_kind.Goals as goal

pub returns : goal.returns
returns c = c.kind_from.ensures ∙ sym (kind_of_word c.args.word)
