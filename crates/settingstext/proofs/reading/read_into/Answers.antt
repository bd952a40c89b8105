-- `settingstext::reading::read_into` meets its contract: the lines before the tags and those of the tags are all lines.
use Rattle.std.specs.Prelude.{Err}
use mathlib.Core.Path.{◌≡◌, ap, sym, ◌∙◌}
use borrow.Author.Rules.{rules}
use Rattle.settingstext.specs.TextRead.{reported}
use Rattle.settingstext.specs.inner.Reading.{Headed, TagsRead, ReadInto}
use Rattle.settingstext.proofs.reading.read_into.Goals as goal

pub returns-in_err-head : goal.returns-in_err-head
unfolding Headed ReadInto
returns-in_err-head c =
    let e : c.from_residual.result ≡ Err c.in_err-head.field-0.0 = search rules in
    rw e (rw c.in_err-head.was at c.read_head.ensures)

pub read_tags-requires : goal.read_tags-requires
unfolding Headed
read_tags-requires c = let h = rw c.in_ok-head.was at c.read_head.ensures in (h.1, c.requires)

pub returns-in_err-read_tags : goal.returns-in_err-read_tags
unfolding Headed TagsRead ReadInto
returns-in_err-read_tags c =
    let h = rw c.in_ok-head.was at c.read_head.ensures in
    let e : c.from_residual-in_err-read_tags.result ≡ Err c.in_err-read_tags.field-0.0 = search rules in
    rw e (h.0 ∙ rw c.in_err-read_tags.was at c.read_tags.ensures)

pub returns : goal.returns
unfolding Headed TagsRead ReadInto
returns c =
    let h = rw c.in_ok-head.was at c.read_head.ensures in
    rw c.in_ok-read_tags.was at c.read_tags.ensures ∙ ap reported (sym h.0)
