-- `payloads::strict::is_forbidden` meets its contract: what the request has for registers decides, and without the mark no tag is strict.
use mathlib.Core.Path.{◌≡◌, sym, ◌∙◌}
use mathlib.Core.List.{map}
use native.Mathlib.Omega.{arith}
use lib.ListN.{get_or, get_or-eq_default}
use Rattle.settings.specs.TagWords.{tag_of}
use Rattle.payloads.specs.declared.carrying.Carried.{Carried}
use Rattle.payloads.proofs.CarryingLaws.{Carrying, carrying, run-lenient}
use Rattle.payloads.proofs.strict.is_forbidden.Goals.{After-carried_by}
use Rattle.payloads.proofs.strict.is_forbidden.Goals as goal

has : (c : After-carried_by) {x : Carried} → c.carried_by.result ≡ x → (let a = c.args in Carrying (map tag_of a.tags.words.now) a.frame.now a.asked x)
has c e = let a = c.args in carrying (map tag_of a.tags.words.now) a.frame.now a.asked (sym e ∙ c.carried_by.ensures)

pub some_forbids-requires : goal.some_forbids-requires
some_forbids-requires c = (has (goal.at.some_forbids-requires c).After-carried_by c.in-Run.is).room c.requires.sent

pub returns-in-Nothing : goal.returns-in-Nothing
returns-in-Nothing c = sym (has (goal.at.returns-in-Nothing c).After-carried_by c.in-Nothing.is).forbids

pub returns-in-Mask : goal.returns-in-Mask
returns-in-Mask c = c.has_tag.ensures ∙ sym (has (goal.at.returns-in-Mask c).After-carried_by c.in-Mask.is).forbids

pub returns-in-len1-up : goal.returns-in-len1-up
returns-in-len1-up c = c.some_forbids.ensures ∙ sym (has (goal.at.returns-in-len1-up c).After-carried_by c.in-Run.is).forbids

-- without a word none has the mark
pub returns-in_default : goal.returns-in_default
returns-in_default c =
    let a = c.args in
    let none : get_or a.tags.words.now 0 0 ≡ 0 = get_or-eq_default a.tags.words.now 0 (omega arith) in
    sym (run-lenient (map tag_of a.tags.words.now) a.frame.now a.asked c.carried_by.ensures _ c.in-Run.is (c.requires.words_value (omega arith)))

pub returns-in_default-2 : goal.returns-in_default-2
returns-in_default-2 c =
    let a = c.args in
    sym (run-lenient (map tag_of a.tags.words.now) a.frame.now a.asked c.carried_by.ensures _ c.in-Run.is (c.requires.words_value c.if-first-ge-STRICT_MARK.false))
