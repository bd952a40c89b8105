-- `payloads::send` meets its contract: what the request has for registers decides.
use mathlib.Core.Path.{◌≡◌, sym, ◌∙◌}
use mathlib.Core.Logic.{⊎_elim}
use mathlib.Core.List.{map}
use Rattle.settings.specs.TagWords.{tag_of}
use Rattle.payloads.specs.declared.carrying.Carried.{Carried}
use Rattle.payloads.proofs.CarryingLaws.{Carrying, carrying}
use Rattle.payloads.proofs.send.Goals.{After-carried_by}
use Rattle.payloads.proofs.send.Goals as goal

has : (c : After-carried_by) {x : Carried} → c.carried_by.result ≡ x → (let a = c.args in Carrying (map tag_of a.tags.words.now) a.frame.now a.asked x)
has c e = let a = c.args in carrying (map tag_of a.tags.words.now) a.frame.now a.asked (sym e ∙ c.carried_by.ensures)

pub rewrite-requires : goal.rewrite-requires
rewrite-requires c = (has (goal.at.rewrite-requires c).After-carried_by c.in-Run.is).room c.requires.sent

pub returns-in-Nothing : goal.returns-in-Nothing
returns-in-Nothing c =
    let s = (goal.at.returns-in-Nothing c).After-carried_by in
    rw (c.default.ensures.0, c.default.ensures.1) (⊎_elim (λ e. sym (has s e).sent) (λ e. sym (has s e.1).sent) c.in-Nothing.is)

pub returns-in-Run : goal.returns-in-Run
returns-in-Run c = c.rewrite.ensures ∙ sym (has (goal.at.returns-in-Run c).After-carried_by c.in-Run.is).sent
