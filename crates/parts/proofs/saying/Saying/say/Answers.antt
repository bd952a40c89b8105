-- `Saying::say` meets its contract: where there is no place nothing is right.
use Rattle.std.proofs.Common.{◌≡◌, sym, ◌∙◌, ap}
use Rattle.parts.specs.Said.{lost}
use Rattle.parts.specs.Saying.{place_of, place}
use Rattle.parts.proofs.SaidLaws.{said-lost}
use Rattle.parts.proofs.saying.Saying.say.Goals as goal

pub returns-in_default : goal.returns-in_default
returns-in_default c =
    let a = c.args in
    let p = c.print_held.ensures in
    let now : place c.print_held.new.self ≡ lost = ap place_of c.in_default.is in
    let before : place a.self.now ≡ lost = ap place_of (sym p.at ∙ c.in_default.is) in
    record { stays = p.right; moves = now ∙ sym (said-lost a.self.now.right.now a.piece.now before) }
