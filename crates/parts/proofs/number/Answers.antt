-- `parts::number` meets its contract: the number goes on from each digit, and where there is none the other one stands.
use Rattle.std.proofs.Common.{◌≡◌, ◌∙◌, fold, rules, length, eqb, false, sym}
use Rattle.std.proofs.iter.runs.Made.{chains}
use Rattle.parts.specs.Texts.{longer}
use Rattle.parts.proofs.TextLaws.{number_fold}
use Rattle.parts.proofs.number.Goals as goal

pub returns : goal.returns
returns c =
    let a = c.args in
    let digits : c.fold.result ≡ fold longer 0 a.word.now = search (rules, chains) in
    let some : eqb (length a.word.now) 0 ≡ false = sym c.is_empty.ensures ∙ c.if-is_empty.false in
    rw some (digits ∙ number_fold 0 a.word.now)
