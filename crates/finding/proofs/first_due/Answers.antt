-- `finding::first_due` meets its contract: no place that is passed is due.
use mathlib.Core.Path.{sym, ◌∙◌}
use native.Mathlib.Omega.{arith}
use Rattle.laws.proofs.SearchLaws.{first_is}
use Rattle.finding.proofs.first_due.Goals as goal

pub returns-then-is_due-clause-found : goal.returns-then-is_due-clause-found
returns-then-is_due-clause-found c = first_is _ _ _ (omega arith) c.loop-k.invariant (λ h. sym c.is_due.ensures ∙ c.if-is_due.true)

pub returns-clause-found : goal.returns-clause-found
returns-clause-found c = first_is _ _ _ (omega arith) (λ j h. c.loop-k.invariant j (omega arith)) (λ h. absurd (omega arith))
