-- `requesting::join_request` meets its contract: one party more under its own id, and the answer has the proxy id of the place.
use Prim.Native.Nat.{ℕ}
use mathlib.Core.Path.{ap}
use Rattle.machine.specs.declared.Answer.TheVariants.{Joined}
use Rattle.requesting.proofs.join_request.Goals as goal

pub id_at-id-requires : goal.id_at-id-requires
id_at-id-requires c = rw c.join.ensures.stays.0 (c.requires.place_lt_places.0, c.requires.nonzero.0, c.requires.nonzero.1)

pub returns-clause-joined : goal.returns-clause-joined
returns-clause-joined c =
    (ap (λ (n : ℕ). Joined (record { 0 = n })) (rw c.join.ensures.stays.0 at c.id_at-id.ensures), rw c.original_of-original.ensures at c.join.ensures.joined)
