-- `moves::closing::close_met` meets its contract. The loop's invariant: the places below k are closed.
use Prim.Native.Nat.{ℕ}
use mathlib.Core.Path.{◌≡◌}
use Rattle.pdu.specs.Words.{what_of}
use Rattle.table.proofs.ClosingLaws.{ClosedTo}
use Rattle.moves.proofs.closing.close_met.Given as goal

abbrev pub invariant-loop-k : goal.invariant-loop-k
invariant-loop-k l = (word : ℕ) → (what_of word).unit ≡ l.what.unit → (what_of word).asked ≡ l.what.asked → ClosedTo l.k word l.ids l.initial.asked l.asked
