-- `values::is_valid` meets its contract: the loop over the tags decides what the definition says of the value.
use Prim.Native.Nat.{◌≤◌}
use Rattle.numbers.specs.Numbers.{most_tags}
use Rattle.settings.proofs.ValueLaws.{tag_at, Checked}
use Rattle.values.proofs.is_valid.Given as goal

abbrev pub invariant-loop-k : goal.invariant-loop-k
invariant-loop-k l = (l.k ≤ l.s.tags) × (l.s.tags ≤ most_tags) × Checked (tag_at l.s) l.right l.from l.k
