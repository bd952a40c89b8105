-- `state_by_value::gather` meets its contract: the loop fills the entries place by place with what the columns say.
use Rattle.std.specs.Prelude.{None}
use Rattle.numbers.specs.Numbers.{places}
use Rattle.laws.specs.Lists.{tab}
use Rattle.state_by_value.specs.States.{row_at}
use Rattle.laws.proofs.FillLaws.{Filled}
use Rattle.state_by_value.proofs.gather.Given as goal

abbrev pub invariant-loop-k : goal.invariant-loop-k
invariant-loop-k l = Filled places None (tab places (row_at l.d)) l.entries l.k
