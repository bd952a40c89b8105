-- `state_by_value::spread` meets its contract: the loop fills each column place by place with what the entries say, and the rest is as it is.
use Prim.Native.Nat.{ℕ, ◌≤◌}
use mathlib.Core.List.{List, map}
use Rattle.std.specs.Prelude.{Option}
use Rattle.numbers.specs.Numbers.{places}
use Rattle.laws.proofs.FillLaws.{Filled}
use Rattle.state_by_value.specs.declared.Place.{Place}
use Rattle.state_by_value.specs.Places.{number_of, word_in, caller_of, deadline_of, count_of}
use Rattle.state_by_value.proofs.spread.Given as goal

-- a column of which the first k places are the numbers f of the entries
abbrev pub Column : List (Option Place) → (Option Place → ℕ) → List ℕ → ℕ → Type 0
Column es f = Filled places 0 (map f es)

abbrev pub invariant-loop-k : goal.invariant-loop-k
invariant-loop-k l =
    let Is = Column l.s.entries in
    (l.k ≤ places) × Is number_of l.ids l.k × Is word_in l.asked l.k × Is caller_of l.callers l.k × Is deadline_of l.deadlines l.k × Is count_of l.counts l.k
