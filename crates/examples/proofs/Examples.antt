-- Document 01's examples P1 to P12: one table, and the one claim that the definitions give what it says, shown by computing.
-- Assumes nothing.
use mathlib.Core.Path.{◌≡◌, refl, ap₂}
use mathlib.Core.List.{List, ◌++◌, map}
use lib.ListN.{take, drop}
use Rattle.examples.specs.Examples.{Example, last_of, whole, shown, examples}

abbrev Hold : List Example → Type 0
Hold es = map shown es ≡ map whole es

-- in three parts, each of which is computed in less memory than the whole
first_four : Hold (take 4 examples)
unfolding shown last_of
first_four = refl

next_four : Hold (take 4 (drop 4 examples))
unfolding shown last_of
next_four = refl

last_five : Hold (drop 8 examples)
unfolding shown last_of
last_five = refl

pub examples_hold : map shown examples ≡ map whole examples
examples_hold = ap₂ ◌++◌ first_four (ap₂ ◌++◌ next_four last_five)
