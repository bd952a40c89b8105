-- What a text that is said does: the place behind it, and what must come out stays.
-- Assumes nothing.
use Rattle.std.specs.Prelude.{ℕ, ◌≡◌, min, List, Option}
use Rattle.laws.specs.Options.{place_or}
use Rattle.parts.specs.Said.{lost, said}
use Rattle.parts.specs.declared.saying.Saying.{Saying}

-- the place of the next piece as a number: `lost` where there is none, and no place is above it
abbrev pub place_of : Option ℕ → ℕ
place_of at = min (place_or lost at) lost

abbrev pub place : Saying → ℕ
place s = place_of s.at

-- a text is said: what stands at the place is held against it, and the place behind it comes next
pub record Says (before : Saying) (text : List ℕ) (after : Saying) : Type 0 where
  pub stays : after.right.now ≡ before.right.now
  pub moves : place after ≡ said before.right.now (place before) text
