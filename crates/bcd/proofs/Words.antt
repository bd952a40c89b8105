-- A tag has one register or two; its words and the number that they are come back from each other, for any kind.
-- Assumes nothing.
use Prim.Native.Nat.{ℕ, ◌^◌, ◌≤◌, ◌<◌}
use mathlib.Core.Path.{◌≡◌}
use mathlib.Core.Bool.{true}
use mathlib.Core.List.{List}
use native.Mathlib.Omega.{arith}
use lib.Dec.{lit≤}
use lib.ListN.{length}
use Rattle.laws.specs.Digits.{below}
use Rattle.laws.proofs.DigitLaws.{value-digits, digits_value, digits-below, length_digits}
use Rattle.bcd.specs.declared.Kind.{Kind}
use Rattle.bcd.specs.declared.Kind.TheVariants.{Width16, Width32, Signed16}
use Rattle.bcd.specs.Bcd.{registers}
use Rattle.bcd.specs.Words.{words_of, number_of}

-- Every kind has a register.
pub registers-least : (k : Kind) → 1 ≤ registers k
unfolding registers
registers-least Width16 = lit≤ tt
registers-least Width32 = lit≤ tt
registers-least Signed16 = lit≤ tt

-- No kind has more than two.
pub registers_most : (k : Kind) → registers k ≤ 2
unfolding registers
registers_most Width16 = lit≤ tt
registers_most Width32 = lit≤ tt
registers_most Signed16 = lit≤ tt

module _ (k : Kind) where
  -- There are as many words as registers.
  pub words_count : (w : ℕ) → length (words_of k w) ≡ registers k
  unfolding words_of
  words_count w = length_digits 65536 (registers k) w

  -- Each is 16 bits.
  pub words_below : (w : ℕ) → below 65536 (words_of k w) ≡ true
  unfolding words_of
  words_below w = digits-below 65536 65536 (registers k) w (omega arith) (omega arith)

  -- The words of the number that the registers are, are the registers' words.
  pub words_back : (ws : List ℕ) → length ws ≡ registers k → below 65536 ws ≡ true → words_of k (number_of ws) ≡ ws
  unfolding words_of number_of
  words_back ws e h = rw e at (digits_value 65536 ws h)

  -- The number that a number's words are is that number, where it fits the registers.
  pub number_back : (w : ℕ) → w < 65536 ^ registers k → number_of (words_of k w) ≡ w
  unfolding words_of number_of
  number_back w l = value-digits 65536 (registers k) w (omega arith) l
