-- One line of the settings text: a key, '=', a decimal number without leading zeros, LF.
-- Assumes nothing.
use Rattle.std.specs.Prelude.{ℕ, zero, suc, ◌+◌, ◌*◌, ◌-◌, ◌/◌, ◌%◌, Bool, true, false, cond, not, ◌&&◌, List, [], ◌∷◌, ◌++◌, eqb, ltb, leb}
use Rattle.std.proofs.Math.Option.{Option, some, none}

-- the bytes of '=', LF, '0' and '9'
abbrev pub equals : ℕ
equals = 61

abbrev pub line_feed : ℕ
line_feed = 10

abbrev pub digit_zero : ℕ
digit_zero = 48

abbrev pub digit_nine : ℕ
digit_nine = 57

abbrev pub is_digit : ℕ → Bool
is_digit c = leb digit_zero c && leb c digit_nine

-- n in decimal without leading zeros, for a number of up to k digits; and for every number of the product
unfoldable pub decimal_of : ℕ → ℕ → List ℕ
decimal_of zero n = []
decimal_of (suc k) n = cond (ltb n 10) ((digit_zero + n) ∷ []) (decimal_of k (n / 10) ++ ((digit_zero + n % 10) ∷ []))

abbrev pub decimal : ℕ → List ℕ
decimal n = decimal_of 20 n

unfoldable pub line_of : List ℕ → ℕ → List ℕ
line_of key n = key ++ (equals ∷ decimal n ++ (line_feed ∷ []))

-- the digits that a text begins with, and what stands behind them
unfoldable pub leading : List ℕ → List ℕ
leading [] = []
leading (c ∷ t) = cond (is_digit c) (c ∷ leading t) []

unfoldable pub trailing : List ℕ → List ℕ
trailing [] = []
trailing (c ∷ t) = cond (is_digit c) (trailing t) (c ∷ t)

-- at least one digit, and no leading zero
unfoldable pub plain : List ℕ → Bool
plain [] = false
plain (d ∷ []) = true
plain (d ∷ e ∷ ds) = not (eqb d digit_zero)

-- the number that digits are, the highest first, behind those that made n
unfoldable pub number_from : ℕ → List ℕ → ℕ
number_from n [] = n
number_from n (d ∷ ds) = number_from (n * 10 + (d - digit_zero)) ds

-- what stands in a text behind a beginning, if it begins so
unfoldable pub behind : List ℕ → List ℕ → Option (List ℕ)
behind [] t = some t
behind (c ∷ cs) [] = none
behind (c ∷ cs) (b ∷ t) = cond (eqb c b) (behind cs t) none

-- a line's number, and the text behind the line
pub record Numbered : Type 0 where
  pub number : ℕ
  pub rest : List ℕ

-- the number that a text begins with, if an LF ends it
unfoldable pub number_in : List ℕ → Option Numbered
number_in t =
    elim (behind (line_feed ∷ []) (trailing t)) [
      | none ↦ none
      | some r ↦ cond (plain (leading t)) (some (record { number = number_from 0 (leading t); rest = r })) none
    ]

-- the number of the line that a text begins with, if it has this key and is written as a line is
unfoldable pub line_in : List ℕ → List ℕ → Option Numbered
line_in key t = elim (behind (key ++ (equals ∷ [])) t) [ none ↦ none | some r ↦ number_in r ]
