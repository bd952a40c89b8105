-- The count of examples.
-- Assumes nothing.
use Rattle.std.specs.Prelude.{ℕ, ◌+◌, ◌%◌, ◌^◌, Bool, cond, not, ◌&&◌, List, length, ◌==◌, nat_lt, slice_index}
use Rattle.parts.specs.declared.tally.Tally.{Tally}

-- nothing shown yet; a table that fills its buffer may have been cut: that is one difference
abbrev pub started : ℕ → List ℕ → Tally
started size buffer = record { shown = 0; differ = cond (nat_lt size (length buffer)) 0 1 }

-- a line with nothing in it and one that begins with '#' are no rows
abbrev pub is_row : List ℕ → Bool
is_row line = not (slice_index line 0 == 0) && not (slice_index line 0 == 35)

-- one example more, and so many differences, in 64 bits
abbrev pub counted : Tally → ℕ → Tally
counted t differ = record { shown = (t.shown + 1) % 2 ^ 64; differ = (t.differ + differ) % 2 ^ 64 }

-- an example that was said up to a place: it differs unless that is the end of what must be said
abbrev pub ended : Tally → List ℕ → ℕ → Tally
ended t right at = counted t (cond (at == length right) 0 1)
