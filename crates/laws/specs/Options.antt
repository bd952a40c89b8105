-- What an option of the code is in the definitions: theirs, or a number with one that stands for none.
-- Assumes nothing.
use Rattle.std.specs.Prelude.{ℕ, Option, Some, None}
use Rattle.std.proofs.Math.Option as maybe_lib

-- the definitions' option
abbrev pub maybe : {A : Type 0} → Option A → maybe_lib.Option A
maybe None = maybe_lib.none
maybe (Some x) = maybe_lib.some x

-- the place that was found, or the number that stands for none
abbrev pub place_or : ℕ → Option ℕ → ℕ
place_or n None = n
place_or n (Some k) = k
