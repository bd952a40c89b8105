-- Frames in plain words: what is no refusal, frames in a row, and what is left of a run behind them.
-- Assumes nothing.
use Rattle.std.specs.Prelude.{ℕ, ◌+◌, ◌≤◌, ◌≡◌, false, length, drop}
use mathlib.Core.List.{List, flatten, Memᴰ}
use Rattle.numbers.specs.Numbers.{least_frame, most_frame, uncounted}
use Rattle.wire.specs.Frame.{protocol_of, length_of, misframed}
use Rattle.wire.specs.Splitting.{frames}

-- what a frame that is not refused is known to be
pub record Framed (f : List ℕ) : Type 0 where
  pub least : least_frame ≤ length f
  pub most : length f ≤ most_frame
  pub protocol : protocol_of f ≡ 0
  pub counted : length_of f + uncounted ≡ length f

-- each of these lists is not refused as a frame
abbrev pub Whole : List (List ℕ) → Type 0
Whole fs = (f : List ℕ) → Memᴰ f fs → misframed f ≡ false

-- what is left of a run behind the frames that were split off
abbrev pub left : ℕ → List ℕ → List ℕ
left n r = drop (length (flatten (frames n r))) r
