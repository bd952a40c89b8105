-- Splitting a run of received bytes: whether a frame stands at its start, and which.
-- Assumes nothing.
use Rattle.std.specs.Prelude.{ℕ, zero, suc, ◌+◌, Bool, cond, not, ◌||◌, List, [], ◌∷◌, length, take, drop, eqb, ltb}
use Rattle.numbers.specs.Numbers.{uncounted, least_length, most_length}
use Rattle.wire.specs.Frame.{protocol_of, length_of}

-- protocol not 0, or length not 2 to 254
abbrev pub bad_header : List ℕ → Bool
bad_header r = not (eqb (protocol_of r) 0) || (ltb (length_of r) least_length || ltb most_length (length_of r))

-- what stands at the start of a run: a frame, too few bytes to tell or to be one, or a header that is refused
pub data Standing : Type 0 where
  Frame : Standing
  MoreNeeded : Standing
  Refused : Standing

-- fewer than 6 bytes: more needed; else refusal 4 for a bad header; else the frame, or more needed
unfoldable pub standing_of : List ℕ → Standing
standing_of r =
    cond (ltb (length r) uncounted) MoreNeeded
    (cond (bad_header r) Refused
    (cond (ltb (length r) (uncounted + length_of r)) MoreNeeded
    Frame))

-- how many bytes the first whole frame has, 0 where there is none
unfoldable pub size_if : Standing → ℕ → ℕ
size_if Frame n = n
size_if MoreNeeded n = 0
size_if Refused n = 0

-- the first whole frame of a run, a part of that run, empty where there is none
unfoldable pub first_frame : List ℕ → List ℕ
first_frame r = take (size_if (standing_of r) (uncounted + length_of r)) r

-- a run split again and again, at most n times, as long as a frame stands at its start
unfoldable pub frames : ℕ → List ℕ → List (List ℕ)
frames zero r = []
frames (suc n) r = cond (eqb (length (first_frame r)) 0) [] (first_frame r ∷ frames n (drop (length (first_frame r)) r))
