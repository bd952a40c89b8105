-- Splitting a run gives its first whole frame and no other, whatever comes behind, and a run of frames comes back as these frames.
-- Assumes nothing.
use Prim.Native.Nat.{ℕ, zero, suc, ◌+◌, ◌-◌, ◌≤◌, ◌<◌}
use mathlib.Core.Path.{◌≡◌, refl, ap, sym, ◌∙◌}
use mathlib.Core.Logic.{⊎_elim, ◌⊎◌, inl, inr}
use mathlib.Core.Bool.{true, false, cond, not}
use mathlib.Core.List.Memᴰ
use mathlib.Core.List.{List, [], ◌∷◌, ◌++◌, append_assoc, append-nil, flatten, Memᴰ}
use native.Mathlib.Nat.{zero-add, suc-add}
use native.Mathlib.Omega.{arith}
use lib.ListN.{length, take, drop, length-append, take-append-drop}
use lib.Seq.{length-take-le, take_all, take-nil, take-append-le, drop-append_seam}
use lib.Dec.{eqb, ltb}
use borrow.Author.Tests.{ltb-false, lt-ltb, le-ltb, eqb-true, eqb-false, eq-eqb, ne_eqb, not-false}
use Rattle.numbers.specs.Numbers.{uncounted, least_length, most_length}
use Rattle.laws.proofs.Choice.{true_or, or_left, or_right}
use Rattle.wire.specs.Frame.{protocol_of, length_of, misframed}
use Rattle.wire.specs.Splitting.{bad_header, standing_of, size_if, first_frame, frames}
use Rattle.wire.specs.Splitting.{Standing}
use Rattle.wire.specs.Splitting.Standing.{Frame, MoreNeeded, Refused}
use Rattle.laws.proofs.Choice.{cond-first, cond_second}
use Rattle.laws.proofs.ListLaws.{take_part, front_rest}
use Rattle.laws.proofs.ByteLaws.{pair_append}
use Rattle.wire.specs.Plain.{Whole, left}
use Rattle.wire.proofs.FrameLaws.{framed, not-misframed}

-- what a run with a frame at its start is known to be
pub record Starts (r : List ℕ) : Type 0 where
  pub protocol : protocol_of r ≡ 0
  pub least : least_length ≤ length_of r
  pub most : length_of r ≤ most_length
  pub whole : uncounted + length_of r ≤ length r

-- no two outcomes are equal
more_frame : MoreNeeded ≡ Frame → ⊥
more_frame e = let z : ◌≡◌ {A = ℕ} 0 1 = cc in omega arith

refused-frame : Refused ≡ Frame → ⊥
refused-frame e = let z : ◌≡◌ {A = ℕ} 0 1 = cc in omega arith

more_refused : MoreNeeded ≡ Refused → ⊥
more_refused e = let z : ◌≡◌ {A = ℕ} 0 1 = cc in omega arith

-- where a frame stands first, the header is in order and all its bytes are there
pub starts : (r : List ℕ) → standing_of r ≡ Frame → Starts r
unfolding standing_of
starts r e =
    let a = cond_second (ltb (length r) uncounted) MoreNeeded _ Frame more_frame e in
    let b = cond_second (bad_header r) Refused _ Frame refused-frame a.1 in
    let c = cond_second (ltb (length r) (uncounted + length_of r)) MoreNeeded _ Frame more_frame b.1 in
    let d = or_right (not (eqb (protocol_of r) 0)) _ b.0 in
    record {
      protocol = eqb-true (protocol_of r) 0 (not-false _ (or_left (not (eqb (protocol_of r) 0)) _ b.0));
      least = ltb-false (length_of r) least_length (or_left (ltb (length_of r) least_length) _ d);
      most = ltb-false most_length (length_of r) (or_right (ltb (length_of r) least_length) _ d);
      whole = ltb-false (length r) (uncounted + length_of r) c.0;
    }

-- a run of fewer than 6 bytes waits for more
pub short_waits : (r : List ℕ) → length r < uncounted → standing_of r ≡ MoreNeeded
unfolding standing_of
short_waits r h = rw (lt-ltb (length r) uncounted h)

-- with 6 bytes a bad header is refused at once
pub six_decide : (r : List ℕ) → uncounted ≤ length r → bad_header r ≡ true → standing_of r ≡ Refused
unfolding standing_of
six_decide r h b = rw (le-ltb (length r) uncounted h) (rw b refl)

-- behind a good header a frame that is not all there waits for more
pub part_waits : (r : List ℕ) → uncounted ≤ length r → bad_header r ≡ false → length r < uncounted + length_of r → standing_of r ≡ MoreNeeded
unfolding standing_of
part_waits r h b l = rw (le-ltb (length r) uncounted h) (rw b (rw (lt-ltb (length r) (uncounted + length_of r) l) refl))

-- behind a good header a frame that is all there stands first
pub whole_stands : (r : List ℕ) → uncounted ≤ length r → bad_header r ≡ false → uncounted + length_of r ≤ length r → standing_of r ≡ Frame
unfolding standing_of
whole_stands r h b l = rw (le-ltb (length r) uncounted h) (rw b (rw (le-ltb (length r) (uncounted + length_of r) l) refl))

-- where the header is in order and all its bytes are there, a frame stands first
pub stands : (r : List ℕ) → Starts r → standing_of r ≡ Frame
stands r h =
    let b : bad_header r ≡ false = rw (eq-eqb (protocol_of r) 0 h.protocol, le-ltb (length_of r) least_length h.least, le-ltb most_length (length_of r) h.most) in
    whole_stands r (omega arith) b h.whole

-- the first frame of a run whose outcome is known
pub first-at : (r : List ℕ) {s : Standing} → standing_of r ≡ s → first_frame r ≡ take (size_if s (uncounted + length_of r)) r
unfolding first_frame
first-at r e = rw e

-- the first frame is as many bytes from the front as the length field says, and 6 more
pub first_taken : (r : List ℕ) → standing_of r ≡ Frame → first_frame r ≡ take (uncounted + length_of r) r
unfolding size_if
first_taken r e = first-at r e

-- the first frame has 6 bytes more than its length field counts
pub first-size : (r : List ℕ) → standing_of r ≡ Frame → length (first_frame r) ≡ uncounted + length_of r
first-size r e = ap length (first_taken r e) ∙ length-take-le (uncounted + length_of r) r (starts r e).whole

size_none : (s : Standing) (n : ℕ) → (s ≡ Frame → ⊥) → size_if s n ≡ 0
unfolding size_if
size_none Frame n h = absurd (h refl)
size_none MoreNeeded n h = refl
size_none Refused n h = refl

-- where no frame stands first, the part is empty
pub first-none : (r : List ℕ) → (standing_of r ≡ Frame → ⊥) → first_frame r ≡ []
unfolding first_frame
first-none r h = rw (size_none (standing_of r) (uncounted + length_of r) h)

-- the first frame is a part of the run: with what is behind it, it is the run
pub first_is_part : (r : List ℕ) → first_frame r ++ drop (length (first_frame r)) r ≡ r
unfolding first_frame
first_is_part r = take_part (size_if (standing_of r) (uncounted + length_of r)) r

-- a run that is refused has at least 6 bytes and a bad header
pub refused : (r : List ℕ) → standing_of r ≡ Refused → (uncounted ≤ length r) × (bad_header r ≡ true)
unfolding standing_of
refused r e =
    let a = cond_second (ltb (length r) uncounted) MoreNeeded _ Refused more_refused e in
    let whole = ltb (length r) (uncounted + length_of r) in
    let b = cond-first (bad_header r) Refused (cond whole MoreNeeded Frame) Refused (λ q. refused-frame (sym (cond_second whole MoreNeeded Frame Refused more_refused q).1)) a.1 in
    (ltb-false (length r) uncounted a.0, b.0)

-- a frame that stands first still does when more bytes come, and it is the same frame
pub frame_stays : (r more : List ℕ) → standing_of r ≡ Frame → (standing_of (r ++ more) ≡ Frame) × (first_frame (r ++ more) ≡ first_frame r)
frame_stays r more e =
    let h = starts r e in
    let p = pair_append r more 2 (omega arith) in
    let l = pair_append r more 4 (omega arith) in
    let s = stands (r ++ more) (record { protocol = p ∙ h.protocol; least = rw l h.least; most = rw l h.most; whole = rw l (omega (arith, length-append r more)) }) in
    (s, first_taken (r ++ more) s ∙ rw (l, take-append-le (uncounted + length_of r) r more h.whole) (sym (first_taken r e)))

-- a header that is refused stays refused when more bytes come
pub refusal_stays : (r more : List ℕ) → standing_of r ≡ Refused → standing_of (r ++ more) ≡ Refused
refusal_stays r more e =
    let h = refused r e in
    let six = h.0 in
    let b : bad_header (r ++ more) ≡ true = rw (pair_append r more 2 (omega arith), pair_append r more 4 (omega arith)) h.1 in
    six_decide (r ++ more) (omega (arith, length-append r more)) b

-- a list that is not refused as a frame stands first in itself, whole
pub whole_alone : (f : List ℕ) → misframed f ≡ false → (standing_of f ≡ Frame) × (first_frame f ≡ f)
whole_alone f e =
    let h = framed f e in
    let s = stands f (record { protocol = h.protocol; least = omega arith; most = omega arith; whole = omega arith }) in
    (s, first_taken f s ∙ take_all (uncounted + length_of f) f (omega arith))

-- a list that is not refused as a frame is the first frame of every run that begins with it
pub whole_is_first : (f rest : List ℕ) → misframed f ≡ false → (standing_of (f ++ rest) ≡ Frame) × (first_frame (f ++ rest) ≡ f)
whole_is_first f rest e =
    let a = whole_alone f e in
    let b = frame_stays f rest a.0 in
    (b.0, b.1 ∙ a.1)

-- the first frame of a run is not refused as a frame
pub first_is_whole : (r : List ℕ) → standing_of r ≡ Frame → misframed (first_frame r) ≡ false
first_is_whole r e =
    let h = starts r e in
    let n = uncounted + length_of r in
    let l = length-take-le n r h.whole in
    let p = rw (take-append-drop n r) at (pair_append (take n r) (drop n r) 2 (omega arith)) in
    let q = rw (take-append-drop n r) at (pair_append (take n r) (drop n r) 4 (omega arith)) in
    rw (first_taken r e) (not-misframed (take n r) (record { least = omega arith; most = omega arith; protocol = sym p ∙ h.protocol; counted = omega arith }))

-- a whole frame is split off and the splitting goes on behind it
pub frames-step : (n : ℕ) (f rest : List ℕ) → misframed f ≡ false → frames (suc n) (f ++ rest) ≡ f ∷ frames n rest
unfolding frames
frames-step n f rest e =
    let h = framed f e in
    rw (whole_is_first f rest e).1 (rw (ne_eqb (length f) 0 (λ z. omega arith), drop-append_seam f rest))

-- where no frame stands first nothing is split off
pub frames-none : (n : ℕ) (r : List ℕ) → first_frame r ≡ [] → frames n r ≡ []
unfolding frames
frames-none zero r e = refl
frames-none (suc n) r e = rw e

-- frames in a row are split off one by one, and then what is behind them is split
pub frames_on : (fs : List (List ℕ)) (m : ℕ) (rest : List ℕ) → Whole fs → frames (length fs + m) (flatten fs ++ rest) ≡ fs ++ frames m rest
unfolding flatten
frames_on [] m rest h = rw (zero-add m)
frames_on (f ∷ fs) m rest h =
    rw (suc-add (length fs) m, append_assoc f (flatten fs) rest)
    (frames-step (length fs + m) f (flatten fs ++ rest) (h f (Memᴰ.head refl)) ∙ ap (f ∷◌) (frames_on fs m rest (λ g i. h g (Memᴰ.tail i))))

-- frames in a row, and behind them anything in which no frame stands first, are split into these frames, and that rest is left
pub frames_back_rest : (fs : List (List ℕ)) (n : ℕ) (rest : List ℕ) → Whole fs → length fs ≤ n → first_frame rest ≡ [] → (frames n (flatten fs ++ rest) ≡ fs) × (left n (flatten fs ++ rest) ≡ rest)
frames_back_rest fs n rest h l e =
    let k : n ≡ length fs + (n - length fs) = omega arith in
    let b : frames n (flatten fs ++ rest) ≡ fs = rw k (frames_on fs (n - length fs) rest h ∙ rw (frames-none (n - length fs) rest e) (append-nil fs)) in
    (b, rw (b, drop-append_seam (flatten fs) rest))

-- nothing stands first in an empty run
pub first-empty : first_frame [] ≡ []
unfolding first_frame
first-empty = take-nil (size_if (standing_of []) (uncounted + length_of []))

-- a run of frames is split into these frames and used up
pub frames_back : (fs : List (List ℕ)) → Whole fs → (frames (length fs) (flatten fs) ≡ fs) × (left (length fs) (flatten fs) ≡ [])
frames_back fs h = rw (append-nil (flatten fs)) at (frames_back_rest fs (length fs) [] h (omega arith) first-empty)

-- what was split off and what is left are the run, whatever it holds
pub frames_are_part : (n : ℕ) (r : List ℕ) → flatten (frames n r) ++ left n r ≡ r
unfolding frames flatten
frames_are_part zero r = refl
frames_are_part (suc n) r =
    let f = first_frame r in
    let behind = drop (length f) r in
    let fs = frames n behind in
    ⊎_elim
    (λ (t : eqb (length f) 0 ≡ true). rw t)
    (λ (t : eqb (length f) 0 ≡ false). rw t (front_rest (f ++ flatten fs) (left n behind) r (append_assoc f (flatten fs) (left n behind) ∙ rw (frames_are_part n behind) (first_is_part r))))
    (true_or (eqb (length f) 0))

-- a frame stands first or not
frame_or : (s : Standing) → (s ≡ Frame) ⊎ (s ≡ Frame → ⊥)
frame_or Frame = inl refl
frame_or MoreNeeded = inr more_frame
frame_or Refused = inr refused-frame

-- a first part that is not empty is not refused as a frame
first_or_none : (r : List ℕ) → eqb (length (first_frame r)) 0 ≡ false → misframed (first_frame r) ≡ false
first_or_none r t =
    ⊎_elim
    (λ (e : standing_of r ≡ Frame). first_is_whole r e)
    (λ (e : standing_of r ≡ Frame → ⊥). absurd (eqb-false (length (first_frame r)) 0 t (ap length (first-none r e))))
    (frame_or (standing_of r))

-- every list that was split off is not refused as a frame
pub frames_are_whole : (n : ℕ) (r : List ℕ) → Whole (frames n r)
unfolding frames
frames_are_whole zero r f i = absurd (Memᴰ.not-nil i)
frames_are_whole (suc n) r f i =
    ⊎_elim
    (λ (t : eqb (length (first_frame r)) 0 ≡ true). absurd (Memᴰ.not-nil (rw t at i)))
    (λ (t : eqb (length (first_frame r)) 0 ≡ false). ⊎_elim
    (λ (e : f ≡ first_frame r). rw e (first_or_none r t))
    (λ (j : Memᴰ f (frames n (drop (length (first_frame r)) r))). frames_are_whole n (drop (length (first_frame r)) r) f j)
    (Memᴰ.cases_cons (rw t at i)))
    (true_or (eqb (length (first_frame r)) 0))
