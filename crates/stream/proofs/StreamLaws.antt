-- What one call on a stream does: the bytes taken so far are the frames yielded so far with the bytes kept behind them.
-- Assumes nothing.
use Prim.Native.Nat.{ℕ, ◌+◌, ◌-◌, ◌≤◌, ◌<◌}
use mathlib.Core.Path.{◌≡◌, refl, ap, sym, ◌∙◌}
use mathlib.Core.Logic.{⊎_elim}
use mathlib.Core.Bool.{true, false, not}
use mathlib.Core.List.Memᴰ
use mathlib.Core.List.{List, [], ◌∷◌, ◌++◌, append_assoc, append-nil, flatten, Memᴰ}
use native.Mathlib.Omega.{arith}
use lib.ListN.{length, take, drop, take-append-drop}
use lib.Seq.{length-take-le, take-length, take-append-add, take-append_seam}
use lib.Dec.{ltb, eqb}
use borrow.Author.Tests.{ltb-false, lt-ltb, le-ltb}
use Rattle.numbers.specs.Numbers.{uncounted, frame_buffer, least_length, most_length, most_frame}
use Rattle.laws.proofs.Choice.{true_or, lt_or, or_right}
use Rattle.laws.proofs.ByteLaws.{pair_append}
use Rattle.wire.specs.Frame.{protocol_of, length_of, misframed}
use Rattle.wire.specs.Splitting.{bad_header, standing_of, first_frame}
use Rattle.wire.specs.Splitting.{Standing}
use Rattle.wire.specs.Splitting.Standing.{Frame, MoreNeeded, Refused}
use Rattle.wire.specs.Plain.{Whole}
use Rattle.wire.proofs.SplittingLaws.{starts, stands, refused as is_refused_lem, six_decide, short_waits, whole_stands, first_taken, first-size, first_is_whole}
use Rattle.stream.specs.Stream.{Stream, refused, take_outcome, found, took}
use Rattle.stream.specs.Hosts.{Fed, start, with}
use Rattle.stream.specs.Plain.{Reads}

pub more_frame : MoreNeeded ≡ Frame → ⊥
more_frame e = let z : ◌≡◌ {A = ℕ} 0 1 = cc in omega arith

pub more_refused : MoreNeeded ≡ Refused → ⊥
more_refused e = let z : ◌≡◌ {A = ℕ} 0 1 = cc in omega arith

pub unmarked : false ≡ true → ⊥
unmarked e = let z : ◌≡◌ {A = ℕ} 0 1 = cc in omega arith

-- a frame that stands first in a run ends behind any part of the run that still waited
pub frame_ends_behind : (k p : List ℕ) → standing_of k ≡ MoreNeeded → standing_of (k ++ p) ≡ Frame → length k < length (first_frame (k ++ p))
frame_ends_behind k p w e =
    let h = starts (k ++ p) e in
    let n = first-size (k ++ p) e in
    ⊎_elim
    (λ (b : length k < length (first_frame (k ++ p))). b)
    (λ (b : length (first_frame (k ++ p)) ≤ length k).
    let a = pair_append k p 2 (omega arith) in
    let l = pair_append k p 4 (omega arith) in
    absurd (more_frame (sym w ∙ stands k (record { protocol = sym a ∙ h.protocol; least = rw l at h.least; most = rw l at h.most; whole = omega arith }))))
    (lt_or (length k) (length (first_frame (k ++ p))))

-- and that part with so many bytes more is the frame
pub frame_is_taken : (k p : List ℕ) → standing_of k ≡ MoreNeeded → standing_of (k ++ p) ≡ Frame
    → k ++ take (length (first_frame (k ++ p)) - length k) p ≡ first_frame (k ++ p)
frame_is_taken k p w e =
    let n = length (first_frame (k ++ p)) in
    let b = frame_ends_behind k p w e in
    let s = first-size (k ++ p) e in
    let t : n ≡ length k + (n - length k) = omega arith in
    sym (take-append-add k p (n - length k)) ∙ ap (λ m. take m (k ++ p)) (sym t ∙ s) ∙ sym (first_taken (k ++ p) e)

-- a header that is refused was not there whole in any part of the run that still waited
pub refusal_is_new : (k p : List ℕ) → standing_of k ≡ MoreNeeded → standing_of (k ++ p) ≡ Refused → length k < uncounted
refusal_is_new k p w e =
    let h = (is_refused_lem (k ++ p) e).1 in
    ⊎_elim
    (λ (b : length k < uncounted). b)
    (λ (b : uncounted ≤ length k).
    let c : bad_header k ≡ true = rw (pair_append k p 2 (omega arith), pair_append k p 4 (omega arith)) at h in
    absurd (more_refused (sym w ∙ six_decide k b c)))
    (lt_or (length k) uncounted)

-- that part with the bytes up to the sixth
pub six_are_taken : (k p : List ℕ) → length k < uncounted → take uncounted (k ++ p) ≡ k ++ take (uncounted - length k) p
six_are_taken k p l = let t : uncounted ≡ length k + (uncounted - length k) = omega arith in ap (λ m. take m (k ++ p)) t ∙ take-append-add k p (uncounted - length k)

-- the first six bytes of a refused run are refused
pub six_are_bad : (r : List ℕ) → standing_of r ≡ Refused → (length (take uncounted r) ≡ uncounted) × (standing_of (take uncounted r) ≡ Refused)
six_are_bad r e =
    let h = is_refused_lem r e in
    let l = length-take-le uncounted r h.0 in
    let p = rw (take-append-drop uncounted r) at (pair_append (take uncounted r) (drop uncounted r) 2 (omega arith)) in
    let q = rw (take-append-drop uncounted r) at (pair_append (take uncounted r) (drop uncounted r) 4 (omega arith)) in
    let c : bad_header (take uncounted r) ≡ true = rw (← p, ← q) h.1 in
    (l, six_decide (take uncounted r) (omega arith) c)

-- a run of 260 bytes never waits for more
pub waits_short : (r : List ℕ) → standing_of r ≡ MoreNeeded → length r < most_frame
waits_short r e =
    ⊎_elim
    (λ (b : length r < most_frame). b)
    (λ (b : most_frame ≤ length r). ⊎_elim
    (λ (h : bad_header r ≡ true). absurd (more_refused (sym e ∙ six_decide r (omega arith) h)))
    (λ (h : bad_header r ≡ false).
    let m = ltb-false most_length (length_of r) (or_right (ltb (length_of r) least_length) _ (or_right (not (eqb (protocol_of r) 0)) _ h)) in
    absurd (more_frame (sym e ∙ whole_stands r (omega arith) h (omega arith))))
    (true_or (bad_header r)))
    (lt_or (length r) most_frame)

-- a list of frames and one more
whole_more : (fs : List (List ℕ)) (f : List ℕ) → Whole fs → misframed f ≡ false → Whole (fs ++ (f ∷ []))
whole_more fs f h e g i =
    ⊎_elim (λ (j : Memᴰ g fs). h g j) (λ (j : Memᴰ g (f ∷ [])). rw (Memᴰ.eq_of_singleton j) e) (Memᴰ.append_cases fs i)

pub flatten_more : (fs : List (List ℕ)) (f : List ℕ) → flatten (fs ++ (f ∷ [])) ≡ flatten fs ++ f
unfolding flatten
flatten_more [] f = append-nil f
flatten_more (g ∷ fs) f = ap (λ t. g ++ t) (flatten_more fs f) ∙ sym (append_assoc g (flatten fs) f)

-- a stream for a new connection has read nothing
pub reads_nothing : Reads start
unfolding flatten
reads_nothing = record { whole = λ f i. absurd (Memᴰ.not-nil i); parts = refl; stands = short_waits [] (omega arith); six = λ z. absurd (unmarked z) }

-- a call that takes nothing and leaves the stream
pub reads_on : (f : Fed) (p : List ℕ) (n : ℕ) (o : List ℕ) → Reads f → Reads (with f p (take_outcome (refused n 0) f.after o))
reads_on f p n o h = record { whole = rw (append-nil f.frames) h.whole; parts = rw (append-nil f.frames, append-nil f.bytes) h.parts; stands = h.stands; six = h.six }

-- a call on a stream that still waits
pub found_reads : (f : Fed) (p o : List ℕ) → f.after.marked ≡ false → Reads f → (v : Standing) → standing_of (f.after.kept ++ p) ≡ v → Reads (with f p (found f.after.kept p o v))
unfolding found
found_reads f p o m h Frame e =
    let k = f.after.kept in
    let g = first_frame (k ++ p) in
    let w : standing_of k ≡ MoreNeeded = rw m at h.stands in
    rw (take-append_seam g (drop (length g) o)) (record {
      whole = whole_more f.frames g h.whole (first_is_whole (k ++ p) e);
      parts = append-nil (flatten (f.frames ++ (g ∷ []))) ∙ flatten_more f.frames g ∙ ap (λ t. flatten f.frames ++ t) (sym (frame_is_taken k p w e)) ∙ sym (append_assoc (flatten f.frames) k _) ∙ ap (λ t. t ++ take (length g - length k) p) h.parts;
      stands = reads_nothing.stands;
      six = reads_nothing.six;
    })
found_reads f p o m h MoreNeeded e =
    rw (take-length p, append-nil f.frames) (record {
      whole = h.whole;
      parts = sym (append_assoc (flatten f.frames) f.after.kept p) ∙ ap (λ t. t ++ p) h.parts;
      stands = e;
      six = λ z. absurd (unmarked z);
    })
found_reads f p o m h Refused e =
    let k = f.after.kept in
    let n = refusal_is_new k p (rw m at h.stands) e in
    let b = six_are_bad (k ++ p) e in
    rw (append-nil f.frames) (record {
      whole = h.whole;
      parts = ap (λ x. flatten f.frames ++ x) (six_are_taken k p n) ∙ sym (append_assoc (flatten f.frames) k _) ∙ ap (λ x. x ++ take (uncounted - length k) p) h.parts;
      stands = b.1;
      six = λ z. b.0;
    })

-- a short buffer is refusal 1 before all else
pub short_refused : (s : Stream) (p o : List ℕ) → length o < frame_buffer → took s p o ≡ take_outcome (refused 1 0) s o
unfolding took
short_refused s p o l = rw (lt-ltb (length o) frame_buffer l)

-- a stream with the mark refuses again, and takes nothing
pub marked_refused : (s : Stream) (p o : List ℕ) → frame_buffer ≤ length o → s.marked ≡ true → took s p o ≡ take_outcome (refused 4 0) s o
unfolding took
marked_refused s p o l e = rw (le-ltb (length o) frame_buffer l, e)

-- any other looks at what stands first
pub waiting_finds : (s : Stream) (p o : List ℕ) → frame_buffer ≤ length o → s.marked ≡ false → took s p o ≡ found s.kept p o (standing_of (s.kept ++ p))
unfolding took
waiting_finds s p o l e = rw (le-ltb (length o) frame_buffer l, e)

-- a call with any piece over any buffer
pub took_reads : (f : Fed) (p o : List ℕ) → Reads f → Reads (with f p (took f.after p o))
took_reads f p o h =
    ⊎_elim
    (λ (l : length o < frame_buffer). rw (short_refused f.after p o l) (reads_on f p 1 o h))
    (λ (l : frame_buffer ≤ length o). ⊎_elim
    (λ (m : f.after.marked ≡ true). rw (marked_refused f.after p o l m) (reads_on f p 4 o h))
    (λ (m : f.after.marked ≡ false). rw (waiting_finds f.after p o l m) (found_reads f p o m h (standing_of (f.after.kept ++ p)) refl))
    (true_or f.after.marked))
    (lt_or (length o) frame_buffer)
