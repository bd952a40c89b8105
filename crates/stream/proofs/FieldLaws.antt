-- A stream in lent fields: each return of a call over them is one of the definition's outcomes.
-- Assumes nothing.
use Prim.Native.Nat.{ℕ, ◌+◌, ◌-◌, ◌≤◌, ◌<◌, min}
use mathlib.Core.Path.{◌≡◌, refl, ap, sym, ◌∙◌}
use mathlib.Core.Logic.{⊎_elim}
use mathlib.Core.List.{List, [], ◌++◌}
use native.Mathlib.Omega.{arith}
use lib.ListN.{length, take, drop, length-append, length-drop, length-take, take-append-drop}
use lib.Seq.{take_all, take-append-add, length-take-le, take-take}
use borrow.Rule.Slice.PartMut.{put_mid}
use borrow.Author.Tests.{lt-ltb, le-ltb, eq-eqb, ne_eqb}
use Rattle.std.proofs.lemmas.Slice.{take-put_mid}
use Rattle.numbers.specs.Numbers.{uncounted, frame_buffer, most_frame}
use Rattle.laws.specs.Bytes.{over}
use Rattle.laws.proofs.Choice.{lt_or}
use Rattle.wire.specs.Splitting.{standing_of, first_frame}
use Rattle.wire.specs.Splitting.{Standing}
use Rattle.wire.specs.Splitting.Standing.{Frame, MoreNeeded, Refused}
use Rattle.wire.proofs.SplittingLaws.{short_waits, starts, first-size, frame_stays, refused as is_refused_lem, refusal_stays}
use Rattle.stream.specs.Stream.{fresh, refused, framed, wanting, take_outcome, found, took}
use Rattle.stream.specs.Lent.{lent_stream, stream_of, MadeStream, Takes, Filled}
use Rattle.stream.proofs.StreamLaws.{unmarked, frame_ends_behind, refusal_is_new, six_are_bad, waits_short}

-- nothing kept and no mark
pub fresh-made : (b : List ℕ) (k : ℕ) → length b ≡ most_frame → k ≡ 0 → MadeStream (lent_stream b 0 k)
fresh-made b k l z = record { long = l; most = omega arith; stands = rw (eq-eqb k 0 z) (short_waits [] (omega arith)); six = λ y. absurd (unmarked (rw (eq-eqb k 0 z) at y)) }

-- as much of the piece as there is room for
pub filled : (b p : List ℕ) (from n : ℕ) (part : List ℕ) → length b ≡ most_frame → from ≤ most_frame → n ≡ min (length p) (most_frame - from) → part ≡ take n p
    → Filled b from p (from + n) (put_mid from (from + n - from) b part)
filled b p from n part l f m e =
    let a = length-take-le from b (omega arith) in
    let h : length part ≡ n = rw e (length-take-le n p (omega arith)) in
    let z : take n p ≡ take (most_frame - from) p = ⊎_elim
    (λ (t : most_frame - from < length p). let y : n ≡ most_frame - from = omega arith in ap (λ x. take x p) y)
    (λ (t : length p ≤ most_frame - from). take_all n p (omega arith) ∙ sym (take_all (most_frame - from) p t))
    (lt_or (most_frame - from) (length p)) in
    let y : most_frame ≡ length (take from b) + (most_frame - from) = omega arith in
    record {
      run = take-put_mid from (from + n - from) b part (from + n) (omega arith) (omega arith) ∙ ap (λ x. take from b ++ x) (e ∙ z) ∙ sym (take-append-add (take from b) p (most_frame - from)) ∙ ap (λ x. take x (take from b ++ p)) (sym y);
      long = simp (length-append, length-drop) (omega arith);
      fits = omega arith;
      behind = omega arith;
    }

-- what stands first in a run stands first in its first 260 bytes
cut_stands : (r : List ℕ) → standing_of (take most_frame r) ≡ standing_of r
cut_stands r = ⊎_elim
    (λ (b : length r < most_frame). ap standing_of (take_all most_frame r (omega arith)))
    (λ (b : most_frame ≤ length r). by_cases (standing_of (take most_frame r)) refl (length-take-le most_frame r b))
    (lt_or (length r) most_frame)
  where
    by_cases : (v : Standing) → standing_of (take most_frame r) ≡ v → length (take most_frame r) ≡ most_frame → standing_of (take most_frame r) ≡ standing_of r
    by_cases Frame e l = e ∙ sym (rw (take-append-drop most_frame r) at (frame_stays (take most_frame r) (drop most_frame r) e).0)
    by_cases MoreNeeded e l = let h = waits_short (take most_frame r) e in absurd (omega arith)
    by_cases Refused e l = e ∙ sym (rw (take-append-drop most_frame r) at (refusal_stays (take most_frame r) (drop most_frame r) e))

-- a frame has at most 260 bytes
pub most_long : (r : List ℕ) → standing_of r ≡ Frame → length (first_frame r) ≤ most_frame
most_long r e = let q = (starts r e).most in omega (arith, first-size r e)

-- a call over lent fields, by its outcomes: a short buffer,
pub short_comes : (b : List ℕ) (n k : ℕ) (p o : List ℕ) → MadeStream (lent_stream b n k) → length o < frame_buffer → Takes (lent_stream b n k) p o (refused 1 0) (lent_stream b n k) o
unfolding took
short_comes b n k p o s l = record { comes = rw (lt-ltb (length o) frame_buffer l); made = s; left = λ _ _. refl }

-- a mark,
pub stuck_comes : (b : List ℕ) (n k : ℕ) (p o : List ℕ) → MadeStream (lent_stream b n k) → frame_buffer ≤ length o → (k ≡ 0 → ⊥) → Takes (lent_stream b n k) p o (refused 4 0) (lent_stream b n k) o
unfolding took
stuck_comes b n k p o s l h = record { comes = rw (le-ltb (length o) frame_buffer l, ne_eqb k 0 h); made = s; left = λ _ _. refl }

-- a frame that lies whole in the piece,
pub whole_comes : (b : List ℕ) (n k : ℕ) (p o : List ℕ) → MadeStream (lent_stream b n k) → frame_buffer ≤ length o → k ≡ 0 → n ≡ 0 → standing_of p ≡ Frame
    → Takes (lent_stream b n k) p o (framed (length (first_frame p)) (length (first_frame p))) (lent_stream b n k) (over (first_frame p) o)
unfolding took found
whole_comes b n k p o s l z e v =
    let g = first_frame p in
    let m : length g ≡ length g - 0 = omega arith in
    record { comes = rw (e, le-ltb (length o) frame_buffer l, eq-eqb k 0 z) (rw v (ap (λ t. take_outcome (framed (length g) t) fresh (over g o)) m)); made = s; left = λ h _. absurd (h refl) }

-- and, once the piece is written behind the bytes kept, what stands first there
pub record Ready (b : List ℕ) (n k : ℕ) (p o : List ℕ) (end : ℕ) (d : List ℕ) : Type 0 where
  pub made : MadeStream (lent_stream b n k)
  pub long : frame_buffer ≤ length o
  pub none : k ≡ 0
  pub filled : Filled b n p end d

module _ {b : List ℕ} {n k : ℕ} {p o : List ℕ} {end : ℕ} {d : List ℕ} (h : Ready b n k p o end d) where
  abbrev f : Filled b n p end d
  f = h.filled

  abbrev run : List ℕ
  run = take n b ++ p

  waits : standing_of (take n b) ≡ MoreNeeded
  waits = rw (eq-eqb k 0 h.none) at h.made.stands

  had : length (take n b) ≡ n
  had = let a = h.made.most in let c = h.made.long in length-take-le n b (omega arith)

  in_run : (v : Standing) → standing_of (take end d) ≡ v → standing_of run ≡ v
  in_run v e = sym (cut_stands run) ∙ ap standing_of (sym f.run) ∙ e

  found_is : (v : Standing) → standing_of (take end d) ≡ v → took (stream_of (lent_stream b n k)) p o ≡ found (take n b) p o v
  unfolding took
  found_is v e = rw (le-ltb (length o) frame_buffer h.long, eq-eqb k 0 h.none) (ap (found (take n b) p o) (in_run v e))

  first_is : standing_of (take end d) ≡ Frame → first_frame run ≡ first_frame (take end d)
  first_is e =
      let c : standing_of (take most_frame run) ≡ Frame = ap standing_of (sym f.run) ∙ e in
      rw (take-append-drop most_frame run) at (frame_stays (take most_frame run) (drop most_frame run) c).1 ∙ ap first_frame (sym f.run)

  -- how long the frame is
  pub frame-long : standing_of (take end d) ≡ Frame → (n ≤ length (first_frame (take end d))) × (length (first_frame (take end d)) ≤ most_frame)
  frame-long e =
      let a = rw (had, first_is e) at (frame_ends_behind (take n b) p waits (in_run Frame e)) in
      (omega arith, most_long (take end d) e)

  pub frame_comes : standing_of (take end d) ≡ Frame
      → Takes (lent_stream b n k) p o (framed (length (first_frame (take end d))) (length (first_frame (take end d)) - n)) (lent_stream d 0 k) (over (first_frame (take end d)) o)
  unfolding found
  frame_comes e =
      record {
        comes = sym (found_is Frame e ∙ rw (first_is e, had, eq-eqb k 0 h.none) refl);
        made = fresh-made d k f.long h.none;
        left = λ y _. absurd (y refl);
      }

  pub more_comes : standing_of (take end d) ≡ MoreNeeded → Takes (lent_stream b n k) p o (wanting (end - n)) (lent_stream d end k) o
  unfolding found
  more_comes e =
      let q = waits_short (take end d) e in
      let v = length-take-le end d (omega (arith, f.long, f.fits)) in
      let w = take_all most_frame run (omega (arith, ap length f.run, length-take most_frame run)) in
      let u : take end d ≡ run = f.run ∙ w in
      let x : end - n ≡ length p = omega (arith, ap length u, length-append (take n b) p, had) in
      record {
        comes = sym (found_is MoreNeeded e ∙ rw (← u, ← x, eq-eqb k 0 h.none) refl);
        made = record { long = f.long; most = omega arith; stands = rw (eq-eqb k 0 h.none) e; six = λ y. absurd (unmarked (rw (eq-eqb k 0 h.none) at y)) };
        left = λ y _. absurd (y refl);
      }

  pub bad_new : standing_of (take end d) ≡ Refused → n < uncounted
  bad_new e = rw had at (refusal_is_new (take n b) p waits (in_run Refused e))

  pub bad_comes : standing_of (take end d) ≡ Refused → Takes (lent_stream b n k) p o (refused 4 (uncounted - n)) (lent_stream d uncounted 1) o
  unfolding found
  bad_comes e =
      let a = (is_refused_lem (take end d) e).0 in
      let v = length-take-le end d (omega (arith, f.long, f.fits)) in
      let q : take uncounted run ≡ take uncounted d = sym (take-take uncounted most_frame run (omega arith)) ∙ ap (take uncounted) (sym f.run) ∙ take-take uncounted end d (omega arith) in
      let c = (six_are_bad (take end d) e).1 in
      let new = bad_new e in
      record {
        comes = sym (found_is Refused e ∙ rw (q, had) refl);
        made = record { long = f.long; most = omega arith; stands = rw (take-take uncounted end d (omega arith)) at c; six = λ y. refl };
        left = λ _ (y : uncounted - n ≡ 0). absurd (omega arith);
      }
