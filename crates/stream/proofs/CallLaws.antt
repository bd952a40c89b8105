-- A call on a stream in plain words: what is kept, what is taken, which refusal is said, and the one refusal that does not leave the stream as it was.
-- Assumes nothing.
use prog.Memory.{size}
use Prim.Native.Nat.{ℕ, ◌≤◌, ◌<◌}
use mathlib.Core.Path.{◌≡◌, refl, ap, sym, ◌∙◌}
use mathlib.Core.Logic.{⊎_elim, ◌⊎◌, inl, inr}
use mathlib.Core.Bool.{Bool, true, false, cond, ◌||◌}
use mathlib.Core.List.{List, [], ◌∷◌, ◌++◌, append-nil}
use native.Mathlib.Omega.{arith}
use lib.ListN.{length, length-append}
use lib.Dec.{ltb}
use Rattle.numbers.specs.Numbers.{frame_buffer}
use Rattle.laws.proofs.Choice.{true_or, lt_or}
use Rattle.wire.specs.Splitting.{standing_of}
use Rattle.wire.specs.Splitting.{Standing}
use Rattle.wire.specs.Splitting.Standing.{Frame, MoreNeeded, Refused}
use Rattle.wire.proofs.SplittingLaws.{starts, first-size, refused as is_refused_lem}
use Rattle.stream.specs.Stream.{Stream, stream, refused, TakeOutcome, take_outcome, found, took}
use Rattle.stream.specs.Hosts.{Fed, start, with, Offer, calls, is_bad}
use Rattle.stream.specs.Lent.{stream_of, MadeStream, Takes, Resets}
use Rattle.stream.specs.Lives.{Line, came, offers_of, Lived, heard}
use Rattle.stream.specs.Lives.Lived.{none, then}
use Rattle.stream.specs.declared.Taken.{Taken}
use Rattle.stream.specs.declared.LentStream.{LentStream}
use Rattle.stream.specs.Plain.{Reads, SetsTheMark}
use Rattle.stream.proofs.LentStream.TheLaws as lent_stream
use Rattle.stream.proofs.Taken.TheLaws as taken
use Rattle.stream.proofs.StreamLaws.{unmarked, frame_ends_behind, refusal_is_new, six_are_taken, six_are_bad, waits_short, short_refused, marked_refused, waiting_finds}
use Rattle.stream.proofs.CuttingLaws.{any_calls_read}

-- which refusal a call says: 1 for a buffer of fewer than 260 bytes, before all else; 4 where the mark is set, or a bad header has come
pub refusal_exactly : (s : Stream) (p o : List ℕ) → (took s p o).says.refusal ≡ cond (ltb (length o) 260) 1 (cond (s.marked || is_bad (standing_of (s.kept ++ p))) 4 0)
unfolding took found is_bad
refusal_exactly s p o = by_short (ltb (length o) 260)
  where
    by-split : (v : Standing) → (found s.kept p o v).says.refusal ≡ cond (is_bad v) 4 0
    by-split Frame = refl
    by-split MoreNeeded = refl
    by-split Refused = refl

    by_mark : (b : Bool) → (cond b (take_outcome (refused 4 0) s o) (found s.kept p o (standing_of (s.kept ++ p)))).says.refusal ≡ cond (b || is_bad (standing_of (s.kept ++ p))) 4 0
    by_mark true = refl
    by_mark false = by-split (standing_of (s.kept ++ p))

    by_short : (b : Bool) → (cond b (take_outcome (refused 1 0) s o) (cond s.marked (take_outcome (refused 4 0) s o) (found s.kept p o (standing_of (s.kept ++ p))))).says.refusal ≡ cond b 1 (cond (s.marked || is_bad (standing_of (s.kept ++ p))) 4 0)
    by_short true = refl
    by_short false = by_mark s.marked

-- what is said of a call that is offered p
record Tells (s : Stream) (p o : List ℕ) (d : TakeOutcome) : Type 0 where
  -- it takes no more than there is
  fits : d.says.taken ≤ length p
  -- a refusal leaves the buffer, and the stream but where it sets the mark
  leaves : (d.says.refusal ≡ 0 → ⊥) → (d.written ≡ o) × ((d.after ≡ s) ⊎ SetsTheMark s p d)
  -- where the mark is not set and the buffer is long enough, something is taken of a piece that is not empty
  uses : s.marked ≡ false → frame_buffer ≤ length o → 0 < length p → 0 < d.says.taken

found-tells : (s : Stream) (p o : List ℕ) → s.marked ≡ false → standing_of s.kept ≡ MoreNeeded → (v : Standing) → standing_of (s.kept ++ p) ≡ v → Tells s p o (found s.kept p o v)
unfolding found
found-tells s p o m w Frame e =
    let h = (starts (s.kept ++ p) e).whole in
    let b = frame_ends_behind s.kept p w e in
    record { fits = omega (arith, first-size (s.kept ++ p) e, length-append s.kept p); leaves = λ n. absurd (n refl); uses = λ _ _ _. omega arith }
found-tells s p o m w MoreNeeded e = record { fits = omega arith; leaves = λ n. absurd (n refl); uses = λ _ _ l. l }
found-tells s p o m w Refused e =
    let h = (is_refused_lem (s.kept ++ p) e).0 in
    let b = refusal_is_new s.kept p w e in
    let a = six_are_bad (s.kept ++ p) e in
    record {
      fits = omega (arith, length-append s.kept p);
      leaves = λ _. (refl, inr (record { four = refl; brought = omega arith; unmarked = m; marked = refl; kept = six_are_taken s.kept p b; six = a.0; bad = (is_refused_lem _ a.1).1 }));
      uses = λ _ _ _. omega arith;
    }

took-tells : (f : Fed) (p o : List ℕ) → Reads f → Tells f.after p o (took f.after p o)
took-tells f p o h =
    ⊎_elim
    (λ (l : length o < frame_buffer). rw (short_refused f.after p o l) (record { fits = omega arith; leaves = λ _. (refl, inl refl); uses = λ _ (k : frame_buffer ≤ length o) _. absurd (omega arith) }))
    (λ (l : frame_buffer ≤ length o). ⊎_elim
    (λ (m : f.after.marked ≡ true). rw (marked_refused f.after p o l m) (record { fits = omega arith; leaves = λ _. (refl, inl refl); uses = λ z _ _. absurd (unmarked (sym z ∙ m)) }))
    (λ (m : f.after.marked ≡ false). rw (waiting_finds f.after p o l m) (found-tells f.after p o m (rw m at h.stands) (standing_of (f.after.kept ++ p)) refl))
    (true_or f.after.marked))
    (lt_or (length o) frame_buffer)

-- whatever calls were made since the reset, with whatever pieces and buffers
module _ (xs : List Offer) where
  abbrev now : Stream
  now = (calls start xs).after

  -- at most 259 bytes are kept
  pub at_most_259 : length now.kept ≤ 259
  at_most_259 =
      let h = any_calls_read xs in
      ⊎_elim
      (λ (m : now.marked ≡ true). let l = h.six m in omega arith)
      (λ (m : now.marked ≡ false). let l = waits_short now.kept (rw m at h.stands) in omega arith)
      (true_or now.marked)

  -- a call takes no more than its piece has
  pub takes_no_more : (p o : List ℕ) → (took now p o).says.taken ≤ length p
  takes_no_more p o = (took-tells (calls start xs) p o (any_calls_read xs)).fits

  -- A refusal leaves every byte of the buffer, and the stream as it was. The one exception is the refusal 4 that sets the mark, and takes the bytes up to it.
  pub a_refusal_leaves_the_stream : (p o : List ℕ) → ((took now p o).says.refusal ≡ 0 → ⊥) → ((took now p o).written ≡ o) × (((took now p o).after ≡ now) ⊎ SetsTheMark now p (took now p o))
  a_refusal_leaves_the_stream p o = (took-tells (calls start xs) p o (any_calls_read xs)).leaves

  -- a host that offers the rest again comes to an end of its piece
  pub uses_up : (p o : List ℕ) → now.marked ≡ false → frame_buffer ≤ length o → 0 < length p → 0 < (took now p o).says.taken
  uses_up p o = (took-tells (calls start xs) p o (any_calls_read xs)).uses

  -- an empty piece changes nothing: what is kept stays, and so does the mark
  pub an_empty_piece_changes_nothing : (o : List ℕ) → ((took now [] o).after ≡ now) × ((took now [] o).written ≡ o) × ((took now [] o).says.taken ≡ 0)
  unfolding found
  an_empty_piece_changes_nothing o =
      ⊎_elim
      (λ (l : length o < frame_buffer). rw (short_refused now [] o l) (refl, refl, refl))
      (λ (l : frame_buffer ≤ length o). ⊎_elim
      (λ (m : now.marked ≡ true). rw (marked_refused now [] o l m) (refl, refl, refl))
      (λ (m : now.marked ≡ false).
      let w : standing_of (now.kept ++ []) ≡ MoreNeeded = rw (append-nil now.kept) (rw m at (any_calls_read xs).stands) in
      rw (waiting_finds now [] o l m ∙ ap (found now.kept [] o) w) ((λ i. stream (append-nil now.kept i) (sym m i)), refl, refl))
      (true_or now.marked))
      (lt_or (length o) frame_buffer)

-- a lent stream that these calls made keeps at most 259 bytes, as many as its count says
pub made_keeps : (i : LentStream) → MadeStream i → (i.count ≤ 259) × (length i.bytes ≡ 260)
made_keeps i h = let l = h.most in (omega arith, h.long)

-- a lent stream, and what a call on it answers, have the sizes in memory of zb_stream and zb_taken
pub stream-size : size lent_stream.mir ≡ 268
stream-size = refl

pub taken_size : size taken.mir ≡ 16
taken_size = refl

-- a line of the life of a lent stream that goes on from f came as the definition says
pub line-took : (f : Fed) {i : LentStream} (x : Line) → f.after ≡ stream_of i → Takes i x.offer.piece x.offer.buffer x.says x.after x.written
    → came x ≡ took f.after x.offer.piece x.offer.buffer
line-took f x e t = t.comes ∙ ap (λ s. took s x.offer.piece x.offer.buffer) (sym e)

-- so the host hears what the calls come to
lives : {i : LentStream} {ls : List Line} (f : Fed) → f.after ≡ stream_of i → Lived i ls → heard f ls ≡ calls f (offers_of ls)
unfolding heard calls
lives f e none = refl
lives {ls = x ∷ ls} f e (then t l) = lives (with f x.offer.piece (came x)) refl l ∙ ap (λ d. calls (with f x.offer.piece d) (offers_of ls)) (line-took f x e t)

-- Whatever calls a host makes of a stream that it lends, after the reset: the frames, the bytes taken, the refusals and the stream are those of the definition. So what is said of any
-- calls is said of the exported functions.
pub a_lent_stream_lives : {r : Taken} {i : LentStream} {ls : List Line} → Resets r i → Lived i ls → heard start ls ≡ calls start (offers_of ls)
a_lent_stream_lives h l = lives start (sym h.after) l
