-- Any cutting of the same bytes yields the frames, and the refusal at the bad header's sixth byte, that the uncut run yields.
-- Assumes nothing.
use Prim.Native.Nat.{ℕ, zero, suc, ◌-◌, ◌≤◌, ◌<◌}
use mathlib.Core.Path.{◌≡◌, refl, ap, sym, subst, ◌∙◌}
use mathlib.Core.Logic.{⊎_elim}
use mathlib.Core.Bool.{Bool, true, false, cond}
use mathlib.Core.List.Memᴰ
use mathlib.Core.List.{List, [], ◌∷◌, ◌++◌, append_assoc, append-nil, flatten}
use native.Mathlib.Omega.{arith}
use lib.ListN.{length, take, drop, length-append, length-drop, take-append-drop}
use lib.Seq.{take-append-le, take-length}
use Rattle.numbers.specs.Numbers.{uncounted, frame_buffer}
use Rattle.laws.proofs.Choice.{true_or}
use Rattle.wire.proofs.FrameLaws.{framed as is_framed}
use Rattle.wire.specs.Splitting.{standing_of, frames}
use Rattle.wire.specs.Splitting.{Standing}
use Rattle.wire.specs.Splitting.Standing.{Frame, MoreNeeded, Refused}
use Rattle.wire.specs.Plain.{Whole}
use Rattle.wire.proofs.SplittingLaws.{starts, first-size, first-none, refusal_stays, frames_back_rest}
use Rattle.stream.specs.Stream.{stream, TakeOutcome, found, took}
use Rattle.stream.specs.Hosts.{Fed, start, again, with, Offer, calls, Lends, drained, pieces, is_bad, remains, is_refused, kept_of, uncut}
use Rattle.stream.specs.Lent.{stood}
use Rattle.stream.specs.Plain.{Reads}
use Rattle.stream.proofs.StreamLaws.{more_frame, unmarked, frame_ends_behind, marked_refused, waiting_finds, flatten_more, reads_nothing, reads_on, found_reads, took_reads}

-- there are no more frames than bytes
few : (fs : List (List ℕ)) → Whole fs → length fs ≤ length (flatten fs)
unfolding flatten
few [] h = omega arith
few (f ∷ fs) h =
    let a = (is_framed f (h f (Memᴰ.head refl))).least in
    let b = few fs (λ g i. h g (Memᴰ.tail i)) in
    omega (arith, length-append f (flatten fs))

bad_stood : (b : Bool) → is_bad (stood b) ≡ b
unfolding is_bad
bad_stood true = refl
bad_stood false = refl

-- what was taken, and the rest of the bytes that were offered: a run, whose rest is nothing but behind a bad header
pub record Cut (r : List ℕ) (f : Fed) : Type 0 where
  pub reads : Reads f
  pub rest : List ℕ
  pub parts : f.bytes ++ rest ≡ r
  pub all : f.after.marked ≡ false → rest ≡ []

-- what the uncut run yields of it
record Agrees (f u : Fed) : Type 0 where
  frames : f.frames ≡ u.frames
  bytes : f.bytes ≡ u.bytes
  after : f.after ≡ u.after

cut_agrees : (r : List ℕ) (f : Fed) → Cut r f → (is_refused r ≡ f.after.marked) × Agrees f (uncut r)
unfolding uncut
cut_agrees r f c =
    let h = c.reads in
    let k = f.after.kept in
    let e : flatten f.frames ++ (k ++ c.rest) ≡ r = sym (append_assoc (flatten f.frames) k c.rest) ∙ ap (λ t. t ++ c.rest) h.parts ∙ c.parts in
    let n = few f.frames h.whole in
    let v = stays f.after.marked refl in
    let b = rw e at (frames_back_rest f.frames (length r) (k ++ c.rest) h.whole (omega (arith, ap length e, length-append (flatten f.frames) (k ++ c.rest))) (first-none (k ++ c.rest) (λ q. other f.after.marked (sym v ∙ q)))) in
    let m : is_refused r ≡ f.after.marked = ap (λ x. is_bad (standing_of x)) b.1 ∙ ap is_bad v ∙ bad_stood f.after.marked in
    let w : kept_of r ≡ k = ap (λ x. cond x (take uncounted (remains r)) (remains r)) m ∙ ap (λ x. cond f.after.marked (take uncounted x) x) b.1 ∙ back f.after.marked refl in
    (m, record { frames = sym b.0; bytes = sym h.parts ∙ ap (λ x. flatten x ++ k) (sym b.0) ∙ ap (λ x. flatten (frames (length r) r) ++ x) (sym w); after = λ i. stream (sym w i) (sym m i) })
  where
    other : (b : Bool) → stood b ≡ Frame → ⊥
    other true e = let z : ◌≡◌ {A = ℕ} 0 1 = cc in omega arith
    other false e = more_frame e

    stays : (b : Bool) → f.after.marked ≡ b → standing_of (f.after.kept ++ c.rest) ≡ stood f.after.marked
    stays true e = rw e (refusal_stays f.after.kept c.rest (rw e at c.reads.stands))
    stays false e = rw (c.all e, append-nil f.after.kept) c.reads.stands

    back : (b : Bool) → f.after.marked ≡ b → cond b (take uncounted (f.after.kept ++ c.rest)) (f.after.kept ++ c.rest) ≡ f.after.kept
    back true e =
        let l = c.reads.six e in
        take-append-le uncounted f.after.kept c.rest (omega arith) ∙ ap (λ x. take x f.after.kept) (sym l) ∙ take-length f.after.kept
    back false e = ap (λ x. f.after.kept ++ x) (c.all e) ∙ append-nil f.after.kept

calls_read : (f : Fed) (xs : List Offer) → Reads f → Reads (calls f xs)
unfolding calls
calls_read f [] h = h
calls_read f (x ∷ xs) h = calls_read (with f x.piece (took f.after x.piece x.buffer)) xs (took_reads f x.piece x.buffer h)

-- Whatever calls are made on a stream for a new connection, with whatever pieces and buffers, refused ones among them: the bytes that they took are whole frames, those yielded,
-- with the bytes kept behind them, the start of a frame or a bad header up to its sixth byte;
pub any_calls_read : (xs : List Offer) → Reads (calls start xs)
any_calls_read xs = calls_read start xs reads_nothing

-- and the frames, and the stream with its mark, are what splitting makes of those bytes.
pub any_calls : (xs : List Offer) → ((calls start xs).frames ≡ (uncut (calls start xs).bytes).frames) × ((calls start xs).after ≡ (uncut (calls start xs).bytes).after)
any_calls xs =
    let f = calls start xs in
    let a = (cut_agrees f.bytes f (record { reads = any_calls_read xs; rest = []; parts = append-nil f.bytes; all = λ _. refl })).1 in
    (a.frames, a.after)

-- the bytes r were offered, cut in some way
pub record Offered (r : List ℕ) (f : Fed) : Type 0 where
  pub cut : Cut r f
  pub says : f.refusal ≡ cond f.after.marked 4 0

pub offered_nothing : Offered [] start
offered_nothing = record { cut = record { reads = reads_nothing; rest = []; parts = refl; all = λ _. refl }; says = refl }

-- what has come of them is what the uncut run comes to
pub offered_uncut : (r : List ℕ) (f : Fed) → Offered r f → f ≡ uncut r
unfolding uncut
offered_uncut r f h =
    let a = cut_agrees r f h.cut in
    let s : f.refusal ≡ cond (is_refused r) 4 0 = h.says ∙ ap (λ b. cond b 4 0) (sym a.0) in
    λ i. record { frames = a.1.frames i; bytes = a.1.bytes i; refusal = s i; after = a.1.after i }

-- what was offered of a piece, and what is left of it
pub offered_rest : (r : List ℕ) (n : ℕ) (p : List ℕ) → (r ++ take n p) ++ drop n p ≡ r ++ p
offered_rest r n p = append_assoc r (take n p) (drop n p) ∙ ap (λ x. r ++ x) (take-append-drop n p)

-- one call more, with a piece p: where a frame comes, some of the piece was offered, and what is behind that is left; else all of it was
pub record Offers (r : List ℕ) (f : Fed) (p : List ℕ) (d : TakeOutcome) : Type 0 where
  pub some : again d.says ≡ true → Offered (r ++ take d.says.taken p) (with f p d) × (0 < d.says.taken) × (d.says.taken ≤ length p)
  pub all : again d.says ≡ false → Offered (r ++ p) (with f p d)

-- on a stream that still waits
found_offers : (f : Fed) (p o : List ℕ) → Reads f → f.after.marked ≡ false → (v : Standing) → standing_of (f.after.kept ++ p) ≡ v → Offers f.bytes f p (found f.after.kept p o v)
unfolding found
found_offers f p o h m Frame e =
    let k = f.after.kept in
    let b = frame_ends_behind k p (rw m at h.stands) e in
    let whole = (starts (k ++ p) e).whole in
    record {
      some = λ _. (
        record { cut = record { reads = found_reads f p o m h Frame e; rest = []; parts = append-nil _; all = λ _. refl }; says = refl },
        omega arith,
        omega (arith, first-size (k ++ p) e, length-append k p),
      );
      all = λ z. absurd (unmarked (sym z));
    }
found_offers f p o h m MoreNeeded e = record {
  some = λ z. absurd (unmarked z);
  all = λ _. record { cut = record { reads = found_reads f p o m h MoreNeeded e; rest = []; parts = append-nil _ ∙ ap (λ y. f.bytes ++ y) (take-length p); all = λ _. refl }; says = refl };
}
found_offers f p o h m Refused e =
    let x = uncounted - length f.after.kept in
    record {
      some = λ z. absurd (unmarked z);
      all = λ _. record {
        cut = record { reads = found_reads f p o m h Refused e; rest = drop x p; parts = offered_rest f.bytes x p; all = λ z. absurd (unmarked (sym z)) };
        says = refl;
      };
    }

-- on any stream, over a buffer that is long enough
pub took_offers : (r : List ℕ) (f : Fed) (p o : List ℕ) → frame_buffer ≤ length o → Cut r f → Offers r f p (took f.after p o)
took_offers r f p o l c =
    ⊎_elim
    (λ (m : f.after.marked ≡ true). rw (marked_refused f.after p o l m) (record {
      some = λ z. absurd (unmarked z);
      all = λ _. record {
        cut = record {
          reads = reads_on f p 4 o c.reads;
          rest = c.rest ++ p;
          parts = rw (append-nil f.bytes) (sym (append_assoc f.bytes c.rest p) ∙ ap (λ x. x ++ p) c.parts);
          all = λ z. absurd (unmarked (sym z ∙ m));
        };
        says = rw m refl;
      };
    }))
    (λ (m : f.after.marked ≡ false).
    let e : f.bytes ≡ r = sym (append-nil f.bytes) ∙ ap (λ x. f.bytes ++ x) (sym (c.all m)) ∙ c.parts in
    rw (waiting_finds f.after p o l m) (subst (λ (x : List ℕ). Offers x f p (found f.after.kept p o (standing_of (f.after.kept ++ p)))) e (found_offers f p o c.reads m (standing_of (f.after.kept ++ p)) refl)))
    (true_or f.after.marked)

module _ (o : Lends) (long : (f : Fed) → frame_buffer ≤ length (o f)) where
  -- a piece behind bytes that were offered
  drained_offers : (n : ℕ) (r : List ℕ) (f : Fed) (p : List ℕ) → length p < n → Cut r f → Offered (r ++ p) (drained n o f p)
  unfolding drained
  drained_offers zero r f p l c = absurd (omega arith)
  drained_offers (suc n) r f p l c =
      let d = took f.after p (o f) in
      let s = took_offers r f p (o f) (long f) c in
      by (again d.says)
      (λ e.
      let t = s.some e in
      rw (offered_rest r d.says.taken p) at (drained_offers n _ (with f p d) (drop d.says.taken p) (omega (arith, t.1, length-drop d.says.taken p)) t.0.cut))
      s.all
    where
      by : (b : Bool) {x y : Fed} → (b ≡ true → Offered (r ++ p) x) → (b ≡ false → Offered (r ++ p) y) → Offered (r ++ p) (cond b x y)
      by true h k = h refl
      by false h k = k refl

  pieces_offer : (r : List ℕ) (f : Fed) (ps : List (List ℕ)) → Offered r f → Offered (r ++ flatten ps) (pieces o f ps)
  unfolding pieces flatten
  pieces_offer r f [] h = rw (append-nil r) h
  pieces_offer r f (p ∷ ps) h = rw (append_assoc r p (flatten ps)) at (pieces_offer (r ++ p) (drained (suc (length p)) o f p) ps (drained_offers (suc (length p)) r f p (omega arith) h.cut))

  -- The same bytes, cut in any way into pieces, empty ones among them, over any buffers that are long enough: after every piece the frames, the bytes taken, the refusal that
  -- the last call said, and the stream are what splitting makes of the uncut bytes up to there.
  pub any_cutting : (ps : List (List ℕ)) → pieces o start ps ≡ uncut (flatten ps)
  any_cutting ps = offered_uncut (flatten ps) (pieces o start ps) (pieces_offer [] start ps offered_nothing)

  -- So refusal 4 is said in the last call for the piece that brings a bad header's sixth byte, and not for the pieces before it; what is taken ends with that byte.
  pub refused_with_the_sixth_byte : (ps : List (List ℕ)) (p : List ℕ) → is_refused (flatten ps) ≡ false → is_refused (flatten ps ++ p) ≡ true
      → ((pieces o start ps).refusal ≡ 0) × ((pieces o start (ps ++ (p ∷ []))).refusal ≡ 4)
      × ((pieces o start (ps ++ (p ∷ []))).bytes ≡ flatten (frames (length (flatten ps ++ p)) (flatten ps ++ p)) ++ take 6 (remains (flatten ps ++ p)))
  unfolding uncut
  refused_with_the_sixth_byte ps p e e' =
      let r = flatten ps ++ p in
      let q : pieces o start (ps ++ (p ∷ [])) ≡ uncut r = any_cutting (ps ++ (p ∷ [])) ∙ ap uncut (flatten_more ps p) in
      (ap (λ (f : Fed). f.refusal) (any_cutting ps) ∙ ap (λ b. cond b 4 0) e, ap (λ (f : Fed). f.refusal) q ∙ ap (λ b. cond b 4 0) e', ap (λ (f : Fed). f.bytes) q ∙ ap (λ b. flatten (frames (length r) r) ++ cond b (take uncounted (remains r)) (remains r)) e')

-- Two cuttings of the same bytes come to the same.
pub two_cuttings : (o o' : Lends) → ((f : Fed) → frame_buffer ≤ length (o f)) → ((f : Fed) → frame_buffer ≤ length (o' f)) → (ps qs : List (List ℕ)) → flatten ps ≡ flatten qs → pieces o start ps ≡ pieces o' start qs
two_cuttings o o' l l' ps qs e = any_cutting o l ps ∙ ap uncut e ∙ sym (any_cutting o' l' qs)
