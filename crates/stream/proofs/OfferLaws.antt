-- A host that offers received pieces to a stream that it lends, as HOST.md says, hears what the uncut run comes to; and it comes to the end of them.
-- Assumes nothing.
use Prim.Native.Nat.{ℕ, ◌+◌, ◌≤◌, ◌<◌}
use mathlib.Core.Path.{◌≡◌, refl, ap, sym, ◌∙◌}
use mathlib.Core.Logic.{⊎_elim}
use mathlib.Core.List.{List, [], ◌++◌, append_assoc, append-nil, flatten}
use native.Mathlib.Omega.{arith}
use lib.ListN.{length, take, drop, length-append, length-drop}
use lib.Seq.{length-take-le}
use borrow.Author.Tests.{eq-eqb, ne_eqb}
use Rattle.numbers.specs.Numbers.{frame_buffer}
use Rattle.laws.proofs.Choice.{lt_or}
use Rattle.stream.specs.Stream.{TakeOutcome, refused, took}
use Rattle.stream.specs.Hosts.{Fed, fed, start, with, uncut}
use Rattle.stream.specs.Lent.{stream_of, MadeStream, Takes, Resets}
use Rattle.stream.specs.Lives.{Line, came, Lived, heard, Offering}
use Rattle.stream.specs.Lives.Lived.{none, then}
use Rattle.stream.specs.Lives.Offering.{over, again, next}
use Rattle.stream.specs.declared.Taken.{Taken}
use Rattle.stream.specs.declared.LentStream.{LentStream}
use Rattle.stream.proofs.StreamLaws.{reads_nothing, short_refused}
use Rattle.stream.proofs.CallLaws.{line-took}
use Rattle.stream.proofs.CuttingLaws.{Cut, Offered, Offers, offered_nothing, offered_uncut, took_offers, offered_rest}

-- a line of the life of a lent stream that goes on from f, over a buffer that is long enough
line_offers : (r : List ℕ) (f : Fed) {i : LentStream} (x : Line) → f.after ≡ stream_of i → Takes i x.offer.piece x.offer.buffer x.says x.after x.written
    → 260 ≤ length x.offer.buffer → Cut r f → Offers r f x.offer.piece (came x)
line_offers r f x e t b c = rw (line-took f x e t) (took_offers r f x.offer.piece x.offer.buffer b c)

offering_offers : (r : List ℕ) (f : Fed) {i : LentStream} {ls : List Line} {ps : List (List ℕ)} → f.after ≡ stream_of i → Lived i ls → Offering ps ls → Offered r f
    → Offered (r ++ flatten ps) (heard f ls)
unfolding heard flatten
offering_offers r f e none over h = rw (append-nil r) h
offering_offers r f e (then t l) (again {p} {ps} {x} q b n g) h =
    let k = x.says.taken in
    let s = ((line_offers r f x e t b h.cut).some (eq-eqb _ _ n)).0 in
    let back : (r ++ take k x.offer.piece) ++ (drop k p ++ flatten ps) ≡ r ++ (p ++ flatten ps) =
    ap (λ y. (r ++ take k y) ++ (drop k p ++ flatten ps)) q ∙ sym (append_assoc (r ++ take k p) (drop k p) (flatten ps)) ∙ ap (λ y. y ++ flatten ps) (offered_rest r k p) ∙ append_assoc r p (flatten ps) in
    rw back at (offering_offers (r ++ take k x.offer.piece) (with f x.offer.piece (came x)) refl l g s)
offering_offers r f e (then t l) (next {p} {ps} {x} q b n g) h =
    let s = (line_offers r f x e t b h.cut).all (ne_eqb _ _ n) in
    let back : (r ++ x.offer.piece) ++ flatten ps ≡ r ++ (p ++ flatten ps) = ap (λ y. (r ++ y) ++ flatten ps) q ∙ append_assoc r p (flatten ps) in
    rw back at (offering_offers (r ++ x.offer.piece) (with f x.offer.piece (came x)) refl l g s)

-- Request #110, any cutting, of the exported functions: whatever pieces a host offers of a stream that it lends, empty ones among them, as HOST.md says and after the reset, the frames
-- that it is given, the bytes that are taken, the refusal of the last call and the stream are those of the uncut run.
pub a_lent_stream_hears_the_uncut_run : {r : Taken} {i : LentStream} {ls : List Line} {ps : List (List ℕ)} → Resets r i → Lived i ls → Offering ps ls → heard start ls ≡ uncut (flatten ps)
a_lent_stream_hears_the_uncut_run h l g = offered_uncut _ _ (offering_offers [] start (sym h.after) l g offered_nothing)

-- a stream that these calls made, as one that has taken what it keeps
made_cut : (i : LentStream) → MadeStream i → Cut (stream_of i).kept (fed [] (stream_of i).kept 0 (stream_of i))
unfolding flatten
made_cut i h = record {
  reads = record { whole = reads_nothing.whole; parts = refl; stands = h.stands; six = λ m. let n = h.six m in let l = h.long in length-take-le i.count i.bytes (omega arith) ∙ n };
  rest = [];
  parts = append-nil _;
  all = λ _. refl;
}

-- A call that yields a frame takes at least a byte of its piece, and no more than the piece has: what a host then offers again is shorter.
pub a_frame_takes_of_its_piece : {i : LentStream} {p o : List ℕ} {r : Taken} {i' : LentStream} {o' : List ℕ} → MadeStream i → Takes i p o r i' o' → r.outcome ≡ 8 → (0 < r.taken) × (r.taken ≤ length p)
a_frame_takes_of_its_piece {i} {p} {o} {r} h t e =
    let says : r ≡ (took (stream_of i) p o).says = ap (λ (d : TakeOutcome). d.says) t.comes in
    ⊎_elim
    (λ (b : length o < frame_buffer). let z : r ≡ refused 1 0 = says ∙ ap (λ (d : TakeOutcome). d.says) (short_refused (stream_of i) p o b) in absurd (omega (arith, ap (λ (a : Taken). a.outcome) z)))
    (λ (b : frame_buffer ≤ length o). let s = (took_offers _ _ p o b (made_cut i h)).some (eq-eqb _ _ (ap (λ (a : Taken). a.outcome) (sym says) ∙ e)) in rw says (s.1, s.2))
    (lt_or (length o) frame_buffer)

offering_ends : {i : LentStream} {ls : List Line} {ps : List (List ℕ)} → MadeStream i → Lived i ls → Offering ps ls → length ls ≤ length ps + length (flatten ps)
unfolding flatten
offering_ends m none over = omega arith
offering_ends m (then t l) (again {p} {ps} {x} q b n g) =
    let f = a_frame_takes_of_its_piece m t n in
    let i = offering_ends t.made l g in
    omega (arith, ap length q, length-append p (flatten ps), length-append (drop x.says.taken p) (flatten ps), length-drop x.says.taken p)
offering_ends m (then t l) (next {p} {ps} q b n g) = let i = offering_ends t.made l g in omega (arith, length-append p (flatten ps))

-- So a host comes to the end of its pieces: its calls are at most as many as the pieces and their bytes together.
pub an_offering_comes_to_an_end : {r : Taken} {i : LentStream} {ls : List Line} {ps : List (List ℕ)} → Resets r i → Lived i ls → Offering ps ls → length ls ≤ length ps + length (flatten ps)
an_offering_comes_to_an_end h l g = offering_ends h.made l g
