-- How far apart two issues of one proxy id are: every move that fits keeps them apart. And what a distance says in other words.
-- Assumes nothing.
use Prim.Native.Nat.{ℕ, ◌+◌, ◌-◌, ◌≤◌, ◌<◌}
use mathlib.Core.Path.{◌≡◌, refl, ap, sym, ◌∙◌}
use mathlib.Core.Logic.{⊎_elim, ◌↔◌}
use mathlib.Core.Bool.{Bool, true, false, cond, not, false≢true}
use mathlib.Core.Option.{Option, some, none}
use mathlib.Core.List.{List, [], ◌∷◌, ◌++◌}
use native.Mathlib.Omega.{arith}
use lib.ListN.{length, get_or, length-append, length-set, get_or-append}
use lib.Seq.{get_or-set_same, get_or-append_seam}
use borrow.Author.Tests.{ne_eqb}
use Rattle.laws.specs.Search.{count}
use Rattle.laws.specs.Circle.{turn, gap}
use Rattle.laws.proofs.Choice.{lt_or}
use Rattle.laws.proofs.CountLaws.{count_more, count_ext, count_none, count_mono, count-split, count-not, at_most_one}
use Rattle.laws.proofs.CircleLaws.{turn_inj, turn_add, gap-low, gap_on, gap_here, gap_round, turn_gap, turn_low}
use Rattle.book.specs.Book.{Rules, Party, Live, Book, Move, Good, Fits, book, new_entry, apply, tell, live_in, has_id, added, struck, marked}
use Rattle.book.specs.Book.Move.{rest, pass, join, issue, reply, expire, strike, wipe, mark, adopt}
use Rattle.book.specs.Ledger.{Ledger, Apart, Differing, posts}
use Rattle.book.proofs.PlaceLaws.{at_low, live_here, live_set, live_less, live_map, live_none, live_count}

module _ {R W N : Type 0} where
  -- how many ids that are not live the cursor has yet to meet before x
  pub ahead : Rules R → Book R W N → ℕ → ℕ
  ahead r b x = count (λ j. not (live_in b.places (turn r.ids (b.cursor + j)))) (gap r.ids b.cursor x)

  -- of the ids that were issued, in their order
  pub record Spaced (r : Rules R) (b : Book R W N) (issues : List ℕ) : Type 0 where
    pub low : (a : ℕ) → a < length issues → get_or issues a 0 < r.ids
    -- those issued since, and those that must be issued still before it comes again, are enough
    pub due : (a : ℕ) → a < length issues → r.ids + a < r.places + (length issues + ahead r b (get_or issues a 0))
    pub apart : Apart (r.ids - r.places) issues

-- two issues of one id have at least n others between them exactly if any two that are at most n apart are of different ids: so those others differ from it and from each other
pub apart_exactly : (n : ℕ) (is : List ℕ) → Apart n is ↔ Differing n is
apart_exactly n is = (
  λ h i j l k z e. let y = h i j l z e in omega arith,
  λ h a c l z e. ⊎_elim (λ (y : a + n < c). y) (λ (y : c ≤ a + n). absurd (h a c l y z e)) (lt_or (a + n) c),
)

not_less : (a b : Bool) → (b ≡ true → a ≡ true) → not a ≡ true → not b ≡ true
not_less true b h e = absurd (false≢true e)
not_less false true h e = h refl
not_less false false h e = refl

module _ {R W N : Type 0} (r : Rules R) where
  -- where no id comes to life and the cursor stays, no fewer are ahead
  ahead_grow : (b : Book R W N) (ps : List (Option (Live W N))) (y : R) (t x : ℕ) → ((y : ℕ) → live_in ps y ≡ true → live_in b.places y ≡ true) → ahead r b x ≤ ahead r (book y ps b.cursor t) x
  unfolding ahead
  ahead_grow b ps y t x h =
      count_mono _ _ (gap r.ids b.cursor x) (λ j. not_less (live_in b.places (turn r.ids (b.cursor + j))) (live_in ps (turn r.ids (b.cursor + j))) (h (turn r.ids (b.cursor + j))))

  module _ (b : Book R W N) (g : Good r b) (k id : ℕ) (w : W) (n : N) (d : ℕ) (p : Party) (h : Fits r b (issue k id w n d p)) where
    abbrev v : Live W N
    v = new_entry id w n d p

    abbrev b' : Book R W N
    b' = apply r b (issue k id w n d p)

    low_id : id < r.ids
    low_id = rw h.2.here (turn_low r.ids (b.cursor + h.2.steps) (let a = g.turned in let c = h.2.near in omega arith))

    -- the search came past x, or to it: nothing was ahead
    ahead_none : (x : ℕ) → gap r.ids b.cursor x ≤ h.2.steps → ahead r b x ≡ 0
    unfolding ahead
    ahead_none x z = count_none _ (gap r.ids b.cursor x) (λ j l. ap not (h.2.passed j (omega arith)))

    live_other : (y : ℕ) → (id ≡ y → ⊥) → live_in b'.places y ≡ live_in b.places y
    live_other y ne = live_set b.places k (some v) y (ne_eqb id y ne ∙ sym (ap (has_id y) h.1))

    -- an issue takes one of those ahead
    ahead_issue : (x : ℕ) → x < r.ids → ahead r b x ≤ ahead r b' x + 1
    unfolding ahead
    ahead_issue x xl =
        ⊎_elim
        (λ (z : h.2.steps < gap r.ids b.cursor x).
        let m = r.ids in
        let c = b.cursor in
        let s = h.2.steps in
        let test : ℕ → Bool = λ j. not (live_in b.places (turn m (c + j))) in
        let test' : ℕ → Bool = λ j. not (live_in b'.places (turn m (b'.cursor + j))) in
        let g' = gap m b'.cursor x in
        let gl = gap-low m c x g.turned xl in
        let tu = g.turned in
        let here = h.2.here in
        let on : gap m c x ≡ s + 1 + g' = gap_on m c s x g.turned xl z ∙ ap (λ (i : ℕ). s + 1 + gap m (turn m (i + 1)) x) (sym here) in
        let a = count-split test (s + 1) g' in
        let d = count_more test s in
        let o = at_most_one (test s) in
        let n = count_none test s (λ j l. ap not (h.2.passed j l)) in
        let e : count (λ j. test (s + 1 + j)) g' ≡ count test' g' = count_ext test' (λ j. test (s + 1 + j)) g' (λ j l.
        let q : turn m (b'.cursor + j) ≡ turn m (c + (s + 1 + j)) =
        ap (λ (i : ℕ). turn m (turn m (i + 1) + j)) here
        ∙ ap (λ (i : ℕ). turn m (i + j)) (turn_add m (c + s) 1 (omega arith))
        ∙ turn_add m (c + s + 1) j (omega arith)
        ∙ ap (turn m) (let y : c + s + 1 + j ≡ c + (s + 1 + j) = omega arith in y) in
        let ne : id ≡ turn m (c + (s + 1 + j)) → ⊥ = λ y. let u = turn_inj m c s (s + 1 + j) tu (omega arith) (omega arith) (sym here ∙ y) in omega arith in
        sym (ap (λ (i : ℕ). not (live_in b'.places i)) q ∙ ap not (live_other (turn m (c + (s + 1 + j))) ne))) in
        rw on (omega arith))
        (λ (z : gap r.ids b.cursor x ≤ h.2.steps). let e = ahead_none x z in omega arith)
        (lt_or h.2.steps (gap r.ids b.cursor x))

    -- when x itself is issued, nothing was ahead of it before
    ahead_here : ahead r b id ≡ 0
    ahead_here = ahead_none id (let e : gap r.ids b.cursor id ≡ h.2.steps = ap (gap r.ids b.cursor) h.2.here ∙ gap_here r.ids b.cursor h.2.steps g.turned h.2.near in omega arith)

    -- and after it all other ids are, but for the live ones
    ahead_round : r.ids ≤ r.places + ahead r b' id
    unfolding ahead
    ahead_round =
        let m = r.ids in
        let c' = b'.cursor in
        let n = gap m c' id in
        let cl : c' < m = turn_low m (id + 1) (let l = low_id in let f = r.fewer in omega arith) in
        let round : n + 1 ≡ m = gap_round m id low_id in
        let live : ℕ → Bool = λ j. live_in b'.places (turn m (c' + j)) in
        let a = live_count b'.places (λ j. turn m (c' + j)) (n + 1) (λ i j p q. turn_inj m c' i j cl (omega arith) (omega arith)) in
        let lg : length b'.places ≡ r.places = length-set b.places k (some v) ∙ g.long in
        let d = count_more live n in
        let back : turn m (c' + n) ≡ id = turn_gap m c' id cl low_id in
        let t : live n ≡ true = live_here b'.places k v (turn m (c' + n)) (get_or-set_same b.places k (some v) none (rw g.long h.0)) (sym back) in
        let d' : count live (n + 1) ≡ 1 + count live n = d ∙ ap (λ (y : Bool). cond y 1 0 + count live n) t in
        let s = count-not live n in
        omega arith

    spaced_issue : (is : List ℕ) → Spaced r b is → Spaced r b' (is ++ (id ∷ []))
    spaced_issue is s =
        let n = length is in
        let ln : length (is ++ (id ∷ [])) ≡ n + 1 = length-append is (id ∷ []) in
        let new : get_or (is ++ (id ∷ [])) n 0 ≡ id = get_or-append_seam is id [] 0 in
        record {
          low = λ a l. ⊎_elim
              (λ (z : a < n). rw (get_or-append is (id ∷ []) 0 a z) (s.low a z))
              (λ (z : n ≤ a). let q : a ≡ n = omega arith in rw (q, new) low_id)
              (lt_or a n);
          due = λ a l. ⊎_elim
              (λ (z : a < n). rw (ln, get_or-append is (id ∷ []) 0 a z) (let y = s.due a z in let x = ahead_issue (get_or is a 0) (s.low a z) in omega arith))
              (λ (z : n ≤ a). let q : a ≡ n = omega arith in rw (ln, q, new) (let y = ahead_round in omega arith))
              (lt_or a n);
          apart = λ a c ac l e. ⊎_elim
              (λ (z : c < n). s.apart a c ac z (sym (get_or-append is (id ∷ []) 0 a (omega arith)) ∙ e ∙ get_or-append is (id ∷ []) 0 c z))
              (λ (z : n ≤ c).
              let q : c ≡ n = omega arith in
              let y = s.due a (omega arith) in
              let x : get_or is a 0 ≡ id = sym (get_or-append is (id ∷ []) 0 a (omega arith)) ∙ e ∙ ap (λ (i : ℕ). get_or (is ++ (id ∷ [])) i 0) q ∙ new in
              let u : ahead r b (get_or is a 0) ≡ 0 = ap (ahead r b) x ∙ ahead_here in
              let f = r.fewer in
              omega arith)
              (lt_or c n);
        }

  spaced_grow : (b : Book R W N) (ps : List (Option (Live W N))) (x : R) (t : ℕ) (is : List ℕ) → ((y : ℕ) → live_in ps y ≡ true → live_in b.places y ≡ true) → Spaced r b is → Spaced r (book x ps b.cursor t) is
  spaced_grow b ps x t is h s = record {
    low = s.low;
    due = λ a l. let z = ahead_grow b ps x t (get_or is a 0) h in let y = s.due a l in omega arith;
    apart = s.apart;
  }

  pub spaced_move : (b : Book R W N) (l : Ledger W) (m : Move R W N) → Good r b → Fits r b m → Spaced r b l.issues → Spaced r (apply r b m) (posts l (tell m)).issues
  unfolding posts
  spaced_move b l (rest y) g h s = s
  spaced_move b l (pass t) g h s = spaced_grow b b.places b.rule _ l.issues (λ y q. q) s
  spaced_move b l (join k e w p) g h s = spaced_grow b _ b.rule b.clock l.issues (λ y q. sym (live_set b.places k (some (added p e)) y (sym (ap (has_id y) h.0))) ∙ q) s
  spaced_move b l (issue k id w n d p) g h s = spaced_issue b g k id w n d p h l.issues s
  spaced_move b l (reply k e) g h s = spaced_grow b _ b.rule b.clock l.issues (λ y q. live_less b.places k y (at_low b.places k e h) q) s
  spaced_move b l (expire k e) g h s = spaced_grow b _ b.rule b.clock l.issues (λ y q. live_less b.places k y (at_low b.places k e h.0) q) s
  spaced_move b l (strike c) g h s = spaced_grow b _ b.rule b.clock l.issues (λ y q. sym (live_map (struck c) b.places y (λ e. refl)) ∙ q) s
  spaced_move b l wipe g h s = spaced_grow b _ b.rule b.clock l.issues (λ y q. absurd (live_none W N r.places y q)) s
  spaced_move b l (mark f) g h s = spaced_grow b _ b.rule b.clock l.issues (λ y q. sym (live_map (marked f) b.places y (λ e. refl)) ∙ q) s
  spaced_move b l (adopt x) g h s = spaced_grow b b.places x b.clock l.issues (λ y q. q) s

  pub spaced_fresh : (b : Book R W N) → Spaced r b []
  spaced_fresh b = record { low = λ a l. absurd (omega arith); due = λ a l. absurd (omega arith); apart = λ a c z l. absurd (omega arith) }
