-- The places hold as many parties as there are requests that wait, of every kind of party.
-- Assumes nothing.
use Prim.Native.Nat.{ℕ, ◌<◌}
use mathlib.Core.Path.{◌≡◌, refl, ap, sym, ◌∙◌}
use mathlib.Core.Bool.{Bool, true, false, false≢true}
use mathlib.Core.Option.{Option, some, none}
use mathlib.Core.List.{List, Memᴰ}
use native.Mathlib.Omega.{arith}
use lib.ListN.{length, length-map}
use borrow.Author.Tests.{eq-eqb, eqb-true}
use Rattle.laws.specs.Lists.{filter}
use Rattle.laws.specs.Search.{count}
use Rattle.laws.proofs.FilterLaws.{filter_none, filter_in, filter_swap, filter_all, map-filter, share_out}
use Rattle.laws.proofs.CountLaws.{total_ext, count_one, count-some}
use Rattle.book.specs.Book.{Rules, Party, Live, Book, Good, at}
use Rattle.book.specs.Ledger.{Ticket, Ledger, under, whose, many}
use Rattle.book.specs.Kept.{Kept, parties_at, held, held_by}
use Rattle.book.proofs.PlaceLaws.{at_low, live_where}

module _ {W N : Type 0} where
  under_at : Option (Live W N) → Ticket W → Bool
  under_at none t = false
  under_at (some e) t = under e.id t

  under_some : (o : Option (Live W N)) (t : Ticket W) → under_at o t ≡ true → (e : Live W N) × (o ≡ some e) × (t.id ≡ e.id)
  unfolding under_at
  under_some none t h = absurd (false≢true h)
  under_some (some e) t h = (e, refl, eqb-true t.id e.id h)

module _ {R W N : Type 0} (r : Rules R) (b : Book R W N) (l : Ledger W) (c : Kept r b l) where
  at_place : (q : Party → Bool) (k : ℕ) (o : Option (Live W N)) → at b k ≡ o → length (filter q (parties_at o)) ≡ many (under_at o) (filter (whose q) l.waiting)
  unfolding under_at filter
  at_place q k none h = sym (ap length (filter_none (λ t. false) (filter (whose q) l.waiting) (λ t m. refl)))
  at_place q k (some e) h =
      ap (λ (ps : List Party). length (filter q ps)) (c.parties k e h)
      ∙ ap length (map-filter (λ (t : Ticket W). t.party) q (filter (under e.id) l.waiting))
      ∙ length-map (filter (whose q) (filter (under e.id) l.waiting)) (λ (t : Ticket W). t.party)
      ∙ ap length (filter_swap (whose q) (under e.id) l.waiting)

  -- every waiting request stands in one place
  one_place : Good r b → (t : Ticket W) → Memᴰ t l.waiting → count (λ k. under_at (at b k) t) r.places ≡ 1
  unfolding under_at
  one_place g t m =
      let w = live_where b.places t.id (c.waits t m).0 in
      let z : w.0 < r.places = rw g.long at (at_low b.places w.0 w.1 w.2) in
      let u : under_at (at b w.0) t ≡ true = ap (λ (o : Option (Live W N)). under_at o t) w.2 ∙ eq-eqb t.id w.1.id (sym w.3) in
      let lo = count-some (λ k. under_at (at b k) t) r.places w.0 z u in
      let hi = count_one (λ k. under_at (at b k) t) r.places (λ i j p v x y.
      let a = under_some (at b i) t x in
      let d = under_some (at b j) t y in
      g.differ i j a.0 d.0 a.1 d.1 (sym a.2 ∙ d.2)) in
      omega arith

  pub held_by_lem : Good r b → (q : Party → Bool) → held_by r b q ≡ many (whose q) l.waiting
  held_by_lem g q =
      total_ext _ _ r.places (λ k z. at_place q k (at b k) refl)
      ∙ share_out (λ k. under_at (at b k)) r.places (filter (whose q) l.waiting) (λ t m. one_place g t (filter_in (whose q) t l.waiting m).0)

  pub held_waiting : Good r b → held r b ≡ length l.waiting
  held_waiting g =
      total_ext _ _ r.places (λ k z. ap length (sym (filter_all (parties_at (at b k)))))
      ∙ held_by_lem g (λ p. true) ∙ ap length (filter_all l.waiting)
