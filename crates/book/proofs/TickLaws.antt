-- Ticking at one time ends: after as many ticks as there are places nothing is due.
-- Assumes nothing.
use Prim.Native.Nat.{ℕ, zero, suc, ◌+◌, ◌≤◌, ◌<◌}
use mathlib.Core.Path.{◌≡◌, refl, ap, sym, ◌∙◌}
use mathlib.Core.Logic.{⊎_elim}
use mathlib.Core.Bool.{true≢false}
use mathlib.Core.Option.{Option, some, none}
use native.Mathlib.Omega.{arith}
use lib.ListN.{length, get_or, set}
use lib.Seq.{get_or-set_same, get_or-set_other}
use borrow.Author.Tests.{le-leb}
use Rattle.laws.specs.Search.{count}
use Rattle.laws.proofs.Choice.{lt_or}
use Rattle.laws.proofs.CountLaws.{count_le, count-drop, count-zero}
use Rattle.book.specs.Book.{Rules, Live, Book, Good, NothingDue, at, apply}
use Rattle.book.specs.Book.Why.{idle}
use Rattle.book.specs.Book.Move.{rest, expire}
use Rattle.book.specs.Desk.{is_due, due_place, expire_at, choose, ticks}
use Rattle.book.specs.Desk.Op.{tick}
use Rattle.book.proofs.PlaceLaws.{at_low}
use Rattle.book.proofs.GoodLaws.{good_move}
use Rattle.book.proofs.DeskLaws.{due_found, due_none}
use Rattle.book.proofs.ChooseLaws.{choose_fits, tick_expires, idle_exactly}

module _ {R W N : Type 0} (r : Rules R) where
  -- how many entries are due
  due : Book R W N → ℕ
  due b = count (λ k. is_due b.clock (at b k)) r.places

  due_zero : (b : Book R W N) → Good r b → due b ≡ 0 → NothingDue b
  unfolding due
  due_zero b g h k e q =
      let l : k < r.places = rw g.long at (at_low b.places k e q) in
      let z = count-zero (λ k. is_due b.clock (at b k)) r.places k h l in
      ⊎_elim (λ u. u) (λ u. absurd (true≢false (sym (le-leb e.deadline b.clock u) ∙ sym (ap (is_due b.clock) q) ∙ z))) (lt_or b.clock e.deadline)

  -- one is due less
  due_less : (b : Book R W N) (k : ℕ) (e : Live W N) → Good r b → at b k ≡ some e → e.deadline ≤ b.clock → due (apply r b (expire k e)) + 1 ≡ due b
  unfolding due
  due_less b k e g h d =
      let l : k < length b.places = at_low b.places k e h in
      count-drop (λ j. is_due b.clock (at b j)) (λ j. is_due b.clock (get_or (set b.places k none) j none)) r.places k (rw g.long at l)
      (ap (is_due b.clock) h ∙ le-leb e.deadline b.clock d)
      (ap (is_due b.clock) (get_or-set_same b.places k none none l))
      (λ j ne. ap (is_due b.clock) (get_or-set_other b.places k j none none ne))

  -- where nothing is due a tick changes nothing
  stays : (n : ℕ) (b : Book R W N) → choose r b tick ≡ rest idle → ticks r n b ≡ b
  unfolding ticks
  stays zero b h = refl
  stays (suc n) b h = ap (λ m. ticks r n (apply r b m)) h ∙ stays n b h

  drain : (n : ℕ) (b : Book R W N) → Good r b → due b ≤ n → NothingDue (ticks r n b)
  unfolding ticks
  drain zero b g h = due_zero b g (omega arith)
  drain (suc n) b g h =
      ⊎_elim
      (λ (z : due_place r b < r.places).
      let w = due_found r b g z in
      let e = ap (λ m. due (apply r b m)) (tick_expires r b g w.0 w.1) in
      drain n (apply r b (choose r b tick)) (good_move r b (choose r b tick) g (choose_fits r b g tick)) (omega (arith, e, due_less b (due_place r b) w.0 g w.1 w.2)))
      (λ (z : r.places ≤ due_place r b).
      let d = due_none r b g z in
      rw (stays (suc n) b ((idle_exactly r b g).1 d)) d)
      (lt_or (due_place r b) r.places)

  pub ticks_good : (n : ℕ) (b : Book R W N) → Good r b → Good r (ticks r n b)
  unfolding ticks
  ticks_good zero b g = g
  ticks_good (suc n) b g = ticks_good n (apply r b (choose r b tick)) (good_move r b (choose r b tick) g (choose_fits r b g tick))

  expire_clock : (b : Book R W N) (k : ℕ) (o : Option (Live W N)) → (apply r b (expire_at k o)).clock ≡ b.clock
  expire_clock b k none = refl
  expire_clock b k (some e) = refl

  -- the clock stays: they are at one time
  pub ticks_clock : (n : ℕ) (b : Book R W N) → (ticks r n b).clock ≡ b.clock
  unfolding ticks
  ticks_clock zero b = refl
  ticks_clock (suc n) b = ticks_clock n (apply r b (choose r b tick)) ∙ expire_clock b (due_place r b) (at b (due_place r b))

  -- as many ticks as there are places, or more, leave nothing due
  pub drains : (b : Book R W N) → Good r b → (n : ℕ) → r.places ≤ n → NothingDue (ticks r n b)
  unfolding due
  drains b g n h = drain n b g (omega (arith, count_le (λ k. is_due b.clock (at b k)) r.places))
