-- Ticking again and again at one time comes to an end, whatever buffers each tick is lent: what they hold has no part in the state.
-- Assumes nothing.
use Prim.Native.Nat.{ℕ, ◌≤◌}
use mathlib.Core.Path.{◌≡◌, refl, ap, sym, subst, ◌∙◌}
use mathlib.Core.Option.{Option, some, none}
use mathlib.Core.List.{List, [], ◌∷◌}
use native.Mathlib.Omega.{arith}
use native.Mathlib.Nat.{max-eq_right}
use lib.ListN.{length}
use borrow.Author.Tests.{le-ltb}
use Rattle.numbers.specs.Numbers.{places, latest_time, frame_buffer, list_buffer}
use Rattle.settings.specs.Grammar.{Value}
use Rattle.pdu.specs.declared.What.{What}
use Rattle.book.specs.Book.{Live, Good, NothingDue, at, apply}
use Rattle.book.specs.Book.Move.{pass}
use Rattle.book.specs.Desk.{due_place, expire_at, choose, ticks}
use Rattle.book.specs.Desk.Op.{tick as ticking}
use Rattle.book.specs.Follower.{after, state_after}
use Rattle.book.proofs.GoodLaws.{good_move}
use Rattle.book.proofs.TickLaws.{ticks_good, drains}
use Rattle.machine.specs.Machine.{Machine, Note, Live_book, machine, rules, clocked}
use Rattle.machine.specs.Calls.{Outcome}
use Rattle.machine.specs.Calls.Call.{tick}
use Rattle.machine.specs.Refusals.{rows, refusal}
use Rattle.machine.specs.Replies.{expired_to}
use Rattle.machine.specs.Outcomes.{outcome}
use Rattle.machine.specs.declared.Answer.TheVariants as answer
use Rattle.machine.specs.Answered.{Lent, tick_at, ticks_at}
use Rattle.machine.proofs.OutcomeLaws.{clock_set}
use Rattle.machine.proofs.LowestLaws.{passes, none_left}
use Rattle.machine.proofs.AnswerLaws.{ticked_is, idle_found}
use Rattle.machine.proofs.Histories.{product}

expired_after : (m : Machine) (k : ℕ) (o l : List ℕ) (q : Option (Live What Note)) → (expired_to m k o l q).after ≡ machine (apply rules m.book (expire_at k q)) m.attached m.cache
unfolding expired_to
expired_after m k o l none = refl
expired_after m k o l (some e) = refl

-- the state after a tick is what the book's own tick makes of it once the clock is set
tick_leaves : (m : Machine) (t : ℕ) (o l : List ℕ) → refusal m (tick t o l) ≡ 0
    → (outcome m (tick t o l)).after ≡ machine (apply rules (clocked m t).book (choose rules (clocked m t).book ticking)) m.attached m.cache
tick_leaves m t o l h = let b = (clocked m t).book in ap (λ (d : Outcome). d.after) (ticked_is m t o l h) ∙ expired_after (clocked m t) (due_place rules b) o l (at b (due_place rules b))

-- What the buffers hold has no part in the state after a tick.
pub tick_same_state : (m : Machine) (t : ℕ) (o l o' l' : List ℕ) → refusal m (tick t o l) ≡ 0 → refusal m (tick t o' l') ≡ 0 → (outcome m (tick t o l)).after ≡ (outcome m (tick t o' l')).after
tick_same_state m t o l o' l' h h' = tick_leaves m t o l h ∙ sym (tick_leaves m t o' l' h')

module _ (v : Value) (t : ℕ) (late : t ≤ latest_time) where
  -- a tick at a time that is not below the clock is not refused
  timely : (m : Machine) (b : Lent) → m.book.clock ≤ t → refusal m (tick_at t b) ≡ 0
  unfolding rows
  timely m b c =
      sym (passes 1 _ (rw (le-ltb (length b.out) frame_buffer b.long, le-ltb (length b.list) list_buffer b.long_list) refl)
      (passes 3 [] (rw (le-ltb latest_time t late, le-ltb t m.book.clock c) refl) none_left))

  -- the clock set to where it stands
  again : (b : Live_book) → b.clock ≡ t → apply rules b (pass t) ≡ b
  again b e = ap (λ (n : ℕ). record { rule = b.rule; places = b.places; cursor = b.cursor; clock = n }) (rw e (max-eq_right (omega arith)))

  -- ticks leave the clock at their time, and the book as the book's own ticks do
  many-ticks : (bs : List Lent) (m : Machine) → m.book.clock ≤ t
      → ((after (product v) m (ticks_at t bs)).book.clock ≤ t) × ((clocked (after (product v) m (ticks_at t bs)) t).book ≡ ticks rules (length bs) (clocked m t).book)
  unfolding state_after ticks
  many-ticks [] m c = (c, refl)
  many-ticks (b ∷ bs) m c =
      let h = timely m b c in
      let n = (outcome m (tick_at t b)).after in
      let s : n.book.clock ≡ t = clock_set m (tick_at t b) t h refl in
      let i = many-ticks bs n (omega arith) in
      (i.0, i.1 ∙ ap (ticks rules (length bs)) (again n.book s ∙ ap (λ (x : Machine). x.book) (tick_leaves m t b.out b.list h)))

  -- After as many ticks at one time as there are places, or more, the next tick at that time says that nothing is due.
  pub ticking_ends : (bs : List Lent) (b : Lent) (m : Machine) → Good rules m.book → m.book.clock ≤ t → places ≤ length bs
      → (outcome (after (product v) m (ticks_at t bs)) (tick_at t b)).says ≡ answer.NothingDue
  ticking_ends bs b m g c p =
      let n = after (product v) m (ticks_at t bs) in
      let w = many-ticks bs m c in
      let gm = good_move rules m.book (pass t) g tt in
      ap (λ (x : Outcome). x.says)
      (idle_found n t b.out b.list (timely n b w.0) (subst (λ (x : Live_book). Good rules x) (sym w.1) (ticks_good rules (length bs) (clocked m t).book gm))
      (subst (λ (x : Live_book). NothingDue x) (sym w.1) (drains rules (clocked m t).book gm (length bs) p)))
