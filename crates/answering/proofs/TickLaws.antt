-- Each outcome of a tick: refused, nothing due, timed out.
-- Assumes nothing.
use Prim.Native.Nat.{ℕ}
use mathlib.Core.Path.{◌≡◌, ap, sym, ◌∙◌}
use mathlib.Core.Option.{Option, none}
use mathlib.Core.List.{List}
use native.Mathlib.Omega.{arith}
use lib.ListN.{length, set}
use Rattle.numbers.specs.Numbers.{places, no_response}
use Rattle.laws.specs.Bytes.{over}
use Rattle.laws.specs.Search.{best}
use Rattle.wire.specs.Frame.{exception}
use Rattle.pdu.specs.declared.What.{What}
use Rattle.pdu.specs.declared.ProxyId.{ProxyId}
use Rattle.book.specs.Book.{Live, at}
use Rattle.book.specs.Desk.{due_place}
use Rattle.machine.specs.Machine.{Machine, Note, rules}
use Rattle.machine.specs.Calls.{done, out_of, list_of}
use Rattle.machine.specs.Calls.Call.{tick}
use Rattle.machine.specs.Replies.{pairs, expired_to, ticked}
use Rattle.machine.specs.Outcomes.{granted, outcome}
use Rattle.machine.specs.declared.Answer.TheVariants.{Refused, TimedOut, NothingDue}
use Rattle.machine.proofs.OutcomeLaws.{granted_is, refused_is}
use Rattle.table.specs.inner.Places.{is_due, is_sooner}
use Rattle.table.specs.inner.Changes.{reach}
use Rattle.table.proofs.ViewLaws.{at_beyond}
use Rattle.table.proofs.EntryLaws.{held, live_at}
use Rattle.table.proofs.FindLaws.{due_place_lem}
use Rattle.proxy.specs.State.{State, value_in, machine_of, SoundState}
use Rattle.proxy.specs.Gates.{tick_gate}
use Rattle.proxy.proofs.StateLaws.{timed, clock_is}
use Rattle.answering.proofs.GateLaws.{tick_gate_lem, tick_timely}
use Rattle.answering.proofs.EndLaws.{named, ended, Living, due_lives, ended_is}

-- what is said and written, by its parts
told : {id : ProxyId} {j n n' : ℕ} {o' o'' l' l'' : List ℕ} {a a' : Machine} → id.0 ≡ j → n ≡ n' → a ≡ a' → o' ≡ o'' → l' ≡ l''
    → done (TimedOut id n) a o' l' ≡ done (TimedOut (named j) n') a' o'' l''
told {id} {j} i n a o l = let e : id ≡ named j = ap named i in cc

-- The gate refused.
pub was_refused : (m : Machine) (t : ℕ) (o l : List ℕ) (n : ℕ) → n ≡ tick_gate (length o) (length l) t m.book.clock → (n ≡ 0 → ⊥)
    → done (Refused n) m o l ≡ outcome m (tick t o l)
unfolding out_of list_of
was_refused m t o l n e h = refused_is m (tick t o l) n (sym (e ∙ tick_gate_lem m t o l)) h

module _ (s : State) (d : SoundState s) (t : ℕ) (o l : List ℕ) (gate : tick_gate (length o) (length l) t s.clock ≡ 0) (k : ℕ)
    (found : k ≡ best (is_due s.table.ids s.table.deadlines t) (is_sooner s.table.ids s.table.deadlines) places s.table.top) where
  -- the place found is the book's, whose clock is set
  place_is : k ≡ due_place rules (machine_of (timed s t)).book
  place_is = found ∙ due_place_lem (value_in s.settings) s.table s.cursor t d.table

  is_ticked : (x : Option (Live What Note)) → at (machine_of (timed s t)).book k ≡ x → outcome (machine_of s) (tick t o l) ≡ expired_to (machine_of (timed s t)) k o l x
  unfolding granted ticked
  is_ticked x e =
      granted_is (machine_of s) (tick t o l) (sym (tick_gate_lem (machine_of s) t o l) ∙ gate)
      ∙ ap (λ (n : Machine). expired_to n (due_place rules n.book) o l (at n.book (due_place rules n.book)))
      (clock_is s t (tick_timely (length o) (length l) t s.clock gate).later)
      ∙ rw (← place_is, e)

  -- Nothing is due: only the clock is set.
  pub nothing_due : k ≡ places → done NothingDue (machine_of (timed s t)) o l ≡ outcome (machine_of s) (tick t o l)
  unfolding expired_to
  nothing_due e = sym (is_ticked none (at_beyond (value_in s.settings) s.table s.cursor t k (omega (arith, e))))

  module _ (lives : k ≡ places → ⊥) where
    -- the entry that is due
    living : Living s.table k
    living = due_lives s.table d.table t k found lives

    -- It ends with exception 0B.
    pub was_timed_out : (id : ProxyId) (n : ℕ) (o' l' is : List ℕ) (top : ℕ)
        → id.0 ≡ (held s.table k).id
        → (n ≡ length (held s.table k).parties) × (l' ≡ over (pairs (held s.table k).parties) l)
        → (is ≡ set s.table.ids k 0) × (top ≡ reach is s.table.top)
        → (u y : ℕ) → u ≡ (held s.table k).what.unit → y ≡ (held s.table k).what.function → o' ≡ over (exception 0 u y no_response) o
        → done (TimedOut id n) (machine_of (ended s is top t)) o' l' ≡ outcome (machine_of s) (tick t o l)
    unfolding expired_to
    was_timed_out id n o' l' is top i h q u y a b w =
        told i h.0 (ended_is s d k living t is top q) (w ∙ rw (a, b)) h.1 ∙ sym (is_ticked _ (live_at s.table k living.low living.live))
