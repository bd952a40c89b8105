-- What the next deadline is, in plain words, when there is none, and what the next tick does before and after it.
-- Assumes nothing.
use Prim.Native.Nat.{ℕ, ◌+◌, ◌≤◌, ◌<◌}
use mathlib.Core.Path.{◌≡◌, refl, ap, sym, ◌∙◌}
use mathlib.Core.Logic.{⊎_elim, inl, inr, ◌↔◌}
use mathlib.Core.Bool.{Bool, true, false}
use mathlib.Core.Option.{Option, some, none}
use mathlib.Core.List.Memᴰ
use mathlib.Core.List.{List}
use native.Mathlib.Omega.{arith}
use lib.Dec.{ltb}
use borrow.Author.Tests.{ltb-false}
use Rattle.numbers.specs.Numbers.{places, latest_time}
use Rattle.laws.proofs.LeastLaws.{least-low, least_taken}
use Rattle.laws.proofs.Choice.{or_left}
use Rattle.laws.proofs.LastLaws.{last_of_exactly}
use Rattle.settings.specs.Grammar.{Value}
use Rattle.pdu.specs.declared.What.{What}
use Rattle.pdu.specs.declared.ProxyId.{ProxyId}
use Rattle.book.specs.Book.{Party, Live, Good, at}
use Rattle.book.specs.Desk.{is_live}
use Rattle.book.specs.Traced.{touches, Outstanding}
use Rattle.book.proofs.PlaceLaws.{at_low}
use Rattle.machine.specs.Machine.{Machine, Note, rules}
use Rattle.machine.specs.Calls.{Call, Outcome}
use Rattle.machine.specs.Calls.Call.{request, tick}
use Rattle.machine.specs.Refusals.{rows, refusal, is_stranger, is_untimely}
use Rattle.machine.specs.Outcomes.{outcome}
use Rattle.machine.specs.Waiting.{no_deadline, deadline_of, next_deadline, Waits}
use Rattle.machine.specs.declared.Answer.TheVariants as answer
use Rattle.machine.proofs.LowestLaws.{none-applies}
use Rattle.machine.proofs.OutcomeLaws.{not-refused}
use Rattle.machine.specs.Histories.{told_by, Origin}
use Rattle.machine.proofs.StateLaws.{issue_origin}
use Rattle.machine.proofs.AnswerLaws.{idle_is, idle_when, tick_expires}

live_entry : (o : Option (Live What Note)) → is_live o ≡ true → (e : Live What Note) × (o ≡ some e)
live_entry none t = absurd (let z : ◌≡◌ {A = ℕ} 0 1 = cc in omega arith)
live_entry (some e) t = (e, refl)

pub waits : (m : Machine) → Good rules m.book → Waits m (next_deadline m)
unfolding next_deadline
waits m g =
    let live : ℕ → Bool = λ k. is_live (at m.book k) in
    let due : ℕ → ℕ = λ k. deadline_of (at m.book k) in
    record {
      first = λ k e h.
          let w = (least-low live due no_deadline places).1 k (rw g.long at (at_low m.book.places k e h)) (ap is_live h) in
          let d : due k ≡ e.deadline = ap deadline_of h in
          omega arith;
      taken = ⊎_elim inl
          (λ (w : (k : ℕ) × (k < places) × (live k ≡ true) × (due k ≡ (next_deadline m).time)).
          let e = live_entry (at m.book w.0) w.2 in
          inr (w.0, e.0, e.1, sym (ap deadline_of e.1) ∙ w.3))
          (least_taken live due no_deadline places);
      many = refl;
    }

-- a tick and a request that are not refused carry a time up to 2^63 − 1
time_most : (m : Machine) (t : ℕ) → is_untimely m t ≡ false → t ≤ latest_time
time_most m t e = ltb-false latest_time t (or_left (ltb latest_time t) _ e)

tick_time : (m : Machine) (t : ℕ) (o l : List ℕ) → refusal m (tick t o l) ≡ 0 → t ≤ latest_time
unfolding rows
tick_time m t o l h =
    let a = none-applies _ 1 _ (λ z. omega arith) h in
    time_most m t (none-applies (is_untimely m t) 3 _ (λ z. omega arith) a.1).0

request_time : (m : Machine) (c t : ℕ) (f o : List ℕ) → refusal m (request c t f o) ≡ 0 → t ≤ latest_time
unfolding rows
request_time m c t f o h =
    let a = none-applies _ 1 _ (λ z. omega arith) h in
    let b = none-applies (is_stranger m c) 2 _ (λ z. omega arith) a.1 in
    time_most m t (none-applies (is_untimely m t) 3 _ (λ z. omega arith) b.1).0

-- an issue is due at its request's time plus the timeout
issue_due : {v : Value} {xs : List Call} {id : ℕ} {w : What} {u : ℕ} {p : Party} → Origin v xs id w u p → u ≤ latest_time + v.timeout
issue_due g = let late = request_time _ g.client g.time g.frame g.out (not-refused _ _ _ refl g.says.3) in omega (arith, g.spells.2)

-- After any calls an outstanding request is due at 2^63 − 1 plus the timeout or before.
pub outstanding_due : (v : Value) (xs : List Call) (id : ℕ) (w : What) (c u : ℕ) → Outstanding (told_by v xs) id w c u → u ≤ latest_time + v.timeout
outstanding_due v xs id w c u o =
    let i = (last_of_exactly (touches id) (told_by v xs) _).0 o.2 in
    issue_due (issue_origin v xs id w u o.0 (rw i.2 (Memᴰ.append_right i.0 (Memᴰ.head refl))))

-- 2^64 − 1 is told exactly if nothing is live, where every deadline is below that.
pub none-waits : (m : Machine) → Good rules m.book → ((k : ℕ) (e : Live What Note) → at m.book k ≡ some e → e.deadline < no_deadline)
    → ((next_deadline m).time ≡ 18446744073709551615) ↔ ((k : ℕ) (e : Live What Note) → at m.book k ≡ some e → ⊥)
none-waits m g below =
    let w = waits m g in (
      λ e k x h. let y = w.first k x h in let z = below k x h in omega arith,
      λ n. ⊎_elim
          (λ e. e)
          (λ (y : (k : ℕ) × (e : Live What Note) × (at m.book k ≡ some e) × (e.deadline ≡ (next_deadline m).time)). absurd (n y.0 y.1 y.2))
          w.taken,
    )

-- Of a tick that comes next and is not refused: before the next deadline it says that nothing is due, and from then on it ends an entry.
pub next_tick : (m : Machine) (t : ℕ) (o l : List ℕ) → Good rules m.book → refusal m (tick t o l) ≡ 0
    → (t < (next_deadline m).time → (outcome m (tick t o l)).says ≡ answer.NothingDue)
    × ((next_deadline m).time ≤ t → (i : ProxyId) × (n : ℕ) × ((outcome m (tick t o l)).says ≡ answer.TimedOut i n))
next_tick m t o l g h =
    let w = waits m g in (
      λ early. ap (λ (x : Outcome). x.says) (idle_is m t o l g h (λ k e z. let y = w.first k e z in omega arith)),
      λ late.
          let x = tick_expires m t o l g h (λ idle. ⊎_elim
          (λ (z : (next_deadline m).time ≡ no_deadline). let y = tick_time m t o l h in omega arith)
          (λ (z : (k : ℕ) × (e : Live What Note) × (at m.book k ≡ some e) × (e.deadline ≡ (next_deadline m).time)).
          let y = (idle_when m t o l g idle).1 z.0 z.1 z.2 in let d = z.3 in omega arith)
          w.taken) in
          (_, _, x.says),
    )
