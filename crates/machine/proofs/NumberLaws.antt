-- The ten numbers that a C host is told of each answer; they say which answer it was, but that done and a lost link with nobody attached are one; and the refusal among them is the call's.
-- Assumes nothing.
use Prim.Native.Nat.{ℕ}
use mathlib.Core.Path.{◌≡◌, refl, ap, sym, ◌∙◌}
use mathlib.Core.Logic.{⊎_elim, inl, inr, ◌↔◌}
use mathlib.Core.Bool.{false, true≢false}
use native.Mathlib.Omega.{arith}
use Rattle.laws.proofs.Choice.{eq_or}
use Rattle.machine.specs.Machine.{Machine}
use Rattle.machine.specs.Calls.{Call, Outcome}
use Rattle.machine.specs.Refusals.{refusal}
use Rattle.machine.specs.Outcomes.{outcome}
use Rattle.machine.specs.Numbers.{numbers, is_joined, is_exception, is_hit, Plainly, Tells}
use Rattle.machine.specs.declared.Answer.{Answer}
use Rattle.machine.specs.declared.Answer.TheVariants.{Refused, Done, Issued, Joined, Excepted, Answered, TimedOut, NothingDue, Lost, Hit}
use Rattle.machine.proofs.RefusalLaws.{refusal_changes_nothing}
use Rattle.machine.proofs.OutcomeLaws.{is_refusal, granted_no_refusal, granted_is}

-- All ten numbers of every answer, in plain numbers.
pub numbers_plainly : Plainly
unfolding numbers
numbers_plainly =
    record {
      refused = λ n. refl;
      done = refl;
      issued = λ i n p v. refl;
      joined = λ i. refl;
      excepted = λ c. refl;
      answered = λ i n k p v. refl;
      timed_out_lem = λ i k. refl;
      nothing_due = refl;
      lost = λ s. refl;
      hit = λ n p v. refl;
    }

tells-refused : (a : Answer) → ((numbers a).refusal ≡ 0 → ⊥) → a ≡ Refused (numbers a).refusal
unfolding numbers
tells-refused (Refused n) h = refl
tells-refused Done h = absurd (h refl)
tells-refused (Issued i n p v) h = absurd (h refl)
tells-refused (Joined i) h = absurd (h refl)
tells-refused (Excepted c) h = absurd (h refl)
tells-refused (Answered i n k p v) h = absurd (h refl)
tells-refused (TimedOut i k) h = absurd (h refl)
tells-refused NothingDue h = absurd (h refl)
tells-refused (Lost s) h = absurd (h refl)
tells-refused (Hit n p v) h = absurd (h refl)

-- The numbers of an answer tell it.
pub numbers-tell : (a : Answer) → Tells (numbers a) a
unfolding numbers
numbers-tell (Refused n) = record { refused = tells-refused (Refused n); done = λ e. absurd (omega (arith, e)); issued = λ e. absurd (omega (arith, e)); joined = λ e. absurd (omega (arith, e)); excepted = λ e. absurd (omega (arith, e)); answered = λ e. absurd (omega (arith, e)); timed_out_lem = λ e. absurd (omega (arith, e)); nothing_due = λ e. absurd (omega (arith, e)); hit = λ e. absurd (omega (arith, e)) }
numbers-tell Done = record { refused = tells-refused Done; done = λ e. inr (refl, refl); issued = λ e. absurd (omega (arith, e)); joined = λ e. absurd (omega (arith, e)); excepted = λ e. absurd (omega (arith, e)); answered = λ e. absurd (omega (arith, e)); timed_out_lem = λ e. absurd (omega (arith, e)); nothing_due = λ e. absurd (omega (arith, e)); hit = λ e. absurd (omega (arith, e)) }
numbers-tell (Issued i n p v) = record { refused = tells-refused (Issued i n p v); done = λ e. absurd (omega (arith, e)); issued = λ e. refl; joined = λ e. absurd (omega (arith, e)); excepted = λ e. absurd (omega (arith, e)); answered = λ e. absurd (omega (arith, e)); timed_out_lem = λ e. absurd (omega (arith, e)); nothing_due = λ e. absurd (omega (arith, e)); hit = λ e. absurd (omega (arith, e)) }
numbers-tell (Joined i) = record { refused = tells-refused (Joined i); done = λ e. absurd (omega (arith, e)); issued = λ e. absurd (omega (arith, e)); joined = λ e. refl; excepted = λ e. absurd (omega (arith, e)); answered = λ e. absurd (omega (arith, e)); timed_out_lem = λ e. absurd (omega (arith, e)); nothing_due = λ e. absurd (omega (arith, e)); hit = λ e. absurd (omega (arith, e)) }
numbers-tell (Excepted c) = record { refused = tells-refused (Excepted c); done = λ e. absurd (omega (arith, e)); issued = λ e. absurd (omega (arith, e)); joined = λ e. absurd (omega (arith, e)); excepted = λ e. refl; answered = λ e. absurd (omega (arith, e)); timed_out_lem = λ e. absurd (omega (arith, e)); nothing_due = λ e. absurd (omega (arith, e)); hit = λ e. absurd (omega (arith, e)) }
numbers-tell (Answered i n k p v) = record { refused = tells-refused (Answered i n k p v); done = λ e. absurd (omega (arith, e)); issued = λ e. absurd (omega (arith, e)); joined = λ e. absurd (omega (arith, e)); excepted = λ e. absurd (omega (arith, e)); answered = λ e. refl; timed_out_lem = λ e. absurd (omega (arith, e)); nothing_due = λ e. absurd (omega (arith, e)); hit = λ e. absurd (omega (arith, e)) }
numbers-tell (TimedOut i k) = record { refused = tells-refused (TimedOut i k); done = λ e. absurd (omega (arith, e)); issued = λ e. absurd (omega (arith, e)); joined = λ e. absurd (omega (arith, e)); excepted = λ e. absurd (omega (arith, e)); answered = λ e. absurd (omega (arith, e)); timed_out_lem = λ e. refl; nothing_due = λ e. absurd (omega (arith, e)); hit = λ e. absurd (omega (arith, e)) }
numbers-tell NothingDue = record { refused = tells-refused NothingDue; done = λ e. absurd (omega (arith, e)); issued = λ e. absurd (omega (arith, e)); joined = λ e. absurd (omega (arith, e)); excepted = λ e. absurd (omega (arith, e)); answered = λ e. absurd (omega (arith, e)); timed_out_lem = λ e. absurd (omega (arith, e)); nothing_due = λ e. refl; hit = λ e. absurd (omega (arith, e)) }
numbers-tell (Lost s) = record { refused = tells-refused (Lost s); done = λ e. inl refl; issued = λ e. absurd (omega (arith, e)); joined = λ e. absurd (omega (arith, e)); excepted = λ e. absurd (omega (arith, e)); answered = λ e. absurd (omega (arith, e)); timed_out_lem = λ e. absurd (omega (arith, e)); nothing_due = λ e. absurd (omega (arith, e)); hit = λ e. absurd (omega (arith, e)) }
numbers-tell (Hit n p v) = record { refused = tells-refused (Hit n p v); done = λ e. absurd (omega (arith, e)); issued = λ e. absurd (omega (arith, e)); joined = λ e. absurd (omega (arith, e)); excepted = λ e. absurd (omega (arith, e)); answered = λ e. absurd (omega (arith, e)); timed_out_lem = λ e. absurd (omega (arith, e)); nothing_due = λ e. absurd (omega (arith, e)); hit = λ e. refl }

-- A report says a refusal n, an exception with the code n, a join under the id n, and a hit with a length and counts, exactly if the answer does.
pub refusal_exactly : (a : Answer) (n : ℕ) → (n ≡ 0 → ⊥) → ((numbers a).refusal ≡ n) ↔ (a ≡ Refused n)
unfolding numbers
refusal_exactly a n h = (λ e. (numbers-tell a).refused (λ z. h (sym e ∙ z)) ∙ ap Refused e, λ e. ap (λ (b : Answer). (numbers b).refusal) e)

pub exception_exactly : (a : Answer) (n : ℕ) → (((numbers a).outcome ≡ is_exception) × ((numbers a).code ≡ n)) ↔ (a ≡ Excepted n)
unfolding numbers
exception_exactly a n = (λ e. (numbers-tell a).excepted e.0 ∙ ap Excepted e.1, λ e. (ap (λ (b : Answer). (numbers b).outcome) e, ap (λ (b : Answer). (numbers b).code) e))

pub join_exactly : (a : Answer) (n : ℕ) → (((numbers a).outcome ≡ is_joined) × ((numbers a).id ≡ n)) ↔ (a ≡ Joined (record { 0 = n }))
unfolding numbers
join_exactly a n = (
  λ e. (numbers-tell a).joined e.0 ∙ ap (λ (i : ℕ). Joined (record { 0 = i })) e.1,
  λ e. (ap (λ (b : Answer). (numbers b).outcome) e, ap (λ (b : Answer). (numbers b).id) e),
)

pub hit_exactly : (a : Answer) (n p v : ℕ)
    → (((numbers a).outcome ≡ is_hit) × ((numbers a).length ≡ n) × ((numbers a).partial ≡ p) × ((numbers a).value ≡ v)) ↔ (a ≡ Hit n p v)
unfolding numbers
hit_exactly a n p v = (
  λ e. (numbers-tell a).hit e.0 ∙ rw (e.1, e.2, e.3) refl,
  λ e. (ap (λ (b : Answer). (numbers b).outcome) e, ap (λ (b : Answer). (numbers b).length) e, ap (λ (b : Answer). (numbers b).partial) e, ap (λ (b : Answer). (numbers b).value) e),
)

-- what is no refusal reports none
pub no_refusal : (a : Answer) → is_refusal a ≡ false → (numbers a).refusal ≡ 0
unfolding numbers
no_refusal (Refused n) e = absurd (true≢false e)
no_refusal Done e = refl
no_refusal (Issued i n p v) e = refl
no_refusal (Joined i) e = refl
no_refusal (Excepted c) e = refl
no_refusal (Answered i n k p v) e = refl
no_refusal (TimedOut i k) e = refl
no_refusal NothingDue e = refl
no_refusal (Lost n) e = refl
no_refusal (Hit n p v) e = refl

-- The report's refusal is the call's.
pub refusal-told : (m : Machine) (x : Call) → (numbers (outcome m x).says).refusal ≡ refusal m x
unfolding numbers
refusal-told m x =
    ⊎_elim
    (λ (z : refusal m x ≡ 0). no_refusal (outcome m x).says (ap (λ (d : Outcome). is_refusal d.says) (granted_is m x z) ∙ granted_no_refusal m x z) ∙ sym z)
    (λ (z : refusal m x ≡ 0 → ⊥). ap (λ (d : Outcome). (numbers d.says).refusal) (refusal_changes_nothing m x z))
    (eq_or (refusal m x) 0)
