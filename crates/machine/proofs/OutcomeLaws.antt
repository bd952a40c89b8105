-- What a call that is not refused says, and when the clock moves.
-- Assumes nothing.
use Prim.Native.Nat.{ℕ, ◌<◌, max}
use mathlib.Core.Path.{◌≡◌, refl, ap, sym, ◌∙◌}
use mathlib.Core.Logic.{⊎_elim, ◌↔◌}
use mathlib.Core.Bool.{Bool, true, false, true≢false, false≢true}
use mathlib.Core.Option.{Option, some, none}
use mathlib.Core.List.{List}
use native.Mathlib.Omega.{arith}
use native.Mathlib.Nat.{max-eq_right}
use lib.Dec.{eqb, ltb}
use borrow.Author.Tests.{eq-eqb, ltb-true, ltb-false}
use Rattle.numbers.specs.Numbers.{latest_time, device_failure}
use Rattle.laws.proofs.Choice.{true_or, eq_or, or_right}
use Rattle.pdu.specs.declared.What.{What}
use Rattle.rewrite.specs.Legal.{fault_under}
use Rattle.cache.specs.Cache.{Cached}
use Rattle.cache.proofs.CacheLaws.{hit_found}
use Rattle.book.specs.Book.{Live, Good, at}
use Rattle.book.specs.Desk.{due_place}
use Rattle.machine.specs.Machine.{Machine, Note, rules, settings, clocked}
use Rattle.machine.specs.Calls.{Call, Outcome, done, out_of, list_of, time_of}
use Rattle.machine.specs.Calls.Call.{attach, detach, request, reply, tick, link_lost}
use Rattle.machine.specs.Refusals.{rows, refusal, entry_for, is_untimely, is_dead}
use Rattle.machine.specs.Requests.{wanted, excepted, hits, hit_on, joined_to, issued_to, missed, served, admitted, can_join, exhausted, joining_place}
use Rattle.machine.specs.Replies.{answered_to, answered, expired_to, ticked}
use Rattle.machine.specs.Outcomes.{granted, outcome}
use Rattle.machine.specs.declared.Answer.{Answer}
use Rattle.machine.specs.declared.Answer.TheVariants as answer
use Rattle.machine.specs.RefusalTable.{Applies, table}
use Rattle.machine.proofs.LowestLaws.{none-applies}
use Rattle.machine.proofs.RefusalLaws.{refused_exactly, refusal_changes_nothing}

-- every outcome of a legal request that hits nothing, as one of three cases
missed_cases : (P : Outcome → Type 0) (m : Machine) (c : ℕ) (f o : List ℕ)
    → P (excepted m device_failure f o) → ((k : ℕ) (e : Live What Note) → P (joined_to m k c f o (some e))) → P (issued_to m c f o) → P (missed m c f o)
unfolding missed joined_to
missed_cases P m c f o x j i =
    ⊎_elim
    (λ (t : can_join m f ≡ true). rw t (into (at m.book (joining_place m f))))
    (λ (t : can_join m f ≡ false). rw t (⊎_elim (λ (u : exhausted m c ≡ true). rw u x) (λ (u : exhausted m c ≡ false). rw u i) (true_or (exhausted m c))))
    (true_or (can_join m f))
  where
    into : (q : Option (Live What Note)) → P (joined_to m (joining_place m f) c f o q)
    into none = x
    into (some e) = j (joining_place m f) e

-- every outcome of a legal request, as one of four cases
pub served_cases : (P : Outcome → Type 0) (m : Machine) (c : ℕ) (f o : List ℕ)
    → P (excepted m device_failure f o) → ((k : ℕ) (e : Live What Note) → P (joined_to m k c f o (some e))) → P (issued_to m c f o) → ((e : Cached) → P (hit_on m f o (some e)))
    → P (served m c f o)
unfolding served
served_cases P m c f o x j i h =
    ⊎_elim
    (λ (t : hits m f ≡ true). let w = hit_found m.cache m.book.clock (wanted f) (ltb-true _ _ t) in rw t (rw w.1 (h w.0)))
    (λ (t : hits m f ≡ false). rw t (missed_cases P m c f o x j i))
    (true_or (hits m f))

-- and those of a tick, as one of two
pub expired_cases : (P : Outcome → Type 0) (m : Machine) (o l : List ℕ) → ((k : ℕ) → P (expired_to m k o l none)) → ((k : ℕ) (e : Live What Note) → P (expired_to m k o l (some e)))
    → (k : ℕ) (q : Option (Live What Note)) → P (expired_to m k o l q)
expired_cases P m o l x y k none = x k
expired_cases P m o l x y k (some e) = y k e

-- is the answer a refusal?
abbrev pub is_refusal : Answer → Bool
is_refusal (answer.Refused n) = true
is_refusal answer.Done = false
is_refusal (answer.Issued i n p v) = false
is_refusal (answer.Joined i) = false
is_refusal (answer.Excepted c) = false
is_refusal (answer.Answered i n k p v) = false
is_refusal (answer.TimedOut i k) = false
is_refusal answer.NothingDue = false
is_refusal (answer.Lost s) = false
is_refusal (answer.Hit n p v) = false

-- a reply that is not refused finds its entry
pub reply_finds : (m : Machine) (t : ℕ) (f o l : List ℕ) → refusal m (reply t f o l) ≡ 0 → (e : Live What Note) × (entry_for m f ≡ some e)
unfolding rows
reply_finds m t f o l h =
    let a = none-applies _ 1 _ (λ z. omega arith) h in
    let b = none-applies _ 3 _ (λ z. omega arith) a.1 in
    let c = none-applies _ 4 _ (λ z. omega arith) b.1 in
    let d = none-applies _ 7 _ (λ z. omega arith) c.1 in
    alive (entry_for m f) d.0
  where
    alive : (q : Option (Live What Note)) → is_dead q ≡ false → (e : Live What Note) × (q ≡ some e)
    alive none e = absurd (true≢false e)
    alive (some x) e = (x, refl)

-- what is granted is no refusal
pub granted_no_refusal : (m : Machine) (x : Call) → refusal m x ≡ 0 → is_refusal (granted m x).says ≡ false
unfolding granted admitted excepted answered answered_to ticked expired_to joined_to issued_to hit_on
granted_no_refusal m (attach c) h = refl
granted_no_refusal m (detach c) h = refl
granted_no_refusal m (request c t f o) h =
    ⊎_elim
    (λ (z : eqb (fault_under (settings m).tags f) 0 ≡ true). rw z (served_cases (λ d. is_refusal d.says ≡ false) (clocked m t) c f o refl (λ k e. refl) refl (λ e. refl)))
    (λ (z : eqb (fault_under (settings m).tags f) 0 ≡ false). rw z refl)
    (true_or (eqb (fault_under (settings m).tags f) 0))
granted_no_refusal m (reply t f o l) h = let e = reply_finds m t f o l h in rw e.1 refl
granted_no_refusal m (tick t o l) h = expired_cases (λ d. is_refusal d.says ≡ false) (clocked m t) o l (λ k. refl) (λ k e. refl) (due_place rules (clocked m t).book) (at (clocked m t).book (due_place rules (clocked m t).book))
granted_no_refusal m link_lost h = refl

-- a call that is not refused does what is granted
pub granted_is : (m : Machine) (x : Call) → refusal m x ≡ 0 → outcome m x ≡ granted m x
unfolding outcome
granted_is m x z = rw (eq-eqb (refusal m x) 0 z)

-- what says no refusal was not refused
pub not-refused : (m : Machine) (x : Call) (a : Answer) → is_refusal a ≡ false → (outcome m x).says ≡ a → refusal m x ≡ 0
not-refused m x a n e =
    ⊎_elim
    (λ z. z)
    (λ (z : refusal m x ≡ 0 → ⊥). absurd (false≢true (sym n ∙ ap is_refusal (sym e ∙ ap (λ (d : Outcome). d.says) (refusal_changes_nothing m x z)))))
    (eq_or (refusal m x) 0)

-- a call that is refused with n comes to just that
pub refused_is : (m : Machine) (x : Call) (n : ℕ) → refusal m x ≡ n → (n ≡ 0 → ⊥) → done (answer.Refused n) m (out_of x) (list_of x) ≡ outcome m x
refused_is m x n e h = rw (← e) (sym (refusal_changes_nothing m x (λ z. h (sym e ∙ z))))

-- A call says the refusal n exactly if row n of the table applies and no lower row does.
pub says-refusal : (m : Machine) → Good rules m.book → (x : Call) (n : ℕ) → (n ≡ 0 → ⊥) → ((outcome m x).says ≡ answer.Refused n) ↔ (Applies (table m x) n × ((k : ℕ) → k < n → Applies (table m x) k → ⊥))
unfolding outcome
says-refusal m g x n h = (
  λ e. (refused_exactly m g x n h).0 (⊎_elim
      (λ (z : refusal m x ≡ 0). absurd (false≢true (sym (granted_no_refusal m x z) ∙ ap is_refusal (sym (ap (λ (d : Outcome). d.says) (granted_is m x z)) ∙ e))))
      (λ (z : refusal m x ≡ 0 → ⊥). same_number (sym (ap (λ (d : Outcome). d.says) (refusal_changes_nothing m x z)) ∙ e))
      (eq_or (refusal m x) 0)),
  λ w. let e = (refused_exactly m g x n h).1 w in ap (λ (d : Outcome). d.says) (refusal_changes_nothing m x (λ z. h (sym e ∙ z))) ∙ ap answer.Refused e,
)
  where
    same_number : {i j : ℕ} → answer.Refused i ≡ answer.Refused j → i ≡ j
    same_number e = cc

timely : (m : Machine) (t : ℕ) → is_untimely m t ≡ false → max m.book.clock t ≡ t
timely m t e = max-eq_right (ltb-false t m.book.clock (or_right (ltb latest_time t) (ltb t m.book.clock) e))

served_clock : (m : Machine) (c t : ℕ) (f o : List ℕ) → (served (clocked m t) c f o).after.book.clock ≡ max m.book.clock t
unfolding excepted joined_to issued_to hit_on
served_clock m c t f o = served_cases (λ d. d.after.book.clock ≡ max m.book.clock t) (clocked m t) c f o refl (λ k e. refl) refl (λ e. refl)

same_time : {a b : ℕ} → some a ≡ some b → a ≡ b
same_time e = cc

no_time : {A : Type 0} {a : ℕ} → none ≡ some a → A
no_time e = absurd (let z : ◌≡◌ {A = ℕ} 0 1 = cc in omega arith)

-- the clock of a call that is not refused, once it is set
pub clocked-at : (m : Machine) (x : Call) (t : ℕ) → refusal m x ≡ 0 → time_of x ≡ some t → (clocked m t).book.clock ≡ t
unfolding rows
clocked-at m (attach c) t h e = no_time e
clocked-at m (detach c) t h e = no_time e
clocked-at m (request c u f o) t h e =
    let a = none-applies _ 1 _ (λ z. omega arith) h in
    let b = none-applies _ 2 _ (λ z. omega arith) a.1 in
    let d = none-applies _ 3 _ (λ z. omega arith) b.1 in
    rw (← same_time e) (timely m u d.0)
clocked-at m (reply u f o l) t h e =
    let a = none-applies _ 1 _ (λ z. omega arith) h in
    let b = none-applies _ 3 _ (λ z. omega arith) a.1 in
    rw (← same_time e) (timely m u b.0)
clocked-at m (tick u o l) t h e =
    let a = none-applies _ 1 _ (λ z. omega arith) h in
    let b = none-applies _ 3 _ (λ z. omega arith) a.1 in
    rw (← same_time e) (timely m u b.0)
clocked-at m link_lost t h e = no_time e

granted_clock : (m : Machine) (x : Call) (t : ℕ) → refusal m x ≡ 0 → time_of x ≡ some t → (granted m x).after.book.clock ≡ t
unfolding granted admitted excepted answered answered_to ticked expired_to
granted_clock m (attach c) t h e = no_time e
granted_clock m (detach c) t h e = no_time e
granted_clock m (request c u f o) t h e =
    ⊎_elim
    (λ (z : eqb (fault_under (settings m).tags f) 0 ≡ true). rw z (served_clock m c u f o))
    (λ (z : eqb (fault_under (settings m).tags f) 0 ≡ false). rw z refl)
    (true_or (eqb (fault_under (settings m).tags f) 0)) ∙ clocked-at m (request c u f o) u h refl ∙ same_time e
granted_clock m (reply u f o l) t h e =
    let x = reply_finds m u f o l h in
    rw x.1 refl ∙ clocked-at m (reply u f o l) u h refl ∙ same_time e
granted_clock m (tick u o l) t h e =
    expired_cases (λ d. d.after.book.clock ≡ max m.book.clock u) (clocked m u) o l (λ k. refl) (λ k x. refl) (due_place rules (clocked m u).book) (at (clocked m u).book (due_place rules (clocked m u).book))
    ∙ clocked-at m (tick u o l) u h refl ∙ same_time e
granted_clock m link_lost t h e = no_time e

-- A request, a reply or a tick that is not refused sets the clock to its time; no other call moves it, and no refusal does.
pub clock_set : (m : Machine) (x : Call) (t : ℕ) → refusal m x ≡ 0 → time_of x ≡ some t → (outcome m x).after.book.clock ≡ t
clock_set m x t h e = ap (λ (d : Outcome). d.after.book.clock) (granted_is m x h) ∙ granted_clock m x t h e

pub clock_refused : (m : Machine) (x : Call) → (refusal m x ≡ 0 → ⊥) → (outcome m x).after.book.clock ≡ m.book.clock
clock_refused m x h = ap (λ (d : Outcome). d.after.book.clock) (refusal_changes_nothing m x h)

granted_still : (m : Machine) (x : Call) → time_of x ≡ none → (granted m x).after.book.clock ≡ m.book.clock
unfolding granted
granted_still m (attach c) e = refl
granted_still m (detach c) e = refl
granted_still m (request c u f o) e = no_time (sym e)
granted_still m (reply u f o l) e = no_time (sym e)
granted_still m (tick u o l) e = no_time (sym e)
granted_still m link_lost e = refl

pub clock_stays : (m : Machine) (x : Call) → time_of x ≡ none → (outcome m x).after.book.clock ≡ m.book.clock
clock_stays m x e =
    ⊎_elim
    (λ (z : refusal m x ≡ 0). ap (λ (d : Outcome). d.after.book.clock) (granted_is m x z) ∙ granted_still m x e)
    (clock_refused m x)
    (eq_or (refusal m x) 0)
