-- What a request that is not refused comes to, case by case; exception 04 is given exactly when a legal request hits nothing, can join nothing and every place is live, and no other call says one.
-- Assumes nothing.
use Prim.Native.Nat.{ℕ, suc, ◌-◌, ◌≤◌, ◌<◌}
use mathlib.Core.Path.{◌≡◌, refl, ap, sym, ◌∙◌}
use mathlib.Core.Logic.{⊎_elim, ◌↔◌}
use mathlib.Core.Bool.{true, false, true≢false}
use mathlib.Core.Option.{Option, some, none, none-ne-some}
use mathlib.Core.List.{List}
use native.Mathlib.Omega.{arith}
use lib.ListN.{get_or-eq_default}
use lib.Dec.{eqb, ltb}
use borrow.Author.Tests.{ltb-true, ltb-false}
use Rattle.numbers.specs.Numbers.{places, device_failure}
use Rattle.laws.proofs.Choice.{true_or, eq_or, lt_or, never}
use Rattle.laws.proofs.SearchLaws.{best_all}
use Rattle.wire.specs.Frame.{misframed, function_of}
use Rattle.pdu.specs.Requests.{class_of, bad_function, bad_length}
use Rattle.pdu.specs.declared.What.{What}
use Rattle.rewrite.specs.Legal.{fault_under, checked_under, legal}
use Rattle.rewrite.proofs.LegalLaws.{fault_under_small, fault_excepted}
use Rattle.cache.specs.Cache.{Cached, in_cache}
use Rattle.cache.specs.Plain.{Sorted}
use Rattle.cache.proofs.CacheLaws.{hit_found, hit_nowhere_exactly}
use Rattle.book.specs.Book.{Live, Good, at}
use Rattle.book.specs.Book.Move.{pass}
use Rattle.book.specs.Desk.{AllLive, free_place}
use Rattle.book.proofs.GoodLaws.{good_move}
use Rattle.book.proofs.DeskLaws.{join-found, join-none, free-found, free-none}
use Rattle.machine.specs.Machine.{Machine, Note, rules, settings, clocked}
use Rattle.machine.specs.Calls.{Call, Outcome}
use Rattle.machine.specs.Calls.Call.{attach, detach, request, reply, tick, link_lost}
use Rattle.machine.specs.Refusals.{rows, refusal, short_frame}
use Rattle.machine.specs.Requests.{wanted, joins, joining_place, can_join, exhausted, excepted, hitting_place, hits, hit_on, joined_to, issued_to, missed, served, admitted}
use Rattle.machine.specs.Replies.{answered_to, answered, expired_to, ticked}
use Rattle.machine.specs.Outcomes.{granted, outcome}
use Rattle.machine.specs.Spelled.{asking}
use Rattle.machine.specs.Cached.{NoHit}
use Rattle.machine.specs.declared.Answer.{Answer}
use Rattle.machine.specs.declared.Answer.TheVariants as answer
use Rattle.machine.specs.Requested.{MayJoin, NoneToJoin}
use Rattle.machine.proofs.RefusalLaws.{refusal_changes_nothing}
use Rattle.machine.proofs.LowestLaws.{none-applies}
use Rattle.machine.proofs.OutcomeLaws.{granted_is, not-refused, reply_finds, clocked-at}
use Rattle.machine.proofs.SpelledLaws.{wanted-spelled}
use Rattle.machine.proofs.JoinLaws.{may_join}
use Rattle.pdu.specs.declared.Fault.TheVariants as check
use Rattle.std.specs.Prelude.{Err}

-- a request that is not refused has passed the tests of the buffer, of the frame, of the function and of the size
pub request_passes : (m : Machine) (c t : ℕ) (f o : List ℕ) → refusal m (request c t f o) ≡ 0
    → (short_frame o ≡ false) × (misframed f ≡ false) × (bad_function (function_of f) ≡ false) × (bad_length (class_of (function_of f)) f ≡ false)
unfolding rows
request_passes m c t f o h =
    let a1 = none-applies (short_frame o) 1 _ (λ z. omega arith) h in
    let a2 = none-applies _ 2 _ (λ z. omega arith) a1.1 in
    let a3 = none-applies _ 3 _ (λ z. omega arith) a2.1 in
    let a4 = none-applies (misframed f) 4 _ (λ z. omega arith) a3.1 in
    let a5 = none-applies (bad_function (function_of f)) 5 _ (λ z. omega arith) a4.1 in
    let a6 = none-applies (bad_length (class_of (function_of f)) f) 6 _ (λ z. omega arith) a5.1 in
    (a1.0, a4.0, a5.0, a6.0)

-- it is legal exactly if it has no fault, and its fault is what the check says
pub legal_faultless : (m : Machine) (c t : ℕ) (f o : List ℕ) → refusal m (request c t f o) ≡ 0 → legal (settings m) f ≡ eqb (fault_under (settings m).tags f) 0
unfolding legal
legal_faultless m c t f o h = let p = request_passes m c t f o h in rw (p.1, p.2, p.3)

pub fault_checked : (m : Machine) (c t : ℕ) (f o : List ℕ) → refusal m (request c t f o) ≡ 0 → legal (settings m) f ≡ false → checked_under (settings m).tags f ≡ Err (check.Excepted (fault_under (settings m).tags f))
fault_checked m c t f o h z = let p = request_passes m c t f o h in fault_excepted (settings m).tags f p.2 p.3 (sym (legal_faultless m c t f o h) ∙ z)

-- a request that is not hit finds no reply to what it asks that is younger than its life
none_hit : (m : Machine) (t : ℕ) (f : List ℕ) → Sorted m.cache → (clocked m t).book.clock ≡ t → hits (clocked m t) f ≡ false → NoHit m t f
none_hit m t f s k z j e there same young =
    let low : j < 64 = ⊎_elim (λ l. l) (λ (l : 64 ≤ j). absurd (none-ne-some e (sym (get_or-eq_default m.cache none (rw s.long l)) ∙ there))) (lt_or j 64) in
    let own : e.what ≡ wanted f = same ∙ sym (wanted-spelled f) in
    let now = (clocked m t).book.clock in
    let old = (hit_nowhere_exactly m.cache s now (wanted f) (rw own at (s.reads j e there))).0 (best_all _ _ 64 (ltb-false (hitting_place (clocked m t) f) 64 z)) j e low there own in
    omega arith

-- what a request that is not refused comes to: an exception for its own fault; else a hit; else a join; else an issue, or exception 04 where no place is free
pub data Comes (m : Machine) (c t : ℕ) (f o : List ℕ) : Outcome → Type 0 where
  faulty : legal (settings m) f ≡ false → Comes m c t f o (excepted (clocked m t) (fault_under (settings m).tags f) f o)
  hitting : legal (settings m) f ≡ true → (k : ℕ) (e : Cached) → in_cache m.cache k ≡ some e → e.what ≡ asking f → t - e.filled < e.life
      → Comes m c t f o (hit_on (clocked m t) f o (some e))
  joining : legal (settings m) f ≡ true → NoHit m t f → (k : ℕ) (e : Live What Note) → at m.book k ≡ some e → MayJoin m t f e
      → ((j : ℕ) (d : Live What Note) → at m.book j ≡ some d → MayJoin m t f d → e.id ≤ d.id) → Comes m c t f o (joined_to (clocked m t) k c f o (some e))
  full : legal (settings m) f ≡ true → NoHit m t f → NoneToJoin m t f → AllLive rules m.book → Comes m c t f o (excepted (clocked m t) device_failure f o)
  issuing : legal (settings m) f ≡ true → NoHit m t f → NoneToJoin m t f → free_place rules m.book < places → Comes m c t f o (issued_to (clocked m t) c f o)

pub comes : (m : Machine) (c t : ℕ) (f o : List ℕ) → Good rules m.book → Sorted m.cache → refusal m (request c t f o) ≡ 0 → Comes m c t f o (outcome m (request c t f o))
unfolding granted admitted served missed exhausted
comes m c t f o g s h =
    let n = clocked m t in
    let gn = good_move rules m.book (pass t) g tt in
    let l = legal_faultless m c t f o h in
    let clock = clocked-at m (request c t f o) t h refl in
    let plain : (e : Live What Note) → _ = λ e. may_join m t f e clock in
    rw (granted_is m (request c t f o) h)
    (⊎_elim
    (λ (z : eqb (fault_under (settings m).tags f) 0 ≡ true). rw z (⊎_elim
    (λ (x : hits n f ≡ true).
    let w = hit_found m.cache n.book.clock (wanted f) (ltb-true (hitting_place n f) 64 x) in
    rw x (rw w.1 (hitting (l ∙ z) (hitting_place n f) w.0 w.1 (w.2 ∙ wanted-spelled f) (omega (arith, w.3)))))
    (λ (x : hits n f ≡ false).
    let none-there = none_hit m t f s clock x in
    rw x (⊎_elim
    (λ (j : can_join n f ≡ true).
    let w = join-found rules n.book gn (joins (settings m) (wanted f)) (ltb-true (joining_place n f) places j) in
    rw j (rw w.1 (joining (l ∙ z) none-there (joining_place n f) w.0 w.1 ((plain w.0).0 w.2) (λ k d there may. w.3 k d there ((plain d).1 may)))))
    (λ (j : can_join n f ≡ false).
    let alone : NoneToJoin m t f = λ k e there may. join-none rules n.book gn (joins (settings m) (wanted f)) (ltb-false (joining_place n f) places j) k e there ((plain e).1 may) in
    rw j (⊎_elim
    (λ (u : ltb (free_place rules m.book) places ≡ true). rw u (issuing (l ∙ z) none-there alone (ltb-true (free_place rules m.book) places u)))
    (λ (u : ltb (free_place rules m.book) places ≡ false). rw u (full (l ∙ z) none-there alone (free-none rules m.book (ltb-false (free_place rules m.book) places u))))
    (true_or (ltb (free_place rules m.book) places))))
    (true_or (can_join n f))))
    (true_or (hits n f))))
    (λ (z : eqb (fault_under (settings m).tags f) 0 ≡ false). rw z (faulty (l ∙ z)))
    (true_or (eqb (fault_under (settings m).tags f) 0)))

-- exception 04 is the case that no place is free, and no other
only_full : {m : Machine} {c t : ℕ} {f o : List ℕ} {d : Outcome} → Comes m c t f o d → d.says ≡ answer.Excepted 4
    → (legal (settings m) f ≡ true) × NoHit m t f × NoneToJoin m t f × AllLive rules m.book
unfolding excepted joined_to issued_to hit_on
only_full {m} {f = f} (faulty z) e = let four : fault_under (settings m).tags f ≡ 4 = cc in absurd (omega (arith, fault_under_small (settings m).tags f))
only_full (hitting z k x there same young) e = never (cc)
only_full (joining z no_hit k x there may smallest) e = never (cc)
only_full (full z no_hit alone all) e = (z, no_hit, alone, all)
only_full (issuing z no_hit alone l) e = never (cc)

then_full : {m : Machine} {c t : ℕ} {f o : List ℕ} {d : Outcome} → Comes m c t f o d → legal (settings m) f ≡ true → NoHit m t f → NoneToJoin m t f → AllLive rules m.book
    → d.says ≡ answer.Excepted 4
unfolding excepted
then_full (faulty z) y q n a = absurd (true≢false (sym y ∙ z))
then_full (hitting z k x there same young) y q n a = absurd (q k x there same young)
then_full (joining z no_hit k x there may smallest) y q n a = absurd (n k x there may)
then_full (full z no_hit alone all) y q n a = refl
then_full {m} (issuing z no_hit alone l) y q n a = let e = a (free_place rules m.book) l in never (cc (e.1, (free-found rules m.book l).0))

-- Exception 04 is said exactly when the request is not refused, is legal, hits nothing, can join no live entry at its time, and every place is live.
pub exception_04 : (m : Machine) (c t : ℕ) (f o : List ℕ) → Good rules m.book → Sorted m.cache
    → ((outcome m (request c t f o)).says ≡ answer.Excepted 4)
    ↔ ((refusal m (request c t f o) ≡ 0) × (legal (settings m) f ≡ true) × NoHit m t f × NoneToJoin m t f × AllLive rules m.book)
exception_04 m c t f o g s = (
  λ e.
      let h = not-refused m (request c t f o) _ refl e in
      let w = only_full (comes m c t f o g s h) e in
      (h, w.0, w.1, w.2, w.3),
  λ w. then_full (comes m c t f o g s w.0) w.1 w.2 w.3 w.4,
)

-- one more than the code of an exception, and 0 of any other answer
abbrev pub code_of : Answer → ℕ
code_of (answer.Refused n) = 0
code_of answer.Done = 0
code_of (answer.Issued i n p v) = 0
code_of (answer.Joined i) = 0
code_of (answer.Excepted c) = suc c
code_of (answer.Answered i n k p v) = 0
code_of (answer.TimedOut i k) = 0
code_of answer.NothingDue = 0
code_of (answer.Lost s) = 0
code_of (answer.Hit n p v) = 0

expired_none : (m : Machine) (k : ℕ) (o l : List ℕ) (q : Option (Live What Note)) → code_of (expired_to m k o l q).says ≡ 0
unfolding expired_to
expired_none m k o l none = refl
expired_none m k o l (some e) = refl

-- an exception is said by no refused call
refused_code : (m : Machine) (x : Call) → (refusal m x ≡ 0 → ⊥) → code_of (outcome m x).says ≡ 0
refused_code m x h = ap (λ (d : Outcome). code_of d.says) (refusal_changes_nothing m x h)

granted-none : (m : Machine) (x : Call) → ((c t : ℕ) (f o : List ℕ) → x ≡ request c t f o → ⊥) → refusal m x ≡ 0 → code_of (granted m x).says ≡ 0
unfolding granted answered answered_to ticked
granted-none m (attach c) h z = refl
granted-none m (detach c) h z = refl
granted-none m (request c t f o) h z = absurd (h c t f o refl)
granted-none m (reply t f o l) h z = let e = reply_finds m t f o l z in rw e.1 refl
granted-none m (tick t o l) h z = expired_none (clocked m t) _ o l _
granted-none m link_lost h z = refl

-- No other call says an exception.
pub no_other_exception : (m : Machine) (x : Call) → ((c t : ℕ) (f o : List ℕ) → x ≡ request c t f o → ⊥) → code_of (outcome m x).says ≡ 0
no_other_exception m x h =
    ⊎_elim
    (λ (z : refusal m x ≡ 0). ap (λ (d : Outcome). code_of d.says) (granted_is m x z) ∙ granted-none m x h z)
    (refused_code m x)
    (eq_or (refusal m x) 0)
