-- The machine after any list of calls, told from the calls: who is attached, what the clock shows, and which request each issue is.
-- Assumes nothing.
use Prim.Native.Nat.{ℕ}
use mathlib.Core.Path.{◌≡◌, refl, ap, sym, ◌∙◌}
use mathlib.Core.Logic.{⊎_elim, ◌↔◌}
use mathlib.Core.Bool.{true, false, or-false, or-true, false≢true, true≢false}
use mathlib.Core.Option.{Option, some, none, or_else, get_or}
use mathlib.Core.List.Memᴰ
use mathlib.Core.List.{List, [], ◌∷◌, ◌++◌, append-nil, append_assoc, Memᴰ}
use lib.Dec.{eqb}
use borrow.Author.Tests.{eq-eqb, ne_eqb, eqb-true}
use Rattle.laws.specs.Bits.{has}
use Rattle.laws.specs.Lists.{last_given, last_of}
use Rattle.laws.proofs.Choice.{true_or, eq_or, never}
use Rattle.laws.proofs.MemberLaws.{mem-cond}
use Rattle.laws.proofs.BitLaws.{has-none, in_with, in_without}
use Rattle.laws.proofs.LastLaws.{last_more, last_yes, last_no}
use Rattle.settings.specs.Grammar.{Value}
use Rattle.pdu.specs.declared.What.{What}
use Rattle.rewrite.specs.Legal.{fault_under}
use Rattle.book.specs.Book.{Party, Event, at}
use Rattle.book.specs.Book.Event.{passed, issued}
use Rattle.book.specs.Desk.{due_place}
use Rattle.book.specs.Follower.{after, state_after}
use Rattle.book.proofs.History.{seen_at}
use Rattle.machine.specs.Machine.{Machine, made, rules, settings, clocked}
use Rattle.machine.specs.Calls.{Call, Outcome, time_of}
use Rattle.machine.specs.Calls.Call.{attach, detach, request, reply, tick, link_lost}
use Rattle.machine.specs.Refusals.{refusal}
use Rattle.machine.specs.Requests.{excepted, hit_on, joined_to, issued_to, admitted}
use Rattle.machine.specs.Replies.{answered_to, answered, expired_to, ticked}
use Rattle.machine.specs.Outcomes.{granted, outcome}
use Rattle.machine.specs.Granted.{granted_from, granted_calls, concerns}
use Rattle.machine.specs.Numbers.{numbers, is_issued, is_joined, is_timed_out}
use Rattle.machine.specs.Histories.{Seen, seen_of, told, events, after_calls, told_by, Origin, IssuedBy}
use Rattle.machine.specs.declared.Answer.TheVariants as answer
use Rattle.machine.proofs.RefusalLaws.{refusal_changes_nothing}
use Rattle.machine.proofs.OutcomeLaws.{granted_is, reply_finds, served_cases, expired_cases, clock_set, clock_stays}
use Rattle.machine.proofs.NumberLaws.{numbers-tell}
use Rattle.machine.proofs.Histories.{product}

-- what every call that is not refused keeps of the machine and of the calls that were not refused before, any list of calls keeps
by-calls : (P : Machine → List Call → Type 0) → ((m : Machine) (gs : List Call) (x : Call) → refusal m x ≡ 0 → P m gs → P (outcome m x).after (gs ++ (x ∷ [])))
    → (v : Value) (m : Machine) (gs xs : List Call) → P m gs → P (after (product v) m xs) (gs ++ granted_from m xs)
unfolding state_after granted_from
by-calls P step v m gs [] h = rw (append-nil gs) h
by-calls P step v m gs (x ∷ xs) h =
    ⊎_elim
    (λ (z : refusal m x ≡ 0). rw (eq-eqb (refusal m x) 0 z) (rw (append_assoc gs (x ∷ []) (granted_from (outcome m x).after xs)) at (by-calls P step v (outcome m x).after (gs ++ (x ∷ [])) xs (step m gs x z h))))
    (λ (z : refusal m x ≡ 0 → ⊥). rw (ne_eqb (refusal m x) 0 z) (by-calls P step v (outcome m x).after gs xs (rw (ap (λ (d : Outcome). d.after) (refusal_changes_nothing m x z)) h)))
    (eq_or (refusal m x) 0)

-- WHO IS ATTACHED

-- requests, replies and ticks leave the set
stays : (m : Machine) (x : Call) → refusal m x ≡ 0 → (time_of x ≡ none → ⊥) → (granted m x).after.attached ≡ m.attached
unfolding granted admitted excepted joined_to issued_to hit_on answered answered_to ticked expired_to
stays m (attach c) h t = absurd (t refl)
stays m (detach c) h t = absurd (t refl)
stays m (request c u f o) h t =
    ⊎_elim
    (λ (z : eqb (fault_under (settings m).tags f) 0 ≡ true). rw z (served_cases (λ d. d.after.attached ≡ m.attached) (clocked m u) c f o refl (λ k e. refl) refl (λ e. refl)))
    (λ (z : eqb (fault_under (settings m).tags f) 0 ≡ false). rw z refl)
    (true_or (eqb (fault_under (settings m).tags f) 0))
stays m (reply u f o l) h t = let e = reply_finds m u f o l h in rw e.1 refl
stays m (tick u o l) h t =
    expired_cases (λ d. d.after.attached ≡ m.attached) (clocked m u) o l (λ k. refl) (λ k e. refl) (due_place rules (clocked m u).book) (at (clocked m u).book (due_place rules (clocked m u).book))
stays m link_lost h t = absurd (t refl)

-- the client is attached exactly if the last of the calls that concern it is its attach
abbrev pub Attached : ℕ → ℕ → List Call → Type 0
Attached c s gs = (has s c ≡ true) ↔ (last_of (concerns c) gs ≡ some (attach c))

module _ (c : ℕ) (gs : List Call) where
  same : (s s' : ℕ) (x : Call) → concerns c x ≡ false → has s' c ≡ has s c → Attached c s gs → Attached c s' (gs ++ (x ∷ []))
  same s s' x f e a = rw (e, last_no (concerns c) gs x f) a

  gone : (s : ℕ) (x : Call) → concerns c x ≡ true → (some x ≡ some (attach c) → ⊥) → has s c ≡ false → Attached c s (gs ++ (x ∷ []))
  gone s x t n e = (λ h. absurd (true≢false (sym h ∙ e)), λ h. absurd (n (sym (last_yes (concerns c) gs x t) ∙ h)))

  attached_step : (m : Machine) (x : Call) → refusal m x ≡ 0 → Attached c m.attached gs → Attached c (granted m x).after.attached (gs ++ (x ∷ []))
  unfolding granted
  attached_step m (attach d) h a =
      ⊎_elim
      (λ (z : d ≡ c). (
        λ e. last_yes (concerns c) gs (attach d) (eq-eqb d c z) ∙ ap (λ (i : ℕ). some (attach i)) z,
        λ e. in_with m.attached d c ∙ rw (eq-eqb c d (sym z)) (or-true (has m.attached c)),
      ))
      (λ (z : d ≡ c → ⊥). same m.attached _ (attach d) (ne_eqb d c z) (in_with m.attached d c ∙ rw (ne_eqb c d (λ y. z (sym y))) (or-false (has m.attached c))) a)
      (eq_or d c)
  attached_step m (detach d) h a =
      ⊎_elim
      (λ (z : d ≡ c). gone _ (detach d) (eq-eqb d c z) (λ e. never (cc)) (in_without m.attached d c ∙ rw (eq-eqb c d (sym z)) refl))
      (λ (z : d ≡ c → ⊥). same m.attached _ (detach d) (ne_eqb d c z) (in_without m.attached d c ∙ rw (ne_eqb c d (λ y. z (sym y))) refl) a)
      (eq_or d c)
  attached_step m (request d t f o) h a = same m.attached _ (request d t f o) refl (ap (λ (s : ℕ). has s c) (stays m (request d t f o) h (λ e. never (cc)))) a
  attached_step m (reply t f o l) h a = same m.attached _ (reply t f o l) refl (ap (λ (s : ℕ). has s c) (stays m (reply t f o l) h (λ e. never (cc)))) a
  attached_step m (tick t o l) h a = same m.attached _ (tick t o l) refl (ap (λ (s : ℕ). has s c) (stays m (tick t o l) h (λ e. never (cc)))) a
  attached_step m link_lost h a = gone 0 link_lost refl (λ e. never (cc)) (has-none c)

-- A client is attached exactly if the last of its attach, its detach and link lost that was not refused is its attach.
pub attached_exactly : (v : Value) (xs : List Call) (c : ℕ) → Attached c (after_calls v xs).attached (granted_calls v xs)
unfolding last_given
attached_exactly v xs c =
    by-calls (λ m gs. Attached c m.attached gs) (λ m gs x z a. rw (granted_is m x z) (attached_step c gs m x z a)) v (made v) [] xs
    (λ e. absurd (false≢true (sym (has-none c) ∙ e)), λ e. never (cc))

-- THE CLOCK

-- The clock shows the time of the last request, reply or tick that was not refused, and 0 where there was none.
pub clock_exactly : (v : Value) (xs : List Call) → (after_calls v xs).book.clock ≡ get_or (last_given time_of (granted_calls v xs)) 0
unfolding last_given or_else
clock_exactly v xs =
    by-calls (λ m gs. m.book.clock ≡ get_or (last_given time_of gs) 0) (λ m gs x z h. rw (last_more time_of gs x) (set m gs x z h (time_of x) refl)) v (made v) [] xs refl
  where
    set : (m : Machine) (gs : List Call) (x : Call) → refusal m x ≡ 0 → m.book.clock ≡ get_or (last_given time_of gs) 0
        → (o : Option ℕ) → time_of x ≡ o → (outcome m x).after.book.clock ≡ get_or (or_else o (last_given time_of gs)) 0
    set m gs x z h none e = clock_stays m x e ∙ h
    set m gs x z h (some t) e = clock_set m x t z e

-- WHICH REQUEST AN ISSUE IS

module _ (v : Value) (s : Seen) (id : ℕ) (w : What) (d : ℕ) (p : Party) where
  behind_time : (t : ℕ) (vs : List (Event What)) → Memᴰ (issued id w d p) (passed t ∷ vs) → Memᴰ (issued id w d p) vs
  behind_time t vs m = ⊎_elim (λ (e : issued id w d p ≡ passed t). never (cc)) (λ n. n) (Memᴰ.cases_cons m)

  told_issue : (x : Call) → Memᴰ (issued id w d p) (told v x s) → IssuedBy v s id w d p x
  unfolding told
  told_issue (attach c) m = absurd (Memᴰ.not-nil m)
  told_issue (detach c) m = let e = Memᴰ.eq_of_singleton m in never (cc)
  told_issue (request c t f o) m =
      ⊎_elim
      (λ j. let e = Memᴰ.eq_of_singleton j.1 in never (cc))
      (λ j. ⊎_elim
      (λ k. let e = Memᴰ.eq_of_singleton k.1 in (c, t, f, o, refl, eqb-true s.report.outcome is_issued k.0, cc, (cc, cc, cc)))
      (λ k. absurd (Memᴰ.not-nil k.1))
      (mem-cond (issued id w d p) (eqb s.report.outcome is_issued) _ [] j.1))
      (mem-cond (issued id w d p) (eqb s.report.outcome is_joined) _ _ (behind_time t _ m))
  told_issue (reply t f o l) m = let e = Memᴰ.eq_of_singleton (behind_time t _ m) in never (cc)
  told_issue (tick t o l) m =
      ⊎_elim
      (λ j. let e = Memᴰ.eq_of_singleton j.1 in never (cc))
      (λ j. absurd (Memᴰ.not-nil j.1))
      (mem-cond (issued id w d p) (eqb s.report.outcome is_timed_out) _ [] (behind_time t _ m))
  told_issue link_lost m = let e = Memᴰ.eq_of_singleton m in never (cc)

  pub seen_issue : (x : Call) → Memᴰ (issued id w d p) (events v x s) → IssuedBy v s id w d p x
  unfolding events
  seen_issue x m = ⊎_elim (λ j. told_issue x j.1) (λ j. absurd (Memᴰ.not-nil j.1)) (mem-cond (issued id w d p) (eqb s.report.refusal 0) (told v x s) [] m)

-- Every issue in a history comes from one of its requests.
pub issue_origin : (v : Value) (xs : List Call) (id : ℕ) (w : What) (d : ℕ) (p : Party) → Memᴰ (issued id w d p) (told_by v xs) → Origin v xs id w d p
issue_origin v xs id w d p m =
    let i = seen_at (product v) (made v) xs (issued id w d p) m in
    let a = (outcome (after_calls v i.0) i.1).says in
    let e = seen_issue v (seen_of (outcome (after_calls v i.0) i.1)) id w d p i.1 i.4 in
    let r = numbers a in
    record {
      before = i.0;
      client = e.0;
      time = e.1;
      frame = e.2;
      out = e.3;
      later = i.2;
      call = i.3 ∙ ap (λ (x : Call). i.0 ++ x ∷ i.2) e.4;
      says = (
        r.length,
        r.partial,
        r.value,
        ap (λ (x : Call). (outcome (after_calls v i.0) x).says) (sym e.4) ∙ (numbers-tell a).issued e.5
            ∙ ap (λ (j : ℕ). answer.Issued (record { 0 = j }) r.length r.partial r.value) e.6,
      );
      spells = e.7;
    }
