-- Which request is legal under tags, exactly when: its bytes pass document 01's checks and no tag forbids it; and what the check of a request under tags comes to (requests #108 and #109).
-- Assumes nothing.
use Prim.Native.Nat.{ℕ, ◌<◌}
use mathlib.Core.Path.{◌≡◌, refl, ap, sym, ◌∙◌}
use mathlib.Core.Logic.Iff
use mathlib.Core.Logic.{◌↔◌, ⊎_elim, ◌⊎◌, inl, inr}
use mathlib.Core.Bool.{Bool, true, false, cond, not, false≢true, true≢false}
use mathlib.Core.List.{List}
use native.Mathlib.Omega.{arith}
use lib.Dec.{eqb}
use borrow.Author.Tests.{eqb-true}
use Rattle.numbers.specs.Numbers.{illegal_address, illegal_value}
use Rattle.laws.proofs.Choice.{true_or, never}
use Rattle.laws.proofs.TestLaws.{holds_not, holds_and}
use Rattle.wire.specs.Frame.{function_of, misframed}
use Rattle.settings.specs.Grammar.{Tag, Value}
use Rattle.pdu.specs.Requests.{bad_function, bad_length, bad_value, bad_address, asked_of, fault_of, checked_of, Checked}
use Rattle.pdu.specs.Plain.{Known, Sized, Valued, Ranged, class_in}
use Rattle.pdu.specs.Plain.Outcome.{fine}
use Rattle.pdu.specs.declared.Table.{Table}
use Rattle.pdu.specs.declared.Table.TheVariants.{Bits, Registers}
use Rattle.pdu.specs.declared.Asked.{Asked}
use Rattle.pdu.specs.declared.Asked.TheVariants.{Read, SingleWrite, MultipleWrite, MaskWrite, ReadWrite, Other}
use Rattle.pdu.proofs.RequestLaws.{known, sized, valued, ranged, check_exact, excepted_codes, check_tests, Tested, legal-passed}
use Rattle.rewrite.specs.Legal.{forbidden, fault_under, allowed, checked_under, legal}
use Rattle.rewrite.specs.Strict.{Carries}
use Rattle.rewrite.specs.Strict.Carries.{single, multiple, both}
use Rattle.pdu.specs.declared.Fault.TheVariants.{BadFunction, BadLength, Excepted}
use Rattle.std.specs.Prelude.{Ok, Err}

module _ (tags : List Tag) (f : List ℕ) where
  tests : {x : Checked} → checked_of f ≡ x → Tested f x
  tests {x} e = rw e at (check_tests f)

  -- A request whose bytes are in order has under tags no fault where none forbids it,
  pub legal_fault : {a : Asked} → checked_of f ≡ Ok a → forbidden tags a f ≡ false → fault_under tags f ≡ 0
  unfolding fault_under
  legal_fault e b = let t = tests e in rw t.2 (rw (rw t.3 at b) refl)

  -- and exception 03 where one does.
  pub forbidden_fault : {a : Asked} → checked_of f ≡ Ok a → forbidden tags a f ≡ true → fault_under tags f ≡ 3
  unfolding fault_under
  forbidden_fault e b = let t = tests e in rw t.2 (rw (rw t.3 at b) refl)

  -- An exception of its bytes comes before that of a tag.
  pub excepted_fault : {code : ℕ} → checked_of f ≡ Err (Excepted code) → (fault_under tags f ≡ code) × (eqb (fault_under tags f) 0 ≡ false)
  unfolding fault_under
  excepted_fault e = let t = tests e in (rw t.3 t.2, rw t.3 t.3)

  -- what the outcome of the check of its bytes comes to under tags
  abbrev pub under : Checked → Checked
  under (Ok a) = allowed tags f a
  under (Err e) = Err e

  pub under_is : {x : Checked} → checked_of f ≡ x → checked_under tags f ≡ under x
  unfolding checked_under
  under_is e = ap under e

  allowed-legal : (a b : Asked) → (allowed tags f b ≡ Ok a) ↔ ((◌≡◌ {A = Checked} (Ok b) (Ok a)) × (forbidden tags a f ≡ false))
  allowed-legal a b = (
    λ y. ⊎_elim
        (λ (t : forbidden tags b f ≡ true). never (cc (rw t at y)))
        (λ (t : forbidden tags b f ≡ false). let e : b ≡ a = cc (rw t at y) in (ap Ok e, rw e at t))
        (true_or (forbidden tags b f)),
    λ w. let e : b ≡ a = cc w.0 in rw e (rw w.1 refl),
  )

  checked_legal_by : (a : Asked) (x : Checked) → checked_of f ≡ x → (checked_under tags f ≡ Ok a) ↔ ((checked_of f ≡ Ok a) × (forbidden tags a f ≡ false))
  checked_legal_by a (Err k) e = rw (under_is e, e) (λ y. never (cc), λ w. never (cc w.0))
  checked_legal_by a (Ok b) e = rw (under_is e, e) (allowed-legal a b)

  -- Under tags a request is legal exactly where its bytes are in order and no tag forbids it.
  pub checked_legal : (a : Asked) → (checked_under tags f ≡ Ok a) ↔ ((checked_of f ≡ Ok a) × (forbidden tags a f ≡ false))
  checked_legal a = checked_legal_by a (checked_of f) refl

  allowed-excepted : (code : ℕ) (b : Asked) → b ≡ asked_of f → (allowed tags f b ≡ Err (Excepted code))
      ↔ ((◌≡◌ {A = Checked} (Ok b) (Err (Excepted code))) ⊎ ((code ≡ 3) × (◌≡◌ {A = Checked} (Ok b) (Ok (asked_of f))) × (forbidden tags (asked_of f) f ≡ true)))
  allowed-excepted code b same = (
    λ y. ⊎_elim
        (λ (t : forbidden tags b f ≡ true). inr (cc (rw t at y), ap Ok same, rw same at t))
        (λ (t : forbidden tags b f ≡ false). never (cc (rw t at y)))
        (true_or (forbidden tags b f)),
    λ w. ⊎_elim
        (λ (z : Ok b ≡ Err (Excepted code)). never (cc))
        (λ (z : (code ≡ 3) × (◌≡◌ {A = Checked} (Ok b) (Ok (asked_of f))) × (forbidden tags (asked_of f) f ≡ true)). rw same (rw z.2 (ap (λ (n : ℕ). Err (Excepted n)) (sym z.0))))
        w,
  )

  abbrev Excepting : ℕ → Type 0
  Excepting code = (checked_of f ≡ Err (Excepted code)) ⊎ ((code ≡ 3) × (checked_of f ≡ Ok (asked_of f)) × (forbidden tags (asked_of f) f ≡ true))

  other_excepted : (code : ℕ) (x : Checked) → ((a : Asked) → x ≡ Ok a → ⊥) → (x ≡ Err (Excepted code)) ↔ ((x ≡ Err (Excepted code)) ⊎ ((code ≡ 3) × (x ≡ Ok (asked_of f)) × (forbidden tags (asked_of f) f ≡ true)))
  other_excepted code x n = (
    inl,
    λ w. ⊎_elim (λ e. e) (λ (z : (code ≡ 3) × (x ≡ Ok (asked_of f)) × (forbidden tags (asked_of f) f ≡ true)). absurd (n (asked_of f) z.1)) w,
  )

  checked_excepted_by : (code : ℕ) (x : Checked) → checked_of f ≡ x → (checked_under tags f ≡ Err (Excepted code)) ↔ Excepting code
  checked_excepted_by code (Err k) e = rw (under_is e, e) (other_excepted code (Err k) (λ a z. never (cc)))
  checked_excepted_by code (Ok b) e = let same = (legal-passed f b e).asks in rw (under_is e, e) (allowed-excepted code b same)

  -- It gets an exception exactly where its bytes give that, or the exception is 03, its bytes are in order and a tag forbids it.
  pub checked_excepted : (code : ℕ) → (checked_under tags f ≡ Err (Excepted code))
      ↔ ((checked_of f ≡ Err (Excepted code)) ⊎ ((code ≡ 3) × (checked_of f ≡ Ok (asked_of f)) × (forbidden tags (asked_of f) f ≡ true)))
  checked_excepted code = checked_excepted_by code (checked_of f) refl

  -- The exceptions are 03 and 02, and no other.
  pub checked_codes : (code : ℕ) → checked_under tags f ≡ Err (Excepted code) → (code ≡ 3) ⊎ (code ≡ 2)
  checked_codes code e =
      ⊎_elim
      (λ (z : checked_of f ≡ Err (Excepted code)). excepted_codes f code z)
      (λ (z : (code ≡ 3) × (checked_of f ≡ Ok (asked_of f)) × (forbidden tags (asked_of f) f ≡ true)). inl z.0)
      ((checked_excepted code).0 e)

  -- Behind the refusals a request with a fault gets the exception of this fault.
  pub fault_excepted : bad_function (function_of f) ≡ false → bad_length (class_in f) f ≡ false → eqb (fault_under tags f) 0 ≡ false → checked_under tags f ≡ Err (Excepted (fault_under tags f))
  fault_excepted g h z = by (checked_of f) refl
    where
      by : (x : Checked) → checked_of f ≡ x → checked_under tags f ≡ Err (Excepted (fault_under tags f))
      by (Err BadFunction) e = absurd (true≢false (sym (tests e) ∙ g))
      by (Err BadLength) e = absurd (true≢false (sym (tests e).1 ∙ h))
      by (Err (Excepted n)) e = (checked_excepted _).1 (inl (e ∙ ap (λ (n : ℕ). Err (Excepted n)) (sym (excepted_fault e).0)))
      by (Ok b) e =
          ⊎_elim
          (λ (t : forbidden tags b f ≡ true). let same = (legal-passed f b e).asks in
          (checked_excepted _).1 (inr (forbidden_fault e t, e ∙ ap Ok same, rw same at t)))
          (λ (t : forbidden tags b f ≡ false). absurd (true≢false (sym (ap (λ n. eqb n 0) (legal_fault e t)) ∙ z)))
          (true_or (forbidden tags b f))

  -- Where no tag forbids what is asked, the bytes alone decide.
  pub allowed_fault : forbidden tags (asked_of f) f ≡ false → fault_under tags f ≡ fault_of f
  unfolding fault_under
  allowed_fault e = rw e (plain (fault_of f))
    where
      plain : (n : ℕ) → cond (eqb n 0) 0 n ≡ n
      plain n = ⊎_elim (λ (z : eqb n 0 ≡ true). rw z (sym (eqb-true n 0 z))) (λ (z : eqb n 0 ≡ false). rw z refl) (true_or (eqb n 0))

  -- No tag forbids a read: of a read the bytes alone decide.
  pub read_allowed : (t : Table) (s q : ℕ) → forbidden tags (Read t s q) f ≡ false
  unfolding forbidden
  read_allowed t s q = refl

  pub read_fault : {t : Table} {s q : ℕ} → asked_of f ≡ Read t s q → fault_under tags f ≡ fault_of f
  read_fault {t} {s} {q} e = allowed_fault (ap (λ a. forbidden tags a f) e ∙ read_allowed t s q)

  -- Nor a write of coils, nor any other function: what a tag forbids carries registers, or masks one.
  pub forbidden_carries : (a : Asked) → forbidden tags a f ≡ true
      → ((base : ℕ) × (start : ℕ) × (quantity : ℕ) × Carries a base start quantity) ⊎ ((at : ℕ) × (x : ℕ) × (y : ℕ) × (a ≡ MaskWrite at x y))
  unfolding forbidden
  forbidden_carries (Read t s q) e = absurd (false≢true e)
  forbidden_carries (SingleWrite Bits a v) e = absurd (false≢true e)
  forbidden_carries (SingleWrite Registers a v) e = inl (10, a, 1, single)
  forbidden_carries (MultipleWrite Bits s q) e = absurd (false≢true e)
  forbidden_carries (MultipleWrite Registers s q) e = inl (13, s, q, multiple)
  forbidden_carries (MaskWrite a x y) e = inr (a, x, y, refl)
  forbidden_carries (ReadWrite s q u p) e = inl (17, u, p, both)
  forbidden_carries Other e = absurd (false≢true e)

no_fault : (v a : Bool) → (eqb (cond v illegal_value (cond a illegal_address 0)) 0 ≡ true) ↔ ((v ≡ false) × (a ≡ false))
no_fault true a = (λ e. absurd (false≢true e), λ w. absurd (true≢false w.0))
no_fault false true = (λ e. absurd (false≢true e), λ w. absurd (true≢false w.1))
no_fault false false = (λ e. (refl, refl), λ w. refl)

no_fault_under : (n : ℕ) (z b : Bool) → eqb n 0 ≡ z → (eqb (cond z (cond b illegal_value 0) n) 0 ≡ true) ↔ ((z ≡ true) × (b ≡ false))
no_fault_under n true true e = (λ x. absurd (false≢true x), λ w. absurd (true≢false w.1))
no_fault_under n true false e = (λ x. (refl, refl), λ w. refl)
no_fault_under n false b e = (λ x. absurd (false≢true (sym e ∙ x)), λ w. absurd (false≢true w.0))

-- A request that passed the refusals has no fault under tags exactly where its bytes have none and no tag forbids it.
pub faultless_exactly : (tags : List Tag) (f : List ℕ) → (eqb (fault_under tags f) 0 ≡ true) ↔ ((eqb (fault_of f) 0 ≡ true) × (forbidden tags (asked_of f) f ≡ false))
unfolding fault_under
faultless_exactly tags f = no_fault_under (fault_of f) (eqb (fault_of f) 0) (forbidden tags (asked_of f) f) refl

-- A frame is legal exactly where it is not refused as a frame, every check of its class passes, and no tag forbids it.
pub legal_exact : (s : Value) (f : List ℕ) → (legal s f ≡ true)
    ↔ ((misframed f ≡ false) × (Known (function_of f) × (Sized (class_in f) f × ((Valued (class_in f) f × Ranged (class_in f) f) × (forbidden s.tags (asked_of f) f ≡ false)))))
unfolding legal fault_of
legal_exact s f =
    let c = class_in f in
    holds_and (not (misframed f)) _ (holds_not (misframed f))
    (holds_and (not (bad_function (function_of f))) _ (Iff.trans (holds_not (bad_function (function_of f))) (known (function_of f)))
    (holds_and (not (bad_length c f)) (eqb (fault_under s.tags f) 0) (Iff.trans (holds_not (bad_length c f)) (sized c f))
    (Iff.trans (faultless_exactly s.tags f) (Iff.and (Iff.trans (no_fault (bad_value c f) (bad_address c f)) (Iff.and (valued c f) (ranged c f))) (λ e. e, λ e. e)))))

-- A frame is legal exactly where it is not refused as a frame, its check comes to what it asks, and no tag forbids that.
pub legal_checked : (s : Value) (f : List ℕ) → (legal s f ≡ true) ↔ ((misframed f ≡ false) × (checked_of f ≡ Ok (asked_of f)) × (forbidden s.tags (asked_of f) f ≡ false))
legal_checked s f = (
  λ e. let w = (legal_exact s f).0 e in
      (w.0, (check_exact f (Ok (asked_of f))).1 (fine w.1.0 w.1.1.0 w.1.1.1.0.0 w.1.1.1.0.1), w.1.1.1.1),
  λ w. let p = legal-passed f (asked_of f) w.1 in (legal_exact s f).1 (w.0, (p.function, (p.size, ((p.value, p.range), w.2)))),
)

-- The code under tags is 0, 2 or 3.
pub fault_under_small : (tags : List Tag) (f : List ℕ) → fault_under tags f < 4
unfolding fault_under fault_of
fault_under_small tags f = small (bad_value (class_in f) f) (bad_address (class_in f) f) (forbidden tags (asked_of f) f)
  where
    small : (v a b : Bool) → cond (eqb (cond v illegal_value (cond a illegal_address 0)) 0) (cond b illegal_value 0) (cond v illegal_value (cond a illegal_address 0)) < 4
    small true a b = omega arith
    small false true b = omega arith
    small false false true = omega arith
    small false false false = omega arith
