-- What the outcome of a request's check under tags tells of each test of the definition (request #108).
-- Assumes nothing.
use Prim.Native.Nat.{ℕ}
use mathlib.Core.Path.{◌≡◌, refl, ap}
use mathlib.Core.Logic.{⊎_elim}
use mathlib.Core.Bool.{true, false}
use mathlib.Core.List.{List}
use lib.Dec.{eqb}
use Rattle.laws.proofs.Choice.{true_or}
use Rattle.wire.specs.Frame.{function_of}
use Rattle.settings.specs.Grammar.{Tag}
use Rattle.pdu.specs.Requests.{bad_function, bad_length, checked_of, Checked}
use Rattle.pdu.specs.Plain.{class_in}
use Rattle.pdu.proofs.RequestLaws.{Tested, check_tests}
use Rattle.rewrite.specs.Legal.{forbidden, fault_under, checked_under}
use Rattle.rewrite.proofs.LegalLaws.{under, under_is, legal_fault, forbidden_fault, excepted_fault}
use Rattle.pdu.specs.declared.Fault.TheVariants.{BadFunction, BadLength, Excepted}
use Rattle.std.specs.Prelude.{Ok, Err}

-- what each outcome tells: of the refusals what it tells without tags, of the exceptions the fault under tags, and of a legal request that its bytes are in order
abbrev pub TestedUnder : List Tag → List ℕ → Checked → Type 0
TestedUnder tags f (Err BadFunction) = bad_function (function_of f) ≡ true
TestedUnder tags f (Err BadLength) = (bad_function (function_of f) ≡ false) × (bad_length (class_in f) f ≡ true)
TestedUnder tags f (Err (Excepted code)) =
    (bad_function (function_of f) ≡ false) × (bad_length (class_in f) f ≡ false) × (fault_under tags f ≡ code) × (eqb (fault_under tags f) 0 ≡ false)
TestedUnder tags f (Ok a) = (bad_function (function_of f) ≡ false) × (bad_length (class_in f) f ≡ false) × (fault_under tags f ≡ 0) × (checked_of f ≡ Ok a)

module _ (tags : List Tag) (f : List ℕ) where
  tests_by : (x : Checked) → checked_of f ≡ x → Tested f x → TestedUnder tags f (under tags f x)
  tests_by (Err BadFunction) e t = t
  tests_by (Err BadLength) e t = t
  tests_by (Err (Excepted code)) e t = let u = excepted_fault tags f e in (t.0, t.1, u.0, u.1)
  tests_by (Ok a) e t =
      ⊎_elim
      (λ (b : forbidden tags a f ≡ true). let n = forbidden_fault tags f e b in rw b (t.0, t.1, n, ap (λ (k : ℕ). eqb k 0) n))
      (λ (b : forbidden tags a f ≡ false). rw b (t.0, t.1, legal_fault tags f e b, e))
      (true_or (forbidden tags a f))

  -- The outcome of the check under tags tells the value of each test.
  pub under_tests : {x : Checked} → checked_under tags f ≡ x → TestedUnder tags f x
  under_tests e = let t : TestedUnder tags f (checked_under tags f) = rw (under_is tags f refl) (tests_by (checked_of f) refl (check_tests f)) in rw e at t
