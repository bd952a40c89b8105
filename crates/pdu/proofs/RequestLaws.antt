-- What the check of a request comes to, exactly when, by the class of its function; and what is known of a legal request.
-- Assumes nothing.
use Prim.Native.Nat.{ℕ, ◌+◌, ◌*◌, ◌/◌, ◌%◌, ◌≤◌, ◌<◌}
use mathlib.Core.Path.{◌≡◌, refl, sym, ◌∙◌}
use mathlib.Core.Logic.{◌↔◌, ⊎_elim, ◌⊎◌, inl, inr}
use mathlib.Core.Bool.{Bool, true, false, cond, not, ◌||◌}
use mathlib.Core.List.{List}
use native.Mathlib.Nat.{mod-eq_of_lt}
use native.Mathlib.Omega.{arith}
use lib.Arith.{digits_div, digits_mod}
use lib.ListN.{length, get_or}
use lib.Dec.{eqb, ltb}
use borrow.Author.Tests.{eqb-true, ne_eqb}
use Rattle.numbers.specs.Numbers.{last_function, most_read, most_read_written, coil_off, coil_on, short_pdu, multiple_pdu, mask_pdu, read_write_pdu, addresses, illegal_address, illegal_value}
use Rattle.laws.specs.Bytes.{pair_at}
use Rattle.laws.proofs.Choice.{true_or, eq_or, lt_or, or_either, never}
use Rattle.wire.specs.Frame.{unit_of, function_of, pdu_size}
use Rattle.pdu.specs.Requests.{class_of, start_of, quantity_of, value_of, byte_count_of, write_start_of, write_quantity_of, write_count_of, bytes_for, most_read_of, most_written_of, bad_function, bad_length, bad_value, bad_address, asked_by, asked_of, fault_of, checked_by, checked_of, Checked}
use Rattle.pdu.specs.Replies.{what}
use Rattle.pdu.specs.Words.{asked_bits, asked_from, Lawful, Proper}
use Rattle.pdu.specs.declared.Table.TheVariants.{Bits, Registers}
use Rattle.pdu.specs.declared.Class.{Class}
use Rattle.pdu.specs.declared.Class.TheVariants.{Reads, WritesOne, WritesMany, Masks, ReadsWrites, Others}
use Rattle.pdu.specs.declared.Asked.{Asked}
use Rattle.pdu.specs.declared.Asked.TheVariants.{Read, SingleWrite, MultipleWrite, MaskWrite, ReadWrite, Other}
use Rattle.laws.proofs.TestLaws.{holds_eq, holds_or, fails_not, fails_ne, fails_lt, fails_zero, fails_or, fails_never, fails_holds, either}
use Rattle.pdu.specs.Plain.{Known, Sized, Valued, Ranged, class_in, Outcome}
use Rattle.pdu.specs.Plain.Outcome.{unknown, missized, misvalued, misranged, fine}
use Rattle.pdu.specs.declared.Fault.TheVariants.{BadFunction, BadLength, Excepted}
use Rattle.std.specs.Prelude.{Ok, Err}

-- Refusal 5 fails exactly for 1 to 127.
pub known : (n : ℕ) → (bad_function n ≡ false) ↔ Known n
unfolding bad_function
known n = fails_or (eqb n 0) (ltb last_function n) (fails_zero n) (fails_lt last_function n)

-- A request may read 2,000 bits or 125 registers and write 1,968 bits or 123 registers, and a register takes two bytes.
pub limits : (most_read_of Bits ≡ 2000) × (most_read_of Registers ≡ 125) × (most_written_of Bits ≡ 1968) × (most_written_of Registers ≡ 123)
limits = (refl, refl, refl, refl)

-- Bits take n bytes exactly where n bytes hold them all and one byte fewer would not.
pub bits_exact : (q n : ℕ) → (bytes_for Bits q ≡ n) ↔ ((q ≤ 8 * n) × (8 * n < q + 8))
bits_exact q n = (λ e. (omega arith, omega arith), λ w. omega (arith, w.0, w.1))

-- Registers take n bytes exactly where n is twice their number.
pub registers_exact : (q n : ℕ) → (bytes_for Registers q ≡ n) ↔ (n ≡ 2 * q)
registers_exact q n = (sym, sym)

-- Refusal 6 fails exactly where the size is right.
pub sized : (c : Class) (f : List ℕ) → (bad_length c f ≡ false) ↔ Sized c f
unfolding bad_length
sized (Reads t) f = fails_ne (pdu_size f) short_pdu
sized (WritesOne t) f = fails_ne (pdu_size f) short_pdu
sized (WritesMany t) f =
    fails_or (ltb (pdu_size f) multiple_pdu) (not (eqb (pdu_size f) (multiple_pdu + byte_count_of f)))
    (fails_lt (pdu_size f) multiple_pdu)
    (fails_ne (pdu_size f) (multiple_pdu + byte_count_of f))
sized Masks f = fails_ne (pdu_size f) mask_pdu
sized ReadsWrites f =
    fails_or (ltb (pdu_size f) read_write_pdu) (not (eqb (pdu_size f) (read_write_pdu + write_count_of f)))
    (fails_lt (pdu_size f) read_write_pdu)
    (fails_ne (pdu_size f) (read_write_pdu + write_count_of f))
sized Others f = fails_never

-- Exception 03 fails exactly where the numbers are right.
pub valued : (c : Class) (f : List ℕ) → (bad_value c f ≡ false) ↔ Valued c f
unfolding bad_value
valued (Reads t) f = fails_or (eqb (quantity_of f) 0) (ltb (most_read_of t) (quantity_of f)) (fails_zero (quantity_of f)) (fails_lt (most_read_of t) (quantity_of f))
valued (WritesOne Bits) f =
    fails_not (eqb (value_of f) coil_off || eqb (value_of f) coil_on)
    (holds_or (eqb (value_of f) coil_off) (eqb (value_of f) coil_on) (holds_eq (value_of f) coil_off) (holds_eq (value_of f) coil_on))
valued (WritesOne Registers) f = fails_never
valued (WritesMany t) f =
    let q = quantity_of f in
    let n = bytes_for t q in
    fails_or (eqb q 0) (ltb (most_written_of t) q || not (eqb (byte_count_of f) n))
    (fails_zero q)
    (fails_or (ltb (most_written_of t) q) (not (eqb (byte_count_of f) n)) (fails_lt (most_written_of t) q) (fails_ne (byte_count_of f) n))
valued Masks f = fails_never
valued ReadsWrites f =
    let q = quantity_of f in
    let p = write_quantity_of f in
    let n = bytes_for Registers p in
    fails_or (eqb q 0) (ltb most_read q || (eqb p 0 || (ltb most_read_written p || not (eqb (write_count_of f) n))))
    (fails_zero q)
    (fails_or (ltb most_read q) (eqb p 0 || (ltb most_read_written p || not (eqb (write_count_of f) n)))
    (fails_lt most_read q)
    (fails_or (eqb p 0) (ltb most_read_written p || not (eqb (write_count_of f) n))
    (fails_zero p)
    (fails_or (ltb most_read_written p) (not (eqb (write_count_of f) n)) (fails_lt most_read_written p) (fails_ne (write_count_of f) n))))
valued Others f = fails_never

-- Exception 02 fails exactly where the range ends within the addresses, of 23 both.
pub ranged : (c : Class) (f : List ℕ) → (bad_address c f ≡ false) ↔ Ranged c f
unfolding bad_address
ranged (Reads t) f = fails_lt addresses (start_of f + quantity_of f)
ranged (WritesOne t) f = fails_never
ranged (WritesMany t) f = fails_lt addresses (start_of f + quantity_of f)
ranged Masks f = fails_never
ranged ReadsWrites f =
    let s = start_of f + quantity_of f in
    let u = write_start_of f + write_quantity_of f in
    fails_or (ltb addresses s) (ltb addresses u) (fails_lt addresses s) (fails_lt addresses u)
ranged Others f = fails_never

-- Refusal 6 comes before the exceptions.
pub checked_missized : (c : Class) (f : List ℕ) → bad_length c f ≡ true → checked_by c f ≡ Err BadLength
unfolding checked_by
checked_missized c f e = rw e

-- the code of a fault as an outcome
flat : (v a : Bool) (x : Asked) → cond (eqb (cond v illegal_value (cond a illegal_address 0)) 0) (Ok x) (Err (Excepted (cond v illegal_value (cond a illegal_address 0)))) ≡ cond v (Err (Excepted illegal_value)) (cond a (Err (Excepted illegal_address)) (Ok x))
flat true a x = refl
flat false true x = refl
flat false false x = refl

-- Behind refusal 6 exception 03 comes before exception 02, and a request that has neither is legal.
pub checked_sized : (c : Class) (f : List ℕ) → bad_length c f ≡ false → checked_by c f ≡ cond (bad_value c f) (Err (Excepted illegal_value)) (cond (bad_address c f) (Err (Excepted illegal_address)) (Ok (asked_by c f)))
unfolding checked_by
checked_sized c f e = rw e (flat (bad_value c f) (bad_address c f) (asked_by c f))

-- A request of any other function is legal, whatever it holds.
pub checked_other : (f : List ℕ) → checked_by Others f ≡ Ok Other
unfolding checked_by bad_length bad_value bad_address asked_by
checked_other f = refl

-- Refusal 5 comes before all else.
pub checked_unknown : {n : ℕ} (f : List ℕ) → n ≡ function_of f → (eqb n 0 || ltb last_function n) ≡ true → checked_of f ≡ Err BadFunction
unfolding checked_of bad_function
checked_unknown f e t = rw (rw e at t)

-- Behind refusal 5 the class of the function decides.
pub checked_class : (c : Class) {n : ℕ} {k : Class} (f : List ℕ) → n ≡ function_of f → (eqb n 0 || ltb last_function n) ≡ false → k ≡ class_of n → k ≡ c → checked_of f ≡ checked_by c f
unfolding checked_of bad_function
checked_class c f e t g h = rw (rw e at t) (rw (sym (rw e at g) ∙ h) refl)

-- 01 and 02 read bits, 03 and 04 registers.
pub class_read_bits : (n : ℕ) → (n ≡ 1) ⊎ (n ≡ 2) → class_of n ≡ Reads Bits
unfolding class_of
class_read_bits n w = ⊎_elim (λ e. rw e) (λ e. rw e) w

pub class_read : (n : ℕ) → (n ≡ 3) ⊎ (n ≡ 4) → class_of n ≡ Reads Registers
unfolding class_of
class_read n w = ⊎_elim (λ e. rw e) (λ e. rw e) w

-- and no other function reads registers.
pub read_class : (n : ℕ) → class_of n ≡ Reads Registers → (n ≡ 3) ⊎ (n ≡ 4)
unfolding class_of
read_class n e =
    ⊎_elim
    (λ (t : (eqb n 1 || eqb n 2) ≡ true). never (cc (rw t at e)))
    (λ (t : (eqb n 1 || eqb n 2) ≡ false). ⊎_elim
    (λ (u : (eqb n 3 || eqb n 4) ≡ true). ⊎_elim (λ a. inl (eqb-true n 3 a)) (λ b. inr (eqb-true n 4 b)) (or_either (eqb n 3) (eqb n 4) u))
    (λ (u : (eqb n 3 || eqb n 4) ≡ false). absurd (writes (eqb n 5) (eqb n 6) (eqb n 15) (eqb n 16) (eqb n 22) (eqb n 23) (rw u at (rw t at e))))
    (true_or (eqb n 3 || eqb n 4)))
    (true_or (eqb n 1 || eqb n 2))
  where
    writes : (a b c d m n : Bool) → cond a (WritesOne Bits) (cond b (WritesOne Registers) (cond c (WritesMany Bits) (cond d (WritesMany Registers) (cond m Masks (cond n ReadsWrites Others))))) ≡ Reads Registers → ⊥
    writes true b c d m n e = never (cc)
    writes false true c d m n e = never (cc)
    writes false false true d m n e = never (cc)
    writes false false false true m n e = never (cc)
    writes false false false false true n e = never (cc)
    writes false false false false false true e = never (cc)
    writes false false false false false false e = never (cc)

-- 05 and 06 are the single writes.
pub class_single : (class_of 5 ≡ WritesOne Bits) × (class_of 6 ≡ WritesOne Registers)
unfolding class_of
class_single = (refl, refl)

-- 15 and 16 are the multiple writes.
pub class_multiple : (class_of 15 ≡ WritesMany Bits) × (class_of 16 ≡ WritesMany Registers)
unfolding class_of
class_multiple = (refl, refl)

-- 22 writes a register by masks, 23 reads and writes registers.
pub class_mask : class_of 22 ≡ Masks
unfolding class_of
class_mask = refl

pub class_read_write : class_of 23 ≡ ReadsWrites
unfolding class_of
class_read_write = refl

-- Every other function is looked into no further.
pub class_other : (n : ℕ) → (n ≡ 1 → ⊥) → (n ≡ 2 → ⊥) → (n ≡ 3 → ⊥) → (n ≡ 4 → ⊥) → (n ≡ 5 → ⊥) → (n ≡ 6 → ⊥) → (n ≡ 15 → ⊥) → (n ≡ 16 → ⊥) → (n ≡ 22 → ⊥) → (n ≡ 23 → ⊥) → class_of n ≡ Others
unfolding class_of
class_other n a b c d e f g h i j =
    simp (ne_eqb n 1 a, ne_eqb n 2 b, ne_eqb n 3 c, ne_eqb n 4 d, ne_eqb n 5 e, ne_eqb n 6 f, ne_eqb n 15 g, ne_eqb n 16 h, ne_eqb n 22 i, ne_eqb n 23 j)

-- every request has an outcome
some-outcome : (f : List ℕ) → (x : Checked) × Outcome f x
some-outcome f =
    ⊎_elim
    (λ k. ⊎_elim
    (λ s. ⊎_elim
    (λ v. ⊎_elim (λ r. (Ok (asked_of f), fine k s v r)) (λ r. (Err (Excepted 2), misranged k s v r)) (either (ranged (class_in f) f)))
    (λ v. (Err (Excepted 3), misvalued k s v))
    (either (valued (class_in f) f)))
    (λ s. (Err BadLength, missized k s))
    (either (sized (class_in f) f)))
    (λ k. (Err BadFunction, unknown k))
    (either (known (function_of f)))

-- and it is the one that the check comes to
the_outcome : (f : List ℕ) (x : Checked) → Outcome f x → checked_of f ≡ x
unfolding checked_of
the_outcome f x (unknown k) = rw (fails_holds (known (function_of f)) k)
the_outcome f x (missized k s) = rw ((known (function_of f)).1 k) (checked_missized (class_in f) f (fails_holds (sized (class_in f) f) s))
the_outcome f x (misvalued k s v) =
    rw ((known (function_of f)).1 k) (checked_sized (class_in f) f ((sized (class_in f) f).1 s) ∙ rw (fails_holds (valued (class_in f) f) v) refl)
the_outcome f x (misranged k s v r) =
    rw ((known (function_of f)).1 k)
    (checked_sized (class_in f) f ((sized (class_in f) f).1 s) ∙ rw ((valued (class_in f) f).1 v) (rw (fails_holds (ranged (class_in f) f) r) refl))
the_outcome f x (fine k s v r) =
    rw ((known (function_of f)).1 k)
    (checked_sized (class_in f) f ((sized (class_in f) f).1 s) ∙ rw ((valued (class_in f) f).1 v) (rw ((ranged (class_in f) f).1 r) refl))

-- The check of a request comes to an outcome exactly when that is the request's.
pub check_exact : (f : List ℕ) (x : Checked) → (checked_of f ≡ x) ↔ Outcome f x
check_exact f x = (λ e. rw (sym e ∙ the_outcome f (some-outcome f).0 (some-outcome f).1) (some-outcome f).1, the_outcome f x)

-- Refusal 5 is given for function 0 and for 128 to 255, and for no other.
pub bad_function_exact : (f : List ℕ) → function_of f < 256 → (checked_of f ≡ Err BadFunction) ↔ ((function_of f ≡ 0) ⊎ ((128 ≤ function_of f) × (function_of f ≤ 255)))
bad_function_exact f b = (λ e. out ((check_exact f (Err BadFunction)).0 e), λ w. (check_exact f (Err BadFunction)).1 (unknown (λ k. ⊎_elim (λ z. omega arith) (λ z. omega (arith, z)) w)))
  where
    out : Outcome f (Err BadFunction) → (function_of f ≡ 0) ⊎ ((128 ≤ function_of f) × (function_of f ≤ 255))
    out (unknown k) = ⊎_elim (λ z. inl z) (λ z. inr (⊎_elim (λ l. absurd (k (omega (arith, z), omega arith))) (λ l. (l, omega arith)) (lt_or (function_of f) 128))) (eq_or (function_of f) 0)

-- The exceptions are 03 and 02, and no other.
pub excepted_codes : (f : List ℕ) (code : ℕ) → checked_of f ≡ Err (Excepted code) → (code ≡ 3) ⊎ (code ≡ 2)
excepted_codes f code e = codes ((check_exact f (Err (Excepted code))).0 e)
  where
    codes : {n : ℕ} → Outcome f (Err (Excepted n)) → (n ≡ 3) ⊎ (n ≡ 2)
    codes (misvalued k s v) = inl refl
    codes (misranged k s v r) = inr refl

-- what each outcome tells of the definition's tests
abbrev pub Tested : List ℕ → Checked → Type 0
Tested f (Err BadFunction) = bad_function (function_of f) ≡ true
Tested f (Err BadLength) = (bad_function (function_of f) ≡ false) × (bad_length (class_in f) f ≡ true)
Tested f (Err (Excepted code)) = (bad_function (function_of f) ≡ false) × (bad_length (class_in f) f ≡ false) × (fault_of f ≡ code) × (eqb (fault_of f) 0 ≡ false)
Tested f (Ok a) = (bad_function (function_of f) ≡ false) × (bad_length (class_in f) f ≡ false) × (fault_of f ≡ 0) × (a ≡ asked_of f)

tests_of : (f : List ℕ) {x : Checked} → Outcome f x → Tested f x
unfolding fault_of
tests_of f (unknown k) = fails_holds (known (function_of f)) k
tests_of f (missized k s) = ((known (function_of f)).1 k, fails_holds (sized (class_in f) f) s)
tests_of f (misvalued k s v) =
    let e : fault_of f ≡ 3 = rw (fails_holds (valued (class_in f) f) v) in
    ((known (function_of f)).1 k, (sized (class_in f) f).1 s, e, rw e)
tests_of f (misranged k s v r) =
    let e : fault_of f ≡ 2 = rw ((valued (class_in f) f).1 v) (rw (fails_holds (ranged (class_in f) f) r) refl) in
    ((known (function_of f)).1 k, (sized (class_in f) f).1 s, e, rw e)
tests_of f (fine k s v r) =
    let e : fault_of f ≡ 0 = rw ((valued (class_in f) f).1 v) (rw ((ranged (class_in f) f).1 r) refl) in
    ((known (function_of f)).1 k, (sized (class_in f) f).1 s, e, refl)

-- The outcome of the check tells the value of each test of the definition.
pub check_tests : (f : List ℕ) → Tested f (checked_of f)
check_tests f = tests_of f ((check_exact f (checked_of f)).0 refl)

-- what is known of a legal request
pub record Passed (f : List ℕ) (a : Asked) : Type 0 where
  pub function : Known (function_of f)
  pub size : Sized (class_in f) f
  pub value : Valued (class_in f) f
  pub range : Ranged (class_in f) f
  pub asks : a ≡ asked_of f

-- A legal request passed every check, and asks what its frame says.
pub legal-passed : (f : List ℕ) (a : Asked) → checked_of f ≡ Ok a → Passed f a
legal-passed f a e = facts ((check_exact f (Ok a)).0 e)
  where
    facts : {x : Asked} → Outcome f (Ok x) → Passed f x
    facts (fine k s v r) = record { function = k; size = s; value = v; range = r; asks = refl }

-- the bytes that a legal request has
abbrev pub RequestRoom : Asked → List ℕ → Type 0
RequestRoom (Read t s q) f = 12 ≡ length f
RequestRoom (SingleWrite t a v) f = 12 ≡ length f
RequestRoom (MultipleWrite t s q) f = 13 + bytes_for t q ≡ length f
RequestRoom (MaskWrite a x y) f = 14 ≡ length f
RequestRoom (ReadWrite s q u p) f = 17 + bytes_for Registers p ≡ length f
RequestRoom Other f = Unit {0}

room_by : (c : Class) (f : List ℕ) → Sized c f → Valued c f → RequestRoom (asked_by c f) f
unfolding asked_by
room_by (Reads t) f h v = omega arith
room_by (WritesOne t) f h v = omega arith
room_by (WritesMany t) f h v = omega (arith, h, v)
room_by Masks f h v = omega arith
room_by ReadsWrites f h v = omega (arith, h, v)
room_by Others f h v = tt

-- A legal request has exactly the bytes that what it asks calls for.
pub legal-room : (f : List ℕ) (a : Asked) → checked_of f ≡ Ok a → RequestRoom a f
legal-room f a e = let p = legal-passed f a e in rw p.asks (room_by (class_in f) f p.size p.value)

-- numbers of 16 bits, of bytes
pair_low : (f : List ℕ) (k : ℕ) → ((j : ℕ) → get_or f j 0 < 256) → pair_at f k < 65536
pair_low f k b = omega (arith, b k, b (k + 1))

-- two of them, one above the other, come back
fields : {s q : ℕ} → s < 65536 → q < 65536 → ((s * 65536 + q) / 65536 % 65536 ≡ s) × ((s * 65536 + q) % 65536 ≡ q)
fields {s} h l = (rw (digits_div s l) (mod-eq_of_lt h), digits_mod s l)

-- three of them
three_fields : {a x y : ℕ} → a < 65536 → x < 65536 → y < 65536
    → let n = (a * 65536 + x) * 65536 + y in (n / 65536 / 65536 % 65536 ≡ a) × (n / 65536 % 65536 ≡ x) × (n % 65536 ≡ y)
three_fields {a} {x} h l m =
    let e = digits_div (a * 65536 + x) m in
    (rw e (rw (digits_div a l) (mod-eq_of_lt h)), rw e (digits_mod a l), digits_mod (a * 65536 + x) m)

-- and two of them with a number of 7 bits below each
four_fields : {s q u p : ℕ} → s < 65536 → q < 128 → u < 65536 → p < 128
    → let n = ((s * 128 + q) * 65536 + u) * 128 + p in (n / 128 / 65536 / 128 % 65536 ≡ s) × (n / 128 / 65536 % 128 ≡ q) × (n / 128 % 65536 ≡ u) × (n % 128 ≡ p)
four_fields {s} {q} {u} h k l m =
    let d = s * 128 + q in
    let e = digits_div (d * 65536 + u) m in
    let g = digits_div d l in
    (rw e (rw g (rw (digits_div s k) (mod-eq_of_lt h))), rw e (rw g (digits_mod s k)), rw e (digits_mod d l), digits_mod (d * 65536 + u) m)

asked_bits_back : (c : Class) (f : List ℕ) → ((k : ℕ) → get_or f k 0 < 256) → Valued c f → asked_from c (asked_bits (asked_by c f)) ≡ asked_by c f
unfolding asked_from asked_bits asked_by
asked_bits_back (Reads t) f b v = let e = fields (pair_low f 8 b) (pair_low f 10 b) in rw (e.0, e.1)
asked_bits_back (WritesOne t) f b v = let e = fields (pair_low f 8 b) (pair_low f 10 b) in rw (e.0, e.1)
asked_bits_back (WritesMany t) f b v = let e = fields (pair_low f 8 b) (pair_low f 10 b) in rw (e.0, e.1)
asked_bits_back Masks f b v = let e = three_fields (pair_low f 8 b) (pair_low f 10 b) (pair_low f 12 b) in rw (e.0, e.1, e.2)
asked_bits_back ReadsWrites f b v =
    let q : quantity_of f < 128 = omega (arith, v) in
    let p : write_quantity_of f < 128 = omega (arith, v) in
    let e = four_fields (pair_low f 8 b) q (pair_low f 12 b) p in
    rw (e.0, e.1, e.2, e.3)
asked_bits_back Others f b v = refl

lawful_by : (c : Class) (f : List ℕ) → ((k : ℕ) → get_or f k 0 < 256) → Valued c f → Ranged c f → Lawful (asked_by c f)
unfolding Lawful asked_by
lawful_by (Reads t) f b v r = (v.0, v.1, r)
lawful_by (WritesOne Bits) f b v r = (pair_low f 8 b, v)
lawful_by (WritesOne Registers) f b v r = (pair_low f 8 b, pair_low f 10 b)
lawful_by (WritesMany t) f b v r = (v.0, v.1.0, r)
lawful_by Masks f b v r = (pair_low f 8 b, pair_low f 10 b, pair_low f 12 b)
lawful_by ReadsWrites f b v r = ((v.0, v.1.0, r.0), (v.1.1.0, v.1.1.1.0, r.1))
lawful_by Others f b v r = tt

-- What a legal request of bytes asks may stand in a live entry.
pub legal_proper : (f : List ℕ) (a : Asked) → ((k : ℕ) → get_or f k 0 < 256) → checked_of f ≡ Ok a → Proper (what (unit_of f) (function_of f) a)
legal_proper f a b e =
    let p = legal-passed f a e in
    rw p.asks (record {
      unit = b 6;
      function = (known (function_of f)).1 p.function;
      class = asked_bits_back (class_in f) f b p.value;
      lawful = lawful_by (class_in f) f b p.value p.range;
    })
