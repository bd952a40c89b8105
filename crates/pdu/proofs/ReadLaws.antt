-- What is a read, and of which functions; equal reads ask the same and have the same fault, a read is equal to itself, and what is no read is equal to nothing.
-- Assumes nothing.
use Prim.Native.Nat.{ℕ}
use mathlib.Core.Path.{◌≡◌, refl, ap, sym, ◌∙◌}
use mathlib.Core.Logic.Iff
use mathlib.Core.Logic.{◌↔◌, ⊎_elim, ⊎_map, ◌⊎◌, inl, inr}
use mathlib.Core.Bool.{true, false, ◌&&◌, false≢true, and-false}
use mathlib.Core.List.{List}
use lib.Dec.{eqb}
use borrow.Author.Tests.{eq-eqb, eqb-true}
use Rattle.laws.proofs.Choice.{and_left, and_right, never}
use Rattle.laws.proofs.TestLaws.{holds_eq, holds_and}
use Rattle.wire.specs.Frame.{function_of}
use Rattle.pdu.specs.Requests.{class_of, start_of, quantity_of, bad_value, bad_address, asked_by, asked_of, fault_by, fault_of}
use Rattle.pdu.specs.Replies.{what}
use Rattle.pdu.specs.declared.What.{What}
use Rattle.pdu.specs.Spoiling.{same_table}
use Rattle.pdu.specs.Reads.{is_read, same_read, equal_reads}
use Rattle.pdu.specs.Words.{asked_from, what_of}
use Rattle.pdu.specs.declared.Class.{Class}
use Rattle.pdu.specs.declared.Class.TheVariants.{Reads, WritesOne, WritesMany, Masks, ReadsWrites, Others}
use Rattle.pdu.specs.declared.Table.{Table}
use Rattle.pdu.specs.declared.Table.TheVariants.{Bits, Registers}
use Rattle.pdu.specs.declared.Asked.{Asked}
use Rattle.pdu.specs.declared.Asked.TheVariants.{Read, SingleWrite, MultipleWrite, MaskWrite, ReadWrite, Other}
use Rattle.pdu.proofs.SpoilingLaws.{same-table, class_exact}

-- What is a read reads so many from some start on, of bits or of registers.
pub read_is : (a : Asked) → is_read a ≡ true → (t : Table) × (s : ℕ) × (q : ℕ) × (a ≡ Read t s q)
unfolding is_read
read_is (Read t s q) e = (t, s, q, refl)
read_is (SingleWrite t a v) e = absurd (false≢true e)
read_is (MultipleWrite t s q) e = absurd (false≢true e)
read_is (MaskWrite a x y) e = absurd (false≢true e)
read_is (ReadWrite s q u p) e = absurd (false≢true e)
read_is Other e = absurd (false≢true e)

-- What is no read reads nothing.
pub no_read : (a : Asked) → is_read a ≡ false → (t : Table) (s q : ℕ) → a ≡ Read t s q → ⊥
unfolding is_read
no_read a e t s q r = false≢true (sym e ∙ ap is_read r)

-- a class asks for a read exactly if it is one of reads
read_class_exact : (c : Class) (n : ℕ) → (is_read (asked_from c n) ≡ true) ↔ ((c ≡ Reads Bits) ⊎ (c ≡ Reads Registers))
unfolding is_read asked_from
read_class_exact (Reads Bits) n = (λ e. inl refl, λ w. refl)
read_class_exact (Reads Registers) n = (λ e. inr refl, λ w. refl)
read_class_exact (WritesOne t) n = (λ e. absurd (false≢true e), λ w. ⊎_elim (λ z. never (cc)) (λ z. never (cc)) w)
read_class_exact (WritesMany t) n = (λ e. absurd (false≢true e), λ w. ⊎_elim (λ z. never (cc)) (λ z. never (cc)) w)
read_class_exact Masks n = (λ e. absurd (false≢true e), λ w. ⊎_elim (λ z. never (cc)) (λ z. never (cc)) w)
read_class_exact ReadsWrites n = (λ e. absurd (false≢true e), λ w. ⊎_elim (λ z. never (cc)) (λ z. never (cc)) w)
read_class_exact Others n = (λ e. absurd (false≢true e), λ w. ⊎_elim (λ z. never (cc)) (λ z. never (cc)) w)

-- A word is that of a read exactly where its function is 01, 02, 03 or 04.
pub reads_exactly : (n : ℕ) → let f = (what_of n).function in (is_read (what_of n).asked ≡ true) ↔ (((f ≡ 1) ⊎ (f ≡ 2)) ⊎ ((f ≡ 3) ⊎ (f ≡ 4)))
unfolding what_of
reads_exactly n =
    let f = (what_of n).function in
    Iff.trans (read_class_exact (class_of f) _) (⊎_map (class_exact f (Reads Bits)).0 (class_exact f (Reads Registers)).0, ⊎_map (class_exact f (Reads Bits)).1 (class_exact f (Reads Registers)).1)

whats : {i j f g : ℕ} {a b : Asked} → i ≡ j → f ≡ g → a ≡ b → what i f a ≡ what j g b
whats p q r = rw (p, q, r)

what-same : (w u : What) → w.unit ≡ u.unit → w.function ≡ u.function → w.asked ≡ u.asked → w ≡ u
what-same w u p q r = whats p q r

same_read_lem : (a b : Asked) → same_read a b ≡ true → a ≡ b
unfolding same_read
same_read_lem (Read t s q) (Read r u p) e =
    let x = (holds_and (same_table t r) _ (same-table t r) (holds_and (eqb s u) (eqb q p) (holds_eq s u) (holds_eq q p))).0 e in
    rw (x.0, x.1.0, x.1.1)
same_read_lem (Read t s q) (SingleWrite r a v) e = absurd (false≢true e)
same_read_lem (Read t s q) (MultipleWrite r u p) e = absurd (false≢true e)
same_read_lem (Read t s q) (MaskWrite a x y) e = absurd (false≢true e)
same_read_lem (Read t s q) (ReadWrite v n u p) e = absurd (false≢true e)
same_read_lem (Read t s q) Other e = absurd (false≢true e)
same_read_lem (SingleWrite t a v) b e = absurd (false≢true e)
same_read_lem (MultipleWrite t s q) b e = absurd (false≢true e)
same_read_lem (MaskWrite a x y) b e = absurd (false≢true e)
same_read_lem (ReadWrite v n u p) b e = absurd (false≢true e)
same_read_lem Other b e = absurd (false≢true e)

-- Equal reads ask the same.
pub equal_exact : (w u : What) → equal_reads w u ≡ true → w ≡ u
unfolding equal_reads
equal_exact w u t =
    let units = eqb w.unit u.unit in
    let functions = eqb w.function u.function in
    let reads = same_read w.asked u.asked in
    let s = and_right units (functions && reads) t in
    what-same w u (eqb-true _ _ (and_left units (functions && reads) t)) (eqb-true _ _ (and_left functions reads s)) (same_read_lem _ _ (and_right functions reads s))

-- A read is equal to itself.
pub equal_self : (w : What) (t : Table) (s q : ℕ) → w.asked ≡ Read t s q → equal_reads w w ≡ true
unfolding equal_reads same_read
equal_self w t s q e = rw (e, eq-eqb w.unit w.unit refl, eq-eqb w.function w.function refl, (same-table t t).1 refl, eq-eqb s s refl, eq-eqb q q refl)

reads_other : (a b : Asked) → ((t : Table) (s q : ℕ) → a ≡ Read t s q → ⊥) → same_read a b ≡ false
unfolding same_read
reads_other (Read t s q) b other = absurd (other t s q refl)
reads_other (SingleWrite t a v) b other = refl
reads_other (MultipleWrite t s q) b other = refl
reads_other (MaskWrite a x y) b other = refl
reads_other (ReadWrite v n u p) b other = refl
reads_other Other b other = refl

-- What is no read is equal to nothing.
pub equal_other : (w u : What) → ((t : Table) (s q : ℕ) → w.asked ≡ Read t s q → ⊥) → equal_reads w u ≡ false
unfolding equal_reads
equal_other w u other = simp (reads_other w.asked u.asked other, and-false)

-- Equal reads have the same fault.
fault_by_lem : (c : Class) (f g : List ℕ) (t : Table) (s q : ℕ) → asked_by c f ≡ Read t s q → asked_by c f ≡ asked_by c g → fault_by c f ≡ fault_by c g
unfolding asked_by bad_value bad_address
fault_by_lem (Reads r) f g t s q a e = let x : start_of f ≡ start_of g = cc in let y : quantity_of f ≡ quantity_of g = cc in rw (x, y)
fault_by_lem (WritesOne r) f g t s q a e = never (cc)
fault_by_lem (WritesMany r) f g t s q a e = never (cc)
fault_by_lem Masks f g t s q a e = never (cc)
fault_by_lem ReadsWrites f g t s q a e = never (cc)
fault_by_lem Others f g t s q a e = never (cc)

pub equal_fault : (f g : List ℕ) (t : Table) (s q : ℕ) → function_of f ≡ function_of g → asked_of f ≡ asked_of g → asked_of f ≡ Read t s q → fault_of f ≡ fault_of g
unfolding fault_of
equal_fault f g t s q n e a =
    fault_by_lem (class_of (function_of f)) f g t s q a (e ∙ ap (λ (k : ℕ). asked_by (class_of k) g) (sym n)) ∙ ap (λ (k : ℕ). fault_by (class_of k) g) n
