-- Which reads a request spoils, in plain numbers; a read spoils nothing, nothing but a read is spoiled, and nothing spoils itself.
-- Assumes nothing.
use Prim.Native.Nat.{ℕ, ◌+◌, ◌≤◌, ◌<◌, max}
use mathlib.Core.Path.{◌≡◌, refl, ap, sym, ◌∙◌}
use mathlib.Core.Logic.Iff
use mathlib.Core.Logic.{◌↔◌, ⊎_elim, ⊎_map, ◌⊎◌, inl, inr}
use mathlib.Core.Bool.{true, false, false≢true, and-false}
use mathlib.Core.List.{List}
use native.Mathlib.Omega.{arith}
use lib.Dec.{eqb, ltb}
use borrow.Author.Tests.{lt-ltb, ltb-true}
use Rattle.laws.proofs.Choice.{eq_or, and_left, and_right, never}
use Rattle.laws.proofs.TestLaws.{holds_eq, holds_and}
use Rattle.wire.specs.Frame.{unit_of, function_of}
use Rattle.pdu.specs.Requests.{class_of, asked_by, checked_of}
use Rattle.pdu.specs.Replies.{what}
use Rattle.pdu.specs.declared.What.{What}
use Rattle.pdu.specs.Words.{asked_bits, asked_from, Lawful, Proper}
use Rattle.pdu.specs.Spoiling.{same_table, overlap, meets, spoils}
use Rattle.pdu.specs.Reads.{is_read}
use Rattle.pdu.specs.declared.Table.{Table}
use Rattle.pdu.specs.declared.Table.TheVariants.{Bits, Registers}
use Rattle.pdu.specs.declared.Class.{Class}
use Rattle.pdu.specs.declared.Class.TheVariants.{Reads, WritesOne, WritesMany, Masks, ReadsWrites, Others}
use Rattle.pdu.specs.declared.Asked.{Asked}
use Rattle.pdu.specs.declared.Asked.TheVariants.{Read, SingleWrite, MultipleWrite, MaskWrite, ReadWrite, Other}
use Rattle.pdu.specs.Plain.{Valued, class_in, Reading, Writing, Neither, Common, Meeting, sort_of, NotEmpty, Ranging}
use Rattle.pdu.proofs.RequestLaws.{legal-passed, class_read_bits, class_read, class_single, class_multiple, class_mask, class_read_write, class_other}
use Rattle.std.specs.Prelude.{Ok}

-- Two tables are the same exactly where they are equal.
pub same-table : (t r : Table) → (same_table t r ≡ true) ↔ (t ≡ r)
unfolding same_table
same-table Bits Bits = (λ e. refl, λ e. refl)
same-table Bits Registers = (λ e. absurd (false≢true e), λ e. never (cc))
same-table Registers Bits = (λ e. absurd (false≢true e), λ e. never (cc))
same-table Registers Registers = (λ e. refl, λ e. refl)

-- IN PLAIN NUMBERS

-- BY CLASS

-- the functions of a class
abbrev Named : Class → ℕ → Type 0
Named (Reads t) n = Reading t n
Named (WritesOne Bits) n = n ≡ 5
Named (WritesOne Registers) n = n ≡ 6
Named (WritesMany Bits) n = n ≡ 15
Named (WritesMany Registers) n = n ≡ 16
Named Masks n = n ≡ 22
Named ReadsWrites n = n ≡ 23
Named Others n = Neither n

named : (n : ℕ) → Named (class_of n) n
named n =
    ⊎_elim (λ e. by (class_read_bits n (inl e)) (inl e)) (λ a. ⊎_elim (λ e. by (class_read_bits n (inr e)) (inr e)) (λ b.
    ⊎_elim (λ e. by (class_read n (inl e)) (inl e)) (λ c. ⊎_elim (λ e. by (class_read n (inr e)) (inr e)) (λ d.
    ⊎_elim (λ e. by (ap class_of e ∙ class_single.0) e) (λ f. ⊎_elim (λ e. by (ap class_of e ∙ class_single.1) e) (λ g.
    ⊎_elim (λ e. by (ap class_of e ∙ class_multiple.0) e) (λ h. ⊎_elim (λ e. by (ap class_of e ∙ class_multiple.1) e) (λ i.
    ⊎_elim (λ e. by (ap class_of e ∙ class_mask) e) (λ j. ⊎_elim (λ e. by (ap class_of e ∙ class_read_write) e) (λ k.
    by (class_other n a b c d f g h i j k) (a, b, c, d, f, g, h, i, j, k))
    (eq_or n 23)) (eq_or n 22)) (eq_or n 16)) (eq_or n 15)) (eq_or n 6)) (eq_or n 5)) (eq_or n 4)) (eq_or n 3)) (eq_or n 2)) (eq_or n 1)
  where
    by : {c : Class} → class_of n ≡ c → Named c n → Named (class_of n) n
    by e h = rw e h

pub class_exact : (n : ℕ) (c : Class) → (class_of n ≡ c) ↔ Named c n
class_exact n c = (λ e. rw e at (named n), back c)
  where
    back : (k : Class) → Named k n → class_of n ≡ k
    back (Reads Bits) e = class_read_bits n e
    back (Reads Registers) e = class_read n e
    back (WritesOne Bits) e = ap class_of e ∙ class_single.0
    back (WritesOne Registers) e = ap class_of e ∙ class_single.1
    back (WritesMany Bits) e = ap class_of e ∙ class_multiple.0
    back (WritesMany Registers) e = ap class_of e ∙ class_multiple.1
    back Masks e = ap class_of e ∙ class_mask
    back ReadsWrites e = ap class_of e ∙ class_read_write
    back Others e = class_other n e.0 e.1 e.2 e.3 e.4 e.5 e.6 e.7 e.8 e.9

sort_asked_from : (c : Class) (n : ℕ) → sort_of (asked_from c n) ≡ c
unfolding asked_from
sort_asked_from (Reads t) n = refl
sort_asked_from (WritesOne t) n = refl
sort_asked_from (WritesMany t) n = refl
sort_asked_from Masks n = refl
sort_asked_from ReadsWrites n = refl
sort_asked_from Others n = refl

sort_asked : (c : Class) (f : List ℕ) → sort_of (asked_by c f) ≡ c
unfolding asked_by
sort_asked (Reads t) f = refl
sort_asked (WritesOne t) f = refl
sort_asked (WritesMany t) f = refl
sort_asked Masks f = refl
sort_asked ReadsWrites f = refl
sort_asked Others f = refl

lawful_some : (a : Asked) → Lawful a → NotEmpty a
unfolding Lawful
lawful_some (Read t s q) l = l.0
lawful_some (SingleWrite t a v) l = tt
lawful_some (MultipleWrite t s q) l = l.0
lawful_some (MaskWrite a x y) l = tt
lawful_some (ReadWrite s q u p) l = (l.0.0, l.1.0)
lawful_some Other l = tt

valued_some : (c : Class) (f : List ℕ) → Valued c f → NotEmpty (asked_by c f)
unfolding asked_by
valued_some (Reads t) f v = v.0
valued_some (WritesOne t) f v = tt
valued_some (WritesMany t) f v = v.0
valued_some Masks f v = tt
valued_some ReadsWrites f v = (v.0, v.1.1.0)
valued_some Others f v = tt

-- What may stand in a live entry is such;
pub proper_ranges : (w : What) → Proper w → Ranging w
proper_ranges w p = record { class = sym (sort_asked_from (class_of w.function) (asked_bits w.asked)) ∙ ap sort_of p.class; some = lawful_some w.asked p.lawful }

-- so is what a legal request asks, whatever numbers its frame has for bytes.
pub legal_ranges : (f : List ℕ) (a : Asked) → checked_of f ≡ Ok a → Ranging (what (unit_of f) (function_of f) a)
legal_ranges f a e = let p = legal-passed f a e in rw p.asks (record { class = sym (sort_asked (class_in f) f); some = valued_some (class_in f) f p.value })

-- two ranges that are not empty overlap exactly where they have an address in common
overlaps : (s n u m : ℕ) → 1 ≤ n → 1 ≤ m → (overlap s n u m ≡ true) ↔ ((x : ℕ) × ((s ≤ x) × (x < s + n)) × ((u ≤ x) × (x < u + m)))
overlaps s n u m h l = (
  λ e.
      let a = ltb-true s (u + m) (and_left (ltb s (u + m)) (ltb u (s + n)) e) in
      let b = ltb-true u (s + n) (and_right (ltb s (u + m)) (ltb u (s + n)) e) in
      (max s u, (omega arith, omega arith), (omega arith, omega arith)),
  λ w. rw (lt-ltb s (u + m) (omega (arith, w.1, w.2))) (lt-ltb u (s + n) (omega (arith, w.1, w.2))),
)

-- the same where the first is one address
overlaps_one : (a u m : ℕ) → 1 ≤ m → (overlap a 1 u m ≡ true) ↔ ((x : ℕ) × (x ≡ a) × ((u ≤ x) × (x < u + m)))
overlaps_one a u m l =
    Iff.trans (overlaps a 1 u m (omega arith) l) (λ w. (w.0, omega (arith, w.1), w.2), λ w. (w.0, (omega (arith, w.1), omega (arith, w.1)), w.2))

-- the classes that write bits, and those that write registers
abbrev Writes : Table → Class → Type 0
Writes Bits c = (c ≡ WritesOne Bits) ⊎ (c ≡ WritesMany Bits)
Writes Registers c = (c ≡ WritesOne Registers) ⊎ ((c ≡ WritesMany Registers) ⊎ ((c ≡ Masks) ⊎ (c ≡ ReadsWrites)))

writes_one : (t r : Table) → (t ≡ r) ↔ Writes r (WritesOne t)
writes_one t Bits = (λ e. inl (ap WritesOne e), ⊎_elim (λ y. cc) (λ y. never (cc)))
writes_one t Registers = (λ e. inl (ap WritesOne e), ⊎_elim (λ y. cc) (⊎_elim (λ y. never (cc)) (⊎_elim (λ y. never (cc)) (λ y. never (cc)))))

writes_many : (t r : Table) → (t ≡ r) ↔ Writes r (WritesMany t)
writes_many t Bits = (λ e. inr (ap WritesMany e), ⊎_elim (λ y. never (cc)) (λ y. cc))
writes_many t Registers = (λ e. inr (inl (ap WritesMany e)), ⊎_elim (λ y. never (cc)) (⊎_elim (λ y. cc) (⊎_elim (λ y. never (cc)) (λ y. never (cc)))))

writes_mask : (r : Table) → (Registers ≡ r) ↔ Writes r Masks
writes_mask Bits = (λ e. never (cc), ⊎_elim (λ y. never (cc)) (λ y. never (cc)))
writes_mask Registers = (λ e. inr (inr (inl refl)), λ y. refl)

writes_both : (r : Table) → (Registers ≡ r) ↔ Writes r ReadsWrites
writes_both Bits = (λ e. never (cc), ⊎_elim (λ y. never (cc)) (λ y. never (cc)))
writes_both Registers = (λ e. inr (inr (inr refl)), λ y. refl)

-- what is said of functions, said of classes
abbrev Sorted : Asked → Asked → Type 0
Sorted a b = (t : Table) × (sort_of b ≡ Reads t) × ((sort_of a ≡ Others) ⊎ (Writes t (sort_of a) × Common a b))

-- of what writes a table, and a read
sorted_read : (a : Asked) (t r : Table) (s q : ℕ) → (sort_of a ≡ Others → ⊥) → (t ≡ r) ↔ Writes r (sort_of a) → ((t ≡ r) × Common a (Read r s q)) ↔ Sorted a (Read r s q)
sorted_read a t r s q other k = (
  λ w. (r, refl, inr (k.0 w.0, w.1)),
  λ w.
      let x = w.1 in
      let e : w.0 ≡ r = cc in
      ⊎_elim (λ z. absurd (other z)) (λ (z : Writes w.0 (sort_of a) × Common a (Read r s q)). (k.1 (rw e at z.0), z.1)) w.2,
)

meets_sorted : (a b : Asked) → NotEmpty a → NotEmpty b → (meets a b ≡ true) ↔ Sorted a b
unfolding meets
meets_sorted a (SingleWrite r b v) h l = (λ e. absurd (false≢true e), λ w. let z = w.1 in never (cc))
meets_sorted a (MultipleWrite r s q) h l = (λ e. absurd (false≢true e), λ w. let z = w.1 in never (cc))
meets_sorted a (MaskWrite b x y) h l = (λ e. absurd (false≢true e), λ w. let z = w.1 in never (cc))
meets_sorted a (ReadWrite s q u p) h l = (λ e. absurd (false≢true e), λ w. let z = w.1 in never (cc))
meets_sorted a Other h l = (λ e. absurd (false≢true e), λ w. let z = w.1 in never (cc))
meets_sorted (Read t u p) (Read r s q) h l = (λ e. absurd (false≢true e), λ w. ⊎_elim (λ z. never (cc)) (λ z. absurd (none w.0 z.0)) w.2)
  where
    none : (k : Table) → Writes k (Reads t) → ⊥
    none Bits = ⊎_elim (λ y. never (cc)) (λ y. never (cc))
    none Registers = ⊎_elim (λ y. never (cc)) (⊎_elim (λ y. never (cc)) (⊎_elim (λ y. never (cc)) (λ y. never (cc))))
meets_sorted (SingleWrite t a v) (Read r s q) h l =
    Iff.trans (holds_and (same_table t r) (overlap a 1 s q) (same-table t r) (overlaps_one a s q l)) (sorted_read (SingleWrite t a v) t r s q (λ z. never (cc)) (writes_one t r))
meets_sorted (MultipleWrite t u p) (Read r s q) h l =
    Iff.trans (holds_and (same_table t r) (overlap u p s q) (same-table t r) (overlaps u p s q h l))
    (sorted_read (MultipleWrite t u p) t r s q (λ z. never (cc)) (writes_many t r))
meets_sorted (MaskWrite a x y) (Read r s q) h l =
    Iff.trans (holds_and (same_table Registers r) (overlap a 1 s q) (same-table Registers r) (overlaps_one a s q l))
    (sorted_read (MaskWrite a x y) Registers r s q (λ z. never (cc)) (writes_mask r))
meets_sorted (ReadWrite v n u p) (Read r s q) h l =
    Iff.trans (holds_and (same_table Registers r) (overlap u p s q) (same-table Registers r) (overlaps u p s q h.1 l))
    (sorted_read (ReadWrite v n u p) Registers r s q (λ z. never (cc)) (writes_both r))
meets_sorted Other (Read r s q) h l = (λ e. (r, refl, inl refl), λ w. refl)

writes_class : (t : Table) (n : ℕ) → Writes t (class_of n) ↔ Writing t n
writes_class Bits n = (⊎_map (class_exact n (WritesOne Bits)).0 (class_exact n (WritesMany Bits)).0, ⊎_map (class_exact n (WritesOne Bits)).1 (class_exact n (WritesMany Bits)).1)
writes_class Registers n =
    let one = class_exact n (WritesOne Registers) in
    let many = class_exact n (WritesMany Registers) in
    let mask = class_exact n Masks in
    let both = class_exact n ReadsWrites in
    (⊎_map one.0 (⊎_map many.0 (⊎_map mask.0 both.0)), ⊎_map one.1 (⊎_map many.1 (⊎_map mask.1 both.1)))

sorted_plainly : (w r : What) → Ranging w → Ranging r → Sorted w.asked r.asked ↔ Meeting w r
sorted_plainly w r p q =
    rw (← p.class, ← q.class) (
      λ x. (x.0, (class_exact r.function (Reads x.0)).0 x.1, ⊎_map (class_exact w.function Others).0 (λ y. ((writes_class x.0 w.function).0 y.0, y.1)) x.2),
      λ x. (x.0, (class_exact r.function (Reads x.0)).1 x.1, ⊎_map (class_exact w.function Others).1 (λ y. ((writes_class x.0 w.function).1 y.0, y.1)) x.2),
    )

-- A request spoils another exactly where the unit is equal, that one reads bits or registers, and the request is "other", or writes those with an address in common.
pub spoils_exactly : (w r : What) → Ranging w → Ranging r → (spoils w r ≡ true) ↔ ((w.unit ≡ r.unit) × Meeting w r)
unfolding spoils
spoils_exactly w r p q =
    holds_and (eqb w.unit r.unit) (meets w.asked r.asked) (holds_eq w.unit r.unit)
    (Iff.trans (meets_sorted w.asked r.asked p.some q.some) (sorted_plainly w r p q))

-- A read spoils nothing.
pub read_spoils_none : (w r : What) → is_read w.asked ≡ true → spoils w r ≡ false
unfolding spoils meets is_read
read_spoils_none w r e = rw (none w.asked r.asked e) (and-false (eqb w.unit r.unit))
  where
    none : (a b : Asked) → is_read a ≡ true → meets a b ≡ false
    none a (SingleWrite r b v) e = refl
    none a (MultipleWrite r u p) e = refl
    none a (MaskWrite b x y) e = refl
    none a (ReadWrite v n u p) e = refl
    none a Other e = refl
    none (Read t s q) (Read r u p) e = refl
    none (SingleWrite t a v) (Read r u p) e = absurd (false≢true e)
    none (MultipleWrite t s q) (Read r u p) e = absurd (false≢true e)
    none (MaskWrite a x y) (Read r u p) e = absurd (false≢true e)
    none (ReadWrite v n z m) (Read r u p) e = absurd (false≢true e)
    none Other (Read r u p) e = absurd (false≢true e)

-- Nothing but a read is spoiled.
pub spoiled_reads : (w r : What) → spoils w r ≡ true → is_read r.asked ≡ true
unfolding spoils meets is_read
spoiled_reads w r e = met w.asked r.asked (and_right (eqb w.unit r.unit) (meets w.asked r.asked) e)
  where
    met : (a b : Asked) → meets a b ≡ true → is_read b ≡ true
    met a (Read r s q) e = refl
    met a (SingleWrite r b v) e = e
    met a (MultipleWrite r s q) e = e
    met a (MaskWrite b x y) e = e
    met a (ReadWrite v n u p) e = e
    met a Other e = e

-- Nothing spoils its like.
pub spoils_itself : (w : What) → spoils w w ≡ false
unfolding spoils meets
spoils_itself w = rw (none w.asked) (and-false (eqb w.unit w.unit))
  where
    none : (a : Asked) → meets a a ≡ false
    none (Read t s q) = refl
    none (SingleWrite t a v) = refl
    none (MultipleWrite t s q) = refl
    none (MaskWrite a x y) = refl
    none (ReadWrite s q u p) = refl
    none Other = refl
