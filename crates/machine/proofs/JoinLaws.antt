-- What a request joins: nothing but what it asks itself and is not closed, and only a read with joining on; and what that is in plain numbers and bytes.
-- Assumes nothing.
use Prim.Native.Nat.{ℕ}
use mathlib.Core.Path.{◌≡◌, ap, sym, ◌∙◌}
use mathlib.Core.Logic.{⊎_elim, ◌⊎◌, inl, inr, ◌↔◌}
use mathlib.Core.Bool.{Bool, true, false, cond, not, ◌&&◌, ◌||◌, true≢false, and-true, and-false}
use mathlib.Core.List.{List}
use lib.ListN.{get_or}
use lib.Dec.{eqb}
use borrow.Author.Tests.{eq-eqb, eqb-true}
use Rattle.laws.proofs.Choice.{true_or, and_left, and_right, never}
use Rattle.laws.proofs.TestLaws.{holds_eq, holds_not, holds_and, holds_or}
use Rattle.settings.specs.Grammar.{Value}
use Rattle.pdu.specs.declared.What.{What}
use Rattle.pdu.specs.Reads.{is_read, equal_reads}
use Rattle.pdu.proofs.ReadLaws.{read_is, no_read, equal_exact, equal_self, equal_other}
use Rattle.pdu.specs.declared.Table.{Table}
use Rattle.pdu.specs.declared.Table.TheVariants.{Bits, Registers}
use Rattle.pdu.specs.declared.Asked.TheVariants.{Read, SingleWrite, MultipleWrite, MaskWrite, ReadWrite, Other}
use Rattle.book.specs.Book.{Live}
use Rattle.book.specs.Desk.{Open}
use Rattle.machine.specs.Machine.{Machine, Note, rules, settings, clocked}
use Rattle.machine.specs.Requests.{wanted, alike, joins}
use Rattle.machine.specs.Spelled.{spelled, asking}
use Rattle.machine.specs.Requested.{MayJoin}
use Rattle.machine.proofs.SpelledLaws.{asked_spelled, wanted-spelled, asking-says, kept_as_asked}

alike_exact : (v : Value) (w u : What) → alike v w u ≡ true → w ≡ u
unfolding alike
alike_exact v w u t = equal_exact w u (and_right (eqb v.join 1) (equal_reads w u) t)

-- A request joins nothing but what is not closed and asks what it asks itself.
joins_both : (v : Value) (w u : What) (n : Note) → (joins v w u n ≡ true) ↔ ((n.closed ≡ false) × (alike v w u ≡ true))
unfolding joins
joins_both v w u n = holds_and (not n.closed) (alike v w u) (holds_not n.closed) (λ e. e, λ e. e)

pub joins_exact : (v : Value) (w u : What) (n : Note) → joins v w u n ≡ true → (n.closed ≡ false) × (w ≡ u)
joins_exact v w u n t = let b = (joins_both v w u n).0 t in (b.0, alike_exact v w u b.1)

-- And that it joins, if it may join its like.
pub joins_like : (v : Value) (w : What) (n : Note) → n.closed ≡ false → alike v w w ≡ true → joins v w w n ≡ true
joins_like v w n e t = (joins_both v w w n).1 (e, t)

-- A request that may not join its like joins nothing.
alike-none : (v : Value) (w u : What) → alike v w w ≡ false → alike v w u ≡ false
alike-none v w u off = ⊎_elim (λ t. absurd (true≢false (sym t ∙ ap (alike v w) (sym (alike_exact v w u t)) ∙ off))) (λ t. t) (true_or (alike v w u))

pub joins-none : (v : Value) (w u : What) (n : Note) → alike v w w ≡ false → joins v w u n ≡ false
unfolding joins
joins-none v w u n off = simp (alike-none v w u off, and-false)

-- A read may join its like when joining is on.
joins_read : (v : Value) (w : What) (t : Table) (s q : ℕ) → w.asked ≡ Read t s q → alike v w w ≡ eqb v.join 1
unfolding alike
joins_read v w t s q e = rw (equal_self w t s q e) (and-true (eqb v.join 1))

-- What is no read joins nothing.
joins_other : (v : Value) (w u : What) → ((t : Table) (s q : ℕ) → w.asked ≡ Read t s q → ⊥) → alike v w u ≡ false
unfolding alike
joins_other v w u other = simp (equal_other w u other, and-false)

-- Both in one: a request may join its like exactly if joining is on and it is a read.
pub joins_self : (v : Value) (w : What) → alike v w w ≡ (eqb v.join 1 && is_read w.asked)
joins_self v w =
    ⊎_elim
    (λ (t : is_read w.asked ≡ true). let r = read_is w.asked t in joins_read v w r.0 r.1 r.2 r.3 ∙ rw t (sym (and-true (eqb v.join 1))))
    (λ (t : is_read w.asked ≡ false). joins_other v w w (no_read w.asked t) ∙ rw t (sym (and-false (eqb v.join 1))))
    (true_or (is_read w.asked))

alike_on : (v : Value) (w u : What) → alike v w u ≡ true → v.join ≡ 1
unfolding alike
alike_on v w u t = eqb-true v.join 1 (and_left (eqb v.join 1) _ t)

one_of : (n a b : ℕ) → ((eqb n a || eqb n b) ≡ true) ↔ ((n ≡ a) ⊎ (n ≡ b))
one_of n a b = holds_or (eqb n a) (eqb n b) (holds_eq n a) (holds_eq n b)

-- What is none of 01 to 04 asks to read nothing.
pub unread : (f : List ℕ) → (eqb (get_or f 7 0) 1 || eqb (get_or f 7 0) 2) ≡ false → (eqb (get_or f 7 0) 3 || eqb (get_or f 7 0) 4) ≡ false → (t : Table) (s q : ℕ) → (asking f).asked ≡ Read t s q → ⊥
unfolding asking spelled
unread f x y t s q = rw (x, y) (by (eqb (get_or f 7 0) 5) (eqb (get_or f 7 0) 6) (eqb (get_or f 7 0) 15) (eqb (get_or f 7 0) 16) (eqb (get_or f 7 0) 22) (eqb (get_or f 7 0) 23) _ _ _ _)
  where
    by : (coil single coils multiple masks both : Bool) (a b c d : ℕ)
        → cond coil (SingleWrite Bits a b) (cond single (SingleWrite Registers a b) (cond coils (MultipleWrite Bits a b) (cond multiple (MultipleWrite Registers a b) (cond masks (MaskWrite a b c) (cond both (ReadWrite a b c d) Other))))) ≡ Read t s q → ⊥
    by true single coils multiple masks both a b c d e = never (cc)
    by false true coils multiple masks both a b c d e = never (cc)
    by false false true multiple masks both a b c d e = never (cc)
    by false false false true masks both a b c d e = never (cc)
    by false false false false true both a b c d e = never (cc)
    by false false false false false true a b c d e = never (cc)
    by false false false false false false a b c d e = never (cc)

alike_reads : (v : Value) (f : List ℕ) (u : What) → alike v (wanted f) u ≡ true → ((get_or f 7 0 ≡ 1) ⊎ (get_or f 7 0 ≡ 2)) ⊎ ((get_or f 7 0 ≡ 3) ⊎ (get_or f 7 0 ≡ 4))
alike_reads v f u t =
    let n = get_or f 7 0 in
    ⊎_elim
    (λ x. inl ((one_of n 1 2).0 x))
    (λ (x : (eqb n 1 || eqb n 2) ≡ false). ⊎_elim
    (λ y. inr ((one_of n 3 4).0 y))
    (λ (y : (eqb n 3 || eqb n 4) ≡ false). absurd (true≢false (sym t ∙ joins_other v (wanted f) u (λ r s q e. unread f x y r s q (sym (asked_spelled f) ∙ e)))))
    (true_or (eqb n 3 || eqb n 4)))
    (true_or (eqb n 1 || eqb n 2))

-- A frame that asks to read registers is of 03 or 04.
pub registers_read : (f : List ℕ) {s q : ℕ} → (asking f).asked ≡ Read Registers s q → (get_or f 7 0 ≡ 3) ⊎ (get_or f 7 0 ≡ 4)
registers_read f {s} {q} e =
    let n = get_or f 7 0 in
    ⊎_elim
    (λ (x : (eqb n 1 || eqb n 2) ≡ true). let b = (asking-says 0 f).reads_bits ((one_of n 1 2).0 x) in never (cc))
    (λ (x : (eqb n 1 || eqb n 2) ≡ false). ⊎_elim
    (λ y. (one_of n 3 4).0 y)
    (λ (y : (eqb n 3 || eqb n 4) ≡ false). absurd (unread f x y Registers s q e))
    (true_or (eqb n 3 || eqb n 4)))
    (true_or (eqb n 1 || eqb n 2))

-- a request that is a read may join its like
reads_join : (v : Value) (f : List ℕ) → ((get_or f 7 0 ≡ 1) ⊎ (get_or f 7 0 ≡ 2)) ⊎ ((get_or f 7 0 ≡ 3) ⊎ (get_or f 7 0 ≡ 4)) → alike v (wanted f) (wanted f) ≡ eqb v.join 1
reads_join v f =
    let k = kept_as_asked 0 f in
    ⊎_elim (λ h. joins_read v (wanted f) Bits _ _ (k.reads_bits h)) (λ h. joins_read v (wanted f) Registers _ _ (k.reads h))

-- What may be joined is what the test of the definition lets through.
pub may_join : (m : Machine) (t : ℕ) (f : List ℕ) (e : Live What Note) → (clocked m t).book.clock ≡ t → Open rules (clocked m t).book (joins (settings m) (wanted f)) e ↔ MayJoin m t f e
may_join m t f e k = (
  λ o.
      let b = (joins_both (settings m) (wanted f) e.what e.note).0 o.0 in
      record {
        on = alike_on (settings m) (wanted f) e.what b.1;
        reads = alike_reads (settings m) f e.what b.1;
        unclosed = b.0;
        same = sym (alike_exact (settings m) (wanted f) e.what b.1) ∙ wanted-spelled f;
        fewer = o.1;
        later = rw k at o.2;
      },
  λ j. (
    rw (j.same ∙ sym (wanted-spelled f)) (joins_like (settings m) (wanted f) e.note j.unclosed (reads_join (settings m) f j.reads ∙ eq-eqb (settings m).join 1 j.on)),
    j.fewer,
    rw k j.later,
  ),
)
