-- The machine reads of a request what its bytes spell: who asks, under which id, and what.
-- Assumes nothing.
use Prim.Native.Nat.{ℕ, ◌+◌, ◌*◌}
use mathlib.Core.Path.{◌≡◌, refl, ap, sym, subst₂}
use mathlib.Core.Logic.{⊎_elim}
use mathlib.Core.Bool.{Bool, true, false, cond, ◌||◌}
use mathlib.Core.List.{List}
use native.Mathlib.Omega.{arith}
use lib.ListN.{get_or}
use lib.Dec.{eqb}
use borrow.Author.Tests.{ne_eqb}
use Rattle.laws.proofs.Choice.{eq_or, never}
use Rattle.pdu.specs.Requests.{class_of, start_of, quantity_of, write_start_of, write_quantity_of, asked_by, asked_of}
use Rattle.pdu.specs.Replies.{what}
use Rattle.pdu.specs.declared.Table.TheVariants.{Bits, Registers}
use Rattle.pdu.specs.declared.Class.TheVariants.{Reads, WritesOne, WritesMany, Masks, ReadsWrites, Others}
use Rattle.pdu.specs.declared.Asked.TheVariants.{Read, SingleWrite, MultipleWrite, MaskWrite, ReadWrite, Other}
use Rattle.machine.specs.Requests.{wanted, party_of}
use Rattle.machine.specs.Spelled.{asker, spelled, asking, AskedBy}

-- The party is the client under the id that it sent.
pub party-spelled : (c : ℕ) (f : List ℕ) → party_of c f ≡ asker c f
unfolding asker
party-spelled c f = let e : get_or f 0 0 * 256 + get_or f 1 0 ≡ 256 * get_or f 0 0 + get_or f 1 0 = omega arith in rw e

-- what is kept of a request by the class of its function
module _ (f : List ℕ) (a b c d : ℕ) (p : start_of f ≡ a) (q : quantity_of f ≡ b) (r : write_start_of f ≡ c) (s : write_quantity_of f ≡ d) where
  by_class : (bits registers coil single coils multiple masks both : Bool)
      → asked_by (cond bits (Reads Bits) (cond registers (Reads Registers) (cond coil (WritesOne Bits) (cond single (WritesOne Registers) (cond coils (WritesMany Bits) (cond multiple (WritesMany Registers) (cond masks Masks (cond both ReadsWrites Others)))))))) f
      ≡ cond bits (Read Bits a b) (cond registers (Read Registers a b) (cond coil (SingleWrite Bits a b) (cond single (SingleWrite Registers a b) (cond coils (MultipleWrite Bits a b) (cond multiple (MultipleWrite Registers a b) (cond masks (MaskWrite a b c) (cond both (ReadWrite a b c d) Other)))))))
  unfolding asked_by
  by_class true registers coil single coils multiple masks both = cc
  by_class false true coil single coils multiple masks both = cc
  by_class false false true single coils multiple masks both = cc
  by_class false false false true coils multiple masks both = cc
  by_class false false false false true multiple masks both = cc
  by_class false false false false false true masks both = cc
  by_class false false false false false false true both = cc
  by_class false false false false false false false true = cc
  by_class false false false false false false false false = refl

pub asked_spelled : (f : List ℕ) → asked_of f ≡ (asking f).asked
unfolding asking spelled class_of
asked_spelled f =
    let n = get_or f 7 0 in
    by_class f _ _ _ _ (omega arith) (omega arith) (omega arith) (omega arith) (eqb n 1 || eqb n 2) (eqb n 3 || eqb n 4) (eqb n 5) (eqb n 6) (eqb n 15) (eqb n 16) (eqb n 22) (eqb n 23)

-- Only a frame of function 22 asks to mask a register, that of the address in bytes 8 and 9.
pub masking_is : (f : List ℕ) (a x y : ℕ) → (asking f).asked ≡ MaskWrite a x y → (get_or f 7 0 ≡ 22) × (a ≡ 256 * get_or f 8 0 + get_or f 9 0)
unfolding asking spelled
masking_is f a x y e =
    let n = get_or f 7 0 in
    ⊎_elim
    (λ (h : n ≡ 22). (h, cc (rw h at e)))
    (λ (h : n ≡ 22 → ⊥). absurd (none (eqb n 1 || eqb n 2) (eqb n 3 || eqb n 4) (eqb n 5) (eqb n 6) (eqb n 15) (eqb n 16) (eqb n 23) _ _ _ _ (rw (ne_eqb n 22 h) at e)))
    (eq_or n 22)
  where
    none : (bits registers coil single coils multiple both : Bool) (p q r s : ℕ)
        → cond bits (Read Bits p q) (cond registers (Read Registers p q) (cond coil (SingleWrite Bits p q) (cond single (SingleWrite Registers p q) (cond coils (MultipleWrite Bits p q) (cond multiple (MultipleWrite Registers p q) (cond both (ReadWrite p q r s) Other)))))) ≡ MaskWrite a x y → ⊥
    none true registers coil single coils multiple both p q r s e = never (cc)
    none false true coil single coils multiple both p q r s e = never (cc)
    none false false true single coils multiple both p q r s e = never (cc)
    none false false false true coils multiple both p q r s e = never (cc)
    none false false false false true multiple both p q r s e = never (cc)
    none false false false false false true both p q r s e = never (cc)
    none false false false false false false true p q r s e = never (cc)
    none false false false false false false false p q r s e = never (cc)

-- What is wanted is what the bytes spell.
pub wanted-spelled : (f : List ℕ) → wanted f ≡ asking f
unfolding asking
wanted-spelled f = ap (what _ _) (asked_spelled f)

-- The bytes spell that.
pub asking-says : (c : ℕ) (f : List ℕ) → AskedBy c f (asker c f) (asking f)
unfolding asker asking spelled
asking-says c f =
    let n = get_or f 7 0 in
    record {
      client = refl;
      original = refl;
      unit = refl;
      function = refl;
      reads_bits = ⊎_elim (λ h. rw h) (λ h. rw h);
      reads = ⊎_elim (λ h. rw h) (λ h. rw h);
      writes_coil = λ h. rw h;
      writes_one = λ h. rw h;
      writes_coils = λ h. rw h;
      writes_many = λ h. rw h;
      masks = λ h. rw h;
      reads_and_writes = λ h. rw h;
      other = λ g h i j k l m o p q. simp (ne_eqb n 1 g, ne_eqb n 2 h, ne_eqb n 3 i, ne_eqb n 4 j, ne_eqb n 5 k, ne_eqb n 6 l, ne_eqb n 15 m, ne_eqb n 16 o, ne_eqb n 22 p, ne_eqb n 23 q);
    }

-- The machine's party and request are that.
pub kept_as_asked : (c : ℕ) (f : List ℕ) → AskedBy c f (party_of c f) (wanted f)
kept_as_asked c f = subst₂ (AskedBy c f) (sym (party-spelled c f)) (sym (wanted-spelled f)) (asking-says c f)
