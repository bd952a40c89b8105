-- Tags that ascend: each lies above those before it, so that no address belongs to two of them.
-- Assumes nothing.
use Prim.Native.Nat.{ℕ, zero, suc, ◌+◌, ◌≤◌, ◌<◌}
use mathlib.Core.Path.{◌≡◌, sym, ◌∙◌}
use mathlib.Core.Logic.{⊎_elim}
use mathlib.Core.HLevel.{Unit-prop}
use mathlib.Core.List.{List, [], ◌∷◌, ◌++◌, Memᴰ}
use native.Mathlib.Omega.{arith}
use lib.ListN.{length, get_or}
use Rattle.numbers.specs.Numbers.{addresses}
use Rattle.bcd.specs.Bcd.{registers}
use Rattle.bcd.proofs.Words.{registers-least}
use Rattle.settings.specs.Grammar.{Tag}
use Rattle.settings.specs.TagWords.{kind_of, last_of, Ascending}
use Rattle.rewrite.specs.Plain.{Has}
use Rattle.laws.proofs.MemberLaws.{place-mem}
use denote.Struct.Props.{props}
use Rattle.rewrite.specs.inner.Lent.{TagList}

-- Behind the last register of a tag is its address and as many registers as it has.
pub behind_last : (t : Tag) → last_of t + 1 ≡ t.address + registers (kind_of t)
behind_last t = let l = registers-least (kind_of t) in omega arith

-- A tag's first register is not above its last.
pub first_last : (t : Tag) → t.address ≤ last_of t
first_last t = let l = registers-least (kind_of t) in omega arith

-- Every tag of an ascending list lies at or above its start, and within the addresses.
pub ascending_in : (from : ℕ) (ts : List Tag) (t : Tag) → Ascending from ts → Memᴰ t ts → (from ≤ t.address) × (last_of t < addresses)
unfolding Ascending
ascending_in from [] t a m = absurd (mathlib.Core.List.Memᴰ.not-nil m)
ascending_in from (y ∷ ts) t a m =
    ⊎_elim
    (λ (e : t ≡ y). rw e (a.0, a.1))
    (λ (n : Memᴰ t ts).
    let i = ascending_in (last_of y + 1) ts t a.2 n in
    let l = first_last y in
    (omega (arith, a.0, i.0), i.1))
    (mathlib.Core.List.Memᴰ.cases_cons m)

-- Of an ascending list the front ascends.
pub ascending_front : (from : ℕ) (ts us : List Tag) → Ascending from (ts ++ us) → Ascending from ts
unfolding Ascending
ascending_front from [] us a = tt
ascending_front from (y ∷ ts) us a = (a.0, a.1, ascending_front (last_of y + 1) ts us a.2)

-- Every tag of the front ends before every tag of the rest.
pub ascending_across : (from : ℕ) (ts us : List Tag) (t u : Tag) → Ascending from (ts ++ us) → Memᴰ t ts → Memᴰ u us → last_of t < u.address
unfolding Ascending
ascending_across from [] us t u a m n = absurd (mathlib.Core.List.Memᴰ.not-nil m)
ascending_across from (y ∷ ts) us t u a m n =
    ⊎_elim
    (λ (e : t ≡ y). rw e (omega (arith, (ascending_in (last_of y + 1) (ts ++ us) u a.2 (mathlib.Core.List.Memᴰ.append_right ts n)).0)))
    (λ (k : Memᴰ t ts). ascending_across (last_of y + 1) ts us t u a.2 k n)
    (mathlib.Core.List.Memᴰ.cases_cons m)

-- A tag ends before every tag at a later place.
pub ascending_at : (from : ℕ) (ts : List Tag) (d : Tag) (i j : ℕ) → Ascending from ts → i < j → j < length ts → last_of (get_or ts i d) < (get_or ts j d).address
unfolding Ascending
ascending_at from [] d i j a l h = absurd (omega arith)
ascending_at from (y ∷ ts) d i zero a l h = absurd (omega arith)
ascending_at from (y ∷ ts) d zero (suc j) a l h =
    omega (arith, (ascending_in (last_of y + 1) ts (get_or ts j d) a.2 (place-mem ts j d (omega arith))).0)
ascending_at from (y ∷ ts) d (suc i) (suc j) a l h = ascending_at (last_of y + 1) ts d i j a.2 (omega arith) (omega arith)

-- An address belongs to one tag at most.
pub one_owner : (from : ℕ) (ts : List Tag) (t u : Tag) (x : ℕ) → Ascending from ts → Memᴰ t ts → Memᴰ u ts → Has t x → Has u x → t ≡ u
unfolding Ascending
one_owner from [] t u x a m n h g = absurd (mathlib.Core.List.Memᴰ.not-nil m)
one_owner from (y ∷ ts) t u x a m n h g =
    ⊎_elim
    (λ (e : t ≡ y). ⊎_elim
    (λ (f : u ≡ y). e ∙ sym f)
    (λ (l : Memᴰ u ts). let b = rw e at h.1 in absurd (omega (arith, b, g.0, (ascending_in (last_of y + 1) ts u a.2 l).0)))
    (mathlib.Core.List.Memᴰ.cases_cons n))
    (λ (k : Memᴰ t ts). ⊎_elim
    (λ (f : u ≡ y). let b = rw f at g.1 in absurd (omega (arith, b, h.0, (ascending_in (last_of y + 1) ts t a.2 k).0)))
    (λ (l : Memᴰ u ts). one_owner (last_of y + 1) ts t u x a.2 k l h g)
    (mathlib.Core.List.Memᴰ.cases_cons n))
    (mathlib.Core.List.Memᴰ.cases_cons m)

-- That tags ascend is a fact, of which there is one proof,
ascending_prop : (from : ℕ) (ts : List Tag) → IsProp (Ascending from ts)
unfolding Ascending
ascending_prop from [] = Unit-prop
ascending_prop from (t ∷ ts) = Prim.hlevel (props, ascending_prop (last_of t + 1) ts)

-- and so is that words are those of tags.
pub tag-list_prop : (words : List ℕ) → IsProp (TagList words)
tag-list_prop words = Prim.hlevel (props, ascending_prop)
