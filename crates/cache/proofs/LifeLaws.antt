-- Which reads are cached and for how long, in plain words: each register of the range lies in some tag that is wholly inside it and has a ttl; the life is the smallest of these ttls.
-- Assumes nothing.
use Prim.Native.Nat.{ℕ, ◌+◌, ◌-◌, ◌≤◌, ◌<◌}
use mathlib.Core.Path.{◌≡◌, refl}
use mathlib.Core.Logic.{⊎_elim, inl, inr, ◌↔◌}
use mathlib.Core.Bool.{true, not, ◌&&◌, false≢true}
use mathlib.Core.List.{List, [], ◌∷◌, map, Memᴰ}
use native.Mathlib.Omega.{arith}
use native.Mathlib.Nat.{min-le_left, min-le_right, min-eq_left, min-eq_right}
use lib.Dec.{eqb, ltb, leb}
use borrow.Author.Tests.{ltb-true, lt-ltb, leb-true, le-leb, not-false}
use Rattle.laws.specs.Lists.{filter}
use Rattle.laws.specs.Search.{count}
use Rattle.laws.proofs.Choice.{lt_or}
use Rattle.laws.proofs.TestLaws.{holds_eq, holds_and, holds_or}
use Rattle.laws.proofs.CountLaws.{count_all, count-not, count-zero}
use Rattle.laws.proofs.FilterLaws.{filter_in, filter-keep}
use Rattle.settings.specs.Grammar.{Tag}
use Rattle.settings.specs.TagWords.{last_of}
use Rattle.pdu.specs.declared.Table.{Table}
use Rattle.pdu.specs.declared.Table.TheVariants.{Bits, Registers}
use Rattle.pdu.specs.declared.Asked.{Asked}
use Rattle.pdu.specs.declared.Asked.TheVariants.{Read, SingleWrite, MultipleWrite, MaskWrite, ReadWrite, Other}
use Rattle.cache.specs.Life.{ttl_of, is_fast, is_covered, cacheable_by, smallest, life_by}
use Rattle.cache.specs.Plain.{Fast, Cacheable, Life}

-- What is cacheable is a read of registers.
pub cacheable_reads : (tags : List Tag) (a : Asked) → cacheable_by tags a ≡ true → (s : ℕ) × (q : ℕ) × (a ≡ Read Registers s q)
unfolding cacheable_by
cacheable_reads tags (Read Bits s q) t = absurd (false≢true t)
cacheable_reads tags (Read Registers s q) t = (s, q, refl)
cacheable_reads tags (SingleWrite r a v) t = absurd (false≢true t)
cacheable_reads tags (MultipleWrite r s q) t = absurd (false≢true t)
cacheable_reads tags (MaskWrite a x y) t = absurd (false≢true t)
cacheable_reads tags (ReadWrite s q u p) t = absurd (false≢true t)
cacheable_reads tags Other t = absurd (false≢true t)

holds_lt : (a b : ℕ) → (ltb a b ≡ true) ↔ (a < b)
holds_lt a b = (ltb-true a b, lt-ltb a b)

holds_le : (a b : ℕ) → (leb a b ≡ true) ↔ (a ≤ b)
holds_le a b = (leb-true a b, le-leb a b)

module _ (s q : ℕ) where
  -- a tag wholly inside the range, with a ttl above 0
  pub fast_exactly : (t : Tag) → (is_fast s q t ≡ true) ↔ Fast s q t
  fast_exactly t =
      let w = holds_and (leb s t.address) _ (holds_le _ _) (holds_and (ltb (last_of t) (s + q)) (ltb 0 (ttl_of t)) (holds_lt _ _) (holds_lt _ _)) in
      (λ e. let a = w.0 e in (a.0, a.1.0, a.1.1), λ f. w.1 (f.0, (f.1, f.2)))

  -- the register lies in such a tag
  abbrev Covered : List Tag → ℕ → Type 0
  Covered tags x = (t : Tag) × Memᴰ t tags × Fast s q t × (t.address ≤ x) × (x ≤ last_of t)

  covered_exactly : (tags : List Tag) (x : ℕ) → (is_covered s q tags x ≡ true) ↔ Covered tags x
  unfolding is_covered
  covered_exactly [] x = (λ e. absurd (false≢true e), λ w. absurd (mathlib.Core.List.Memᴰ.not-nil w.1))
  covered_exactly (t ∷ ts) x =
      let here = holds_and (is_fast s q t) _ (fast_exactly t) (holds_and (leb t.address x) (leb x (last_of t)) (holds_le _ _) (holds_le _ _)) in
      let w = holds_or (is_fast s q t && (leb t.address x && leb x (last_of t))) (is_covered s q ts x) here (covered_exactly ts x) in (
        λ e. ⊎_elim (λ a. (t, mathlib.Core.List.Memᴰ.head refl, a.0, a.1.0, a.1.1)) (λ a. (a.0, mathlib.Core.List.Memᴰ.tail a.1, a.2, a.3, a.4)) (w.0 e),
        λ c. w.1 (⊎_elim
            (λ (z : c.0 ≡ t). inl (rw z at c.2, (rw z at c.3, rw z at c.4)))
            (λ (z : Memᴰ c.0 ts). inr (c.0, z, c.2, c.3, c.4))
            (mathlib.Core.List.Memᴰ.cases_cons c.1)),
      )

  all_covered : (tags : List Tag) → count (λ k. is_covered s q tags (s + k)) q ≡ q → (j : ℕ) → j < q → is_covered s q tags (s + j) ≡ true
  all_covered tags e j l = not-false _ (count-zero (λ k. not (is_covered s q tags (s + k))) q j (omega (arith, count-not (λ k. is_covered s q tags (s + k)) q)) l)

  at_register : (tags : List Tag) (x : ℕ) → s ≤ x → is_covered s q tags (s + (x - s)) ≡ true → is_covered s q tags x ≡ true
  at_register tags x l e = let z : s + (x - s) ≡ x = omega arith in rw z at e

  -- A read of registers is cacheable exactly if there is one, and each lies in some tag that is wholly inside the range and has a ttl above 0.
  pub cacheable_exactly : (tags : List Tag) → (cacheable_by tags (Read Registers s q) ≡ true) ↔ Cacheable tags s q
  unfolding cacheable_by
  cacheable_exactly tags =
      let w = holds_and (ltb 0 q) (eqb (count (λ k. is_covered s q tags (s + k)) q) q) (holds_lt 0 q) (holds_eq _ _) in (
        λ e.
            let a = w.0 e in
            (a.0, λ x l h. (covered_exactly tags x).0 (at_register tags x l (all_covered tags a.1 (x - s) (omega arith)))),
        λ c. w.1 (c.0, count_all (λ k. is_covered s q tags (s + k)) q (λ j l. (covered_exactly tags (s + j)).1 (c.1 (s + j) (omega arith) (omega arith)))),
      )

-- LIFE

smallest-least : (ns : List ℕ) (n : ℕ) → Memᴰ n ns → smallest ns ≤ n
unfolding smallest
smallest-least [] n m = absurd (mathlib.Core.List.Memᴰ.not-nil m)
smallest-least (k ∷ []) n m = ⊎_elim (λ (e : n ≡ k). omega arith) (λ (i : Memᴰ n []). absurd (mathlib.Core.List.Memᴰ.not-nil i)) (mathlib.Core.List.Memᴰ.cases_cons m)
smallest-least (k ∷ j ∷ ns) n m =
    ⊎_elim
    (λ (e : n ≡ k). let a = min-le_left k (smallest (j ∷ ns)) in omega arith)
    (λ (i : Memᴰ n (j ∷ ns)). let a = min-le_right k (smallest (j ∷ ns)) in let b = smallest-least (j ∷ ns) n i in omega arith)
    (mathlib.Core.List.Memᴰ.cases_cons m)

smallest_one : (k : ℕ) (ns : List ℕ) → Memᴰ (smallest (k ∷ ns)) (k ∷ ns)
unfolding smallest
smallest_one k [] = mathlib.Core.List.Memᴰ.head refl
smallest_one k (j ∷ ns) =
    ⊎_elim
    (λ (l : k < smallest (j ∷ ns)). mathlib.Core.List.Memᴰ.head (min-eq_left (omega arith)))
    (λ (l : smallest (j ∷ ns) ≤ k). rw (min-eq_right l) (mathlib.Core.List.Memᴰ.tail (smallest_one j ns)))
    (lt_or k (smallest (j ∷ ns)))

some_in : (ns : List ℕ) (n : ℕ) → Memᴰ n ns → Memᴰ (smallest ns) ns
some_in [] n m = absurd (mathlib.Core.List.Memᴰ.not-nil m)
some_in (k ∷ ns) n m = smallest_one k ns

module _ (tags : List Tag) (r : Table) (s q : ℕ) where
  abbrev ttls : List ℕ
  ttls = map ttl_of (filter (is_fast s q) tags)

  fast_in : (t : Tag) → Memᴰ t tags → Fast s q t → Memᴰ (ttl_of t) ttls
  fast_in t m f = mathlib.Core.List.Memᴰ.map ttl_of (filter-keep (is_fast s q) t tags m ((fast_exactly s q t).1 f))

  -- The life of a read is at most the ttl of each tag that is wholly inside its range and has a ttl above 0,
  pub life-least : (t : Tag) → Memᴰ t tags → Fast s q t → life_by tags (Read r s q) ≤ ttl_of t
  unfolding life_by
  life-least t m f = smallest-least ttls (ttl_of t) (fast_in t m f)

  -- and that of a cacheable one is the ttl of one of these tags,
  pub life_one : Cacheable tags s q → (t : Tag) × Memᴰ t tags × Fast s q t × (ttl_of t ≡ life_by tags (Read r s q))
  unfolding life_by
  life_one c =
      let w = c.1 s (omega arith) (omega (arith, c.0)) in
      let y = mathlib.Core.List.Memᴰ.of_map ttl_of (filter (is_fast s q) tags) (some_in ttls (ttl_of w.0) (fast_in w.0 w.1 w.2)) in
      let z = filter_in (is_fast s q) y.0 tags y.1 in
      (y.0, z.0, (fast_exactly s q y.0).0 z.1, y.2)

  -- so that it is at least 1.
  pub life_positive : Cacheable tags s q → 1 ≤ life_by tags (Read r s q)
  life_positive c = let w = life_one c in omega (arith, w.2.2, w.3)

  -- The life of a cacheable read is the smallest ttl of these tags, and nothing else is.
  pub life_exactly : Cacheable tags s q → (n : ℕ) → (life_by tags (Read r s q) ≡ n) ↔ Life tags s q n
  life_exactly c n = (
    λ e. let l : Life tags s q (life_by tags (Read r s q)) = record { one = life_one c; least = life-least } in rw e at l,
    λ l.
        let w = life_one c in
        let a = l.least w.0 w.1 w.2 in
        let b = life-least l.one.0 l.one.1 l.one.2 in
        omega (arith, w.3, l.one.3),
  )
