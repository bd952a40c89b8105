-- A read is cacheable exactly if consecutive tags tile its range, each with a ttl: one walk over the tags tells that and the life, and 0 where it is not.
-- Assumes nothing.
use Prim.Native.Nat.{ℕ, zero, suc, ◌+◌, ◌≤◌, ◌<◌, min}
use mathlib.Core.Path.{◌≡◌, refl, ap, sym, ◌∙◌}
use mathlib.Core.Logic.{⊎_elim, ◌⊎◌, inl, inr}
use mathlib.Core.Bool.{Bool, true, false, cond, ◌&&◌, ◌||◌, true≢false, and-false}
use mathlib.Core.List.Memᴰ
use mathlib.Core.List.{List, [], ◌∷◌, map, Memᴰ}
use native.Mathlib.Omega.{arith}
use lib.ListN.{length, get_or, drop}
use lib.Dec.{eqb, ltb, leb}
use borrow.Author.Tests.{ltb-true, eqb-true, lt-ltb, le-ltb, le-leb, lt-leb, eq-eqb, ne_eqb}
use Rattle.laws.specs.Lists.{filter}
use Rattle.laws.proofs.Choice.{true_or, lt_or, and_left, and_right}
use Rattle.laws.proofs.FilterLaws.{filter_none}
use Rattle.settings.specs.Grammar.{Tag}
use Rattle.settings.specs.TagWords.{last_of, Ascending}
use Rattle.pdu.specs.declared.Table.TheVariants.{Registers}
use Rattle.pdu.specs.declared.Asked.TheVariants.{Read}
use Rattle.rewrite.proofs.OrderLaws.{first_last, ascending_in}
use Rattle.cache.specs.Plain.{Fast}
use Rattle.cache.proofs.LifeLaws.{fast_exactly, cacheable_exactly, life_positive}
use Rattle.cache.specs.Life.{ttl_of, is_fast, is_covered, cacheable_by, smallest, life_by}

-- THE WALK

-- the smaller of what was found so far, 0 for nothing, and one more
abbrev pub lower : ℕ → ℕ → ℕ
lower life ttl = cond (eqb life 0 || ltb ttl life) ttl life

-- the tag begins at a register, ends before `end` and has a ttl
abbrev pub is_next : (at end : ℕ) → Tag → Bool
is_next at end t = eqb t.address at && (ltb (last_of t) end && ltb 0 (ttl_of t))

-- from the register `at` on, with the smallest ttl so far: each tag must be the next, until the range's end is reached; 0 where one is not
unfoldable pub tiled : (at end life : ℕ) → List Tag → ℕ
tiled at end life [] = cond (leb end at) life 0
tiled at end life (t ∷ ts) = cond (leb end at) life (cond (is_next at end t) (tiled (last_of t + 1) end (lower life (ttl_of t)) ts) 0)

-- the smallest of what was found and the others
unfoldable lowest : ℕ → List ℕ → ℕ
lowest life [] = life
lowest life (n ∷ ns) = lowest (lower life n) ns

lower_min : (life ttl : ℕ) → 0 < life → lower life ttl ≡ min life ttl
lower_min life ttl h =
    rw (ne_eqb life 0 (λ z. omega arith))
    (⊎_elim (λ (l : ttl < life). rw (lt-ltb ttl life l) (omega arith)) (λ (l : life ≤ ttl). rw (le-ltb ttl life l) (omega arith)) (lt_or ttl life))

smallest-min : (a b : ℕ) (ns : List ℕ) → smallest (min a b ∷ ns) ≡ min a (smallest (b ∷ ns))
unfolding smallest
smallest-min a b [] = refl
smallest-min a b (n ∷ ns) = omega arith

-- the next tag ends before `end`
pub next_low : (at end : ℕ) (t : Tag) → is_next at end t ≡ true → last_of t < end
next_low at end t n = ltb-true (last_of t) end (and_left _ _ (and_right (eqb t.address at) _ n))

-- at the end of the range the walk is over
pub walk_none : (ts : List Tag) (at life : ℕ) {end : ℕ} → end ≤ at → tiled at end life ts ≡ life
unfolding tiled
walk_none [] at life {end} h = rw (le-leb end at h)
walk_none (t ∷ ts) at life {end} h = rw (le-leb end at h)

module _ (s q : ℕ) where
  -- the ttls of the tags that lie wholly inside and have one
  abbrev ttls : List Tag → List ℕ
  ttls ts = map ttl_of (filter (is_fast s q) ts)

  fast_ttl : (t : Tag) → is_fast s q t ≡ true → 0 < ttl_of t
  fast_ttl t e = ((fast_exactly s q t).0 e).2

  -- from a ttl on, the walk's smallest is the smallest
  lowest_on : (ts : List Tag) (life : ℕ) → 0 < life → lowest life (ttls ts) ≡ smallest (life ∷ ttls ts)
  unfolding smallest lowest filter
  lowest_on [] life h = refl
  lowest_on (t ∷ ts) life h =
      ⊎_elim
      (λ (e : is_fast s q t ≡ true).
      let n = fast_ttl t e in
      rw e (ap (λ (m : ℕ). lowest m (ttls ts)) (lower_min life (ttl_of t) h) ∙ lowest_on ts (min life (ttl_of t)) (omega arith) ∙ smallest-min life (ttl_of t) (ttls ts)))
      (λ (e : is_fast s q t ≡ false). rw e (lowest_on ts life h))
      (true_or (is_fast s q t))

  -- from nothing on as well
  lowest_all : (ts : List Tag) → lowest 0 (ttls ts) ≡ smallest (ttls ts)
  unfolding smallest lowest filter
  lowest_all [] = refl
  lowest_all (t ∷ ts) =
      ⊎_elim
      (λ (e : is_fast s q t ≡ true). rw e (lowest_on ts (ttl_of t) (fast_ttl t e)))
      (λ (e : is_fast s q t ≡ false). rw e (lowest_all ts))
      (true_or (is_fast s q t))

  -- COVERED REGISTERS

  -- the register x lies in a tag that is wholly inside and has a ttl
  abbrev InFast : List Tag → ℕ → Type 0
  InFast ts x = (t : Tag) × Memᴰ t ts × Fast s q t × (t.address ≤ x) × (x ≤ last_of t)

  -- no tag behind the range lies inside it
  beyond : (from : ℕ) (ts : List Tag) → Ascending from ts → s + q ≤ from → ttls ts ≡ []
  beyond from ts a h =
      rw (filter_none (is_fast s q) ts (λ t m.
      let l = (ascending_in from ts t a m).0 in
      rw (le-ltb (last_of t) (s + q) (omega (arith, first_last t))) (and-false (leb s t.address))))

  -- the next tag lies inside
  next_fast : (at : ℕ) (t : Tag) → s ≤ at → is_next at (s + q) t ≡ true → (t.address ≡ at) × Fast s q t
  next_fast at t l n =
      let e = eqb-true t.address at (and_left _ _ n) in
      let r = and_right (eqb t.address at) _ n in
      (e, (fast_exactly s q t).0 (rw (le-leb s t.address (omega arith)) r))

  -- where every register from `at` on lies in such a tag, the walk finds the smallest of the ttls
  walk_covered : (ts : List Tag) (at life : ℕ) → Ascending at ts → s ≤ at → at ≤ s + q → ((x : ℕ) → at ≤ x → x < s + q → InFast ts x) → tiled at (s + q) life ts ≡ lowest life (ttls ts)
  unfolding tiled Ascending lowest filter
  walk_covered [] at life a l h c =
      ⊎_elim
      (λ (b : at < s + q). absurd (Memᴰ.not-nil (c at (omega arith) b).1))
      (λ (b : s + q ≤ at). rw (le-leb (s + q) at b))
      (lt_or at (s + q))
  walk_covered (t ∷ ts) at life a l h c =
      ⊎_elim
      (λ (b : at < s + q).
      let w = c at (omega arith) b in
      rw (lt-leb (s + q) at b)
      (⊎_elim
      (λ (y : w.0 ≡ t).
      let f = rw y at w.2 in
      let low = rw y at w.3 in
      let e : t.address ≡ at = omega (arith, a.0) in
      rw (eq-eqb t.address at e, lt-ltb (last_of t) (s + q) f.1, lt-ltb 0 (ttl_of t) f.2, le-leb s t.address f.0)
      (walk_covered ts (last_of t + 1) (lower life (ttl_of t)) a.2 (omega (arith, first_last t)) (omega (arith, f.1))
      (λ x m k.
      let v = c x (omega (arith, first_last t)) k in
      ⊎_elim
      (λ (z : v.0 ≡ t). absurd (let u = rw z at v.4 in omega arith))
      (λ (z : Memᴰ v.0 ts). (v.0, z, v.2, v.3, v.4))
      (Memᴰ.cases_cons v.1))))
      (λ (y : Memᴰ w.0 ts). absurd (omega (arith, (ascending_in (last_of t + 1) ts w.0 a.2 y).0, w.3, a.0, first_last t)))
      (Memᴰ.cases_cons w.1)))
      (λ (b : s + q ≤ at). rw (le-leb (s + q) at b, beyond at (t ∷ ts) a b))
      (lt_or at (s + q))

  -- the walk finds none, or every register from `at` on lies in such a tag
  walk_tells : (ts : List Tag) (at life : ℕ) → s ≤ at → (tiled at (s + q) life ts ≡ 0) ⊎ ((x : ℕ) → at ≤ x → x < s + q → InFast ts x)
  unfolding tiled
  walk_tells [] at life l =
      ⊎_elim (λ (b : at < s + q). inl (rw (lt-leb (s + q) at b))) (λ (b : s + q ≤ at). inr (λ x m h. absurd (omega arith))) (lt_or at (s + q))
  walk_tells (t ∷ ts) at life l =
      ⊎_elim
      (λ (b : at < s + q). rw (lt-leb (s + q) at b)
      (⊎_elim
      (λ (n : is_next at (s + q) t ≡ true).
      let f = next_fast at t l n in
      rw n
      (⊎_elim
      inl
      (λ (c : (x : ℕ) → last_of t + 1 ≤ x → x < s + q → InFast ts x). inr (λ x m h.
      ⊎_elim
      (λ (k : last_of t < x). let w = c x (omega arith) h in (w.0, Memᴰ.tail w.1, w.2, w.3, w.4))
      (λ (k : x ≤ last_of t). (t, Memᴰ.head refl, f.1, omega (arith, f.0), k))
      (lt_or (last_of t) x)))
      (walk_tells ts (last_of t + 1) (lower life (ttl_of t)) (omega (arith, f.0, first_last t)))))
      (λ (n : is_next at (s + q) t ≡ false). rw n (inl refl))
      (true_or (is_next at (s + q) t))))
      (λ (b : s + q ≤ at). inr (λ x m h. absurd (omega arith)))
      (lt_or at (s + q))

  -- THE LIFE, OR NONE

  -- the life of what is cacheable, else 0
  abbrev pub life_or_none : List Tag → ℕ
  life_or_none ts = cond (cacheable_by ts (Read Registers s q)) (life_by ts (Read Registers s q)) 0

  -- 0 says that it is not cacheable, and any other number is the life of what is.
  pub life-none : (ts : List Tag) → life_or_none ts ≡ 0 → cacheable_by ts (Read Registers s q) ≡ false
  life-none ts z =
      ⊎_elim
      (λ (e : cacheable_by ts (Read Registers s q) ≡ true). absurd (omega (arith, rw e at z, life_positive ts Registers s q ((cacheable_exactly s q ts).0 e))))
      (λ e. e)
      (true_or (cacheable_by ts (Read Registers s q)))

  pub life-some : (ts : List Tag) → (life_or_none ts ≡ 0 → ⊥) → (cacheable_by ts (Read Registers s q) ≡ true) × (life_or_none ts ≡ life_by ts (Read Registers s q))
  life-some ts n =
      ⊎_elim
      (λ (e : cacheable_by ts (Read Registers s q) ≡ true). (e, rw e))
      (λ (e : cacheable_by ts (Read Registers s q) ≡ false). absurd (n (rw e)))
      (true_or (cacheable_by ts (Read Registers s q)))

  walk_all : (ts : List Tag) → Ascending s ts → life_or_none ts ≡ tiled s (s + q) 0 ts
  unfolding life_by
  walk_all ts a =
      ⊎_elim
      (λ (e : cacheable_by ts (Read Registers s q) ≡ true). rw e
      (sym (walk_covered ts s 0 a (omega arith) (omega arith) ((cacheable_exactly s q ts).0 e).1 ∙ lowest_all ts)))
      (λ (e : cacheable_by ts (Read Registers s q) ≡ false). rw e
      (⊎_elim
      (λ z. sym z)
      (λ (c : (x : ℕ) → s ≤ x → x < s + q → InFast ts x). ⊎_elim
      (λ (h : 0 < q). absurd (true≢false (sym ((cacheable_exactly s q ts).1 (h, c)) ∙ e)))
      (λ (h : q ≤ 0). sym (walk_none ts s 0 (omega arith)))
      (lt_or 0 q))
      (walk_tells ts s 0 (omega arith))))
      (true_or (cacheable_by ts (Read Registers s q)))

  -- a tag that does not lie inside counts for nothing
  life_past : (t : Tag) (ts : List Tag) → is_fast s q t ≡ false → life_or_none (t ∷ ts) ≡ life_or_none ts
  unfolding cacheable_by life_by is_covered filter
  life_past t ts e = rw e

  -- where the first tag begins before the range and reaches into it, the first register is in none that lies inside
  life_cut : (from : ℕ) (t : Tag) (ts : List Tag) → Ascending from (t ∷ ts) → t.address < s → s ≤ last_of t → life_or_none (t ∷ ts) ≡ 0
  unfolding Ascending
  life_cut from t ts a l h =
      ⊎_elim
      (λ (e : cacheable_by (t ∷ ts) (Read Registers s q) ≡ true).
      let c = (cacheable_exactly s q (t ∷ ts)).0 e in
      let w = c.1 s (omega arith) (omega (arith, c.0)) in
      absurd
      (⊎_elim
      (λ (y : w.0 ≡ t). let f = rw y at w.2 in omega (arith, f.0))
      (λ (y : Memᴰ w.0 ts). omega (arith, (ascending_in (last_of t + 1) ts w.0 a.2 y).0, w.3))
      (Memᴰ.cases_cons w.1)))
      (λ (e : cacheable_by (t ∷ ts) (Read Registers s q) ≡ false). rw e)
      (true_or (cacheable_by (t ∷ ts) (Read Registers s q)))

  -- The walk from the first tag on that does not end before the range tells whether a read is cacheable, and its life.
  pub life_tiled : (ts : List Tag) (from i : ℕ) (d : Tag) → Ascending from ts → ((k : ℕ) → k < i → last_of (get_or ts k d) < s) → (i < length ts → s ≤ last_of (get_or ts i d))
      → life_or_none ts ≡ tiled s (s + q) 0 (drop i ts)
  unfolding tiled Ascending
  life_tiled [] from zero d a below here = walk_all [] tt
  life_tiled [] from (suc i) d a below here = walk_all [] tt
  life_tiled (t ∷ ts) from zero d a below here =
      ⊎_elim
      (λ (l : t.address < s). life_cut from t ts a l (here (omega arith)) ∙ rw (ne_eqb t.address s (λ z. omega arith)) (⊎_elim (λ e. rw e) (λ e. rw e) (true_or (leb (s + q) s))))
      (λ (l : s ≤ t.address). walk_all (t ∷ ts) (l, a.1, a.2))
      (lt_or t.address s)
  life_tiled (t ∷ ts) from (suc i) d a below here =
      life_past t ts (rw (lt-leb s t.address (omega (arith, below 0 (omega arith), first_last t))))
      ∙ life_tiled ts (last_of t + 1) i d a.2 (λ k h. below (suc k) (omega arith)) (λ h. here (omega arith))
