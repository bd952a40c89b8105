-- The cache in plain words: which place is hit, which place a reply takes, what stands in each place after a fill and after a drop, and that every cache is sorted.
-- Assumes nothing.
use Prim.Native.Nat.{ℕ, zero, suc, ◌-◌, ◌≤◌, ◌<◌}
use mathlib.Core.Path.{◌≡◌, refl, ap, sym, ◌∙◌}
use mathlib.Core.Logic.{◌↔◌, ⊎_elim, ◌⊎◌, inl, inr}
use mathlib.Core.Bool.{Bool, true, false, cond, not, ◌&&◌, ◌||◌, false≢true, true≢false}
use mathlib.Core.Option.{Option, some, none, some-injective, none-ne-some}
use native.Mathlib.Omega.{arith}
use lib.ListN.{get_or-map, get_or-eq_default, length-set, length-map, length-replicate}
use lib.Seq.{get_or-set_same, get_or-set_other}
use lib.Dec.{eqb, ltb}
use borrow.Author.Tests.{ltb-true, ltb-false, lt-ltb, le-ltb, ne_eqb, eq-eqb, not-true, not-false}
use Rattle.laws.specs.Search.{best}
use Rattle.laws.proofs.Choice.{true_or, eq_or, lt_or, and_left, and_right}
use Rattle.laws.proofs.ListLaws.{get_d_repeat}
use Rattle.laws.proofs.SearchLaws.{best-some, best_none, best_ext, best-first, best-nothing, first_found}
use Rattle.pdu.specs.declared.What.{What}
use Rattle.pdu.specs.Spoiling.{spoils}
use Rattle.pdu.specs.Reads.{equal_reads}
use Rattle.pdu.specs.declared.Table.{Table}
use Rattle.pdu.specs.declared.Asked.TheVariants.{Read}
use Rattle.pdu.proofs.ReadLaws.{equal_exact, equal_other}
use Rattle.cache.specs.Cache.{Cached, Cache, emptied, in_cache, has_key, is_fresh, is_older, hit_place, own_place, spare_place, oldest_place, taken_place, filled_with, kept_from, dropped_by}
use Rattle.cache.specs.Plain.{Sorted, Keyed, Fresh, Spare, Takes, own, spare, oldest}

-- WHAT STANDS IN A PLACE

-- what has a key is a reply to that
has_keyed : (w : What) (o : Option Cached) → has_key w o ≡ true → Keyed w o
has_keyed w none t = absurd (false≢true t)
has_keyed w (some x) t = (x, refl, sym (equal_exact w x.what t))

-- It has the key of a read exactly if it is a reply to that.
pub key_exactly : (w : What) → equal_reads w w ≡ true → (o : Option Cached) → (has_key w o ≡ true) ↔ Keyed w o
key_exactly w self o = (has_keyed w o, λ h. rw (h.1, h.2) self)

-- It is fresh exactly if less than its life has gone by since it was filled.
pub fresh_exactly : (now : ℕ) (o : Option Cached) → (is_fresh now o ≡ true) ↔ Fresh now o
fresh_exactly now none = (λ t. absurd (false≢true t), λ h. absurd (none-ne-some h.0 h.1))
fresh_exactly now (some x) = (
  λ t. (x, refl, ltb-true (now - x.filled) x.life t),
  λ h. rw (some-injective x h.0 h.1) (lt-ltb _ _ h.2),
)

-- It is not fresh exactly if it is empty or expired.
pub spare_exactly : (now : ℕ) (o : Option Cached) → (is_fresh now o ≡ false) ↔ Spare now o
spare_exactly now none = (λ t. inl refl, λ h. refl)
spare_exactly now (some x) = (
  λ t. inr (x, refl, ltb-false (now - x.filled) x.life t),
  ⊎_elim
      (λ (h : some x ≡ none). absurd (none-ne-some x (sym h)))
      (λ (h : (e : Cached) × (some x ≡ some e) × (e.life ≤ now - e.filled)). rw (some-injective x h.0 h.1) (le-ltb _ _ h.2)),
)

-- One is older than another exactly if it was filled earlier.
pub older_exactly : (a b : Option Cached) → (is_older a b ≡ true) ↔ ((d : Cached) × (e : Cached) × (a ≡ some d) × (b ≡ some e) × (d.filled < e.filled))
older_exactly none b = (λ t. absurd (false≢true t), λ h. absurd (none-ne-some h.0 h.2))
older_exactly (some x) none = (λ t. absurd (false≢true t), λ h. absurd (none-ne-some h.1 h.3))
older_exactly (some x) (some y) = (
  λ t. (x, y, refl, refl, ltb-true x.filled y.filled t),
  λ h. rw (some-injective x h.0 h.2, some-injective y h.1 h.3) (lt-ltb _ _ h.4),
)

-- what has a key and is fresh is a reply to that whose life is not over
shown_there : (now : ℕ) (w : What) (o : Option Cached) → (has_key w o && is_fresh now o) ≡ true → (e : Cached) × (o ≡ some e) × (e.what ≡ w) × (now - e.filled < e.life)
shown_there now w o t =
    let a = has_keyed w o (and_left _ _ t) in
    let b = (fresh_exactly now o).0 (and_right (has_key w o) _ t) in
    (a.0, a.1, a.2, rw (some-injective b.0 a.0 (sym b.1 ∙ a.1)) at b.2)

-- A request that is hit finds a reply to what it asks, whose life is not over.
pub hit_found : (c : Cache) (now : ℕ) (w : What) → hit_place now w c < 64
    → (e : Cached) × (in_cache c (hit_place now w c) ≡ some e) × (e.what ≡ w) × (now - e.filled < e.life)
hit_found c now w l = shown_there now w (in_cache c (hit_place now w c)) (best-some (λ k. has_key w (in_cache c k) && is_fresh now (in_cache c k)) (λ i j. false) 64 l)

-- where something does not hold, a test that holds exactly then fails
fails : {P : Type 0} (t : Bool) → (t ≡ true) ↔ P → (P → ⊥) → t ≡ false
fails true e n = absurd (n (e.0 refl))
fails false e n = refl

-- nothing is fresh and spare
never_both : (now : ℕ) (o : Option Cached) → Fresh now o → Spare now o → ⊥
never_both now o f s = true≢false (sym ((fresh_exactly now o).1 f) ∙ (spare_exactly now o).1 s)

-- when the place was filled
abbrev filled_at : Option Cached → ℕ
filled_at none = 0
filled_at (some e) = e.filled

-- A search for the least: what it finds is below n, none below n is less, and all before it are more.
module _ (f : ℕ → ℕ) where
  abbrev Leads : ℕ → ℕ → Type 0
  Leads n b = (b < n) × ((k : ℕ) → k < n → (f b ≤ f k) × (k < b → f b < f k))

  leads_new : (n b : ℕ) → Leads n b → f n < f b → Leads (suc n) n
  leads_new n b i t = (
    omega arith,
    λ k l. ⊎_elim
        (λ (q : k ≡ n). rw q (omega arith, λ z. absurd (omega arith)))
        (λ (q : k ≡ n → ⊥). let y = (i.1 k (omega (arith, q))).0 in (omega arith, λ z. omega arith))
        (eq_or k n),
  )

  leads_old : (n b : ℕ) → Leads n b → f b ≤ f n → Leads (suc n) b
  leads_old n b i t = (
    omega (arith, i.0),
    λ k l. ⊎_elim
        (λ (q : k ≡ n). rw q (t, λ z. absurd (omega (arith, i.0))))
        (λ (q : k ≡ n → ⊥). i.1 k (omega (arith, q)))
        (eq_or k n),
  )

  leads : (most n : ℕ) → 0 < n → n ≤ most → Leads n (best (λ k. true) (λ j k. ltb (f j) (f k)) most n)
  unfolding best
  leads most zero h l = absurd (omega arith)
  leads most (suc zero) h l = rw (eq-eqb most most refl) (omega arith, λ k b. let e : k ≡ 0 = omega arith in rw e (omega arith, λ z. absurd (omega arith)))
  leads most (suc (suc n)) h l = on (best (λ k. true) (λ j k. ltb (f j) (f k)) most (suc n)) (leads most (suc n) (omega arith) (omega arith))
    where
      on : (b : ℕ) → Leads (suc n) b → Leads (suc (suc n)) (cond (eqb b most || ltb (f (suc n)) (f b)) (suc n) b)
      on b i =
          rw (ne_eqb b most (λ z. omega (arith, i.0)))
          (⊎_elim
          (λ (t : ltb (f (suc n)) (f b) ≡ true). rw t (leads_new (suc n) b i (ltb-true _ _ t)))
          (λ (t : ltb (f (suc n)) (f b) ≡ false). rw t (leads_old (suc n) b i (ltb-false _ _ t)))
          (true_or (ltb (f (suc n)) (f b))))

module _ (c : Cache) (sorted : Sorted c) (now : ℕ) (w : What) (self : equal_reads w w ≡ true) where
  -- where the key stands in a place, it stands in no other
  own_once : (j k : ℕ) → Keyed w (in_cache c j) → Keyed w (in_cache c k) → j ≡ k
  own_once j k a b = sorted.once j k a.0 b.0 a.1 b.1 (a.2 ∙ sym b.2)

  -- HITS

  abbrev shows : ℕ → Bool
  shows k = has_key w (in_cache c k) && is_fresh now (in_cache c k)

  shown_exactly : (k : ℕ) → (shows k ≡ true) ↔ ((e : Cached) × (in_cache c k ≡ some e) × (e.what ≡ w) × (now - e.filled < e.life))
  shown_exactly k = (
    λ t. shown_there now w (in_cache c k) t,
    λ h. rw ((key_exactly w self (in_cache c k)).1 (h.0, h.1, h.2)) ((fresh_exactly now (in_cache c k)).1 (h.0, h.1, h.3)),
  )

  -- A read is hit at a place exactly if a reply to it stands there whose life is not over.
  pub hit_exactly : (k : ℕ) → k < 64 → (hit_place now w c ≡ k) ↔ ((e : Cached) × (in_cache c k ≡ some e) × (e.what ≡ w) × (now - e.filled < e.life))
  hit_exactly k l = (
    λ q. (shown_exactly k).0 (rw q at (best-some shows (λ i j. false) 64 (rw q l))),
    λ h. first_found shows 64 64 k (omega arith) l
        (λ j b. fails (shows j) (shown_exactly j) (λ s. let z = own_once j k (s.0, s.1, s.2) (h.0, h.1, h.2) in omega arith))
        ((shown_exactly k).1 h),
  )

  -- It is hit at no place exactly if the life of every reply to it is over.
  pub hit_nowhere_exactly : (hit_place now w c ≡ 64) ↔ ((k : ℕ) (e : Cached) → k < 64 → in_cache c k ≡ some e → e.what ≡ w → e.life ≤ now - e.filled)
  hit_nowhere_exactly = (
    λ q k e l h s. ⊎_elim
        (λ (f : now - e.filled < e.life). absurd (true≢false (sym ((shown_exactly k).1 (e, h, s, f)) ∙ best_none shows (λ i j. false) 64 (omega (arith, q)) k l)))
        (λ f. f)
        (lt_or (now - e.filled) e.life),
    λ over. best-nothing shows (λ i j. false) 64 64
        (λ k l. fails (shows k) (shown_exactly k) (λ h. let z = over k h.0 l h.1 h.2 in omega (arith, h.3))),
  )

  -- THE PLACE THAT A REPLY TAKES

  abbrev keyed : ℕ → Bool
  keyed k = has_key w (in_cache c k)

  abbrev spared : ℕ → Bool
  spared k = not (is_fresh now (in_cache c k))

  -- the place with the key
  takes_own : own_place w c < 64 → Takes now w c (own_place w c)
  takes_own l = own ((key_exactly w self _).0 (best-some keyed (λ i j. false) 64 l))

  -- the lowest that is empty or expired
  module _ (no : 64 ≤ own_place w c) where
    no_key : (k : ℕ) → k < 64 → Keyed w (in_cache c k) → ⊥
    no_key k l h = true≢false (sym ((key_exactly w self (in_cache c k)).1 h) ∙ best_none keyed (λ i j. false) 64 no k l)

    takes_spare : spare_place now c < 64 → Takes now w c (spare_place now c)
    takes_spare l =
        spare no_key ((spare_exactly now _).0 (not-true _ (best-some spared (λ i j. false) 64 l)))
        (λ k h. (fresh_exactly now (in_cache c k)).0 (not-false _ (best-first spared 64 64 (omega arith) k (omega arith) h)))

    -- the one filled earliest, of several the lowest
    module _ (full : 64 ≤ spare_place now c) where
      all_fresh : (k : ℕ) → k < 64 → Fresh now (in_cache c k)
      all_fresh k l = (fresh_exactly now (in_cache c k)).0 (not-false _ (best_none spared (λ i j. false) 64 full k l))

      older_by : (j k : ℕ) → j < 64 → k < 64 → is_older (in_cache c j) (in_cache c k) ≡ ltb (filled_at (in_cache c j)) (filled_at (in_cache c k))
      older_by j k l m = rw ((all_fresh j l).1, (all_fresh k m).1)

      oldest_least : oldest_place c ≡ best (λ k. true) (λ j k. ltb (filled_at (in_cache c j)) (filled_at (in_cache c k))) 64 64
      oldest_least = best_ext (λ k. true) (λ k. true) _ _ 64 64 (λ k l. refl) (λ j k l m s t. older_by j k l m)

      takes_oldest : (oldest_place c < 64) × Takes now w c (oldest_place c)
      takes_oldest =
          let f = leads (λ k. filled_at (in_cache c k)) 64 64 (omega arith) (omega arith) in
          rw oldest_least (f.0, oldest no_key all_fresh (λ k d e l h g. rw (ap filled_at h, ap filled_at g) at (f.1 k l)))

  takes : (taken_place now w c < 64) × Takes now w c (taken_place now w c)
  unfolding taken_place
  takes =
      ⊎_elim
      (λ (l : own_place w c < 64). rw (lt-ltb (own_place w c) 64 l) (l, takes_own l))
      (λ (no : 64 ≤ own_place w c). rw (le-ltb (own_place w c) 64 no)
      (⊎_elim
      (λ (l : spare_place now c < 64). rw (lt-ltb (spare_place now c) 64 l) (l, takes_spare no l))
      (λ (full : 64 ≤ spare_place now c). rw (le-ltb (spare_place now c) 64 full) (takes_oldest no full))
      (lt_or (spare_place now c) 64)))
      (lt_or (own_place w c) 64)

  -- of two places only one can be taken
  takes_one : (p q : ℕ) → p < 64 → q < 64 → Takes now w c p → Takes now w c q → p ≡ q
  takes_one p q l m (own a) (own b) = own_once p q a b
  takes_one p q l m (own a) (spare n s f) = absurd (n p l a)
  takes_one p q l m (own a) (oldest n f o) = absurd (n p l a)
  takes_one p q l m (spare n s f) (own b) = absurd (n q m b)
  takes_one p q l m (spare n s f) (spare n' s' f') =
      ⊎_elim
      (λ (h : p < q). absurd (never_both now (in_cache c p) (f' p h) s))
      (λ (h : q ≤ p). ⊎_elim (λ (h' : q < p). absurd (never_both now (in_cache c q) (f q h') s')) (λ (h' : p ≤ q). omega arith) (lt_or q p))
      (lt_or p q)
  takes_one p q l m (spare n s f) (oldest n' f' o) = absurd (never_both now (in_cache c p) (f' p l) s)
  takes_one p q l m (oldest n f o) (own b) = absurd (n q m b)
  takes_one p q l m (oldest n f o) (spare n' s f') = absurd (never_both now (in_cache c q) (f q m) s)
  takes_one p q l m (oldest n f o) (oldest n' f' o') =
      let a = f p l in
      let b = f q m in
      let x = o q a.0 b.0 m a.1 b.1 in
      let y = o' p b.0 a.0 l b.1 a.1 in
      ⊎_elim
      (λ (h : p < q). absurd (let z = y.1 h in omega (arith, x.0)))
      (λ (h : q ≤ p). ⊎_elim (λ (h' : q < p). absurd (let z = x.1 h' in omega (arith, y.0))) (λ (h' : p ≤ q). omega arith) (lt_or q p))
      (lt_or p q)

  pub taken_low : taken_place now w c < 64
  taken_low = takes.0

  -- A reply takes a place exactly if it is the one with its own key, else the lowest that is empty or expired, else the one filled earliest, of several the lowest.
  pub taken_exactly : (p : ℕ) → p < 64 → (taken_place now w c ≡ p) ↔ Takes now w c p
  taken_exactly p l = (λ q. rw q at takes.1, λ t. takes_one (taken_place now w c) p taken_low l takes.1 t)

-- A place that is fresh is taken only by a reply with its own key, or by one whose key stands nowhere while all are fresh; then it is the one filled earliest, of several the lowest.
pub fresh_taken : (c : Cache) (now : ℕ) (w : What) (p : ℕ) → Takes now w c p → (d : Cached) → in_cache c p ≡ some d → now - d.filled < d.life
    → (d.what ≡ w)
    ⊎ (((k : ℕ) → k < 64 → Keyed w (in_cache c k) → ⊥) × ((k : ℕ) → k < 64 → Fresh now (in_cache c k))
    × ((k : ℕ) (e : Cached) → k < 64 → in_cache c k ≡ some e → (d.filled ≤ e.filled) × (k < p → d.filled < e.filled)))
fresh_taken c now w p (own a) d h f = inl (ap (λ (x : Cached). x.what) (some-injective d a.0 (sym h ∙ a.1)) ∙ a.2)
fresh_taken c now w p (spare n s l) d h f = absurd (never_both now (in_cache c p) (d, h, f) s)
fresh_taken c now w p (oldest n a o) d h f = inr (n, a, λ k e l g. o k d e l h g)

-- What is no read hits nothing.
pub no_read_hits_nothing : (c : Cache) (now : ℕ) (w : What) → ((t : Table) (s q : ℕ) → w.asked ≡ Read t s q → ⊥) → hit_place now w c ≡ 64
no_read_hits_nothing c now w other = best-nothing _ (λ i j. false) 64 64 (λ k l. keyless (in_cache c k))
  where
    keyless : (o : Option Cached) → (has_key w o && is_fresh now o) ≡ false
    keyless none = refl
    keyless (some x) = rw (equal_other w x.what other)

-- A request is hit at the place that has its key, if that is fresh, and nowhere else.
pub hit_is_own : (c : Cache) → Sorted c → (now : ℕ) (w : What) → hit_place now w c ≡ cond (ltb (own_place w c) 64 && is_fresh now (in_cache c (own_place w c))) (own_place w c) 64
hit_is_own c s now w =
    ⊎_elim
    (λ (l : own_place w c < 64). rw (lt-ltb (own_place w c) 64 l) (found l (has_keyed w _ (best-some (λ k. has_key w (in_cache c k)) (λ i j. false) 64 l))))
    (λ (l : 64 ≤ own_place w c). rw (le-ltb (own_place w c) 64 l)
    (best-nothing _ (λ i j. false) 64 64 (λ k h. rw (best_none (λ k. has_key w (in_cache c k)) (λ i j. false) 64 l k h))))
    (lt_or (own_place w c) 64)
  where
    found : own_place w c < 64 → Keyed w (in_cache c (own_place w c)) → hit_place now w c ≡ cond (is_fresh now (in_cache c (own_place w c))) (own_place w c) 64
    found l h =
        let self : equal_reads w w ≡ true = rw h.2 at (s.reads (own_place w c) h.0 h.1) in
        ⊎_elim
        (λ (t : is_fresh now (in_cache c (own_place w c)) ≡ true). rw t
        ((hit_exactly c s now w self (own_place w c) l).1 (h.0, h.1, h.2, ltb-true _ _ (rw h.1 at t))))
        (λ (t : is_fresh now (in_cache c (own_place w c)) ≡ false). rw t
        ((hit_nowhere_exactly c s now w self).1 (λ k e b g q.
        let m : k ≡ own_place w c = s.once k (own_place w c) e h.0 g h.1 (q ∙ sym h.2) in
        let here : in_cache c (own_place w c) ≡ some e = rw m at g in
        ltb-false (now - e.filled) e.life (rw here at t))))
        (true_or (is_fresh now (in_cache c (own_place w c))))

-- AFTER A FILL AND AFTER A DROP

-- After a fill the place that is taken holds the new reply, and every other place what it held.
pub filled_exactly : (e : Cached) (c : Cache) → Sorted c → equal_reads e.what e.what ≡ true
    → (in_cache (filled_with e c) (taken_place e.filled e.what c) ≡ some e) × ((k : ℕ) → (k ≡ taken_place e.filled e.what c → ⊥) → in_cache (filled_with e c) k ≡ in_cache c k)
unfolding filled_with
filled_exactly e c s self =
    let p = taken_place e.filled e.what c in
    (get_or-set_same c p (some e) none (let l = taken_low c s e.filled e.what self in omega (arith, s.long)), λ k n. get_or-set_other c p k (some e) none n)

-- After a drop a place holds a reply exactly if it held it and the request does not spoil it.
pub dropped_exactly : (w : What) (c : Cache) (k : ℕ) (e : Cached) → (in_cache (dropped_by w c) k ≡ some e) ↔ ((in_cache c k ≡ some e) × (spoils w e.what ≡ false))
unfolding dropped_by kept_from
dropped_exactly w c k e = rw (get_or-map (kept_from w) c k none) (kept (in_cache c k))
  where
    kept : (o : Option Cached) → (kept_from w o ≡ some e) ↔ ((o ≡ some e) × (spoils w e.what ≡ false))
    kept none = (λ h. absurd (none-ne-some e h), λ h. h.0)
    kept (some x) =
        ⊎_elim
        (λ (t : spoils w x.what ≡ true). rw t (
          λ h. absurd (none-ne-some e h),
          λ h. absurd (true≢false (sym t ∙ rw (some-injective x e h.0) h.1)),
        ))
        (λ (t : spoils w x.what ≡ false). rw t (λ h. (h, rw (some-injective x e h) at t), λ h. h.0))
        (true_or (spoils w x.what))

-- EVERY CACHE IS SORTED

-- Where nothing is cached.
pub emptied_exactly : (k : ℕ) → in_cache emptied k ≡ none
emptied_exactly k = get_d_repeat 64 k none

nothing_there : (k : ℕ) (e : Cached) → in_cache emptied k ≡ some e → ⊥
nothing_there k e h = none-ne-some e (sym (emptied_exactly k) ∙ h)

pub emptied_sorted : Sorted emptied
emptied_sorted = record {
  long = length-replicate {A = Option Cached} 64 none;
  reads = λ k e h. absurd (nothing_there k e h);
  once = λ j k d e h g s. absurd (nothing_there j d h);
}

-- After a drop.
pub dropped_sorted : (w : What) (c : Cache) → Sorted c → Sorted (dropped_by w c)
unfolding dropped_by
dropped_sorted w c s = record {
  long = length-map c (kept_from w) ∙ s.long;
  reads = λ k e h. s.reads k e ((dropped_exactly w c k e).0 h).0;
  once = λ j k d e h g. s.once j k d e ((dropped_exactly w c j d).0 h).0 ((dropped_exactly w c k e).0 g).0;
}

-- After a fill by a reply to a read.
module _ (e : Cached) (c : Cache) (s : Sorted c) (self : equal_reads e.what e.what ≡ true) where
  abbrev taken : ℕ
  taken = taken_place e.filled e.what c

  -- A place holds the new reply, or what it held, which has another key.
  pub filled_place : (k : ℕ) (d : Cached) → in_cache (filled_with e c) k ≡ some d → ((k ≡ taken) × (d ≡ e)) ⊎ ((in_cache c k ≡ some d) × (k ≡ taken → ⊥) × (e.what ≡ d.what → ⊥))
  filled_place k d h =
      let f = filled_exactly e c s self in
      ⊎_elim
      (λ (q : k ≡ taken). inl (q, some-injective d e (sym h ∙ rw q f.0)))
      (λ (q : k ≡ taken → ⊥).
      let there = sym (f.1 k q) ∙ h in
      let low : k < 64 = ⊎_elim (λ l. l) (λ (l : 64 ≤ k). absurd (none-ne-some d (sym (get_or-eq_default c none (rw s.long l)) ∙ there))) (lt_or k 64) in
      inr (there, q, λ z. q (sym ((taken_exactly c s e.filled e.what self k low).1 (own (d, there, sym z))))))
      (eq_or k taken)

  pub filled_sorted : Sorted (filled_with e c)
  unfolding filled_with
  filled_sorted = record {
    long = length-set c taken (some e) ∙ s.long;
    reads = λ k d h. ⊎_elim (λ q. rw q.1 self) (λ q. s.reads k d q.0) (filled_place k d h);
    once =
        λ j k a b h g z. ⊎_elim
        (λ q. ⊎_elim (λ p. q.0 ∙ sym p.0) (λ p. absurd (p.2 (sym (ap (λ (x : Cached). x.what) q.1) ∙ z))) (filled_place k b g))
        (λ q. ⊎_elim (λ p. absurd (q.2 (sym (z ∙ ap (λ (x : Cached). x.what) p.1)))) (λ p. s.once j k a b q.0 p.0 z) (filled_place k b g))
        (filled_place j a h);
  }
