-- What stands at a place of the columns, and that the tests and the searches of the code are those of the cache.
-- Assumes nothing.
use Prim.Native.Nat.{ℕ, ◌+◌, ◌*◌, ◌/◌, ◌%◌, ◌≤◌, ◌<◌}
use mathlib.Core.Path.{◌≡◌, refl, ap, sym, ◌∙◌}
use mathlib.Core.Logic.{⊎_elim, ◌⊎◌}
use mathlib.Core.Bool.{Bool, true, false, cond, not, ◌&&◌}
use mathlib.Core.Option.{none}
use mathlib.Core.List.{List}
use native.Mathlib.Omega.{arith}
use lib.Dec.{eqb, ltb}
use lib.ListN.{length, get_or, take}
use lib.Seq.{length-take-le, get_or-take}
use Rattle.std.specs.List.{position, position_or_len}
use Rattle.std.proofs.lemmas.List.Sums.{fails_before_first, passes_at_first}
use Rattle.laws.specs.Options.{place_or}
use borrow.Author.Tests.{eq-eqb, ne_eqb, eqb-true, eqb-false, lt-ltb, le-ltb}
use Rattle.laws.specs.Search.{best}
use Rattle.laws.proofs.Choice.{true_or, lt_or, or_left, same_test}
use Rattle.laws.proofs.ListLaws.{get_d_tab}
use Rattle.laws.proofs.SearchLaws.{best_wins, best_stays, best_ext, best-some, best_none, best-nothing, best_cut, first_found}
use Rattle.pdu.specs.Reads.{equal_reads}
use Rattle.pdu.specs.Words.{asked_from, word_of, what_of, Lawful}
use Rattle.pdu.specs.declared.Table.TheVariants.{Registers}
use Rattle.pdu.specs.declared.Asked.TheVariants.{Read}
use Rattle.pdu.proofs.RequestLaws.{class_read, known}
use Rattle.pdu.proofs.ReadLaws.{equal_exact, equal_self}
use Rattle.cache.specs.Cache.{in_cache, has_key, is_fresh, hit_place, own_place, spare_place, oldest_place, taken_place}
use Rattle.cache.proofs.CacheLaws.{hit_is_own}
use Rattle.caching.specs.Kept.{word_at, time_at, bound_in, bytes_of, cached_at, cache_of, Word, Key, SoundCache, has_word, lasts, is_spare, is_earlier}

-- WHAT A KEY IS

-- Its word asks for registers.
pub key_asks : (n : ℕ) → Key n → (what_of n).asked ≡ Read Registers (n % 281474976710656 / 65536 % 65536) (n % 281474976710656 % 65536)
unfolding what_of asked_from
key_asks n key = rw (class_read (what_of n).function key.reads)

-- It is a read.
pub key_reads : (n : ℕ) → Key n → equal_reads (what_of n) (what_of n) ≡ true
key_reads n key = equal_self (what_of n) Registers _ _ (key_asks n key)

-- It asks for at most 125 registers, and its lowest 16 bits say how many.
pub key_bytes : (n : ℕ) → Key n → (bytes_of (what_of n).asked ≡ 2 * (n % 65536)) × (n % 65536 ≤ 125)
unfolding Lawful
key_bytes n key =
    let low : n % 281474976710656 % 65536 ≡ n % 65536 = omega arith in
    let legal = rw (key_asks n key) at key.word.proper.lawful in
    (rw (key_asks n key, low), omega (arith, legal.1))

-- The word of something that may be asked is not 0.
pub word_there : (n : ℕ) → Word n → n ≡ 0 → ⊥
unfolding what_of
word_there n w e = let z : (what_of n).function ≡ 0 = ap (λ m. (what_of m).function) e in omega (arith, (known (what_of n).function).0 w.proper.function)

-- WHAT STANDS AT A PLACE

pub place_at : (cache shown : List ℕ) (k : ℕ) → k < 64 → in_cache (cache_of cache shown) k ≡ cached_at cache shown k
unfolding cache_of
place_at cache shown k l = get_d_tab 64 (cached_at cache shown) k none l

-- THE TESTS

module _ (cache shown : List ℕ) (s : SoundCache cache shown) where
  -- it has the key of a request exactly if it has its word
  same_key : (word : ℕ) → Word word → (k : ℕ) → k < 64 → has_key (what_of word) (cached_at cache shown k) ≡ has_word cache word k
  same_key word w k l =
      ⊎_elim
      (λ (t : eqb (word_at cache k) 0 ≡ true). rw t (sym (ne_eqb (word_at cache k) word (λ z. word_there word w (sym z ∙ eqb-true _ _ t)))))
      (λ (t : eqb (word_at cache k) 0 ≡ false).
      let key = s.keys k l (eqb-false _ _ t) in
      rw t
      (same_test _ _
      (λ x. eq-eqb (word_at cache k) word (sym key.word.back ∙ ap word_of (sym (equal_exact _ _ x)) ∙ w.back))
      (λ x. rw (← eqb-true (word_at cache k) word x) (key_reads (word_at cache k) key))))
      (true_or (eqb (word_at cache k) 0))

  -- it is fresh exactly if it is not empty and less than its life has gone by
  same-fresh : (time k : ℕ) → is_fresh time (cached_at cache shown k) ≡ (not (eqb (word_at cache k) 0) && lasts cache time k)
  same-fresh time k = ⊎_elim (λ t. rw t) (λ t. rw t) (true_or (eqb (word_at cache k) 0))

  same_spare : (time k : ℕ) → not (is_fresh time (cached_at cache shown k)) ≡ is_spare cache time k
  same_spare time k = ⊎_elim (λ t. rw t) (λ t. rw t) (true_or (eqb (word_at cache k) 0))

  -- THE SEARCHES

  -- no place from the bound on has the word of something that may be asked
  own_below : (word : ℕ) → Word word → best (has_word cache word) (λ j k. false) 64 64 ≡ best (has_word cache word) (λ j k. false) 64 (bound_in cache)
  own_below word w =
      best_cut (has_word cache word) (λ j k. false) 64 (bound_in cache) 64 s.bounded.low
      (λ k b l. ne_eqb (word_at cache k) word (λ z. word_there word w (sym z ∙ s.bounded.above k b l)))

  own_found : (word : ℕ) → Word word → best (has_word cache word) (λ j k. false) 64 (bound_in cache) ≡ own_place (what_of word) (cache_of cache shown)
  own_found word w =
      sym (own_below word w)
      ∙ best_ext _ _ (λ j k. false) (λ j k. false) 64 64
      (λ k l. sym (rw (place_at cache shown k l) (same_key word w k l)))
      (λ j k l m t u. refl)

  spare_found : (time : ℕ) → best (is_spare cache time) (λ j k. false) 64 64 ≡ spare_place time (cache_of cache shown)
  spare_found time =
      best_ext _ _ (λ j k. false) (λ j k. false) 64 64
      (λ k l. sym (rw (place_at cache shown k l) (same_spare time k)))
      (λ j k l m t u. refl)

  -- where no place is empty
  oldest_found : (time : ℕ) → 64 ≤ best (is_spare cache time) (λ j k. false) 64 64 → best (λ k. true) (is_earlier cache) 64 64 ≡ oldest_place (cache_of cache shown)
  oldest_found time full =
      best_ext (λ k. true) (λ k. true) _ _ 64 64
      (λ k l. refl)
      (λ j k l m t u. sym (rw (place_at cache shown j l, place_at cache shown k m, there j l, there k m) refl))
    where
      there : (k : ℕ) → k < 64 → eqb (word_at cache k) 0 ≡ false
      there k l = or_left _ _ (best_none (is_spare cache time) (λ j k. false) 64 full k l)

  -- A request is hit at the place that has its word, if less than the life of what stands there has gone by.
  pub hit_found : (word time own : ℕ) → Word word → own ≡ best (has_word cache word) (λ j k. false) 64 (bound_in cache)
      → hit_place time (what_of word) (cache_of cache shown) ≡ cond (ltb own 64 && lasts cache time own) own 64
  hit_found word time own w e =
      let q : own_place (what_of word) (cache_of cache shown) ≡ own = sym (e ∙ own_found word w) in
      let f = e ∙ sym (own_below word w) in
      hit_is_own (cache_of cache shown) s.sorted time (what_of word)
      ∙ rw q
      (⊎_elim
      (λ (l : own < 64).
      let has : eqb (word_at cache own) word ≡ true = rw (← f) at (best-some (has_word cache word) (λ j k. false) 64 (rw (← f) l)) in
      rw (place_at cache shown own l, same-fresh time own, eqb-true (word_at cache own) word has, ne_eqb word 0 (word_there word w)))
      (λ (l : 64 ≤ own). rw (le-ltb own 64 l))
      (lt_or own 64))

  -- A reply takes what the three searches find, the first of them first.
  module _ (word time : ℕ) (w : Word word) where
    pub taken_own : {own : ℕ} → own ≡ best (has_word cache word) (λ j k. false) 64 (bound_in cache) → own < 64 → own ≡ taken_place time (what_of word) (cache_of cache shown)
    unfolding taken_place
    taken_own {own} e l = rw (← own_found word w, ← e, lt-ltb own 64 l)

    pub taken_spare : {own spare : ℕ} → own ≡ best (has_word cache word) (λ j k. false) 64 (bound_in cache) → 64 ≤ own → spare ≡ best (is_spare cache time) (λ j k. false) 64 64 → spare < 64
        → spare ≡ taken_place time (what_of word) (cache_of cache shown)
    unfolding taken_place
    taken_spare {own} {spare} e l f m = rw (← own_found word w, ← e, le-ltb own 64 l, ← spare_found time, ← f, lt-ltb spare 64 m)

    pub taken_oldest : {own spare oldest : ℕ} → own ≡ best (has_word cache word) (λ j k. false) 64 (bound_in cache) → 64 ≤ own → spare ≡ best (is_spare cache time) (λ j k. false) 64 64 → 64 ≤ spare
        → oldest ≡ best (λ k. true) (is_earlier cache) 64 64 → oldest ≡ taken_place time (what_of word) (cache_of cache shown)
    unfolding taken_place
    taken_oldest {own} {spare} e l f m g =
        rw (← own_found word w, ← e, le-ltb own 64 l, ← spare_found time, ← f, le-ltb spare 64 m) (g ∙ oldest_found time (rw (← f) m))

-- A turn of the search for the oldest: a place that was filled earlier than what was found, or not.
pub oldest_turn : (cache : List ℕ) (k found : ℕ) {r : ℕ} → k < 64 → found < k → found ≡ best (λ k. true) (is_earlier cache) 64 k
    → ((time_at cache k < time_at cache found) × (r ≡ k)) ⊎ ((time_at cache found ≤ time_at cache k) × (r ≡ found)) → (r < k + 1) × (r ≡ best (λ k. true) (is_earlier cache) 64 (k + 1))
oldest_turn cache k found l b e w =
    ⊎_elim
    (λ (x : (time_at cache k < time_at cache found) × _).
    (omega (arith, x.1), x.1 ∙ best_wins (λ k. true) (is_earlier cache) 64 k found e (rw (ne_eqb found 64 (λ z. omega arith)) (lt-ltb _ _ x.0))))
    (λ (x : (time_at cache found ≤ time_at cache k) × _).
    (omega (arith, x.1), x.1 ∙ best_stays (λ k. true) (is_earlier cache) 64 k found e (rw (ne_eqb found 64 (λ z. omega arith)) (le-ltb _ _ x.0))))
    w
