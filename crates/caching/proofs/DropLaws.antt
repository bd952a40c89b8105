-- Dropping what an issued request spoils, one place at a time, and emptying: what the cache is afterwards, and that the columns stay sound.
-- Assumes nothing.
use Prim.Native.Nat.{ℕ, ◌+◌, ◌-◌, ◌≤◌, ◌<◌}
use mathlib.Core.Path.{◌≡◌, refl, ap, sym, ◌∙◌}
use mathlib.Core.Logic.{⊎_elim}
use mathlib.Core.Bool.{true, false}
use mathlib.Core.Option.{none}
use mathlib.Core.List.{List, ◌++◌}
use native.Mathlib.Omega.{arith}
use lib.ListN.{length, get_or, set, take, drop, replicate, length-set, length-replicate, length-append, length-drop, get_or-append}
use lib.Seq.{length-take-le, get_or-take, get_or-drop, get_or-append_right, get_or-set_same, get_or-set_other}
use lib.Dec.{eqb}
use Rattle.laws.proofs.Choice.{true_or, eq_or, lt_or}
use Rattle.laws.proofs.ListLaws.{tab_ext, map-tab, tab_repeat, get_d_repeat}
use Rattle.pdu.specs.declared.What.{What}
use Rattle.pdu.specs.Words.{what_of}
use Rattle.pdu.specs.Spoiling.{spoils}
use Rattle.pdu.specs.Reads.{is_read}
use Rattle.pdu.proofs.SpoilingLaws.{read_spoils_none}
use Rattle.cache.specs.Cache.{emptied, kept_from, dropped_by}
use Rattle.cache.proofs.CacheLaws.{emptied_sorted, dropped_sorted}
use Rattle.caching.specs.Kept.{word_at, bound_in, cached_at, cache_of, Bytes, SoundCache, word_after, Drops}

-- an empty place stays empty
pub after_none : (w : What) (held : ℕ) → held ≡ 0 → 0 ≡ word_after w held
after_none w held e = rw e (⊎_elim (λ t. rw t) (λ t. rw t) (true_or (spoils w (what_of 0))))

-- the places below k are dropped, every other number is as it was
pub record DroppedTo (k : ℕ) (w : What) (cache₀ cache : List ℕ) : Type 0 where
  pub long : length cache ≡ length cache₀
  pub done : (p : ℕ) → p < k → p < length cache₀ → get_or cache p 0 ≡ word_after w (get_or cache₀ p 0)
  pub rest : (p : ℕ) → k ≤ p → get_or cache p 0 ≡ get_or cache₀ p 0

pub dropped_none : (w : What) (cache : List ℕ) → DroppedTo 0 w cache cache
dropped_none w cache = record { long = refl; done = λ p h l. absurd (omega arith); rest = λ p l. refl }

pub dropped_next : (k : ℕ) (w : What) (cache₀ cache : List ℕ) → DroppedTo k w cache₀ cache → DroppedTo (k + 1) w cache₀ (set cache k (word_after w (get_or cache k 0)))
dropped_next k w cache₀ cache d = record {
  long = length-set cache k _ ∙ d.long;
  done = λ p h l. ⊎_elim
      (λ (q : p ≡ k). rw q (get_or-set_same cache k _ 0 (let e = d.long in omega arith) ∙ ap (word_after w) (d.rest k (omega arith))))
      (λ (q : p ≡ k → ⊥). get_or-set_other cache k p _ 0 q ∙ d.done p (omega (arith, q)) l)
      (eq_or p k);
  rest = λ p l. get_or-set_other cache k p _ 0 (λ z. omega arith) ∙ d.rest p (omega arith);
}

-- a read drops nothing
pub dropped_read : (k : ℕ) (w : What) (cache : List ℕ) → is_read w.asked ≡ true → DroppedTo k w cache cache
dropped_read k w cache e = record {
  long = refl;
  done = λ p h l. rw (read_spoils_none w (what_of (get_or cache p 0)) e);
  rest = λ p l. refl;
}

-- the first numbers alone are dropped, and the others stand behind them as they stood
pub dropped_front : (w : What) (cache₀ items : List ℕ) (b n : ℕ) → b ≤ length cache₀ → b ≤ n → DroppedTo n w (take b cache₀) items → DroppedTo b w cache₀ (items ++ drop b cache₀)
dropped_front w cache₀ items b n h m d =
    let size : length items ≡ b = d.long ∙ length-take-le b cache₀ h in
    record {
      long = length-append items (drop b cache₀) ∙ omega (arith, size, length-drop b cache₀);
      done = λ p l q.
          get_or-append items (drop b cache₀) 0 p (omega (arith, size))
          ∙ d.done p (omega arith) (omega (arith, length-take-le b cache₀ h))
          ∙ rw (get_or-take b cache₀ p 0 l);
      rest = λ p l.
          get_or-append_right items (drop b cache₀) p 0 (omega (arith, size))
          ∙ get_or-drop b cache₀ (p - length items) 0
          ∙ ap (λ i. get_or cache₀ i 0) (omega (arith, size));
    }

-- Once the places below the bound are dropped, the cache has what is spoiled dropped, and the columns are sound.
module _ (w : What) (cache₀ cache : List ℕ) (d : DroppedTo (bound_in cache₀) w cache₀ cache) (shown : List ℕ) (s : SoundCache cache₀ shown) where
  new_word : (k : ℕ) → k < 64 → word_at cache k ≡ word_after w (word_at cache₀ k)
  new_word k l =
      ⊎_elim
      (λ (b : k < bound_in cache₀). d.done k b (omega (arith, s.long)))
      (λ (b : bound_in cache₀ ≤ k). let z = s.bounded.above k b l in d.rest k b ∙ z ∙ after_none w (word_at cache₀ k) z)
      (lt_or k (bound_in cache₀))

  -- what is no word stays
  no_word : (k : ℕ) → 64 ≤ k → get_or cache k 0 ≡ get_or cache₀ k 0
  no_word k l = d.rest k (omega (arith, s.bounded.low))

  dropped_at : (k : ℕ) → k < 64 → cached_at cache shown k ≡ kept_from w (cached_at cache₀ shown k)
  unfolding kept_from
  dropped_at k l =
      rw (new_word k l, no_word (64 + k) (omega arith), no_word (128 + k) (omega arith))
      (⊎_elim
      (λ (t : spoils w (what_of (word_at cache₀ k)) ≡ true). rw t (⊎_elim (λ u. rw u) (λ u. rw u (rw t)) (true_or (eqb (word_at cache₀ k) 0))))
      (λ (t : spoils w (what_of (word_at cache₀ k)) ≡ false). rw t (⊎_elim (λ u. rw u) (λ u. rw u (rw t)) (true_or (eqb (word_at cache₀ k) 0))))
      (true_or (spoils w (what_of (word_at cache₀ k)))))

  dropped_cache : cache_of cache shown ≡ dropped_by w (cache_of cache₀ shown)
  unfolding cache_of dropped_by
  dropped_cache = tab_ext 64 _ _ dropped_at ∙ sym (map-tab (kept_from w) 64 (cached_at cache₀ shown))

  dropped_sound : SoundCache cache shown
  dropped_sound = record {
    long = d.long ∙ s.long;
    bytes = s.bytes;
    keys = λ k l there. ⊎_elim
        (λ (t : spoils w (what_of (word_at cache₀ k)) ≡ true). absurd (there (new_word k l ∙ rw t)))
        (λ (t : spoils w (what_of (word_at cache₀ k)) ≡ false).
        let e : word_at cache k ≡ word_at cache₀ k = new_word k l ∙ rw t in
        rw e (s.keys k l (λ z. there (e ∙ z))))
        (true_or (spoils w (what_of (word_at cache₀ k))));
    bounded = record {
      low = rw (no_word 192 (omega arith)) s.bounded.low;
      above = λ k. rw (no_word 192 (omega arith)) (λ b l. d.rest k b ∙ s.bounded.above k b l);
    };
    counts = λ k l. rw (no_word (128 + k) (omega arith)) (s.counts k l);
    sorted = rw dropped_cache (dropped_sorted w (cache_of cache₀ shown) s.sorted);
  }

pub dropped_all : (w : What) (cache₀ cache : List ℕ) → DroppedTo (bound_in cache₀) w cache₀ cache → Drops w cache₀ cache
dropped_all w cache₀ cache d shown s = (dropped_cache w cache₀ cache d shown s, dropped_sound w cache₀ cache d shown s)

-- ZEROS

zero-at : (k : ℕ) → get_or {A = ℕ} (replicate 193 0) k 0 ≡ 0
zero-at k = get_d_repeat {A = ℕ} 193 k 0

pub zeros-emptied : (shown : List ℕ) → cache_of (replicate 193 0) shown ≡ emptied
unfolding cache_of
zeros-emptied shown = tab_ext 64 (cached_at (replicate 193 0) shown) (λ k. none) (λ k l. rw (zero-at k)) ∙ tab_repeat 64 none

pub zeros_sound : (shown : List ℕ) → Bytes shown → SoundCache (replicate 193 0) shown
zeros_sound shown b = record {
  long = length-replicate {A = ℕ} 193 0;
  bytes = b;
  bounded = record { low = rw (zero-at 192) (omega arith); above = λ k b l. zero-at k };
  keys = λ k l there. absurd (there (zero-at k));
  counts = λ k l. rw (zero-at (128 + k)) (omega arith);
  sorted = rw (zeros-emptied shown) emptied_sorted;
}
