-- The columns in plain numbers: their sizes, which places are empty, and what stands at the others.
-- Assumes nothing.
use Prim.Native.Nat.{ℕ, ◌+◌, ◌*◌, ◌/◌, ◌%◌, ◌≤◌, ◌<◌}
use mathlib.Core.Path.{◌≡◌, refl, sym, ◌∙◌, subst}
use mathlib.Core.Logic.{◌↔◌, ⊎_elim}
use mathlib.Core.Bool.{true, false}
use mathlib.Core.Option.{some, none, none-ne-some}
use mathlib.Core.List.{List}
use native.Mathlib.Omega.{arith}
use lib.ListN.{length, get_or}
use lib.Dec.{eqb}
use borrow.Author.Tests.{eqb-true, eqb-false}
use Rattle.laws.proofs.Choice.{true_or}
use Rattle.pdu.specs.Words.{what_of}
use Rattle.cache.specs.Cache.{Cached, in_cache}
use Rattle.caching.specs.Kept.{word_at, bytes_of, reply_to, held_at, cache_of, Key, SoundCache}
use Rattle.caching.specs.Plain.{Stored}
use Rattle.caching.proofs.KeptLaws.{key_bytes, place_at}
use Rattle.caching.proofs.ShowLaws.{stands_held, stands_key}

-- Three numbers and 256 bytes for each of 64 places, and the bound.
pub sizes : (cache shown : List ℕ) → SoundCache cache shown → (length cache ≡ 3 * 64 + 1) × (length shown ≡ 256 * 64) × ((k : ℕ) → get_or shown k 0 < 256)
sizes cache shown s = (s.long, s.bytes.long, s.bytes.low)

-- A place is empty exactly if its first number is 0.
pub empty_exactly : (cache shown : List ℕ) (k : ℕ) → k < 64 → (in_cache (cache_of cache shown) k ≡ none) ↔ (get_or cache k 0 ≡ 0)
empty_exactly cache shown k l =
    rw (place_at cache shown k l)
    (⊎_elim
    (λ (t : eqb (word_at cache k) 0 ≡ true). rw t (λ h. eqb-true _ _ t, λ h. refl))
    (λ (t : eqb (word_at cache k) 0 ≡ false). rw t (λ h. absurd (none-ne-some _ (sym h)), λ h. absurd (eqb-false _ _ t h)))
    (true_or (eqb (word_at cache k) 0)))

-- No place from the bound on holds anything.
pub empty_above : (cache shown : List ℕ) → SoundCache cache shown → (get_or cache 192 0 ≤ 64) × ((k : ℕ) → get_or cache 192 0 ≤ k → k < 64 → in_cache (cache_of cache shown) k ≡ none)
empty_above cache shown s = (s.bounded.low, λ k b l. (empty_exactly cache shown k l).1 (s.bounded.above k b l))

-- What stands at a place is stored so.
pub stored : (cache shown : List ℕ) → SoundCache cache shown → (k : ℕ) (e : Cached) → k < 64 → in_cache (cache_of cache shown) k ≡ some e → Stored cache shown k e
unfolding reply_to
stored cache shown s k e l h = subst (λ x. Stored cache shown k x) (stands_held cache shown k e l h) held
  where
    key : Key (word_at cache k)
    key = stands_key cache shown s k l (λ z. none-ne-some e (sym z ∙ h))

    held : Stored cache shown k (held_at cache shown k)
    held = record {
      proper = key.word.proper;
      reads = key.reads;
      word = sym key.word.back;
      filled = refl;
      counted = omega arith;
      short = omega arith;
      whole = refl;
      frame = λ start quantity asks.
          let size : bytes_of (what_of (word_at cache k)).asked ≡ 2 * quantity = rw asks in
          let few = key_bytes (word_at cache k) key in
          let high : (3 + 2 * quantity) / 256 ≡ 0 = omega (arith, size, few.0, few.1) in
          let low : (3 + 2 * quantity) % 256 ≡ 3 + 2 * quantity = omega (arith, size, few.0, few.1) in
          rw (size, high, low);
    }
