-- What stands at a place that is not empty, and its frame under an id, written over the start of a buffer.
-- Assumes nothing.
use Prim.Native.Nat.{ℕ, ◌+◌, ◌*◌, ◌-◌, ◌/◌, ◌%◌, ◌≤◌, ◌<◌}
use mathlib.Core.Path.{◌≡◌, ap, sym, ◌∙◌}
use mathlib.Core.Logic.{⊎_elim}
use mathlib.Core.Bool.{true, false}
use mathlib.Core.Option.{some, none, some-injective, none-ne-some}
use mathlib.Core.List.{List, ◌++◌}
use native.Mathlib.Nat.{zero-add}
use native.Mathlib.Omega.{arith}
use lib.ListN.{length, take, drop, length-drop}
use lib.Seq.{length-take-le}
use lib.Dec.{eqb}
use borrow.Author.Tests.{eq-eqb}
use Rattle.laws.specs.Bytes.{over, over_at}
use Rattle.laws.proofs.Choice.{true_or}
use Rattle.laws.proofs.ByteLaws.{over_at-behind, over_at-over}
use Rattle.wire.specs.Frame.{laid}
use Rattle.pdu.specs.Words.{what_of}
use Rattle.cache.specs.Cache.{Cached, in_cache}
use Rattle.caching.specs.Kept.{word_at, bytes_of, registers_at, reply_to, head_of, held_at, cached_at, cache_of, Key, SoundCache}
use Rattle.caching.proofs.KeptLaws.{key_bytes, place_at}

-- What stands at a place is what its columns hold.
pub stands_held : (cache shown : List ℕ) (k : ℕ) (e : Cached) → k < 64 → in_cache (cache_of cache shown) k ≡ some e → held_at cache shown k ≡ e
stands_held cache shown k e l h =
    let here : cached_at cache shown k ≡ some e = sym (place_at cache shown k l) ∙ h in
    ⊎_elim
    (λ (t : eqb (word_at cache k) 0 ≡ true). absurd (none-ne-some e (rw t at here)))
    (λ (t : eqb (word_at cache k) 0 ≡ false). some-injective _ e (rw t at here))
    (true_or (eqb (word_at cache k) 0))

-- Where something stands there is a key.
pub stands_key : (cache shown : List ℕ) → SoundCache cache shown → (k : ℕ) → k < 64 → (in_cache (cache_of cache shown) k ≡ none → ⊥) → Key (word_at cache k)
stands_key cache shown s k l there = s.keys k l (λ z. there (place_at cache shown k l ∙ rw (eq-eqb (word_at cache k) 0 z)))

-- the frame under the id is the header and the registers
frame-under : (word high low count : ℕ) (rs : List ℕ) → bytes_of (what_of word).asked ≡ count → count ≤ 250 → high < 256 → low < 256
    → laid (high * 256 + low) (reply_to (what_of word) rs) ≡ head_of high low (what_of word) count ++ rs
unfolding reply_to
frame-under word high low count rs size short a b =
    let h : (high * 256 + low) / 256 ≡ high = omega arith in
    let l : (high * 256 + low) % 256 ≡ low = omega arith in
    let x : (3 + count) / 256 ≡ 0 = omega arith in
    let y : (3 + count) % 256 ≡ 3 + count = omega arith in
    rw (size, h, l, x, y)

-- header and registers written one behind the other are both over the start of the buffer
head_first : (h rs out : List ℕ) → over_at rs (length h) (over h out) ≡ over (h ++ rs) out
head_first h rs out =
    sym (ap (over_at rs (length h)) (over_at-over h out))
    ∙ ap (λ n. over_at rs n (over_at h 0 out)) (sym (zero-add (length h)))
    ∙ over_at-behind h rs 0 out (omega arith)
    ∙ over_at-over (h ++ rs) out

-- What stands at a place that is not empty, shown.
module _ (cache shown : List ℕ) (s : SoundCache cache shown) (k : ℕ) (l : k < 64) (there : in_cache (cache_of cache shown) k ≡ none → ⊥) where
  abbrev word : ℕ
  word = word_at cache k

  abbrev count : ℕ
  count = 2 * (word % 65536)

  abbrev registers : List ℕ
  registers = registers_at (what_of word) shown k

  -- its registers have at most 250 bytes, which are a part of those kept
  pub shown_few : count ≤ 250
  shown_few = omega (arith, (key_bytes word (stands_key cache shown s k l there)).1)

  size : bytes_of (what_of word).asked ≡ count
  size = (key_bytes word (stands_key cache shown s k l there)).0

  pub shown_part : take (256 * k + count - 256 * k) (drop (256 * k) shown) ≡ registers
  shown_part = let e : 256 * k + count - 256 * k ≡ count = omega arith in rw (e, size)

  pub shown-long : length registers ≡ count
  shown-long = rw size (length-take-le count (drop (256 * k) shown) (omega (arith, length-drop (256 * k) shown, s.bytes.long, shown_few)))

  -- header and registers are the frame of what stands there, under the id
  pub shown-frame : (high low : ℕ) (out : List ℕ) (e : Cached) → high < 256 → low < 256 → in_cache (cache_of cache shown) k ≡ some e
      → (9 + count ≡ length e.bytes) × (over_at registers 9 (over (head_of high low (what_of word) count) out) ≡ over (laid (high * 256 + low) e.bytes) out)
  unfolding reply_to
  shown-frame high low out e a b h =
      let q : reply_to (what_of word) registers ≡ e.bytes = ap (λ (x : Cached). x.bytes) (stands_held cache shown k e l h) in
      let n : 9 + count ≡ length (reply_to (what_of word) registers) = omega (arith, shown-long) in (
        n ∙ ap length q,
        head_first (head_of high low (what_of word) count) registers out
            ∙ ap (λ f. over f out) (sym (frame-under word high low count registers size shown_few a b) ∙ ap (laid (high * 256 + low)) q),
      )
