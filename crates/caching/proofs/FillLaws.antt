-- What a place holds once a reply was kept there, and what every other place does; bytes laid over a part of a buffer.
-- Assumes nothing.
use Prim.Native.Nat.{ℕ, ◌+◌, ◌*◌, ◌-◌, ◌/◌, ◌%◌, ◌≤◌, ◌<◌}
use mathlib.Core.Path.{◌≡◌, ap, sym, ◌∙◌}
use mathlib.Core.Logic.{⊎_elim, ◌⊎◌, inl, inr}
use mathlib.Core.Bool.{true, false, true≢false}
use mathlib.Core.Option.{some}
use mathlib.Core.List.{List, ◌∷◌, ◌++◌, append_assoc}
use native.Mathlib.Omega.{arith}
use lib.ListN.{length, get_or, set, take, drop, length-take, length-drop, length-set}
use lib.Seq.{take_all, take_at, drop_at, drop-drop, drop-cons, length-take-le, get_or-take, get_or-drop, get_or-set_same, get_or-set_other, ext_get_or, sets-eq}
use lib.Dec.{eqb}
use borrow.Author.Tests.{ne_eqb, eqb-false}
use Rattle.laws.specs.Bytes.{over_at}
use Rattle.laws.proofs.Choice.{true_or, eq_or, lt_or}
use Rattle.laws.proofs.ByteLaws.{length-over_at}
use Rattle.laws.proofs.ListLaws.{tab-set}
use Rattle.laws.proofs.StoreLaws.{sets_out, sets_in}
use Rattle.wire.specs.Frame.{laid}
use Rattle.wire.proofs.FrameLaws.{framed}
use Rattle.pdu.specs.Words.{what_of}
use Rattle.pdu.proofs.ReplyLaws.{excepts_exact, answers_exact, answering-room}
use Rattle.cache.specs.Cache.{taken_place, filled_with}
use Rattle.cache.proofs.CacheLaws.{taken_low, filled_sorted}
use Rattle.caching.specs.Kept.{word_at, time_at, bound_in, bound_over, bytes_of, reply_to, cached, cached_at, cache_of, Key, Fills, SoundCache, stored_at}
use Rattle.caching.proofs.KeptLaws.{key_asks, key_reads, key_bytes, word_there}

-- PARTS OF A BUFFER

-- Bytes that take the place of as many from a byte on.
pub laid_mid : (s d : List ℕ) (at n : ℕ) → n ≡ length s → take at d ++ (s ++ drop n (drop at d)) ≡ over_at s at d
laid_mid s d at n e = rw (e, drop-drop (length s) at d) (sym (append_assoc (take at d) s (drop (at + length s) d)))

-- Bytes laid over bytes are bytes.
pub laid_low : (s d : List ℕ) (at : ℕ) → at + length s ≤ length d → ((k : ℕ) → get_or s k 0 < 256) → ((k : ℕ) → get_or d k 0 < 256) → (k : ℕ) → get_or (over_at s at d) k 0 < 256
laid_low s d at h low below k =
    rw (← sets-eq s d at h)
    (⊎_elim
    (λ (l : k < at). rw (sets_out s d at k 0 (inl l)) (below k))
    (λ (l : at ≤ k). ⊎_elim
    (λ (m : k < at + length s). let e : at + (k - at) ≡ k = omega arith in rw (← e, sets_in s d at (k - at) 0 (omega arith) h) (low (k - at)))
    (λ (m : at + length s ≤ k). rw (sets_out s d at k 0 (inr m)) (below k))
    (lt_or k (at + length s)))
    (lt_or k at))

-- All that is behind the first bytes.
pub part_rest : (f : List ℕ) (n : ℕ) → take (length f - n) (drop n f) ≡ drop n f
part_rest f n = take_all (length f - n) (drop n f) (omega (arith, length-drop n f))

module _ (rs : List ℕ) (at : ℕ) (b : List ℕ) (h : at + length rs ≤ length b) where
  -- what was laid there is there
  part_here : (n : ℕ) → length rs ≡ n → take n (drop at (over_at rs at b)) ≡ rs
  part_here n e =
      rw (append_assoc (take at b) rs (drop (at + length rs) b), drop_at (take at b) (rs ++ drop (at + length rs) b) at (length-take-le at b (omega arith)))
      (take_at rs (drop (at + length rs) b) n e)

  -- and a part before or behind it is as it was
  part_other : (a m : ℕ) → (a + m ≤ at) ⊎ (at + length rs ≤ a) → take m (drop a (over_at rs at b)) ≡ take m (drop a b)
  part_other a m apart =
      ext_get_or 0 _ _ (rw (length-take m (drop a (over_at rs at b)), length-take m (drop a b), length-drop a (over_at rs at b), length-drop a b, length-over_at rs at b h))
      (λ i l.
      let low : i < m = omega (arith, length-take m (drop a (over_at rs at b)), l) in
      rw (get_or-take m (drop a (over_at rs at b)) i 0 low, get_or-take m (drop a b) i 0 low, get_or-drop a (over_at rs at b) i 0, get_or-drop a b i 0, ← sets-eq rs b at h)
      (sets_out rs b at (a + i) 0 (⊎_elim (λ z. inl (omega arith)) (λ z. inr (omega arith)) apart)))

-- THE FRAME

-- the bytes behind the id, one by one
behind_id : (f : List ℕ) → 9 ≤ length f → drop 2 f ≡ get_or f 2 0 ∷ get_or f 3 0 ∷ get_or f 4 0 ∷ get_or f 5 0 ∷ get_or f 6 0 ∷ get_or f 7 0 ∷ get_or f 8 0 ∷ drop 9 f
behind_id f h =
    drop-cons f 2 0 (omega arith)
    ∙ rw (drop-cons f 3 0 (omega arith), drop-cons f 4 0 (omega arith), drop-cons f 5 0 (omega arith), drop-cons f 6 0 (omega arith), drop-cons f 7 0 (omega arith), drop-cons f 8 0 (omega arith))

-- A reply that may fill a place is, under id 0, made of what was asked and of its registers.
module _ (word : ℕ) (key : Key word) (f : List ℕ) (fills : Fills (what_of word) f) where
  pub frame-long : length f ≡ 9 + bytes_of (what_of word).asked
  frame-long = let room = rw (key_asks word key) at (answering-room (what_of word) f fills.answers fills.plain) in rw (key_asks word key) (sym room)

  abbrev n : ℕ
  n = bytes_of (what_of word).asked

  -- its header, byte by byte
  record Header : Type 0 where
    protocol : (get_or f 2 0 ≡ 0) × (get_or f 3 0 ≡ 0)
    counted : (get_or f 4 0 ≡ (3 + n) / 256) × (get_or f 5 0 ≡ (3 + n) % 256)
    unit : get_or f 6 0 ≡ (what_of word).unit
    function : get_or f 7 0 ≡ (what_of word).function
    count : get_or f 8 0 ≡ n

  header : Header
  header =
      let fr = framed f fills.framed in
      let k = key_bytes word key in
      let ans = (answers_exact (what_of word) f).0 fills.answers in
      ⊎_elim
      (λ y. absurd (true≢false (sym ((excepts_exact (what_of word).function f).1 y) ∙ fills.plain)))
      (λ y. record {
        protocol = (omega (arith, fr.protocol), omega (arith, fr.protocol));
        counted = (omega (arith, fr.counted, frame-long, k.0, k.1), omega (arith, fr.counted, frame-long, k.0, k.1));
        unit = ans.0;
        function = y.0;
        count = rw (key_asks word key) (rw (key_asks word key) at y.1).0;
      })
      ans.1

  frame_made : reply_to (what_of word) (drop 9 f) ≡ laid 0 f
  unfolding reply_to
  frame_made =
      let h = header in
      rw (behind_id f (omega (arith, frame-long)), h.protocol.0, h.protocol.1, h.counted.0, h.counted.1, h.unit, h.function, h.count)

-- THE COLUMNS

-- the place that a reply to a key takes is a place
pub taken_below : (cache shown : List ℕ) → SoundCache cache shown → (word time : ℕ) → Key word → taken_place time (what_of word) (cache_of cache shown) < 64
taken_below cache shown s word time key = taken_low (cache_of cache shown) s.sorted time (what_of word) (key_reads word key)

-- three numbers are stored, the bound is raised, and bytes are laid from 256 times the place on
module _ (cache shown : List ℕ) (s : SoundCache cache shown) (p word time life value : ℕ) (l : p < 64) (key : Key word) (short : life < 65536) (few : value < 4294967296) where
  abbrev raised : List ℕ
  raised = set cache 192 (bound_over cache p)

  abbrev numbers : List ℕ
  numbers = stored_at p word time (value * 65536 + life) cache

  -- a number that is none of the four
  stays : (i : ℕ) → (i ≡ p → ⊥) → (i ≡ 64 + p → ⊥) → (i ≡ 128 + p → ⊥) → (i ≡ 192 → ⊥) → get_or numbers i 0 ≡ get_or cache i 0
  stays i a b d e =
      get_or-set_other (set (set raised p word) (64 + p) time) (128 + p) i _ 0 d
      ∙ get_or-set_other (set raised p word) (64 + p) i time 0 b
      ∙ get_or-set_other raised p i word 0 a
      ∙ get_or-set_other cache 192 i _ 0 e

  word_here : word_at numbers p ≡ word
  word_here =
      get_or-set_other (set (set raised p word) (64 + p) time) (128 + p) p _ 0 (λ z. omega arith)
      ∙ get_or-set_other (set raised p word) (64 + p) p time 0 (λ z. omega arith)
      ∙ get_or-set_same raised p word 0 (rw (length-set cache 192 _) (omega (arith, s.long)))

  time_here : time_at numbers p ≡ time
  time_here =
      get_or-set_other (set (set raised p word) (64 + p) time) (128 + p) (64 + p) _ 0 (λ z. omega arith)
      ∙ get_or-set_same (set raised p word) (64 + p) time 0 (simp length-set (omega (arith, s.long)))

  count-here : get_or numbers (128 + p) 0 ≡ value * 65536 + life
  count-here = get_or-set_same (set (set raised p word) (64 + p) time) (128 + p) _ 0 (simp length-set (omega (arith, s.long)))

  bound_here : bound_in numbers ≡ bound_over cache p
  bound_here =
      get_or-set_other (set (set raised p word) (64 + p) time) (128 + p) 192 _ 0 (λ z. omega arith)
      ∙ get_or-set_other (set raised p word) (64 + p) 192 time 0 (λ z. omega arith)
      ∙ get_or-set_other raised p 192 word 0 (λ z. omega arith)
      ∙ get_or-set_same cache 192 _ 0 (omega (arith, s.long))

  module _ (f : List ℕ) (fills : Fills (what_of word) f) where
    abbrev bytes : List ℕ
    bytes = over_at (drop 9 f) (256 * p) shown

    size : length (drop 9 f) ≡ bytes_of (what_of word).asked
    size = length-drop 9 f ∙ omega (arith, frame-long word key f fills)

    pub room : 256 * p + length (drop 9 f) ≤ length shown
    room = omega (arith, size, (key_bytes word key).0, (key_bytes word key).1, s.bytes.long)

    held-here : cached_at numbers bytes p ≡ some (cached (what_of word) time life value (laid 0 f))
    held-here =
        let low : (value * 65536 + life) % 65536 ≡ life = omega arith in
        let high : (value * 65536 + life) / 65536 ≡ value = omega arith in
        rw (word_here, time_here, count-here, ne_eqb word 0 (word_there word key.word), low, high, part_here (drop 9 f) (256 * p) shown room _ size, frame_made word key f fills)

    -- the bytes of another key's place lie before those that were laid, or behind them
    apart : (k n : ℕ) → (k ≡ p → ⊥) → n ≤ 250 → (256 * k + n ≤ 256 * p) ⊎ (256 * p + length (drop 9 f) ≤ 256 * k)
    apart k n ne h =
        ⊎_elim (λ (z : k < p). inl (omega arith)) (λ (z : p ≤ k). inr (omega (arith, ne, size, (key_bytes word key).0, (key_bytes word key).1))) (lt_or k p)

    held_other : (k : ℕ) → k < 64 → (k ≡ p → ⊥) → cached_at numbers bytes k ≡ cached_at cache shown k
    held_other k m ne =
        rw (stays k ne (λ z. omega arith) (λ z. omega arith) (λ z. omega arith), stays (64 + k) (λ z. omega arith) (λ z. omega (arith, ne)) (λ z. omega arith) (λ z. omega arith), stays (128 + k) (λ z. omega arith) (λ z. omega arith) (λ z. omega (arith, ne)) (λ z. omega arith))
        (⊎_elim
        (λ (t : eqb (word_at cache k) 0 ≡ true). rw t)
        (λ (t : eqb (word_at cache k) 0 ≡ false).
        let b = key_bytes (word_at cache k) (s.keys k m (eqb-false _ _ t)) in
        let n = bytes_of (what_of (word_at cache k)).asked in
        rw (t, part_other (drop 9 f) (256 * p) shown room (256 * k) n (apart k n ne (omega (arith, b.0, b.1)))))
        (true_or (eqb (word_at cache k) 0)))

    module _ (e : p ≡ taken_place time (what_of word) (cache_of cache shown)) where
      filled_cache : cache_of numbers bytes ≡ filled_with (cached (what_of word) time life value (laid 0 f)) (cache_of cache shown)
      unfolding cache_of filled_with
      filled_cache =
          tab-set 64 p (cached_at cache shown) (cached_at numbers bytes) _ l held-here held_other
          ∙ ap (λ q. set (cache_of cache shown) q (some (cached (what_of word) time life value (laid 0 f)))) e

      filled_sound : ((k : ℕ) → get_or bytes k 0 < 256) → SoundCache numbers bytes
      filled_sound low = record {
        long = simp length-set s.long;
        bytes = record { long = length-over_at (drop 9 f) (256 * p) shown room ∙ s.bytes.long; low = low };
        bounded = record {
          low = rw bound_here (omega (arith, s.bounded.low));
          above = λ k b m.
              let h : bound_over cache p ≤ k = rw bound_here at b in
              stays k (λ z. omega arith) (λ z. omega arith) (λ z. omega arith) (λ z. omega arith) ∙ s.bounded.above k (omega arith) m;
        };
        keys = λ k m. ⊎_elim
            (λ (q : k ≡ p). rw (q, word_here) (λ there. key))
            (λ (q : k ≡ p → ⊥). rw (stays k q (λ z. omega arith) (λ z. omega arith) (λ z. omega arith)) (s.keys k m))
            (eq_or k p);
        counts = λ k m. ⊎_elim
            (λ (q : k ≡ p). rw (q, count-here) (omega arith))
            (λ (q : k ≡ p → ⊥). rw (stays (128 + k) (λ z. omega arith) (λ z. omega arith) (λ z. omega (arith, q)) (λ z. omega arith)) (s.counts k m))
            (eq_or k p);
        sorted = rw filled_cache (filled_sorted _ (cache_of cache shown) s.sorted (key_reads word key));
      }

      -- The cache has the reply at the place that it takes, and the columns stay sound.
      pub filled : ((k : ℕ) → get_or bytes k 0 < 256) → (cache_of numbers bytes ≡ filled_with (cached (what_of word) time life value (laid 0 f)) (cache_of cache shown)) × SoundCache numbers bytes
      filled low = (filled_cache, filled_sound low)
