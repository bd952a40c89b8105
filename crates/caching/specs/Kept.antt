-- The cache that two columns are, and what every call keeps of them.
-- Assumes nothing.
use Rattle.std.specs.Prelude.{ℕ, ◌+◌, ◌*◌, ◌-◌, ◌/◌, ◌%◌, ◌≤◌, ◌<◌, max, ◌≡◌, ◌⊎◌, Bool, true, false, cond, not, ◌||◌, List, [], ◌∷◌, ◌++◌, length, get_or, set, take, drop, eqb, ltb}
use Rattle.std.proofs.Math.Option.{Option, some, none}
use Rattle.numbers.specs.Numbers.{cache_places, cache_numbers, cache_bytes}
use Rattle.laws.specs.Bytes.{pair_of}
use Rattle.laws.specs.Lists.{tab}
use Rattle.wire.specs.Frame.{misframed}
use Rattle.pdu.specs.Requests.{bytes_for}
use Rattle.pdu.specs.Replies.{excepts, answering}
use Rattle.pdu.specs.declared.What.{What}
use Rattle.pdu.specs.Spoiling.{spoils}
use Rattle.pdu.specs.Words.{word_of, what_of, Proper}
use Rattle.pdu.specs.declared.Asked.{Asked}
use Rattle.pdu.specs.declared.Asked.TheVariants.{Read, SingleWrite, MultipleWrite, MaskWrite, ReadWrite, Other}
use Rattle.cache.specs.Cache.{Cached, Cache, dropped_by}
use Rattle.cache.specs.Plain.{Sorted}

-- `cache` is three blocks of 64 numbers: the word of what was asked, 0 for an empty place; the time of filling; the life, and 65,536 times how many tags were raw for value. Behind them stands the bound: no
-- place from there on holds anything
abbrev pub word_at : List ℕ → ℕ → ℕ
word_at cache k = get_or cache k 0

abbrev pub time_at : List ℕ → ℕ → ℕ
time_at cache k = get_or cache (cache_places + k) 0

abbrev pub life_at : List ℕ → ℕ → ℕ
life_at cache k = get_or cache (2 * cache_places + k) 0 % 65536

abbrev pub value_at : List ℕ → ℕ → ℕ
value_at cache k = get_or cache (2 * cache_places + k) 0 / 65536

abbrev pub bound_in : List ℕ → ℕ
bound_in cache = get_or cache (3 * cache_places) 0

-- how many bytes of a reply to a read are behind its byte count
abbrev pub bytes_of : Asked → ℕ
bytes_of (Read t s q) = bytes_for t q
bytes_of (SingleWrite t a v) = 0
bytes_of (MultipleWrite t s q) = 0
bytes_of (MaskWrite a x y) = 0
bytes_of (ReadWrite s q u p) = 0
bytes_of Other = 0

-- `shown` is 256 bytes a place: those of the registers as they were handed out come first
abbrev pub registers_at : What → List ℕ → ℕ → List ℕ
registers_at w shown k = take (bytes_of w.asked) (drop (256 * k) shown)

-- the reply's frame with id bytes 00 00: protocol 0, a length that counts unit, function, byte count and registers, and these
unfoldable pub reply_to : What → List ℕ → List ℕ
reply_to w registers = 0 ∷ 0 ∷ 0 ∷ 0 ∷ pair_of (3 + bytes_of w.asked) ++ (w.unit ∷ w.function ∷ bytes_of w.asked ∷ registers)

-- the same header under the id of two bytes, up to the byte count
abbrev pub head_of : (high low : ℕ) → What → ℕ → List ℕ
head_of high low w count = high ∷ low ∷ 0 ∷ 0 ∷ 0 ∷ (3 + count) ∷ w.unit ∷ w.function ∷ count ∷ []

-- a cached reply; no tag that it has registers of is cut, so that none is raw for partial cover
abbrev pub cached : What → (filled life value : ℕ) → List ℕ → Cached
cached w t l v b = record { what = w; filled = t; life = l; partial = 0; value = v; bytes = b }

-- what stands at the place k; and the cache, place by place
abbrev pub held_at : List ℕ → List ℕ → ℕ → Cached
held_at cache shown k =
    cached (what_of (word_at cache k)) (time_at cache k) (life_at cache k) (value_at cache k)
    (reply_to (what_of (word_at cache k)) (registers_at (what_of (word_at cache k)) shown k))

abbrev pub cached_at : List ℕ → List ℕ → ℕ → Option Cached
cached_at cache shown k = cond (eqb (word_at cache k) 0) none (some (held_at cache shown k))

unfoldable pub cache_of : List ℕ → List ℕ → Cache
cache_of cache shown = tab cache_places (cached_at cache shown)

-- the word of something that may be asked; of a read of registers
pub record Word (n : ℕ) : Type 0 where
  pub proper : Proper (what_of n)
  pub back : word_of (what_of n) ≡ n

pub record Key (n : ℕ) : Type 0 where
  pub word : Word n
  pub reads : ((what_of n).function ≡ 3) ⊎ ((what_of n).function ≡ 4)

-- a reply that may fill a place: its header is right, it answers what was asked, and it is no exception
pub record Fills (w : What) (f : List ℕ) : Type 0 where
  pub framed : misframed f ≡ false
  pub answers : answering w f ≡ true
  pub plain : excepts w.function f ≡ false

-- what may stand in `shown`
pub record Bytes (shown : List ℕ) : Type 0 where
  pub long : length shown ≡ cache_bytes
  pub low : (k : ℕ) → get_or shown k 0 < 256

-- the bound is right
pub record Bounded (cache : List ℕ) : Type 0 where
  pub low : bound_in cache ≤ cache_places
  pub above : (k : ℕ) → bound_in cache ≤ k → k < cache_places → word_at cache k ≡ 0

-- what every call keeps: the columns have their lengths, the bound is right, a word is 0 or a key, counts fit 32 bits, and the cache is sorted
pub record SoundCache (cache shown : List ℕ) : Type 0 where
  pub long : length cache ≡ cache_numbers
  pub bytes : Bytes shown
  pub bounded : Bounded cache
  pub keys : (k : ℕ) → k < cache_places → (word_at cache k ≡ 0 → ⊥) → Key (word_at cache k)
  pub counts : (k : ℕ) → k < cache_places → value_at cache k < 4294967296
  pub sorted : Sorted (cache_of cache shown)

-- the bound once something stands at the place p; three numbers stored there, and the bound raised
abbrev pub bound_over : List ℕ → ℕ → ℕ
bound_over cache p = max (bound_in cache) (p + 1)

abbrev pub stored_at : (place word time counted : ℕ) → List ℕ → List ℕ
stored_at p word time counted cache =
    set (set (set (set cache (3 * cache_places) (bound_over cache p)) p word) (cache_places + p) time)
    (2 * cache_places + p) counted

-- THE TESTS BY WHICH THE CODE PICKS A PLACE

-- its word is that word; less than its life has gone by; it is empty or expired; it was filled earlier
abbrev pub has_word : List ℕ → ℕ → ℕ → Bool
has_word cache word k = eqb (word_at cache k) word

abbrev pub lasts : List ℕ → ℕ → ℕ → Bool
lasts cache time k = ltb (time - time_at cache k) (life_at cache k)

abbrev pub is_spare : List ℕ → ℕ → ℕ → Bool
is_spare cache time k = eqb (word_at cache k) 0 || not (lasts cache time k)

abbrev pub is_earlier : List ℕ → ℕ → ℕ → Bool
is_earlier cache j k = ltb (time_at cache j) (time_at cache k)

-- the word of a place once w was issued: 0, where what was asked there is spoiled
abbrev pub word_after : What → (held : ℕ) → ℕ
word_after w held = cond (spoils w (what_of held)) 0 held

-- the issue of w drops what it spoils, whatever bytes stand beside: the cache is the one with these dropped, and sound columns stay sound
abbrev pub Drops : What → (cache cache' : List ℕ) → Type 0
Drops w cache cache' = (shown : List ℕ) → SoundCache cache shown → (cache_of cache' shown ≡ dropped_by w (cache_of cache shown)) × SoundCache cache' shown
