-- Strict tags in plain numbers (request #108): which registers a write carries, which value is outside a tag's range, which write a strict tag forbids, and what stands at a strict tag in a frame that goes out.
-- Assumes nothing.
use Rattle.std.specs.Prelude.{ℕ, ◌+◌, ◌*◌, ◌-◌, ◌%◌, ◌≤◌, ◌<◌, ◌≡◌, ◌⊎◌, Some}
use mathlib.Core.List.{List, Memᴰ}
use Rattle.laws.specs.Bytes.{pair_at}
use Rattle.bcd.specs.declared.Kind.{Kind}
use Rattle.bcd.specs.declared.Kind.TheVariants.{Width16, Width32, Signed16}
use Rattle.bcd.specs.Bcd.{nibble, decoded}
use Rattle.settings.specs.Grammar.{Tag}
use Rattle.settings.specs.TagWords.{kind_of}
use Rattle.pdu.specs.declared.Table.TheVariants.{Registers}
use Rattle.pdu.specs.declared.Asked.{Asked}
use Rattle.pdu.specs.declared.Asked.TheVariants.{SingleWrite, MultipleWrite, ReadWrite}
use Rattle.rewrite.specs.Plain.{Has, InRun, Whole}

-- which registers a write carries: from which byte on, of which addresses; a write of coils carries none, nor does 22, whose masks are no values of a register
pub data Carries : Asked → (base start quantity : ℕ) → Type 0 where
  single : {a v : ℕ} → Carries (SingleWrite Registers a v) 10 a 1
  multiple : {s q : ℕ} → Carries (MultipleWrite Registers s q) 13 s q
  both : {s q u p : ℕ} → Carries (ReadWrite s q u p) 17 u p

-- the run of the addresses from start on has one register of the tag and has not another
abbrev pub Cut : ℕ → ℕ → Tag → Type 0
Cut start n t = ((x : ℕ) × Has t x × InRun start n x) × ((x : ℕ) × Has t x × (InRun start n x → ⊥))

-- the number that stands in f at a tag of this kind and address, where the registers of the addresses from start on stand from byte base on: one register, or two, the low word first
abbrev pub standing : Kind → List ℕ → (base start address : ℕ) → ℕ
standing Width16 f base start address = pair_at f (base + 2 * (address - start))
standing Width32 f base start address = pair_at f (base + 2 * (address - start)) + 65536 * pair_at f (base + 2 * (address - start) + 2)
standing Signed16 f base start address = pair_at f (base + 2 * (address - start))

-- a number in a tag's registers that is outside the kind's range: above 9,999; above 99,999,999; with a sign above 999 and below −999, which is 65,536 − 999
abbrev pub TooFar : Kind → ℕ → Type 0
TooFar Width16 n = 10000 ≤ n
TooFar Width32 n = 100000000 ≤ n
TooFar Signed16 n = (1000 ≤ n) × (n ≤ 64536)

-- a word, or two, that a kind allows: no nibble above 9; with a sign the highest is 0, or it is F and the digits are not all 0
abbrev pub Digits : Kind → ℕ → Type 0
Digits Width16 n = (i : ℕ) → i < 4 → nibble i n ≤ 9
Digits Width32 n = (i : ℕ) → i < 8 → nibble i n ≤ 9
Digits Signed16 n = ((i : ℕ) → i < 3 → nibble i n ≤ 9) × ((nibble 3 n ≡ 0) ⊎ ((nibble 3 n ≡ 15) × (1 ≤ n % 4096)))

-- a strict tag forbids what f writes: the run cuts it, or has all of it with a value outside its range
pub record Violates (tags : List Tag) (f : List ℕ) (base start quantity : ℕ) : Type 0 where
  pub tag : Tag
  pub listed : Memᴰ tag tags
  pub strict : tag.strict ≡ 1
  pub how : Cut start quantity tag ⊎ (Whole start quantity tag × TooFar (kind_of tag) (standing (kind_of tag) f base start tag.address))

-- the tag lies wholly in the run, and in w it has digits of its kind: those of the number that f has there
pub record HasDigits (t : Tag) (f w : List ℕ) (base start quantity : ℕ) : Type 0 where
  pub whole : Whole start quantity t
  pub digits : Digits (kind_of t) (standing (kind_of t) w base start t.address)
  pub number : decoded (kind_of t) (standing (kind_of t) w base start t.address) ≡ Some (standing (kind_of t) f base start t.address)
