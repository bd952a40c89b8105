-- The plain words of the theorems on tags: a tag has an address, an address is in a run, a tag is whole in a run, and its number rewritten; a function is one of coils or discrete inputs; which registers a reply
-- brings; a frame has the registers of another turned, each by its tag's verdict.
-- Assumes nothing.
use Rattle.std.specs.Prelude.{ℕ, ◌+◌, ◌*◌, ◌-◌, ◌≤◌, ◌<◌, ◌≡◌, ◌⊎◌, length, get_or, Option}
use mathlib.Core.List.{List, Memᴰ}
use Rattle.laws.specs.Lists.{filter}
use Rattle.laws.specs.Bytes.{pair_at}
use Rattle.bcd.specs.Words.{number_of}
use Rattle.settings.specs.Grammar.{Tag}
use Rattle.settings.specs.TagWords.{last_of, Ascending, kind_of}
use Rattle.pdu.specs.declared.Table.TheVariants.{Registers}
use Rattle.pdu.specs.declared.Asked.{Asked}
use Rattle.pdu.specs.declared.Asked.TheVariants.{Read, ReadWrite}
use Rattle.rewrite.specs.declared.Way.{Way}
use Rattle.rewrite.specs.Registers.{registers_at}
use Rattle.rewrite.specs.Rewriting.{Verdict, verdict, is_raw_partial, is_raw_value, rewriting, turned, own_in}
use Rattle.rewrite.specs.Rewriting.Verdict.{done}

-- the tag has the register of the address x
abbrev pub Has : Tag → ℕ → Type 0
Has t x = (t.address ≤ x) × (x ≤ last_of t)

-- the address x is one of the n from start on
abbrev pub InRun : ℕ → ℕ → ℕ → Type 0
InRun start n x = (start ≤ x) × (x < start + n)

-- every register of the tag is in the run
abbrev pub Whole : ℕ → ℕ → Tag → Type 0
Whole start n t = (start ≤ t.address) × (last_of t < start + n)

-- which registers a reply that is no exception brings, from byte 9 on: those of the addresses that 03, 04 and 23 read
pub data Brings : Asked → (start quantity : ℕ) → Type 0 where
  read : {s q : ℕ} → Brings (Read Registers s q) s q
  read_of_both : {s q u p : ℕ} → Brings (ReadWrite s q u p) s q

-- the functions of coils and discrete inputs: 01, 02, 05 and 15
pub data OfBits : ℕ → Type 0 where
  coils_read : OfBits 1
  discrete_read : OfBits 2
  coil_written : OfBits 5
  coils_written : OfBits 15

-- the verdict on a tag over the registers that stand in f from byte base on, those of the addresses from start on
abbrev pub verdict_in : Way → (base start quantity : ℕ) → List ℕ → Tag → Verdict
verdict_in way base start quantity f t = verdict way start (registers_at base quantity f) t

-- the registers of f from byte base on to its end, of the addresses from start on, stand in w turned, by the definition and tag by tag: the register of a tag whose verdict is done is that tag's word,
-- a register of no such tag is as it came; every other byte behind the id is as in f; and the counts are the numbers of tags that are raw for partial cover and for value
pub record Rewrites (way : Way) (tags : List Tag) (f w : List ℕ) (partial value base start quantity : ℕ) : Type 0 where
  pub inside : base + 2 * quantity ≡ length f
  pub registers : (k : ℕ) → base ≤ k → k < base + 2 * quantity → get_or w k 0 ≡ get_or (rewriting way base start quantity tags f).bytes k 0
  pub turned : Ascending 0 tags → ((k : ℕ) → get_or f k 0 < 256) → (t : Tag) (ws : List ℕ) (i : ℕ) → Memᴰ t tags → verdict_in way base start quantity f t ≡ done ws → Has t (start + i)
      → i < quantity → pair_at w (base + 2 * i) ≡ get_or ws (start + i - t.address) 0
  pub raw : ((k : ℕ) → get_or f k 0 < 256) → (i : ℕ) → i < quantity → ((t : Tag) (ws : List ℕ) → Memᴰ t tags → verdict_in way base start quantity f t ≡ done ws → Has t (start + i) → ⊥)
      → pair_at w (base + 2 * i) ≡ pair_at f (base + 2 * i)
  pub others : (k : ℕ) → 2 ≤ k → k < length f → (k < base) ⊎ (base + 2 * quantity ≤ k) → get_or w k 0 ≡ get_or f k 0
  pub raw_for_cover : partial ≡ length (filter (λ t. is_raw_partial (verdict_in way base start quantity f t)) tags)
  pub raw_for_value : value ≡ length (filter (λ t. is_raw_value (verdict_in way base start quantity f t)) tags)

module _ (way : Way) (start : ℕ) (rs : List ℕ) (t : Tag) where
  -- the tag's number rewritten
  abbrev pub turned_in : Option ℕ
  turned_in = turned way (kind_of t) (number_of (own_in start rs t))
