-- What a place of the two columns holds of a cached reply, in plain numbers and bytes.
-- Assumes nothing.
use Rattle.std.specs.Prelude.{ℕ, ◌+◌, ◌*◌, ◌<◌, ◌≡◌, ◌⊎◌, List, ◌∷◌, get_or, take, drop}
use Rattle.pdu.specs.Words.{word_of, Proper}
use Rattle.pdu.specs.declared.Table.TheVariants.{Registers}
use Rattle.pdu.specs.declared.Asked.TheVariants.{Read}
use Rattle.cache.specs.Cache.{Cached}

-- what a place holds of a cached reply: the word of a read 03 or 04, the time of filling, life + 65,536 × count, no tag raw for partial cover; and the frame with id bytes 00 00, of which the registers are kept
pub record Stored (cache shown : List ℕ) (k : ℕ) (e : Cached) : Type 0 where
  pub proper : Proper e.what
  pub reads : (e.what.function ≡ 3) ⊎ (e.what.function ≡ 4)
  pub word : get_or cache k 0 ≡ word_of e.what
  pub filled : get_or cache (64 + k) 0 ≡ e.filled
  pub counted : get_or cache (128 + k) 0 ≡ e.life + 65536 * e.value
  pub short : e.life < 65536
  pub whole : e.partial ≡ 0
  pub frame : (start quantity : ℕ) → e.what.asked ≡ Read Registers start quantity
      → e.bytes ≡ 0 ∷ 0 ∷ 0 ∷ 0 ∷ 0 ∷ (3 + 2 * quantity) ∷ e.what.unit ∷ e.what.function ∷ 2 * quantity ∷ take (2 * quantity) (drop (256 * k) shown)
