-- Which registers of a frame are rewritten: those of requests 06, 16 and 23 to BCD, those of replies 03, 04 and 23, and of 06 where its request was re-encoded, to binary; all else passes unchanged, coils and discrete
-- inputs and the masks of 22 too.
-- Assumes nothing.
use Rattle.std.specs.Prelude.{ℕ, Bool, false, cond, ◌||◌, List, [], ◌∷◌}
use Rattle.laws.specs.Bytes.{over}
use Rattle.wire.specs.Frame.{laid}
use Rattle.settings.specs.Grammar.{Tag}
use Rattle.pdu.specs.Replies.{excepts}
use Rattle.pdu.specs.declared.What.{What}
use Rattle.pdu.specs.declared.Table.{Table}
use Rattle.pdu.specs.declared.Table.TheVariants.{Bits, Registers}
use Rattle.pdu.specs.declared.Asked.{Asked}
use Rattle.pdu.specs.declared.Asked.TheVariants.{Read, SingleWrite, MultipleWrite, MaskWrite, ReadWrite, Other}
use Rattle.rewrite.specs.declared.Way.{Way}
use Rattle.rewrite.specs.declared.Way.TheVariants.{ToBcd, ToBinary}
use Rattle.rewrite.specs.Rewriting.{verdict, is_rewritten, Rewritten, with_counts, rewriting}

-- the bytes at which registers begin: behind the byte count of reply 03, 04 and 23, behind the address of 06, behind the byte count of request 16, and of request 23
abbrev pub read_base : ℕ
read_base = 9

abbrev pub single_base : ℕ
single_base = 10

abbrev pub multiple_base : ℕ
multiple_base = 13

abbrev pub read_write_base : ℕ
read_write_base = 17

-- the registers that a frame carries are rewritten; bits pass unchanged
abbrev pub passing : Table → Way → (base start quantity : ℕ) → List Tag → List ℕ → Rewritten
passing Bits way base start quantity tags f = with_counts 0 0 f
passing Registers way base start quantity tags f = rewriting way base start quantity tags f

-- of 23 the registers that it writes
unfoldable pub forwarded : List Tag → Asked → List ℕ → Rewritten
forwarded tags (Read t s q) f = with_counts 0 0 f
forwarded tags (SingleWrite t a v) f = passing t ToBcd single_base a 1 tags f
forwarded tags (MultipleWrite t s q) f = passing t ToBcd multiple_base s q tags f
forwarded tags (MaskWrite a x y) f = with_counts 0 0 f
forwarded tags (ReadWrite s q u p) f = rewriting ToBcd read_write_base u p tags f
forwarded tags Other f = with_counts 0 0 f

-- the request 06 that wrote the value v to the address a was re-encoded: a tag's verdict over that one register is that it is rewritten
unfoldable pub reencoded : List Tag → (address value : ℕ) → Bool
reencoded [] a v = false
reencoded (t ∷ ts) a v = is_rewritten (verdict ToBcd a (v ∷ []) t) || reencoded ts a v

-- the echo of 06 is decoded where the request was re-encoded, and passes unchanged where it was not; of 23 the registers that it read are decoded
unfoldable pub returned_by : List Tag → Asked → List ℕ → Rewritten
returned_by tags (Read t s q) f = passing t ToBinary read_base s q tags f
returned_by tags (SingleWrite Bits a v) f = with_counts 0 0 f
returned_by tags (SingleWrite Registers a v) f = cond (reencoded tags a v) (rewriting ToBinary single_base a 1 tags f) (with_counts 0 0 f)
returned_by tags (MultipleWrite t s q) f = with_counts 0 0 f
returned_by tags (MaskWrite a x y) f = with_counts 0 0 f
returned_by tags (ReadWrite s q u p) f = rewriting ToBinary read_base s q tags f
returned_by tags Other f = with_counts 0 0 f

-- an exception reply passes unchanged
unfoldable pub returned : List Tag → What → List ℕ → Rewritten
returned tags w f = cond (excepts w.function f) (with_counts 0 0 f) (returned_by tags w.asked f)

-- a rewritten frame under an id, written over the start of a buffer
abbrev pub under : ℕ → List ℕ → Rewritten → Rewritten
under id out w = with_counts w.partial w.value (over (laid id w.bytes) out)
