-- Which live read a request spoils once it is issued.
-- Assumes nothing.
use Rattle.std.specs.Prelude.{ℕ, ◌+◌, Bool, true, false, ◌&&◌, eqb, ltb}
use Rattle.pdu.specs.declared.What.{What}
use Rattle.pdu.specs.declared.Table.{Table}
use Rattle.pdu.specs.declared.Table.TheVariants.{Bits, Registers}
use Rattle.pdu.specs.declared.Asked.{Asked}
use Rattle.pdu.specs.declared.Asked.TheVariants.{Read, SingleWrite, MultipleWrite, MaskWrite, ReadWrite, Other}

-- both of bits, or both of registers
unfoldable pub same_table : Table → Table → Bool
same_table Bits Bits = true
same_table Bits Registers = false
same_table Registers Bits = false
same_table Registers Registers = true

-- the n addresses from s on and the m from u on have one in common
abbrev pub overlap : (s n u m : ℕ) → Bool
overlap s n u m = ltb s (u + m) && ltb u (s + n)

-- 05, 06, 15, 16 and 22 meet the reads of their table whose range they meet, 23 those whose range meets what it writes, "other" meets every read, a read meets nothing
unfoldable pub meets : Asked → Asked → Bool
meets w (SingleWrite r a v) = false
meets w (MultipleWrite r s q) = false
meets w (MaskWrite a x y) = false
meets w (ReadWrite s q u p) = false
meets w Other = false
meets (Read t u p) (Read r s q) = false
meets (SingleWrite t a v) (Read r s q) = same_table t r && overlap a 1 s q
meets (MultipleWrite t u p) (Read r s q) = same_table t r && overlap u p s q
meets (MaskWrite a x y) (Read r s q) = same_table Registers r && overlap a 1 s q
meets (ReadWrite v n u p) (Read r s q) = same_table Registers r && overlap u p s q
meets Other (Read r s q) = true

-- and the unit is equal
unfoldable pub spoils : What → What → Bool
spoils w r = eqb w.unit r.unit && meets w.asked r.asked
