-- What is a read, and which two requests are equal reads: what a read joins (document 01, step 3), and what a reply that is cached is known by (#107).
-- Assumes nothing.
use Rattle.std.specs.Prelude.{Bool, true, false, ◌&&◌, eqb}
use Rattle.pdu.specs.declared.What.{What}
use Rattle.pdu.specs.Spoiling.{same_table}
use Rattle.pdu.specs.declared.Asked.{Asked}
use Rattle.pdu.specs.declared.Asked.TheVariants.{Read, SingleWrite, MultipleWrite, MaskWrite, ReadWrite, Other}

-- a read: 01 to 04
unfoldable pub is_read : Asked → Bool
is_read (Read t s q) = true
is_read (SingleWrite t a v) = false
is_read (MultipleWrite t s q) = false
is_read (MaskWrite a x y) = false
is_read (ReadWrite s q u p) = false
is_read Other = false

-- both are reads of one table, with equal start and quantity
unfoldable pub same_read : Asked → Asked → Bool
same_read (Read t s q) (Read r u p) = same_table t r && (eqb s u && eqb q p)
same_read (Read t s q) (SingleWrite r a v) = false
same_read (Read t s q) (MultipleWrite r u p) = false
same_read (Read t s q) (MaskWrite a x y) = false
same_read (Read t s q) (ReadWrite v n u p) = false
same_read (Read t s q) Other = false
same_read (SingleWrite t a v) x = false
same_read (MultipleWrite t s q) x = false
same_read (MaskWrite a b c) x = false
same_read (ReadWrite v n u p) x = false
same_read Other x = false

-- equal unit, function, start and quantity; equal functions have the same table
unfoldable pub equal_reads : What → What → Bool
equal_reads w v = eqb w.unit v.unit && (eqb w.function v.function && same_read w.asked v.asked)
