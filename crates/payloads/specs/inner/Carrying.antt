-- What a request has for registers, as the code takes it apart.
-- Assumes nothing.
use Rattle.std.specs.Prelude.{ℕ}
use Rattle.pdu.specs.declared.Table.{Table}
use Rattle.pdu.specs.declared.Table.TheVariants.{Bits, Registers}
use Rattle.pdu.specs.declared.Asked.{Asked}
use Rattle.pdu.specs.declared.Asked.TheVariants.{Read, SingleWrite, MultipleWrite, MaskWrite, ReadWrite, Other}
use Rattle.rewrite.specs.Frames.{single_base, multiple_base, read_write_base}
use Rattle.payloads.specs.declared.carrying.Carried.{Carried}
use Rattle.payloads.specs.declared.carrying.Carried.TheVariants.{Nothing, Mask, Run}

-- a run of registers; of bits there is nothing
abbrev pub run_of : Table → (base start quantity : ℕ) → Carried
run_of Bits base start quantity = Nothing
run_of Registers base start quantity = Run (record { base = base; start = start; quantity = quantity })

abbrev pub carried_by : Asked → Carried
carried_by (Read t s q) = Nothing
carried_by (SingleWrite t a v) = run_of t single_base a 1
carried_by (MultipleWrite t s q) = run_of t multiple_base s q
carried_by (MaskWrite a x y) = Mask a
carried_by (ReadWrite s q u p) = run_of Registers read_write_base u p
carried_by Other = Nothing
