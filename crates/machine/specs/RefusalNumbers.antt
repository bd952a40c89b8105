-- Each refusal of the code by document 01's number.
-- Assumes nothing.
use Rattle.std.specs.Prelude.{ℕ, Result, Ok, Err}
use Rattle.machine.specs.declared.Refusal.{Refusal}
use Rattle.machine.specs.declared.Refusal.TheVariants.{Buffer, Client, Time, Frame, Function, Length, Unknown, Mismatch, Attached, Settings}

abbrev pub number_of : Refusal → ℕ
number_of Buffer = 1
number_of Client = 2
number_of Time = 3
number_of Frame = 4
number_of Function = 5
number_of Length = 6
number_of Unknown = 7
number_of Mismatch = 8
number_of Attached = 9
number_of Settings = 10

-- the number of what refused, and 0 where nothing did
abbrev pub refused_by : {A : Type 0} → Result A Refusal → ℕ
refused_by (Ok x) = 0
refused_by (Err r) = number_of r
