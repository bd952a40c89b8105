-- `Writer::decimal` meets its contract: the digits from the last to the first.
use Prim.Native.Nat.{◌+◌}
use mathlib.Core.Path.{◌≡◌}
use lib.ListN.{length}
use Rattle.settings.specs.Lines.{decimal}
use Rattle.settingstext.proofs.WritingLaws.{Digits}
use Rattle.settingstext.proofs.writing.Writer.decimal.Given as goal

abbrev pub invariant-loop-place : goal.invariant-loop-place
invariant-loop-place l = (l.end ≡ l.initial.self.at + length (decimal l.n)) × Digits l.n l.initial.self l.self l.rest l.place
