-- `Saying::say_hex` meets its contract. The loop's invariant: what is left of the bytes, said at the place, is said in all.
use Rattle.std.proofs.Common.{drop}
use Rattle.parts.specs.Texts.{hex_of}
use Rattle.parts.proofs.SayingLaws.{Underway}
use Rattle.parts.proofs.saying.Saying.say_hex.Given as goal

abbrev pub invariant-loop-byte : goal.invariant-loop-byte
invariant-loop-byte l = Underway l.fn.self (hex_of l.bytes) l.self (hex_of (drop l.byte-index l.bytes))
