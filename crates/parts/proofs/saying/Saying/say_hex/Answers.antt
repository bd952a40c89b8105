-- `Saying::say_hex` meets its contract. The loop's invariant: what is left of the bytes, said at the place, is said in all.
use Rattle.std.proofs.Common.{◌+◌, ◌/◌, ◌%◌, [], ◌∷◌, get_or, drop}
use Rattle.parts.specs.Texts.{digit, hex_of}
use Rattle.parts.proofs.SayingLaws.{underway_none, underway_more, underway_all}
use Rattle.parts.proofs.HexLaws.{hex_more, hex_none}
use Rattle.parts.proofs.saying.Saying.say_hex.Goals as goal

pub loop-byte-init : goal.loop-byte-init
loop-byte-init c = underway_none c.args.self.now (hex_of c.args.bytes.now)

pub loop-byte-preserved : goal.loop-byte-preserved
loop-byte-preserved c =
    let l = c.loop-byte in
    let bytes = c.args.bytes.now in
    let byte = get_or bytes l.byte-index 0 in
    underway_more (32 ∷ digit (byte / 16 % 16) ∷ digit (byte % 16) ∷ []) (hex_of (drop (l.byte-index + 1) bytes)) (hex_more bytes l.byte-index c.loop-byte-test.true) (rw (c.digit.ensures, c.digit-in-loop-byte.ensures) at c.say.ensures) l.invariant

pub returns : goal.returns
returns c = underway_all (hex_none c.args.bytes.now c.loop-byte.byte-index c.loop-byte-test.false) c.loop-byte.invariant
