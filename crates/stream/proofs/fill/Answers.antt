-- `stream::fill` meets its contract: the part behind the bytes kept holds as much of the piece as there is room for.
use Prim.Native.Nat.{◌+◌, ◌-◌}
use mathlib.Core.Path.{◌≡◌, ◌∙◌}
use native.Mathlib.Omega.{arith}
use lib.ListN.{length, take, drop, length-take}
use lib.Seq.{length-take-le}
use borrow.Author.Rules.{rules}
use Rattle.numbers.specs.Numbers.{most_frame}
use Rattle.laws.proofs.ByteLaws.{over_all}
use Rattle.stream.proofs.FieldLaws.{filled}
use Rattle.stream.proofs.fill.Goals as goal

pub returns : goal.returns
returns c =
    let b = c.args.bytes.now in
    let p = c.args.piece.now in
    let f = c.args.from in
    let n = c.min-n.result in
    let l : length b ≡ most_frame = search rules in
    let part = take (f + n - f) (drop f b) in
    filled b p f n c.copy.new.out l c.requires c.min-n.ensures (c.copy.ensures ∙ over_all (take n p) part (omega (arith, length-take-le n p (omega arith), length-take (f + n - f) (drop f b))))
