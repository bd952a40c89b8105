-- `parts::hex::parse` meets its contract. The loop's invariant: the first k bytes are those of the text before what is left of it.
use Rattle.std.proofs.Common.{◌≡◌, ◌∙◌, sym, arith, length}
use Rattle.parts.proofs.HexLaws.{made_none, made_more, made-full, made-ended}
use Rattle.parts.proofs.hex.parse.Goals as goal

pub loop-k-init : goal.loop-k-init
loop-k-init c = made_none c.args.s.now c.args.bytes.now

pub returns-in_default : goal.returns-in_default
returns-in_default c = made-ended c.loop-k.invariant c.loop-k.auto.bytes c.loop-k.auto.k-end c.in_default.len_below

pub loop-k-preserved : goal.loop-k-preserved
loop-k-preserved c = made_more c.loop-k.invariant c.loop-k.auto.bytes c.loop-k-test.true c.in-len2-up.len_at_least (cc) c.behind-left.ensures

pub returns : goal.returns
returns c =
    let full : c.loop-k.k ≡ length c.args.bytes.now = omega arith in
    let all = made-full c.loop-k.invariant c.loop-k.auto.bytes full in
    (c.loop-k.auto.bytes ∙ sym full ∙ all.0, all.1)
