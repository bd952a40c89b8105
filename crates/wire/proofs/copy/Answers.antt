-- `wire::copy` meets its contract. The loop's invariant: the first i bytes of s are pasted over the start of out.
use mathlib.Core.Path.{refl}
use native.Mathlib.Omega.{arith}
use lib.ListN.{length-set}
use Rattle.laws.proofs.ByteLaws.{copied_none, copied_more, copied_all}
use Rattle.wire.proofs.copy.Goals as goal

pub loop-i-init : goal.loop-i-init
loop-i-init c = (omega arith, refl, copied_none c.args.out.now c.args.s.now)

pub loop-i-preserved : goal.loop-i-preserved
loop-i-preserved c =
    let l = c.loop-i in
    (omega arith, simp length-set l.invariant.1, copied_more c.args.out.now c.args.s.now l.out l.i (omega arith) c.requires l.invariant.2)

pub returns : goal.returns
returns c =
    let l = c.loop-i in
    let a = c.args in
    copied_all a.out.now a.s.now l.out l.i (omega arith) l.invariant.2
