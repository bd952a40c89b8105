-- `scripts::apart::exchanged` meets its contract: the loop fills the text byte by byte. Its invariant: the first k bytes are those of the text with one byte in place of another.
use Prim.Native.Nat.{◌<◌}
use mathlib.Core.Path.{refl, sym, ◌∙◌}
use native.Mathlib.Omega.{arith}
use Rattle.laws.proofs.ListLaws.{length-tab}
use Rattle.laws.proofs.FillLaws.{filled_none, filled_more, filled_all}
use Rattle.scripts.specs.Apart.{exchanged}
use Rattle.scripts.proofs.ApartLaws.{exchanged_there, exchanged_other}
use Rattle.scripts.proofs.apart.exchanged.Goals as goal
use Rattle.scripts.proofs.apart.exchanged.Goals.{then-byte-from, else-byte-from}

pub loop-k-init : goal.loop-k-init
loop-k-init c = filled_none 512 0 _ _ refl

pub loop-k-preserved : goal.loop-k-preserved
loop-k-preserved c =
    let l = c.loop-k in
    let a = c.args in
    let e = c.byte_at-byte.ensures in
    let inside : l.k < 512 = omega arith in
    filled_more 512 0 _ l.text l.k c.if-byte-from.text inside l.invariant
    (elim c.if-byte-from.branch [
      | then-byte-from w ↦ w.text-is ∙ sym (exchanged_there a.bytes.now a.from a.to l.k inside e w.if-byte-from.true)
      | else-byte-from w ↦ w.text-is ∙ sym (exchanged_other a.bytes.now a.from a.to l.k inside e w.if-byte-from.false)
    ])

pub returns : goal.returns
unfolding exchanged
returns c =
    let l = c.loop-k in
    (filled_all 512 0 _ l.text l.k (omega arith) (length-tab 512 _) l.invariant, l.invariant.long)
