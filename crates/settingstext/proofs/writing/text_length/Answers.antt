-- `settingstext::writing::text_length` meets its contract: the loop over the tags adds up the text's length.
use native.Mathlib.Omega.{arith}
use Rattle.settingstext.proofs.WritingLaws.{measured_none, measured_more, measured_all}
use Rattle.settingstext.proofs.writing.text_length.Goals as goal

pub loop-k-init : goal.loop-k-init
loop-k-init c = measured_none _ _ c.head_length-size.ensures

pub overflow_add-size : goal.overflow_add-size
overflow_add-size c = let m = measured_more (omega arith) c.loop-k.invariant (rw c.tag.ensures at c.tag_length-size.ensures) in omega (arith, m.most)

pub loop-k-preserved : goal.loop-k-preserved
loop-k-preserved c = measured_more (omega arith) c.loop-k.invariant (rw c.tag.ensures at c.tag_length-size.ensures)

pub returns : goal.returns
returns c = measured_all (omega arith) c.loop-k.invariant
