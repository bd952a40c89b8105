-- `payloads::registers::pair_tag` meets its contract: the tests and the number of the two registers give the verdict.
use Prim.Native.Nat.{◌+◌, ◌*◌, ◌-◌}
use mathlib.Core.Path.{refl, ap, ◌∙◌}
use native.Mathlib.Omega.{arith}
use Rattle.bcd.specs.Bcd.{registers}
use Rattle.settings.specs.TagWords.{tag_of}
use Rattle.rewrite.proofs.OrderLaws.{behind_last}
use Rattle.rewrite.proofs.TagLaws.{KnownTag, one_outside, one_partial, one_room, one_whole}
use Rattle.payloads.proofs.registers.pair_tag.Goals.{After-tag_address-address}
use Rattle.payloads.proofs.registers.pair_tag.Goals as goal

known : (c : After-tag_address-address) → (let a = c.args in KnownTag (tag_of a.word) a.d.now c.tag_address-address.result (c.tag_address-address.result + 1))
unfolding registers
known c =
    record { first_is = c.tag_address-address.ensures; final_is = omega (arith, c.tag_address-address.ensures, behind_last (tag_of c.args.word), ap registers c.requires.word_value); bytes = λ i. (c.type_inv.d i).fits }

pub returns-then-last-from : goal.returns-then-last-from
returns-then-last-from c = let a = c.args in one_outside a.way a.run.base a.run.start a.run.quantity (known (goal.at.returns-then-last-from c).After-tag_address-address) (rw c.end-end.ensures at c.if-last-from.true)

pub returns-then-address-from : goal.returns-then-address-from
returns-then-address-from c = let a = c.args in one_partial a.way a.run.base a.run.start a.run.quantity (known (goal.at.returns-then-address-from c).After-tag_address-address) (rw c.end-end.ensures at c.if-last-from.false) (rw c.end-end.ensures at c.if-address-from.true)

pub overflow_sub-k : goal.overflow_sub-k
overflow_sub-k c = let a = c.args in (one_room a.way a.run.base a.run.start a.run.quantity (known (goal.at.overflow_sub-k c).After-tag_address-address) (rw c.end-end.ensures at c.if-address-from.false)).0

pub whole_pair-requires : goal.whole_pair-requires
unfolding registers
whole_pair-requires c =
    let a = c.args in
    omega (arith, c.requires.in_buffer.room, one_room a.way a.run.base a.run.start a.run.quantity (known (goal.at.whole_pair-requires c).After-tag_address-address) (rw c.end-end.ensures at c.if-address-from.false), ap registers c.requires.word_value)

pub returns : goal.returns
returns c =
    let a = c.args in
    c.whole_pair.ensures
    ∙ rw c.requires.word_value at (one_whole a.way a.run.base a.run.start a.run.quantity (known (goal.at.returns c).After-tag_address-address) (rw c.end-end.ensures at c.if-address-from.false) (a.run.base + 2 * (c.tag_address-address.result - a.run.start)) refl)
