-- `payloads::registers::word_tag` meets its contract: the test and the register's number give the verdict.
use Prim.Native.Nat.{◌+◌, ◌*◌, ◌-◌}
use mathlib.Core.Path.{refl, ap, ◌∙◌}
use native.Mathlib.Omega.{arith}
use Rattle.bcd.specs.declared.Kind.{Kind}
use Rattle.bcd.specs.Bcd.{registers}
use Rattle.settings.specs.TagWords.{tag_of}
use Rattle.rewrite.specs.inner.Lent.{whole_laid}
use Rattle.rewrite.proofs.OrderLaws.{behind_last}
use Rattle.rewrite.proofs.TagLaws.{KnownTag, one_outside, one_room, one_whole}
use Rattle.payloads.proofs.registers.word_tag.Goals.{After-tag_address-address}
use Rattle.payloads.proofs.registers.word_tag.Goals as goal

-- the tag's first register is its last
known : (c : After-tag_address-address) → (let a = c.args in KnownTag (tag_of a.word) a.d.now c.tag_address-address.result c.tag_address-address.result)
known c =
    record { first_is = c.tag_address-address.ensures; final_is = omega (arith, c.tag_address-address.ensures, behind_last (tag_of c.args.word), c.requires.word_value); bytes = λ i. (c.type_inv.d i).fits }

pub returns-then-address-from : goal.returns-then-address-from
returns-then-address-from c = let a = c.args in one_outside a.way a.run.base a.run.start a.run.quantity (known (goal.at.returns-then-address-from c).After-tag_address-address) (rw c.end-end.ensures at c.if-address-from.true)

pub overflow_sub-k : goal.overflow_sub-k
overflow_sub-k c = let a = c.args in (one_room a.way a.run.base a.run.start a.run.quantity (known (goal.at.overflow_sub-k c).After-tag_address-address) (rw c.end-end.ensures at c.if-address-from.false)).0

pub whole_word-requires : goal.whole_word-requires
whole_word-requires c =
    let a = c.args in
    (ap registers c.tag_kind.ensures ∙ c.requires.word_value, omega (arith, c.requires.in_buffer.room, one_room a.way a.run.base a.run.start a.run.quantity (known (goal.at.whole_word-requires c).After-tag_address-address) (rw c.end-end.ensures at c.if-address-from.false), c.requires.word_value))

pub returns : goal.returns
returns c =
    let a = c.args in
    let at = a.run.base + 2 * (c.tag_address-address.result - a.run.start) in
    c.whole_word.ensures ∙ ap (λ (kind : Kind). whole_laid a.way kind at a.d.now) c.tag_kind.ensures
    ∙ one_whole a.way a.run.base a.run.start a.run.quantity (known (goal.at.returns c).After-tag_address-address) (rw c.end-end.ensures at c.if-address-from.false) at refl
