-- `rewrite::last_of` meets its contract: a tag has one register or two.
use native.Mathlib.Omega.{arith}
use Rattle.bcd.proofs.Words.{registers-least, registers_most}
use Rattle.rewrite.proofs.last_of.Goals as goal

pub overflow_add-result : goal.overflow_add-result
overflow_add-result c = omega (arith, c.registers_of.ensures, registers_most c.tag_kind.result)

pub overflow_sub-result : goal.overflow_sub-result
overflow_sub-result c = omega (arith, c.registers_of.ensures, registers-least c.tag_kind.result)

pub returns : goal.returns
returns c = rw (c.registers_of.ensures, c.tag_kind.ensures, c.tag_address.ensures)
