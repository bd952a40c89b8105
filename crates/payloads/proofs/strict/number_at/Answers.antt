-- `payloads::strict::number_at` meets its contract: a kind has one register, or two.
use mathlib.Core.Path.{◌≡◌, sym, ◌∙◌}
use native.Mathlib.Omega.{arith}
use Rattle.bcd.specs.Bcd.{registers}
use Rattle.bcd.proofs.Words.{registers-least, registers_most}
use Rattle.rewrite.proofs.TagLaws.{number_one, number_two}
use Rattle.payloads.proofs.strict.number_at.Goals.{Else-registers_of-eq1}
use Rattle.payloads.proofs.strict.number_at.Goals as goal

-- a kind that has not one register has two
two : (c : Else-registers_of-eq1) → registers c.args.kind ≡ 2
two c =
    let kind = c.args.kind in
    omega (arith, registers-least kind, registers_most kind, c.registers_of.ensures, c.if-registers_of-eq1.false)

pub register_at-low-requires : goal.register_at-low-requires
register_at-low-requires c = omega (arith, c.requires, registers-least c.args.kind)

pub returns-then-registers_of-eq1 : goal.returns-then-registers_of-eq1
returns-then-registers_of-eq1 c =
    let a = c.args in
    c.register_at-low.ensures.0 ∙ number_one a.kind a.k a.d.now (sym c.registers_of.ensures ∙ c.if-registers_of-eq1.true)

pub register_at-requires : goal.register_at-requires
register_at-requires c = omega (arith, c.requires, two (goal.at.register_at-requires c).Else-registers_of-eq1)

pub returns : goal.returns
returns c =
    let a = c.args in
    rw (c.register_at-low.ensures.0, c.register_at.ensures.0) (number_two a.kind a.k a.d.now (two (goal.at.returns c).Else-registers_of-eq1))
