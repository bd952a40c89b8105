-- `payloads::registers::one_tag` meets its contract: a kind has one register, or it is the one that has two.
use mathlib.Core.Path.{◌≡◌, refl, ap, sym, ◌∙◌}
use Rattle.bcd.specs.declared.Kind.{Kind}
use Rattle.bcd.specs.declared.Kind.TheVariants.{Width16, Width32, Signed16}
use Rattle.bcd.specs.Bcd.{registers}
use Rattle.payloads.proofs.registers.one_tag.Goals as goal

has-two : (kind : Kind) → (registers kind ≡ 1 → ⊥) → kind ≡ Width32
unfolding registers
has-two Width16 h = absurd (h refl)
has-two Width32 h = refl
has-two Signed16 h = absurd (h refl)

pub word_tag-requires : goal.word_tag-requires
word_tag-requires c = record { in_buffer = c.requires; word_value = ap registers (sym c.tag_kind.ensures) ∙ sym c.registers_of.ensures ∙ c.if-registers_of-eq1.true }

pub pair_tag-requires : goal.pair_tag-requires
pair_tag-requires c = record { in_buffer = c.requires; word_value = sym c.tag_kind.ensures ∙ has-two c.tag_kind.result (λ e. c.if-registers_of-eq1.false (c.registers_of.ensures ∙ e)) }
