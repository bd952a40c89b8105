-- `payloads::bring` meets its contract: an exception passes, and each case of what was asked is the definition's.
use Prim.Native.Nat.{ℕ}
use mathlib.Core.Path.{◌≡◌, sym, ◌∙◌}
use mathlib.Core.Logic.{⊎_elim}
use mathlib.Core.Bool.{false}
use mathlib.Core.List.{map}
use Rattle.settings.specs.TagWords.{tag_of}
use Rattle.pdu.specs.Replies.{what, excepts}
use Rattle.rewrite.specs.Frames.{returned_by, returned}
use Rattle.rewrite.proofs.FrameLaws.{returned-exception, returned_other}
use Rattle.payloads.proofs.bring.Goals.{Else-is_exception}
use Rattle.payloads.proofs.bring.Goals as goal

pub returns-then-is_exception : goal.returns-then-is_exception
returns-then-is_exception c unit =
    let a = c.args in
    rw (c.default.ensures.0, c.default.ensures.1)
    (sym (returned-exception (map tag_of a.tags.words.now) a.frame.now (what unit a.function a.asked) (sym c.is_exception.ensures ∙ c.if-is_exception.true)))

plain : (c : Else-is_exception) → (let a = c.args in excepts a.function a.frame.now ≡ false)
plain c = sym c.is_exception.ensures ∙ c.if-is_exception.false

by-asked : (c : Else-is_exception) (unit : ℕ)
    → (let a = c.args in returned (map tag_of a.tags.words.now) (what unit a.function a.asked) a.frame.now ≡ returned_by (map tag_of a.tags.words.now) a.asked a.frame.now)
by-asked c unit =
    let a = c.args in
    returned_other (map tag_of a.tags.words.now) a.frame.now (what unit a.function a.asked) (plain c)

pub returns-in-Read : goal.returns-in-Read
unfolding returned_by
returns-in-Read c unit =
    rw (by-asked (goal.at.returns-in-Read c).Else-is_exception unit, c.in-Read.is) c.bring_read.ensures

pub returns-in-Bits : goal.returns-in-Bits
unfolding returned_by
returns-in-Bits c unit =
    rw (c.default-in-Bits.ensures.0, c.default-in-Bits.ensures.1, by-asked (goal.at.returns-in-Bits c).Else-is_exception unit, c.in-SingleWrite.is, c.in-Bits.is)

pub returns-in-Registers : goal.returns-in-Registers
returns-in-Registers c unit =
    rw (by-asked (goal.at.returns-in-Registers c).Else-is_exception unit, c.in-SingleWrite.is, c.in-Registers.is) c.bring_echo.ensures

pub returns-in-ReadWrite : goal.returns-in-ReadWrite
unfolding returned_by
returns-in-ReadWrite c unit =
    rw (by-asked (goal.at.returns-in-ReadWrite c).Else-is_exception unit, c.in-ReadWrite.is) c.bring_read-in-ReadWrite.ensures

pub returns-in-MultipleWrite : goal.returns-in-MultipleWrite
unfolding returned_by
returns-in-MultipleWrite c unit =
    rw (c.default-in-MultipleWrite.ensures.0, c.default-in-MultipleWrite.ensures.1, by-asked (goal.at.returns-in-MultipleWrite c).Else-is_exception unit)
    (⊎_elim (λ e. rw e.3) (⊎_elim (λ e. rw e.3) (λ e. rw e)) c.in-MultipleWrite.is)
