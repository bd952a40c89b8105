-- `answering::life_given` meets its contract: an exception and what is closed give none, a read of registers what its tags give, and all else none.
use Prim.Native.Nat.{ℕ}
use mathlib.Core.Path.{◌≡◌, refl, ap, sym, ◌∙◌}
use mathlib.Core.Bool.{Bool, false, ◌||◌}
use mathlib.Core.List.{List}
use Rattle.settings.specs.Grammar.{Tag}
use Rattle.pdu.specs.declared.What.{What}
use Rattle.pdu.specs.declared.Asked.{Asked}
use Rattle.pdu.specs.declared.Table.{Table}
use Rattle.pdu.specs.declared.Asked.TheVariants.{Read, SingleWrite, MultipleWrite, MaskWrite, ReadWrite, Other}
use Rattle.laws.proofs.Choice.{or_left, or_right}
use Rattle.pdu.specs.Replies.{excepts}
use Rattle.pdu.specs.Words.{what_of, closed_in}
use Rattle.cache.specs.Life.{cacheable_by}
use Rattle.answering.proofs.KeepLaws.{given-none, given_read, given_other}
use Rattle.answering.proofs.life_given.Goals.{After-is_closed}
use Rattle.answering.proofs.life_given.Goals as goal

-- what the first test says
tested : (c : After-is_closed) {b : Bool} → (c.is_exception.result || c.is_closed.result) ≡ b
    → (excepts (what_of c.args.word).function c.args.frame.now || closed_in c.args.word) ≡ b
tested c {b} e =
    let x : excepts (what_of c.args.word).function c.args.frame.now ≡ c.is_exception.result =
    sym (c.is_exception.ensures ∙ ap (λ (w : What). excepts w.function c.args.frame.now) c.requires) in
    let y : closed_in c.args.word ≡ c.is_closed.result = sym c.is_closed.ensures in
    rw (x, y) e

pub returns-then-is_exception-is_closed : goal.returns-then-is_exception-is_closed
returns-then-is_exception-is_closed c e asks noted =
    given-none _ _ e _ (asks ∙ c.requires) noted (tested (goal.at.returns-then-is_exception-is_closed c).After-is_closed c.if-is_exception-is_closed.true)

-- what the word says was asked
asked : (c : After-is_closed) → (what_of c.args.word).asked ≡ c.args.what.asked
asked c = ap (λ (w : What). w.asked) (sym c.requires)

-- what is no read is not cacheable
others-give-none : (tags : List Tag) (a : Asked) → ((t : Table) (s q : ℕ) → a ≡ Read t s q → ⊥) → cacheable_by tags a ≡ false
unfolding cacheable_by
others-give-none tags (Read t s q) h = absurd (h t s q refl)
others-give-none tags (SingleWrite t a v) h = refl
others-give-none tags (MultipleWrite t s q) h = refl
others-give-none tags (MaskWrite a x y) h = refl
others-give-none tags (ReadWrite s q u p) h = refl
others-give-none tags Other h = refl

pub returns-in_default : goal.returns-in_default
returns-in_default c e asks noted =
    given_other _ _ e _ (asks ∙ c.requires) noted (asked (goal.at.returns-in_default c).After-is_closed) (others-give-none _ c.args.what.asked c.in_default.not-Read)

pub returns-in-Bits : goal.returns-in-Bits
unfolding cacheable_by
returns-in-Bits c e asks noted =
    given_other _ _ e _ (asks ∙ c.requires) noted (asked (goal.at.returns-in-Bits c).After-is_closed ∙ c.in-Read.is) (rw c.in-Bits.is refl)

pub returns-in-Registers : goal.returns-in-Registers
returns-in-Registers c e asks noted =
    let a = goal.at.returns-in-Registers c in
    let t = tested a.After-is_closed c.if-is_exception-is_closed.false in
    given_read _ _ e _ (asks ∙ c.requires) noted (or_left _ _ t) (or_right (excepts (what_of c.args.word).function c.args.frame.now) _ t)
    (asked a.After-is_closed ∙ c.in-Read.is ∙ rw c.in-Registers.is refl) c.life_of.ensures
