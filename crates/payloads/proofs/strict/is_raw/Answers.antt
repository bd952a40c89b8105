-- `payloads::strict::is_raw` meets its contract: the tests and the number of the tag's registers give the verdict.
use Prim.Native.Nat.{ℕ, ◌+◌, ◌*◌, ◌-◌}
use mathlib.Core.Path.{refl, ap, ◌∙◌}
use mathlib.Core.Bool.{not}
use native.Mathlib.Omega.{arith}
use Rattle.bcd.specs.declared.Kind.{Kind}
use Rattle.bcd.specs.Bcd.{registers, in_range}
use Rattle.bcd.specs.Words.{number_of}
use Rattle.settings.specs.TagWords.{tag_of}
use Rattle.rewrite.specs.declared.Way.TheVariants.{ToBcd}
use Rattle.rewrite.specs.Registers.{registers_at}
use Rattle.rewrite.proofs.TagLaws.{KnownTag, one_room, stays_partly, stays_whole}
use Rattle.payloads.proofs.strict.is_raw.Goals.{After-last_of-last}
use Rattle.payloads.proofs.strict.is_raw.Goals as goal

known : (c : After-last_of-last) → (let a = c.args in KnownTag (tag_of a.word) a.d.now c.tag_address-address.result c.last_of-last.result)
known c = record { first_is = c.tag_address-address.ensures; final_is = c.last_of-last.ensures; bytes = λ i. (c.type_inv.d i).fits }

pub returns-then-address-from : goal.returns-then-address-from
returns-then-address-from c = let a = c.args in rw c.end-end.ensures (stays_partly a.run.base a.run.start a.run.quantity (known (goal.at.returns-then-address-from c).After-last_of-last) (rw c.end-end.ensures at c.if-address-from.true))

pub overflow_sub-k : goal.overflow_sub-k
overflow_sub-k c = let a = c.args in (one_room ToBcd a.run.base a.run.start a.run.quantity (known (goal.at.overflow_sub-k c).After-last_of-last) (rw c.end-end.ensures at c.if-address-from.false)).0

pub number_at-requires : goal.number_at-requires
number_at-requires c =
    let a = c.args in
    omega (arith, c.requires.room, one_room ToBcd a.run.base a.run.start a.run.quantity (known (goal.at.number_at-requires c).After-last_of-last) (rw c.end-end.ensures at c.if-address-from.false), ap registers c.tag_kind-kind.ensures)

pub returns : goal.returns
returns c =
    let a = c.args in
    let at = a.run.base + 2 * (c.tag_address-address.result - a.run.start) in
    ap not
    (c.is_in_range.ensures ∙ ap (λ (n : ℕ). in_range c.tag_kind-kind.result n) c.number_at.ensures
    ∙ ap (λ (kind : Kind). in_range kind (number_of (registers_at at (registers kind) a.d.now))) c.tag_kind-kind.ensures)
    ∙ stays_whole a.run.base a.run.start a.run.quantity (known (goal.at.returns c).After-last_of-last) (rw c.end-end.ensures at c.if-address-from.false) at refl
