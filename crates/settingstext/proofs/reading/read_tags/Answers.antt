-- `settingstext::reading::read_tags` meets its contract: the tags so far stand in the columns.
use Rattle.std.specs.Prelude.{Err}
use mathlib.Core.Path.{◌≡◌, refl, ap, sym, ◌∙◌}
use native.Mathlib.Omega.{arith}
use borrow.Author.Rules.{rules}
use Rattle.settings.specs.Values.{settings_of}
use Rattle.settingstext.specs.inner.Reading.{told}
use Rattle.settingstext.proofs.ListingLaws.{listed-none, listed_more, line_small, tags_ended, tags_extra, tags_stopped}
use Rattle.settingstext.proofs.reading.read_tags.Goals as goal

pub loop-k-init : goal.loop-k-init
unfolding settings_of
loop-k-init c = rw c.requires.1 (listed-none _ _ _)

pub tag_in-requires : goal.tag_in-requires
tag_in-requires c = let l = c.loop-k.invariant in let h = c.requires.0 in (h.listed.0, omega (arith, line_small l h.few h.listed))

pub loop-k-preserved : goal.loop-k-preserved
loop-k-preserved c =
    let l = c.loop-k.invariant in
    let h = c.requires.0 in
    listed_more _ h.listed _ 0 0 _ _ _ _ _ _ _ _ _ _ l c.loop-k-test.true h.few _ _ (ap told (sym c.in_ok-tag.was) ∙ c.tag_in.ensures l.prior l.low)

pub overflow_add-line-in-loop-k : goal.overflow_add-line-in-loop-k
overflow_add-line-in-loop-k c = let h = c.requires.0 in omega (arith, line_small c.loop-k.invariant h.few h.listed, h.listed.1)

pub returns-in_err-tag : goal.returns-in_err-tag
returns-in_err-tag c =
    let l = c.loop-k.invariant in
    let e : c.from_residual.result ≡ Err c.in_err-tag.field-0.0 = search rules in
    rw e (tags_stopped _ c.requires.0 l _ _ c.loop-k-test.true (ap told (sym c.in_err-tag.was) ∙ c.tag_in.ensures l.prior l.low))

pub returns-then-is_empty : goal.returns-then-is_empty
returns-then-is_empty c = tags_ended _ c.requires.0 c.loop-k.invariant c.loop-k.into refl refl refl refl refl (omega arith) (search rules)

pub returns-else-is_empty : goal.returns-else-is_empty
returns-else-is_empty c = tags_extra _ c.requires.0 c.loop-k.invariant _ (omega arith) (search rules)
