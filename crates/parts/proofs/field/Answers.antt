-- `parts::field` meets its contract: the parts of a text are those at which it is split.
use Rattle.std.proofs.Common.{◌≡◌, eqb, rules, tests, refl, slice_get, option_map}
use Rattle.std.proofs.lemmas.Iterator.Consumers.{nth_from_yields_List}
use Rattle.std.proofs.lemmas.Iterator.Splits.{YieldsList-from_slice_split}
use Rattle.std.specs.List.{slice_split}
use Rattle.parts.proofs.TextLaws.{part_taken}
use Rattle.parts.proofs.field.Goals as goal

pub returns : goal.returns
returns c =
    let a = c.args in
    let part : option_map (λ x. x.now) c.nth.result ≡ slice_get (slice_split (λ x. eqb x a.byte) a.s.now) a.k = nth_from_yields_List _ _ _ c.nth.ensures.ran (YieldsList-from_slice_split _ (λ x. eqb x a.byte) a.s.now c.split.ensures.rest c.split.ensures.done c.split.ensures.closure (λ x b q k. search (rules, tests))) in
    part_taken a.byte a.k a.s.now c.nth.result _ _ part c.unwrap_or.ensures refl
