-- `parts::end_of` meets its contract: the byte is looked for behind the place.
use Rattle.std.proofs.Common.{◌≡◌, ◌≤◌, ◌∙◌, eqb, rules, tests, arith, drop, position, length-drop, length}
use Rattle.std.proofs.lemmas.Iterator.{YieldsList-from_slice}
use Rattle.std.proofs.lemmas.Iterator.Search.{position_from_yields_List}
use Rattle.parts.specs.Texts.{end_of}
use Rattle.parts.proofs.TextLaws.{end_within, end_place}
use Rattle.parts.proofs.end_of.Goals as goal

pub returns : goal.returns
returns c =
    let a = c.args in
    let left = drop a.at a.s.now in
    let found : c.position.result ≡ position (λ x. eqb x a.byte) left = position_from_yields_List (λ x. eqb x a.byte) _ _ _ c.position.ensures.ran (YieldsList-from_slice left (cc)) (λ x b q k. search (rules, tests)) in
    let end : c.unwrap_or.result ≡ end_of a.byte left = c.unwrap_or.ensures ∙ rw (found, c.behind-left.ensures) (end_place a.byte left) in
    let within : end_of a.byte left ≤ length left = end_within a.byte left in
    (omega arith, omega (arith, length-drop a.at a.s.now), omega arith)
