-- `scripts::pieces::say_kept` meets its contract: every byte from the place on is looked at.
use Rattle.std.proofs.Common.{◌≡◌, ◌∙◌, eqb, rules, tests, drop}
use Rattle.std.proofs.lemmas.Iterator.{YieldsList-from_slice}
use Rattle.std.proofs.lemmas.Iterator.Search.{all_from_yields_List}
use Rattle.scripts.specs.Pieces.{kept_byte, all_are}
use Rattle.scripts.proofs.PieceLaws.{all_list}
use Rattle.scripts.proofs.pieces.say_kept.Goals as goal

pub returns : goal.returns
returns c =
    let left = drop c.args.from c.args.buffer.now in
    let kept : c.all-kept.result ≡ all_are kept_byte left =
    all_from_yields_List (λ x. eqb x kept_byte) _ _ _ c.all-kept.ensures.ran (YieldsList-from_slice left (cc)) (λ x b q k. search (rules, tests)) ∙ all_list kept_byte left
    in
    rw kept at c.say_touched.ensures
