-- `scripts::telling::kept_places` meets its contract: every place from the one on is looked at.
use Rattle.std.proofs.Common.{◌∙◌, eqb, rules, tests, drop}
use Rattle.std.proofs.lemmas.Iterator.{YieldsList-from_slice}
use Rattle.std.proofs.lemmas.Iterator.Search.{all_from_yields_List}
use Rattle.std.proofs.lemmas.Iterator.Adapters.{YieldsList-from_skip}
use Rattle.scripts.specs.Pieces.{kept_place}
use Rattle.scripts.proofs.PieceLaws.{all_list}
use Rattle.scripts.proofs.telling.kept_places.Goals as goal

pub returns : goal.returns
returns c =
    let list = c.args.list.now in
    all_from_yields_List (λ x. eqb x kept_place) _ _ _ c.all.ensures.ran (YieldsList-from_skip c.args.from (YieldsList-from_slice list (cc)) (cc)) (λ x b q k. search (rules, tests)) ∙ all_list kept_place (drop c.args.from list)
