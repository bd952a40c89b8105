-- `finding::lowest_free` meets its contract: the first number of the column that is 0.
use mathlib.Core.Path.{◌≡◌, refl}
use lib.Dec.{eqb}
use native.Mathlib.Omega.{arith}
use Rattle.std.proofs.Common.{rules}
use Rattle.std.specs.List.{position}
use Rattle.std.proofs.lemmas.Iterator.{YieldsList-from_slice}
use Rattle.std.proofs.lemmas.Iterator.Search.{position_from_yields_List}
use borrow.Author.Tests.{tests}
use Rattle.numbers.specs.Numbers.{places}
use Rattle.table.specs.inner.Places.{is_free}
use Rattle.finding.proofs.ScanLaws.{found_place}
use Rattle.finding.proofs.lowest_free.Goals as goal

pub returns-clause-found : goal.returns-clause-found
returns-clause-found c =
    let is = c.args.table.now.ids in
    let e : c.position.result ≡ position (λ x. eqb x 0) is =
    position_from_yields_List _ _ _ c.position.result c.position.ensures.ran (YieldsList-from_slice is cc) (λ x b q k. search (rules, tests)) in
    rw e (found_place (λ x. eqb x 0) is (is_free is) places places (omega arith) (search rules) (λ k h. refl))
