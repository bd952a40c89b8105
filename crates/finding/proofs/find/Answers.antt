-- `finding::find` meets its contract: the first number of the column that is the id's.
use Prim.Native.Nat.{◌+◌}
use mathlib.Core.Path.{◌≡◌, ap}
use lib.Dec.{eqb}
use lib.ListN.{take}
use Rattle.std.proofs.Common.{rules, get_or-take}
use Rattle.std.specs.List.{position}
use Rattle.std.proofs.lemmas.Iterator.{YieldsList-from_slice}
use Rattle.std.proofs.lemmas.Iterator.Search.{position_from_yields_List}
use borrow.Author.Tests.{tests}
use Rattle.numbers.specs.Numbers.{places}
use Rattle.table.specs.inner.Places.{holds}
use Rattle.finding.proofs.ScanLaws.{found_place}
use Rattle.finding.proofs.find.Goals as goal

pub returns-clause-found : goal.returns-clause-found
returns-clause-found c =
    let t = c.args.table.now in
    let id = c.args.id.0 in
    let e : c.position.result ≡ position (λ x. eqb x (id + 1)) (take t.top t.ids) =
    position_from_yields_List _ _ _ c.position.result c.position.ensures.ran (YieldsList-from_slice (take t.top t.ids) cc) (λ x b q k. search (rules, tests)) in
    rw e (found_place (λ x. eqb x (id + 1)) (take t.top t.ids) (holds t.ids id) places t.top c.requires (search rules) (λ k h. ap (λ x. eqb x (id + 1)) (get_or-take t.top t.ids k 0 h)))
