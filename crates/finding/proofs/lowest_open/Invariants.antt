-- `finding::lowest_open` meets its contract: a scan of the places below top.
use Prim.Native.Nat.{◌<◌}
use Rattle.std.specs.Prelude.{IfSome}
use Rattle.numbers.specs.Numbers.{places}
use Rattle.laws.specs.Options.{place_or}
use Rattle.table.specs.inner.Places.{is_open, is_lower}
use Rattle.finding.proofs.ScanLaws.{Scan}
use Rattle.finding.proofs.lowest_open.Given as goal

abbrev pub invariant-loop-k : goal.invariant-loop-k
invariant-loop-k l =
    let t = l.table in
    record {
      scan : Scan (is_open t.ids t.asked t.deadlines t.counts l.word l.time) (is_lower t.ids) places t.top l.k (place_or places l.found);
      low : IfSome l.found (λ j. j < t.top);
    }
