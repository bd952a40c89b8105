-- `finding::lowest_open` meets its contract: a scan of the places below top.
use mathlib.Core.Path.{ap, sym, ◌∙◌}
use Rattle.numbers.specs.Numbers.{places}
use Rattle.laws.specs.Options.{place_or}
use Rattle.finding.proofs.ScanLaws.{scan_starts, scan_takes, scan_passes, scan_ends}
use Rattle.finding.proofs.lowest_open.Goals as goal
use Rattle.finding.proofs.lowest_open.Goals.{then-is_lowest_open, else-is_lowest_open}

pub loop-k-init : goal.loop-k-init
loop-k-init c = record { scan = scan_starts; low = tt }

pub loop-k-preserved : goal.loop-k-preserved
loop-k-preserved c =
    let below = c.loop-k-test.true in
    let i = c.loop-k.invariant in
    let won = sym c.is_lowest_open.ensures in
    record {
      scan = elim c.if-is_lowest_open.branch [
        | then-is_lowest_open w ↦ scan_takes i.scan below (won ∙ w.if-is_lowest_open.true) (ap (place_or places) w.found-is)
        | else-is_lowest_open w ↦ scan_passes i.scan below (won ∙ w.if-is_lowest_open.false) (ap (place_or places) w.found-is)
      ];
      low = elim c.if-is_lowest_open.branch [
        | then-is_lowest_open w ↦ rw w.found-is below
        | else-is_lowest_open w ↦ rw w.found-is i.low
      ];
    }

pub returns-clause-found : goal.returns-clause-found
returns-clause-found c = scan_ends c.loop-k.invariant.scan c.loop-k-test.false
