-- `finding::earliest` meets its contract: the search goes on from a place that is due to the next that is sooner.
use mathlib.Core.Path.{sym, ◌∙◌}
use native.Mathlib.Omega.{arith}
use Rattle.numbers.specs.Numbers.{places}
use Rattle.laws.proofs.SearchLaws.{best-nothing, first-before}
use Rattle.table.specs.inner.Places.{is_due}
use Rattle.finding.proofs.ScanLaws.{place_due, stands_first, stands_next, stands_ends}
use Rattle.finding.proofs.earliest.Goals as goal

pub returns-in_err-found-clause-found : goal.returns-in_err-found-clause-found
returns-in_err-found-clause-found c =
    let t = c.args.table.now in
    let e = c.in_err-found.ensures.found in
    rw c.from_residual.ensures (sym (best-nothing _ _ places t.top (λ k h. first-before (is_due t.ids t.deadlines c.args.time) t.top k (omega (arith, e)))))

pub loop-next-init : goal.loop-next-init
loop-next-init c = stands_first _ _ _ _ _ c.in_ok-found.ensures.found c.in_ok-found.ensures.within

pub loop-next-preserved : goal.loop-next-preserved
loop-next-preserved c =
    let t = c.args.table.now in
    let s = c.loop-next.invariant in
    let same = place_due t.ids t.deadlines c.args.time c.loop-next.found (omega (arith, s.within)) s.passes in
    let p = c.in-Some.ensures.passed in
    let w = c.in-Some.ensures.sooner in
    stands_next _ _ _ _ s c.in-Some.next p.0 w.0 (λ k l h. same k ∙ p.2 k l h) (same c.in-Some.next ∙ w.1)

pub returns-clause-found : goal.returns-clause-found
returns-clause-found c =
    let t = c.args.table.now in
    let s = c.loop-next.invariant in
    let same = place_due t.ids t.deadlines c.args.time c.loop-next.found (omega (arith, s.within)) s.passes in
    let q = c.in_default.ensures.passed in
    stands_ends _ _ _ _ s (λ k l h. same k ∙ q.2 k l h)
