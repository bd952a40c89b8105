-- `finding::free_id` meets its contract. The outer loop walks over live ids, which the pigeonhole ends; the inner loop's invariant: no place passed holds the id.
use Prim.Native.Nat.{◌+◌}
use mathlib.Core.Path.{◌≡◌, ap, ◌∙◌}
use mathlib.Core.Bool.{true}
use native.Mathlib.Omega.{arith}
use borrow.Author.Tests.{eq-eqb}
use Rattle.numbers.specs.Numbers.{ids as every-id}
use Rattle.laws.specs.Circle.{turn, gap}
use Rattle.pdu.specs.declared.ProxyId.{ProxyId}
use Rattle.table.specs.inner.Places.{live_id}
use Rattle.finding.proofs.IdLaws.{live_yes, live_no, Walk, walk_nearer, walk_on, walk_ends}
use Rattle.finding.proofs.free_id.Goals as goal
use Rattle.finding.proofs.free_id.Goals.{After-next-id}

-- an id that a place holds is live, and the walk goes one on
live : (c : After-next-id) → let t = c.args.table.now in live_id t.ids t.top c.search.id.0 ≡ true
live c = live_yes c.args.table.now.ids _ _ c.loop-k.k c.loop-k-test.true (eq-eqb _ _ (c.if-table-k.true ∙ ap (λ (i : ProxyId). i.0 + 1) c.loop-k.invariant.0))

on : (c : After-next-id)
    → let t = c.args.table.now in
    Walk t.ids t.top t.cursor c.next-id.result.0 × (gap every-id t.cursor c.next-id.result.0 ≡ gap every-id t.cursor c.search.id.0 + 1)
on c = walk_on c.args.table.now.ids _ _ c.requires c.search.invariant (live c) (c.next-id.ensures ∙ ap (λ (i : ProxyId). turn every-id (i.0 + 1)) c.loop-k.invariant.0)

pub search-smaller : goal.search-smaller
search-smaller c = omega (arith, (on c).1, walk_nearer c.args.table.now.ids _ _ c.requires c.search.invariant (live c))

pub search-preserved : goal.search-preserved
search-preserved c = (on c).0

pub returns : goal.returns
returns c =
    let l = c.loop-k.invariant in
    let is = c.args.table.now.ids in
    ap (λ (i : ProxyId). i.0) l.0 ∙ walk_ends is _ _ c.requires c.search.invariant (live_no is _ _ (λ k h. l.1 k (omega arith)))
