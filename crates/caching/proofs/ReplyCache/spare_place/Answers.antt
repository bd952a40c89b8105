-- `ReplyCache::spare_place` meets its contract. The loop's invariant: no place passed is empty or expired.
use mathlib.Core.Path.{◌≡◌, sym, ◌∙◌}
use mathlib.Core.Bool.{true, false}
use native.Mathlib.Omega.{arith}
use borrow.Author.Tests.{eq-eqb, ne_eqb}
use Rattle.laws.proofs.SearchLaws.{first_found, best-nothing}
use Rattle.caching.specs.Kept.{is_spare}
use Rattle.caching.proofs.ReplyCache.spare_place.Goals.{then-self-k-eq0-via-then-self-k-eq0, then-self-k-eq0-via-else-self-k-eq0+then-not-is_fresh}
use Rattle.caching.proofs.ReplyCache.spare_place.Goals as goal

pub returns-then-self-k-eq0-clause-spare : goal.returns-then-self-k-eq0-clause-spare
returns-then-self-k-eq0-clause-spare c =
    let cache = c.args.self.now.numbers in
    let here : is_spare cache c.args.time c.loop-k.k ≡ true = elim c.then-self-k-eq0.branch [
      | then-self-k-eq0-via-then-self-k-eq0 w ↦ rw (eq-eqb _ 0 w.if-self-k-eq0.true)
      | then-self-k-eq0-via-else-self-k-eq0+then-not-is_fresh w ↦ rw (ne_eqb _ 0 w.if-self-k-eq0.false, sym w.is_fresh.ensures ∙ w.if-not-is_fresh.true)
    ] in
    sym (first_found (is_spare cache c.args.time) 64 64 c.loop-k.k (omega arith) (omega arith) c.loop-k.invariant here)

pub returns-clause-spare : goal.returns-clause-spare
returns-clause-spare c = sym (best-nothing (is_spare c.args.self.now.numbers c.args.time) (λ j k. false) 64 64 (λ j h. c.loop-k.invariant j (omega arith)))
