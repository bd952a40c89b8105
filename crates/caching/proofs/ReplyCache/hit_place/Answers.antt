-- `ReplyCache::hit_place` meets its contract: the place that has the word, if it is fresh.
use mathlib.Core.Path.{◌≡◌, sym}
use mathlib.Core.Logic.{⊎_elim}
use borrow.Author.Tests.{lt-ltb}
use Rattle.laws.proofs.Choice.{true_or}
use Rattle.std.proofs.Common.{rules}
use Rattle.std.specs.Prelude.{None}
use Rattle.caching.specs.Kept.{lasts}
use Rattle.caching.proofs.KeptLaws.{hit_found}
use Rattle.caching.proofs.ReplyCache.hit_place.Goals as goal

pub returns-in_err-own-clause-hit : goal.returns-in_err-own-clause-hit
returns-in_err-own-clause-hit c shown s =
    let a = c.args in
    let e : c.from_residual.result ≡ None = search rules in
    rw e (sym (hit_found a.self.now.numbers shown s a.word a.time 64 c.requires.0 c.in_err-own.ensures.own))

pub returns-clause-hit : goal.returns-clause-hit
returns-clause-hit c shown s =
    let a = c.args in
    let own = c.in_ok-own in
    rw (hit_found a.self.now.numbers shown s a.word a.time own.own c.requires.0 own.ensures.own, lt-ltb own.own 64 own.ensures.within, c.then_some.ensures, c.is_fresh.ensures)
    (⊎_elim (λ t. rw t) (λ t. rw t) (true_or (lasts a.self.now.numbers a.time own.own)))
