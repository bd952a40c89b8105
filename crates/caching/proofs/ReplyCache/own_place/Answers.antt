-- `ReplyCache::own_place` meets its contract: of the places below the bound the first that has the word.
use mathlib.Core.Path.{sym}
use mathlib.Core.Bool.{false}
use native.Mathlib.Omega.{arith}
use borrow.Author.Tests.{eq-eqb}
use Rattle.laws.proofs.SearchLaws.{best-nothing, first_found}
use Rattle.caching.specs.Kept.{bound_in, has_word}
use Rattle.caching.proofs.ReplyCache.own_place.Goals as goal

pub returns-then-self-k-clause-own : goal.returns-then-self-k-clause-own
returns-then-self-k-clause-own c =
    let a = c.args in
    sym (first_found (has_word a.self.now.numbers a.word) 64 (bound_in a.self.now.numbers) c.loop-k.k c.requires.low (omega arith) c.loop-k.invariant (eq-eqb _ _ c.if-self-k.true))

pub returns-clause-own : goal.returns-clause-own
returns-clause-own c =
    let a = c.args in
    sym (best-nothing (has_word a.self.now.numbers a.word) (λ j k. false) 64 (bound_in a.self.now.numbers) (λ j h. c.loop-k.invariant j (omega arith)))
