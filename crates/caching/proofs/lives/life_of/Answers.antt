-- `caching::lives::life_of` meets its contract. The loop's invariant: what is left of the walk, from the register reached and with the smallest ttl so far, tells the life.
use Prim.Native.Nat.{ℕ, ◌+◌, ◌<◌}
use mathlib.Core.Path.{◌≡◌, refl}
use mathlib.Core.Bool.{true}
use native.Mathlib.Nat.{add-zero}
use native.Mathlib.Omega.{arith}
use lib.ListN.{length, get_or}
use Rattle.laws.specs.Options.{place_or}
use Rattle.laws.specs.Search.{first}
use Rattle.settings.specs.TagWords.{tag_of}
use Rattle.rewrite.specs.inner.Lent.{reaches}
use Rattle.rewrite.proofs.TableLaws.{rest_word, rest-length}
use Rattle.cache.proofs.TilingLaws.{is_next, next_low}
use Rattle.caching.proofs.LivesLaws.{life_starts, life_ends, life_short, life_stops, life_goes, no_life, some_life, next_lives, Lowered, lowered-none, lowered-some}
use Rattle.caching.proofs.lives.life_of.Goals.{After-reaching-word-items, Else-not-tag_address-at, in-None, in-Some}
use Rattle.caching.proofs.lives.life_of.Goals as goal

-- the place of the first tag that reaches the range
abbrev from : After-reaching-word-items → ℕ
from c = let a = c.args in first (reaches a.tags.words.now a.start) (length a.tags.words.now)

pub loop-word-init : goal.loop-word-init
loop-word-init c =
    let a = c.args in
    record { lives = tt; walked = rw (add-zero (from c)) (life_starts a.tags.words.now a.tags.listed a.start a.quantity refl) }

pub returns-then-end-at : goal.returns-then-end-at
returns-then-end-at c =
    let l = c.loop-word in
    let a = c.args in
    some_life a.tags.words.now a.start a.quantity l.life l.invariant.lives
    (life_ends a.tags.words.now a.tags.listed a.start a.quantity (from (goal.at.returns-then-end-at c).After-reaching-word-items + l.word-index) l.at (place_or 0 l.life) l.invariant.walked c.if-end-at.true)

pub returns-then-not-tag_address-at : goal.returns-then-not-tag_address-at
returns-then-not-tag_address-at c =
    let l = c.loop-word in
    let a = c.args in
    let rest = c.reaching-word-items.ensures in
    no_life a.tags.words.now a.start a.quantity
    (life_stops a.tags.words.now a.tags.listed a.start a.quantity (from (goal.at.returns-then-not-tag_address-at c).After-reaching-word-items + l.word-index) l.at (place_or 0 l.life) l.invariant.walked (omega arith)
    (omega (arith, rest-length a.tags.words.now a.start rest, c.loop-word-test.true))
    (rw (c.tag_address.ensures, c.tag_ttl-ttl.ensures, c.last_of-last.ensures, rest_word a.tags.words.now a.start rest l.word-index) at c.if-not-tag_address-at.true))

-- the tag there is the next
next : (c : Else-not-tag_address-at)
    → (let a = c.args in is_next c.loop-word.at (a.start + a.quantity) (tag_of (get_or a.tags.words.now (first (reaches a.tags.words.now a.start) (length a.tags.words.now) + c.loop-word.word-index) 0)) ≡ true)
next c = rw (c.tag_address.ensures, c.tag_ttl-ttl.ensures, c.last_of-last.ensures, rest_word c.args.tags.words.now c.args.start c.reaching-word-items.ensures c.loop-word.word-index) at c.if-not-tag_address-at.false

pub overflow_add-at : goal.overflow_add-at
overflow_add-at c =
    let l = c.loop-word in
    let a = c.args in
    let rest = c.reaching-word-items.ensures in
    let word = get_or a.tags.words.now (first (reaches a.tags.words.now a.start) (length a.tags.words.now) + l.word-index) 0 in
    omega (arith, rw (rest_word a.tags.words.now a.start rest l.word-index) at c.last_of-last.ensures, next_low l.at (a.start + a.quantity) (tag_of word) (next (goal.at.overflow_add-at c).Else-not-tag_address-at))

pub loop-word-preserved : goal.loop-word-preserved
loop-word-preserved c =
    let l = c.loop-word in
    let a = c.args in
    let words = a.tags.words.now in
    let rest = c.reaching-word-items.ensures in
    let i = from (goal.at.loop-word-preserved c).After-reaching-word-items + l.word-index in
    let n : from (goal.at.loop-word-preserved c).After-reaching-word-items + (l.word-index + 1) ≡ i + 1 = omega arith in
    let is = next (goal.at.loop-word-preserved c).Else-not-tag_address-at in
    let g = life_goes words a.tags.listed a.start a.quantity i l.at (place_or 0 l.life) l.invariant.walked (omega arith) (omega (arith, rest-length words a.start rest, c.loop-word-test.true)) is in
    let ttl = rw (rest_word words a.start rest l.word-index) at c.tag_ttl-ttl.ensures in
    let last = rw (rest_word words a.start rest l.word-index) at c.last_of-last.ensures in
    let above : 0 < c.tag_ttl-ttl.result = rw ttl (next_lives l.at (a.start + a.quantity) (tag_of (get_or words i 0)) is) in
    let low : Lowered l.life c.tag_ttl-ttl.result c.match-life.life =
    elim c.match-life.branch [
      | in-None w ↦ lowered-none l.life c.match-life.life c.tag_ttl-ttl.result w.in-None.is w.life-is above
      | in-Some w ↦ lowered-some l.life c.match-life.life c.tag_ttl-ttl.result w.in-Some.least w.min.result w.in-Some.is w.life-is w.min.ensures l.invariant.lives above
    ] in
    record { lives = low.0; walked = rw (n, last, ← low.1, ttl) g }

-- no tag is left
pub returns-then-at-end : goal.returns-then-at-end
returns-then-at-end c =
    let l = c.loop-word in
    let a = c.args in
    no_life a.tags.words.now a.start a.quantity
    (life_short a.tags.words.now a.tags.listed a.start a.quantity (from (goal.at.returns-then-at-end c).After-reaching-word-items + l.word-index) l.at (place_or 0 l.life) l.invariant.walked c.if-at-end.true
    (omega (arith, rest-length a.tags.words.now a.start c.reaching-word-items.ensures)))

pub returns : goal.returns
returns c =
    let l = c.loop-word in
    let a = c.args in
    some_life a.tags.words.now a.start a.quantity l.life l.invariant.lives
    (life_ends a.tags.words.now a.tags.listed a.start a.quantity (from (goal.at.returns c).After-reaching-word-items + l.word-index) l.at (place_or 0 l.life) l.invariant.walked c.if-at-end.false)
