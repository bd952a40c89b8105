-- `payloads::strict::some_forbids` meets its contract. The loop's invariant: no tag so far forbids the run.
use Prim.Native.Nat.{ℕ, ◌+◌}
use mathlib.Core.Path.{◌≡◌, refl, sym, ◌∙◌}
use native.Mathlib.Nat.{add-zero}
use native.Mathlib.Omega.{arith}
use lib.ListN.{length}
use Rattle.laws.specs.Search.{first}
use Rattle.rewrite.specs.Registers.{registers_at}
use Rattle.rewrite.specs.inner.Lent.{reaches}
use Rattle.rewrite.proofs.RegisterLaws.{length-registers}
use Rattle.rewrite.proofs.TableLaws.{rest_word, rest-length}
use Rattle.rewrite.proofs.ForbidLaws.{forbid_start, forbid_more, forbid_done, forbid_found}
use Rattle.payloads.proofs.strict.some_forbids.Goals.{After-reaching-word-items}
use Rattle.payloads.proofs.strict.some_forbids.Goals as goal

-- the place of the first tag that reaches the run
abbrev from : After-reaching-word-items → ℕ
from c = let a = c.args in first (reaches a.tags.words.now a.run.start) (length a.tags.words.now)

pub loop-word-init : goal.loop-word-init
loop-word-init c =
    let a = c.args in
    rw (add-zero (from c)) (forbid_start a.run.start (registers_at a.run.base a.run.quantity a.d.now) a.tags.words.now a.tags.listed _ refl)

pub returns-then-forbids : goal.returns-then-forbids
returns-then-forbids c =
    let a = c.args in
    let s = (goal.at.returns-then-forbids c).After-reaching-word-items in
    let rest = c.reaching-word-items.ensures in
    forbid_found a.run.start (registers_at a.run.base a.run.quantity a.d.now) a.tags.words.now a.tags.listed (from s + c.loop-word.word-index)
    (omega (arith, rest-length a.tags.words.now a.run.start rest, c.loop-word-test.true))
    (rw (rest_word a.tags.words.now a.run.start rest c.loop-word.word-index) at (sym c.forbids.ensures ∙ c.if-forbids.true))

pub loop-word-preserved : goal.loop-word-preserved
loop-word-preserved c =
    let a = c.args in
    let l = c.loop-word in
    let i = from (goal.at.loop-word-preserved c).After-reaching-word-items in
    let n : i + (l.word-index + 1) ≡ i + l.word-index + 1 = omega arith in
    rw n
    (forbid_more a.run.start (registers_at a.run.base a.run.quantity a.d.now) a.tags.words.now a.tags.listed (i + l.word-index) l.invariant
    (rw (rest_word a.tags.words.now a.run.start c.reaching-word-items.ensures l.word-index) at (sym c.forbids.ensures ∙ c.if-forbids.false)))

pub returns-after-loop-word : goal.returns-after-loop-word
returns-after-loop-word c =
    let a = c.args in
    let l = c.loop-word in
    let i = from (goal.at.returns-after-loop-word c).After-reaching-word-items in
    forbid_done a.run.start (registers_at a.run.base a.run.quantity a.d.now) a.tags.words.now a.tags.listed (i + l.word-index) l.invariant
    (λ h. absurd (omega (arith, rest-length a.tags.words.now a.run.start c.reaching-word-items.ensures)))

pub returns-then-end-tag_address : goal.returns-then-end-tag_address
returns-then-end-tag_address c =
    let a = c.args in
    let l = c.loop-word in
    let i = from (goal.at.returns-then-end-tag_address c).After-reaching-word-items in
    forbid_done a.run.start (registers_at a.run.base a.run.quantity a.d.now) a.tags.words.now a.tags.listed (i + l.word-index) l.invariant
    (λ h. rw (length-registers a.run.base a.run.quantity a.d.now)
    (rw (c.tag_address.ensures, rest_word a.tags.words.now a.run.start c.reaching-word-items.ensures l.word-index, c.end-end.ensures) at c.if-end-tag_address.true))
