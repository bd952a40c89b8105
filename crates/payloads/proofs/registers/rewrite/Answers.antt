-- `payloads::registers::rewrite` meets its contract. The loop's invariant: the buffer and the counts are those of the tags so far.
use Prim.Native.Nat.{ℕ, ◌+◌, ◌≤◌}
use mathlib.Core.Path.{◌≡◌, refl, ◌∙◌}
use mathlib.Core.List.{List}
use native.Mathlib.Nat.{add-zero}
use native.Mathlib.Omega.{arith}
use lib.ListN.{length}
use Rattle.laws.specs.Search.{first}
use Rattle.rewrite.specs.declared.Rawness.{Rawness}
use Rattle.rewrite.specs.declared.Rawness.TheVariants.{NotRaw, Partial, Value}
use Rattle.rewrite.specs.Rewriting.{Rewritten, with_counts, rewriting}
use Rattle.rewrite.specs.inner.Lent.{tags_of, reaches}
use Rattle.payloads.specs.inner.TagSteps.{counted}
use Rattle.rewrite.proofs.TableLaws.{KnownTable, rest_word, rest-length, table-start, table_more, table_done, table_few}
use Rattle.payloads.proofs.registers.rewrite.Goals as goal
use Rattle.payloads.proofs.registers.rewrite.Goals.{After-reaching-word-items, After-one_tag, in-NotRaw, in-Partial, in-Value}

-- what a tag came to, count by count
told : (rawness : Rawness) {d : List ℕ} {r : Rewritten} → counted rawness d ≡ r → (let s = counted rawness d in with_counts s.partial s.value d ≡ r)
told NotRaw e = e
told Partial e = e
told Value e = e

known : (c : After-reaching-word-items) → (let a = c.args in KnownTable a.run.base a.run.quantity a.tags.words.now a.d.now)
known c = record { tags = c.args.tags.listed; room = c.requires.room; bytes = λ i. (c.type_inv.d i).fits }

-- the place of the first tag that reaches the run
abbrev from : After-reaching-word-items → ℕ
from c = let a = c.args in first (reaches a.tags.words.now a.run.start) (length a.tags.words.now)

pub loop-word-init : goal.loop-word-init
loop-word-init c =
    let a = c.args in
    (refl, rw (add-zero (from c), c.default-raw.ensures.0, c.default-raw.ensures.1) (table-start a.way a.run.start (known c) _ refl))

-- one tag more, which adds this to the counts
more : (c : After-one_tag) (s : After-reaching-word-items) (rawness : Rawness) → (let a = c.args in KnownTable a.run.base a.run.quantity a.tags.words.now a.d.now) → c.one_tag.result ≡ rawness
    → (let l = c.loop-word in let a = c.args in let words = a.tags.words.now in let r = counted rawness c.one_tag.new.d in
    with_counts (l.raw.partial + r.partial) (l.raw.value + r.value) c.one_tag.new.d
    ≡ rewriting a.way a.run.base a.run.start a.run.quantity (tags_of (first (reaches words a.run.start) (length words) + l.word-index + 1) words) a.d.now)
more c s rawness k e =
    let a = c.args in
    let l = c.loop-word in
    let rest = c.reaching-word-items.ensures in
    let words = a.tags.words.now in
    table_more a.way a.run.start k (first (reaches words a.run.start) (length words) + l.word-index) l.raw.partial l.raw.value l.d l.invariant.1 _ _ _
    (omega (arith, rest-length words a.run.start rest, c.loop-word-test.true))
    (told rawness (rw (rest_word words a.run.start rest l.word-index, e) at c.one_tag.ensures))

few : (c : After-one_tag) (s : After-reaching-word-items) (rawness : Rawness) → (let a = c.args in KnownTable a.run.base a.run.quantity a.tags.words.now a.d.now) → c.one_tag.result ≡ rawness
    → (let l = c.loop-word in let r = counted rawness c.one_tag.new.d in l.raw.partial + r.partial + (l.raw.value + r.value) ≤ 256)
few c s rawness k e =
    let a = c.args in
    let l = c.loop-word in
    let words = a.tags.words.now in
    let last = rest-length words a.run.start c.reaching-word-items.ensures in
    omega (arith, table_few a.way a.run.start k (first (reaches words a.run.start) (length words) + l.word-index + 1) _ _ _ (more c s rawness k e) (omega (arith, last, c.loop-word-test.true)), last, c.loop-word-test.true, a.tags.listed.few)

pub overflow_add-raw : goal.overflow_add-raw
overflow_add-raw c =
    let at = goal.at.overflow_add-raw c in
    record { fits = omega (arith, few at.After-one_tag at.After-reaching-word-items Partial (known at.After-reaching-word-items) c.in-Partial.is) }

pub overflow_add-raw-in-Value : goal.overflow_add-raw-in-Value
overflow_add-raw-in-Value c =
    let at = goal.at.overflow_add-raw-in-Value c in
    record { fits = omega (arith, few at.After-one_tag at.After-reaching-word-items Value (known at.After-reaching-word-items) c.in-Value.is) }

pub loop-word-preserved : goal.loop-word-preserved
loop-word-preserved c =
    let at = goal.at.loop-word-preserved c in
    let k = known at.After-reaching-word-items in
    let one = more at.After-one_tag at.After-reaching-word-items in
    let l = c.loop-word in
    let i = from at.After-reaching-word-items in
    let p : l.raw.partial + 0 ≡ l.raw.partial = add-zero l.raw.partial in
    let v : l.raw.value + 0 ≡ l.raw.value = add-zero l.raw.value in
    let n : i + (l.word-index + 1) ≡ i + l.word-index + 1 = omega arith in (
      c.one_tag.auto.d ∙ l.invariant.0,
      elim c.match-one_tag.branch [
        | in-NotRaw w ↦ rw (n, w.raw-is) (rw (p, v) at (one NotRaw k w.in-NotRaw.is))
        | in-Partial w ↦ rw (n, w.raw-is) (rw v at (one Partial k w.in-Partial.is))
        | in-Value w ↦ rw (n, w.raw-is) (rw p at (one Value k w.in-Value.is))
      ],
    )

pub returns-after-loop-word : goal.returns-after-loop-word
returns-after-loop-word c =
    let a = c.args in
    let l = c.loop-word in
    let s = (goal.at.returns-after-loop-word c).After-reaching-word-items in
    let last = rest-length a.tags.words.now a.run.start c.reaching-word-items.ensures in
    table_done a.way a.run.start (known s) (from s + l.word-index) l.raw.partial l.raw.value l.d l.invariant.1 (omega (arith, last)) (λ h. absurd (omega (arith, last)))

pub returns-then-end-tag_address : goal.returns-then-end-tag_address
returns-then-end-tag_address c =
    let a = c.args in
    let l = c.loop-word in
    let s = (goal.at.returns-then-end-tag_address c).After-reaching-word-items in
    let rest = c.reaching-word-items.ensures in
    table_done a.way a.run.start (known s) (from s + l.word-index) l.raw.partial l.raw.value l.d l.invariant.1 (omega (arith, rest-length a.tags.words.now a.run.start rest, c.loop-word-test.true))
    (λ h. rw (c.tag_address.ensures, rest_word a.tags.words.now a.run.start rest l.word-index, c.end-end.ensures) at c.if-end-tag_address.true)
