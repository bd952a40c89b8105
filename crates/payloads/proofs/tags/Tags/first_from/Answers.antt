-- `payloads::tags::Tags::first_from` meets its contract: there is no tag, the first tag reaches start, the last does not, or the search by halves tells.
use Rattle.std.proofs.Common.{◌-◌, length, get_or, ltb, arith, rules}
use Rattle.std.proofs.lemmas.List.Sorted.{IsPartitionPoint-from_clause}
use borrow.Author.Tests.{le-leb}
use Rattle.laws.proofs.SearchLaws.{first_is}
use Rattle.settings.specs.TagWords.{tag_of, last_of}
use Rattle.rewrite.specs.inner.Lent.{reaches}
use Rattle.rewrite.proofs.OrderLaws.{first_last}
use Rattle.rewrite.proofs.TableLaws.{search_low, parted, first_parted}
use Rattle.payloads.proofs.tags.Tags.first_from.Goals as goal

pub returns-in_default : goal.returns-in_default
returns-in_default c =
    let words = c.args.self.now.words.now in
    first_is (reaches words c.args.start) (length words) _ (omega arith) (λ k h. absurd (omega arith)) (λ h. absurd (omega arith))

pub returns-then-start-tag_address : goal.returns-then-start-tag_address
returns-then-start-tag_address c =
    let words = c.args.self.now.words.now in
    first_is (reaches words c.args.start) (length words) _ (omega arith) (λ k h. absurd (omega arith)) (λ h. le-leb c.args.start (last_of (tag_of (get_or words 0 0))) (omega (arith, c.if-start-tag_address.true, c.tag_address.ensures, first_last (tag_of (get_or words 0 0)))))

pub returns-then-last_of-start : goal.returns-then-last_of-start
returns-then-last_of-start c =
    let words = c.args.self.now.words.now in
    first_is (reaches words c.args.start) (length words) _ (omega arith)
    (λ k h. search_low words c.args.self.now.listed c.args.start (length words - 1) (omega arith) (rw c.last_of.ensures at c.if-last_of-start.true) k (omega arith))
    (λ h. absurd (omega arith))

pub returns : goal.returns
returns c =
    let words = c.args.self.now.words.now in
    first_parted words c.args.self.now.listed c.args.start _ c.partition_point.ensures.bound
    (IsPartitionPoint-from_clause (λ word. ltb (last_of (tag_of word)) c.args.start) words _ c.partition_point.ensures.partitioned (parted words c.args.self.now.listed c.args.start) (λ a r q k. search rules))
