-- `payloads::tags::Tags::reaching` meets its contract: the first tag that does not end before start is one of the words, or just behind them.
use Rattle.std.proofs.Common.{◌≤◌, length, arith}
use Rattle.laws.proofs.SearchLaws.{first_le}
use Rattle.rewrite.specs.inner.Lent.{reaches}
use Rattle.payloads.proofs.tags.Tags.reaching.Goals.{After-first_from}
use Rattle.payloads.proofs.tags.Tags.reaching.Goals as goal

within : (c : After-first_from) → c.first_from.result ≤ length c.args.self.now.words.now
within c = let words = c.args.self.now.words.now in omega (arith, c.first_from.ensures, first_le (reaches words c.args.start) (length words))

pub offset_bounds-self-first_from : goal.offset_bounds-self-first_from
offset_bounds-self-first_from c = record { fits = omega (arith, within (goal.at.offset_bounds-self-first_from c).After-first_from, c.args.self.now.listed.few) }

pub slice_bounds-result-count : goal.slice_bounds-result-count
slice_bounds-result-count c = within (goal.at.slice_bounds-result-count c).After-first_from

pub slice_bounds-result-start : goal.slice_bounds-result-start
slice_bounds-result-start c = within (goal.at.slice_bounds-result-start c).After-first_from
