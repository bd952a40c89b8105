-- `values::tagwords::fill_words` meets its contract: the words of the tags stand in their places, the first with the mark where one is strict, and 0 in the places behind.
use native.Mathlib.Omega.{arith}
use Rattle.settings.specs.Values.{value_of}
use Rattle.settings.proofs.MarkLaws.{worded_none, worded_more, worded_room, worded_all, worded_marked}
use Rattle.values.proofs.tagwords.fill_words.Goals as goal

pub loop-k-init : goal.loop-k-init
loop-k-init c = worded_none _ c.requires.tags_le_most_tags

pub loop-k-preserved : goal.loop-k-preserved
loop-k-preserved c = worded_more (omega arith) c.loop-k.invariant c.tag-tag.ensures c.tag_word.ensures

pub overflow_add-words : goal.overflow_add-words
overflow_add-words c = omega (arith, worded_room c.requires.by_index c.loop-k.invariant)

pub returns-then-marked : goal.returns-then-marked
unfolding value_of
returns-then-marked c = worded_marked (omega arith) c.loop-k.invariant c.if-marked.true

pub returns-else-marked : goal.returns-else-marked
unfolding value_of
returns-else-marked c = worded_all (omega arith) c.loop-k.invariant c.if-marked.false
