-- `pdus::driving::tag_words` meets its contract: the four words are those of tags that ascend.
use mathlib.Core.Path.{refl}
use native.Mathlib.Omega.{arith}
use Rattle.pdus.proofs.DriverLaws.{four_tags}
use Rattle.pdus.proofs.driving.tag_words.Goals as goal

pub returns : goal.returns
returns c = record { places = refl; few = omega arith; ascending = four_tags (rw c.new.ensures at c.tag_word.ensures) (rw c.new-2.ensures at c.tag_word-2.ensures) (rw c.new-3.ensures at c.tag_word-3.ensures) (rw c.new-4.ensures at c.tag_word-4.ensures) }
