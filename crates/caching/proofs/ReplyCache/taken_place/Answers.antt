-- `ReplyCache::taken_place` meets its contract: the place with its own word, else the lowest that is empty or expired, else the oldest.
use native.Mathlib.Omega.{arith}
use Rattle.caching.proofs.KeptLaws.{taken_own, taken_spare, taken_oldest}
use Rattle.caching.proofs.ReplyCache.taken_place.Goals as goal

pub returns-in-Some : goal.returns-in-Some
returns-in-Some c shown s = taken_own c.args.self.now.numbers shown s c.args.word c.args.time c.requires.0 c.in-Some.ensures.own c.in-Some.ensures.within

pub returns-in-Some-spare_place : goal.returns-in-Some-spare_place
returns-in-Some-spare_place c shown s =
    taken_spare c.args.self.now.numbers shown s c.args.word c.args.time c.requires.0 c.in_default.ensures.own (omega arith) c.in-Some-spare_place.ensures.spare c.in-Some-spare_place.ensures.within

pub returns : goal.returns
returns c shown s =
    taken_oldest c.args.self.now.numbers shown s c.args.word c.args.time c.requires.0 c.in_default.ensures.own (omega arith) c.in_default-spare_place.ensures.spare (omega arith) c.oldest_place.ensures
