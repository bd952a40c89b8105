-- The whole outcome of every call: the lowest refusal that applies, which changes nothing; else what the document says of the call.
-- Assumes nothing.
use Rattle.std.specs.Prelude.{cond, [], eqb}
use Rattle.laws.specs.Bits.{with, without}
use Rattle.cache.specs.Cache.{emptied}
use Rattle.book.specs.Book.{apply}
use Rattle.book.specs.Book.Move.{strike, wipe}
use Rattle.machine.specs.Machine.{Machine, machine, rules}
use Rattle.machine.specs.Calls.{Call, Outcome, done, out_of, list_of}
use Rattle.machine.specs.Calls.Call.{attach, detach, request, reply, tick, link_lost}
use Rattle.machine.specs.Refusals.{refusal}
use Rattle.machine.specs.Requests.{admitted}
use Rattle.machine.specs.Replies.{answered, ticked}
use Rattle.machine.specs.declared.Answer.TheVariants.{Refused, Done as Finished, Lost}

-- what a call that is not refused does. Detach strikes the client's parties out; link lost removes all entries, detaches everyone and drops all that is cached
unfoldable pub granted : Machine → Call → Outcome
granted m (attach c) = done Finished (machine m.book (with m.attached c) m.cache) [] []
granted m (detach c) = done Finished (machine (apply rules m.book (strike c)) (without m.attached c) m.cache) [] []
granted m (request c t f o) = admitted m c t f o
granted m (reply t f o l) = answered m t f o l
granted m (tick t o l) = ticked m t o l
granted m link_lost = done (Lost m.attached) (machine (apply rules m.book wipe) 0 emptied) [] []

-- a call
unfoldable pub outcome : Machine → Call → Outcome
outcome m x = cond (eqb (refusal m x) 0) (granted m x) (done (Refused (refusal m x)) m (out_of x) (list_of x))
