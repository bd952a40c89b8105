-- A request that was not refused: the exceptions 03 and 02, exception 03 of a tag, a hit, joining, issuing, and exception 04, in the documents' order.
-- Assumes nothing.
use Rattle.std.specs.Prelude.{ℕ, ◌+◌, Bool, cond, not, ◌&&◌, ◌||◌, List, [], length, eqb, ltb}
use Rattle.std.proofs.Math.Option.{Option, some, none}
use Rattle.numbers.specs.Numbers.{places, cache_places, device_failure}
use Rattle.laws.specs.Bytes.{over}
use Rattle.wire.specs.Frame.{id_of, unit_of, function_of, laid, exception}
use Rattle.settings.specs.Grammar.{Value}
use Rattle.pdu.specs.Requests.{asked_of}
use Rattle.pdu.specs.Replies.{what}
use Rattle.pdu.specs.declared.What.{What}
use Rattle.pdu.specs.Spoiling.{spoils}
use Rattle.pdu.specs.Reads.{equal_reads}
use Rattle.rewrite.specs.Frames.{forwarded}
use Rattle.rewrite.specs.Legal.{fault_under}
use Rattle.cache.specs.Cache.{Cached, in_cache, hit_place, dropped_by}
use Rattle.book.specs.Book.{Party, Live, at}
use Rattle.book.specs.Book.Move.{join, issue, mark}
use Rattle.book.specs.Desk.{join_place, free_place, free_id}
use Rattle.machine.specs.Machine.{Machine, Note, opened, rules, settings, clocked, moved, caching}
use Rattle.machine.specs.Calls.{Outcome, done}
use Rattle.machine.specs.declared.Answer.TheVariants.{Issued, Joined, Excepted, Hit}

-- what a request asks, and who asks it under which id
abbrev pub wanted : List ℕ → What
wanted f = what (unit_of f) (function_of f) (asked_of f)

abbrev pub party_of : ℕ → List ℕ → Party
party_of c f = record { client = c; original = id_of f }

-- 01 to 04, when joining is on: equal unit, function, start and quantity
unfoldable pub alike : Value → What → What → Bool
alike s w v = eqb s.join 1 && equal_reads w v

-- and it is not closed
unfoldable pub joins : Value → What → What → Note → Bool
joins s w v n = not n.closed && alike s w v

-- what is kept of the request r once w is issued: w closes what it spoils, and what is closed stays so
unfoldable pub closing : What → What → Note → Note
closing w r n = record { closed = n.closed || spoils w r }

-- where a request would join: the smallest proxy id of those that it may join; and the place for an issue, if fewer than 256 are live
abbrev pub joining_place : Machine → List ℕ → ℕ
joining_place m f = join_place rules m.book (joins (settings m) (wanted f))

abbrev pub can_join : Machine → List ℕ → Bool
can_join m f = ltb (joining_place m f) places

-- no place is free; whose request it is does not matter in the base
unfoldable pub exhausted : Machine → ℕ → Bool
exhausted m c = not (ltb (free_place rules m.book) places)

-- an exception for the caller under its own id; it changes only the clock
unfoldable pub excepted : Machine → ℕ → List ℕ → List ℕ → Outcome
excepted m code f o = done (Excepted code) m (over (exception (id_of f) (unit_of f) (function_of f) code) o) []

-- between steps 2 and 3: the place of the cache that the request hits, and whether it hits one
abbrev pub hitting_place : Machine → List ℕ → ℕ
hitting_place m f = hit_place m.book.clock (wanted f) m.cache

abbrev pub hits : Machine → List ℕ → Bool
hits m f = ltb (hitting_place m f) cache_places

-- a hit: the rewritten bytes under the caller's id, with the raw counts of the reply that filled the place; it changes only the clock. The place that was found has a reply, so that the first line
-- is never reached
unfoldable pub hit_on : Machine → List ℕ → List ℕ → Option Cached → Outcome
hit_on m f o none = excepted m device_failure f o
hit_on m f o (some e) = done (Hit (length e.bytes) e.partial e.value) m (over (laid (id_of f) e.bytes) o) []

-- step 3: join; no frame is written; the place that was found has an entry, so that the first line is never reached
unfoldable pub joined_to : Machine → ℕ → ℕ → List ℕ → List ℕ → Option (Live What Note) → Outcome
joined_to m k c f o none = excepted m device_failure f o
joined_to m k c f o (some e) = done (Joined (record { 0 = e.id })) (moved m (join k e (wanted f) (party_of c f))) o []

-- step 4: issue, close the reads that the request spoils, and drop what is cached of such; the frame goes out with the proxy id and its payload rewritten
unfoldable pub issued_to : Machine → ℕ → List ℕ → List ℕ → Outcome
issued_to m c f o =
    let id = free_id rules m.book in
    let sent = forwarded (settings m).tags (asked_of f) f in
    done (Issued (record { 0 = id }) (length f) sent.partial sent.value)
    (caching (moved (moved m (issue (free_place rules m.book) id (wanted f) opened (m.book.clock + (settings m).timeout) (party_of c f))) (mark (closing (wanted f))))
    (dropped_by (wanted f) m.cache))
    (over (laid id sent.bytes) o)
    []

-- a legal request that hits nothing: join, else issue, else exception 04
unfoldable pub missed : Machine → ℕ → List ℕ → List ℕ → Outcome
missed m c f o =
    cond (can_join m f) (joined_to m (joining_place m f) c f o (at m.book (joining_place m f)))
    (cond (exhausted m c) (excepted m device_failure f o)
    (issued_to m c f o))

-- a legal request: a hit, or what it comes to without one
unfoldable pub served : Machine → ℕ → List ℕ → List ℕ → Outcome
served m c f o = cond (hits m f) (hit_on m f o (in_cache m.cache (hitting_place m f))) (missed m c f o)

-- after the refusals: the clock is set, then exception 03, exception 02, exception 03 where a tag forbids it, and what a legal request comes to
unfoldable pub admitted : Machine → ℕ → ℕ → List ℕ → List ℕ → Outcome
admitted m c t f o =
    cond (eqb (fault_under (settings m).tags f) 0) (served (clocked m t) c f o)
    (excepted (clocked m t) (fault_under (settings m).tags f) f o)
