-- A reply that answers, and a tick: the entry is removed, the frame is written once, the list holds its parties in joining order.
-- Assumes nothing.
use Rattle.std.specs.Prelude.{ℕ, Bool, cond, not, ◌&&◌, length}
use Rattle.std.proofs.Math.Option.{Option, some, none}
use mathlib.Core.List.{List, [], ◌∷◌, flat_map}
use Rattle.numbers.specs.Numbers.{no_response}
use Rattle.laws.specs.Bytes.{over}
use Rattle.wire.specs.Frame.{id_of, laid, exception}
use Rattle.settings.specs.Grammar.{Tag}
use Rattle.pdu.specs.Replies.{excepts}
use Rattle.pdu.specs.declared.What.{What}
use Rattle.rewrite.specs.Frames.{returned}
use Rattle.cache.specs.Cache.{Cached, Cache, filled_with}
use Rattle.cache.specs.Life.{cacheable, life_of}
use Rattle.book.specs.Book.{Party, Live, at}
use Rattle.book.specs.Book.Move.{reply, expire}
use Rattle.book.specs.Desk.{id_place, due_place}
use Rattle.machine.specs.Machine.{Machine, Note, rules, settings, clocked, moved, caching}
use Rattle.machine.specs.Calls.{Outcome, done}
use Rattle.machine.specs.declared.Answer.TheVariants.{Refused, Answered, TimedOut, NothingDue}

-- the fan-out list: pairs of client and original id
abbrev pub pairs : List Party → List ℕ
pairs ps = flat_map (λ (p : Party). p.client ∷ p.original ∷ []) ps

-- #107: a non-exception reply to a cacheable read that was not closed fills the cache
unfoldable pub fills : List Tag → Live What Note → List ℕ → Bool
fills tags e f = not (excepts e.what.function f) && (not e.note.closed && cacheable tags e.what)

-- what is kept of it: the read that it answered, its time, the read's life, both raw counts, and the rewritten frame with id bytes 00 00
unfoldable pub cached_of : Machine → Live What Note → List ℕ → Cached
cached_of m e f =
    let back = returned (settings m).tags e.what f in
    record { what = e.what; filled = m.book.clock; life = life_of (settings m).tags e.what; partial = back.partial; value = back.value; bytes = laid 0 back.bytes }

unfoldable pub cache_after : Machine → Live What Note → List ℕ → Cache
cache_after m e f = cond (fills (settings m).tags e f) (filled_with (cached_of m e f) m.cache) m.cache

-- the rewritten frame with id bytes 00 00; a reply that is not refused finds its entry, so that the first line is never reached
unfoldable pub answered_to : Machine → ℕ → List ℕ → List ℕ → List ℕ → Option (Live What Note) → Outcome
answered_to m k f o l none = done (Refused 7) m o l
answered_to m k f o l (some e) =
    let back = returned (settings m).tags e.what f in
    done (Answered (record { 0 = e.id }) (length f) (length e.parties) back.partial back.value) (caching (moved m (reply k e)) (cache_after m e f)) (over (laid 0 back.bytes) o)
    (over (pairs e.parties) l)

unfoldable pub answered : Machine → ℕ → List ℕ → List ℕ → List ℕ → Outcome
answered m t f o l = answered_to (clocked m t) (id_place rules m.book (id_of f)) f o l (at m.book (id_place rules m.book (id_of f)))

-- the earliest due entry, ties to the smallest id: exception 0B for its parties; or nothing due
unfoldable pub expired_to : Machine → ℕ → List ℕ → List ℕ → Option (Live What Note) → Outcome
expired_to m k o l none = done NothingDue m o l
expired_to m k o l (some e) =
    done (TimedOut (record { 0 = e.id }) (length e.parties)) (moved m (expire k e)) (over (exception 0 e.what.unit e.what.function no_response) o)
    (over (pairs e.parties) l)

unfoldable pub ticked : Machine → ℕ → List ℕ → List ℕ → Outcome
ticked m t o l =
    let n = clocked m t in
    expired_to n (due_place rules n.book) o l (at n.book (due_place rules n.book))
