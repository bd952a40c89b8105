-- Document 01's examples P1 to P12: one table, and what the definitions make of an example.
-- Assumes nothing.
use Rattle.std.specs.Prelude.{ℕ, replicate}
use mathlib.Core.List.{List, [], ◌∷◌, flat_map}
use Rattle.laws.specs.Lists.{tab, filter}
use Rattle.laws.specs.Search.{best, first}
use Rattle.laws.specs.Bits.{with}
use Rattle.laws.specs.Bytes.{over}
use Rattle.laws.specs.Digits.{digits, value, below}
use Rattle.wire.specs.Frame.{misframed, exception}
use Rattle.bcd.specs.Bcd.{packed, unpacked, decimal, encoded_digits, decoded_digits, registers, encoded, decoded}
use Rattle.bcd.specs.Words.{words_of, number_of}
use Rattle.settings.specs.Grammar.{Value, Tag}
use Rattle.settings.specs.TagWords.{kind_of}
use Rattle.pdu.specs.Requests.{class_of, bad_function, bad_length, bad_value, bad_address, asked_by, fault_of}
use Rattle.pdu.specs.Replies.{shaped, answering}
use Rattle.pdu.specs.Spoiling.{same_table, meets, spoils}
use Rattle.pdu.specs.Reads.{same_read, equal_reads}
use Rattle.rewrite.specs.Registers.{registers_at, laid_at}
use Rattle.rewrite.specs.Rewriting.{turned, verdict, laid_by, rewritten_from, partials, values, rewriting}
use Rattle.rewrite.specs.Frames.{forwarded, reencoded, returned_by, returned}
use Rattle.rewrite.specs.Legal.{forbids, some_forbids, forbidden, fault_under}
use Rattle.cache.specs.Cache.{kept_from, dropped_by}
use Rattle.book.specs.Book.{live_in}
use Rattle.machine.specs.Machine.{Machine, made}
use Rattle.machine.specs.Calls.{Call, Outcome, out_of, list_of}
use Rattle.machine.specs.Calls.Call.{attach, request, reply, tick}
use Rattle.machine.specs.Refusals.{rows, lowest}
use Rattle.machine.specs.Requests.{alike, joins, closing, exhausted, excepted, hit_on, joined_to, issued_to, missed, served, admitted}
use Rattle.machine.specs.Replies.{answered_to, answered, expired_to, ticked}
use Rattle.machine.specs.Outcomes.{granted, outcome}
use Rattle.machine.specs.declared.Answer.{Answer}
use Rattle.machine.specs.declared.Answer.TheVariants.{Issued, Joined, Answered, TimedOut, NothingDue, Done as Finished}

-- the document's settings: timeout 3000, join 1, a tag of width 16 at 1,024 and one of width 32 at 1,026, both without a sign and a ttl and not strict
abbrev pub tag : ℕ → ℕ → Tag
tag a w = record { address = a; width = w; sign = 0; ttl = 0; strict = 0 }

abbrev pub site : Value
site = record { timeout = 3000; join = 1; tags = tag 1024 16 ∷ tag 1026 32 ∷ [] }

-- buffers filled with 170, in which a byte shows that was to stay
abbrev pub buffer : List ℕ
buffer = replicate 260 170

abbrev pub numbers : List ℕ
numbers = replicate 64 170

-- what the last of some calls says, writes and lists
pub record Given : Type 0 where
  pub says : Answer
  pub frame : List ℕ
  pub list : List ℕ

abbrev pub given : Answer → List ℕ → List ℕ → Given
given a f l = record { says = a; frame = f; list = l }

unfoldable pub played : Machine → Outcome → List Call → Outcome
played m d [] = d
played m d (x ∷ xs) = played (outcome m x).after (outcome m x) xs

-- an example: calls on a fresh state with clients 3 and 5 attached, and what the last of them comes to
pub record Example : Type 0 where
  pub calls : List Call
  pub comes : Given

abbrev pub example : List Call → Answer → List ℕ → List ℕ → Example
example cs a f l = record { calls = cs; comes = given a f l }

abbrev pub ready : Outcome
ready = record { says = Finished; after = made site; written = []; listed = [] }

-- as much of each buffer that the last call lends as the example shows, the rest untouched
unfoldable pub last_of : Call → List Call → Call
last_of y [] = y
last_of y (x ∷ xs) = last_of x xs

abbrev pub whole : Example → Given
whole e =
    let x = last_of (attach 3) e.calls in
    given e.comes.says (over e.comes.frame (out_of x)) (over e.comes.list (list_of x))

-- what it comes to by the definitions, all of which are computed with where this one is
unfoldable pub shown : Example → Given
unfolding played outcome granted rows lowest admitted served missed exhausted excepted hit_on joined_to issued_to same_table meets spoils same_read equal_reads kept_from dropped_by alike joins closing answered answered_to ticked expired_to out_of list_of
    forwarded reencoded returned returned_by rewriting partials values rewritten_from laid_by verdict turned registers_at laid_at filter tab best first with
    digits value below packed unpacked decimal encoded_digits decoded_digits registers encoded decoded words_of number_of kind_of
    class_of bad_function bad_length bad_value bad_address asked_by fault_of forbids some_forbids forbidden fault_under shaped answering misframed exception live_in flat_map
shown e =
    let d = played (made site) ready (attach 3 ∷ attach 5 ∷ e.calls) in
    given d.says d.written d.listed

abbrev pub examples : List Example
examples =
    -- P1: 0x1234 reads 1,234
    example (request 3 0 (18 ∷ 52 ∷ 0 ∷ 0 ∷ 0 ∷ 6 ∷ 1 ∷ 3 ∷ 4 ∷ 0 ∷ 0 ∷ 1 ∷ []) buffer ∷ reply 0 (0 ∷ 0 ∷ 0 ∷ 0 ∷ 0 ∷ 5 ∷ 1 ∷ 3 ∷ 2 ∷ 18 ∷ 52 ∷ []) buffer numbers ∷ []) (Answered (record { 0 = 0 }) 11 1 0 0) (0 ∷ 0 ∷ 0 ∷ 0 ∷ 0 ∷ 5 ∷ 1 ∷ 3 ∷ 2 ∷ 4 ∷ 210 ∷ []) (3 ∷ 4660 ∷ [])
    -- P2: the pair 0x1234, 0x5678 reads 56,781,234: words 0x69B2, 0x0362
    ∷ example (request 3 0 (18 ∷ 52 ∷ 0 ∷ 0 ∷ 0 ∷ 6 ∷ 1 ∷ 3 ∷ 4 ∷ 2 ∷ 0 ∷ 2 ∷ []) buffer ∷ reply 0 (0 ∷ 0 ∷ 0 ∷ 0 ∷ 0 ∷ 7 ∷ 1 ∷ 3 ∷ 4 ∷ 18 ∷ 52 ∷ 86 ∷ 120 ∷ []) buffer numbers ∷ []) (Answered (record { 0 = 0 }) 13 1 0 0) (0 ∷ 0 ∷ 0 ∷ 0 ∷ 0 ∷ 7 ∷ 1 ∷ 3 ∷ 4 ∷ 105 ∷ 178 ∷ 3 ∷ 98 ∷ []) (3 ∷ 4660 ∷ [])
    -- P3: writing 12,345,678 (0x614E, 0x00BC) sends 0x5678, 0x1234
    ∷ example (request 3 0 (0 ∷ 1 ∷ 0 ∷ 0 ∷ 0 ∷ 11 ∷ 1 ∷ 16 ∷ 4 ∷ 2 ∷ 0 ∷ 2 ∷ 4 ∷ 97 ∷ 78 ∷ 0 ∷ 188 ∷ []) buffer ∷ []) (Issued (record { 0 = 0 }) 17 0 0) (0 ∷ 0 ∷ 0 ∷ 0 ∷ 0 ∷ 11 ∷ 1 ∷ 16 ∷ 4 ∷ 2 ∷ 0 ∷ 2 ∷ 4 ∷ 86 ∷ 120 ∷ 18 ∷ 52 ∷ []) ([])
    -- P4: 9,999 sends 0x9999
    ∷ example (request 3 0 (0 ∷ 1 ∷ 0 ∷ 0 ∷ 0 ∷ 6 ∷ 1 ∷ 6 ∷ 4 ∷ 0 ∷ 39 ∷ 15 ∷ []) buffer ∷ []) (Issued (record { 0 = 0 }) 12 0 0) (0 ∷ 0 ∷ 0 ∷ 0 ∷ 0 ∷ 6 ∷ 1 ∷ 6 ∷ 4 ∷ 0 ∷ 153 ∷ 153 ∷ []) ([])
    -- P5: 10,000 goes raw, 0x2710
    ∷ example (request 3 0 (0 ∷ 1 ∷ 0 ∷ 0 ∷ 0 ∷ 6 ∷ 1 ∷ 6 ∷ 4 ∷ 0 ∷ 39 ∷ 16 ∷ []) buffer ∷ []) (Issued (record { 0 = 0 }) 12 0 1) (0 ∷ 0 ∷ 0 ∷ 0 ∷ 0 ∷ 6 ∷ 1 ∷ 6 ∷ 4 ∷ 0 ∷ 39 ∷ 16 ∷ []) ([])
    -- P6: 0x00AB reads raw
    ∷ example (request 3 0 (18 ∷ 52 ∷ 0 ∷ 0 ∷ 0 ∷ 6 ∷ 1 ∷ 3 ∷ 4 ∷ 0 ∷ 0 ∷ 1 ∷ []) buffer ∷ reply 0 (0 ∷ 0 ∷ 0 ∷ 0 ∷ 0 ∷ 5 ∷ 1 ∷ 3 ∷ 2 ∷ 0 ∷ 171 ∷ []) buffer numbers ∷ []) (Answered (record { 0 = 0 }) 11 1 0 1) (0 ∷ 0 ∷ 0 ∷ 0 ∷ 0 ∷ 5 ∷ 1 ∷ 3 ∷ 2 ∷ 0 ∷ 171 ∷ []) (3 ∷ 4660 ∷ [])
    -- P7: 99,999,999 sends 0x9999 twice
    ∷ example (request 3 0 (0 ∷ 1 ∷ 0 ∷ 0 ∷ 0 ∷ 11 ∷ 1 ∷ 16 ∷ 4 ∷ 2 ∷ 0 ∷ 2 ∷ 4 ∷ 224 ∷ 255 ∷ 5 ∷ 245 ∷ []) buffer ∷ []) (Issued (record { 0 = 0 }) 17 0 0) (0 ∷ 0 ∷ 0 ∷ 0 ∷ 0 ∷ 11 ∷ 1 ∷ 16 ∷ 4 ∷ 2 ∷ 0 ∷ 2 ∷ 4 ∷ 153 ∷ 153 ∷ 153 ∷ 153 ∷ []) ([])
    -- P8: 100,000,000 raw
    ∷ example (request 3 0 (0 ∷ 1 ∷ 0 ∷ 0 ∷ 0 ∷ 11 ∷ 1 ∷ 16 ∷ 4 ∷ 2 ∷ 0 ∷ 2 ∷ 4 ∷ 225 ∷ 0 ∷ 5 ∷ 245 ∷ []) buffer ∷ []) (Issued (record { 0 = 0 }) 17 0 1) (0 ∷ 0 ∷ 0 ∷ 0 ∷ 0 ∷ 11 ∷ 1 ∷ 16 ∷ 4 ∷ 2 ∷ 0 ∷ 2 ∷ 4 ∷ 225 ∷ 0 ∷ 5 ∷ 245 ∷ []) ([])
    -- P9: client 3's read goes out under proxy id 0
    ∷ example (request 3 0 (18 ∷ 52 ∷ 0 ∷ 0 ∷ 0 ∷ 6 ∷ 1 ∷ 3 ∷ 4 ∷ 0 ∷ 0 ∷ 1 ∷ []) buffer ∷ []) (Issued (record { 0 = 0 }) 12 0 0) (0 ∷ 0 ∷ 0 ∷ 0 ∷ 0 ∷ 6 ∷ 1 ∷ 3 ∷ 4 ∷ 0 ∷ 0 ∷ 1 ∷ []) ([])
    -- P10: client 5, id 0007, the same read: joins
    ∷ example (request 3 0 (18 ∷ 52 ∷ 0 ∷ 0 ∷ 0 ∷ 6 ∷ 1 ∷ 3 ∷ 4 ∷ 0 ∷ 0 ∷ 1 ∷ []) buffer ∷ request 5 0 (0 ∷ 7 ∷ 0 ∷ 0 ∷ 0 ∷ 6 ∷ 1 ∷ 3 ∷ 4 ∷ 0 ∷ 0 ∷ 1 ∷ []) buffer ∷ []) (Joined (record { 0 = 0 })) ([]) ([])
    -- P11: the reply: payload 04 D2, list 3, 0x1234, 5, 7
    ∷ example (request 3 0 (18 ∷ 52 ∷ 0 ∷ 0 ∷ 0 ∷ 6 ∷ 1 ∷ 3 ∷ 4 ∷ 0 ∷ 0 ∷ 1 ∷ []) buffer ∷ request 5 0 (0 ∷ 7 ∷ 0 ∷ 0 ∷ 0 ∷ 6 ∷ 1 ∷ 3 ∷ 4 ∷ 0 ∷ 0 ∷ 1 ∷ []) buffer ∷ reply 0 (0 ∷ 0 ∷ 0 ∷ 0 ∷ 0 ∷ 5 ∷ 1 ∷ 3 ∷ 2 ∷ 18 ∷ 52 ∷ []) buffer numbers ∷ []) (Answered (record { 0 = 0 }) 11 2 0 0) (0 ∷ 0 ∷ 0 ∷ 0 ∷ 0 ∷ 5 ∷ 1 ∷ 3 ∷ 2 ∷ 4 ∷ 210 ∷ []) (3 ∷ 4660 ∷ 5 ∷ 7 ∷ [])
    -- P12: instead of it, a tick at 3,000: the same list
    ∷ example (request 3 0 (18 ∷ 52 ∷ 0 ∷ 0 ∷ 0 ∷ 6 ∷ 1 ∷ 3 ∷ 4 ∷ 0 ∷ 0 ∷ 1 ∷ []) buffer ∷ request 5 0 (0 ∷ 7 ∷ 0 ∷ 0 ∷ 0 ∷ 6 ∷ 1 ∷ 3 ∷ 4 ∷ 0 ∷ 0 ∷ 1 ∷ []) buffer ∷ tick 3000 buffer numbers ∷ []) (TimedOut (record { 0 = 0 }) 2) (0 ∷ 0 ∷ 0 ∷ 0 ∷ 0 ∷ 3 ∷ 1 ∷ 131 ∷ 11 ∷ []) (3 ∷ 4660 ∷ 5 ∷ 7 ∷ [])
    -- P12: at 2,999 nothing due
    ∷ example (request 3 0 (18 ∷ 52 ∷ 0 ∷ 0 ∷ 0 ∷ 6 ∷ 1 ∷ 3 ∷ 4 ∷ 0 ∷ 0 ∷ 1 ∷ []) buffer ∷ request 5 0 (0 ∷ 7 ∷ 0 ∷ 0 ∷ 0 ∷ 6 ∷ 1 ∷ 3 ∷ 4 ∷ 0 ∷ 0 ∷ 1 ∷ []) buffer ∷ tick 2999 buffer numbers ∷ []) (NothingDue) ([]) ([])
    ∷ []
