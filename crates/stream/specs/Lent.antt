-- The stream that lent fields are, what every stream has that these calls made, and what the calls on lent fields come to.
-- Assumes nothing.
use Rattle.std.specs.Prelude.{ℕ, ◌≤◌, ◌<◌, ◌≡◌, Bool, true, false, not, List, ◌++◌, length, take, eqb}
use Rattle.numbers.specs.Numbers.{uncounted, most_frame}
use Rattle.wire.specs.Splitting.{standing_of}
use Rattle.wire.specs.Splitting.{Standing}
use Rattle.wire.specs.Splitting.Standing.{MoreNeeded, Refused}
use Rattle.stream.specs.Stream.{Stream, stream, fresh, is_done, taking, take_outcome, took}
use Rattle.stream.specs.declared.Taken.{Taken}
use Rattle.stream.specs.declared.LentStream.{LentStream}

abbrev pub lent_stream : (bytes : List ℕ) (count mark : ℕ) → LentStream
lent_stream b n k = record { bytes = b; count = n; mark = k }

-- the stream that a lent one is: the first `count` of its bytes, and whether its mark is set
abbrev pub stream_of : LentStream → Stream
stream_of i = stream (take i.count i.bytes) (not (eqb i.mark 0))

-- what stands first in the bytes that a stream keeps: more are needed, or, where the mark is set, a bad header
abbrev pub stood : Bool → Standing
stood true = Refused
stood false = MoreNeeded

-- every lent stream that these calls made: at most 259 bytes are kept, of a frame that needs more, or the six of a bad header
pub record MadeStream (i : LentStream) : Type 0 where
  pub long : length i.bytes ≡ most_frame
  pub most : i.count < most_frame
  pub stands : standing_of (stream_of i).kept ≡ stood (stream_of i).marked
  pub six : (stream_of i).marked ≡ true → i.count ≡ uncounted

-- a piece: the answer, the stream afterwards and every byte of the buffer; a refusal that took nothing leaves every field, so that only the one that sets the mark does not
pub record Takes (i : LentStream) (piece out : List ℕ) (r : Taken) (i' : LentStream) (out' : List ℕ) : Type 0 where
  pub comes : take_outcome r (stream_of i') out' ≡ took (stream_of i) piece out
  pub made : MadeStream i'
  pub left : (r.refusal ≡ 0 → ⊥) → r.taken ≡ 0 → i' ≡ i

-- a new connection
pub record Resets (r : Taken) (i : LentStream) : Type 0 where
  pub says : r ≡ taking 0 is_done 0 0
  pub after : stream_of i ≡ fresh
  pub made : MadeStream i

-- a piece written behind the bytes kept, as far as there is room
pub record Filled (bytes : List ℕ) (from : ℕ) (piece : List ℕ) (end : ℕ) (bytes' : List ℕ) : Type 0 where
  pub run : take end bytes' ≡ take most_frame (take from bytes ++ piece)
  pub long : length bytes' ≡ most_frame
  pub fits : end ≤ most_frame
  pub behind : from ≤ end
