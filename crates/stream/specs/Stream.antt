-- A stream of received bytes: what it keeps of an unfinished frame, its mark, and what a call makes of a piece.
-- Assumes nothing.
use Rattle.std.specs.Prelude.{ℕ, ◌-◌, Bool, true, false, cond, List, [], ◌++◌, length, take, ltb}
use Rattle.numbers.specs.Numbers.{uncounted, frame_buffer}
use Rattle.laws.specs.Bytes.{over}
use Rattle.wire.specs.Splitting.{standing_of, first_frame}
use Rattle.wire.specs.Splitting.{Standing}
use Rattle.wire.specs.Splitting.Standing.{Frame, MoreNeeded, Refused}
use Rattle.stream.specs.declared.Taken.{Taken}

-- the bytes of an unfinished frame, and the mark that refusal 4 sets
pub record Stream : Type 0 where
  pub kept : List ℕ
  pub marked : Bool

abbrev pub stream : List ℕ → Bool → Stream
stream k m = record { kept = k; marked = m }

-- a stream for a new connection
abbrev pub fresh : Stream
fresh = stream [] false

-- ZB_DONE, ZB_FRAME, ZB_MORE
abbrev pub is_done : ℕ
is_done = 1

abbrev pub is_frame : ℕ
is_frame = 8

abbrev pub is_more : ℕ
is_more = 9

-- what a call answers, in the C host's numbers
abbrev pub taking : (refusal outcome length taken : ℕ) → Taken
taking r o n t = record { refusal = r; outcome = o; length = n; taken = t }

-- refusal n; a frame of n bytes; more bytes are needed: each with how many bytes of the piece were taken
abbrev pub refused : (n taken : ℕ) → Taken
refused n t = taking n 0 0 t

abbrev pub framed : (n taken : ℕ) → Taken
framed n t = taking 0 is_frame n t

abbrev pub wanting : (taken : ℕ) → Taken
wanting t = taking 0 is_more 0 t

-- the whole outcome of a call: the answer, the stream afterwards, every byte of the lent buffer
pub record TakeOutcome : Type 0 where
  pub says : Taken
  pub after : Stream
  pub written : List ℕ

abbrev pub take_outcome : Taken → Stream → List ℕ → TakeOutcome
take_outcome a s w = record { says = a; after = s; written = w }

-- by what stands first in the bytes kept with the piece behind them: a frame is written and nothing of it is kept; where more bytes are needed the whole piece is kept;
-- a bad header is refusal 4 at its sixth byte: the bytes up to that are taken, and the mark is set
unfoldable pub found : (kept piece out : List ℕ) → Standing → TakeOutcome
found k p o Frame = let f = first_frame (k ++ p) in take_outcome (framed (length f) (length f - length k)) fresh (over f o)
found k p o MoreNeeded = take_outcome (wanting (length p)) (stream (k ++ p) false) o
found k p o Refused = take_outcome (refused 4 (uncounted - length k)) (stream (take uncounted (k ++ p)) true) o

-- a call: refusal 1 for a short buffer before all else, refusal 4 while the mark is set, and both leave the stream; else what was found
unfoldable pub took : Stream → (piece out : List ℕ) → TakeOutcome
took s p o =
    cond (ltb (length o) frame_buffer) (take_outcome (refused 1 0) s o)
    (cond s.marked (take_outcome (refused 4 0) s o)
    (found s.kept p o (standing_of (s.kept ++ p))))
