-- What comes of calls on a stream: of any calls whatever; of pieces, each offered again from where it was taken until no frame comes of it; and of the uncut run.
-- Assumes nothing.
use Rattle.std.specs.Prelude.{ℕ, zero, suc, Bool, true, false, cond, length, take, drop, eqb}
use mathlib.Core.List.{List, [], ◌∷◌, ◌++◌, flatten}
use Rattle.numbers.specs.Numbers.{uncounted}
use Rattle.wire.specs.Splitting.{standing_of, frames}
use Rattle.wire.specs.Splitting.{Standing}
use Rattle.wire.specs.Splitting.Standing.{Frame, MoreNeeded, Refused}
use Rattle.stream.specs.Stream.{Stream, stream, fresh, is_frame, TakeOutcome, took}
use Rattle.stream.specs.declared.Taken.{Taken}

-- what has come of the calls since the reset: the frames yielded, the bytes taken, the refusal that the last call said (0: none), the stream
pub record Fed : Type 0 where
  pub frames : List (List ℕ)
  pub bytes : List ℕ
  pub refusal : ℕ
  pub after : Stream

abbrev pub fed : List (List ℕ) → List ℕ → ℕ → Stream → Fed
fed fs b n s = record { frames = fs; bytes = b; refusal = n; after = s }

-- no call yet
abbrev pub start : Fed
start = fed [] [] 0 fresh

-- whether a frame was yielded, so that the rest of the piece is to be offered; and that frame, the first bytes of the buffer
abbrev pub again : Taken → Bool
again a = eqb a.outcome is_frame

abbrev pub yielded : TakeOutcome → List (List ℕ)
yielded d = cond (again d.says) (take d.says.length d.written ∷ []) []

-- one call more, with the piece p
abbrev pub with : Fed → List ℕ → TakeOutcome → Fed
with f p d = fed (f.frames ++ yielded d) (f.bytes ++ take d.says.taken p) d.says.refusal d.after

-- any calls, each with a piece and a buffer
pub record Offer : Type 0 where
  pub piece : List ℕ
  pub buffer : List ℕ

unfoldable pub calls : Fed → List Offer → Fed
calls f [] = f
calls f (x ∷ xs) = calls (with f x.piece (took f.after x.piece x.buffer)) xs

-- the buffer that a host lends to a call, by whatever has come of the calls before
abbrev pub Lends : Type 0
Lends = Fed → List ℕ

-- one piece, offered at most n times: as long as a frame comes, the rest is offered again
unfoldable pub drained : ℕ → Lends → Fed → List ℕ → Fed
drained zero o f p = f
drained (suc n) o f p =
    let d = took f.after p (o f) in
    cond (again d.says) (drained n o (with f p d) (drop d.says.taken p)) (with f p d)

-- pieces one after the other; one of m bytes is offered at most m + 1 times
unfoldable pub pieces : Lends → Fed → List (List ℕ) → Fed
pieces o f [] = f
pieces o f (p ∷ ps) = pieces o (drained (suc (length p)) o f p) ps

-- what is left of a run behind its frames; whether that is a bad header; what a stream keeps of it: of a bad header the first six bytes
abbrev pub remains : List ℕ → List ℕ
remains r = drop (length (flatten (frames (length r) r))) r

unfoldable pub is_bad : Standing → Bool
is_bad Frame = false
is_bad MoreNeeded = false
is_bad Refused = true

abbrev pub is_refused : List ℕ → Bool
is_refused r = is_bad (standing_of (remains r))

abbrev pub kept_of : List ℕ → List ℕ
kept_of r = cond (is_refused r) (take uncounted (remains r)) (remains r)

-- what the uncut run comes to, by splitting alone: its frames, the bytes up to what is kept behind them, refusal 4 for a bad header there, and the stream
unfoldable pub uncut : List ℕ → Fed
uncut r = fed (frames (length r) r) (flatten (frames (length r) r) ++ kept_of r) (cond (is_refused r) 4 0) (stream (kept_of r) (is_refused r))
