-- A stream in plain words: what stands in it after any calls, and the one refusal that changes it.
-- Assumes nothing.
use Rattle.std.specs.Prelude.{ℕ, ◌-◌, ◌<◌, ◌≡◌, true, false, length, take}
use mathlib.Core.List.{◌++◌, flatten, List}
use Rattle.numbers.specs.Numbers.{uncounted}
use Rattle.wire.specs.Splitting.{standing_of, bad_header}
use Rattle.wire.specs.Plain.{Whole}
use Rattle.stream.specs.Stream.{Stream, refused, TakeOutcome}
use Rattle.stream.specs.Hosts.{Fed}
use Rattle.stream.specs.Lent.{stood}

-- the bytes taken are whole frames with what is kept behind them: the start of a frame that needs more, or, where the mark is set, a bad header up to its sixth byte
pub record Reads (f : Fed) : Type 0 where
  pub whole : Whole f.frames
  pub parts : flatten f.frames ++ f.after.kept ≡ f.bytes
  pub stands : standing_of f.after.kept ≡ stood f.after.marked
  pub six : f.after.marked ≡ true → length f.after.kept ≡ uncounted

-- the refusal that changes a stream: 4, in the call that brings the sixth byte of a bad header; the bytes up to that one are taken and kept, and the mark is set
pub record SetsTheMark (s : Stream) (p : List ℕ) (d : TakeOutcome) : Type 0 where
  pub four : d.says ≡ refused 4 (6 - length s.kept)
  pub brought : 0 < d.says.taken
  pub unmarked : s.marked ≡ false
  pub marked : d.after.marked ≡ true
  pub kept : d.after.kept ≡ s.kept ++ take d.says.taken p
  pub six : length d.after.kept ≡ 6
  pub bad : bad_header d.after.kept ≡ true
