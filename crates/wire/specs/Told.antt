-- What the code's answer on a run says: what stands at its start, and the frame that it hands back.
-- Assumes nothing.
use Rattle.std.specs.Prelude.{ℕ, List, []}
use Rattle.wire.specs.Splitting.{Standing}
use Rattle.wire.specs.Splitting.Standing.{Frame as frame, MoreNeeded as more_needed, Refused as refused}
use Rattle.wire.specs.declared.splitting.Split.{Split}
use Rattle.wire.specs.declared.splitting.Split.TheVariants.{Frame, MoreNeeded, Refused}

-- which of the three it is
abbrev pub standing_in : Split → Standing
standing_in (Frame f) = frame
standing_in MoreNeeded = more_needed
standing_in Refused = refused

-- the frame's bytes, none where there is no frame
abbrev pub frame_in : Split → List ℕ
frame_in (Frame f) = f.now
frame_in MoreNeeded = []
frame_in Refused = []
