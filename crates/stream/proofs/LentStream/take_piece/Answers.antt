-- `stream::LentStream::take_piece` meets its contract: each return is one of the definition's outcomes.
use Prim.Native.Nat.{◌≤◌}
use mathlib.Core.Path.{◌≡◌, sym}
use native.Mathlib.Omega.{arith}
use lib.ListN.{length}
use Rattle.numbers.specs.Numbers.{most_frame}
use Rattle.wire.specs.Splitting.{standing_of}
use Rattle.wire.specs.Splitting.Standing.{Frame}
use Rattle.stream.proofs.FieldLaws.{short_comes, stuck_comes, most_long, whole_comes}
use Rattle.stream.proofs.LentStream.take_piece.Goals.{In-Frame}
use Rattle.stream.proofs.LentStream.take_piece.Goals as goal

pub returns-then-out-lt-FRAME_BUFFER : goal.returns-then-out-lt-FRAME_BUFFER
returns-then-out-lt-FRAME_BUFFER c =
    let s = c.args.self.now in
    rw c.refused.ensures (short_comes s.bytes s.count s.mark c.args.piece.now c.args.out.now c.requires c.if-out-lt-FRAME_BUFFER.true)

pub returns-then-self-ne0 : goal.returns-then-self-ne0
returns-then-self-ne0 c =
    let s = c.args.self.now in
    rw c.refused-then-self-ne0.ensures (stuck_comes s.bytes s.count s.mark c.args.piece.now c.args.out.now c.requires c.if-out-lt-FRAME_BUFFER.false c.if-self-ne0.true)

-- a frame lies whole in the piece, and nothing is kept
lies : (c : In-Frame) → standing_of c.args.piece.now ≡ Frame
lies c = sym c.in-Frame.ensures.standing

lying-short : (c : In-Frame) → length c.in-Frame.frame.now ≤ most_frame
lying-short c = rw c.in-Frame.ensures.frame (most_long _ (lies c))

pub copy-requires : goal.copy-requires
copy-requires c = let l = lying-short (goal.at.copy-requires c).In-Frame in omega (arith, c.if-out-lt-FRAME_BUFFER.false)

pub overflow_cast-length : goal.overflow_cast-length
overflow_cast-length c = let l = lying-short (goal.at.overflow_cast-length c).In-Frame in record { fits = omega arith }

pub returns-then-self-eq0 : goal.returns-then-self-eq0
returns-then-self-eq0 c =
    let s = c.args.self.now in
    rw (c.framed.ensures, c.copy.ensures, c.in-Frame.ensures.frame)
    (whole_comes s.bytes s.count s.mark c.args.piece.now c.args.out.now c.requires c.if-out-lt-FRAME_BUFFER.false c.if-self-ne0.false c.if-self-eq0.true (lies (goal.at.returns-then-self-eq0 c).In-Frame))
