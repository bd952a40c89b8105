-- `stream::LentStream::take_behind` meets its contract: each return is one of the definition's outcomes.
use Prim.Native.Nat.{◌≤◌}
use mathlib.Core.Path.{sym}
use native.Mathlib.Omega.{arith}
use lib.ListN.{length}
use Rattle.numbers.specs.Numbers.{most_frame, frame_buffer}
use Rattle.stream.proofs.FieldLaws.{Ready, frame-long, frame_comes, more_comes, bad_new, bad_comes}
use Rattle.stream.proofs.LentStream.take_behind.Goals.{After-fill-end, In-Frame}
use Rattle.stream.proofs.LentStream.take_behind.Goals as goal

ready : (c : After-fill-end)
    → (Ready c.args.self.now.bytes c.args.self.now.count c.args.self.now.mark c.args.piece.now c.args.out.now c.fill-end.result c.fill-end.new.bytes)
ready c = record { made = c.requires.0; long = c.requires.1; none = c.requires.2; filled = c.fill-end.ensures }

frame-known : (c : In-Frame) → (c.args.self.now.count ≤ length c.in-Frame.frame.now) × (length c.in-Frame.frame.now ≤ most_frame) × (frame_buffer ≤ length c.args.out.now)
frame-known c =
    let h : Ready c.args.self.now.bytes c.args.self.now.count c.args.self.now.mark c.args.piece.now c.args.out.now c.fill-end.result c.fill-end.new.bytes = record { made = c.requires.0; long = c.requires.1; none = c.requires.2; filled = c.fill-end.ensures } in
    let l = frame-long h (sym c.in-Frame.ensures.standing) in
    (rw c.in-Frame.ensures.frame l.0, rw c.in-Frame.ensures.frame l.1, h.long)

pub copy-requires : goal.copy-requires
copy-requires c = let l = frame-known (goal.at.copy-requires c).In-Frame in omega arith

pub overflow_cast-length : goal.overflow_cast-length
overflow_cast-length c = let l = frame-known (goal.at.overflow_cast-length c).In-Frame in record { fits = omega arith }

pub overflow_sub-length : goal.overflow_sub-length
overflow_sub-length c = (frame-known (goal.at.overflow_sub-length c).In-Frame).0

pub overflow_sub-header : goal.overflow_sub-header
overflow_sub-header c = omega (arith, bad_new (ready (goal.at.overflow_sub-header c).After-fill-end) (sym c.in-Refused.ensures.standing))

pub returns-in-Frame : goal.returns-in-Frame
returns-in-Frame c =
    rw (c.framed.ensures, c.copy.ensures, c.in-Frame.ensures.frame) (frame_comes (ready (goal.at.returns-in-Frame c).After-fill-end) (sym c.in-Frame.ensures.standing))

pub returns-in-MoreNeeded : goal.returns-in-MoreNeeded
returns-in-MoreNeeded c =
    rw c.wanting.ensures (more_comes (ready (goal.at.returns-in-MoreNeeded c).After-fill-end) (sym c.in-MoreNeeded.ensures.standing))

pub returns-in-Refused : goal.returns-in-Refused
returns-in-Refused c =
    rw c.refused.ensures (bad_comes (ready (goal.at.returns-in-Refused c).After-fill-end) (sym c.in-Refused.ensures.standing))
