-- `requesting::what_asked` meets its contract: the frame's bytes are bytes, so what a legal request asks may stand in a live entry.
use mathlib.Core.Path.{ap}
use Rattle.wire.specs.Frame.{unit_of, function_of}
use Rattle.pdu.specs.Replies.{what}
use Rattle.pdu.proofs.RequestLaws.{legal-passed, legal_proper}
use Rattle.requesting.proofs.what_asked.Goals as goal

pub returns : goal.returns
returns c =
    let f = c.args.frame.now in
    let asks = (legal-passed f c.args.asked c.requires.1).asks in
    (ap (what (unit_of f) (function_of f)) asks, rw asks at (legal_proper f c.args.asked (λ k. (c.type_inv.frame k).fits) c.requires.1))
