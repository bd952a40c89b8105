-- `pdus::driving::send` meets its contract: behind the checks a frame has what the rewriter asks for.
use mathlib.Core.Path.{sym, ◌∙◌}
use native.Mathlib.Omega.{arith}
use Rattle.pdus.proofs.DriverLaws.{fits, sends}
use Rattle.pdus.proofs.driving.send.Goals as goal

pub of-tags-requires : goal.of-tags-requires
of-tags-requires c = c.tag_words-words.ensures

pub forward-raw-requires : goal.forward-raw-requires
forward-raw-requires c =
    let f = c.args.frame.now in
    record {
      framed = fits f c.args.out.now (sym c.is_misframed.ensures ∙ c.if-is_misframed.false) (omega (arith, c.if-out-lt-FRAME_BUFFER.false));
      sent = sends f (λ k. (c.type_inv.frame k).fits) (sym c.check_request.ensures ∙ c.in-Ok.is);
    }
