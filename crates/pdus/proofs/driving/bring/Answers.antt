-- `pdus::driving::bring` meets its contract: a reply that answers a legal request has what the rewriter asks for.
use mathlib.Core.Path.{sym, ◌∙◌}
use native.Mathlib.Omega.{arith}
use Rattle.pdus.proofs.DriverLaws.{fits, brings}
use Rattle.pdus.proofs.driving.bring.Goals as goal

pub of-tags-requires : goal.of-tags-requires
of-tags-requires c = c.tag_words-words.ensures

pub give_back-raw-requires : goal.give_back-raw-requires
give_back-raw-requires c =
    let f = c.args.request.now in
    let r = c.args.reply.now in
    record {
      framed = fits r c.args.out.now (sym c.is_misframed-2.ensures ∙ c.if-is_misframed-2.false) (omega (arith, c.if-out-lt-FRAME_BUFFER.false));
      brought = λ x. brings f (λ k. (c.type_inv.request k).fits) (sym c.check_request.ensures ∙ c.in-Ok.is) r _ _ (sym c.answers.ensures ∙ c.if-not-answers.false) x;
    }
