-- `proxy::attaching::detach` meets its contract: each return is one of detach's outcomes.
use mathlib.Core.Path.{refl, sym, ◌∙◌}
use native.Mathlib.Omega.{arith}
use Rattle.numbers.specs.Numbers.{clients}
use Rattle.laws.proofs.BitLaws.{one_shl, and_without}
use Rattle.proxy.proofs.AttachLaws.{no_stranger, detach_stranger, detach_known}
use Rattle.proxy.proofs.attaching.detach.Goals as goal

pub returns-then-is_stranger : goal.returns-then-is_stranger
returns-then-is_stranger c = record {
  does = λ s sounds. rw c.from.ensures (detach_stranger _ sounds c.args.client (sym c.is_stranger.ensures ∙ c.if-is_stranger.true));
  stays = refl;
}

pub overflow_cast-client : goal.overflow_cast-client
overflow_cast-client c =
    let a = c.args in
    let h = no_stranger a.device.now.attached a.client (sym c.is_stranger.ensures ∙ c.if-is_stranger.false) in
    omega arith

pub returns-clause-does : goal.returns-clause-does
returns-clause-does c = λ s sounds.
    let a = c.args in
    let known = sym c.is_stranger.ensures ∙ c.if-is_stranger.false in
    let h = no_stranger a.device.now.attached a.client known in
    let y = c.strike.ensures.stays in
    rw (y.4, one_shl clients a.client h, and_without clients a.device.now.attached a.client sounds.attached h)
    (detach_known _ sounds a.client _ _ _ known c.strike.ensures.struck)

pub returns-clause-stays : goal.returns-clause-stays
returns-clause-stays c = let s = c.strike.ensures.stays in rw (s.0, s.1, s.2, s.3, s.5) refl
