-- `requesting::request` meets its contract: the gate's refusal, the check's refusal, an exception of its bytes or of a tag, or what a legal request comes to.
use mathlib.Core.Path.{refl, ap, sym, ◌∙◌}
use native.Mathlib.Omega.{arith}
use Rattle.machine.specs.RefusalNumbers.{number_of}
use Rattle.machine.specs.declared.Refusal.TheVariants.{Function, Length}
use Rattle.proxy.specs.State.{state_of, machine_of}
use Rattle.proxy.proofs.StateLaws.{timed, timed_sound}
use Rattle.std.specs.Prelude.{Err}
use Rattle.requesting.proofs.GateLaws.{Open, gate_refuses, gate_opens, number_not_0, check_function, check_length, has_room, admits}
use Rattle.requesting.proofs.StepLaws.{does_refuse, was_excepted, was_served, excepted_no_refusal, served_no_refusal}
use Rattle.requesting.proofs.request.Goals.{In_default}
use Rattle.requesting.proofs.request.Goals as goal

-- what is known behind the gate
opened : (c : In_default) → Open (machine_of (state_of c.args.device.now)) c.args.client c.args.time c.args.frame.now c.args.out.now
opened c = gate_opens (machine_of (state_of c.args.device.now)) c.args.client c.args.time c.args.frame.now c.args.out.now 0 c.in_default.ensures refl

pub returns-in-Err : goal.returns-in-Err
returns-in-Err c =
    let s = state_of c.args.device.now in
    let refused = gate_refuses (machine_of s) c.args.client c.args.time c.args.frame.now c.args.out.now (number_of c.in-Err.refusal) c.in-Err.ensures (number_not_0 c.in-Err.refusal) in
    rw c.from.ensures (does_refuse s c.requires _ _ _ _ c.in-Err.refusal refused)

pub except_caller-requires : goal.except_caller-requires
except_caller-requires c = omega (arith, has_room (opened (goal.at.except_caller-requires c).In_default))

pub overflow_cast-client : goal.overflow_cast-client
overflow_cast-client c = omega (arith, (admits (opened (goal.at.overflow_cast-client c).In_default) _ (sym c.in-Ok.ensures)).numbered)

pub serve-requires : goal.serve-requires
serve-requires c = record {
  sound = timed_sound (state_of c.args.device.now) c.args.time c.requires;
  admitted = admits (opened (goal.at.serve-requires c).In_default) _ (sym c.in-Ok.ensures);
}

pub returns-in-Err-BadFunction : goal.returns-in-Err-BadFunction
returns-in-Err-BadFunction c =
    let refused = check_function (opened (goal.at.returns-in-Err-BadFunction c).In_default) _ (sym c.check.ensures ∙ c.in-Err-BadFunction.is ∙ ap Err c.in-Err-BadFunction.field-0-is) in
    rw c.from-in-Err-BadFunction.ensures (does_refuse (state_of c.args.device.now) c.requires _ _ _ _ Function refused)

pub returns-in-Err-BadLength : goal.returns-in-Err-BadLength
returns-in-Err-BadLength c =
    let refused = check_length (opened (goal.at.returns-in-Err-BadLength c).In_default) _ (sym c.check.ensures ∙ c.in-Err-BadLength.is ∙ ap Err c.in-Err-BadLength.field-0-is) in
    rw c.from-in-Err-BadLength.ensures (does_refuse (state_of c.args.device.now) c.requires _ _ _ _ Length refused)

pub returns-in-Err-Excepted : goal.returns-in-Err-Excepted
returns-in-Err-Excepted c =
    let s = state_of c.args.device.now in
    let said = c.except_caller.ensures (machine_of (timed s c.args.time)) in (
      was_excepted s (opened (goal.at.returns-in-Err-Excepted c).In_default) (sym c.check.ensures ∙ c.in-Err-Excepted.is ∙ ap Err c.in-Err-Excepted.field-0-is) said,
      timed_sound s c.args.time c.requires,
      λ h. absurd (h (excepted_no_refusal _ _ _ _ said)),
    )

pub returns-in-Ok : goal.returns-in-Ok
returns-in-Ok c =
    let s = c.serve.ensures in
    let said = s.came.outcome c.args.device.now.attached in
    rw (s.attached, s.clock, s.settings, s.shown) (
      was_served (state_of c.args.device.now) (opened (goal.at.returns-in-Ok c).In_default) (sym c.in-Ok.ensures) said,
      record { table = s.came.table; cursor = s.came.cursor c.requires.cursor; attached = c.requires.attached; settings = c.requires.settings; cache = s.came.cache },
      λ h. absurd (h (served_no_refusal _ _ _ _ said)),
    )
