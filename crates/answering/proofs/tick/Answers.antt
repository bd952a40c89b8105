-- `answering::tick` meets its contract: each return is one of the outcomes that the laws name.
use mathlib.Core.Path.{◌≡◌, refl, ap, sym}
use native.Mathlib.Omega.{arith}
use lib.ListN.{length}
use Rattle.numbers.specs.Numbers.{places}
use Rattle.pdu.specs.declared.What.{What}
use Rattle.machine.specs.Numbers.{numbers}
use Rattle.machine.specs.RefusalNumbers.{number_of}
use Rattle.table.specs.Columns.{columns_of}
use Rattle.proxy.specs.State.{State, seated, machine_of}
use Rattle.proxy.specs.declared.Device.{Device}
use Rattle.proxy.specs.Gates.{tick_gate}
use Rattle.proxy.proofs.StateLaws.{timed_sound}
use Rattle.answering.proofs.GateLaws.{Timely, tick_timely, number-positive}
use Rattle.answering.proofs.EndLaws.{Living, due_lives, has_id_lem, may_end, ended_sound}
use Rattle.answering.proofs.TickLaws.{was_refused, nothing_due, was_timed_out}
use Rattle.answering.proofs.tick.Goals.{In_default, In-Some}
use Rattle.answering.proofs.tick.Goals as goal

-- the state that has the device's table and clock, beside what else the state s has
abbrev came : Device → State → State
came d s = seated s (columns_of d.table) s.attached d.clock

-- the gate let it pass
gate : (c : In_default)
    → let a = c.args in tick_gate (length a.out.now) (length a.list.now) a.time a.device.now.clock ≡ 0
gate c = sym c.in_default.ensures

timely : (c : In_default)
    → let a = c.args in Timely (length a.out.now) (length a.list.now) a.time a.device.now.clock
timely c =
    let a = c.args in
    tick_timely (length a.out.now) (length a.list.now) a.time a.device.now.clock (gate c)

-- the place that is due first, which is one
is_place : (c : In-Some) → c.in-Some.place ≡ places → ⊥
is_place c e = let w = c.in-Some.ensures.within in let t = c.requires.within in omega arith

lives : (c : In-Some) → Living (columns_of c.args.device.now.table) c.in-Some.place
lives c = due_lives (columns_of c.args.device.now.table) c.requires c.args.time c.in-Some.place c.in-Some.ensures.found (is_place c)

pub returns-in-Err-clause-does : goal.returns-in-Err-clause-does
returns-in-Err-clause-does c whole sounds =
    let a = c.args in
    rw c.from.ensures (
      was_refused (machine_of (came a.device.now whole)) a.time a.out.now a.list.now (number_of c.in-Err.refusal) c.in-Err.ensures (number-positive c.in-Err.refusal),
      sounds,
      λ h. refl,
    )

pub returns-in_default-earliest-clause-does : goal.returns-in_default-earliest-clause-does
unfolding numbers
returns-in_default-earliest-clause-does c whole sounds =
    let a = c.args in
    let s = came a.device.now whole in (
      nothing_due s sounds a.time a.out.now a.list.now (gate (goal.at.returns-in_default-earliest-clause-does c).In_default) places c.in_default-earliest.ensures.found refl,
      timed_sound s a.time sounds,
      λ h. absurd (h refl),
    )

pub id_at-id-requires : goal.id_at-id-requires
id_at-id-requires c =
    has_id_lem (columns_of c.args.device.now.table) c.requires c.in-Some.place (lives (goal.at.id_at-id-requires c).In-Some)

pub end_at-parties-requires : goal.end_at-parties-requires
end_at-parties-requires c =
    let a = c.args in
    may_end (columns_of a.device.now.table) c.requires c.in-Some.place (lives (goal.at.end_at-parties-requires c).In-Some) (length a.list.now) (timely (goal.at.end_at-parties-requires c).In_default).pairs

pub except-requires : goal.except-requires
except-requires c = omega (arith, (timely (goal.at.except-requires c).In_default).frames)

pub returns-clause-does : goal.returns-clause-does
unfolding numbers
returns-clause-does c whole sounds =
    let a = c.args in
    let at = goal.at.returns-clause-does c in
    let i = c.id_at-id in
    let e = c.end_at-parties in
    let s = came a.device.now whole in
    let k = e.ensures.stays in
    rw (k.0, k.1, k.2, k.3, k.4, k.5) (
      was_timed_out s sounds a.time a.out.now a.list.now
          (gate at.In_default) c.in-Some.place c.in-Some.ensures.found (is_place at.In-Some) i.result e.result _ _ _ _ i.ensures e.ensures.value e.ensures.ids_after
          c.what_of-what.result.unit c.what_of-what.result.function (ap (λ (w : What). w.unit) c.what_of-what.ensures) (ap (λ (w : What). w.function) c.what_of-what.ensures) c.except.ensures,
      ended_sound s sounds c.in-Some.place (lives at.In-Some) a.time _ _ e.ensures.ids_after,
      λ h. absurd (h refl),
    )
