-- `Saying::say_form` meets its contract. The loop's invariant: what is left of the form, said at the place, is said in all.
use Rattle.std.proofs.Common.{sym}
use Rattle.parts.specs.Said.{formed}
use Rattle.parts.proofs.SaidLaws.{formed_more, formed-none}
use Rattle.parts.proofs.SayingLaws.{underway_none, underway_more, underway_all}
use Rattle.parts.proofs.saying.Saying.say_form.Goals as goal
use Rattle.parts.proofs.saying.Saying.say_form.Goals.{then-is_ascii_uppercase, else-is_ascii_uppercase}

pub loop-mark-init : goal.loop-mark-init
loop-mark-init c =
    let a = c.args in
    underway_none a.self.now (formed a.form.now a.one a.two a.three)

pub loop-mark-preserved : goal.loop-mark-preserved
loop-mark-preserved c =
    let l = c.loop-mark in
    let a = c.args in
    let turn = underway_more {next = c.say_marked.new.self} _ _ (formed_more a.form.now l.mark-index l.n l.then a.three c.loop-mark-test.true) c.say_marked.ensures l.invariant in
    let capital = sym c.is_ascii_uppercase.ensures.value in
    elim c.if-is_ascii_uppercase.branch [
      | then-is_ascii_uppercase w ↦ rw (w.n-is, w.then-is) (rw (capital, w.if-is_ascii_uppercase.true) at turn)
      | else-is_ascii_uppercase w ↦ rw (w.n-is, w.then-is) (rw (capital, w.if-is_ascii_uppercase.false) at turn)
    ]

pub returns : goal.returns
returns c =
    let l = c.loop-mark in
    let a = c.args in
    underway_all (formed-none a.form.now l.mark-index l.n l.then a.three c.loop-mark-test.false) l.invariant
