-- `Saying::say_form` meets its contract. The loop's invariant: what is left of the form, said at the place, is said in all.
use Rattle.std.proofs.Common.{drop}
use Rattle.parts.specs.Said.{formed}
use Rattle.parts.proofs.SayingLaws.{Underway}
use Rattle.parts.proofs.saying.Saying.say_form.Given as goal

abbrev pub invariant-loop-mark : goal.invariant-loop-mark
invariant-loop-mark l = Underway l.fn.self (formed l.form l.one l.two l.three) l.self (formed (drop l.mark-index l.form) l.n l.then l.three)
