-- What a call does is told a C host in the numbers of its answer; and what it does to a state that another one is it does to that.
-- Assumes nothing.
use Prim.Native.Nat.{ℕ}
use mathlib.Core.Path.{◌≡◌, ap, sym, subst, ◌∙◌}
use mathlib.Core.List.{List}
use Rattle.settings.specs.declared.Settings.{Settings}
use Rattle.machine.specs.Calls.{Call}
use Rattle.machine.specs.Numbers.{numbers, numbered}
use Rattle.machine.specs.declared.Answer.{Answer}
use Rattle.machine.specs.declared.Report.{Report}
use Rattle.proxy.specs.State.{State}
use Rattle.proxy.specs.Calls.{Does, Told, Freshened, FreshlyTold}

-- The numbers of a call's answer tell the call.
pub as_told : (s : State) (x : Call) (r : Report) (s' : State) (w l : List ℕ) (answer : Answer) → r ≡ numbers answer → Does s x answer s' w l → Told s x r s' w l
as_told s x r s' w l answer e does = (rw e (ap numbered does.0), does.1, λ h. does.2 (rw e at h))

-- So do those of a fresh state's.
pub fresh-told : (from : Settings) (r : Report) (s : State) (answer : Answer) → r ≡ numbers answer → Freshened from answer s → FreshlyTold from r s
fresh-told from r s answer e made = (e ∙ ap numbers made.0, made.1, made.2)

-- What a call comes to is what it comes to where that state is another's.
pub stays_does : (s s' d : State) (x : Call) (a : Answer) (w l : List ℕ) → d ≡ s' → Does s x a s' w l → Does s x a d w l
stays_does s s' d x a w l e does = subst (λ t. Does s x a t w l) (sym e) does
