-- `requesting::may_join` meets its contract: a read by the setting, all else never.
use mathlib.Core.Path.{sym, ◌∙◌}
use Rattle.machine.proofs.JoinLaws.{joins_self}
use Rattle.requesting.proofs.may_join.Goals as goal

pub returns : goal.returns
returns c v w on same = rw c.is_read.ensures (sym (joins_self v w ∙ rw (on, same)))
