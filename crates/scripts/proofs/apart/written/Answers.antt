-- `scripts::apart::written` meets its contract: the buffer afterwards is the part that was lent, as it was written, and behind it what was not lent.
use Prim.Native.Nat.{◌-◌}
use mathlib.Core.Path.{◌≡◌}
use native.Mathlib.Omega.{arith}
use Rattle.scripts.proofs.ApartLaws.{told-writing}
use Rattle.scripts.proofs.apart.written.Goals as goal

pub returns : goal.returns
returns c =
    let a = c.args in
    let w = c.write_text-wrote in
    let same : a.lent - 0 ≡ a.lent = omega arith in
    rw (same, told-writing w.result a.lent (rw same at w.ensures)) at c.told.ensures
