-- `state_by_value::gather` meets its contract: the loop fills the entries place by place with what the columns say.
use Prim.Native.Nat.{◌<◌}
use mathlib.Core.Path.{refl}
use Rattle.std.specs.Prelude.{None}
use Rattle.numbers.specs.Numbers.{places}
use Rattle.laws.proofs.ListLaws.{length-tab, get_d_tab}
use Rattle.state_by_value.specs.States.{row_at}
use Rattle.laws.proofs.FillLaws.{filled_none, filled_more, filled_all}
use borrow.Author.Rules.{rules}
use Rattle.state_by_value.proofs.gather.Goals as goal

pub loop-k-init : goal.loop-k-init
loop-k-init c = filled_none places None _ _ refl

pub loop-k-preserved : goal.loop-k-preserved
loop-k-preserved c =
    let l = c.loop-k in
    let inside : l.k < places = search rules in
    let e = get_d_tab places (row_at c.args.d) l.k None inside in
    filled_more places None _ l.entries l.k _ inside l.invariant (rw e c.place_of.ensures)

pub returns : goal.returns
returns c =
    let l = c.loop-k in
    rw (filled_all places None _ l.entries l.k (search rules) (length-tab places _) l.invariant)
