-- `state_by_value::spread` meets its contract: the loop fills each column place by place with what the entries say, and the rest is as it is.
use Prim.Native.Nat.{ℕ, ◌+◌, ◌≤◌, ◌<◌}
use mathlib.Core.Path.{◌≡◌, refl, sym, ◌∙◌}
use mathlib.Core.List.{List, map}
use native.Mathlib.Omega.{arith}
use lib.ListN.{length, get_or, set, length-map}
use Rattle.std.specs.Prelude.{Option}
use Rattle.numbers.specs.Numbers.{places}
use Rattle.laws.proofs.ListLaws.{get_d_map}
use Rattle.laws.proofs.FillLaws.{filled_none, filled_more, filled_all}
use Rattle.state_by_value.specs.Places.{number_of, word_in, caller_of, deadline_of, count_of}
use Rattle.state_by_value.specs.declared.Place.{Place}
use borrow.Author.Rules.{rules}
use Rattle.state_by_value.proofs.spread.Invariants.{Column}
use Rattle.state_by_value.proofs.spread.Goals as goal

module _ (es : List (Option Place)) (long : length es ≡ places) (f : Option Place → ℕ) {l : List ℕ} {k : ℕ} where
  -- a turn of the loop
  more : {v : ℕ} (d : Option Place) → k < places → Column es f l k → v ≡ f (get_or es k d) → Column es f (set l k v) (k + 1)
  more {v} d inside filled e = filled_more places 0 _ l k v inside filled (e ∙ sym (get_d_map f es k d 0 (omega arith)))

  -- behind the loop
  all : places ≤ k → Column es f l k → l ≡ map f es
  all through = filled_all places 0 _ l k through (length-map es f ∙ long)

pub loop-k-init : goal.loop-k-init
loop-k-init c =
    let none = filled_none {A = ℕ} places 0 in
    (search rules, none _ _ refl, none _ _ refl, none _ _ refl, none _ _ refl, none _ _ refl)

pub loop-k-preserved : goal.loop-k-preserved
loop-k-preserved c =
    let filled = c.loop-k.invariant in
    let es = c.args.s.entries in
    let long : length es ≡ places = search rules in
    let inside : c.loop-k.k < places = search rules in (
      search rules,
      more es long number_of _ inside filled.1 c.number_of.ensures,
      more es long word_in _ inside filled.2 c.word_in.ensures,
      more es long caller_of _ inside filled.3 c.caller_of.ensures,
      more es long deadline_of _ inside filled.4 c.deadline_of.ensures,
      more es long count_of _ inside filled.5 c.count_of.ensures,
    )

pub returns : goal.returns
returns c =
    let filled = c.loop-k.invariant in
    let es = c.args.s.entries in
    let long : length es ≡ places = search rules in
    let through : places ≤ c.loop-k.k = search rules in
    rw (all es long number_of through filled.1, all es long word_in through filled.2, all es long caller_of through filled.3, all es long deadline_of through filled.4, all es long count_of through filled.5)
    refl
