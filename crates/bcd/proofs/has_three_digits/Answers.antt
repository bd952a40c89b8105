-- `bcd::has_three_digits` meets its contract: the code compares the word, the definition what is missing to 65536.
use Prim.Native.Nat.{◌-◌}
use native.Mathlib.Omega.{arith}
use lib.Dec.{ltb}
use borrow.Author.Tests.{lt-ltb, le-ltb, ltb-true}
use Rattle.laws.proofs.Choice.{same_test}
use Rattle.bcd.specs.Bcd.{complement, is_plus, is_minus, in_range}
use Rattle.bcd.proofs.has_three_digits.Goals as goal

pub returns-then-v-lt-THREE_DIGITS : goal.returns-then-v-lt-THREE_DIGITS
unfolding in_range is_plus
returns-then-v-lt-THREE_DIGITS c = rw (lt-ltb c.args.v 1000 c.if-v-lt-THREE_DIGITS.true)

pub returns-then-v-lt-WORDS : goal.returns-then-v-lt-WORDS
unfolding in_range is_plus is_minus complement
returns-then-v-lt-WORDS c =
    let v = c.args.v in
    rw (le-ltb v 1000 c.if-v-lt-THREE_DIGITS.false, lt-ltb v 65536 c.if-v-lt-WORDS.true)
    (same_test (ltb 64536 v) (ltb (65536 - v) 1000)
    (λ t. let l = ltb-true 64536 v t in lt-ltb (65536 - v) 1000 (omega arith))
    (λ t. let l = ltb-true (65536 - v) 1000 t in lt-ltb 64536 v (omega arith)))

pub returns-else-v-lt-WORDS : goal.returns-else-v-lt-WORDS
unfolding in_range is_plus is_minus
returns-else-v-lt-WORDS c = rw (le-ltb c.args.v 1000 c.if-v-lt-THREE_DIGITS.false, le-ltb c.args.v 65536 c.if-v-lt-WORDS.false)
