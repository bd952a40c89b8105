-- `scripts::telling::say_parties` meets its contract: the parties so far were said, and one more.
use Rattle.std.proofs.Common.{◌≡◌, refl, arith, add-one}
use Rattle.parts.proofs.SayingLaws.{says_nothing, says_says}
use Rattle.scripts.specs.Telling.{parties_text}
use Rattle.scripts.proofs.telling.say_parties.Goals as goal

pub loop-k-init : goal.loop-k-init
unfolding parties_text
loop-k-init c = says_nothing c.args.said.now c.args.said.now refl refl

pub loop-k-preserved : goal.loop-k-preserved
unfolding parties_text
loop-k-preserved c = rw (add-one c.loop-k.k) (says_says c.loop-k.invariant c.say_party.ensures)

pub returns : goal.returns
returns c =
    let all : c.loop-k.k ≡ c.args.parties = omega arith in
    rw all at c.loop-k.invariant
