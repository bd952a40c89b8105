-- `scripts::apart::split` meets its contract: the run is what was parsed into a buffer of zeros, of the length that the call says.
use Rattle.scripts.specs.Apart.{received}
use Rattle.scripts.proofs.apart.split.Goals as goal

pub returns : goal.returns
unfolding received
returns c =
    let parsed = c.parse-parsed.ensures in
    rw (← parsed.1, ← parsed.0, ← c.length_in-size.ensures.0, ← c.before-2.ensures) c.split_run.ensures
