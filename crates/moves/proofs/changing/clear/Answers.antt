-- `moves::changing::clear` meets its contract: every column is a repeat of 0.
use mathlib.Core.Path.{refl}
use Rattle.table.specs.inner.Changes.{blank}
use Rattle.moves.proofs.changing.clear.Goals as goal

pub returns-clause-cleared : goal.returns-clause-cleared
unfolding blank
returns-clause-cleared c = refl
