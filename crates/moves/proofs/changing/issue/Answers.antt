-- `moves::changing::issue` meets its contract: what is stored is a new entry.
use mathlib.Core.Path.{refl}
use native.Mathlib.Omega.{arith}
use Rattle.table.specs.Columns.{columns_of}
use Rattle.table.proofs.EntryLaws.{issued}
use Rattle.moves.proofs.changing.issue.Goals as goal

pub returns : goal.returns
returns c =
    let a = c.args in
    let is = issued (columns_of a.table.now) c.requires.sound_table a.place a.id.0 a.word a.deadline a.client a.original.0 (omega arith) (omega arith) c.requires.proper in
    record { top_after = rw c.max-table.ensures is.0; sound_table_2 = rw c.max-table.ensures is.1; stays = refl }
