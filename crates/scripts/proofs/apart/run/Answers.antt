-- `scripts::apart::run` meets its contract: three calls have texts of their own, any other tells the state.
use Rattle.std.proofs.Common.{refl}
use Rattle.scripts.specs.Words.{letter_of}
use Rattle.scripts.proofs.CallLaws.{told_apart}
use Rattle.scripts.proofs.ApartLaws.{apart_split, apart_read, apart_written, apart_state}
use Rattle.scripts.proofs.apart.run.Goals as goal

pub returns-in-Split : goal.returns-in-Split
returns-in-Split c =
    let a = c.args in
    let chosen = apart_split a.call.now a.bytes.now a.cursor a.clock a.attached refl (rw c.in-Split.is at c.named.ensures) in
    rw chosen c.split.ensures

pub returns-in-Read : goal.returns-in-Read
returns-in-Read c =
    let a = c.args in
    let chosen = apart_read a.call.now a.bytes.now a.cursor a.clock a.attached refl (rw c.in-Read.is at c.named.ensures) in
    rw chosen c.read.ensures

pub returns-in-Write : goal.returns-in-Write
returns-in-Write c =
    let a = c.args in
    let chosen = apart_written a.call.now a.bytes.now a.cursor a.clock a.attached refl (rw c.in-Write.is at c.named.ensures) in
    rw (chosen, ← c.length_in.ensures.0, ← c.head.ensures, ← c.value_in.ensures) c.written.ensures

pub returns-in_default : goal.returns-in_default
returns-in_default c =
    let a = c.args in
    let d = c.in_default in
    let other = told_apart (letter_of a.call.now) c.named.result c.named.ensures d.not-Split d.not-Read d.not-Write in
    let chosen = apart_state a.call.now a.bytes.now a.cursor a.clock a.attached refl other.0 other.1 other.2 in
    rw (chosen, ← c.from.ensures, ← c.from-in_default.ensures) c.say_form.ensures
