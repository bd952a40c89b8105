-- `scripts::apart::read` meets its contract: line 0 is a text that was read, any other is wrong.
use Rattle.scripts.proofs.ApartLaws.{read_right, read_wrong}
use Rattle.scripts.proofs.apart.read.Goals as goal

pub returns-then-found-eq0 : goal.returns-then-found-eq0
returns-then-found-eq0 c =
    let bytes = c.args.bytes.now in
    let found = read_right bytes c.exchanged-lines.ensures.0 c.before-2.ensures c.read_text-found.ensures c.if-found-eq0.true in
    rw found c.written.ensures

pub returns-else-found-eq0 : goal.returns-else-found-eq0
returns-else-found-eq0 c =
    let bytes = c.args.bytes.now in
    let found = read_wrong bytes c.exchanged-lines.ensures.0 c.before-2.ensures c.read_text-found.ensures c.if-found-eq0.false in
    rw found c.wrong.ensures
