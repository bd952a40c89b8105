-- `settingstext::reading::most_sign` meets its contract: one test decides.
use borrow.Author.Tests.{eq-eqb, ne_eqb}
use Rattle.settingstext.proofs.reading.most_sign.Goals as goal

pub returns-then-width-eq16 : goal.returns-then-width-eq16
returns-then-width-eq16 c = rw (eq-eqb _ 16 c.if-width-eq16.true)

pub returns-else-width-eq16 : goal.returns-else-width-eq16
returns-else-width-eq16 c = rw (ne_eqb _ 16 c.if-width-eq16.false)
