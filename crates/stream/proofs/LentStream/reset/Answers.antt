-- `stream::LentStream::reset` meets its contract: nothing is kept and no mark is set.
use mathlib.Core.Path.{◌≡◌, refl}
use lib.ListN.{length}
use borrow.Author.Rules.{rules}
use Rattle.numbers.specs.Numbers.{most_frame}
use Rattle.stream.proofs.FieldLaws.{fresh-made}
use Rattle.stream.proofs.LentStream.reset.Goals as goal

pub returns : goal.returns
returns c =
    let l : length c.args.self.now.bytes ≡ most_frame = search rules in
    record { says = search rules; after = refl; made = fresh-made _ 0 l refl }
