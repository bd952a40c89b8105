-- `scripts::naming::value_in` meets its contract: each number is that of its word.
use Rattle.scripts.proofs.WordLaws.{settings-made}
use Rattle.scripts.proofs.naming.value_in.Goals as goal

pub returns : goal.returns
returns c =
    let s = c.document_value-s in
    settings-made c.args.call.now s.result _ _ _ _ _ _ _ _ _ s.ensures c.short_number.ensures c.short_number-2.ensures c.short_number-3.ensures
    c.tag_number.ensures c.tag_number-2.ensures c.tag_number-3.ensures c.tag_number-4.ensures c.tag_number-5.ensures c.tag_number-6.ensures
