-- `payloads::strict::has_tag` meets its contract: the first tag that does not end before the address decides.
use Rattle.rewrite.proofs.ForbidLaws.{has-none, has_here}
use Rattle.payloads.proofs.strict.has_tag.Goals as goal

pub returns-in_default : goal.returns-in_default
returns-in_default c =
    let a = c.args in
    has-none a.tags.words.now a.tags.listed a.address _ c.first_from.ensures c.in_default.ensures.lookup.3

pub returns : goal.returns
returns c =
    let a = c.args in
    let there = c.in-Some.ensures.lookup.3 in
    rw (c.tag_address.ensures, there.1 0) (has_here a.tags.words.now a.tags.listed a.address _ c.first_from.ensures there.0)
