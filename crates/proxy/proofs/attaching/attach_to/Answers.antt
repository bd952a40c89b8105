-- `proxy::attaching::attach_to` meets its contract: each return is one of attach's outcomes.
use mathlib.Core.Path.{sym, ◌∙◌}
use Rattle.numbers.specs.Numbers.{clients}
use Rattle.laws.proofs.BitLaws.{one_shl, or_with}
use Rattle.proxy.proofs.AttachLaws.{attach_above, attach_again, attach_new}
use Rattle.proxy.proofs.attaching.attach_to.Goals as goal

pub returns-then-client-ge-CLIENTS : goal.returns-then-client-ge-CLIENTS
returns-then-client-ge-CLIENTS c = λ s sounds. rw c.from.ensures (attach_above _ sounds c.args.client c.if-client-ge-CLIENTS.true)

pub returns-then-is_member : goal.returns-then-is_member
returns-then-is_member c = λ s sounds.
    rw c.from-then-is_member.ensures (attach_again _ sounds c.args.client c.if-client-ge-CLIENTS.false (sym c.is_member.ensures ∙ c.if-is_member.true))

pub returns : goal.returns
returns c = λ s sounds.
    let a = c.args in
    let h = c.if-client-ge-CLIENTS.false in
    rw (one_shl clients a.client h, or_with a.attached.now a.client)
    (attach_new _ sounds a.client h (sym c.is_member.ensures ∙ c.if-is_member.false))
