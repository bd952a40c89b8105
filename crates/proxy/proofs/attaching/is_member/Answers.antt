-- `proxy::attaching::is_member` meets its contract: the last bit of the shifted set.
use Prim.Native.Nat.{◌/◌, ◌^◌}
use lib.Bits.{and_mask}
use Rattle.proxy.proofs.attaching.is_member.Goals as goal

pub returns : goal.returns
returns c = rw (and_mask (c.args.set / 2 ^ c.args.client) 1)
