-- `proxy::attaching::is_stranger` meets its contract: the first test decides above the last client, and membership below.
use borrow.Author.Tests.{le-leb, lt-leb}
use Rattle.numbers.specs.Numbers.{clients}
use Rattle.proxy.proofs.attaching.is_stranger.Goals as goal

pub returns-then-client-lt-CLIENTS : goal.returns-then-client-lt-CLIENTS
returns-then-client-lt-CLIENTS c = rw (c.is_member.ensures, lt-leb clients c.args.client c.if-client-lt-CLIENTS.true)

pub returns-else-client-lt-CLIENTS : goal.returns-else-client-lt-CLIENTS
returns-else-client-lt-CLIENTS c = rw (le-leb clients c.args.client c.if-client-lt-CLIENTS.false)
