-- A legal request has in its frame the registers that the rewriter asks for, and so has a reply that answers it; both end with these.
-- Assumes nothing.
use Prim.Native.Nat.{ℕ, ◌+◌, ◌*◌}
use mathlib.Core.Path.{◌≡◌}
use mathlib.Core.Bool.{true, false}
use mathlib.Core.List.{List}
use native.Mathlib.Omega.{arith}
use lib.ListN.{length}
use Rattle.pdu.specs.Requests.{checked_of}
use Rattle.pdu.specs.Replies.{excepts, answering}
use Rattle.pdu.specs.declared.What.{What}
use Rattle.pdu.specs.Words.{Lawful}
use Rattle.pdu.specs.declared.Table.TheVariants.{Bits, Registers}
use Rattle.pdu.specs.declared.Asked.{Asked}
use Rattle.pdu.specs.declared.Asked.TheVariants.{Read, SingleWrite, MultipleWrite, MaskWrite, ReadWrite, Other}
use Rattle.pdu.proofs.RequestLaws.{RequestRoom, legal-room}
use Rattle.pdu.proofs.ReplyLaws.{ReplyRoom, answering-room}
use Rattle.rewrite.specs.Plain.{Brings}
use Rattle.rewrite.specs.Plain.Brings.{read, read_of_both}
use Rattle.rewrite.specs.Strict.{Carries}
use Rattle.rewrite.specs.Strict.Carries.{single, multiple, both}
use Rattle.rewrite.specs.inner.Lent.{Sent, Brought}
use Rattle.std.specs.Prelude.{Ok}

sent : (a : Asked) (f : List ℕ) → RequestRoom a f → Lawful a → Sent a f
unfolding Lawful
sent (Read t s q) f r l = tt
sent (SingleWrite Bits a v) f r l = tt
sent (SingleWrite Registers a v) f r l = record { room = omega arith; low = omega (arith, l.0) }
sent (MultipleWrite Bits s q) f r l = tt
sent (MultipleWrite Registers s q) f r l = record { room = omega arith; low = l.2 }
sent (MaskWrite a x y) f r l = tt
sent (ReadWrite s q u p) f r l = record { room = omega (arith, r); low = l.1.2 }
sent Other f r l = tt

brought : (a : Asked) (f : List ℕ) → Lawful a → ReplyRoom a f → Brought a f
unfolding Lawful
brought (Read Bits s q) f a r = tt
brought (Read Registers s q) f a r = record { room = omega (arith, r); low = a.2 }
brought (SingleWrite Bits s v) f a r = tt
brought (SingleWrite Registers s v) f a r = record { room = omega (arith, r); low = omega (arith, a.0) }
brought (MultipleWrite t s q) f a r = tt
brought (MaskWrite s x y) f a r = tt
brought (ReadWrite s q u p) f a r = record { room = omega (arith, r); low = a.0.2 }
brought Other f a r = tt

-- The registers that a legal request carries are in its frame.
pub legal_sent : (f : List ℕ) {a : Asked} → checked_of f ≡ Ok a → Lawful a → Sent a f
legal_sent f {a} legal l = sent a f (legal-room f a legal) l

-- A reply that answers and is no exception carries the registers that were asked for.
pub answer_brought : (w : What) (f : List ℕ) → Lawful w.asked → answering w f ≡ true → excepts w.function f ≡ false → Brought w.asked f
answer_brought w f l e x = brought w.asked f l (answering-room w f e x)

-- The registers that a legal request carries are the last bytes of its frame: nothing stands behind them.
pub carries_ends : (f : List ℕ) {a : Asked} {base start quantity : ℕ} → Carries a base start quantity → RequestRoom a f → base + 2 * quantity ≡ length f
carries_ends f single r = omega (arith, r)
carries_ends f multiple r = omega (arith, r)
carries_ends f both r = omega (arith, r)

-- And so are those that a reply brings.
pub brings_ends : (f : List ℕ) {a : Asked} {start quantity : ℕ} → Brings a start quantity → ReplyRoom a f → 9 + 2 * quantity ≡ length f
brings_ends f read r = omega (arith, r)
brings_ends f read_of_both r = omega (arith, r)
