-- The frames of the examples are as the rewriter asks: a legal request, a reply that answers it, and the four tags as words.
-- Assumes nothing.
use Prim.Native.Nat.{ℕ, ◌≤◌, ◌<◌}
use mathlib.Core.Path.{◌≡◌}
use mathlib.Core.Bool.{true, false}
use mathlib.Core.List.{List, [], ◌∷◌}
use native.Mathlib.Omega.{arith}
use lib.ListN.{length, get_or}
use Rattle.numbers.specs.Numbers.{most_frame}
use Rattle.wire.specs.Frame.{misframed}
use Rattle.wire.proofs.FrameLaws.{framed}
use Rattle.bcd.specs.Bcd.{registers}
use Rattle.settings.specs.TagWords.{kind_of, width_of, sign_of, kind_number, kind_from, tag_word, tag_of, Ascending}
use Rattle.pdu.specs.Requests.{checked_of}
use Rattle.pdu.specs.Replies.{what, excepts, answering}
use Rattle.pdu.specs.declared.Asked.{Asked}
use Rattle.pdu.proofs.RequestLaws.{legal_proper}
use Rattle.rewrite.specs.inner.Lent.{Sent, Brought, Framed}
use Rattle.rewrite.proofs.RoomLaws.{legal_sent, answer_brought}
use Rattle.std.specs.Prelude.{Ok}

-- A frame that is not refused fits a buffer of the stated length.
pub fits : (f o : List ℕ) → misframed f ≡ false → most_frame ≤ length o → Framed f o
fits f o e l = let w = framed f e in record { least = w.least; fits = omega (arith, w.most) }

module _ (f : List ℕ) {a : Asked} (bytes : (k : ℕ) → get_or f k 0 < 256) (legal : checked_of f ≡ Ok a) where
  pub sends : Sent a f
  sends = legal_sent f legal (legal_proper f a bytes legal).lawful

  pub brings : (r : List ℕ) (unit function : ℕ) → answering (what unit function a) r ≡ true → excepts function r ≡ false → Brought a r
  brings r unit function e x = answer_brought (what unit function a) r (legal_proper f a bytes legal).lawful e x

-- Document 01's two tags, width 16 at 1024 and width 32 at 1026, and behind them a signed one at 1028 and one of width 32 at 1029 ascend.
pub four_tags : {a b c d : ℕ} → a ≡ tag_word (record { address = 1024; width = 16; sign = 0; ttl = 60000; strict = 0 }) → b ≡ tag_word (record { address = 1026; width = 32; sign = 0; ttl = 0; strict = 0 })
    → c ≡ tag_word (record { address = 1028; width = 16; sign = 1; ttl = 500; strict = 0 }) → d ≡ tag_word (record { address = 1029; width = 32; sign = 0; ttl = 0; strict = 0 })
    → Ascending 0 (tag_of a ∷ tag_of b ∷ tag_of c ∷ tag_of d ∷ [])
unfolding Ascending tag_of tag_word kind_of kind_number kind_from width_of sign_of registers
four_tags p q r s = rw p (rw q (rw r (rw s (omega arith, omega arith, (omega arith, omega arith, (omega arith, omega arith, (omega arith, omega arith, tt)))))))
