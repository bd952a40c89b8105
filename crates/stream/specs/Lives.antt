-- A lent stream's life: the calls that a host makes of it after the reset, one after the other, each with what the host sees of it afterwards.
-- Assumes nothing.
use Rattle.std.specs.Prelude.{ℕ, ◌≤◌, ◌≡◌, List, [], ◌∷◌, map, length, drop}
use Rattle.stream.specs.Stream.{TakeOutcome, take_outcome}
use Rattle.stream.specs.Hosts.{Fed, with, Offer}
use Rattle.stream.specs.Lent.{stream_of, Takes}
use Rattle.stream.specs.declared.Taken.{Taken}
use Rattle.stream.specs.declared.LentStream.{LentStream}

-- one line of it: the piece and the buffer that were given; the answer, the lent stream and the buffer as they are afterwards
pub record Line : Type 0 where
  pub offer : Offer
  pub says : Taken
  pub after : LentStream
  pub written : List ℕ

abbrev pub came : Line → TakeOutcome
came x = take_outcome x.says (stream_of x.after) x.written

abbrev pub offers_of : List Line → List Offer
offers_of ls = map (λ (x : Line). x.offer) ls

-- each line came as its exported function promises, from the lent stream that the one before left
pub data Lived : LentStream → List Line → Type 0 where
  none : {i : LentStream} → Lived i []
  then : {i : LentStream} {x : Line} {ls : List Line} → Takes i x.offer.piece x.offer.buffer x.says x.after x.written → Lived x.after ls → Lived i (x ∷ ls)

-- what the host gathers from these lines alone
unfoldable pub heard : Fed → List Line → Fed
heard f [] = f
heard f (x ∷ ls) = heard (with f x.offer.piece (came x)) ls

-- the lines are the calls of a host that offers these pieces as HOST.md says, each with a buffer of 260 bytes or more: a piece, and as long as a frame comes of it (outcome 8) what is behind
-- the bytes taken; then the next piece
pub data Offering : List (List ℕ) → List Line → Type 0 where
  over : Offering [] []
  again : {p : List ℕ} {ps : List (List ℕ)} {x : Line} {ls : List Line} → x.offer.piece ≡ p → 260 ≤ length x.offer.buffer → x.says.outcome ≡ 8
      → Offering (drop x.says.taken p ∷ ps) ls → Offering (p ∷ ps) (x ∷ ls)
  next : {p : List ℕ} {ps : List (List ℕ)} {x : Line} {ls : List Line} → x.offer.piece ≡ p → 260 ≤ length x.offer.buffer → (x.says.outcome ≡ 8 → ⊥)
      → Offering ps ls → Offering (p ∷ ps) (x ∷ ls)
