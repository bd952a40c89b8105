-- When the host has to tick next: how many requests are live, and the earliest deadline of them; and these numbers in plain words. Document 01 does not ask for it.
-- Assumes nothing.
use Rattle.std.specs.Prelude.{ℕ, ◌-◌, ◌^◌, ◌≤◌, ◌≡◌, ◌⊎◌}
use Rattle.std.proofs.Math.Option.{Option, some, none}
use Rattle.numbers.specs.Numbers.{places}
use Rattle.laws.specs.Search.{least, count}
use Rattle.pdu.specs.declared.What.{What}
use Rattle.book.specs.Book.{Live, at}
use Rattle.book.specs.Desk.{is_live}
use Rattle.machine.specs.Machine.{Machine, Note}
use Rattle.machine.specs.declared.NextDeadline.{NextDeadline}

-- what stands for the earliest deadline where nothing is live: no time that a tick can carry reaches it
abbrev pub no_deadline : ℕ
no_deadline = 2 ^ 64 - 1

-- the deadline of what stands at a place
abbrev pub deadline_of : Option (Live What Note) → ℕ
deadline_of none = no_deadline
deadline_of (some e) = e.deadline

-- how many requests are live, and the earliest deadline of them, 2^64 − 1 where none is
unfoldable pub next_deadline : Machine → NextDeadline
next_deadline m =
    record {
      time = least (λ k. is_live (at m.book k)) (λ k. deadline_of (at m.book k)) no_deadline places;
      live = count (λ k. is_live (at m.book k)) places;
    }

-- the numbers of a next deadline, in plain words
pub record Waits (m : Machine) (n : NextDeadline) : Type 0 where
  -- no live request is due before it
  pub first : (k : ℕ) (e : Live What Note) → at m.book k ≡ some e → n.time ≤ e.deadline
  -- it is the deadline of a live request, or 2^64 − 1
  pub taken : (n.time ≡ 18446744073709551615) ⊎ ((k : ℕ) × (e : Live What Note) × (at m.book k ≡ some e) × (e.deadline ≡ n.time))
  -- so many places are live
  pub many : n.live ≡ count (λ k. is_live (at m.book k)) places
