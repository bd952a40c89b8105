-- The end of an entry: its place is free, the clock is at the call's time, and the state stays sound.
-- Assumes nothing.
use Prim.Native.Nat.{ℕ, ◌+◌, ◌≤◌, ◌<◌}
use mathlib.Core.Path.{◌≡◌, ap, ◌∙◌}
use mathlib.Core.Logic.{⊎_elim}
use mathlib.Core.Bool.{Bool, true, false}
use mathlib.Core.List.{List}
use native.Mathlib.Omega.{arith}
use lib.ListN.{get_or, set}
use borrow.Author.Tests.{eqb-true, eqb-false, not-true}
use Rattle.numbers.specs.Numbers.{ids, places, room, list_buffer}
use Rattle.laws.specs.Search.{best}
use Rattle.laws.proofs.Choice.{and_left}
use Rattle.laws.proofs.SearchLaws.{best_in}
use Rattle.pdu.specs.Words.{what_of, Proper}
use Rattle.pdu.specs.declared.ProxyId.{ProxyId}
use Rattle.book.specs.Book.Move.{reply}
use Rattle.machine.specs.Machine.{machine, moved, caching}
use Rattle.caching.specs.Kept.{cache_of, SoundCache}
use Rattle.table.specs.Columns.{Columns, columns, place_word, note_of, SoundTable}
use Rattle.table.specs.inner.Places.{holds, is_due, is_sooner}
use Rattle.table.specs.inner.Changes.{reach}
use Rattle.table.proofs.EntryLaws.{held}
use Rattle.table.proofs.ChangeLaws.{remove_is_reply, remove_sound}
use Rattle.proxy.specs.State.{State, state, seated, value_in, machine_of, SoundState}
use Rattle.proxy.proofs.StateLaws.{still_sound, timed}

-- the proxy id of that number
abbrev pub named : ℕ → ProxyId
named n = record { 0 = n }

-- the state with other ids and another top, at another time
abbrev pub ended : State → List ℕ → ℕ → ℕ → State
ended s is top t =
    seated s (columns is s.table.asked s.table.callers s.table.deadlines s.table.counts s.table.clients s.table.originals top) s.attached t

-- and with other columns of the cache
abbrev pub ended_keeping : State → List ℕ → ℕ → ℕ → (cache shown : List ℕ) → State
ended_keeping s is top t cache shown =
    state (columns is s.table.asked s.table.callers s.table.deadlines s.table.counts s.table.clients s.table.originals top) s.cursor s.attached t s.settings cache shown

-- a live place
pub record Living (c : Columns) (k : ℕ) : Type 0 where
  pub low : k < places
  pub live : get_or c.ids k 0 ≡ 0 → ⊥

-- a place that a scan found is live, where the test asks that
module _ (c : Columns) (s : SoundTable c) (test : ℕ → Bool) (beats : ℕ → ℕ → Bool) (asks : (k : ℕ) → test k ≡ true → get_or c.ids k 0 ≡ 0 → ⊥) where
  found-lives : (k : ℕ) → k ≡ best test beats places c.top → (k ≡ places → ⊥) → Living c k
  found-lives k e h =
      ⊎_elim
      (λ w. absurd (h (e ∙ w)))
      (λ w. rw e (record { low = let i = s.within in omega (arith, w.0); live = asks _ w.1 }))
      (best_in test beats places c.top)

-- The place under an id, and the earliest that is due, are live.
pub holder_lives : (c : Columns) → SoundTable c → (id k : ℕ) → k ≡ best (holds c.ids id) (λ i j. false) places c.top → (k ≡ places → ⊥) → Living c k
holder_lives c s id = found-lives c s (holds c.ids id) _ (λ k t z. let e = eqb-true (get_or c.ids k 0) (id + 1) t in omega arith)

pub due_lives : (c : Columns) → SoundTable c → (t k : ℕ) → k ≡ best (is_due c.ids c.deadlines t) (is_sooner c.ids c.deadlines) places c.top → (k ≡ places → ⊥) → Living c k
due_lives c s t = found-lives c s (is_due c.ids c.deadlines t) _ (λ k e. eqb-false _ _ (not-true _ (and_left _ _ e)))

module _ (c : Columns) (s : SoundTable c) (k : ℕ) (l : Living c k) where
  -- A live place has an id.
  pub has_id_lem : (k < places) × (0 < get_or c.ids k 0) × (get_or c.ids k 0 ≤ ids)
  has_id_lem = let n = l.live in (l.low, omega (arith, n), s.low k)

  -- Its entry may end.
  pub may_end : (list : ℕ) → list_buffer ≤ list → (k < places) × (get_or c.counts k 0 ≤ room) × (list_buffer ≤ list) × (c.top ≤ places)
  may_end list h = (l.low, s.roomy k, h, s.within)

  -- What was asked is something that may be asked.
  pub asks_proper : Proper (what_of (get_or c.asked k 0))
  asks_proper = (s.proper k l.live).0

  -- Its word is that of what was asked, with the mark where that is closed.
  pub asks_placed : place_word (what_of (get_or c.asked k 0)) (note_of (get_or c.asked k 0)) ≡ get_or c.asked k 0
  asks_placed = (s.proper k l.live).1

module _ (s : State) (d : SoundState s) (k : ℕ) (l : Living s.table k) (t : ℕ) (is : List ℕ) (top : ℕ)
    (f : (is ≡ set s.table.ids k 0) × (top ≡ reach is s.table.top)) where
  -- The state with the place freed is the machine after the reply to its entry, and after its timeout.
  pub ended_is : machine_of (ended s is top t) ≡ moved (machine_of (timed s t)) (reply k (held s.table k))
  ended_is =
      ap (λ b. machine b s.attached (cache_of s.cache s.shown)) (remove_is_reply (value_in s.settings) s.cursor t s.table d.table k is top l.low f (held s.table k))

  -- With other columns of the cache it is that machine with another cache, and sound.
  pub ended_keeping_lem : (cache shown : List ℕ) → machine_of (ended_keeping s is top t cache shown) ≡ caching (moved (machine_of (timed s t)) (reply k (held s.table k))) (cache_of cache shown)
  ended_keeping_lem cache shown =
      ap (λ b. machine b s.attached (cache_of cache shown)) (remove_is_reply (value_in s.settings) s.cursor t s.table d.table k is top l.low f (held s.table k))

  pub ended_keeping_sound : (cache shown : List ℕ) → SoundCache cache shown → SoundState (ended_keeping s is top t cache shown)
  ended_keeping_sound cache shown h = record {
    table = remove_sound (value_in s.settings) s.cursor t s.table d.table k is top l.low f;
    cursor = d.cursor;
    attached = d.attached;
    settings = d.settings;
    cache = h;
  }

  -- It is sound.
  pub ended_sound : SoundState (ended s is top t)
  ended_sound = still_sound s d (remove_sound (value_in s.settings) s.cursor t s.table d.table k is top l.low f) d.attached
