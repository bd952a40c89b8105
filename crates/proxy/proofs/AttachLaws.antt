-- What attach, detach and link lost do to the set, the parties and the ids is the machine's outcome of that call, and keeps the state sound.
-- Assumes nothing.
use Prim.Native.Nat.{ℕ, ◌≤◌, ◌<◌}
use mathlib.Core.Path.{◌≡◌, refl, ap, sym, ◌∙◌}
use mathlib.Core.Bool.{true, false, not}
use mathlib.Core.Option.{none}
use mathlib.Core.List.{List, []}
use native.Mathlib.Omega.{arith}
use lib.ListN.{replicate, length-replicate}
use lib.Pow.{pow_pos}
use borrow.Author.Tests.{le-leb, lt-leb, leb-false}
use Rattle.numbers.specs.Numbers.{clients, places}
use Rattle.laws.specs.Bits.{has, with, without}
use Rattle.laws.proofs.BitLaws.{with-low, without-low}
use Rattle.laws.proofs.Choice.{or_left}
use Rattle.laws.proofs.ListLaws.{tab_ext, tab_repeat, get_d_repeat}
use Rattle.settings.specs.Grammar.{Value}
use Rattle.book.specs.Book.{book, apply}
use Rattle.book.specs.Book.Move.{wipe}
use Rattle.machine.specs.Machine.{machine, rules}
use Rattle.machine.specs.Calls.{done, out_of, list_of}
use Rattle.machine.specs.Calls.Call.{attach, detach, link_lost}
use Rattle.machine.specs.Refusals.{rows, lowest, is_strange_to, is_stranger}
use Rattle.machine.specs.Numbers.{numbers}
use Rattle.machine.specs.Outcomes.{granted}
use Rattle.machine.specs.declared.Answer.TheVariants.{Refused, Done as Finished, Lost}
use Rattle.machine.proofs.OutcomeLaws.{granted_is, refused_is}
use Rattle.cache.specs.Cache.{Cache, emptied as nothing_cached}
use Rattle.caching.specs.Kept.{cache_of, SoundCache}
use Rattle.table.specs.Columns.{Columns, columns, entry_at, table_of, book_of, SoundTable}
use Rattle.table.specs.inner.Changes.{Struck}
use Rattle.table.proofs.EntryLaws.{with_parties}
use Rattle.table.proofs.ChangeLaws.{strike_is, strike_sound}
use Rattle.proxy.specs.State.{State, state, seated, lent_set, machine_of, value_in, SoundState}
use Rattle.proxy.specs.Calls.{Does}
use Rattle.proxy.proofs.StateLaws.{still_sound}

-- who is no stranger has a client's number
pub no_stranger : (set client : ℕ) → is_strange_to set client ≡ false → client < clients
no_stranger set client t = leb-false clients client (or_left _ (not (has set client)) t)

module _ (s : State) (sounds : SoundState s) where
  -- Attach above the last client is refusal 2.
  pub attach_above : (client : ℕ) → clients ≤ client → Does s (attach client) (Refused 2) s [] []
  unfolding rows lowest out_of list_of
  attach_above client h = (refused_is (machine_of s) (attach client) 2 (rw (le-leb clients client h)) (λ z. omega arith), sounds, λ h. refl)

  -- Attach of an attached client is refusal 9.
  pub attach_again : (client : ℕ) → client < clients → has s.attached client ≡ true → Does s (attach client) (Refused 9) s [] []
  unfolding rows lowest out_of list_of
  attach_again client h t = (refused_is (machine_of s) (attach client) 9 (rw (lt-leb clients client h) (rw t refl)) (λ z. omega arith), sounds, λ h. refl)

  -- Attach of another puts it into the set.
  pub attach_new : (client : ℕ) → client < clients → has s.attached client ≡ false → Does s (attach client) Finished (lent_set s (with s.attached client)) [] []
  unfolding rows lowest granted numbers
  attach_new client h t = (
    sym (granted_is (machine_of s) (attach client) (rw (lt-leb clients client h) (rw t refl))),
    still_sound s sounds sounds.table (with-low clients s.attached client sounds.attached h),
    λ h. absurd (h refl),
  )

  -- Detach of a stranger is refusal 2.
  pub detach_stranger : (client : ℕ) → is_stranger (machine_of s) client ≡ true → Does s (detach client) (Refused 2) s [] []
  unfolding rows lowest out_of list_of
  detach_stranger client t = (refused_is (machine_of s) (detach client) 2 (rw t) (λ z. omega arith), sounds, λ h. refl)

  -- Detach of an attached client strikes its parties out and takes it out of the set.
  pub detach_known : (client : ℕ) (ns cs os : List ℕ) → is_stranger (machine_of s) client ≡ false
      → Struck s.table.top client s.table.counts s.table.clients s.table.originals ns cs os
      → Does s (detach client) Finished (seated s (with_parties s.table ns cs os) (without s.attached client) s.clock) [] []
  unfolding rows lowest granted numbers
  detach_known client ns cs os t d = (
    ap (λ b. done Finished (machine b (without s.attached client) (cache_of s.cache s.shown)) [] [])
        (strike_is (value_in s.settings) s.cursor s.clock s.table sounds.table client ns cs os d)
        ∙ sym (granted_is (machine_of s) (detach client) (rw t)),
    still_sound s sounds (strike_sound (value_in s.settings) s.cursor s.clock s.table sounds.table client ns cs os d) (without-low clients s.attached client sounds.attached),
    λ h. absurd (h refl),
  )

-- no id stands at any place; all else is as it was
abbrev pub emptied : Columns → Columns
emptied c = columns (replicate places 0) c.asked c.callers c.deadlines c.counts c.clients c.originals 0

-- nothing is live, and the columns stay sound
emptied-table : (c : Columns) → table_of (emptied c) ≡ replicate places none
unfolding table_of
emptied-table c = tab_ext places (entry_at (emptied c)) (λ k. none) (λ k l. rw (get_d_repeat {A = ℕ} places k 0)) ∙ tab_repeat places none

emptied_sound : (c : Columns) → SoundTable c → SoundTable (emptied c)
emptied_sound c s = record {
  ids-long = length-replicate {A = ℕ} places 0;
  asked_long = s.asked_long;
  callers_long = s.callers_long;
  deadlines_long = s.deadlines_long;
  counts_long = s.counts_long;
  clients-long = s.clients-long;
  originals_long = s.originals_long;
  within = omega arith;
  low = λ k. rw (get_d_repeat {A = ℕ} places k 0) (omega arith);
  above = λ k h. get_d_repeat {A = ℕ} places k 0;
  roomy = s.roomy;
  proper = λ k live. absurd (live (get_d_repeat {A = ℕ} places k 0));
}

-- Columns without an id are the book after a wipe.
pub emptied_is : (v : Value) (x t : ℕ) (c : Columns) → book_of v (emptied c) x t ≡ apply rules (book_of v c x t) wipe
emptied_is v x t c = ap (λ l. book v l x t) (emptied-table c)

-- Link lost removes every entry, everyone and all that is cached, and tells the former set.
pub lost : (s : State) → SoundState s → (cache : List ℕ) → (cache_of cache s.shown ≡ nothing_cached) × SoundCache cache s.shown
    → Does s link_lost (Lost s.attached) (state (emptied s.table) s.cursor 0 s.clock s.settings cache s.shown) [] []
unfolding rows lowest granted numbers
lost s sounds cache gone = (
  ap (λ b. done (Lost s.attached) (machine b 0 (cache_of cache s.shown)) [] []) (emptied_is (value_in s.settings) s.cursor s.clock s.table)
      ∙ ap (λ (h : Cache). done (Lost s.attached) (machine (apply rules (machine_of s).book wipe) 0 h) [] []) gone.0
      ∙ sym (granted_is (machine_of s) link_lost refl),
  record { table = emptied_sound s.table sounds.table; cursor = sounds.cursor; attached = pow_pos clients; settings = sounds.settings; cache = gone.1 },
  λ h. absurd (h refl),
)
