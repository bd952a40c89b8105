-- A state that is gathered from a sound device is the machine that the device is, and is sound.
-- Assumes nothing.
use Prim.Native.Nat.{ℕ, ◌<◌, ◌≤◌}
use mathlib.Core.Path.{◌≡◌, refl, ap, ◌∙◌}
use mathlib.Core.Logic.{⊎_elim}
use mathlib.Core.Bool.{true, false}
use mathlib.Core.List.{List, map}
use native.Mathlib.Omega.{arith}
use lib.ListN.{length, get_or, length-map, get_or-eq_default}
use lib.Dec.{eqb}
use borrow.Author.Tests.{eqb-false}
use Rattle.std.specs.Prelude.{Option}
use Rattle.numbers.specs.Numbers.{places, room}
use Rattle.laws.proofs.Choice.{true_or, lt_or}
use Rattle.laws.proofs.ListLaws.{tab_ext, tab_get_d, map-tab, length-tab, get_d_tab}
use Rattle.book.specs.Book.{book}
use Rattle.machine.specs.Machine.{machine}
use Rattle.table.specs.Columns.{Columns, entry_at, table_of, SoundTable}
use Rattle.proxy.specs.State.{state_of as columned, value_in, machine_of, SoundState}
use Rattle.proxy.specs.declared.Device.{Device}
use Rattle.state_by_value.specs.Places.{number_of, word_in, caller_of, deadline_of, count_of}
use Rattle.state_by_value.specs.States.{state_of, MadeState, row_at, gathered}
use Rattle.state_by_value.specs.declared.Place.{Place}
use Rattle.state_by_value.proofs.PlaceLaws.{number_back, word_made, caller_back, deadline_back, count_back, count_within}

module _ (d : Device) (sounds : SoundState (columned d)) where
  abbrev was : Columns
  was = (columned d).table

  abbrev sound : SoundTable was
  sound = sounds.table

  abbrev row : ℕ → Option Place
  row = row_at d

  abbrev rows : List (Option Place)
  rows = (gathered d).entries

  -- the columns of what was gathered
  abbrev back : Columns
  back = (state_of (gathered d)).table

  -- The column of ids comes back as it was, since each of its numbers does.
  ids_back : map number_of rows ≡ was.ids
  ids_back = map-tab number_of places row ∙ tab_ext places _ _ (λ k h. number_back _ _ _ _ _ (sound.low k)) ∙ tab_get_d 0 was.ids places sound.ids-long

  -- A number of a place of another column is the number of its row,
  at_row : (f : Option Place → ℕ) (k : ℕ) → k < places → get_or (map f rows) k 0 ≡ f (row k)
  at_row f k h = ap (λ l. get_or l k 0) (map-tab f places row) ∙ get_d_tab places _ k 0 h

  -- and where the place is live, what stood there.
  word_back : (k : ℕ) → k < places → (get_or was.ids k 0 ≡ 0 → ⊥) → get_or (map word_in rows) k 0 ≡ get_or was.asked k 0
  word_back k h live = at_row word_in k h ∙ word_made _ _ _ _ _ live (sound.proper k live)

  -- So at every place stands what stood there.
  entry_back : (k : ℕ) → k < places → entry_at back k ≡ entry_at was k
  entry_back k h =
      ⊎_elim
      (λ (t : eqb (get_or was.ids k 0) 0 ≡ true). rw (ids_back, t) refl)
      (λ (t : eqb (get_or was.ids k 0) 0 ≡ false).
      let live = eqb-false _ _ t in
      let caller : get_or (map caller_of rows) k 0 ≡ get_or was.callers k 0 = at_row caller_of k h ∙ caller_back _ _ _ _ _ live in
      let deadline : get_or (map deadline_of rows) k 0 ≡ get_or was.deadlines k 0 = at_row deadline_of k h ∙ deadline_back _ _ _ _ _ live in
      let count : get_or (map count_of rows) k 0 ≡ get_or was.counts k 0 = at_row count_of k h ∙ count_back _ _ _ _ _ live in
      rw (ids_back, t, word_back k h live, caller, deadline, count) refl)
      (true_or (eqb (get_or was.ids k 0) 0))

  table_back : table_of back ≡ table_of was
  unfolding table_of
  table_back = tab_ext places (entry_at back) (entry_at was) entry_back

  -- A column of what was gathered has a number for each place.
  long_back : (f : Option Place → ℕ) → length (map f rows) ≡ places
  long_back f = length-map rows f ∙ length-tab places row

  -- At no place more parties wait than did.
  roomy_back : (k : ℕ) → get_or (map count_of rows) k 0 ≤ room
  roomy_back k =
      let within : count_of (row k) ≤ get_or was.counts k 0 = count_within _ _ _ _ _ in
      ⊎_elim
      (λ h. rw (at_row count_of k h) (omega (arith, within, sound.roomy k)))
      (λ h. rw (get_or-eq_default (map count_of rows) 0 {n = k} (omega (arith, long_back count_of, h))) (omega arith))
      (lt_or k places)

  -- The gathered columns are sound.
  sound_back : SoundTable back
  sound_back = record {
    ids-long = long_back number_of;
    asked_long = long_back word_in;
    callers_long = long_back caller_of;
    deadlines_long = long_back deadline_of;
    counts_long = long_back count_of;
    clients-long = sound.clients-long;
    originals_long = sound.originals_long;
    within = sound.within;
    low = rw ids_back sound.low;
    above = rw ids_back sound.above;
    roomy = roomy_back;
    proper = λ k. rw ids_back (λ live. rw (word_back k (live_low k live) live) (sound.proper k live));
  }
    where
      -- only a place of the table is live
      live_low : (k : ℕ) → (get_or was.ids k 0 ≡ 0 → ⊥) → k < places
      live_low k live = ⊎_elim (λ l. l) (λ l. absurd (live (sound.above k (omega (arith, sound.within, l))))) (lt_or k places)

  -- The gathered state is the machine that the device is.
  pub machine_back : machine_of (state_of (gathered d)) ≡ machine_of (columned d)
  machine_back = ap (λ t. machine (book (value_in d.settings) t d.table.cursor d.clock) d.attached (machine_of (columned d)).cache) table_back

  -- And it is sound.
  pub made_back : MadeState (gathered d)
  made_back = record { table = sound_back; cursor = sounds.cursor; attached = sounds.attached; settings = sounds.settings; cache = sounds.cache }
