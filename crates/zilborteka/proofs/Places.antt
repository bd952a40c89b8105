-- A device's live places in its own fields: which they are, and what the machine that the device is holds there.
-- Assumes nothing.
use Prim.Native.Nat.{ℕ, ◌-◌, ◌≤◌, ◌<◌}
use mathlib.Core.Path.{◌≡◌, refl, ap, sym, ◌∙◌}
use mathlib.Core.Logic.{⊎_elim, ◌↔◌}
use mathlib.Core.Option.{some, none-ne-some}
use native.Mathlib.Omega.{arith}
use lib.ListN.{get_or, get_or-eq_default}
use borrow.Author.Tests.{eq-eqb}
use Rattle.numbers.specs.Numbers.{places}
use Rattle.laws.proofs.Choice.{lt_or}
use Rattle.laws.proofs.ListLaws.{length-tab}
use Rattle.pdu.specs.declared.What.{What}
use Rattle.book.specs.Book.{Live, at}
use Rattle.book.specs.Traced.{Holds}
use Rattle.book.proofs.PlaceLaws.{at_low}
use Rattle.machine.specs.Machine.{Note}
use Rattle.machine.proofs.Follows.{same-entry}
use Rattle.table.specs.Columns.{entry_at, table_of}
use Rattle.table.proofs.EntryLaws.{table_at, held, live_at}
use Rattle.proxy.specs.declared.Device.{Device}
use Rattle.proxy.specs.State.{state_of}
use Rattle.device.specs.Device.{MadeDevice}
use Rattle.zilborteka.specs.Lives.{machine_in, LiveIn}
use Rattle.zilborteka.specs.Cached.{cache_in}

-- The machine that a device is has the device's own set of clients, cursor, clock and cache.
pub own_fields : (d : Device)
    → ((machine_in d).attached ≡ d.attached) × ((machine_in d).book.cursor ≡ d.table.cursor) × ((machine_in d).book.clock ≡ d.clock) × ((machine_in d).cache ≡ cache_in d)
unfolding machine_in
own_fields d = (refl, refl, refl, refl)

module _ (d : Device) (made : MadeDevice d) where
  -- A place whose id is not 0 is live, and holds what its columns say.
  pub place_live : (k : ℕ) → (get_or d.table.ids k 0 ≡ 0 → ⊥) → at (machine_in d).book k ≡ some (held (state_of d).table k)
  unfolding machine_in
  place_live k n =
      live_at (state_of d).table k
      (⊎_elim (λ z. z) (λ (z : places ≤ k). absurd (n (get_or-eq_default d.table.ids 0 (rw made.table.ids-long z)))) (lt_or k places)) n

  -- And no other place is.
  live_place_lem : (k : ℕ) (e : Live What Note) → at (machine_in d).book k ≡ some e → (get_or d.table.ids k 0 ≡ 0 → ⊥) × (held (state_of d).table k ≡ e)
  unfolding machine_in table_of
  live_place_lem k e h =
      let l : k < places = rw (length-tab places (entry_at (state_of d).table)) at (at_low (table_of (state_of d).table) k e h) in
      let n : get_or d.table.ids k 0 ≡ 0 → ⊥ = λ z. none-ne-some e (sym (table_at (state_of d).table k l ∙ rw (eq-eqb (get_or d.table.ids k 0) 0 z)) ∙ h) in
      (n, same-entry (sym (live_at (state_of d).table k l n) ∙ h))

  -- What the machine that a device is holds under an id stands in the device's columns.
  pub live_in : (id : ℕ) (w : What) (c u : ℕ) → LiveIn d id w c u ↔ Holds (machine_in d).book id w c u
  live_in id w c u = (
    λ l. let y = l.1 in (l.0, held (state_of d).table l.0, place_live l.0 (λ z. omega arith), omega arith, l.2, l.3, l.4),
    λ h.
        let p = live_place_lem h.0 h.1 h.2 in
        let n = p.0 in
        let e = p.1 in
        let i : get_or d.table.ids h.0 0 - 1 ≡ id = ap (λ (x : Live What Note). x.id) e ∙ h.3 in
        (h.0, omega arith, ap (λ (x : Live What Note). x.what) e ∙ h.4, ap (λ (x : Live What Note). x.by) e ∙ h.5, ap (λ (x : Live What Note). x.deadline) e ∙ h.6),
  )
