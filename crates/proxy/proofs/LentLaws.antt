-- A state with some fields lent: lent its own fields it is as it was, and what is lent is what it then has.
-- Assumes nothing.
use Prim.Native.Nat.{ℕ}
use mathlib.Core.Path.{◌≡◌, refl}
use mathlib.Core.List.{List}
use Rattle.table.specs.Columns.{Columns}
use Rattle.proxy.specs.State.{KeptSettings, State, lent_set, lent_parties, lent_ids, lent_table, lent_kept}

module _ (s : State) where
  -- its table as it is
  abbrev own : Columns
  own = s.table

  pub set_own : lent_set s s.attached ≡ s
  set_own = refl

  pub parties_own : lent_parties s own.counts own.clients own.originals own.top s.attached ≡ s
  parties_own = refl

  pub ids_own : lent_ids s own.ids own.top s.attached s.cache ≡ s
  ids_own = refl

  pub table_own : lent_table s own.ids own.asked own.callers own.deadlines own.counts own.clients own.originals own.top s.clock ≡ s
  table_own = refl

  pub kept_own : let k = s.settings in lent_kept s own.ids own.asked own.callers own.deadlines own.counts own.clients own.originals own.top s.clock k.timeout k.join k.tag_count k.tag_words s.cache s.shown ≡ s
  kept_own = refl

  module _ (top attached : ℕ) where
    pub set-lent : (lent_set s attached).attached ≡ attached
    set-lent = refl

    pub parties-lent : (counts clients originals : List ℕ) → let l = lent_parties s counts clients originals top attached in
        (l.table.counts ≡ counts) × (l.table.clients ≡ clients) × (l.table.originals ≡ originals) × (l.table.top ≡ top) × (l.attached ≡ attached)
    parties-lent counts clients originals = (refl, refl, refl, refl, refl)

    pub ids-lent : (ids cache : List ℕ) → let l = lent_ids s ids top attached cache in (l.table.ids ≡ ids) × (l.table.top ≡ top) × (l.attached ≡ attached) × (l.cache ≡ cache)
    ids-lent ids cache = (refl, refl, refl, refl)

  pub table-lent : (c : Columns) (clock : ℕ)
      → let l = lent_table s c.ids c.asked c.callers c.deadlines c.counts c.clients c.originals c.top clock in (l.table ≡ c) × (l.clock ≡ clock)
  table-lent c clock = (refl, refl)

  pub kept_lent : (c : Columns) (clock : ℕ) (k : KeptSettings) (cache shown : List ℕ)
      → let l = lent_kept s c.ids c.asked c.callers c.deadlines c.counts c.clients c.originals c.top clock k.timeout k.join k.tag_count k.tag_words cache shown in
      (l.table ≡ c) × (l.clock ≡ clock) × (l.settings ≡ k) × (l.cache ≡ cache) × (l.shown ≡ shown)
  kept_lent c clock k cache shown = (refl, refl, refl, refl, refl)
