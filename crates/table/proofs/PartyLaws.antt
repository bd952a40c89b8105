-- Parties in the columns: what one store more makes of a place's parties, and how parties are written out as pairs.
-- Assumes nothing.
use Prim.Native.Nat.{ℕ, ◌+◌, ◌*◌, ◌≤◌, ◌<◌}
use mathlib.Core.Path.{◌≡◌, refl, ap, sym, ◌∙◌}
use mathlib.Core.List.{List, [], ◌∷◌, ◌++◌, append_assoc, flat_map}
use native.Mathlib.Omega.{arith}
use lib.ListN.{length, get_or, set, length-set, length-append}
use lib.Seq.{get_or-set_same, get_or-set_other}
use Rattle.numbers.specs.Numbers.{places, room}
use Rattle.laws.specs.Lists.{tab}
use Rattle.laws.specs.Bytes.{over}
use Rattle.laws.proofs.ListLaws.{tab_ext, tab_more, length-tab, flat_map_append}
use Rattle.book.specs.Book.{Party}
use Rattle.machine.specs.Replies.{pairs}
use Rattle.table.specs.Columns.{party, run, parties_at}
use Rattle.table.specs.inner.Changes.{Runs, Joined, Alike}
use Rattle.laws.proofs.StoreLaws.{set_each}
use Rattle.laws.proofs.ByteLaws.{over_more}

-- a run stays where its columns do
pub run-same : (cs os cs' os' : List ℕ) (base n : ℕ) → ((j : ℕ) → j < n → Alike cs os cs' os' (base + j)) → run cs' os' base n ≡ run cs os base n
run-same cs os cs' os' base n h = tab_ext n _ _ (λ j l. rw ((h j l).0, (h j l).1))

-- a store of one party
module _ (cs os : List ℕ) (at client original : ℕ) where
  -- what had stayed elsewhere stays
  pub alike_put : (cs₀ os₀ : List ℕ) (i : ℕ) → (i ≡ at → ⊥) → Alike cs₀ os₀ cs os i → Alike cs₀ os₀ (set cs at client) (set os at original) i
  alike_put cs₀ os₀ i ne a = (get_or-set_other cs at i client 0 ne ∙ a.0, get_or-set_other os at i original 0 ne ∙ a.1)

  -- a run that does not reach it stays
  pub run_apart : (base n : ℕ) → ((j : ℕ) → j < n → base + j ≡ at → ⊥) → run (set cs at client) (set os at original) base n ≡ run cs os base n
  run_apart base n h = run-same cs os (set cs at client) (set os at original) base n (λ j l. alike_put cs os (base + j) (h j l) (refl, refl))

  -- a run that it follows has one party more
  pub run_put : (base n : ℕ) → at ≡ base + n → at < length cs → at < length os
      → run (set cs at client) (set os at original) base (n + 1) ≡ run cs os base n ++ (party client original ∷ [])
  run_put base n e hc ho =
      tab_more n (λ j. party (get_or (set cs at client) (base + j) 0) (get_or (set os at original) (base + j) 0))
      ∙ rw (run_apart base n (λ j l z. omega arith), ← e, get_or-set_same cs at client 0 hc, get_or-set_same os at original 0 ho)

-- a party stored behind the n that a place has, with its count
module _ (place n client original : ℕ) (ns cs os : List ℕ) (r : Runs ns cs os) (low : place < places) (free : n < room) where
  -- the place has them and the new one
  pub put_here : parties_at (set ns place (n + 1)) (set cs (place * room + n) client) (set os (place * room + n) original) place ≡ run cs os (place * room) n ++ (party client original ∷ [])
  put_here =
      let a = r.counts_long in
      let b = r.clients-long in
      let d = r.originals_long in
      rw (get_or-set_same ns place (n + 1) 0 (omega arith)) (run_put cs os (place * room + n) client original (place * room) n refl (omega arith) (omega arith))

  -- another place has the parties that it had
  pub put_elsewhere : (k : ℕ) → (k ≡ place → ⊥)
      → parties_at (set ns place (n + 1)) (set cs (place * room + n) client) (set os (place * room + n) original) k ≡ parties_at ns cs os k
  put_elsewhere k ne =
      let m = r.roomy k in
      rw (get_or-set_other ns place k (n + 1) 0 ne) (run_apart cs os (place * room + n) client original (k * room) (get_or ns k 0) (λ j l z. ne (omega arith)))

  -- and no place has too many
  pub put_runs : Runs (set ns place (n + 1)) (set cs (place * room + n) client) (set os (place * room + n) original)
  put_runs = record {
    counts_long = length-set ns place (n + 1) ∙ r.counts_long;
    clients-long = length-set cs (place * room + n) client ∙ r.clients-long;
    originals_long = length-set os (place * room + n) original ∙ r.originals_long;
    roomy = set_each (λ k x. x ≤ room) ns place (n + 1) (let a = r.counts_long in omega arith) (omega arith) (λ k ne. r.roomy k);
  }

-- a party stored behind those that are there is one party more
pub joined : (place client original : ℕ) (ns cs os : List ℕ) → Runs ns cs os → place < places → get_or ns place 0 < room
    → Joined place (party client original) ns cs os (set ns place (get_or ns place 0 + 1)) (set cs (place * room + get_or ns place 0) client)
    (set os (place * room + get_or ns place 0) original)
joined place client original ns cs os r low free = record {
  here = put_here place (get_or ns place 0) client original ns cs os r low free;
  elsewhere = put_elsewhere place (get_or ns place 0) client original ns cs os r low free;
  runs = put_runs place (get_or ns place 0) client original ns cs os r low free;
}

-- parties as pairs are twice as many numbers
length_pairs : (ps : List Party) → length (pairs ps) ≡ 2 * length ps
unfolding flat_map
length_pairs [] = omega arith
length_pairs (p ∷ ps) = let i = length_pairs ps in omega arith

-- one party more is its client and then its original id
pairs_more : (ps : List Party) (p : Party) → pairs (ps ++ (p ∷ [])) ≡ (pairs ps ++ (p.client ∷ [])) ++ (p.original ∷ [])
unfolding flat_map
pairs_more ps p = flat_map_append (λ (q : Party). q.client ∷ q.original ∷ []) ps (p ∷ []) ∙ sym (append_assoc (pairs ps) (p.client ∷ []) (p.original ∷ []))

module _ (cs os : List ℕ) (base : ℕ) where
  -- nothing is handed out yet
  pub handed_none : (l : List ℕ) → l ≡ over (pairs (run cs os base 0)) l
  unfolding tab flat_map
  handed_none l = refl

  -- one party more is handed out
  pub handed_more : (l₀ l l' : List ℕ) (j c : ℕ) → c ≡ get_or cs (base + j) 0 → l' ≡ set (set l (2 * j) c) (2 * j + 1) (get_or os (base + j) 0) → 2 * j + 1 < length l₀
      → l ≡ over (pairs (run cs os base j)) l₀
      → l' ≡ over (pairs (run cs os base (j + 1))) l₀
  handed_more l₀ l l' j c q p h e =
      let w = pairs (run cs os base j) in
      let n : length w ≡ 2 * j = length_pairs (run cs os base j) ∙ ap (2 *◌) (length-tab j _) in
      rw (
        p,
        e,
        over_more w l₀ (2 * j) c n (omega arith),
        over_more (w ++ (c ∷ [])) l₀ (2 * j + 1) (get_or os (base + j) 0) (length-append w (c ∷ []) ∙ ap (◌+ 1) n) h,
        q,
      )
      (ap (λ m. over m l₀) (sym (ap pairs (tab_more j _) ∙ pairs_more (run cs os base j) (party (get_or cs (base + j) 0) (get_or os (base + j) 0)))))
