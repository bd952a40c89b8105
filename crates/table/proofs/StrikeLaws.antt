-- Striking one client's parties out: of a run, one turn of the loop at a time, and of the places, one place at a time.
-- Assumes nothing.
use Prim.Native.Nat.{ℕ, ◌+◌, ◌*◌, ◌≤◌, ◌<◌}
use mathlib.Core.Path.{◌≡◌, refl, ap, sym, ◌∙◌}
use mathlib.Core.Logic.{⊎_elim}
use mathlib.Core.Bool.{true, false, not}
use mathlib.Core.List.{List, [], ◌∷◌, ◌++◌, append-nil}
use native.Mathlib.Omega.{arith}
use lib.ListN.{length, get_or, set, length-set}
use lib.Seq.{get_or-set_same, get_or-set_other}
use borrow.Author.Tests.{eq-eqb, ne_eqb}
use Rattle.numbers.specs.Numbers.{places, room}
use Rattle.laws.specs.Lists.{tab, filter}
use Rattle.laws.proofs.Choice.{eq_or}
use Rattle.laws.proofs.ListLaws.{tab_more}
use Rattle.laws.proofs.FilterLaws.{filter_append, filter-yes, filter_no}
use Rattle.book.specs.Book.{Party, is_of, without}
use Rattle.table.specs.Columns.{party, run, parties_at}
use Rattle.table.specs.inner.Changes.{Runs, Alike, StruckOut, Struck}
use Rattle.laws.proofs.StoreLaws.{set_each}
use Rattle.table.proofs.PartyLaws.{alike_put, run-same, run_put}

-- nothing is struck out of no parties
pub struck_out_none : (base client : ℕ) (cs os : List ℕ) → StruckOut base 0 client 0 cs os cs os
unfolding tab filter
struck_out_none base client cs os = record { fewer = omega arith; rest = refl; before = λ i h. (refl, refl); behind = λ i h. (refl, refl); long = (refl, refl) }

-- the turn at the party j, with w parties kept so far
module _ (base j client w : ℕ) (cs₀ os₀ cs os : List ℕ) (s : StruckOut base j client w cs₀ os₀ cs os) where
  abbrev here : Party
  here = party (get_or cs₀ (base + j) 0) (get_or os₀ (base + j) 0)

  one_more : run cs₀ os₀ base (j + 1) ≡ run cs₀ os₀ base j ++ (here ∷ [])
  one_more = tab_more j (λ i. party (get_or cs₀ (base + i) 0) (get_or os₀ (base + i) 0))

  -- a party of the client is left out
  pub struck_out_drop : get_or cs (base + j) 0 ≡ client → StruckOut base (j + 1) client w cs₀ os₀ cs os
  unfolding filter
  struck_out_drop e = record {
    fewer = let l = s.fewer in omega arith;
    rest =
        let o = s.behind (base + j) (omega arith) in
        let t : not (is_of client here) ≡ false = rw (eq-eqb (get_or cs₀ (base + j) 0) client (sym o.0 ∙ e)) in
        rw (one_more, filter_append (λ x. not (is_of client x)) (run cs₀ os₀ base j) (here ∷ []), filter_no (λ x. not (is_of client x)) here [] t, append-nil) s.rest;
    before = s.before;
    behind = λ i h. s.behind i (omega arith);
    long = s.long;
  }

  -- a party of another client is kept, behind those that were
  pub struck_out_keep : base + j < length cs → base + j < length os → (get_or cs (base + j) 0 ≡ client → ⊥)
      → StruckOut base (j + 1) client (w + 1) cs₀ os₀ (set cs (base + w) (get_or cs (base + j) 0)) (set os (base + w) (get_or os (base + j) 0))
  unfolding filter
  struck_out_keep hc ho ne =
      let l = s.fewer in
      let o = s.behind (base + j) (omega arith) in
      let t : not (is_of client here) ≡ true = rw (ne_eqb (get_or cs₀ (base + j) 0) client (λ z. ne (o.0 ∙ z))) in
      record {
        fewer = omega arith;
        rest =
            run_put cs os (base + w) (get_or cs (base + j) 0) (get_or os (base + j) 0) base w refl (omega arith) (omega arith)
            ∙ rw (
              o.0,
              o.1,
              s.rest,
              one_more,
              filter_append (λ x. not (is_of client x)) (run cs₀ os₀ base j) (here ∷ []),
              filter-yes (λ x. not (is_of client x)) here [] t,
            );
        before = λ i h. alike_put cs os (base + w) (get_or cs (base + j) 0) (get_or os (base + j) 0) cs₀ os₀ i (λ z. omega arith) (s.before i h);
        behind = λ i h. alike_put cs os (base + w) (get_or cs (base + j) 0) (get_or os (base + j) 0) cs₀ os₀ i (λ z. omega arith) (s.behind i (omega arith));
        long = (length-set cs (base + w) _ ∙ s.long.0, length-set os (base + w) _ ∙ s.long.1);
      }

-- the places below k are struck, and from k on the columns are as they were
pub record StruckTo (k client : ℕ) (ns₀ cs₀ os₀ ns cs os : List ℕ) : Type 0 where
  pub runs : Runs ns cs os
  pub done : (p : ℕ) → p < k → parties_at ns cs os p ≡ without (is_of client) (parties_at ns₀ cs₀ os₀ p)
  pub rest : (p : ℕ) → k ≤ p → get_or ns p 0 ≡ get_or ns₀ p 0
  pub far : (i : ℕ) → k * room ≤ i → Alike cs₀ os₀ cs os i

-- no place is struck yet
pub struck-none : (client : ℕ) (ns cs os : List ℕ) → Runs ns cs os → StruckTo 0 client ns cs os ns cs os
struck-none client ns cs os r = record { runs = r; done = λ p h. absurd (omega arith); rest = λ p h. refl; far = λ i h. (refl, refl) }

-- the turn at the place k, in whose run r parties are left
pub struck-next : (k client r : ℕ) (ns₀ cs₀ os₀ ns cs os cs' os' : List ℕ) → k < places → StruckTo k client ns₀ cs₀ os₀ ns cs os
    → StruckOut (k * room) (get_or ns k 0) client r cs os cs' os'
    → StruckTo (k + 1) client ns₀ cs₀ os₀ (set ns k r) cs' os'
struck-next k client r ns₀ cs₀ os₀ ns cs os cs' os' low t s =
    let m = t.runs.roomy k in
    let f = s.fewer in
    let lk : k < length ns = let e = t.runs.counts_long in omega arith in
    record {
      runs = record {
        counts_long = length-set ns k r ∙ t.runs.counts_long;
        clients-long = s.long.0 ∙ t.runs.clients-long;
        originals_long = s.long.1 ∙ t.runs.originals_long;
        roomy = set_each (λ p x. x ≤ room) ns k r lk (omega arith) (λ p ne. t.runs.roomy p);
      };
      done =
          λ p h. ⊎_elim
          (λ (q : p ≡ k). rw (q, get_or-set_same ns k r 0 lk)
          (s.rest ∙ ap (without (is_of client)) (run-same cs₀ os₀ cs os (k * room) (get_or ns k 0) (λ j l. t.far (k * room + j) (omega arith)) ∙ rw (t.rest k (omega arith)))))
          (λ (q : p ≡ k → ⊥). rw (get_or-set_other ns k p r 0 q)
          (run-same cs os cs' os' (p * room) (get_or ns p 0) (λ j l. s.before (p * room + j) (let n = t.runs.roomy p in omega (arith, q))) ∙ t.done p (omega (arith, q))))
          (eq_or p k);
      rest = λ p h. get_or-set_other ns k p r 0 (λ z. omega arith) ∙ t.rest p (omega arith);
      far = λ i h. ((s.behind i (omega arith)).0 ∙ (t.far i (omega arith)).0, (s.behind i (omega arith)).1 ∙ (t.far i (omega arith)).1);
    }

-- all places below top are struck
pub struck_all : (top client : ℕ) (ns₀ cs₀ os₀ ns cs os : List ℕ) → StruckTo top client ns₀ cs₀ os₀ ns cs os → Struck top client ns₀ cs₀ os₀ ns cs os
struck_all top client ns₀ cs₀ os₀ ns cs os t = record {
  below = λ k h. t.done k (omega arith);
  above = λ k h. run-same cs₀ os₀ cs os (k * room) (get_or ns k 0) (λ j l. t.far (k * room + j) (omega arith)) ∙ rw (t.rest k (omega arith));
  runs = t.runs;
}
