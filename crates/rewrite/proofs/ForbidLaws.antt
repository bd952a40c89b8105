-- The loop over the tag words that looks for a tag which forbids a write: tags outside the run forbid nothing, and one of the others that does decides. And the search for a tag that has a register: the first that
-- does not end before it decides.
-- Assumes nothing.
use Prim.Native.Nat.{ℕ, ◌+◌, ◌≤◌, ◌<◌}
use mathlib.Core.Path.{◌≡◌, refl, sym}
use mathlib.Core.Logic.{⊎_elim}
use mathlib.Core.Bool.{true, false, and-false}
use mathlib.Core.List.{List, [], ◌∷◌, map, Memᴰ}
use native.Mathlib.Omega.{arith}
use lib.ListN.{length, get_or}
use lib.Dec.{eqb, leb}
use borrow.Author.Tests.{le-leb, leb-true}
use Rattle.laws.specs.Search.{first}
use Rattle.laws.proofs.Choice.{true_or, lt_or, same_test}
use Rattle.laws.proofs.SearchLaws.{first-here}
use Rattle.settings.specs.Grammar.{Tag}
use Rattle.settings.specs.TagWords.{tag_of, last_of}
use Rattle.rewrite.specs.declared.Way.TheVariants.{ToBcd}
use Rattle.rewrite.specs.Rewriting.{verdict}
use Rattle.rewrite.specs.Rewriting.Verdict.{outside}
use Rattle.rewrite.specs.Legal.{forbids, some_forbids, some_has}
use Rattle.rewrite.specs.inner.Lent.{TagList, reaches}
use Rattle.rewrite.proofs.VerdictLaws.{verdict-before, verdict-behind}
use Rattle.rewrite.proofs.TableLaws.{tag_placed, tag_in, tag-before, tag-behind, owner}
use Rattle.rewrite.proofs.StrictLaws.{in_some, has_exactly}

-- a tag outside the run forbids nothing
outside_allows : (start : ℕ) (rs : List ℕ) (t : Tag) → verdict ToBcd start rs t ≡ outside → forbids start rs t ≡ false
unfolding forbids
outside_allows start rs t e = rw e (and-false (eqb t.strict 1))

none_forbid : (start : ℕ) (rs : List ℕ) (tags : List Tag) → ((t : Tag) → Memᴰ t tags → forbids start rs t ≡ false) → some_forbids start rs tags ≡ false
unfolding some_forbids
none_forbid start rs [] h = refl
none_forbid start rs (t ∷ ts) h = rw (h t (Memᴰ.head refl)) (none_forbid start rs ts (λ u m. h u (Memᴰ.tail m)))

-- none of the first i tags forbids
abbrev pub NoneBelow : (start : ℕ) (rs words : List ℕ) (i : ℕ) → Type 0
NoneBelow start rs words i = (k : ℕ) → k < i → forbids start rs (tag_of (get_or words k 0)) ≡ false

module _ (start : ℕ) (rs : List ℕ) (words : List ℕ) (w : TagList words) where
  -- No tag before the first that reaches the run forbids.
  pub forbid_start : (i : ℕ) → i ≡ first (reaches words start) (length words) → NoneBelow start rs words i
  forbid_start i e k h =
      let t = tag_of (get_or words k 0) in outside_allows start rs t (verdict-before ToBcd start rs t (tag-before words w start k (omega arith)))

  module _ (i : ℕ) (below : NoneBelow start rs words i) where
    -- One tag more that does not.
    pub forbid_more : forbids start rs (tag_of (get_or words i 0)) ≡ false → NoneBelow start rs words (i + 1)
    forbid_more e k h = ⊎_elim (λ (l : k < i). below k l) (λ (l : i ≤ k). let j : k ≡ i = omega arith in rw j e) (lt_or k i)

    -- Nor does one behind a tag that lies behind the run.
    pub forbid_done : (i < length words → start + length rs ≤ (tag_of (get_or words i 0)).address) → false ≡ some_forbids start rs (map tag_of words)
    forbid_done behind = sym (none_forbid start rs (map tag_of words) (λ t m.
        let s = tag_placed words w t m in
        let k = s.0 in
        let u = tag_of (get_or words k 0) in
        rw s.2 (⊎_elim
        (λ (l : k < i). below k l)
        (λ (l : i ≤ k). outside_allows start rs u (verdict-behind ToBcd start rs u (tag-behind words w (start + length rs) i k (behind (omega (arith, s.1))) l s.1)))
        (lt_or k i))))

  -- A tag that forbids decides.
  pub forbid_found : (i : ℕ) → i < length words → forbids start rs (tag_of (get_or words i 0)) ≡ true → true ≡ some_forbids start rs (map tag_of words)
  forbid_found i l e = sym (in_some start rs (map tag_of words) (tag_of (get_or words i 0)) (tag_in words w i l) e)

module _ (words : List ℕ) (w : TagList words) (a i : ℕ) (e : i ≡ first (reaches words a) (length words)) where
  -- Where no tag reaches a register, none has it,
  pub has-none : length words ≤ i → false ≡ some_has a (map tag_of words)
  has-none l =
      ⊎_elim
      (λ (h : some_has a (map tag_of words) ≡ true). let s = (has_exactly a (map tag_of words)).0 h in let o = owner words w a i e s.0 s.1 s.2 in absurd (omega (arith, o.0)))
      (λ h. sym h)
      (true_or (some_has a (map tag_of words)))

  -- and else one has it exactly if the first that reaches it does not begin behind it.
  pub has_here : i < length words → leb (tag_of (get_or words i 0)).address a ≡ some_has a (map tag_of words)
  has_here l =
      let t = tag_of (get_or words i 0) in
      same_test _ _
      (λ h. (has_exactly a (map tag_of words)).1 (t, tag_in words w i l, (leb-true t.address a h, leb-true a (last_of t) (rw e (first-here (reaches words a) (length words) (rw (← e) l))))))
      (λ h. let s = (has_exactly a (map tag_of words)).0 h in let o = owner words w a i e s.0 s.1 s.2 in le-leb t.address a (rw (← o.1) s.2.0))
