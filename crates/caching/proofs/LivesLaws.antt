-- The walk over the tag words from the first that does not end before a range: its turns, and what it comes to.
-- Assumes nothing.
use Prim.Native.Nat.{ℕ, ◌+◌, ◌≤◌, ◌<◌, min}
use mathlib.Core.Path.{◌≡◌, refl, ap, sym, ◌∙◌}
use mathlib.Core.Bool.{true, false, cond}
use mathlib.Core.Option as maybe_lib
use mathlib.Core.List.{List, ◌∷◌, map}
use native.Mathlib.Numerals.{add-one}
use native.Mathlib.Omega.{arith}
use lib.ListN.{length, get_or, drop, drop_of_length-le}
use lib.Seq.{drop-cons}
use borrow.Author.Tests.{leb-true, leb-false, lt-leb, lt-ltb, le-ltb, ltb-true, ne_eqb}
use lib.Dec.{eqb, ltb}
use mathlib.Core.Logic.{⊎_elim}
use Rattle.laws.proofs.Choice.{lt_or, and_right}
use Rattle.std.specs.Prelude.{Option, Some, None, IfSome}
use Rattle.laws.specs.Options.{maybe, place_or}
use Rattle.laws.specs.Search.{first}
use Rattle.laws.proofs.SearchLaws.{first_le, first-before, first-here}
use Rattle.settings.specs.Grammar.{Tag}
use Rattle.settings.specs.TagWords.{tag_of, last_of}
use Rattle.rewrite.specs.inner.Lent.{TagList, reaches}
use Rattle.rewrite.proofs.TableLaws.{tag_at, length-tags}
use Rattle.pdu.specs.declared.Table.TheVariants.{Registers}
use Rattle.pdu.specs.declared.Asked.TheVariants.{Read}
use Rattle.cache.specs.Life.{ttl_of, cacheable_by, life_by}
use Rattle.cache.proofs.TilingLaws.{lower, is_next, tiled, life_or_none, life_tiled, life-none, life-some, walk_none}

module _ (words : List ℕ) (w : TagList words) (s q : ℕ) where
  -- the tag at a place, and the tags from there on
  abbrev tag : ℕ → Tag
  tag i = tag_of (get_or words i 0)

  abbrev rest : ℕ → List Tag
  rest i = drop i (map tag_of words)

  size : length (map tag_of words) ≡ length words
  size = length-tags words w

  rest_more : (i : ℕ) → i < length words → rest i ≡ tag i ∷ rest (i + 1)
  rest_more i l =
      drop-cons (map tag_of words) i (tag_of 0) (omega (arith, size))
      ∙ rw (tag_at words i, add-one i)

  -- it starts at the first tag that reaches the range
  pub life_starts : {i : ℕ} → i ≡ first (reaches words s) (length words) → life_or_none s q (map tag_of words) ≡ tiled s (s + q) 0 (rest i)
  life_starts {i} e =
      let le = first_le (reaches words s) (length words) in
      life_tiled s q (map tag_of words) 0 i (tag_of 0) w.ascending
      (λ k h. rw (tag_at words k) (leb-false s (last_of (tag k)) (first-before (reaches words s) (length words) k (omega arith))))
      (λ h.
      let l : i < length words = omega (arith, size) in
      rw (tag_at words i) (leb-true s (last_of (tag i)) (rw e (first-here (reaches words s) (length words) (omega arith)))))

  -- A turn, at the register `at` with the life so far.
  module _ (i at life : ℕ) (e : life_or_none s q (map tag_of words) ≡ tiled at (s + q) life (rest i)) where
    pub life_ends : s + q ≤ at → life ≡ life_or_none s q (map tag_of words)
    life_ends h = sym (e ∙ walk_none (rest i) at life h)

    module _ (h : at < s + q) where
      -- no tag is left
      pub life_short : length words ≤ i → 0 ≡ life_or_none s q (map tag_of words)
      unfolding tiled
      life_short l = let g : length (map tag_of words) ≤ i = omega (arith, size) in sym (e ∙ rw (drop_of_length-le (map tag_of words) g, lt-leb (s + q) at h))

      -- the tag there is not the next
      pub life_stops : i < length words → is_next at (s + q) (tag i) ≡ false → 0 ≡ life_or_none s q (map tag_of words)
      unfolding tiled
      life_stops l f = sym (e ∙ rw (rest_more i l) (rw (lt-leb (s + q) at h, f)))

      -- it is
      pub life_goes : i < length words → is_next at (s + q) (tag i) ≡ true → life_or_none s q (map tag_of words) ≡ tiled (last_of (tag i) + 1) (s + q) (lower life (ttl_of (tag i))) (rest (i + 1))
      unfolding tiled
      life_goes l f = e ∙ rw (rest_more i l) (rw (lt-leb (s + q) at h, f))

-- what the walk found is 0 for none, and any life is above that
module _ (words : List ℕ) (s q : ℕ) where
  -- The life as an option.
  abbrev pub life_maybe : maybe_lib.Option ℕ
  life_maybe = cond (cacheable_by (map tag_of words) (Read Registers s q)) (maybe_lib.some (life_by (map tag_of words) (Read Registers s q))) maybe_lib.none

  pub no_life : 0 ≡ life_or_none s q (map tag_of words) → maybe_lib.none ≡ life_maybe
  no_life e = rw (life-none s q (map tag_of words) (sym e)) refl

  pub some_life : (o : Option ℕ) → IfSome o (λ n. 0 < n) → place_or 0 o ≡ life_or_none s q (map tag_of words) → maybe o ≡ life_maybe
  some_life None l e = no_life e
  some_life (Some n) l e =
      let x = life-some s q (map tag_of words) (λ z. omega arith) in
      rw x.0 (ap maybe_lib.some (e ∙ x.1))

lower_min : (n ttl : ℕ) → 0 < n → lower n ttl ≡ min n ttl
lower_min n ttl h =
    rw (ne_eqb n 0 (λ z. omega arith))
    (⊎_elim (λ (l : ttl < n). rw (lt-ltb ttl n l) (omega arith)) (λ (l : n ≤ ttl). rw (le-ltb ttl n l) (omega arith)) (lt_or ttl n))

-- the next tag has a ttl
pub next_lives : (at end : ℕ) (t : Tag) → is_next at end t ≡ true → 0 < ttl_of t
next_lives at end t n = ltb-true 0 (ttl_of t) (and_right (ltb (last_of t) end) _ (and_right (eqb t.address at) _ n))

-- one more ttl lowers what was found so far, which stays above 0
abbrev pub Lowered : Option ℕ → ℕ → Option ℕ → Type 0
Lowered o ttl r = IfSome r (λ n. 0 < n) × (lower (place_or 0 o) ttl ≡ place_or 0 r)

pub lowered-none : (o r : Option ℕ) (ttl : ℕ) → o ≡ None → r ≡ Some ttl → 0 < ttl → Lowered o ttl r
lowered-none o r ttl e f h = rw (e, f) (h, refl)

pub lowered-some : (o r : Option ℕ) (ttl n m : ℕ) → o ≡ Some n → r ≡ Some m → m ≡ min n ttl → IfSome o (λ n. 0 < n) → 0 < ttl → Lowered o ttl r
lowered-some o r ttl n m e f i l h =
    let k : 0 < n = rw e at l in
    rw (e, f) (omega arith, lower_min n ttl k ∙ sym i)
