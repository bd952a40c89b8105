-- Every tag over a run of registers in a buffer, one after the other; tags outside the run may be left out.
-- Assumes nothing.
use Prim.Native.Nat.{ℕ, ◌+◌, ◌*◌, ◌-◌, ◌≤◌, ◌<◌}
use mathlib.Core.Path.{◌≡◌, refl, ap, sym, ◌∙◌}
use mathlib.Core.Logic.{⊎_elim}
use mathlib.Core.Bool.{Bool, true, false, true≢false}
use mathlib.Core.List.{List, [], ◌∷◌, ◌++◌, map, map-append, Memᴰ}
use native.Mathlib.Nat.{add-zero, zero-add}
use native.Mathlib.Numerals.{add-one}
use native.Mathlib.Omega.{arith}
use lib.ListN.{length, get_or, take, drop, length-map, length-take, length-drop, get_or-map}
use lib.Dec.{ltb}
use lib.Seq.{take-length, take-suc, take-add, get_or-take, get_or-drop, length-take-le}
use borrow.Author.Tests.{lt-leb, le-leb, leb-true, leb-false, ltb-true, ltb-false}
use Rattle.std.specs.List.Sorted.{IsPartitionedBy, IsPartitionPoint}
use Rattle.std.proofs.lemmas.List.Sorted.{IsPartitionedBy-ltb, IsNonDecreasingBy-from_default}
use Rattle.laws.specs.Lists.{filter}
use Rattle.laws.specs.Search.{first}
use Rattle.laws.proofs.Choice.{lt_or}
use Rattle.laws.proofs.FilterLaws.{filter_none, filter-count}
use Rattle.laws.proofs.SearchLaws.{first-before, first_le, first-here, first_is}
use Rattle.settings.specs.Grammar.{Tag}
use Rattle.settings.specs.TagWords.{tag_of, last_of, Ascending}
use Rattle.rewrite.specs.declared.Way.{Way}
use Rattle.rewrite.specs.Registers.{registers_at}
use Rattle.rewrite.specs.Rewriting.{Verdict, is_raw_partial, is_raw_value, verdict, laid_by, rewritten_from, rewritten, partials, values, Rewritten, with_counts, rewriting}
use Rattle.rewrite.specs.Rewriting.Verdict.{outside}
use Rattle.rewrite.specs.Plain.{Has}
use Rattle.rewrite.specs.inner.Lent.{tags_of, TagList, reaches}
use Rattle.laws.proofs.MemberLaws.{mem-place, place-mem}
use Rattle.rewrite.proofs.RegisterLaws.{length-registers, registers-below, registers-laid, laid-registers, laid-laid}
use Rattle.rewrite.proofs.OrderLaws.{first_last, ascending_front, ascending_across, ascending_at}
use Rattle.rewrite.proofs.VerdictLaws.{verdict-before, verdict-behind, verdict_own}
use Rattle.rewrite.proofs.RunLaws.{length-rewritten, below-rewritten, own_same, counts_most}

-- one list of tags after another
module _ (way : Way) (start : ℕ) (came : List ℕ) where
  from_append : (ts us : List Tag) (rs : List ℕ) → rewritten_from way start came (ts ++ us) rs ≡ rewritten_from way start came us (rewritten_from way start came ts rs)
  unfolding rewritten_from
  from_append [] us rs = refl
  from_append (t ∷ ts) us rs = from_append ts us (laid_by (verdict way start came t) (t.address - start) rs)

  partials_append : (ts us : List Tag) → partials way start (ts ++ us) came ≡ partials way start ts came + partials way start us came
  unfolding partials
  partials_append = filter-count (λ t. is_raw_partial (verdict way start came t))

  values_append : (ts us : List Tag) → values way start (ts ++ us) came ≡ values way start ts came + values way start us came
  unfolding values
  values_append = filter-count (λ t. is_raw_value (verdict way start came t))

  -- tags outside do nothing and count nowhere
  module _ (us : List Tag) (out : (u : Tag) → Memᴰ u us → verdict way start came u ≡ outside) where
    count_idle : (test : Verdict → Bool) → test outside ≡ false → length (filter (λ t. test (verdict way start came t)) us) ≡ 0
    count_idle test e = ap length (filter_none (λ t. test (verdict way start came t)) us (λ u m. ap test (out u m) ∙ e))

    partials_idle : partials way start us came ≡ 0
    unfolding partials
    partials_idle = count_idle is_raw_partial refl

    values_idle : values way start us came ≡ 0
    unfolding values
    values_idle = count_idle is_raw_value refl

  from_idle : (us : List Tag) (rs : List ℕ) → ((u : Tag) → Memᴰ u us → verdict way start came u ≡ outside) → rewritten_from way start came us rs ≡ rs
  unfolding rewritten_from laid_by
  from_idle [] rs out = refl
  from_idle (u ∷ us) rs out = rw (out u (Memᴰ.head refl)) (from_idle us rs (λ v m. out v (Memᴰ.tail m)))

  -- one tag alone, over other registers that give it the same verdict
  alone : (rs : List ℕ) (t : Tag) → verdict way start rs t ≡ verdict way start came t
      → (partials way start (t ∷ []) rs ≡ partials way start (t ∷ []) came) × (values way start (t ∷ []) rs ≡ values way start (t ∷ []) came) × (rewritten way start (t ∷ []) rs ≡ rewritten_from way start came (t ∷ []) rs)
  unfolding partials values filter rewritten_from
  alone rs t e = (rw e, rw e, rw e)

-- what two rewritings, the second over what the first left, come to
abbrev pub and_then : Rewritten → Rewritten → Rewritten
and_then x y = with_counts (x.partial + y.partial) (x.value + y.value) y.bytes

module _ (way : Way) (base start q : ℕ) (d : List ℕ) where
  abbrev run : List ℕ
  run = registers_at base q d

  -- Tags behind that lie outside the run change nothing.
  pub idle_behind : (ts us : List Tag) → ((u : Tag) → Memᴰ u us → verdict way start run u ≡ outside)
      → rewriting way base start q (ts ++ us) d ≡ rewriting way base start q ts d
  unfolding rewriting
  idle_behind ts us out =
      rw (
        partials_append way start run ts us,
        values_append way start run ts us,
        from_append way start run ts us run,
        partials_idle way start run us out,
        values_idle way start run us out,
        from_idle way start run us (rewritten way start ts run) out,
        add-zero (partials way start ts run),
        add-zero (values way start ts run),
      )

  -- Nor does a tag in front that lies outside it.
  pub idle_before : (u : Tag) (ts : List Tag) → verdict way start run u ≡ outside → rewriting way base start q (u ∷ ts) d ≡ rewriting way base start q ts d
  unfolding rewriting partials values filter rewritten_from laid_by
  idle_before u ts e = rw e

  module _ (bytes : (i : ℕ) → get_or d i 0 < 256) where
    -- Without tags nothing changes.
    pub idle_none : rewriting way base start q [] d ≡ with_counts 0 0 d
    unfolding rewriting partials values filter rewritten_from
    idle_none = ap (with_counts 0 0) (laid-registers base q d bytes)

    module _ (room : base + 2 * q ≤ length d) (ts : List Tag) where
      -- The registers of a buffer that was rewritten are the registers rewritten.
      pub registers-after : registers_at base q (rewriting way base start q ts d).bytes ≡ rewritten way start ts run
      unfolding rewriting
      registers-after =
          let l : length (rewritten way start ts run) ≡ q = length-rewritten way start ts run ∙ length-registers base q d in
          rw l at (registers-laid base (rewritten way start ts run) d (omega arith) (below-rewritten way start ts run (registers-below base q d bytes)))

      -- One more tag is that tag alone over the buffer as it is by then, with both counts added.
      pub one_more : (t : Tag) (from : ℕ) → Ascending from (ts ++ (t ∷ []))
          → rewriting way base start q (ts ++ (t ∷ [])) d ≡ and_then (rewriting way base start q ts d) (rewriting way base start q (t ∷ []) (rewriting way base start q ts d).bytes)
      unfolding rewriting
      one_more t from asc =
          let rs = rewritten way start ts run in
          let v : verdict way start rs t ≡ verdict way start run t =
          verdict_own way start rs run t (length-rewritten way start ts run) (λ w.
          own_same way start ts run t (rw (length-rewritten way start ts run) at w) (λ u ws x m e h g.
          omega (arith, ascending_across from ts (t ∷ []) u t asc m (Memᴰ.head refl), h.0, g.1))) in
          let a = alone way start run rs t v in
          rw (
            registers-after,
            laid-laid base rs (rewritten way start (t ∷ []) rs) d (sym (length-rewritten way start (t ∷ []) rs)),
            partials_append way start run ts (t ∷ []),
            values_append way start run ts (t ∷ []),
            from_append way start run ts (t ∷ []) run,
            a.0,
            a.1,
            a.2,
          )

-- TAG WORDS, AND THE LOOPS OVER THEM

-- one word more, and the words from a place on
tags_more : (words : List ℕ) (i : ℕ) → i < length words → tags_of (i + 1) words ≡ tags_of i words ++ (tag_of (get_or words i 0) ∷ [])
tags_more words i h = rw (add-one i, take-suc words i 0 h) (map-append tag_of (take i words) (get_or words i 0 ∷ []))

tags-split : (words : List ℕ) (i m : ℕ) → tags_of (i + m) words ≡ tags_of i words ++ map tag_of (take m (drop i words))
tags-split words i m = rw (take-add i m words) (map-append tag_of (take i words) (take m (drop i words)))

pub all_words : (words : List ℕ) → tags_of (length words) words ≡ map tag_of words
all_words words = ap (map tag_of) (take-length words)

-- the tag at a place, and the place of a tag
pub tag_at : (words : List ℕ) (i : ℕ) → get_or (map tag_of words) i (tag_of 0) ≡ tag_of (get_or words i 0)
tag_at words i = get_or-map tag_of words i 0

pub tag-place : (words : List ℕ) (i m : ℕ) (t : Tag) → Memᴰ t (map tag_of (take m (drop i words))) → (k : ℕ) × (k < m) × (t ≡ tag_of (get_or words (i + k) 0))
tag-place words i m t e =
    let s = mem-place t (tag_of 0) (map tag_of (take m (drop i words))) e in
    let k = s.0 in
    let l : k < m = omega (arith, s.1, length-map (take m (drop i words)) tag_of, length-take m (drop i words)) in
    (k, l, s.2 ∙ get_or-map tag_of (take m (drop i words)) k 0 ∙ ap tag_of (get_or-take m (drop i words) k 0 l ∙ get_or-drop i words k 0))

module _ (words : List ℕ) (w : TagList words) where
  pub length-tags : length (map tag_of words) ≡ length words
  length-tags = length-map words tag_of

  -- the tags that any words of it are
  pub length-front : (i : ℕ) → i ≤ length words → length (tags_of i words) ≡ i
  length-front i h = length-map (take i words) tag_of ∙ length-take-le i words h

  -- a tag ends before every tag at a later place
  pub tag_order : (i j : ℕ) → i < j → j < length words → last_of (tag_of (get_or words i 0)) < (tag_of (get_or words j 0)).address
  tag_order i j h l =
      let o = ascending_at 0 (map tag_of words) (tag_of 0) i j w.ascending h (omega (arith, length-tags)) in
      rw (tag_at words i, tag_at words j) at o

  -- the tag at a place is one of the tags
  pub tag_in : (i : ℕ) → i < length words → Memᴰ (tag_of (get_or words i 0)) (map tag_of words)
  tag_in i h = rw (tag_at words i) at (place-mem (map tag_of words) i (tag_of 0) (omega (arith, length-tags)))

  -- and each of the tags is that at a place
  pub tag_placed : (t : Tag) → Memᴰ t (map tag_of words) → (k : ℕ) × (k < length words) × (t ≡ tag_of (get_or words k 0))
  tag_placed t m = let s = mem-place t (tag_of 0) (map tag_of words) m in (s.0, omega (arith, s.1, length-tags), s.2 ∙ tag_at words s.0)

  -- a search for the first tag that reaches start: what lies below a tag that does not reach it, does not
  pub search_low : (start m : ℕ) → m < length words → last_of (tag_of (get_or words m 0)) < start → (k : ℕ) → k < m + 1 → reaches words start k ≡ false
  search_low start m h e k l =
      lt-leb start (last_of (tag_of (get_or words k 0)))
      (⊎_elim
      (λ (z : k < m). let o = tag_order k m z h in let f = first_last (tag_of (get_or words m 0)) in omega arith)
      (λ (z : m ≤ k). let q : k ≡ m = omega arith in rw q e)
      (lt_or k m))

  -- so that the tags before that one end before start, and the others do not
  pub parted : (start : ℕ) → IsPartitionedBy (λ word. ltb (last_of (tag_of word)) start) words
  parted start =
      IsPartitionedBy-ltb (λ word. last_of (tag_of word)) words start
      (IsNonDecreasingBy-from_default (λ word. last_of (tag_of word)) words 0 (λ i j h l.
      ⊎_elim
      (λ (z : i < j). let o = tag_order i j z l in let f = first_last (tag_of (get_or words j 0)) in omega arith)
      (λ (z : j ≤ i). let q : i ≡ j = omega arith in rw q (omega arith))
      (lt_or i j)))

  pub first_parted : (start i : ℕ) → i ≤ length words → IsPartitionPoint (λ word. ltb (last_of (tag_of word)) start ≡ true) (λ word. ltb (last_of (tag_of word)) start ≡ false) words i
      → i ≡ first (reaches words start) (length words)
  first_parted start i h p =
      first_is (reaches words start) (length words) i h
      (λ k l. lt-leb start (last_of (tag_of (get_or words k 0))) (ltb-true _ _ (p.0 k 0 (omega arith) l)))
      (λ l. le-leb start (last_of (tag_of (get_or words i 0))) (ltb-false _ _ (p.1 i 0 (omega arith) l)))

  -- a tag before the first that reaches start ends before it
  pub tag-before : (start k : ℕ) → k < first (reaches words start) (length words) → last_of (tag_of (get_or words k 0)) < start
  tag-before start k h = leb-false start (last_of (tag_of (get_or words k 0))) (first-before (reaches words start) (length words) k h)

  -- where a tag begins at an end or behind it, so does each at a later place
  pub tag-behind : (end i k : ℕ) → end ≤ (tag_of (get_or words i 0)).address → i ≤ k → k < length words → end ≤ (tag_of (get_or words k 0)).address
  tag-behind end i k e h l =
      ⊎_elim
      (λ (y : i < k). let o = tag_order i k y l in let f = first_last (tag_of (get_or words i 0)) in omega arith)
      (λ (y : k ≤ i). let j : k ≡ i = omega arith in rw j e)
      (lt_or i k)

  -- the only tag that can have an address is the first that reaches it
  pub owner : (a i : ℕ) → i ≡ first (reaches words a) (length words) → (t : Tag) → Memᴰ t (map tag_of words) → Has t a → (i < length words) × (t ≡ tag_of (get_or words i 0))
  owner a i e t m h =
      let s = tag_placed t m in
      let k = s.0 in
      let z = s.2 in
      let late : a ≤ last_of (tag_of (get_or words k 0)) = rw z at h.1 in
      let low : i ≤ k =
      ⊎_elim
      (λ (l : k < i). absurd (true≢false (sym (le-leb a (last_of (tag_of (get_or words k 0))) late) ∙ first-before (reaches words a) (length words) k (rw (← e) l))))
      (λ l. l)
      (lt_or k i) in
      let before : i < length words = omega (arith, s.1) in
      let same : k ≡ i =
      ⊎_elim
      (λ (l : i < k). absurd (
      let o = tag_order i k l s.1 in
      let r : a ≤ last_of (tag_of (get_or words i 0)) = leb-true a (last_of (tag_of (get_or words i 0))) (rw e (first-here (reaches words a) (length words) (rw (← e) before))) in
      let y : t.address ≡ (tag_of (get_or words k 0)).address = ap (λ (u : Tag). u.address) z in
      omega (arith, h.0)))
      (λ (l : k ≤ i). omega arith)
      (lt_or i k) in
      (before, z ∙ ap (λ (j : ℕ). tag_of (get_or words j 0)) same)

-- the words from the first tag that reaches start on
module _ (words : List ℕ) (start : ℕ) {rest : List ℕ} (e : rest ≡ drop (first (reaches words start) (length words)) words) where
  abbrev reached : ℕ
  reached = first (reaches words start) (length words)

  pub rest_word : (k : ℕ) → get_or rest k 0 ≡ get_or words (reached + k) 0
  rest_word k = rw e (get_or-drop reached words k 0)

  pub rest-length : reached + length rest ≡ length words
  rest-length = let l = first_le (reaches words start) (length words) in omega (arith, ap length e, length-drop reached words)

-- what the code knows of the tag words and of the buffer
pub record KnownTable (base q : ℕ) (words d : List ℕ) : Type 0 where
  pub tags : TagList words
  pub room : base + 2 * q ≤ length d
  pub bytes : (i : ℕ) → get_or d i 0 < 256

module _ (way : Way) (start : ℕ) {base q : ℕ} {words d : List ℕ} (known : KnownTable base q words d) where
  -- what the first i tags come to
  abbrev pub up_to : ℕ → Rewritten
  up_to i = rewriting way base start q (tags_of i words) d

  -- Before the first tag that reaches the run nothing is to be done.
  pub table-start : (i : ℕ) → i ≡ first (reaches words start) (length words) → with_counts 0 0 d ≡ up_to i
  table-start i e =
      sym (idle_behind way base start q d [] (tags_of i words) (λ u m.
      let s = tag-place words 0 i u m in
      let z : 0 + s.0 ≡ s.0 = zero-add s.0 in
      rw (s.2, z) (verdict-before way start (registers_at base q d) (tag_of (get_or words s.0 0)) (tag-before words known.tags start s.0 (omega (arith, s.1)))))
      ∙ idle_none way base start q d known.bytes)

  module _ (i p v : ℕ) (b : List ℕ) (e : with_counts p v b ≡ up_to i) where
    -- One tag more.
    pub table_more : (p' v' : ℕ) (b' : List ℕ) → i < length words → with_counts p' v' b' ≡ rewriting way base start q (tag_of (get_or words i 0) ∷ []) b
        → with_counts (p + p') (v + v') b' ≡ up_to (i + 1)
    table_more p' v' b' h f =
        let t = tag_of (get_or words i 0) in
        let n = length words in
        let m : i + 1 + (n - (i + 1)) ≡ n = omega arith in
        let a : Ascending 0 (tags_of i words ++ (t ∷ [])) =
        rw (← tags_more words i h) (ascending_front 0 (tags_of (i + 1) words) (map tag_of (take (n - (i + 1)) (drop (i + 1) words))) (rw (← tags-split words (i + 1) (n - (i + 1)), m, all_words words) known.tags.ascending)) in
        rw (tags_more words i h)
        (ap (λ (x : Rewritten). and_then x (with_counts p' v' b')) e
        ∙ ap (and_then (up_to i)) (f ∙ ap (λ (x : Rewritten). rewriting way base start q (t ∷ []) x.bytes) e)
        ∙ sym (one_more way base start q d known.bytes known.room (tags_of i words) t 0 a))

    -- Behind a tag that lies behind the run nothing is to be done.
    pub table_done : i ≤ length words → (i < length words → start + q ≤ (tag_of (get_or words i 0)).address) → with_counts p v b ≡ rewriting way base start q (map tag_of words) d
    table_done h g =
        let n = length words in
        let m : i + (n - i) ≡ n = omega arith in
        let s : up_to n ≡ up_to i =
        rw (← m, tags-split words i (n - i))
        (idle_behind way base start q d (tags_of i words) (map tag_of (take (n - i) (drop i words))) (λ u k.
        let r = tag-place words i (n - i) u k in
        rw r.2 (verdict-behind way start (registers_at base q d) (tag_of (get_or words (i + r.0) 0))
        (rw (length-registers base q d) (tag-behind words known.tags (start + q) i (i + r.0) (g (omega (arith, r.1))) (omega arith) (omega (arith, r.1))))))) in
        e ∙ sym s ∙ ap (λ (ts : List Tag). rewriting way base start q ts d) (all_words words)

    -- The counts are at most the tags so far.
    pub table_few : i ≤ length words → p + v ≤ i
    unfolding rewriting
    table_few h =
        let c = counts_most way start (tags_of i words) (registers_at base q d) in
        omega (arith, ap (λ (x : Rewritten). x.partial) e, ap (λ (x : Rewritten). x.value) e, length-front words known.tags i h)
