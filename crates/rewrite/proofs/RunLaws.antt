-- A run of registers after all tags: register by register, tag by tag, its length, its words, and both counts.
-- Assumes nothing.
use Prim.Native.Nat.{ℕ, ◌+◌, ◌-◌, ◌≤◌, ◌<◌}
use mathlib.Core.Path.{◌≡◌, refl, ap, sym, ◌∙◌}
use mathlib.Core.Logic.{⊎_elim, ◌⊎◌, inl, inr}
use mathlib.Core.Bool.{true, false}
use mathlib.Core.List.Memᴰ
use mathlib.Core.List.{List, [], ◌∷◌, Memᴰ}
use native.Mathlib.Omega.{arith}
use lib.ListN.{length, get_or, drop, length-drop}
use lib.Seq.{sets, length-sets, get_or-take, get_or-drop, length-take-le, ext_get_or}
use Rattle.laws.specs.Digits.{below}
use Rattle.laws.proofs.Choice.{lt_or}
use Rattle.bcd.specs.Bcd.{registers}
use Rattle.bcd.proofs.Words.{words_count, words_below}
use Rattle.settings.specs.Grammar.{Tag}
use Rattle.settings.specs.TagWords.{kind_of, last_of, Ascending}
use Rattle.rewrite.specs.declared.Way.{Way}
use Rattle.rewrite.specs.Rewriting.{Verdict, own_in, verdict, laid_by, rewritten_from, rewritten, is_raw_partial, is_raw_value, partials, values}
use Rattle.rewrite.specs.Rewriting.Verdict.{outside, partial, value, done}
use Rattle.rewrite.specs.Plain.{Has, Whole}
use Rattle.laws.proofs.StoreLaws.{sets_out, sets_in, below-take, below-drop, below-sets}
use Rattle.laws.proofs.MemberLaws.{filter_two}
use Rattle.rewrite.proofs.OrderLaws.{behind_last, ascending_in, one_owner}
use Rattle.rewrite.proofs.VerdictLaws.{was_done}

-- what one verdict does to a run
length-by : (v : Verdict) (k : ℕ) (rs : List ℕ) → length (laid_by v k rs) ≡ length rs
unfolding laid_by
length-by outside k rs = refl
length-by partial k rs = refl
length-by value k rs = refl
length-by (done ws) k rs = length-sets rs k ws

below_by : (v : Verdict) (k : ℕ) (rs : List ℕ) → ((ws : List ℕ) → v ≡ done ws → below 65536 ws ≡ true) → below 65536 rs ≡ true → below 65536 (laid_by v k rs) ≡ true
unfolding laid_by
below_by outside k rs h b = b
below_by partial k rs h b = b
below_by value k rs h b = b
below_by (done ws) k rs h b = below-sets 65536 ws rs k b (h ws refl)

other_by : (v : Verdict) (k : ℕ) (rs : List ℕ) (i : ℕ) → ((ws : List ℕ) → v ≡ done ws → (i < k) ⊎ (k + length ws ≤ i)) → get_or (laid_by v k rs) i 0 ≡ get_or rs i 0
unfolding laid_by
other_by outside k rs i h = refl
other_by partial k rs i h = refl
other_by value k rs i h = refl
other_by (done ws) k rs i h = sets_out ws rs k i 0 (h ws refl)

done-by : (v : Verdict) (ws : List ℕ) (k : ℕ) (rs : List ℕ) → v ≡ done ws → laid_by v k rs ≡ sets rs k ws
unfolding laid_by
done-by v ws k rs e = rw e

module _ (way : Way) (start : ℕ) (came : List ℕ) where
  length_from : (ts : List Tag) (rs : List ℕ) → length (rewritten_from way start came ts rs) ≡ length rs
  unfolding rewritten_from
  length_from [] rs = refl
  length_from (t ∷ ts) rs =
      let v = verdict way start came t in
      length_from ts (laid_by v (t.address - start) rs) ∙ length-by v (t.address - start) rs

  -- the words of a tag that is done: as many as its registers, each of 16 bits
  done_words : (t : Tag) (ws : List ℕ) → verdict way start came t ≡ done ws → (length ws ≡ registers (kind_of t)) × (below 65536 ws ≡ true)
  done_words t ws e =
      let s = (was_done way start came t ws e).1 in
      (ap length s.2 ∙ words_count (kind_of t) s.0, rw s.2 (words_below (kind_of t) s.0))

  below-from : (ts : List Tag) (rs : List ℕ) → below 65536 rs ≡ true → below 65536 (rewritten_from way start came ts rs) ≡ true
  unfolding rewritten_from
  below-from [] rs b = b
  below-from (t ∷ ts) rs b =
      let v = verdict way start came t in
      below-from ts (laid_by v (t.address - start) rs) (below_by v (t.address - start) rs (λ ws e. (done_words t ws e).1) b)

  -- a register that a tag does not have is before or behind the words that are laid
  apart : (t : Tag) (i : ℕ) (ws : List ℕ) → (Has t (start + i) → ⊥) → verdict way start came t ≡ done ws → (i < t.address - start) ⊎ (t.address - start + length ws ≤ i)
  apart t i ws h e =
      let w = (was_done way start came t ws e).0 in
      let n = (done_words t ws e).0 in
      let b = behind_last t in
      ⊎_elim
      (λ (a : start + i < t.address). inl (omega (arith, w.0)))
      (λ (a : t.address ≤ start + i). ⊎_elim
      (λ (z : last_of t < start + i). inr (omega (arith, w.0)))
      (λ (z : start + i ≤ last_of t). absurd (h (a, z)))
      (lt_or (last_of t) (start + i)))
      (lt_or (start + i) t.address)

  raw-from : (ts : List Tag) (rs : List ℕ) (i : ℕ) → ((t : Tag) (ws : List ℕ) → Memᴰ t ts → verdict way start came t ≡ done ws → Has t (start + i) → ⊥)
      → get_or (rewritten_from way start came ts rs) i 0 ≡ get_or rs i 0
  unfolding rewritten_from
  raw-from [] rs i h = refl
  raw-from (t ∷ ts) rs i h =
      let v = verdict way start came t in
      raw-from ts (laid_by v (t.address - start) rs) i (λ u ws m. h u ws (Memᴰ.tail m))
      ∙ other_by v (t.address - start) rs i (λ ws e. apart t i ws (h t ws (Memᴰ.head refl) e) e)

  done-from : (from : ℕ) (ts : List Tag) (rs : List ℕ) (t : Tag) (ws : List ℕ) (i : ℕ) → Ascending from ts → length rs ≡ length came
      → Memᴰ t ts → verdict way start came t ≡ done ws → Has t (start + i)
      → get_or (rewritten_from way start came ts rs) i 0 ≡ get_or ws (start + i - t.address) 0
  unfolding rewritten_from Ascending
  done-from from [] rs t ws i a l m e h = absurd (Memᴰ.not-nil m)
  done-from from (y ∷ ts) rs t ws i a l m e h =
      let v = verdict way start came y in
      let k = y.address - start in
      ⊎_elim
      (λ (q : t ≡ y).
      let e' : v ≡ done ws = rw q at e in
      let g : Has y (start + i) = rw q at h in
      let w = (was_done way start came y ws e').0 in
      let n = (done_words y ws e').0 in
      let b = behind_last y in
      let j : k + (start + i - y.address) ≡ i = omega (arith, w.0, g.0) in
      raw-from ts (laid_by v k rs) i (λ u us m' e'' f. omega (arith, (ascending_in (last_of y + 1) ts u a.2 m').0, f.0, g.1))
      ∙ rw (q, done-by v ws k rs e') (rw j at (sets_in ws rs k (start + i - y.address) 0 (omega (arith, g.0, g.1)) (omega (arith, w.0, w.1)))))
      (λ (n : Memᴰ t ts). done-from (last_of y + 1) ts (laid_by v k rs) t ws i a.2 (length-by v k rs ∙ l) n e h)
      (Memᴰ.cases_cons m)

-- a tag's own registers in a run that has all of it
module _ (start : ℕ) (rs : List ℕ) (t : Tag) where
  -- There are as many as the tag has.
  pub own_length : Whole start (length rs) t → length (own_in start rs t) ≡ registers (kind_of t)
  own_length w =
      let b = behind_last t in
      length-take-le (registers (kind_of t)) (drop (t.address - start) rs) (rw (length-drop (t.address - start) rs) (omega (arith, w.0, w.1)))

  -- They are words if the run has words.
  pub own_below : below 65536 rs ≡ true → below 65536 (own_in start rs t) ≡ true
  own_below b = below-take 65536 (registers (kind_of t)) (drop (t.address - start) rs) (below-drop 65536 (t.address - start) rs b)

  own_at : (i : ℕ) → i < registers (kind_of t) → get_or (own_in start rs t) i 0 ≡ get_or rs (t.address - start + i) 0
  own_at i h = get_or-take (registers (kind_of t)) (drop (t.address - start) rs) i 0 h ∙ get_or-drop (t.address - start) rs i 0

module _ (way : Way) (start : ℕ) (tags : List Tag) (rs : List ℕ) where
  -- Rewriting never changes how many registers there are.
  pub length-rewritten : length (rewritten way start tags rs) ≡ length rs
  length-rewritten = length_from way start rs tags rs

  -- Words of 16 bits stay words of 16 bits.
  pub below-rewritten : below 65536 rs ≡ true → below 65536 (rewritten way start tags rs) ≡ true
  below-rewritten = below-from way start rs tags rs

  -- A register that no tag which is done has is as it came.
  pub register_raw : (i : ℕ) → ((t : Tag) (ws : List ℕ) → Memᴰ t tags → verdict way start rs t ≡ done ws → Has t (start + i) → ⊥)
      → get_or (rewritten way start tags rs) i 0 ≡ get_or rs i 0
  register_raw = raw-from way start rs tags rs

  -- A tag that shares no address with a tag which is done keeps its registers.
  pub own_same : (t : Tag) → Whole start (length rs) t
      → ((u : Tag) (ws : List ℕ) (x : ℕ) → Memᴰ u tags → verdict way start rs u ≡ done ws → Has t x → Has u x → ⊥)
      → own_in start (rewritten way start tags rs) t ≡ own_in start rs t
  own_same t w h =
      let r = rewritten way start tags rs in
      let n = own_length start r t (rw length-rewritten w) in
      let b = behind_last t in
      ext_get_or 0 (own_in start r t) (own_in start rs t) (n ∙ sym (own_length start rs t w)) (λ i l.
      own_at start r t i (omega arith)
      ∙ register_raw (t.address - start + i) (λ u ws m e g. h u ws (start + (t.address - start + i)) m e (omega (arith, w.0), omega (arith, w.0)) g)
      ∙ sym (own_at start rs t i (omega arith)))

  module _ (a : Ascending 0 tags) (t : Tag) (m : Memᴰ t tags) where
    -- A register that a tag which is done has is that word of the tag.
    pub register_done : (ws : List ℕ) (i : ℕ) → verdict way start rs t ≡ done ws → Has t (start + i)
        → get_or (rewritten way start tags rs) i 0 ≡ get_or ws (start + i - t.address) 0
    register_done ws i = done-from way start rs 0 tags rs t ws i a refl m

    -- The registers of a tag that is done are its words.
    pub own_done : (ws : List ℕ) → verdict way start rs t ≡ done ws → own_in start (rewritten way start tags rs) t ≡ ws
    own_done ws e =
        let w = (was_done way start rs t ws e).0 in
        let l = (done_words way start rs t ws e).0 in
        let r = rewritten way start tags rs in
        let n = own_length start r t (rw length-rewritten w) in
        let b = behind_last t in
        ext_get_or 0 (own_in start r t) ws (n ∙ sym l) (λ i h.
        let j : start + (t.address - start + i) - t.address ≡ i = omega (arith, w.0) in
        own_at start r t i (omega arith) ∙ rw j at (register_done ws (t.address - start + i) e (omega (arith, w.0), omega (arith, w.0))))

    -- Those of every other tag that is whole in the run are as they came.
    pub own_raw : Whole start (length rs) t → ((ws : List ℕ) → verdict way start rs t ≡ done ws → ⊥)
        → own_in start (rewritten way start tags rs) t ≡ own_in start rs t
    own_raw w h = own_same t w (λ u ws x m' e f g. h ws (rw (one_owner 0 tags t u x a m m' f g) e))

-- THE COUNTS

-- A tag that is counted as raw for partial cover is not counted as raw for its value.
pub not_both : (v : Verdict) → is_raw_partial v ≡ true → is_raw_value v ≡ false
not_both outside e = refl
not_both partial e = refl
not_both value e = sym e
not_both (done ws) e = refl

-- Both counts together are at most the number of tags.
pub counts_most : (way : Way) (start : ℕ) (tags : List Tag) (rs : List ℕ) → partials way start tags rs + values way start tags rs ≤ length tags
unfolding partials values
counts_most way start tags rs =
    filter_two (λ t. is_raw_partial (verdict way start rs t)) (λ t. is_raw_value (verdict way start rs t)) tags (λ t. not_both (verdict way start rs t))
