-- The mark in the first word tells exactly whether some tag is strict; and the words of a value's tags, as they are filled one after the other and marked.
-- Assumes nothing.
use Prim.Native.Nat.{ℕ, zero, suc, ◌+◌, ◌≤◌, ◌<◌}
use mathlib.Core.Path.{◌≡◌, refl, sym, ◌∙◌}
use mathlib.Core.Logic.Iff
use mathlib.Core.Logic.{◌↔◌, ⊎_elim}
use mathlib.Core.Bool.{Bool, true, false, cond, ◌||◌, false≢true, or-false, or_assoc}
use mathlib.Core.List.{List, [], ◌∷◌, ◌++◌, map}
use native.Mathlib.Omega.{arith}
use lib.ListN.{length, get_or, set, replicate}
use lib.Dec.{eqb}
use borrow.Author.Tests.{ne_eqb, eqb-false}
use Rattle.numbers.specs.Numbers.{most_tags}
use Rattle.laws.specs.Lists.{tab}
use Rattle.laws.proofs.Choice.{lt_or, or_left, or_right}
use Rattle.laws.proofs.ListLaws.{tab_more, length-tab, get_d_tab}
use Rattle.settings.specs.declared.Settings.{Settings}
use Rattle.settings.specs.Grammar.{Tag, Value, valid}
use Rattle.settings.specs.Plain.{RightTag}
use Rattle.settings.specs.Values.{padded}
use Rattle.settings.specs.TagWords.{tag_word, strict_mark, some_strict, tag_words}
use Rattle.settings.proofs.ValueLaws.{blank, tag_at, column_at, column_unused}
use Rattle.settings.proofs.ValidLaws.{valid_exactly}
use Rattle.settings.proofs.TagLaws.{right_unmarked, filled_more}

-- No tag is strict: at no place stands one.
pub none-strict : (ts : List Tag) → (some_strict ts ≡ false) ↔ ((i : ℕ) (d : Tag) → i < length ts → (get_or ts i d).strict ≡ 1 → ⊥)
unfolding some_strict
none-strict [] = (λ e i d h. absurd (omega arith), λ f. refl)
none-strict (t ∷ ts) = (there (none-strict ts).0, λ f. rw (ne_eqb t.strict 1 (f 0 t (omega arith))) ((none-strict ts).1 (λ i d h. f (suc i) d (omega arith))))
  where
    there : (some_strict ts ≡ false → (i : ℕ) (d : Tag) → i < length ts → (get_or ts i d).strict ≡ 1 → ⊥) → (eqb t.strict 1 || some_strict ts) ≡ false → (i : ℕ) (d : Tag) → i < suc (length ts) → (get_or (t ∷ ts) i d).strict ≡ 1 → ⊥
    there rest e zero d h = eqb-false t.strict 1 (or_left (eqb t.strict 1) (some_strict ts) e)
    there rest e (suc i) d h = rest (or_right (eqb t.strict 1) (some_strict ts) e) i d (omega arith)

-- a word without the mark was not given it
unmarked_word : (t : Tag) (mark : Bool) → tag_word t + cond mark strict_mark 0 < strict_mark → mark ≡ false
unmarked_word t true h = absurd (omega arith)
unmarked_word t false h = refl

-- where the first word has no mark, no tag is strict
pub unmarked : (ts : List Tag) → get_or (padded (tag_words ts)) 0 0 < strict_mark → some_strict ts ≡ false
unfolding tag_words some_strict
unmarked [] h = refl
unmarked (t ∷ ts) h = unmarked_word t (some_strict (t ∷ ts)) h

first-marked : (ts : List Tag) → ((d : Tag) → 0 < length ts → RightTag (get_or ts 0 d)) → (get_or (tag_words ts) 0 0 < strict_mark) ↔ (some_strict ts ≡ false)
unfolding tag_words some_strict
first-marked [] r = (λ l. refl, λ e. omega arith)
first-marked (t ∷ ts) r = (unmarked_word t (some_strict (t ∷ ts)), λ e. let l = right_unmarked t (r t (omega arith)) in rw e (omega arith))

-- The first word of a valid value's tags has no mark exactly if no tag is strict.
pub marks_exactly : (v : Value) → valid v ≡ true → (get_or (tag_words v.tags) 0 0 < strict_mark) ↔ (some_strict v.tags ≡ false)
marks_exactly v h = first-marked v.tags (λ d l. ((valid_exactly v).0 h).each 0 d l)

-- In plain numbers: the first word of a valid value's tags is below 2 to the 49th exactly if at no place of them stands a strict one.
pub marks_plainly : (v : Value) → valid v ≡ true → (get_or (tag_words v.tags) 0 0 < 562949953421312) ↔ ((i : ℕ) (d : Tag) → i < length v.tags → (get_or v.tags i d).strict ≡ 1 → ⊥)
marks_plainly v h = Iff.trans (marks_exactly v h) (none-strict v.tags)

-- one more tag
some_more : (ts : List Tag) (t : Tag) → some_strict (ts ++ (t ∷ [])) ≡ (some_strict ts || eqb t.strict 1)
unfolding some_strict
some_more [] t = or-false (eqb t.strict 1)
some_more (u ∷ ts) t = rw (some_more ts t) (sym (or_assoc (eqb u.strict 1) (some_strict ts) (eqb t.strict 1)))

-- the words of the first k places, and whether one of them is strict
pub record Worded (s : Settings) (words : List ℕ) (mark : Bool) (k : ℕ) : Type 0 where
  pub within : k ≤ s.tags
  pub few : s.tags ≤ most_tags
  pub filled : words ≡ padded (map tag_word (tab k (tag_at s)))
  pub told : mark ≡ some_strict (tab k (tag_at s))

pub worded_none : (s : Settings) → s.tags ≤ most_tags → Worded s (replicate most_tags 0) false 0
unfolding tab some_strict
worded_none s h = record { within = omega arith; few = h; filled = refl; told = refl }

pub worded_more : {s : Settings} {words : List ℕ} {mark : Bool} {k v : ℕ} {t : Tag} → k < s.tags → Worded s words mark k → t ≡ tag_at s k → v ≡ tag_word t → Worded s (set words k v) (mark || eqb t.strict 1) (k + 1)
worded_more {s} {k = k} {v = v} h w q e =
    rw q
    (record {
      within = omega arith;
      few = w.few;
      filled = rw (w.filled, tab_more k (tag_at s)) (filled_more tag_word (tab k (tag_at s)) (tag_at s k) k v (length-tab k (tag_at s)) (omega (arith, w.few)) (rw q at e));
      told = rw (w.told, tab_more k (tag_at s)) (sym (some_more (tab k (tag_at s)) (tag_at s k)));
    })

-- the first word of right tags has room for the mark
pub worded_room : {s : Settings} {words : List ℕ} {mark : Bool} {k : ℕ} → ((i : ℕ) → i < s.tags → RightTag (tag_at s i)) → Worded s words mark k → get_or words 0 0 < strict_mark
worded_room {s} {k = k} right w =
    rw w.filled
    (⊎_elim
    (λ (h : 0 < k). rw (column_at tag_word (tab k (tag_at s)) 0 (rw (length-tab k (tag_at s)) h), get_d_tab k (tag_at s) 0 blank h) (right_unmarked (tag_at s 0) (right 0 (omega (arith, w.within)))))
    (λ (h : k ≤ 0). rw (column_unused tag_word (tab k (tag_at s)) 0 (rw (length-tab k (tag_at s)) h)) (omega arith))
    (lt_or 0 k))

-- the words as they were filled, where none is strict; and with the mark in the first one
unmarked_words : (ts : List Tag) → some_strict ts ≡ false → padded (map tag_word ts) ≡ padded (tag_words ts)
unfolding tag_words
unmarked_words [] e = refl
unmarked_words (t ∷ ts) e = rw e (let none : tag_word t + 0 ≡ tag_word t = omega arith in rw none refl)

marked_words : (ts : List Tag) → some_strict ts ≡ true → set (padded (map tag_word ts)) 0 (get_or (padded (map tag_word ts)) 0 0 + strict_mark) ≡ padded (tag_words ts)
unfolding tag_words some_strict
marked_words [] e = absurd (false≢true e)
marked_words (t ∷ ts) e = rw e refl

pub worded_all : {s : Settings} {words : List ℕ} {mark : Bool} {k : ℕ} → s.tags ≤ k → Worded s words mark k → mark ≡ false → words ≡ padded (tag_words (tab s.tags (tag_at s)))
worded_all {s} {k = k} h w m = let e : s.tags ≡ k = omega (arith, w.within) in rw e (w.filled ∙ unmarked_words (tab k (tag_at s)) (sym w.told ∙ m))

pub worded_marked : {s : Settings} {words : List ℕ} {mark : Bool} {k : ℕ} → s.tags ≤ k → Worded s words mark k → mark ≡ true → set words 0 (get_or words 0 0 + strict_mark) ≡ padded (tag_words (tab s.tags (tag_at s)))
worded_marked {s} {k = k} h w m = let e : s.tags ≡ k = omega (arith, w.within) in rw (e, w.filled) (marked_words (tab k (tag_at s)) (sym w.told ∙ m))
