-- Settings values tag by tag: what makes one valid, when two are equal, the value of the boundary's struct and back, and that struct's size.
-- Assumes nothing.
use prog.Memory.{size}
use Prim.Native.Nat.{ℕ, zero, suc, ◌+◌, ◌-◌, ◌≤◌, ◌<◌}
use mathlib.Core.Path.{◌≡◌, refl, ap, subst, sym, ◌∙◌}
use mathlib.Core.Bool.{Bool, true, false, ◌&&◌, and-true, and-false, and_assoc, false≢true}
use mathlib.Core.List.{List, [], ◌∷◌, ◌++◌, map}
use native.Mathlib.Numerals.{add-one}
use native.Mathlib.Omega.{arith}
use lib.ListN.{length, get_or, length-append, length-map, length-replicate, get_or-eq_default}
use lib.Dec.{eqb, leb, leb-zero}
use borrow.Author.Tests.{leb-true, eqb-true, eq-eqb, lt-ltb}
use Rattle.numbers.specs.Numbers.{most_tags, addresses}
use Rattle.laws.specs.Lists.{tab}
use Rattle.laws.proofs.Choice.{and_left, and_right}
use Rattle.laws.proofs.ListLaws.{tab_ext, tab_more, length-tab, tab_get_d, get_d_map, get_d_zeros}
use Rattle.settings.specs.declared.Settings.{Settings}
use Rattle.settings.specs.Grammar.{Tag, Value, newest, tag_numbers, last_register, ascends, right_timeout, right_join, right_tags, right_width, right_sign, right_ttl, right_strict, all_right, tags_right, valid_in, valid}
use Rattle.settings.specs.Values.{value_of, settings_of, padded, same_tags, same}
use Rattle.settings.proofs.Settings.TheLaws.{mir}

-- tags and values are equal where their fields are
pub tag_ext : (t u : Tag) → t.address ≡ u.address → t.width ≡ u.width → t.sign ≡ u.sign → t.ttl ≡ u.ttl → t.strict ≡ u.strict → t ≡ u
tag_ext t u a w s l m =
    ap (λ (x : ℕ). record { address = x; width = t.width; sign = t.sign; ttl = t.ttl; strict = t.strict }) a
    ∙ ap (λ (x : ℕ). record { address = u.address; width = x; sign = t.sign; ttl = t.ttl; strict = t.strict }) w
    ∙ ap (λ (x : ℕ). record { address = u.address; width = u.width; sign = x; ttl = t.ttl; strict = t.strict }) s
    ∙ ap (λ (x : ℕ). record { address = u.address; width = u.width; sign = u.sign; ttl = x; strict = t.strict }) l
    ∙ ap (λ (x : ℕ). record { address = u.address; width = u.width; sign = u.sign; ttl = u.ttl; strict = x }) m

pub value_ext : (v w : Value) → v.timeout ≡ w.timeout → v.join ≡ w.join → v.tags ≡ w.tags → v ≡ w
value_ext v w t j s =
    ap (λ (x : ℕ). record { timeout = x; join = v.join; tags = v.tags }) t
    ∙ ap (λ (x : ℕ). record { timeout = w.timeout; join = x; tags = v.tags }) j
    ∙ ap (λ (x : List Tag). record { timeout = w.timeout; join = w.join; tags = x }) s

abbrev pub blank : Tag
blank = record { address = 0; width = 0; sign = 0; ttl = 0; strict = 0 }

-- the tag at a place of the boundary's struct
abbrev pub tag_at : Settings → ℕ → Tag
tag_at s k = record { address = get_or s.addr k 0; width = get_or s.width k 0; sign = get_or s.sign k 0; ttl = get_or s.ttl k 0; strict = get_or s.strict k 0 }

-- the numbers of the last tag, and those of the tag before where there is none
unfoldable pub last_or : List ℕ → List Tag → List ℕ
last_or prior [] = prior
last_or prior (t ∷ ts) = last_or (tag_numbers t) ts

-- the first address that may follow
unfoldable pub from_of : List ℕ → ℕ
from_of [] = 0
from_of (a ∷ ns) = last_register (a ∷ ns) + 1

pub ascends-from : (prior : List ℕ) (n : ℕ) → ascends prior n ≡ leb (from_of prior) n
unfolding ascends from_of
ascends-from [] n = sym (leb-zero n)
ascends-from (a ∷ ns) n = rw (add-one (last_register (a ∷ ns)))

last_snoc : (prior : List ℕ) (ts : List Tag) (t : Tag) → last_or prior (ts ++ (t ∷ [])) ≡ tag_numbers t
unfolding last_or
last_snoc prior [] t = refl
last_snoc prior (u ∷ ts) t = last_snoc (tag_numbers u) ts t

right_snoc : (prior : List ℕ) (ts : List Tag) (t : Tag) → tags_right newest.tag prior (ts ++ (t ∷ [])) ≡ (tags_right newest.tag prior ts && all_right newest.tag (last_or prior ts) [] (tag_numbers t))
unfolding last_or tags_right
right_snoc prior [] t = and-true (all_right newest.tag prior [] (tag_numbers t))
right_snoc prior (u ∷ ts) t =
    rw (right_snoc (tag_numbers u) ts t)
    (sym (and_assoc (all_right newest.tag prior [] (tag_numbers u)) (tags_right newest.tag (tag_numbers u) ts) (all_right newest.tag (last_or (tag_numbers u) ts) [] (tag_numbers t))))

-- the rules of a tag's lines behind its address, and of all of them, given the first address that may follow
abbrev pub right_kind : Tag → Bool
right_kind t = right_width (t.address ∷ []) t.width && (right_sign (t.address ∷ t.width ∷ []) t.sign && (right_ttl t.ttl && right_strict t.strict))

pub tag_right : (prior : List ℕ) (t : Tag) → t.address < addresses
    → all_right newest.tag prior [] (tag_numbers t) ≡ (leb (from_of prior) t.address && right_kind t)
unfolding all_right
tag_right prior t low = rw (lt-ltb t.address addresses low, ascends-from prior t.address, and-true)

-- a turn of the check: whether the tags so far are right, and the first address that may follow
pub record Checked (f : ℕ → Tag) (right : Bool) (from k : ℕ) : Type 0 where
  pub so_far : right ≡ tags_right newest.tag [] (tab k f)
  pub next : from ≡ from_of (last_or [] (tab k f))

module _ (f : ℕ → Tag) where
  pub checked_none : Checked f true 0 0
  unfolding tab tags_right last_or from_of
  checked_none = record { so_far = refl; next = refl }

  pub checked_more : {right this : Bool} {from from' k : ℕ} {t : Tag} → t.address < addresses → Checked f right from k
      → t ≡ f k
      → this ≡ (leb from t.address && right_kind t)
      → from' ≡ last_register (tag_numbers t) + 1
      → Checked f (right && this) from' (k + 1)
  unfolding from_of
  checked_more {k = k} low w q e n =
      let m = tab_more k f in
      let r = rw (tag_right (last_or [] (tab k f)) (f k) (rw q at low), ← w.so_far, ← w.next, ← (rw q at e)) at (right_snoc [] (tab k f) (f k)) in
      let l : last_or [] (tab (k + 1) f) ≡ tag_numbers (f k) = rw m (last_snoc [] (tab k f) (f k)) in
      record { so_far = rw m (sym r); next = rw l (rw q at n) }

  -- where the tags so far are wrong, they are with more behind them
  wrong_stays : (j k : ℕ) → tags_right newest.tag [] (tab k f) ≡ false → tags_right newest.tag [] (tab (j + k) f) ≡ false
  wrong_stays zero k e = let m : 0 + k ≡ k = omega arith in rw m e
  wrong_stays (suc j) k e =
      let m : suc j + k ≡ (j + k) + 1 = omega arith in
      rw (m, tab_more (j + k) f, right_snoc [] (tab (j + k) f) (f (j + k)), wrong_stays j k e)

  pub checked_wrong : {from n k : ℕ} {t : Tag} → k < n → t.address < addresses → Checked f true from k → t ≡ f k → false ≡ (leb from t.address && right_kind t) → tags_right newest.tag [] (tab n f) ≡ false
  checked_wrong {n = n} {k = k} {t = t} h low w q e =
      let w' = checked_more {from' = last_register (tag_numbers t) + 1} low w q e refl in
      let m : (n - (k + 1)) + (k + 1) ≡ n = omega arith in
      subst (λ (i : ℕ). tags_right newest.tag [] (tab i f) ≡ false) m (wrong_stays (n - (k + 1)) (k + 1) (sym w'.so_far))

-- valid: the rules of the lines behind the version line, and of the tags' lines
pub valid_parts : (v : Value) → valid v ≡ ((right_timeout v.timeout && (right_join v.join && right_tags (length v.tags))) && tags_right newest.tag [] v.tags)
unfolding valid_in all_right
valid_parts v = rw and-true

abbrev pub head_right : Settings → Bool
head_right s = right_timeout s.timeout && (right_join s.join && right_tags s.tags)

pub valid_struct : (s : Settings) → valid (value_of s) ≡ (head_right s && tags_right newest.tag [] (tab s.tags (tag_at s)))
unfolding value_of
valid_struct s = valid_parts (value_of s) ∙ rw length-tab

pub refused : (s : Settings) {head : Bool} → head ≡ head_right s → head ≡ false → false ≡ valid (value_of s)
refused s e f = sym (valid_struct s ∙ rw (← e) (rw f))

pub few : (s : Settings) {head : Bool} → head ≡ head_right s → head ≡ true → s.tags ≤ most_tags
few s e t = leb-true s.tags most_tags (and_right (right_join s.join) _ (and_right (right_timeout s.timeout) _ (sym e ∙ t)))

pub valid_few : (s : Settings) → valid (value_of s) ≡ true → s.tags ≤ most_tags
valid_few s t = few s refl (and_left (head_right s) _ (sym (valid_struct s) ∙ t))

pub checked_all : (s : Settings) {head right : Bool} {from k : ℕ} → head ≡ head_right s → head ≡ true → k ≡ s.tags → Checked (tag_at s) right from k → right ≡ valid (value_of s)
checked_all s e t q w = w.so_far ∙ rw q (sym (valid_struct s ∙ rw (← e) (rw t)))

-- a wrong tag decides
pub refused_tag : (s : Settings) {from k : ℕ} {t : Tag} → k < s.tags → t.address < addresses → Checked (tag_at s) true from k → t ≡ tag_at s k → false ≡ (leb from t.address && right_kind t) → false ≡ valid (value_of s)
refused_tag s h low w q e = sym (valid_struct s ∙ rw (checked_wrong (tag_at s) h low w q e) (and-false (head_right s)))

tags_equal : (ts us : List Tag) → same_tags ts us ≡ true → ts ≡ us
unfolding same_tags
tags_equal [] [] e = refl
tags_equal [] (u ∷ us) e = absurd (false≢true e)
tags_equal (t ∷ ts) [] e = absurd (false≢true e)
tags_equal (t ∷ ts) (u ∷ us) e =
    let a = eqb-true t.address u.address (and_left (eqb t.address u.address) _ e) in
    let r = and_right (eqb t.address u.address) _ e in
    let w = eqb-true t.width u.width (and_left (eqb t.width u.width) _ r) in
    let q = and_right (eqb t.width u.width) _ r in
    let g = eqb-true t.sign u.sign (and_left (eqb t.sign u.sign) _ q) in
    let p = and_right (eqb t.sign u.sign) _ q in
    let l = eqb-true t.ttl u.ttl (and_left (eqb t.ttl u.ttl) _ p) in
    let o = and_right (eqb t.ttl u.ttl) _ p in
    let m = eqb-true t.strict u.strict (and_left (eqb t.strict u.strict) _ o) in
    let s = tags_equal ts us (and_right (eqb t.strict u.strict) _ o) in
    cc (tag_ext t u a w g l m)

tags-same : (ts : List Tag) → same_tags ts ts ≡ true
unfolding same_tags
tags-same [] = refl
tags-same (t ∷ ts) =
    rw (eq-eqb t.address t.address refl, eq-eqb t.width t.width refl, eq-eqb t.sign t.sign refl, eq-eqb t.ttl t.ttl refl, eq-eqb t.strict t.strict refl) (tags-same ts)

-- two values are the same exactly if they are equal
pub same_is_equal : (v w : Value) → (same v w ≡ true → v ≡ w) × (v ≡ w → same v w ≡ true)
unfolding same
same_is_equal v w = (equal, λ e. rw e (rw (eq-eqb w.timeout w.timeout refl, eq-eqb w.join w.join refl) (tags-same w.tags)))
  where
    equal : same v w ≡ true → v ≡ w
    equal e =
        let t = eqb-true v.timeout w.timeout (and_left (eqb v.timeout w.timeout) _ e) in
        let r = and_right (eqb v.timeout w.timeout) _ e in
        let j = eqb-true v.join w.join (and_left (eqb v.join w.join) _ r) in
        let s = tags_equal v.tags w.tags (and_right (eqb v.join w.join) _ r) in
        value_ext v w t j s

-- a column of the boundary's struct of a value: 256 places, of the tags in their order, and 0 behind them
module _ (field : Tag → ℕ) (ts : List Tag) where
  pub column_at : (k : ℕ) → k < length ts → get_or (padded (map field ts)) k 0 ≡ field (get_or ts k blank)
  column_at k h = get_d_zeros (most_tags - length (map field ts)) (map field ts) k ∙ get_d_map field ts k blank 0 h

  pub column_unused : (k : ℕ) → length ts ≤ k → get_or (padded (map field ts)) k 0 ≡ 0
  column_unused k h = get_d_zeros (most_tags - length (map field ts)) (map field ts) k ∙ get_or-eq_default (map field ts) 0 (rw (length-map ts field) h)

  pub column_places : length ts ≤ most_tags → length (padded (map field ts)) ≡ most_tags
  column_places h = simp (length-append, length-replicate, length-map) (omega arith)

-- the boundary's struct of a value has that value
pub value_back : (v : Value) → value_of (settings_of v) ≡ v
unfolding value_of settings_of
value_back v =
    value_ext (value_of (settings_of v)) v refl refl
    (tab_ext (length v.tags) (tag_at (settings_of v)) (λ k. get_or v.tags k blank)
    (λ k h. tag_ext (tag_at (settings_of v) k) (get_or v.tags k blank) (column_at (λ t. t.address) v.tags k h) (column_at (λ t. t.width) v.tags k h) (column_at (λ t. t.sign) v.tags k h) (column_at (λ t. t.ttl) v.tags k h) (column_at (λ t. t.strict) v.tags k h))
    ∙ tab_get_d blank v.tags (length v.tags) refl)

-- The boundary's struct has the size in memory that the header says of zb_settings.
pub settings-size : size mir ≡ 2572
settings-size = refl
