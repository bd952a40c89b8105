-- The settings text and the settings value fit one to one: every valid value is read back from its text, and no other text is read.
-- Assumes nothing.
use Prim.Native.Nat.{ℕ, zero, suc, ◌+◌, ◌*◌, ◌≤◌, ◌<◌}
use mathlib.Core.Path.{◌≡◌, refl, ap, sym, subst, ◌∙◌}
use mathlib.Core.Logic.{◌↔◌, ◌⊎◌, inl, inr, ⊎_elim}
use mathlib.Core.Bool.{true}
use mathlib.Core.List.{List, [], ◌∷◌, ◌++◌, map, flat_map, append-nil, Memᴰ}
use native.Mathlib.Omega.{arith}
use native.Mathlib.Nat.{mul_comm, mul-le-mul_left, mul-le-mul_right}
use lib.ListN.{length, get_or, take, drop, length-append, length-map}
use lib.Seq.{length-take-le}
use Rattle.numbers.specs.Numbers.{most_tags, most_text, newest_version}
use Rattle.laws.specs.Lists.{tab}
use Rattle.laws.proofs.Choice.{and_left, and_right, never}
use Rattle.settings.specs.Lines.{Numbered, line_of, decimal_of}
use Rattle.settings.specs.Grammar.{Tag, Value, Line, Version, Read, head_numbers, tag_numbers, tag_from, value_from, ascends, head_lines, tag_lines, version_of, versions, newest, version_key, version_in, numbers_in, text_of_lines, text_in, all_right, tags_right, valid_in, valid, told_by_version, read_lines, read_text}
use Rattle.settings.specs.Grammar.Read.{got, wrong}
use Rattle.laws.proofs.ListLaws.{tab_get_d}
use Rattle.settings.specs.Plain.{Versioned, lenient, uncached, unsigned, full}
use Rattle.settings.proofs.LineLaws.{line-length}
use Rattle.settings.proofs.RowLaws.{told, lines_only, lines_wrong, tags_text, tags_only, tags_wrong}
use Rattle.settings.proofs.VersionLaws.{Fit, fit, by_number, fits, found, few_tags, total, lines_length, tags-length, head_long, tag_bytes, version_long, first-total, Went, went, back}
use Rattle.settings.proofs.VersionLaws.Went.{unversioned, in_head, in_tags, extra, whole}
-- A line is read back from its text, and no other text is read as that line.
pub use Rattle.settings.proofs.LineLaws.{line_back, line_only}

-- In any listed version: the text of a value that is valid there is read to what it tells of the value.
pub read_told : (x : Version) (v : Value) → Memᴰ x versions → valid_in x v ≡ true → read_text (text_in x v) ≡ got (told_by_version x v) []
read_told x v m r = back x v (fits x m) (found x m) r

-- The newest tells everything, version 3 all but whether a tag is strict, version 2 not its ttl either, and version 1 not its sign either: they are read as 0.
pub newest-tells : (v : Value) → told_by_version newest v ≡ v
unfolding told_by_version
newest-tells v = ap (λ (ts : List Tag). record { timeout = v.timeout; join = v.join; tags = ts }) (all v.tags)
  where
    all : (ts : List Tag) → map (told newest.tag) ts ≡ ts
    all [] = refl
    all (t ∷ ts) = ap (t ∷◌) (all ts)

pub version_3_tells : (v : Value) → told_by_version (version_of 3) v ≡ record { timeout = v.timeout; join = v.join; tags = map lenient v.tags }
unfolding told_by_version
version_3_tells v = refl

pub version_2_tells : (v : Value) → told_by_version (version_of 2) v ≡ record { timeout = v.timeout; join = v.join; tags = map uncached v.tags }
unfolding told_by_version
version_2_tells v = refl

pub version_1_tells : (v : Value) → told_by_version (version_of 1) v ≡ record { timeout = v.timeout; join = v.join; tags = map unsigned v.tags }
unfolding told_by_version
version_1_tells v = refl

-- Every valid value is read back from its text.
pub read_back : (v : Value) → valid v ≡ true → read_text (text_in newest v) ≡ got v []
unfolding version_in
read_back v r = rw (newest-tells v) at (back newest v (fit newest_version (omega arith)) refl r)

-- Every text that is read is the text of its value, valid in a listed version, and nothing is left of it.
pub read_only : (t r : List ℕ) (v : Value) → read_text t ≡ got v r
    → (r ≡ []) × ((x : Version) × Memᴰ x versions × (valid_in x v ≡ true) × (t ≡ text_in x v))
unfolding text_in valid_in tab
read_only t r v h = go (went t) h
  where
    Goal : Type 0
    Goal = (r ≡ []) × ((x : Version) × Memᴰ x versions × (valid_in x v ≡ true) × (t ≡ text_in x v))

    go : {o : Read Value} → Went t o → o ≡ got v r → Goal
    go (unversioned h) e = never (cc)
    go (in_head y x k w a) e = never (cc)
    go (in_tags y x ns q k w a b) e = never (cc)
    go (extra y x ns q ts p w a b c) e = never (cc)
    go (whole y x ns q ts w a b) e =
        let f = fits x w.listed in
        let l = lines_only 2 x.head [] [] y.rest ns q f.head_bounded a in
        let u = tags_only (get_or ns 2 0) (2 + length x.head) x.tag [] q ts [] f.tag_bounded f.tags b in
        let value : value_from ns ts ≡ v = cc in
        let three : head_numbers (value_from ns ts) ≡ l.numbers = ap (λ n. get_or ns 0 0 ∷ get_or ns 1 0 ∷ n ∷ []) u.0 ∙ tab_get_d 0 ns 3 (ap length l.whole ∙ l.all ∙ f.heads) ∙ l.whole in
        let heads : all_right x.head [] [] (head_numbers (value_from ns ts)) ≡ true = rw three l.right in
        let text : y.rest ≡ text_of_lines x.head (head_numbers (value_from ns ts)) ++ tags_text x.tag ts =
        l.text
        ∙ ap (λ ms. text_of_lines x.head ms ++ q) (sym three)
        ∙ ap (text_of_lines x.head (head_numbers (value_from ns ts)) ++◌) (u.2 ∙ append-nil (tags_text x.tag ts)) in
        let first : t ≡ line_of version_key x.number ++ y.rest = line_only version_key t y w.line (omega (arith, w.number, f.small)) ∙ rw w.number in (
          cc,
          (
            x,
            w.listed,
            subst (λ (c : Value). valid_in x c ≡ true) value (rw heads u.1),
            subst (λ (c : Value). t ≡ text_in x c) value (first ∙ ap (line_of version_key x.number ++◌) text),
          ),
        )

-- Two valid values are equal exactly when their texts in the newest version are.
pub text_tells : (v w : Value) → valid v ≡ true → valid w ≡ true → (v ≡ w) ↔ (text_in newest v ≡ text_in newest w)
text_tells v w a b = (λ e. ap (text_in newest) e, λ e. told e)
  where
    told : text_in newest v ≡ text_in newest w → v ≡ w
    told e =
        let q : got v [] ≡ got w [] = sym (read_back v a) ∙ ap read_text e ∙ read_back w b in
        cc

-- A text is read exactly if it is the text of a valid value in a listed version.
pub accepted : (t : List ℕ) → ((v : Value) × (read_text t ≡ got v [])) ↔ ((x : Version) × (v : Value) × Memᴰ x versions × (valid_in x v ≡ true) × (t ≡ text_in x v))
accepted t = (λ a. there a.0 a.1, λ b. here b.0 b.1 b.2 b.3 b.4)
  where
    there : (v : Value) → read_text t ≡ got v [] → (x : Version) × (v : Value) × Memᴰ x versions × (valid_in x v ≡ true) × (t ≡ text_in x v)
    there v h = let w = (read_only t [] v h).1 in (w.0, v, w.1, w.2, w.3)

    here : (x : Version) (v : Value) → Memᴰ x versions → valid_in x v ≡ true → t ≡ text_in x v → (v : Value) × (read_text t ≡ got v [])
    here x v m r e = (told_by_version x v, ap read_text e ∙ read_told x v m r)

-- of the tag before a rule sees which addresses may follow it, and nothing besides
abbrev Alike : (prior prior' : List ℕ) → Type 0
Alike prior prior' = (n : ℕ) → ascends prior' n ≡ ascends prior n

abbrev Steady : List Line → Type 0
Steady [] = Unit {0}
Steady (l ∷ ls) = ((prior prior' own : List ℕ) (n : ℕ) → Alike prior prior' → l.right prior' own n ≡ l.right prior own n) × Steady ls

steady : Steady tag_lines
steady = (λ prior prior' own n a. rw (a n), (λ prior prior' own n a. refl, (λ prior prior' own n a. refl, (λ prior prior' own n a. refl, (λ prior prior' own n a. refl, tt)))))

-- 0 is right for every line that a version brought
abbrev Optional : List Line → Type 0
Optional [] = Unit {0}
Optional (l ∷ ls) = ((prior own : List ℕ) → l.right prior own 0 ≡ true) × Optional ls

optional : Optional (drop 2 tag_lines)
optional = (λ prior own. refl, (λ prior own. refl, (λ prior own. refl, tt)))

without-first : (k : ℕ) (ls : List Line) → Optional ls → Optional (drop k ls)
without-first zero ls z = z
without-first (suc k) [] z = tt
without-first (suc k) (l ∷ ls) z = without-first k ls z.1

-- the first k numbers, and 0 for the others
zeroed : ℕ → List ℕ → List ℕ
zeroed k [] = []
zeroed zero (n ∷ ns) = 0 ∷ zeroed zero ns
zeroed (suc k) (n ∷ ns) = n ∷ zeroed k ns

-- numbers that are right for the first lines are, with 0 for the others, right for all
lines_right : (k : ℕ) (ls : List Line) (prior prior' own ns : List ℕ) → Steady ls → Optional (drop k ls) → Alike prior prior' → length ns ≡ length ls → all_right (take k ls) prior own (take k ns) ≡ true
    → all_right ls prior' own (zeroed k ns) ≡ true
unfolding all_right zeroed
lines_right k [] prior prior' own ns s z a c r = refl
lines_right k (l ∷ ls) prior prior' own [] s z a c r = absurd (omega arith)
lines_right zero (l ∷ ls) prior prior' own (n ∷ ns) s z a c r = rw (z.0 prior' own) (lines_right zero ls prior prior' (own ++ (0 ∷ [])) ns s.1 z.1 a (omega arith) refl)
lines_right (suc k) (l ∷ ls) prior prior' own (n ∷ ns) s z a c r =
    let here = and_left (l.right prior own n) _ r in
    let rest = and_right (l.right prior own n) _ r in
    rw (s.0 prior prior' own n a, here) (lines_right k ls prior prior' (own ++ (n ∷ [])) ns s.1 z a (omega arith) rest)

-- the numbers of a tag that the first of its lines tell
told-numbers : (k : ℕ) (t : Tag) → k ≤ length tag_lines → tag_numbers (tag_from (take k (tag_numbers t))) ≡ zeroed k (tag_numbers t)
unfolding zeroed
told-numbers zero t u = refl
told-numbers (suc zero) t u = refl
told-numbers (suc (suc zero)) t u = refl
told-numbers (suc (suc (suc zero))) t u = refl
told-numbers (suc (suc (suc (suc zero)))) t u = refl
told-numbers (suc (suc (suc (suc (suc zero))))) t u = refl
told-numbers (suc (suc (suc (suc (suc (suc k)))))) t u = absurd (omega arith)

told-alike : (k : ℕ) (t : Tag) → 2 ≤ k → Alike (take k (tag_numbers t)) (tag_numbers (tag_from (take k (tag_numbers t))))
unfolding ascends
told-alike zero t l n = absurd (omega arith)
told-alike (suc zero) t l n = absurd (omega arith)
told-alike (suc (suc k)) t l n = refl

-- right tags of an older version are, as far as it tells them, right tags of the newest
module _ (k : ℕ) (least : 2 ≤ k) (most : k ≤ length tag_lines) (ls : List Line) (first : ls ≡ take k tag_lines) (count : length ls ≡ k) where
  tags_right_lem : (prior prior' : List ℕ) → Alike prior prior' → (ts : List Tag) → tags_right ls prior ts ≡ true → tags_right tag_lines prior' (map (told ls) ts) ≡ true
  unfolding tags_right
  tags_right_lem prior prior' a [] r = refl
  tags_right_lem prior prior' a (t ∷ ts) r =
      let here : all_right ls prior [] (take k (tag_numbers t)) ≡ true = rw count at (and_left (all_right ls prior [] (numbers_in ls t)) _ r) in
      let numbers : tag_numbers (told ls t) ≡ zeroed k (tag_numbers t) = rw count (told-numbers k t most) in
      let line : all_right tag_lines prior' [] (tag_numbers (told ls t)) ≡ true =
      subst (λ ns. all_right tag_lines prior' [] ns ≡ true) (sym numbers) (lines_right k tag_lines prior prior' [] (tag_numbers t) steady (behind k least) a refl (rw first at here)) in
      rw line (tags_right_lem (numbers_in ls t) (tag_numbers (told ls t)) (rw count (told-alike k t least)) ts (and_right (all_right ls prior [] (numbers_in ls t)) _ r))
    where
      behind : (k : ℕ) → 2 ≤ k → Optional (drop k tag_lines)
      behind zero l = absurd (omega arith)
      behind (suc zero) l = absurd (omega arith)
      behind (suc (suc k)) l = without-first k (drop 2 tag_lines) optional

-- A value that is valid in a listed version is, as far as that version tells it, valid in the newest.
pub told-valid : (x : Version) → Memᴰ x versions → (v : Value) → valid_in x v ≡ true → valid (told_by_version x v) ≡ true
unfolding valid_in told_by_version
told-valid =
    by_number (λ x. (v : Value) → valid_in x v ≡ true → valid (told_by_version x v) ≡ true)
    (λ n l v r.
    let heads = and_left (all_right head_lines [] [] (head_numbers v)) _ r in
    let few : suc n ≤ length tag_lines = omega (arith, l.1) in
    rw (length-map v.tags (told (version_of n).tag), heads)
    (tags_right_lem (suc n) (omega (arith, l.0)) few (version_of n).tag refl (length-take-le (suc n) tag_lines few) [] [] (λ m. refl) v.tags (and_right (all_right head_lines [] [] (head_numbers v)) _ r)))

-- What a text is read to is a valid value.
pub read_valid : (t r : List ℕ) (v : Value) → read_text t ≡ got v r → valid v ≡ true
read_valid t r v h =
    let w = read_only t r v h in
    let x = w.1.0 in
    let q : got v r ≡ got (told_by_version x v) [] = sym h ∙ ap read_text w.1.3 ∙ read_told x v w.1.1 w.1.2 in
    let e : v ≡ told_by_version x v = cc in
    rw e (told-valid x w.1.1 v w.1.2)

-- A wrong line is the first, or one behind a version line of a listed version: a line of that version, or one more for an extra byte.
pub wrong_lines : (t : List ℕ) (k : ℕ) → read_text t ≡ wrong k → (k ≡ 1) ⊎ ((y : Numbered) × (x : Version) × Versioned t y x × (2 ≤ k) × (k ≤ 5 + length x.tag * most_tags))
wrong_lines t k h = go (went t) h
  where
    few : (t ns q : List ℕ) (x : Version) → Fit x → read_lines 2 x.head [] [] t ≡ got ns q → get_or ns 2 0 ≤ most_tags
    few t ns q x f a = let l = lines_only 2 x.head [] [] t ns q f.head_bounded a in rw l.whole (f.few l.numbers l.right)

    go : {o : Read Value} → Went t o → o ≡ wrong k → (k ≡ 1) ⊎ ((y : Numbered) × (x : Version) × Versioned t y x × (2 ≤ k) × (k ≤ 5 + length x.tag * most_tags))
    go (unversioned h) e = let n : 1 ≡ k = cc in inl (sym n)
    go (in_head y x j w a) e =
        let n : j ≡ k = cc in
        let f = fits x w.listed in
        let bound = lines_wrong 2 x.head [] [] y.rest j a in
        inr (y, x, w, omega arith, omega (arith, f.heads))
    go (in_tags y x ns q j w a b) e =
        let n : j ≡ k = cc in
        let f = fits x w.listed in
        let bound = tags_wrong (get_or ns 2 0) (2 + length x.head) x.tag [] q j b in
        let most : get_or ns 2 0 * length x.tag ≤ length x.tag * most_tags = rw (mul_comm (length x.tag) most_tags) (mul-le-mul_right (length x.tag) (few y.rest ns q x f a)) in
        inr (y, x, w, omega arith, omega (arith, f.heads))
    go (extra y x ns q ts p w a b c) e =
        let f = fits x w.listed in
        let n : 2 + length x.head + length x.tag * length ts ≡ k = cc in
        let all = (tags_only (get_or ns 2 0) (2 + length x.head) x.tag [] q ts p f.tag_bounded f.tags b).0 in
        let most : length x.tag * length ts ≤ length x.tag * most_tags = rw all (mul-le-mul_left (length x.tag) (few y.rest ns q x f a)) in
        inr (y, x, w, omega arith, omega (arith, f.heads))
    go (whole y x ns q ts w a b) e = never (cc)

-- So it has a number from 1 on, at most 517 in version 1, 773 in version 2, 1,029 in version 3 and 1,285 in version 4.
pub wrong_most : (t : List ℕ) (k : ℕ) → read_text t ≡ wrong k → (1 ≤ k) × (k ≤ 5 + length tag_lines * most_tags)
wrong_most t k h =
    ⊎_elim
    (λ (e : k ≡ 1). omega arith)
    (λ (w : (y : Numbered) × (x : Version) × Versioned t y x × (2 ≤ k) × (k ≤ 5 + length x.tag * most_tags)).
    let f = fits w.1 w.2.listed in
    omega (arith, w.3, w.4, mul-le-mul_right most_tags f.tags))
    (wrong_lines t k h)

-- The lines before the tags, with the version line, have at most 40 bytes; a tag's lines have 20 in version 1, 27 in version 2, 37 in version 3 and 46 in version 4.
text_length : (n : ℕ) (v : Value) → n < 10 → valid_in (version_of n) v ≡ true → (length (text_in (version_of n) v) ≤ 40 + length v.tags * total (take (suc n) tag_bytes)) × (length v.tags ≤ most_tags)
unfolding text_in valid_in total
text_length n v l r =
    let heads = and_left (all_right head_lines [] [] (head_numbers v)) _ r in
    let first = line-length version_key 0 n l in
    let behind = lines_length head_lines (14 ∷ 7 ∷ 9 ∷ []) [] [] (head_numbers v) head_long heads in
    let tags = tags-length (version_of n).tag (take (suc n) tag_bytes) (version_long n) v.tags [] (and_right (all_right head_lines [] [] (head_numbers v)) _ r) in
    (simp length-append (omega arith), few_tags (head_numbers v) heads)

-- The text of a valid value has at most 5,160 bytes in version 1, 6,952 in version 2, 9,512 in version 3 and 11,816 in version 4.
pub longest_1 : (v : Value) → valid_in (version_of 1) v ≡ true → length (text_in (version_of 1) v) ≤ 5160
unfolding total
longest_1 v r = let l = text_length 1 v (omega arith) r in omega (arith, l.0, l.1)

pub longest_2 : (v : Value) → valid_in (version_of 2) v ≡ true → length (text_in (version_of 2) v) ≤ 6952
unfolding total
longest_2 v r = let l = text_length 2 v (omega arith) r in omega (arith, l.0, l.1)

pub longest_3 : (v : Value) → valid_in (version_of 3) v ≡ true → length (text_in (version_of 3) v) ≤ 9512
unfolding total
longest_3 v r = let l = text_length 3 v (omega arith) r in omega (arith, l.0, l.1)

pub longest_4 : (v : Value) → valid v ≡ true → length (text_in newest v) ≤ most_text
unfolding total
longest_4 v r = let l = text_length 4 v (omega arith) r in omega (arith, l.0, l.1)

-- No right text is longer.
pub longest : (x : Version) → Memᴰ x versions → (v : Value) → valid_in x v ≡ true → length (text_in x v) ≤ most_text
unfolding total
longest =
    by_number (λ x. (v : Value) → valid_in x v ≡ true → length (text_in x v) ≤ most_text)
    (λ n l v r.
    let t = text_length n v (omega (arith, l.1)) r in
    let bytes = mul-le-mul_left (length v.tags) (first-total (suc n) tag_bytes) in
    omega (arith, t.0, t.1, bytes))

pub full-valid : valid full ≡ true
unfolding full valid_in all_right tags_right ascends tab
full-valid = refl

pub full_longest : (length (text_in (version_of 1) full) ≡ 5160) × (length (text_in (version_of 2) full) ≡ 6952) × (length (text_in (version_of 3) full) ≡ 9512) × (length (text_in newest full) ≡ most_text)
unfolding full text_in text_of_lines line_of decimal_of flat_map tab
full_longest = (refl, refl, refl, refl)
