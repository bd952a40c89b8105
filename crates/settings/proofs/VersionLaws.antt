-- What the theorems ask of a version, how reading a text goes, and how long its lines are.
-- Assumes nothing.
use Prim.Native.Nat.{ℕ, zero, suc, ◌+◌, ◌*◌, ◌≤◌, ◌<◌}
use mathlib.Core.Path.{◌≡◌, refl, ap, sym, subst, ◌∙◌}
use mathlib.Core.Logic.{⊎_elim, ◌⊎◌, inl, inr}
use mathlib.Core.Bool.{Bool, true, false, ◌&&◌, false≢true}
use mathlib.Core.Option.{Option, some, none, some-injective, none-ne-some}
use mathlib.Core.List.Memᴰ
use mathlib.Core.List.{List, [], ◌∷◌, ◌++◌, map, flat_map, append-nil, cons≢nil, Memᴰ}
use native.Mathlib.Nat.{suc-mul}
use native.Mathlib.Omega.{arith}
use lib.ListN.{length, get_or, take, length-append, length-take}
use lib.Dec.{eqb, ltb, leb}
use borrow.Author.Tests.{leb-true, ltb-true, eqb-true, ne_eqb}
use Rattle.numbers.specs.Numbers.{most_tags, least_timeout, most_timeout, addresses, most_ttl, newest_version}
use Rattle.laws.proofs.Choice.{true_or, and_left, and_right, or_second}
use Rattle.settings.specs.Lines.{Numbered, line_of, line_in}
use Rattle.settings.specs.Grammar.{Tag, Value, Line, Version, Read, head_numbers, value_from, numbers_in, addr_key, width_key, sign_key, ttl_key, strict_key, right_sign, right_width, head_lines, tag_lines, version_of, versions, timeout_key, join_key, tags_key, version_key, version_in, text_of_lines, text_in, all_right, tags_right, valid_in, told_by_version, read_lines, read_tags, read_in, read_text, read_behind}
use Rattle.settings.specs.Grammar.Read.{got, wrong}
use Rattle.settings.specs.Plain.{numbered, Versioned}
use Rattle.settings.proofs.LineLaws.{line-length, line_back}
use Rattle.settings.proofs.RowLaws.{Bounded, Few, told, lines_back, tags_text, tags_back}

-- what is asked of a version: a line for each number of a value, none that a tag has no number for, and rules that bound the numbers
pub record Fit (x : Version) : Type 0 where
  pub small : x.number < addresses
  pub heads : length x.head ≡ 3
  pub tags : Few x.tag
  pub head_bounded : Bounded x.head
  pub tag_bounded : Bounded x.tag
  pub few : (ns : List ℕ) → all_right x.head [] [] ns ≡ true → get_or ns 2 0 ≤ most_tags

pub widths : (own : List ℕ) (n : ℕ) → right_width own n ≡ true → (n ≡ 16) ⊎ (n ≡ 32)
widths own n t =
    ⊎_elim
    (λ (e : eqb n 16 ≡ true). inl (eqb-true n 16 e))
    (λ (e : eqb n 16 ≡ false). inr (eqb-true n 32 (and_left (eqb n 32) _ (or_second (eqb n 16) _ e t))))
    (true_or (eqb n 16))

pub width_most : (own : List ℕ) (n : ℕ) → right_width own n ≡ true → n ≤ 32
width_most own n t = ⊎_elim (λ (e : n ≡ 16). omega arith) (λ (e : n ≡ 32). omega arith) (widths own n t)

pub sign_most : (own : List ℕ) (n : ℕ) → right_sign own n ≡ true → n ≤ 1
sign_most own n t =
    ⊎_elim
    (λ (e : eqb n 0 ≡ true). omega (arith, eqb-true n 0 e))
    (λ (e : eqb n 0 ≡ false). omega (arith, eqb-true n 1 (and_left (eqb n 1) _ (or_second (eqb n 0) _ e t))))
    (true_or (eqb n 0))

pub few_tags : (ns : List ℕ) → all_right head_lines [] [] ns ≡ true → get_or ns 2 0 ≤ most_tags
unfolding all_right
few_tags [] t = absurd (false≢true t)
few_tags (a ∷ []) t = omega arith
few_tags (a ∷ b ∷ []) t = omega arith
few_tags (a ∷ b ∷ c ∷ ns) t = leb-true c most_tags (and_left (leb c most_tags) _ (and_right (leb b 1) _ (and_right (leb 100 a && leb a 60000) _ t)))

pub tags_bounded : Bounded tag_lines
tags_bounded = (
  λ prior own n t. ltb-true n addresses (and_left (ltb n addresses) _ t),
  (λ prior own n t. omega (arith, width_most own n t), (λ prior own n t. omega (arith, sign_most own n t), (λ prior own n t. omega (arith, leb-true n most_ttl t), (λ prior own n t. omega (arith, leb-true n 1 t), tt)))),
)

first_bounded : (n : ℕ) (ls : List Line) → Bounded ls → Bounded (take n ls)
first_bounded zero ls b = tt
first_bounded (suc n) [] b = tt
first_bounded (suc n) (l ∷ ls) b = (b.0, first_bounded n ls b.1)

-- every version is fit
pub fit : (n : ℕ) → n < addresses → Fit (version_of n)
fit n l =
    record {
      small = l;
      heads = refl;
      tags = omega (arith, length-take (suc n) tag_lines);
      head_bounded = (
        λ prior own n t. omega (arith, leb-true n 60000 (and_right (leb 100 n) (leb n 60000) t)),
        (λ prior own n t. omega (arith, leb-true n 1 t), (λ prior own n t. omega (arith, leb-true n 256 t), tt)),
      );
      tag_bounded = first_bounded (suc n) tag_lines tags_bounded;
      few = few_tags;
    }

-- what holds of each of some versions holds of one that is listed among them
abbrev Each : (Version → Type 0) → List Version → Type 0
Each P [] = Unit {0}
Each P (x ∷ xs) = P x × Each P xs

each : (P : Version → Type 0) (xs : List Version) → Each P xs → (x : Version) → Memᴰ x xs → P x
each P [] ps x m = absurd (Memᴰ.not-nil m)
each P (y ∷ ys) ps x m = ⊎_elim (λ (e : x ≡ y). subst P (sym e) ps.0) (λ n. each P ys ps.1 x n) (Memᴰ.cases_cons m)

-- the listed versions are a range of numbers
abbrev pub Listed : ℕ → Type 0
Listed n = (1 ≤ n) × (n ≤ newest_version)

pub by_number : (P : Version → Type 0) → ((n : ℕ) → Listed n → P (version_of n)) → (x : Version) → Memᴰ x versions → P x
by_number P f = each P versions (f 1 (omega arith, omega arith), (f 2 (omega arith, omega arith), (f 3 (omega arith, omega arith), (f 4 (omega arith, omega arith), tt))))

pub version_listed : (n : ℕ) → Listed n → version_in versions n ≡ some (version_of n)
unfolding version_in
version_listed zero l = absurd (omega (arith, l.0))
version_listed (suc zero) l = refl
version_listed (suc (suc zero)) l = refl
version_listed (suc (suc (suc zero))) l = refl
version_listed (suc (suc (suc (suc zero)))) l = refl
version_listed (suc (suc (suc (suc (suc n))))) l = absurd (omega (arith, l.1))

pub fits : (x : Version) → Memᴰ x versions → Fit x
fits = by_number Fit (λ n l. fit n (omega (arith, l.1)))

pub found : (x : Version) → Memᴰ x versions → version_in versions x.number ≡ some x
found = by_number (λ x. version_in versions x.number ≡ some x) version_listed

pub listed : (xs : List Version) (n : ℕ) (x : Version) → version_in xs n ≡ some x → Memᴰ x xs × (x.number ≡ n)
unfolding version_in
listed [] n x e = absurd (none-ne-some x e)
listed (y ∷ ys) n x e =
    ⊎_elim
    (λ (t : eqb y.number n ≡ true).
    let q : y ≡ x = some-injective y x (rw t at e) in
    (Memᴰ.head (sym q), ap (λ (z : Version). z.number) (sym q) ∙ eqb-true y.number n t))
    (λ (t : eqb y.number n ≡ false). let i = listed ys n x (rw t at e) in (Memᴰ.tail i.0, i.1))
    (true_or (eqb y.number n))

pub version_unlisted : (n : ℕ) → (Listed n → ⊥) → version_in versions n ≡ none
version_unlisted n h = go (version_in versions n) refl
  where
    go : (o : Option Version) → version_in versions n ≡ o → version_in versions n ≡ none
    go none e = e
    go (some x) e = let m = listed versions n x e in absurd (h (rw m.1 at (by_number (λ y. Listed y.number) (λ k l. l) x m.0)))

-- the steps of reading a text: the version line, the lines before the tags, the tags
pub text_version : (t : List ℕ) (y : Numbered) (x : Version) → line_in version_key t ≡ some y → version_in versions y.number ≡ some x → read_text t ≡ read_in x y.rest
unfolding read_text
text_version t y x e f = rw (e, read_text) (rw f)

pub text_head : (x : Version) (t ns r : List ℕ) → read_lines 2 x.head [] [] t ≡ got ns r → read_in x t ≡ read_behind x ns r
unfolding read_in read_behind
text_head x t ns r e = rw (e, read_in)

-- the tags behind the lines before them
abbrev pub tags_in : Version → List ℕ → List ℕ → Read (List Tag)
tags_in x ns t = read_tags (get_or ns 2 0) (2 + length x.head) x.tag [] t

pub text_tags : (x : Version) (ns t : List ℕ) (ts : List Tag) → tags_in x ns t ≡ got ts [] → read_behind x ns t ≡ got (value_from ns ts) []
unfolding read_behind
text_tags x ns t ts e = rw (e, read_behind)

-- how reading a text goes: no listed version, a wrong line before the tags, a wrong line of a tag, an extra byte, or all of it
pub data Went (t : List ℕ) : Read Value → Type 0 where
  unversioned : ((y : Numbered) → line_in version_key t ≡ some y → version_in versions y.number ≡ none) → Went t (wrong 1)
  in_head : (y : Numbered) (x : Version) (k : ℕ) → Versioned t y x → read_lines 2 x.head [] [] y.rest ≡ wrong k → Went t (wrong k)
  in_tags : (y : Numbered) (x : Version) (ns q : List ℕ) (k : ℕ) → Versioned t y x → read_lines 2 x.head [] [] y.rest ≡ got ns q → tags_in x ns q ≡ wrong k → Went t (wrong k)
  extra : (y : Numbered) (x : Version) (ns q : List ℕ) (ts : List Tag) (p : List ℕ) → Versioned t y x → read_lines 2 x.head [] [] y.rest ≡ got ns q → tags_in x ns q ≡ got ts p
      → (p ≡ [] → ⊥) → Went t (wrong (2 + length x.head + length x.tag * length ts))
  whole : (y : Numbered) (x : Version) (ns q : List ℕ) (ts : List Tag) → Versioned t y x → read_lines 2 x.head [] [] y.rest ≡ got ns q → tags_in x ns q ≡ got ts []
      → Went t (got (value_from ns ts) [])

pub went : (t : List ℕ) → Went t (read_text t)
unfolding read_text read_in read_behind
went t = version (line_in version_key t) refl
  where
    tags : (y : Numbered) (x : Version) (ns q : List ℕ) → Versioned t y x → read_lines 2 x.head [] [] y.rest ≡ got ns q → (o : Read (List Tag)) → tags_in x ns q ≡ o → Went t (read_behind x ns q)
    tags y x ns q v e (wrong k) g = rw (g, read_behind) (in_tags y x ns q k v e g)
    tags y x ns q v e (got ts []) g = rw (g, read_behind) (whole y x ns q ts v e g)
    tags y x ns q v e (got ts (c ∷ p)) g = rw (g, read_behind) (rw (ne_eqb (suc (length p)) 0 (λ z. omega arith)) (extra y x ns q ts (c ∷ p) v e g cons≢nil))

    head : (y : Numbered) (x : Version) → Versioned t y x → (o : Read (List ℕ)) → read_lines 2 x.head [] [] y.rest ≡ o → Went t (read_in x y.rest)
    head y x v (wrong k) e = rw (e, read_in) (in_head y x k v e)
    head y x v (got ns q) e = rw (text_head x y.rest ns q e) (tags y x ns q v e (tags_in x ns q) refl)

    number : (y : Numbered) → line_in version_key t ≡ some y → (o : Option Version) → version_in versions y.number ≡ o → Went t (read_text t)
    number y e none g = rw (e, read_text) (rw g (unversioned (λ z f. let q : y ≡ z = some-injective y z (sym e ∙ f) in ap (λ (z : Numbered). version_in versions z.number) (sym q) ∙ g)))
    number y e (some x) g =
        let m = listed versions y.number x g in
        rw (text_version t y x e g) (head y x (record { line = e; listed = m.0; number = m.1 }) (read_lines 2 x.head [] [] y.rest) refl)

    version : (o : Option Numbered) → line_in version_key t ≡ o → Went t (read_text t)
    version none e = rw (e, read_text) (unversioned (λ z f. absurd (none-ne-some z (sym e ∙ f))))
    version (some y) e = number y e (version_in versions y.number) refl

-- a valid value's text is read to what it tells
pub back : (x : Version) (v : Value) → Fit x → version_in versions x.number ≡ some x → valid_in x v ≡ true → read_text (text_in x v) ≡ got (told_by_version x v) []
unfolding text_in valid_in told_by_version
back x v f l r =
    let first : Bool = all_right x.head [] [] (head_numbers v) in
    let head : List ℕ = text_of_lines x.head (head_numbers v) in
    let tags : List ℕ = tags_text x.tag v.tags in
    text_version (text_in x v) (numbered x.number (head ++ tags)) x (line_back version_key x.number (head ++ tags) (omega (arith, f.small))) l
    ∙ text_head x (head ++ tags) (head_numbers v) tags (lines_back 2 x.head [] [] (head_numbers v) tags f.head_bounded (sym f.heads) (and_left first _ r))
    ∙ text_tags x (head_numbers v) tags (map (told x.tag) v.tags) (rw (append-nil tags) at (tags_back (2 + length x.head) x.tag [] v.tags [] f.tag_bounded f.tags (and_right first _ r)))

-- how long right lines are: each of them at most so many bytes
abbrev pub Long : List Line → List ℕ → Type 0
Long [] ms = Unit {0}
Long (l ∷ ls) [] = Unit {0} → ⊥
Long (l ∷ ls) (m ∷ ms) = ((prior own : List ℕ) (n : ℕ) → l.right prior own n ≡ true → length (line_of l.key n) ≤ m) × Long ls ms

unfoldable pub total : List ℕ → ℕ
total [] = 0
total (m ∷ ms) = m + total ms

pub lines_length : (ls : List Line) (ms prior own ns : List ℕ) → Long ls ms → all_right ls prior own ns ≡ true → length (text_of_lines ls ns) ≤ total ms
unfolding all_right text_of_lines total
lines_length [] ms prior own ns f r = omega arith
lines_length (l ∷ ls) [] prior own ns f r = absurd (f tt)
lines_length (l ∷ ls) (m ∷ ms) prior own [] f r = absurd (false≢true r)
lines_length (l ∷ ls) (m ∷ ms) prior own (n ∷ ns) f r =
    let here = f.0 prior own n (and_left (l.right prior own n) _ r) in
    let rest = lines_length ls ms prior (own ++ (n ∷ [])) ns f.1 (and_right (l.right prior own n) _ r) in
    simp length-append (omega arith)

pub tags-length : (ls : List Line) (ms : List ℕ) → Long ls ms → (ts : List Tag) (prior : List ℕ) → tags_right ls prior ts ≡ true → length (tags_text ls ts) ≤ length ts * total ms
unfolding tags_right flat_map
tags-length ls ms f [] prior r = omega arith
tags-length ls ms f (t ∷ ts) prior r =
    let here = lines_length ls ms prior [] (numbers_in ls t) f (and_left _ (tags_right ls (numbers_in ls t) ts) r) in
    let rest = tags-length ls ms f ts (numbers_in ls t) (and_right (all_right ls prior [] (numbers_in ls t)) _ r) in
    simp (length-append, suc-mul) (omega arith)

-- the lines before the tags, and those of a tag
pub head_long : Long head_lines (14 ∷ 7 ∷ 9 ∷ [])
head_long = (
  λ prior own n t. line-length timeout_key 4 n (omega (arith, leb-true n most_timeout (and_right (leb least_timeout n) (leb n most_timeout) t))),
  (λ prior own n t. line-length join_key 0 n (omega (arith, leb-true n 1 t)), (λ prior own n t. line-length tags_key 2 n (omega (arith, leb-true n most_tags t)), tt)),
)

abbrev pub tag_bytes : List ℕ
tag_bytes = 11 ∷ 9 ∷ 7 ∷ 10 ∷ 9 ∷ []

tag-long : Long tag_lines tag_bytes
tag-long = (
  λ prior own n t. line-length addr_key 4 n (omega (arith, tags_bounded.0 prior own n t)),
  (
    λ prior own n t. line-length width_key 1 n (omega (arith, width_most own n t)),
    (λ prior own n t. line-length sign_key 0 n (omega (arith, sign_most own n t)), (λ prior own n t. line-length ttl_key 4 n (omega (arith, leb-true n most_ttl t)), (λ prior own n t. line-length strict_key 0 n (omega (arith, leb-true n 1 t)), tt))),
  ),
)

-- an older version has the first of a tag's lines
first-long : (k : ℕ) (ls : List Line) (ms : List ℕ) → Long ls ms → Long (take k ls) (take k ms)
first-long zero ls ms f = tt
first-long (suc k) [] ms f = tt
first-long (suc k) (l ∷ ls) [] f = f
first-long (suc k) (l ∷ ls) (m ∷ ms) f = (f.0, first-long k ls ms f.1)

pub version_long : (n : ℕ) → Long (version_of n).tag (take (suc n) tag_bytes)
version_long n = first-long (suc n) tag_lines tag_bytes tag-long

pub first-total : (k : ℕ) (ms : List ℕ) → total (take k ms) ≤ total ms
unfolding total
first-total zero ms = omega arith
first-total (suc k) [] = omega arith
first-total (suc k) (m ∷ ms) = omega (arith, first-total k ms)
