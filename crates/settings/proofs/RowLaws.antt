-- Lines in a row, and tags in a row: what is written is read back, nothing else is read, and a wrong line has its own number.
-- Assumes nothing.
use Prim.Native.Nat.{ℕ, zero, suc, ◌+◌, ◌*◌, ◌≤◌, ◌<◌}
use mathlib.Core.Path.{◌≡◌, refl, ap, sym, ◌∙◌}
use mathlib.Core.Logic.{⊎_elim}
use mathlib.Core.Bool.{Bool, true, false}
use mathlib.Core.Option.{Option, some, none, some-injective, none-ne-some, some-ne-none}
use mathlib.Core.List.{List, [], ◌∷◌, ◌++◌, map, flat_map, append_assoc, append-nil}
use native.Mathlib.Omega.{arith}
use lib.ListN.{length, take}
use lib.Seq.{length-take-le}
use Rattle.numbers.specs.Numbers.{addresses}
use Rattle.laws.proofs.Choice.{true_or, and_left, and_right, never}
use Rattle.settings.specs.Lines.{Numbered, line_of, line_in}
use Rattle.settings.specs.Grammar.{Tag, Line, Read, tag_numbers, tag_from, tag_lines, numbers_in, text_of_lines, all_right, tags_right, read_lines, read_tags, ruled}
use Rattle.settings.specs.Grammar.Read.{got, wrong}
use Rattle.settings.specs.Plain.{numbered}
use Rattle.settings.proofs.LineLaws.{line_back, line_only}

-- one line of several

pub ruled_follows : (rule : ℕ → Bool) (o : Option Numbered) (x : Numbered) → ruled rule o ≡ some x → (o ≡ some x) × (rule x.number ≡ true)
unfolding ruled
ruled_follows rule none x e = absurd (none-ne-some x e)
ruled_follows rule (some y) x e =
    ⊎_elim
    (λ (t : rule y.number ≡ true).
    let q : y ≡ x = some-injective y x (rw t at e) in
    (ap some q, ap (λ (z : Numbered). rule z.number) (sym q) ∙ t))
    (λ (t : rule y.number ≡ false). absurd (none-ne-some x (rw t at e)))
    (true_or (rule y.number))

pub ruled-some : (rule : ℕ → Bool) (o : Option Numbered) (x : Numbered) → o ≡ some x → rule x.number ≡ true → ruled rule o ≡ some x
unfolding ruled
ruled-some rule o x e t = rw (e, t)

module _ (at : ℕ) (l : Line) (ls : List Line) (prior own t : List ℕ) where
  pub line_wrong : ruled (l.right prior own) (line_in l.key t) ≡ none → read_lines at (l ∷ ls) prior own t ≡ wrong at
  unfolding read_lines ruled
  line_wrong h = go (line_in l.key t) refl
    where
      go : (o : Option Numbered) → line_in l.key t ≡ o → read_lines at (l ∷ ls) prior own t ≡ wrong at
      go none e = rw (e, read_lines)
      go (some x) e =
          ⊎_elim
          (λ (r : l.right prior own x.number ≡ true). absurd (some-ne-none x (rw (e, r) at h)))
          (λ (r : l.right prior own x.number ≡ false). rw (e, read_lines) (rw r))
          (true_or (l.right prior own x.number))

  pub line_right : (x : Numbered) → ruled (l.right prior own) (line_in l.key t) ≡ some x → read_lines at (l ∷ ls) prior own t ≡ read_lines (suc at) ls prior (own ++ (x.number ∷ [])) x.rest
  unfolding read_lines
  line_right x h = let k = ruled_follows (l.right prior own) (line_in l.key t) x h in rw (k.0, read_lines) (rw k.1)

-- every right number of these lines is below a limit
abbrev pub Bounded : List Line → Type 0
Bounded [] = Unit {0}
Bounded (l ∷ ls) = ((prior own : List ℕ) (n : ℕ) → l.right prior own n ≡ true → n < addresses) × Bounded ls

pub lines_back : (at : ℕ) (ls : List Line) (prior own ns rest : List ℕ) → Bounded ls → length ns ≡ length ls → all_right ls prior own ns ≡ true → read_lines at ls prior own (text_of_lines ls ns ++ rest) ≡ got (own ++ ns) rest
unfolding read_lines text_of_lines all_right
lines_back at [] prior own [] rest b c r = ap (λ ns. got ns rest) (sym (append-nil own))
lines_back at [] prior own (n ∷ ns) rest b c r = absurd (omega arith)
lines_back at (l ∷ ls) prior own [] rest b c r = absurd (omega arith)
lines_back at (l ∷ ls) prior own (n ∷ ns) rest b c r =
    let first = and_left (l.right prior own n) _ r in
    let small = b.0 prior own n first in
    let t : List ℕ = text_of_lines ls ns ++ rest in
    rw (append_assoc (line_of l.key n) (text_of_lines ls ns) rest)
    (line_right at l ls prior own (line_of l.key n ++ t) (numbered n t) (ruled-some (l.right prior own) _ (numbered n t) (line_back l.key n t (omega arith)) first)
    ∙ lines_back (suc at) ls prior (own ++ (n ∷ [])) ns rest b.1 (omega arith) (and_right (l.right prior own n) _ r)
    ∙ ap (λ ms. got ms rest) (append_assoc own (n ∷ []) ns))

-- what lines were read: their numbers follow the rules, and the text is theirs
pub record LinesRead (ls : List Line) (prior own t out r : List ℕ) : Type 0 where
  pub numbers : List ℕ
  pub all : length numbers ≡ length ls
  pub whole : out ≡ own ++ numbers
  pub right : all_right ls prior own numbers ≡ true
  pub text : t ≡ text_of_lines ls numbers ++ r

pub lines_only : (at : ℕ) (ls : List Line) (prior own t out r : List ℕ) → Bounded ls → read_lines at ls prior own t ≡ got out r → LinesRead ls prior own t out r
unfolding read_lines text_of_lines all_right
lines_only at [] prior own t out r b h =
    let p : own ≡ out = cc in
    let q : t ≡ r = cc in
    record { numbers = []; all = refl; whole = sym p ∙ sym (append-nil own); right = refl; text = q }
lines_only at (l ∷ ls) prior own t out r b h =
    go (ruled (l.right prior own) (line_in l.key t)) refl (λ x e. lines_only (suc at) ls prior (own ++ (x.number ∷ [])) x.rest out r b.1 e)
  where
    go : (o : Option Numbered) → ruled (l.right prior own) (line_in l.key t) ≡ o
        → ((x : Numbered) → read_lines (suc at) ls prior (own ++ (x.number ∷ [])) x.rest ≡ got out r → LinesRead ls prior (own ++ (x.number ∷ [])) x.rest out r)
        → LinesRead (l ∷ ls) prior own t out r
    go none e i = never (cc (line_wrong at l ls prior own t e))
    go (some x) e i =
        let k = ruled_follows (l.right prior own) (line_in l.key t) x e in
        let small = b.0 prior own x.number k.1 in
        let next = i x (sym (line_right at l ls prior own t x e) ∙ h) in
        record {
          numbers = x.number ∷ next.numbers;
          all = ap suc next.all;
          whole = next.whole ∙ append_assoc own (x.number ∷ []) next.numbers;
          right = rw k.1 next.right;
          text =
              line_only l.key t x k.0 (omega arith)
              ∙ ap (line_of l.key x.number ++◌) next.text
              ∙ sym (append_assoc (line_of l.key x.number) (text_of_lines ls next.numbers) r);
        }

pub lines_wrong : (at : ℕ) (ls : List Line) (prior own t : List ℕ) (k : ℕ) → read_lines at ls prior own t ≡ wrong k → (at ≤ k) × (k < at + length ls)
unfolding read_lines
lines_wrong at [] prior own t k h = never (cc)
lines_wrong at (l ∷ ls) prior own t k h =
    go (ruled (l.right prior own) (line_in l.key t)) refl (λ x e. lines_wrong (suc at) ls prior (own ++ (x.number ∷ [])) x.rest k e)
  where
    go : (o : Option Numbered) → ruled (l.right prior own) (line_in l.key t) ≡ o
        → ((x : Numbered) → read_lines (suc at) ls prior (own ++ (x.number ∷ [])) x.rest ≡ wrong k → (suc at ≤ k) × (k < suc at + length ls))
        → (at ≤ k) × (k < at + suc (length ls))
    go none e i = let z : at ≡ k = cc (line_wrong at l ls prior own t e) in omega arith
    go (some x) e i = let n = i x (sym (line_right at l ls prior own t x e) ∙ h) in omega arith

-- one tag of several

unfoldable pub onto : List Tag → Read (List Tag) → Read (List Tag)
onto ts (got us r) = got (ts ++ us) r
onto ts (wrong k) = wrong k

pub onto_onto : (ts us : List Tag) (o : Read (List Tag)) → onto ts (onto us o) ≡ onto (ts ++ us) o
unfolding onto
onto_onto ts us (got vs r) = ap (λ ws. got ws r) (sym (append_assoc ts us vs))
onto_onto ts us (wrong k) = refl

onto_got : (t : Tag) (o : Read (List Tag)) (ts : List Tag) (r : List ℕ) → onto (t ∷ []) o ≡ got ts r → (us : List Tag) × (ts ≡ t ∷ us) × (o ≡ got us r)
unfolding onto
onto_got t (got us q) ts r e = (us, cc, cc)
onto_got t (wrong k) ts r e = never (cc)

onto_wrong : (t : Tag) (o : Read (List Tag)) (k : ℕ) → onto (t ∷ []) o ≡ wrong k → o ≡ wrong k
unfolding onto
onto_wrong t (got us q) k e = never (cc)
onto_wrong t (wrong j) k e = e

module _ (n at : ℕ) (ls : List Line) (prior t : List ℕ) where
  pub tag_wrong : (k : ℕ) → read_lines at ls prior [] t ≡ wrong k → read_tags (suc n) at ls prior t ≡ wrong k
  unfolding read_tags
  tag_wrong k e = rw (e, read_tags)

  pub tag_right : (own r : List ℕ) → read_lines at ls prior [] t ≡ got own r → read_tags (suc n) at ls prior t ≡ onto (tag_from own ∷ []) (read_tags n (at + length ls) ls own r)
  unfolding read_tags onto
  tag_right own r e = rw (e, read_tags) (go (read_tags n (at + length ls) ls own r))
    where
      go : (o : Read (List Tag)) → elim o [ wrong k ↦ wrong k | got ts q ↦ got (tag_from own ∷ ts) q ] ≡ onto (tag_from own ∷ []) o
      go (wrong k) = refl
      go (got ts q) = refl

-- tags in a row

abbrev pub tags_text : List Line → List Tag → List ℕ
tags_text ls ts = flat_map (λ t. text_of_lines ls (numbers_in ls t)) ts

-- what is read of a tag whose lines these are
abbrev pub told : List Line → Tag → Tag
told ls t = tag_from (numbers_in ls t)

-- there is a number for each line
abbrev pub Few : List Line → Type 0
Few ls = length ls ≤ length tag_lines

numbers-count : (ls : List Line) (t : Tag) → Few ls → length (numbers_in ls t) ≡ length ls
numbers-count ls t c = length-take-le (length ls) (tag_numbers t) c

numbers_back : (own : List ℕ) → length own ≤ length tag_lines → take (length own) (tag_numbers (tag_from own)) ≡ own
numbers_back [] c = refl
numbers_back (a ∷ []) c = refl
numbers_back (a ∷ b ∷ []) c = refl
numbers_back (a ∷ b ∷ d ∷ []) c = refl
numbers_back (a ∷ b ∷ d ∷ e ∷ []) c = refl
numbers_back (a ∷ b ∷ d ∷ e ∷ f ∷ []) c = refl
numbers_back (a ∷ b ∷ d ∷ e ∷ f ∷ g ∷ ns) c = absurd (omega arith)

pub tags_back : (at : ℕ) (ls : List Line) (prior : List ℕ) (ts : List Tag) (rest : List ℕ) → Bounded ls → Few ls → tags_right ls prior ts ≡ true → read_tags (length ts) at ls prior (tags_text ls ts ++ rest) ≡ got (map (told ls) ts) rest
unfolding read_tags tags_right flat_map onto
tags_back at ls prior [] rest b c r = refl
tags_back at ls prior (t ∷ ts) rest b c r =
    let s : List ℕ = tags_text ls ts ++ rest in
    let own : List ℕ = numbers_in ls t in
    let first = and_left (all_right ls prior [] own) _ r in
    rw (append_assoc (text_of_lines ls own) (tags_text ls ts) rest)
    (tag_right (length ts) at ls prior (text_of_lines ls own ++ s) own s (lines_back at ls prior [] own s b (numbers-count ls t c) first)
    ∙ ap (onto (told ls t ∷ [])) (tags_back (at + length ls) ls own ts rest b c (and_right (all_right ls prior [] own) _ r)))

pub tags_only : (n at : ℕ) (ls : List Line) (prior t : List ℕ) (ts : List Tag) (r : List ℕ) → Bounded ls → Few ls → read_tags n at ls prior t ≡ got ts r
    → (length ts ≡ n) × (tags_right ls prior ts ≡ true) × (t ≡ tags_text ls ts ++ r)
unfolding read_tags tags_right flat_map
tags_only zero at ls prior t ts r b c h =
    let p : ts ≡ [] = cc in
    let q : t ≡ r = cc in
    rw p (refl, refl, q)
tags_only (suc n) at ls prior t ts r b c h =
    go (read_lines at ls prior [] t) refl (λ own q us e. tags_only n (at + length ls) ls own q us r b c e)
  where
    Goal : Type 0
    Goal = (length ts ≡ suc n) × (tags_right ls prior ts ≡ true) × (t ≡ tags_text ls ts ++ r)

    Next : List ℕ → List ℕ → List Tag → Type 0
    Next own q us = (length us ≡ n) × (tags_right ls own us ≡ true) × (q ≡ tags_text ls us ++ r)

    go : (o : Read (List ℕ)) → read_lines at ls prior [] t ≡ o → ((own q : List ℕ) (us : List Tag) → read_tags n (at + length ls) ls own q ≡ got us r → Next own q us) → Goal
    go (wrong k) e i = never (cc (tag_wrong n at ls prior t k e))
    go (got own q) e i =
        let l = lines_only at ls prior [] t own q b e in
        let m : length own ≡ length ls = ap length l.whole ∙ l.all in
        let same : numbers_in ls (tag_from own) ≡ own = rw m at (numbers_back own (omega arith)) in
        let w = onto_got (tag_from own) (read_tags n (at + length ls) ls own q) ts r (sym (tag_right n at ls prior t own q e) ∙ h) in
        let next = i own q w.0 w.2 in
        let here : all_right ls prior [] (numbers_in ls (tag_from own)) ≡ true = rw (same, l.whole) l.right in
        let text : t ≡ (text_of_lines ls own ++ tags_text ls w.0) ++ r =
        l.text ∙ ap (λ ns. text_of_lines ls ns ++ q) (sym l.whole) ∙ ap (text_of_lines ls own ++◌) next.2 ∙ sym (append_assoc (text_of_lines ls own) (tags_text ls w.0) r) in
        rw w.1 (ap suc next.0, rw here (rw same next.1), rw same text)

pub tags_wrong : (n at : ℕ) (ls : List Line) (prior t : List ℕ) (k : ℕ) → read_tags n at ls prior t ≡ wrong k → (at ≤ k) × (k < at + n * length ls)
unfolding read_tags
tags_wrong zero at ls prior t k h = never (cc)
tags_wrong (suc n) at ls prior t k h =
    go (read_lines at ls prior [] t) refl (λ own q e. tags_wrong n (at + length ls) ls own q k e)
  where
    go : (o : Read (List ℕ)) → read_lines at ls prior [] t ≡ o
        → ((own q : List ℕ) → read_tags n (at + length ls) ls own q ≡ wrong k → (at + length ls ≤ k) × (k < at + length ls + n * length ls))
        → (at ≤ k) × (k < at + suc n * length ls)
    go (wrong j) e i =
        let same : j ≡ k = cc (tag_wrong n at ls prior t j e) in
        let w = lines_wrong at ls prior [] t j e in
        omega arith
    go (got own q) e i =
        let w = i own q (onto_wrong (tag_from own) (read_tags n (at + length ls) ls own q) k (sym (tag_right n at ls prior t own q e) ∙ h)) in
        omega arith
