-- Tag words: a word gives its tag back, the tags of a valid value ascend, and what a valid value's numbers are bounded by.
-- Assumes nothing.
use Prim.Native.Nat.{ℕ, zero, suc, ◌+◌, ◌*◌, ◌/◌, ◌%◌, ◌≤◌, ◌<◌}
use mathlib.Core.Path.{◌≡◌, refl, ap, sym, ◌∙◌}
use mathlib.Core.Logic.{⊎_elim, inl, inr}
use mathlib.Core.Bool.{Bool, true, false, cond, ◌&&◌}
use mathlib.Core.List.{List, [], ◌∷◌, ◌++◌, map, map-append}
use native.Mathlib.Omega.{arith}
use lib.ListN.{length, get_or, set, take, length-map}
use lib.Seq.{take_at}
use lib.Dec.{eqb}
use Rattle.numbers.specs.Numbers.{most_tags, addresses}
use Rattle.laws.proofs.Choice.{true_or, eq_or, and_right}
use Rattle.laws.proofs.ListLaws.{set-padded}
use Rattle.bcd.specs.declared.Kind.{Kind}
use Rattle.bcd.specs.declared.Kind.TheVariants.{Width16, Width32, Signed16}
use Rattle.bcd.specs.Bcd.{registers}
use Rattle.bcd.proofs.Words.{registers-least}
use Rattle.settings.specs.Grammar.{Tag, Value, newest, tag_numbers, last_register, right_timeout, right_join, right_tags, tags_right, valid}
use Rattle.settings.specs.Plain.{RightTag, Wide, Bounds}
use Rattle.settings.specs.Values.{padded}
use Rattle.settings.specs.TagWords.{kind_of, width_of, sign_of, kind_number, kind_from, tag_word, tag_of_kind, tag_of, strict_mark, some_strict, tag_words, last_of, Ascending}
use Rattle.settings.proofs.ValueLaws.{tag_ext, from_of, valid_parts}
use Rattle.settings.proofs.ValidLaws.{Placed, first_exactly, valid_exactly}

-- a kind's number gives the kind back
kind_back : (kind : Kind) → kind_from (kind_number kind) ≡ kind
unfolding kind_from kind_number
kind_back Width16 = refl
kind_back Width32 = refl
kind_back Signed16 = refl

kind_low : (kind : Kind) → kind_number kind < 256
unfolding kind_number
kind_low Width16 = omega arith
kind_low Width32 = omega arith
kind_low Signed16 = omega arith

-- a tag is the one of its address, its kind, its ttl and whether it is strict
tag_back : (t : Tag) → Wide t → tag_of_kind t.address (kind_of t) t.ttl t.strict ≡ t
unfolding width_of sign_of kind_of
tag_back t (inl e) = tag_ext (tag_of_kind t.address (kind_of t) t.ttl t.strict) t refl (rw (e.0, e.1)) (rw (e.0, e.1)) refl refl
tag_back t (inr (inl e)) = tag_ext (tag_of_kind t.address (kind_of t) t.ttl t.strict) t refl (rw e.0) (rw e.0 (sym e.1)) refl refl
tag_back t (inr (inr e)) = tag_ext (tag_of_kind t.address (kind_of t) t.ttl t.strict) t refl (rw (e.0, e.1)) (rw (e.0, e.1)) refl refl

-- a tag of a kind's width and sign has that kind
pub kind_of_tag : (kind : Kind) (address ttl strict : ℕ) → kind_of (tag_of_kind address kind ttl strict) ≡ kind
unfolding width_of sign_of kind_of
kind_of_tag Width16 address ttl strict = refl
kind_of_tag Width32 address ttl strict = refl
kind_of_tag Signed16 address ttl strict = refl

-- the numbers of a tag fit their bits of a word
pub record Fitting (t : Tag) : Type 0 where
  pub address : t.address < addresses
  pub ttl : t.ttl < 65536
  pub strict : t.strict < 2

-- what a tag's word is made of, with anything above it: the address, above it in 16 bits the kind's number, of which 8 bits are enough, above these the ttl, and above it one bit for strict
pub word_parts : (t : Tag) (m : ℕ) → Fitting t
    → ((tag_word t + strict_mark * m) % 65536 ≡ t.address) × ((tag_word t + strict_mark * m) / 65536 % 65536 ≡ kind_number (kind_of t)) × ((tag_word t + strict_mark * m) / 4294967296 % 65536 ≡ t.ttl)
    × ((tag_word t + strict_mark * m) / 281474976710656 % 2 ≡ t.strict)
unfolding tag_word
word_parts t m f =
    let n = kind_low (kind_of t) in
    (omega (arith, f.address), omega (arith, f.address), omega (arith, f.address, f.ttl), omega (arith, f.address, f.ttl, f.strict))

-- a tag's word gives the tag back, whatever stands above it
word_above : (t : Tag) (m : ℕ) → Fitting t → Wide t → tag_of (tag_word t + strict_mark * m) ≡ t
unfolding tag_of
word_above t m f w =
    let n = kind_low (kind_of t) in
    let p = word_parts t m f in
    let k : (tag_word t + strict_mark * m) / addresses % 256 ≡ kind_number (kind_of t) = omega (arith, p.1) in
    rw (p.0, k, kind_back (kind_of t), p.2, p.3) (tag_back t w)

pub word_back : (t : Tag) → Fitting t → Wide t → tag_of (tag_word t) ≡ t
word_back t f w = let none : tag_word t + strict_mark * 0 ≡ tag_word t = omega arith in rw none at (word_above t 0 f w)

-- so does the word with the mark
pub marked_back : (t : Tag) (mark : Bool) → Fitting t → Wide t → tag_of (tag_word t + cond mark strict_mark 0) ≡ t
marked_back t true f w = word_above t 1 f w
marked_back t false f w = word_above t 0 f w

-- the kind of a word's tag is that of the number above the address
pub kind_of_word : (word : ℕ) → kind_of (tag_of word) ≡ kind_from (word / addresses % 256)
unfolding tag_of
kind_of_word word = kind_of_tag (kind_from (word / addresses % 256)) (word % addresses) (word / 4294967296 % 65536) (word / 281474976710656 % 2)

-- how many registers a tag has, by its width
registers_wide : (t : Tag) → registers (kind_of t) ≡ cond (eqb t.width 32) 2 1
unfolding kind_of registers
registers_wide t =
    ⊎_elim (λ e. rw e) (λ e. rw e (⊎_elim (λ g. rw g) (λ g. rw g) (true_or (eqb t.sign 1)))) (true_or (eqb t.width 32))

-- a tag's last register is the one that the grammar says
last_register_lem : (t : Tag) → last_register (tag_numbers t) ≡ last_of t
last_register_lem t = rw (registers_wide t) (⊎_elim (λ e. rw e (omega arith)) (λ e. rw e (omega arith)) (true_or (eqb t.width 32)))

-- a tag ends at or above its address
pub address_last : (t : Tag) → t.address ≤ last_of t
address_last t = omega (arith, registers-least (kind_of t))

-- a right tag has one of the kinds, ends within the addresses, and fits its word
placed_wide : (t : Tag) → Placed t → Wide t
placed_wide t (inl r) = ⊎_elim (λ (z : t.sign ≡ 0). inl (r.0, z)) (λ (z : t.sign ≡ 0 → ⊥). inr (inr (r.0, omega arith))) (eq_or t.sign 0)
placed_wide t (inr r) = inr (inl (r.0, r.1))

placed_ends : (t : Tag) → Placed t → last_of t < addresses
placed_ends t (inl r) = rw (registers_wide t, r.0) (omega arith)
placed_ends t (inr r) = rw (registers_wide t, r.0) (omega arith)

right_fits : (t : Tag) → RightTag t → Fitting t
right_fits t r = record { address = let l = placed_ends t r.0 in omega (arith, address_last t); ttl = omega (arith, r.1); strict = omega (arith, r.2) }

-- and has no bit from the mark on
pub right_unmarked : (t : Tag) → RightTag t → tag_word t < strict_mark
unfolding tag_word
right_unmarked t r = let f = right_fits t r in omega (arith, kind_low (kind_of t), f.address, f.ttl, f.strict)

right_tags_lem : (v : Value) → valid v ≡ true → tags_right newest.tag [] v.tags ≡ true
right_tags_lem v h = and_right (right_timeout v.timeout && (right_join v.join && right_tags (length v.tags))) _ (sym (valid_parts v) ∙ h)

-- right tags ascend
ascending : (prior : List ℕ) (ts : List Tag) → tags_right newest.tag prior ts ≡ true → Ascending (from_of prior) ts
unfolding Ascending from_of
ascending prior [] r = tt
ascending prior (t ∷ ts) r =
    let f = (first_exactly prior t ts).0 r in
    (f.0.1, placed_ends t f.0.0.0, rw (last_register_lem t) at (ascending (tag_numbers t) ts f.1))

-- the tags of a valid value ascend
pub valid-ascends : (v : Value) → valid v ≡ true → Ascending 0 v.tags
unfolding from_of
valid-ascends v h = ascending [] v.tags (right_tags_lem v h)

-- of ascending tags each lies at or above the first address allowed and ends within the addresses
pub ascending_at : (from : ℕ) (ts : List Tag) (i : ℕ) (d : Tag) → Ascending from ts → i < length ts → (from ≤ (get_or ts i d).address) × (last_of (get_or ts i d) < addresses)
unfolding Ascending
ascending_at from [] i d a h = absurd (omega arith)
ascending_at from (t ∷ ts) zero d a h = (a.0, a.1)
ascending_at from (t ∷ ts) (suc i) d a h =
    let r = ascending_at (last_of t + 1) ts i d a.2 (omega arith) in
    let l = address_last t in
    (omega (arith, a.0, r.0), r.1)

-- of two ascending tags the first ends below the address of the second
pub ascending_apart : (from : ℕ) (ts : List Tag) (i j : ℕ) (d : Tag) → Ascending from ts → i < j → j < length ts → last_of (get_or ts i d) < (get_or ts j d).address
unfolding Ascending
ascending_apart from [] i j d a h l = absurd (omega arith)
ascending_apart from (t ∷ ts) i zero d a h l = absurd (omega arith)
ascending_apart from (t ∷ ts) zero (suc j) d a h l = let r = ascending_at (last_of t + 1) ts j d a.2 (omega arith) in omega (arith, r.0)
ascending_apart from (t ∷ ts) (suc i) (suc j) d a h l = ascending_apart (last_of t + 1) ts i j d a.2 (omega arith) (omega arith)

right_back : (prior : List ℕ) (ts : List Tag) → tags_right newest.tag prior ts ≡ true → map tag_of (map tag_word ts) ≡ ts
right_back prior [] r = refl
right_back prior (t ∷ ts) r =
    let f = (first_exactly prior t ts).0 r in
    cc (word_back t (right_fits t f.0.0) (placed_wide t f.0.0.0), right_back (tag_numbers t) ts f.1)

marked-tags : (ts : List Tag) → tags_right newest.tag [] ts ≡ true → map tag_of (tag_words ts) ≡ ts
unfolding tag_words
marked-tags [] r = refl
marked-tags (t ∷ ts) r =
    let f = (first_exactly [] t ts).0 r in
    cc (marked_back t (some_strict (t ∷ ts)) (right_fits t f.0.0) (placed_wide t f.0.0.0), right_back (tag_numbers t) ts f.1)

-- the words of a valid value's tags give the tags back
pub words_back : (v : Value) → valid v ≡ true → map tag_of (tag_words v.tags) ≡ v.tags
words_back v h = marked-tags v.tags (right_tags_lem v h)

pub words_long : (ts : List Tag) → length (tag_words ts) ≡ length ts
unfolding tag_words
words_long [] = refl
words_long (t ∷ ts) = ap suc (length-map ts tag_word)

-- the words that the state keeps, padded, give the tags of a valid value back
pub words_kept : (v : Value) → valid v ≡ true → map tag_of (take (length v.tags) (padded (tag_words v.tags))) ≡ v.tags
words_kept v h = rw (take_at (tag_words v.tags) _ (length v.tags) (words_long v.tags)) (words_back v h)

-- a valid value is within the bounds
pub valid_bounds : (v : Value) → valid v ≡ true → Bounds v
valid_bounds v h =
    let p = (valid_exactly v).0 h in
    record {
      least = p.least;
      most = p.most;
      joins = ⊎_elim (λ (e : v.join ≡ 0). omega arith) (λ (e : v.join ≡ 1). omega arith) p.joins;
      few = p.few;
      wide = λ i d l. placed_wide (get_or v.tags i d) (p.each i d l).0;
    }

-- places filled one after the other, and 0 beyond
pub filled_more : {A : Type 0} (f : A → ℕ) (xs : List A) (x : A) (k v : ℕ) → length xs ≡ k → k < most_tags → v ≡ f x → set (padded (map f xs)) k v ≡ padded (map f (xs ++ (x ∷ [])))
filled_more f xs x k v e h q =
    let n : length (map f xs) ≡ k = length-map xs f ∙ e in
    rw (q, map-append f xs (x ∷ []), ← n) (set-padded 0 (f x) (map f xs) most_tags (omega arith))
