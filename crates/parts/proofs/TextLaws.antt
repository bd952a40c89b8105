-- Laws on the parts of a text and the number in a word: each is what the library's words say of lists.
-- Assumes nothing.
use Rattle.std.proofs.Common.{◌≡◌, ℕ, zero, suc, ◌+◌, ◌≤◌, true, false, eqb, List, [], ◌∷◌, length, get_or, take, drop, Option, Some, None, sym, refl, ap, ◌∙◌, ⊎_elim, zero-add, arith, drop-drop, fold, position, slice_get}
use Rattle.std.specs.List.{position_or_len, slice_split, onto_first}
use Rattle.std.specs.Option.{unwrap_or, option_map}
use denote.Ref.{Bor}
use Rattle.std.proofs.lemmas.Grind.{common_steps}
use Rattle.std.proofs.lemmas.Option.{unwrap_or-slice_get}
use Rattle.laws.proofs.Choice.{true_or}
use Rattle.parts.specs.Texts.{end_of, head_of, rest_of, field_of, longer, number_from}

-- where a byte first stands is within the text, and the first place that passes the test for it
pub end_within : (byte : ℕ) (s : List ℕ) → end_of byte s ≤ length s
unfolding end_of
end_within byte [] = omega arith
end_within byte (x ∷ xs) = let w = end_within byte xs in grind (arith, common_steps, w)

first : (byte : ℕ) (s : List ℕ) → position_or_len (λ x. eqb x byte) s ≡ end_of byte s
unfolding end_of
first byte [] = refl
first byte (x ∷ xs) = let w = first byte xs in grind (arith, common_steps, w)

pub end_place : (byte : ℕ) (s : List ℕ) → unwrap_or (position (λ x. eqb x byte) s) (length s) ≡ end_of byte s
end_place byte s = grind (arith, common_steps, first byte s, end_within byte s)

-- what stands before the first such byte, and what behind it
pub head_end : (byte : ℕ) (s : List ℕ) (end : ℕ) → end ≡ 0 + end_of byte (drop 0 s) → take end s ≡ head_of byte s
head_end byte s end e = rw (e, zero-add (end_of byte s))

pub rest_end : (byte : ℕ) (s : List ℕ) (at end : ℕ) → end ≡ at + end_of byte (drop at s) → drop 1 (drop end s) ≡ rest_of byte (drop at s)
rest_end byte s at end e = rw (e, drop-drop (end_of byte (drop at s)) at s)

-- the k-th part is that of the parts at which the text is split, nothing behind the last
field_nothing : (byte k : ℕ) → field_of byte k [] ≡ []
unfolding field_of end_of
field_nothing byte zero = refl
field_nothing byte (suc k) = field_nothing byte k

onto_front : (x : ℕ) (parts : List (List ℕ)) → get_or (onto_first x parts) 0 [] ≡ x ∷ get_or parts 0 []
onto_front x [] = refl
onto_front x (part ∷ parts) = refl

onto_behind : (x k : ℕ) (parts : List (List ℕ)) → get_or (onto_first x parts) (suc k) [] ≡ get_or parts (suc k) []
onto_behind x k [] = refl
onto_behind x k (part ∷ parts) = refl

-- behind a byte that ends a part the next begins; any other byte stands before the first part
module _ (byte x : ℕ) (xs : List ℕ) (w : (k : ℕ) → get_or (slice_split (λ y. eqb y byte) xs) k [] ≡ field_of byte k xs) where
  split_ended : (k : ℕ) → eqb x byte ≡ true → get_or (slice_split (λ y. eqb y byte) (x ∷ xs)) k [] ≡ field_of byte k (x ∷ xs)
  unfolding field_of end_of
  split_ended zero e = rw e
  split_ended (suc k) e = rw e (w k)

  split_on : (k : ℕ) → eqb x byte ≡ false → get_or (slice_split (λ y. eqb y byte) (x ∷ xs)) k [] ≡ field_of byte k (x ∷ xs)
  unfolding field_of end_of
  split_on zero e = rw e (onto_front x (slice_split (λ y. eqb y byte) xs) ∙ ap (x ∷◌) (w 0))
  split_on (suc k) e = rw e (onto_behind x k (slice_split (λ y. eqb y byte) xs) ∙ w (suc k))

field_split : (byte k : ℕ) (s : List ℕ) → get_or (slice_split (λ x. eqb x byte) s) k [] ≡ field_of byte k s
field_split byte zero [] = sym (field_nothing byte zero)
field_split byte (suc k) [] = sym (field_nothing byte (suc k))
field_split byte k (x ∷ xs) =
    let w = λ (j : ℕ). field_split byte j xs in
    ⊎_elim (split_ended byte x xs w k) (split_on byte x xs w k) (true_or (eqb x byte))

-- a part that is taken, and nothing where there is none
taken_part : (byte k : ℕ) (s : List ℕ) (part : Option (Bor (List ℕ))) → option_map (λ x. x.now) part ≡ slice_get (slice_split (λ x. eqb x byte) s) k → unwrap_or (option_map (λ x. x.now) part) [] ≡ field_of byte k s
taken_part byte k s part e = ap (λ (o : Option (List ℕ)). unwrap_or o []) e ∙ unwrap_or-slice_get (slice_split (λ x. eqb x byte) s) k [] ∙ field_split byte k s

pub part_taken : (byte k : ℕ) (s : List ℕ) (part : Option (Bor (List ℕ))) (taken none : Bor (List ℕ)) → option_map (λ x. x.now) part ≡ slice_get (slice_split (λ x. eqb x byte) s) k
    → taken ≡ unwrap_or part none → none.now ≡ [] → taken.now ≡ field_of byte k s
part_taken byte k s None taken none e t n = ap (λ (b : Bor (List ℕ)). b.now) t ∙ n ∙ taken_part byte k s None e
part_taken byte k s (Some p) taken none e t n = ap (λ (b : Bor (List ℕ)). b.now) t ∙ taken_part byte k s (Some p) e

-- the number in a word goes on from each digit
pub number_fold : (n : ℕ) (word : List ℕ) → fold longer n word ≡ number_from n word
unfolding number_from
number_fold n [] = refl
number_fold n (c ∷ cs) = number_fold (longer n c) cs
