-- What is said piece by piece is said as a whole; the fewest digits of a number; one mark more of a form.
-- Assumes nothing.
use Rattle.std.proofs.Common.{◌≡◌, ℕ, zero, suc, ◌+◌, ◌-◌, ◌^◌, ◌<◌, ◌≤◌, min, Bool, true, false, cond, ◌&&◌, eqb, leb, List, [], ◌∷◌, ◌++◌, length, get_or, drop, sym, refl, ◌∙◌, ⊎_elim, add-zero, add_assoc, add-one, arith, length-append, drop_of_length-le, drop-cons, drop-drop, le-ltb, lt-ltb, eq-eqb, ne_eqb}
use mathlib.Core.Bool.{and_assoc}
use native.Mathlib.Nat.{pow-le-pow_left, pow-le-pow_right}
use Rattle.laws.proofs.Choice.{true_or, eq_or, lt_or}
use Rattle.std.proofs.Common.{nat_eq, ap}
use Rattle.std.specs.List.{starts_with}
use Rattle.parts.specs.Digits.{last_digits, IsDigitCount}
use Rattle.parts.specs.Said.{begins, lost, said, fewest, numeral, marked, formed}

-- a text begins with two pieces where it begins with the first and goes on with the second
begins_append : (p q t : List ℕ) → begins (p ++ q) t ≡ (begins p t && begins q (drop (length p) t))
unfolding begins
begins_append [] q t = refl
begins_append (c ∷ p) q [] = refl
begins_append (c ∷ p) q (b ∷ t) = rw (begins_append p q t) (sym (and_assoc (eqb c b) (begins p t) (begins q (drop (length p) t))))

-- it begins with a piece exactly where the library's test says so
begins_starts : (p t : List ℕ) → begins p t ≡ starts_with nat_eq t p
unfolding begins
begins_starts [] t = refl
begins_starts (c ∷ p) [] = refl
begins_starts (c ∷ p) (b ∷ t) = ap (eqb c b &&◌) (begins_starts p t)

-- what is said where all is lost, and elsewhere
pub said-lost : (right : List ℕ) {at : ℕ} (piece : List ℕ) → at ≡ lost → said right at piece ≡ lost
unfolding said
said-lost right {at} piece e = rw (eq-eqb at lost e)

said-found : (right : List ℕ) (at : ℕ) (piece : List ℕ) → (at ≡ lost → ⊥) → said right at piece ≡ cond (begins piece (drop at right)) (min (at + length piece) lost) lost
unfolding said
said-found right at piece h = rw (ne_eqb at lost h)

-- the place behind a piece that stands at the place, and none behind another
module _ (right : List ℕ) (at : ℕ) (piece : List ℕ) {begun : Bool} (e : begun ≡ starts_with nat_eq (drop at right) piece) where
  pub said-stands : begun ≡ true → said right at piece ≡ min (at + length piece) lost
  said-stands t = ⊎_elim (λ z. said-lost right piece z ∙ omega arith) (λ h. said-found right at piece h ∙ rw (begins_starts piece (drop at right), ← e, t)) (eq_or at lost)

  pub said-differs : begun ≡ false → said right at piece ≡ lost
  said-differs f = ⊎_elim (said-lost right piece) (λ h. said-found right at piece h ∙ rw (begins_starts piece (drop at right), ← e, f)) (eq_or at lost)

-- nothing said leaves the place
pub said-nothing : (right : List ℕ) (at : ℕ) → at ≤ lost → said right at [] ≡ at
unfolding begins
said-nothing right at l = ⊎_elim (λ e. said-lost right [] e ∙ sym e) (λ h. said-found right at [] h ∙ omega arith) (eq_or at lost)

-- two pieces, one after the other, are said as one
abbrev Joined : List ℕ → ℕ → List ℕ → List ℕ → Type 0
Joined right at p q = said right (said right at p) q ≡ said right at (p ++ q)

module _ (right : List ℕ) (at : ℕ) (p q : List ℕ) where
  both_lost : said right at p ≡ lost → said right at (p ++ q) ≡ lost → Joined right at p q
  both_lost e f = rw (e, f) (said-lost right q refl)

  module _ (h : at ≡ lost → ⊥) where
    first : said right at p ≡ cond (begins p (drop at right)) (min (at + length p) lost) lost
    first = said-found right at p h

    whole : said right at (p ++ q) ≡ cond (begins p (drop at right) && begins q (drop (at + length p) right)) (min (at + length p + length q) lost) lost
    whole = rw (begins_append p q (drop at right), drop-drop (length p) at right, length-append p q, ← add_assoc at (length p) (length q)) at (said-found right at (p ++ q) h)

    both_near : begins p (drop at right) ≡ true → at + length p < lost → Joined right at p q
    both_near t l =
        let next : said right at p ≡ at + length p = first ∙ rw t (omega arith) in
        rw (next, whole) (rw t (said-found right (at + length p) q (λ z. omega arith)))

    both_far : begins p (drop at right) ≡ true → lost ≤ at + length p → Joined right at p q
    both_far t l = both_lost (first ∙ rw t (omega arith)) (whole ∙ rw t (either (begins q (drop (at + length p) right))))
      where
        either : (begun : Bool) → cond begun (min (at + length p + length q) lost) lost ≡ lost
        either true = omega arith
        either false = refl

    both_found : Joined right at p q
    both_found =
        ⊎_elim
        (λ t. ⊎_elim (both_near t) (both_far t) (lt_or (at + length p) lost))
        (λ f. both_lost (first ∙ rw f refl) (whole ∙ rw f refl))
        (true_or (begins p (drop at right)))

  pub said-said : said right (said right at p) q ≡ said right at (p ++ q)
  said-said = ⊎_elim (λ e. both_lost (said-lost right p e) (said-lost right (p ++ q) e)) both_found (eq_or at lost)

-- a place behind a piece is a place
said-within : (right : List ℕ) (at : ℕ) (piece : List ℕ) → said right at piece ≤ lost
unfolding said
said-within right at piece = low (eqb at lost) (begins piece (drop at right))
  where
    low : (gone begun : Bool) → cond gone lost (cond begun (min (at + length piece) lost) lost) ≤ lost
    low true begun = omega arith
    low false true = omega arith
    low false false = omega arith

-- fewer digits do not hold the number
fewest-below : (b least n k : ℕ) → 1 ≤ b → IsDigitCount b least n k → least < k → b ^ least ≤ n
fewest-below b least n k h w s = let low : b ^ least ≤ b ^ (k - 1) = pow-le-pow_right h (omega arith) in omega (arith, w.2 s)

-- the fewest digits are found where there are enough to try
fewest-found : (more b least n k : ℕ) → 1 ≤ b → IsDigitCount b least n k → n < b ^ (least + more) → fewest more b least n ≡ k
unfolding fewest
fewest-found zero b least n k h w l = ⊎_elim (λ (s : least < k). absurd (omega (arith, rw (add-zero least) at l, fewest-below b least n k h w s))) (λ (s : k ≤ least). omega (arith, w.0)) (lt_or least k)
fewest-found (suc more) b least n k h w l =
    ⊎_elim
    (λ (s : least < k). rw (le-ltb n (b ^ least) (fewest-below b least n k h w s)) (fewest-found more b (suc least) n k h (s, w.1, λ z. w.2 s) (rw next at l)))
    (λ (s : k ≤ least). rw (lt-ltb n (b ^ least) (rw (same s) at w.1)) (sym (same s)))
    (lt_or least k)
  where
    next : least + suc more ≡ suc least + more
    next = omega arith

    same : k ≤ least → k ≡ least
    same s = omega (arith, w.0)

-- the digits that are made are the number as text
pub numeral-made : (b least n k : ℕ) → 10 ≤ b → n < 2 ^ 64 → IsDigitCount b least n k → last_digits b k n ≡ numeral b least n
numeral-made b least n k h l w =
    let room : 10 ^ 20 ≤ b ^ 20 = pow-le-pow_left h 20 in
    let more : b ^ 20 ≤ b ^ (least + 20) = pow-le-pow_right (omega arith) (omega arith) in
    rw (fewest-found 20 b least n k (omega arith) w (omega arith))

-- a byte that is no mark for a number stands for itself
pub marked_other : (mark n : ℕ) → (mark ≡ 68 → ⊥) → (mark ≡ 66 → ⊥) → (mark ≡ 88 → ⊥) → (mark ≡ 76 → ⊥) → mark ∷ [] ≡ marked mark n
unfolding marked
marked_other mark n d b x l = rw (ne_eqb mark 68 d, ne_eqb mark 66 b, ne_eqb mark 88 x, ne_eqb mark 76 l)

-- one mark more of a form: a capital letter takes a number
pub formed_more : (form : List ℕ) (k n then three : ℕ) → k < length form
    → formed (drop k form) n then three
    ≡ marked (get_or form k 0) n ++ cond (leb 65 (get_or form k 0) && leb (get_or form k 0) 90) (formed (drop (k + 1) form) then three three) (formed (drop (k + 1) form) n then three)
unfolding formed
formed_more form k n then three h = rw (add-one k, drop-cons form k 0 h)

-- no mark is left
pub formed-none : (form : List ℕ) (k n then three : ℕ) → length form ≤ k → formed (drop k form) n then three ≡ []
unfolding formed
formed-none form k n then three h = rw (drop_of_length-le form h)
