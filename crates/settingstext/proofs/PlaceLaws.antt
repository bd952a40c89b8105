-- A text behind a key, and the turns of the loop over the digits of a number.
-- Assumes nothing.
use Rattle.std.specs.Cmp.Lexicographic.{same_text, other_text}
use Rattle.std.proofs.lemmas.List.{take_all, take-append-drop}
use Prim.Native.Nat.{ℕ, ◌+◌, ◌*◌, ◌-◌, ◌≤◌, ◌<◌, min}
use mathlib.Core.Path.{◌≡◌, refl, ap, sym, ◌∙◌}
use mathlib.Core.Logic.{⊎_elim}
use mathlib.Core.Bool.{Bool, true, false, not, ◌&&◌, ◌||◌}
use mathlib.Core.Option.{Option, some, none}
use mathlib.Core.List.{List, [], ◌∷◌, ◌++◌, append_assoc, append-nil}
use native.Mathlib.Numerals.{add-one}
use native.Mathlib.Omega.{arith}
use lib.ListN.{length, get_or, take, drop, length-append, length-drop, drop_of_length-le}
use lib.Seq.{drop-cons, take-append_seam}
use lib.Pointwise.{pointwise}
use lib.Dec.{eqb, ltb}
use borrow.Author.Tests.{eq-eqb, ne_eqb, le-leb, le-ltb, eqb-true, eqb-false, ltb-false, not-true, not-false}
use Rattle.laws.proofs.Choice.{true_or, eq_or, and_left, and_right, or_left, or_right, or_second}
use Rattle.settings.specs.Lines.{Numbered, line_feed, digit_zero, digit_nine, is_digit, leading, trailing, plain, number_from, behind, number_in}
use Rattle.settingstext.specs.inner.Reading.{ceiling, capped}
use Rattle.settings.proofs.LineLaws.{behind_back, behind_only, digit_range, digit-first, digits_then, digits_lead, number_then, number_grows, number_ends, number_unended, number_unplain}
use Rattle.laws.proofs.ListLaws.{nothing}

-- what stands behind a key that a text begins with; and nothing where it begins otherwise
pub stripped : (key t : List ℕ) → pointwise eqb (take (length key) t) key ≡ true → behind key t ≡ some (drop (length key) t)
stripped key t h = let e : take (length key) t ≡ key = same_text _ _ (sym h) in let w : key ++ drop (length key) t ≡ t = rw e at (take-append-drop (length key) t) in rw w at (behind_back key (drop (length key) t))

pub unstripped : (key t : List ℕ) → pointwise eqb (take (length key) t) key ≡ false → behind key t ≡ none
unstripped key t h = go (behind key t) refl
  where
    go : (o : Option (List ℕ)) → behind key t ≡ o → behind key t ≡ none
    go none e = e
    go (some r) e =
        let same : take (length key) t ≡ key = ap (take (length key)) (behind_only key t r e) ∙ take-append_seam key r in
        absurd (other_text _ _ (sym h) same)

-- what a slice from a place to the end is
pub rest_from : (k : ℕ) (t : List ℕ) → take (length t - k) (drop k t) ≡ drop k t
rest_from k t = take_all (length t - k) (drop k t) (omega (arith, length-drop k t))

-- the digits from the first one to a place, and the number that they are

plain_more : (ds : List ℕ) (c : ℕ) → (1 ≤ length ds → plain ds ≡ true) → (number_from 0 ds ≡ 0 → length ds ≡ 0) → plain (ds ++ (c ∷ [])) ≡ true
unfolding plain number_from
plain_more [] c p z = refl
plain_more (d ∷ []) c p z = rw (ne_eqb d digit_zero (λ e. absurd (let n = z (omega arith) in omega arith)))
plain_more (d ∷ e ∷ ds) c p z = p (omega arith)

plain-zero : (ds : List ℕ) (c : ℕ) (t : List ℕ) → trailing ds ≡ [] → 1 ≤ length ds → number_from 0 ds ≡ 0 → plain (ds ++ (c ∷ t)) ≡ false
unfolding plain number_from
plain-zero [] c t o h z = absurd (omega arith)
plain-zero (d ∷ []) c t o h z =
    let range = digit_range d (digit-first d [] o).0 in
    rw (eq-eqb d digit_zero (omega arith))
plain-zero (d ∷ e ∷ ds) c t o h z =
    let range = digit_range d (digit-first d (e ∷ ds) o).0 in
    let grows = number_grows (0 * 10 + (d - digit_zero)) (e ∷ ds) in
    rw (eq-eqb d digit_zero (omega arith))

pub record Counted (text : List ℕ) (next number : ℕ) : Type 0 where
  pub digits : List ℕ
  pub whole : text ≡ digits ++ drop next text
  pub size : length digits ≡ next
  pub only : trailing digits ≡ []
  pub right : 1 ≤ length digits → plain digits ≡ true
  pub value : number ≡ min (number_from 0 digits) ceiling

pub counted_none : (text : List ℕ) → Counted text 0 0
unfolding trailing plain number_from
counted_none text = record { digits = []; whole = refl; size = omega arith; only = refl; right = λ h. absurd (omega arith); value = refl }

-- the code's two tests of a byte: an LF behind a digit; no digit, or one behind a single zero
abbrev pub ends : ℕ → ℕ → Bool
ends next byte = eqb byte line_feed && not (eqb next 0)

abbrev pub refuses : ℕ → ℕ → ℕ → Bool
refuses next number byte = ltb byte digit_zero || ltb digit_nine byte || (eqb number 0 && not (eqb next 0))

module _ (text : List ℕ) (next number : ℕ) (k : Counted text next number) where
  pub counted_end : length text ≤ next → number_in text ≡ none
  unfolding behind
  counted_end h =
      let e : text ≡ k.digits = k.whole ∙ rw (drop_of_length-le text h) (append-nil k.digits) in
      number_unended text (rw (e, k.only))

  module _ (more : next < length text) where
    abbrev pub byte : ℕ
    byte = get_or text next 0

    next_byte : text ≡ k.digits ++ (byte ∷ drop (next + 1) text)
    next_byte = k.whole ∙ rw (add-one next, drop-cons text next 0 more)

    pub counted-done : ends next (byte) ≡ true → some (record { number = number; rest = drop (next + 1) text }) ≡ capped (number_in text)
    unfolding capped
    counted-done t =
        let lf : byte ≡ line_feed = eqb-true (byte) line_feed (and_left _ (not (eqb next 0)) t) in
        let far = eqb-false next 0 (not-true (eqb next 0) (and_right (eqb (byte) line_feed) _ t)) in
        let e : text ≡ k.digits ++ (line_feed ∷ drop (next + 1) text) = rw lf at next_byte in
        let w : number_in text ≡ some (record { number = number_from 0 k.digits; rest = drop (next + 1) text }) = ap number_in e ∙ rw (number_ends k.digits (drop (next + 1) text) k.only, k.right (omega (arith, k.size, far))) in
        rw (w, ← k.value)

    pub counted-digit : refuses next number (byte) ≡ false → is_digit (byte) ≡ true
    counted-digit f =
        let out = or_left (ltb (byte) digit_zero || ltb digit_nine (byte)) _ f in
        let low = ltb-false (byte) digit_zero (or_left _ (ltb digit_nine (byte)) out) in
        let high = ltb-false digit_nine (byte) (or_right (ltb (byte) digit_zero) _ out) in
        rw (le-leb digit_zero (byte) low, le-leb (byte) digit_nine high)

    pub counted_asks : refuses next number (byte) ≡ false → (number ≤ ceiling) × (digit_zero ≤ byte) × (byte ≤ digit_nine)
    counted_asks f = let d = digit_range (byte) (counted-digit f) in (omega (arith, k.value), d.0, d.1)

    -- a digit is refused behind a single zero
    zero_led : is_digit (byte) ≡ true → refuses next number (byte) ≡ true → number_in text ≡ none
    unfolding leading
    zero_led d t =
        let range = digit_range (byte) d in
        let both = or_second (ltb (byte) digit_zero || ltb digit_nine (byte)) _ (rw (le-ltb (byte) digit_zero range.0, le-ltb digit_nine (byte) range.1)) t in
        let none_yet = eqb-true number 0 (and_left (eqb number 0) _ both) in
        let far = eqb-false next 0 (not-true (eqb next 0) (and_right (eqb number 0) _ both)) in
        let e : leading text ≡ k.digits ++ (byte ∷ leading (drop (next + 1) text)) =
        ap leading next_byte ∙ digits_lead k.digits (byte ∷ drop (next + 1) text) k.only ∙ rw d in
        number_unplain text
        (rw e (plain-zero k.digits (byte) (leading (drop (next + 1) text)) k.only (omega (arith, k.size, far)) (omega (arith, k.value))))

    -- an LF is refused where no digit was
    no_digit : byte ≡ line_feed → next ≡ 0 → number_in text ≡ none
    unfolding plain
    no_digit lf z =
        let empty : k.digits ≡ [] = nothing k.digits (omega (arith, k.size)) in
        rw (next_byte, lf, number_ends k.digits (drop (next + 1) text) k.only, empty)

    -- anything else
    no_number : is_digit (byte) ≡ false → (byte ≡ line_feed → ⊥) → number_in text ≡ none
    unfolding trailing behind
    no_number d o =
        let e : trailing text ≡ byte ∷ drop (next + 1) text = ap trailing next_byte ∙ digits_then k.digits (byte ∷ drop (next + 1) text) k.only ∙ rw d in
        number_unended text (rw (e, ne_eqb line_feed (byte) (λ z. o (sym z))))

    pub counted_wrong : ends next (byte) ≡ false → refuses next number (byte) ≡ true → number_in text ≡ none
    counted_wrong f t =
        ⊎_elim
        (λ (d : is_digit (byte) ≡ true). zero_led d t)
        (λ (d : is_digit (byte) ≡ false).
        ⊎_elim
        (λ (lf : byte ≡ line_feed). no_digit lf (eqb-true next 0 (not-false (eqb next 0) (rw (eq-eqb (byte) line_feed lf) at f))))
        (λ (o : byte ≡ line_feed → ⊥). no_number d o)
        (eq_or (byte) line_feed))
        (true_or (is_digit (byte)))

    pub counted_more : refuses next number (byte) ≡ false → Counted text (next + 1) (min (number * 10 + (byte - digit_zero)) ceiling)
    unfolding number_from trailing
    counted_more f =
        let d = counted-digit f in
        let near : number ≡ 0 → next ≡ 0 = λ z. eqb-true next 0 (not-false (eqb next 0) (rw (eq-eqb number 0 z) at (or_right (ltb (byte) digit_zero || ltb digit_nine (byte)) _ f))) in
        let ds : List ℕ = k.digits ++ (byte ∷ []) in
        record {
          digits = ds;
          whole = next_byte ∙ sym (append_assoc k.digits (byte ∷ []) (drop (next + 1) text));
          size = omega (arith, k.size, length-append k.digits (byte ∷ []));
          only = digits_then k.digits (byte ∷ []) k.only ∙ rw d;
          right = λ h. plain_more k.digits (byte) k.right (λ z. omega (arith, k.size, near (omega (arith, k.value))));
          value = rw (number_then 0 k.digits (byte ∷ []), k.value) (omega arith);
        }

pub refused : (o : Option Numbered) → o ≡ none → none ≡ capped o
unfolding capped
refused o e = rw e
