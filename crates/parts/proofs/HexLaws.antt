-- Laws on the bytes whose digits stand in a text, and on the text of bytes.
-- Assumes nothing.
use Rattle.std.proofs.Common.{◌≡◌, ℕ, zero, suc, ◌+◌, ◌-◌, ◌*◌, ◌/◌, ◌%◌, ◌<◌, ◌≤◌, List, [], ◌∷◌, ◌++◌, length, get_or, take, drop, set, sym, refl, ap, ◌∙◌, append-nil, add-one, arith, take-append-drop, drop_of_length-le, length-take-le, drop-cons, drop-drop, take-suc-set, drop-set-lt}
use native.Mathlib.Numerals.{unary_clauses}
use lib.Seq.{append_snoc}
use Rattle.laws.specs.Bytes.{over}
use Rattle.parts.specs.Texts.{nibble, bytes_of, digit, hex_of}

-- one byte more of a text of digits
bytes_more : (n : ℕ) (s : List ℕ) → 1 < length s → bytes_of (suc n) s ≡ (nibble (get_or s 0 0) * 16 + nibble (get_or s 1 0)) ∷ bytes_of n (drop 3 s)
unfolding bytes_of
bytes_more n [] h = absurd (omega arith)
bytes_more n (a ∷ []) h = absurd (omega arith)
bytes_more n (a ∷ b ∷ s) h = refl

-- none where there is no room, and none where no two digits are left
bytes_room : (n : ℕ) (s : List ℕ) → n ≤ 0 → bytes_of n s ≡ []
unfolding bytes_of
bytes_room zero s h = refl
bytes_room (suc n) s h = absurd (omega arith)

bytes_short : (n : ℕ) (s : List ℕ) → length s ≤ 1 → bytes_of n s ≡ []
unfolding bytes_of
bytes_short zero s h = refl
bytes_short (suc n) [] h = refl
bytes_short (suc n) (a ∷ []) h = refl
bytes_short (suc n) (a ∷ b ∷ s) h = absurd (omega arith)

-- the bytes of a text are those that were made and those of what is left of it; behind the ones that were made the buffer is as it was
pub record Made (s before after left : List ℕ) (k : ℕ) : Type 0 where
  pub front : take k after ++ bytes_of (length before - k) left ≡ bytes_of (length before) s
  pub behind : drop k after ≡ drop k before

-- all the bytes of a text made, and how many
abbrev pub MadeAll : List ℕ → List ℕ → List ℕ → ℕ → Type 0
MadeAll s before after k = (k ≡ length (bytes_of (length before) s)) × (after ≡ over (bytes_of (length before) s) before)

pub made_none : (s before : List ℕ) → Made s before before s 0
made_none s before = record { front = simp unary_clauses; behind = refl }

module _ {s before after left : List ℕ} {k : ℕ} (w : Made s before after left k) (long : length after ≡ length before) where
  pub made_more : {byte : ℕ} {next : List ℕ} → k < length before → 2 ≤ length left → byte ≡ nibble (get_or left 0 0) * 16 + nibble (get_or left 1 0) → next ≡ drop 3 left → Made s before (set after k byte) next (k + 1)
  made_more {byte} {next} h d e f =
      record {
        front = rw (add-one k, take-suc-set after k byte (omega arith), f, append_snoc (take k after) byte (bytes_of (length before - suc k) (drop 3 left))) (ap (take k after ++◌) (sym more) ∙ w.front);
        behind = rw (drop-set-lt (k + 1) after k byte (omega arith), ← drop-drop 1 k after, ← drop-drop 1 k before, w.behind);
      }
    where
      room : length before - k ≡ suc (length before - suc k)
      room = omega arith

      more : bytes_of (length before - k) left ≡ byte ∷ bytes_of (length before - suc k) (drop 3 left)
      more = rw (room, bytes_more (length before - suc k) left d, e)

  made_all : k ≤ length before → bytes_of (length before - k) left ≡ [] → MadeAll s before after k
  made_all low none =
      let made : take k after ≡ bytes_of (length before) s = sym (append-nil (take k after)) ∙ ap (take k after ++◌) (sym none) ∙ w.front in
      let size : length (bytes_of (length before) s) ≡ k = ap length (sym made) ∙ length-take-le k after (omega arith) in
      (sym size, rw size (sym (take-append-drop k after) ∙ rw (made, w.behind)))

  -- no room for a byte is left, or no digits for one
  pub made-full : k ≡ length before → MadeAll s before after k
  made-full e = made_all (omega arith) (bytes_room (length before - k) left (omega arith))

  pub made-ended : k ≤ length before → length left < 2 → MadeAll s before after k
  made-ended low l = made_all low (bytes_short (length before - k) left (omega arith))

-- one byte more of a text of bytes
pub hex_more : (bytes : List ℕ) (k : ℕ) → k < length bytes
    → hex_of (drop k bytes) ≡ (32 ∷ digit (get_or bytes k 0 / 16 % 16) ∷ digit (get_or bytes k 0 % 16) ∷ []) ++ hex_of (drop (k + 1) bytes)
unfolding hex_of
hex_more bytes k h = rw (add-one k, drop-cons bytes k 0 h)

-- no byte is left
pub hex_none : (bytes : List ℕ) (k : ℕ) → length bytes ≤ k → hex_of (drop k bytes) ≡ []
unfolding hex_of
hex_none bytes k h = rw (drop_of_length-le bytes h)
