-- A sign's nibble above n digits: what is encoded decodes to itself and the other way round, what is refused each way, and the bounds, for any number of digits.
-- Assumes nothing.
use Prim.Native.Nat.{ℕ, zero, suc, ◌+◌, ◌*◌, ◌-◌, ◌/◌, ◌%◌, ◌^◌, ◌≤◌, ◌<◌}
use mathlib.Core.Path.{◌≡◌, refl, ap, sym, ◌∙◌}
use mathlib.Core.Logic.{◌↔◌, ◌⊎◌, inl, inr, ⊎_elim}
use mathlib.Core.Bool.{Bool, true, false, cond, not, ◌||◌}
use native.Mathlib.Nat.{pow-suc, one-le-pow, pow-le-pow_left, mul_comm, add_comm, zero-add, zero-mul, add-zero, zero-div, zero-mod, mul-zero, mod-eq_of_lt, mod-lt}
use native.Mathlib.Omega.{arith}
use lib.Arith.{mod-mul, digits_div as split_div, digits_mod as split_mod}
use borrow.Author.Tests.{lt-ltb, le-ltb, ne_eqb}
use Rattle.numbers.specs.Numbers.{minus}
use Rattle.laws.specs.Digits.{digits, value}
use Rattle.laws.proofs.Choice.{true_or, eq_or, lt_or, or_left, or_right, never}
use Rattle.laws.proofs.DigitLaws.{above_some, some_above}
use Rattle.std.specs.Prelude.{Option, Some, None}
use Rattle.bcd.specs.Bcd.{packed, unpacked, decimal, nibble, complement, is_plus, is_minus, encoded_signed, decoded_signed}
use Rattle.bcd.proofs.PackedLaws.{packed-decimal, unpacked-packed, packed-unpacked, packed-below, unpacked-below, unpacked-low, decimal-low}

-- no number: one of the n nibbles is above 9, or the nibble above them is no sign, or the sign is minus and the digits are 0
abbrev pub NoSigned : ℕ → ℕ → Type 0
NoSigned n w =
    ((i : ℕ) × (i < n) × (9 < nibble i w)) ⊎ (((nibble n w ≡ 0 → ⊥) × (nibble n w ≡ minus → ⊥)) ⊎ (w % 16 ^ suc n ≡ minus * 16 ^ n))

-- a value is plus or minus a size, or out of range; and what it is encoded to
data Valued (n v : ℕ) : Type 0 where
  as_plus : v < 10 ^ n → encoded_signed n v ≡ Some (packed n v) → Valued n v
  as_minus : (u : ℕ) → 0 < u → u < 10 ^ n → v ≡ 16 ^ suc n - u → encoded_signed n v ≡ Some (packed n u + minus * 16 ^ n) → Valued n v
  as_neither : (is_plus n v || is_minus n v) ≡ false → encoded_signed n v ≡ None → Valued n v

-- a word is a sign and the digits of a size, or no number; and what it decodes to
data Worded (n w : ℕ) : Type 0 where
  of_plus : (u : ℕ) → u < 10 ^ n → w % 16 ^ suc n ≡ packed n u → decoded_signed n w ≡ Some u → Worded n w
  of_minus : (u : ℕ) → 0 < u → u < 10 ^ n → w % 16 ^ suc n ≡ packed n u + minus * 16 ^ n → decoded_signed n w ≡ Some (16 ^ suc n - u) → Worded n w
  of_neither : NoSigned n w → decoded_signed n w ≡ None → Worded n w

-- 0 has no digit but 0
zero-digits : (b c n : ℕ) → value b (digits c n 0) ≡ 0
unfolding digits value
zero-digits b c zero = refl
zero-digits b c (suc n) = rw (zero-mod c, zero-div c, zero-digits b c n, mul-zero b)

either_way : (t : Bool) (x y : Option ℕ) → y ≡ x → cond t x y ≡ x
either_way true x y e = refl
either_way false x y e = e

module _ (n : ℕ) where
  more : 16 ^ suc n ≡ 16 ^ n * 16
  more = pow-suc 16 n

  some : 0 < 16 ^ n
  some = one-le-pow n 16 (omega arith)

  fewer : 10 ^ n ≤ 16 ^ n
  fewer = pow-le-pow_left (omega arith) n

  -- a word's sign and what lies below it
  word_parts : (w : ℕ) → w % 16 ^ suc n ≡ nibble n w * 16 ^ n + w % 16 ^ n
  word_parts w = rw (more, mul_comm (16 ^ n) 16) (mod-mul w (omega arith) some)

  parts : (w s r : ℕ) → r < 16 ^ n → w % 16 ^ suc n ≡ r + s * 16 ^ n → (nibble n w ≡ s) × (w % 16 ^ n ≡ r)
  parts w s r l e =
      let m = mod-lt w some in
      let q : nibble n w * 16 ^ n + w % 16 ^ n ≡ s * 16 ^ n + r = sym (word_parts w) ∙ e ∙ add_comm r (s * 16 ^ n) in (
        sym (split_div (nibble n w) m) ∙ ap (λ (x : ℕ). x / 16 ^ n) q ∙ split_div s l,
        sym (split_mod (nibble n w) m) ∙ ap (λ (x : ℕ). x % 16 ^ n) q ∙ split_mod s l,
      )

  -- the digits are those below the sign
  repacked : (w : ℕ) → decimal n w ≡ true → w % 16 ^ n ≡ packed n (unpacked n w)
  repacked w d = rw (unpacked-low n w) at (sym (packed-unpacked n (w % 16 ^ n) (decimal-low n w ∙ d) (mod-lt w some)))

  low-decimal : (w u : ℕ) → w % 16 ^ n ≡ packed n u → decimal n w ≡ true
  low-decimal w u e = sym (decimal-low n w) ∙ rw e (packed-decimal n u)

  low-unpacked : (w u : ℕ) → u < 10 ^ n → w % 16 ^ n ≡ packed n u → unpacked n w ≡ u
  low-unpacked w u l e = sym (unpacked-low n w) ∙ rw e (unpacked-packed n u l)

  -- encoding, by the size
  plus_range : (v : ℕ) → v < 10 ^ n → is_plus n v ≡ true
  unfolding is_plus
  plus_range v l = lt-ltb v (10 ^ n) l

  no_plus : (u : ℕ) → u < 10 ^ n → is_plus n (16 ^ suc n - u) ≡ false
  unfolding is_plus
  no_plus u l = le-ltb (16 ^ suc n - u) (10 ^ n) (omega (arith, more, fewer))

  complement_back : (v : ℕ) → v ≤ 16 ^ suc n → complement n (16 ^ suc n - v) ≡ v
  unfolding complement
  complement_back v l = omega arith

  minus_range : (u : ℕ) → 0 < u → u < 10 ^ n → is_minus n (16 ^ suc n - u) ≡ true
  unfolding is_minus
  minus_range u z l =
      simp (complement_back u (omega (arith, more, fewer)), lt-ltb u (10 ^ n) l, lt-ltb (16 ^ suc n - u) (16 ^ suc n) (omega (arith, more, fewer)))

  pub plus_sent : (v : ℕ) → v < 10 ^ n → encoded_signed n v ≡ Some (packed n v)
  unfolding encoded_signed
  plus_sent v l = rw (plus_range v l)

  pub minus_sent : (u : ℕ) → 0 < u → u < 10 ^ n → encoded_signed n (16 ^ suc n - u) ≡ Some (packed n u + minus * 16 ^ n)
  unfolding encoded_signed
  minus_sent u z l = simp (no_plus u l, minus_range u z l, complement_back u (omega (arith, more, fewer)))

  neither_sent : (v : ℕ) → (is_plus n v || is_minus n v) ≡ false → encoded_signed n v ≡ None
  unfolding encoded_signed
  neither_sent v f = simp (or_left (is_plus n v) (is_minus n v) f, or_right (is_plus n v) (is_minus n v) f)

  -- decoding, by the size
  plus_read : (w u : ℕ) → u < 10 ^ n → w % 16 ^ suc n ≡ packed n u → decoded_signed n w ≡ Some u
  unfolding decoded_signed
  plus_read w u l e =
      let p = parts w 0 (packed n u) (packed-below n u) (rw (zero-mul (16 ^ n), add-zero (packed n u)) e) in
      simp (low-decimal w u p.1, p.0, low-unpacked w u l p.1)

  minus_read : (w u : ℕ) → 0 < u → u < 10 ^ n → w % 16 ^ suc n ≡ packed n u + minus * 16 ^ n → decoded_signed n w ≡ Some (16 ^ suc n - u)
  unfolding decoded_signed complement
  minus_read w u z l e =
      let p = parts w minus (packed n u) (packed-below n u) e in
      simp (low-decimal w u p.1, p.0, low-unpacked w u l p.1, ne_eqb u 0 (λ (q : u ≡ 0). omega arith))

  neither_read : (w : ℕ) → NoSigned n w → decoded_signed n w ≡ None
  unfolding decoded_signed decimal unpacked
  neither_read w (inl s) = simp (some_above 16 10 n w s.0 s.1 s.2)
  neither_read w (inr (inl s)) =
      either_way (not (decimal n w)) None _ (simp (ne_eqb (nibble n w) 0 s.0, ne_eqb (nibble n w) minus s.1))
  neither_read w (inr (inr e)) =
      let p = parts w minus 0 some (rw (zero-add (minus * 16 ^ n)) e) in
      let u : unpacked n w ≡ 0 = sym (unpacked-low n w) ∙ rw p.1 (zero-digits 10 16 n) in
      either_way (not (decimal n w)) None _ (simp (p.0, u))

  -- every value, and every word, is one of the three
  valued : (v : ℕ) → Valued n v
  unfolding is_plus is_minus complement
  valued v =
      let neither : (is_plus n v || is_minus n v) ≡ false → Valued n v = λ f. as_neither f (neither_sent v f) in
      ⊎_elim (λ (l : v < 10 ^ n). as_plus l (plus_sent v l))
      (λ (l : 10 ^ n ≤ v).
      ⊎_elim
      (λ (m : v < 16 ^ suc n).
      ⊎_elim
      (λ (k : 16 ^ suc n - v < 10 ^ n).
      let e : v ≡ 16 ^ suc n - (16 ^ suc n - v) = omega arith in
      as_minus (16 ^ suc n - v) (omega arith) k e (ap (encoded_signed n) e ∙ minus_sent (16 ^ suc n - v) (omega arith) k))
      (λ (k : 10 ^ n ≤ 16 ^ suc n - v). neither (simp (le-ltb v (10 ^ n) l, lt-ltb v (16 ^ suc n) m, le-ltb (16 ^ suc n - v) (10 ^ n) k)))
      (lt_or (16 ^ suc n - v) (10 ^ n)))
      (λ (m : 16 ^ suc n ≤ v). neither (simp (le-ltb v (10 ^ n) l, le-ltb v (16 ^ suc n) m)))
      (lt_or v (16 ^ suc n)))
      (lt_or v (10 ^ n))

  worded : (w : ℕ) → Worded n w
  unfolding decimal packed
  worded w =
      let neither : NoSigned n w → Worded n w = λ s. of_neither s (neither_read w s) in
      ⊎_elim
      (λ (d : decimal n w ≡ true).
      let l = unpacked-below n w d in
      ⊎_elim
      (λ (z : nibble n w ≡ 0).
      let q : w % 16 ^ suc n ≡ packed n (unpacked n w) = word_parts w ∙ rw (z, zero-mul (16 ^ n), zero-add (w % 16 ^ n)) (repacked w d) in
      of_plus (unpacked n w) l q (plus_read w (unpacked n w) l q))
      (λ (z : nibble n w ≡ 0 → ⊥).
      ⊎_elim
      (λ (s : nibble n w ≡ minus).
      let q : w % 16 ^ suc n ≡ packed n (unpacked n w) + minus * 16 ^ n = word_parts w ∙ rw (s, repacked w d) (add_comm (minus * 16 ^ n) (packed n (unpacked n w))) in
      ⊎_elim
      (λ (u : unpacked n w ≡ 0). neither (inr (inr (q ∙ rw (u, zero-digits 16 10 n) (zero-add (minus * 16 ^ n))))))
      (λ (u : unpacked n w ≡ 0 → ⊥). let k : 0 < unpacked n w = omega arith in of_minus (unpacked n w) k l q (minus_read w (unpacked n w) k l q))
      (eq_or (unpacked n w) 0))
      (λ (s : nibble n w ≡ minus → ⊥). neither (inr (inl (z, s))))
      (eq_or (nibble n w) minus))
      (eq_or (nibble n w) 0))
      (λ (d : decimal n w ≡ false). neither (inl (above_some 16 10 n w d)))
      (true_or (decimal n w))

  -- each law, by these
  there : (v w : ℕ) → Valued n v → encoded_signed n v ≡ Some w → (w < 16 ^ suc n) × (decoded_signed n w ≡ Some v)
  there v w (as_plus l s) e =
      let q : w ≡ packed n v = cc in
      let b : w < 16 ^ suc n = omega (arith, more, packed-below n v) in
      (b, plus_read w v l (mod-eq_of_lt b ∙ q))
  there v w (as_minus u z l m s) e =
      let q : w ≡ packed n u + minus * 16 ^ n = cc in
      let b : w < 16 ^ suc n = omega (arith, more, packed-below n u) in
      (b, rw m (minus_read w u z l (mod-eq_of_lt b ∙ q)))
  there v w (as_neither f s) e = never (cc)

  back : (w v : ℕ) → Worded n w → decoded_signed n w ≡ Some v → (v < 16 ^ suc n) × ((is_plus n v || is_minus n v) ≡ true) × (encoded_signed n v ≡ Some (w % 16 ^ suc n))
  back w v (of_plus u l q s) e =
      let f : v ≡ u = cc in
      rw (f, q) (omega (arith, more, fewer), rw (plus_range u l) refl, plus_sent u l)
  back w v (of_minus u z l q s) e =
      let f : v ≡ 16 ^ suc n - u = cc in
      rw (f, q) (omega (arith, more, fewer), rw (no_plus u l) (minus_range u z l), minus_sent u z l)
  back w v (of_neither f s) e = never (cc)

  sent_refused : (v : ℕ) → Valued n v → encoded_signed n v ≡ None → (is_plus n v || is_minus n v) ≡ false
  sent_refused v (as_plus l s) e = never (cc)
  sent_refused v (as_minus u z l m s) e = never (cc)
  sent_refused v (as_neither f s) e = f

  sent_accepted : (v : ℕ) → Valued n v → (is_plus n v || is_minus n v) ≡ true → (w : ℕ) × (encoded_signed n v ≡ Some w)
  sent_accepted v (as_plus l s) t = (packed n v, s)
  sent_accepted v (as_minus u z l m s) t = (packed n u + minus * 16 ^ n, s)
  sent_accepted v (as_neither f s) t = never (cc)

  read_refused : (w : ℕ) → Worded n w → decoded_signed n w ≡ None → NoSigned n w
  read_refused w (of_plus u l q s) e = never (cc)
  read_refused w (of_minus u z l q s) e = never (cc)
  read_refused w (of_neither f s) e = f

  read_digits : (w v : ℕ) → decoded_signed n w ≡ Some v → (i : ℕ) → i < n → nibble i w ≤ 9
  read_digits w v e i l =
      ⊎_elim (λ (h : 9 < nibble i w). never (cc (neither_read w (inl (i, l, h)))))
      (λ (h : nibble i w ≤ 9). h)
      (lt_or 9 (nibble i w))

  read_sign : (w v : ℕ) → decoded_signed n w ≡ Some v → (nibble n w ≡ 0) ⊎ ((nibble n w ≡ minus) × (1 ≤ w % 16 ^ n))
  read_sign w v e =
      ⊎_elim
      (λ (z : nibble n w ≡ 0). inl z)
      (λ (z : nibble n w ≡ 0 → ⊥). ⊎_elim
      (λ (m : nibble n w ≡ minus). inr (
        m,
        ⊎_elim
            (λ (h : 0 < w % 16 ^ n). h)
            (λ (h : w % 16 ^ n ≤ 0).
            let y : w % 16 ^ n ≡ 0 = omega arith in
            never (cc (neither_read w (inr (inr (word_parts w ∙ rw (m, y) (add-zero (minus * 16 ^ n))))))))
            (lt_or 0 (w % 16 ^ n)),
      ))
      (λ (m : nibble n w ≡ minus → ⊥). never (cc (neither_read w (inr (inl (z, m))))))
      (eq_or (nibble n w) minus))
      (eq_or (nibble n w) 0)

  read_accepted : (w : ℕ) → Worded n w → ((i : ℕ) → i < n → nibble i w ≤ 9) → (nibble n w ≡ 0) ⊎ ((nibble n w ≡ minus) × (1 ≤ w % 16 ^ n))
      → (v : ℕ) × (decoded_signed n w ≡ Some v)
  read_accepted w (of_plus u l q s) d g = (u, s)
  read_accepted w (of_minus u z l q s) d g = (16 ^ suc n - u, s)
  read_accepted w (of_neither (inl h) s) d g = absurd (omega (arith, d h.0 h.1, h.2))
  read_accepted w (of_neither (inr (inl h)) s) d g = absurd (⊎_elim h.0 (λ m. h.1 m.0) g)
  read_accepted w (of_neither (inr (inr q)) s) d g =
      let p = parts w minus 0 some (rw (zero-add (minus * 16 ^ n)) q) in
      absurd (⊎_elim (λ (z : nibble n w ≡ 0). omega (arith, p.0)) (λ (m : (nibble n w ≡ minus) × (1 ≤ w % 16 ^ n)). omega (arith, m.1, p.1)) g)

  -- What a value is encoded to decodes to that value.
  pub signed_encode_decode : (v w : ℕ) → encoded_signed n v ≡ Some w → decoded_signed n w ≡ Some v
  signed_encode_decode v w e = (there v w (valued v) e).1

  -- A word that decodes to a value, with nothing above it, is what that value is encoded to.
  pub signed_decode_encode : (w v : ℕ) → decoded_signed n w ≡ Some v → w < 16 ^ suc n → encoded_signed n v ≡ Some w
  signed_decode_encode w v e l = rw (mod-eq_of_lt l) at (back w v (worded w) e).2

  -- A value is refused exactly if it is neither plus nor minus.
  pub signed_encode_refuses : (v : ℕ) → (encoded_signed n v ≡ None) ↔ ((is_plus n v || is_minus n v) ≡ false)
  signed_encode_refuses v = (sent_refused v (valued v), neither_sent v)

  -- Every other value is encoded.
  pub signed_encode_accepts : (v : ℕ) → (is_plus n v || is_minus n v) ≡ true → (w : ℕ) × (encoded_signed n v ≡ Some w)
  signed_encode_accepts v t = sent_accepted v (valued v) t

  -- A word is refused exactly if a digit is above 9, or the sign is none, or it is minus 0.
  pub signed_decode_refuses : (w : ℕ) → (decoded_signed n w ≡ None) ↔ NoSigned n w
  signed_decode_refuses w = (read_refused w (worded w), neither_read w)

  -- A word is a number exactly if no digit is above 9 and the sign is plus, or it is minus and the digits are not all 0.
  pub signed_decode_accepts : (w : ℕ)
      → ((v : ℕ) × (decoded_signed n w ≡ Some v)) ↔ (((i : ℕ) → i < n → nibble i w ≤ 9) × ((nibble n w ≡ 0) ⊎ ((nibble n w ≡ minus) × (1 ≤ w % 16 ^ n))))
  signed_decode_accepts w = (λ r. (read_digits w r.0 r.1, read_sign w r.0 r.1), λ d. read_accepted w (worded w) d.0 d.1)

  -- What a value is encoded to has n + 1 nibbles.
  pub signed_encoded_below : (v w : ℕ) → encoded_signed n v ≡ Some w → w < 16 ^ suc n
  signed_encoded_below v w e = (there v w (valued v) e).0

  -- What a word decodes to has n + 1 nibbles and is in range.
  pub signed_decoded_in_range : (w v : ℕ) → decoded_signed n w ≡ Some v → (v < 16 ^ suc n) × ((is_plus n v || is_minus n v) ≡ true)
  signed_decoded_in_range w v e = let b = back w v (worded w) e in (b.0, b.1)
