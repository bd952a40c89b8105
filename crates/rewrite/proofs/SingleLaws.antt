-- What becomes of the one register of a reply 06, by the tag at its address, in plain words.
-- Assumes nothing.
use Prim.Native.Nat.{ℕ, ◌+◌, ◌*◌, ◌-◌, ◌^◌, ◌/◌, ◌%◌, ◌≤◌, ◌<◌}
use mathlib.Core.Path.{◌≡◌, refl, ap, sym, ◌∙◌}
use mathlib.Core.Logic.{⊎_elim}
use mathlib.Core.Bool.{true, false, true≢false}
use mathlib.Core.List.Memᴰ
use mathlib.Core.List.{List, [], ◌∷◌, Memᴰ}
use Rattle.std.specs.Prelude.{Some}
use native.Mathlib.Omega.{arith}
use lib.ListN.{length, get_or, set}
use borrow.Author.Tests.{lt-ltb}
use Rattle.laws.specs.Bytes.{pair_at}
use Rattle.laws.specs.Digits.{digits, value as value_of, below}
use Rattle.laws.proofs.Choice.{true_or}
use Rattle.laws.proofs.DigitLaws.{digits_value}
use Rattle.bcd.specs.declared.Kind.TheVariants.{Width16, Signed16}
use Rattle.bcd.specs.Bcd.{packed, unpacked, decimal, registers, in_range, decoded}
use Rattle.bcd.specs.Words.{words_of, number_of}
use Rattle.bcd.specs.Plain.{NoNumberOf}
use Rattle.bcd.proofs.OutcomeLaws.{decoded-decimal}
use Rattle.bcd.proofs.SignedLaws.{plus_sent, minus_sent, signed_encode_decode}
use Rattle.bcd.proofs.RoundTrip.{decoded_in_range}
use Rattle.settings.specs.Grammar.{Tag}
use Rattle.settings.specs.TagWords.{kind_of, last_of, Ascending}
use Rattle.pdu.specs.Replies.{excepts}
use Rattle.pdu.specs.declared.What.{What}
use Rattle.pdu.specs.declared.Table.TheVariants.{Registers}
use Rattle.pdu.specs.declared.Asked.TheVariants.{SingleWrite}
use Rattle.rewrite.specs.declared.Way.{Way}
use Rattle.rewrite.specs.declared.Way.TheVariants.{ToBinary}
use Rattle.rewrite.specs.Registers.{registers_at, laid_at}
use Rattle.rewrite.specs.Rewriting.{turned, Verdict, own_in, verdict, laid_by, with_counts, rewriting}
use Rattle.rewrite.specs.Rewriting.Verdict.{outside, value, done}
use Rattle.rewrite.specs.Frames.{reencoded, returned}
use Rattle.rewrite.specs.Plain.{Has, Whole}
use Rattle.rewrite.proofs.RegisterLaws.{laid-registers}
use Rattle.rewrite.proofs.OrderLaws.{ascending_in, one_owner}
use Rattle.rewrite.proofs.VerdictLaws.{outside_exactly, value_exactly, done_exactly, turned-decoded, raw-decoded}
use Rattle.rewrite.proofs.TagLaws.{by_verdict, by-verdict}
use Rattle.rewrite.proofs.TableLaws.{idle_before, idle_behind}
use Rattle.rewrite.proofs.FrameLaws.{returned_single, returned-raw}
use Rattle.rewrite.proofs.ReencodedLaws.{reencoded_exactly}

-- four nibbles of at most 9 are the number with those digits
four_digits : (p q r s : ℕ) → p ≤ 9 → q ≤ 9 → r ≤ 9 → s ≤ 9 → decoded Width16 (4096 * p + 256 * q + 16 * r + s) ≡ Some (1000 * p + 100 * q + 10 * r + s)
unfolding decoded decimal unpacked below value_of
four_digits p q r s hp hq hr hs =
    let ds = s ∷ r ∷ q ∷ p ∷ [] in
    let e : 4096 * p + 256 * q + 16 * r + s ≡ value_of 16 ds = omega arith in
    let d : digits 16 4 (4096 * p + 256 * q + 16 * r + s) ≡ ds = rw e (digits_value 16 ds (rw (lt-ltb s 16 (omega arith), lt-ltb r 16 (omega arith), lt-ltb q 16 (omega arith), lt-ltb p 16 (omega arith)) refl)) in
    let n : value_of 10 ds ≡ 1000 * p + 100 * q + 10 * r + s = omega arith in
    decoded-decimal 4 _ (rw (d, lt-ltb s 10 (omega arith), lt-ltb r 10 (omega arith), lt-ltb q 10 (omega arith), lt-ltb p 10 (omega arith)) refl) ∙ ap Some (rw d n)

-- three digits below a sign: nibble 0 is plus; nibble F is minus, in two's complement
module _ (q r s : ℕ) (hq : q ≤ 9) (hr : r ≤ 9) (hs : s ≤ 9) where
  three_packed : packed 3 (100 * q + 10 * r + s) ≡ 256 * q + 16 * r + s
  unfolding packed below value_of
  three_packed =
      let ds = s ∷ r ∷ q ∷ [] in
      let e : 100 * q + 10 * r + s ≡ value_of 10 ds = omega arith in
      let d : digits 10 3 (100 * q + 10 * r + s) ≡ ds = rw e (digits_value 10 ds (rw (lt-ltb s 10 (omega arith), lt-ltb r 10 (omega arith), lt-ltb q 10 (omega arith)) refl)) in
      let n : value_of 16 ds ≡ 256 * q + 16 * r + s = omega arith in
      rw d n

  plus_digits : decoded Signed16 (256 * q + 16 * r + s) ≡ Some (100 * q + 10 * r + s)
  unfolding decoded
  plus_digits = rw three_packed at (signed_encode_decode 3 _ _ (plus_sent 3 (100 * q + 10 * r + s) (omega arith)))

  minus-digits : 0 < 100 * q + 10 * r + s → decoded Signed16 (256 * q + 16 * r + s + 61440) ≡ Some (65536 - (100 * q + 10 * r + s))
  unfolding decoded
  minus-digits l = rw three_packed at (signed_encode_decode 3 _ _ (minus_sent 3 (100 * q + 10 * r + s) l (omega arith)))

module _ (way : Way) (base a : ℕ) (f : List ℕ) where
  -- a tag that does not have the address is outside a run of that one register
  elsewhere : (u : Tag) → (Has u a → ⊥) → verdict way a (registers_at base 1 f) u ≡ outside
  unfolding registers_at
  elsewhere u n = (outside_exactly way a (registers_at base 1 f) u (omega arith)).1 (λ x h r. n (omega (arith, h.0, r.1), omega (arith, h.1, r.0)))

  -- of ascending tags only the one that has the address matters
  pub alone : (from : ℕ) (tags : List Tag) (t : Tag) → Ascending from tags → Memᴰ t tags → Has t a → rewriting way base a 1 tags f ≡ rewriting way base a 1 (t ∷ []) f
  unfolding Ascending
  alone from [] t asc m h = absurd (Memᴰ.not-nil m)
  alone from (y ∷ ts) t asc m h =
      ⊎_elim
      (λ (e : t ≡ y). rw e (idle_behind way base a 1 f (y ∷ []) ts (λ u n. elsewhere u (λ g. omega (arith, (ascending_in (last_of y + 1) ts u asc.2 n).0, g.0, rw e at h.1)))))
      (λ (n : Memᴰ t ts).
      idle_before way base a 1 f y ts (elsewhere y (λ g. omega (arith, (ascending_in (last_of y + 1) ts t asc.2 n).0, g.1, h.0))) ∙ alone (last_of y + 1) ts t asc.2 n h)
      (Memᴰ.cases_cons m)

-- a reply f, of bytes, to a request 06 that wrote a value to the address a
module _ (tags : List Tag) (asc : Ascending 0 tags) (f : List ℕ) (bytes : (k : ℕ) → get_or f k 0 < 256) (w : What) (a written : ℕ) (asks : w.asked ≡ SingleWrite Registers a written) where
  -- what the request would have needed to be re-encoded is not so: the reply passes unchanged, and none is counted
  untouched : ((t : Tag) → Memᴰ t tags → t.address ≡ a → registers (kind_of t) ≡ 1 → in_range (kind_of t) written ≡ true → ⊥) → returned tags w f ≡ with_counts 0 0 f
  untouched n =
      returned-raw tags f w a written asks
      (⊎_elim (λ e. absurd (let r = (reencoded_exactly tags a written).0 e in n r.0 r.1 r.2 r.3 r.4)) (λ e. e) (true_or (reencoded tags a written)))

  -- Where no tag has the address the reply passes unchanged, and none is counted.
  pub single_untagged : ((t : Tag) → Memᴰ t tags → Has t a → ⊥) → returned tags w f ≡ with_counts 0 0 f
  single_untagged n = untouched (λ t m e one r. n t m (omega arith, omega arith))

  module _ (t : Tag) (m : Memᴰ t tags) (h : Has t a) where
    -- Under a tag of two registers the same.
    pub single_wide : registers (kind_of t) ≡ 2 → returned tags w f ≡ with_counts 0 0 f
    single_wide two =
        untouched (λ u n e one r.
        let same : t ≡ u = one_owner 0 tags t u a asc m n h (omega arith, omega arith) in
        let other : registers (kind_of t) ≡ 1 = rw same one in
        omega arith)

    -- And under one of one register, where the value that the client wrote was outside its range.
    pub single_unencoded : in_range (kind_of t) written ≡ false → returned tags w f ≡ with_counts 0 0 f
    single_unencoded out =
        untouched (λ u n e one r.
        let same : t ≡ u = one_owner 0 tags t u a asc m n h (omega arith, omega arith) in
        true≢false (sym r ∙ rw same at out))

    -- under a tag of one register, whatever its kind
    module _ (one : registers (kind_of t) ≡ 1) (range : in_range (kind_of t) written ≡ true) (plain : excepts w.function f ≡ false) where
      here : (t.address ≡ a) × Whole a (length (registers_at 10 1 f)) t
      unfolding registers_at
      here = (omega (arith, h.0, h.1), (omega (arith, h.1), omega (arith, h.0)))

      -- the request was re-encoded, so that the tag's verdict over the reply decides
      judged_by : (v : Verdict) → verdict ToBinary a (registers_at 10 1 f) t ≡ v → returned tags w f ≡ by_verdict ToBinary 10 a 1 t f v
      judged_by v q =
          returned_single tags f w a written asks ((reencoded_exactly tags a written).1 (t, m, here.0, one, range)) plain ∙ alone ToBinary 10 a f 0 tags t asc m h
          ∙ by-verdict ToBinary 10 a 1 t f v q

      -- the tag's number is the word
      number : turned ToBinary (kind_of t) (number_of (own_in a (registers_at 10 1 f) t)) ≡ turned ToBinary (kind_of t) (pair_at f 10)
      unfolding registers_at number_of value_of
      number =
          let z : t.address - a ≡ 0 = omega (arith, here.0) in
          let x : pair_at f 10 + 65536 * 0 ≡ pair_at f 10 = omega arith in
          rw (one, z) (ap (turned ToBinary (kind_of t)) x)

      -- Under one of one register a word that is no number of its kind passes unchanged, and the tag is counted as raw for its value.
      pub single_raw : NoNumberOf (kind_of t) (pair_at f 10) → returned tags w f ≡ with_counts 0 1 f
      unfolding laid_by
      single_raw q =
          judged_by value ((value_exactly ToBinary a (registers_at 10 1 f) t).1 (here.1, number ∙ (raw-decoded (kind_of t) (pair_at f 10)).1 q))
          ∙ ap (with_counts 0 1) (laid-registers 10 1 f bytes)

      -- Under one of one register a number of its kind becomes what it decodes to, the high byte first, and nothing is counted.
      pub single_number : (n : ℕ) → decoded (kind_of t) (pair_at f 10) ≡ Some n → returned tags w f ≡ with_counts 0 0 (set (set f 10 (n / 256)) 11 (n % 256))
      unfolding registers_at laid_by laid_at words_of digits
      single_number n q =
          let z : t.address - a ≡ 0 = omega (arith, here.0) in
          let l : n < 65536 ^ 1 = rw one at (decoded_in_range (kind_of t) (pair_at f 10) n q).0 in
          let small : n % 65536 ≡ n = omega arith in
          judged_by (done (words_of (kind_of t) n))
          ((done_exactly ToBinary a (registers_at 10 1 f) t (words_of (kind_of t) n)).1 (here.1, (n, number ∙ turned-decoded (kind_of t) (pair_at f 10) (Some n) q, refl)))
          ∙ rw (one, z, small)

    -- under one of width 16 without a sign
    module _ (e : t.width ≡ 16) (unsigned : t.sign ≡ 0) (range : in_range (kind_of t) written ≡ true) (plain : excepts w.function f ≡ false) where
      narrow : kind_of t ≡ Width16
      unfolding kind_of
      narrow = rw (e, unsigned)

      one : registers (kind_of t) ≡ 1
      unfolding registers
      one = rw narrow

      -- Under one of width 16 without a sign four digits of at most 9 become their number, the high byte first, and nothing is counted.
      pub single_decoded : (p q r s : ℕ) → p ≤ 9 → q ≤ 9 → r ≤ 9 → s ≤ 9 → get_or f 10 0 ≡ 16 * p + q → get_or f 11 0 ≡ 16 * r + s
          → returned tags w f ≡ with_counts 0 0 (set (set f 10 ((1000 * p + 100 * q + 10 * r + s) / 256)) 11 ((1000 * p + 100 * q + 10 * r + s) % 256))
      single_decoded p q r s hp hq hr hs high low =
          let d : pair_at f 10 ≡ 4096 * p + 256 * q + 16 * r + s = omega arith in
          single_number one range plain (1000 * p + 100 * q + 10 * r + s) (rw (narrow, d) (four_digits p q r s hp hq hr hs))

    -- under one of width 16 with a sign, three digits of at most 9
    module _ (e : t.width ≡ 16) (signed : t.sign ≡ 1) (range : in_range (kind_of t) written ≡ true) (plain : excepts w.function f ≡ false) (q r s : ℕ) (hq : q ≤ 9) (hr : r ≤ 9) (hs : s ≤ 9) (low : get_or f 11 0 ≡ 16 * r + s) where
      with-sign : kind_of t ≡ Signed16
      unfolding kind_of
      with-sign = rw (e, signed)

      sole : registers (kind_of t) ≡ 1
      unfolding registers
      sole = rw with-sign

      -- Under one with a sign three digits below the nibble 0 become their number.
      pub single_plus : get_or f 10 0 ≡ q → returned tags w f ≡ with_counts 0 0 (set (set f 10 ((100 * q + 10 * r + s) / 256)) 11 ((100 * q + 10 * r + s) % 256))
      single_plus high =
          let d : pair_at f 10 ≡ 256 * q + 16 * r + s = omega arith in
          single_number sole range plain (100 * q + 10 * r + s) (rw (with-sign, d) (plus_digits q r s hq hr hs))

      -- And three that are not all 0, below the nibble F, become 65,536 less their number.
      pub single_minus : get_or f 10 0 ≡ 240 + q → 0 < 100 * q + 10 * r + s
          → returned tags w f ≡ with_counts 0 0 (set (set f 10 ((65536 - (100 * q + 10 * r + s)) / 256)) 11 ((65536 - (100 * q + 10 * r + s)) % 256))
      single_minus high l =
          let d : pair_at f 10 ≡ 256 * q + 16 * r + s + 61440 = omega arith in
          single_number sole range plain (65536 - (100 * q + 10 * r + s)) (rw (with-sign, d) (minus-digits q r s hq hr hs l))
