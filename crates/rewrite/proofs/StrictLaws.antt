-- Strict tags in plain numbers: exactly which writes they forbid, that only masks are forbidden without such a tag, which masks any tag forbids, and what stands at a strict tag in a frame that goes out.
-- Assumes nothing.
use Prim.Native.Nat.{ℕ, ◌+◌, ◌*◌, ◌-◌, ◌^◌, ◌≤◌, ◌<◌}
use mathlib.Core.Path.{◌≡◌, refl, ap, sym, ◌∙◌}
use mathlib.Core.Logic.Iff
use mathlib.Core.Logic.{⊎_elim, ◌⊎◌, inl, inr, ◌↔◌}
use mathlib.Core.Bool.{Bool, true, false, ◌&&◌, ◌||◌, false≢true, true≢false, or-true}
use mathlib.Core.List.Memᴰ
use mathlib.Core.List.{List, [], ◌∷◌, Memᴰ}
use Rattle.std.specs.Prelude.{Some, Ok}
use native.Mathlib.Omega.{arith}
use lib.ListN.{get_or}
use lib.Seq.{ext_get_or}
use lib.Dec.{eqb, leb}
use borrow.Author.Tests.{ne_eqb, le-leb, leb-true}
use Rattle.numbers.specs.Numbers.{digits_per_register, signed_digits}
use Rattle.laws.proofs.Choice.{true_or, lt_or, or_left, or_right, or_either, never}
use Rattle.laws.proofs.TestLaws.{holds_eq, holds_and, holds_or}
use Rattle.bcd.specs.declared.Kind.{Kind}
use Rattle.bcd.specs.declared.Kind.TheVariants.{Width16, Width32, Signed16}
use Rattle.bcd.specs.Bcd.{registers, in_range, encoded, decoded}
use Rattle.bcd.specs.Words.{words_of, number_of}
use Rattle.bcd.proofs.SignedLaws.{signed_decode_accepts}
use Rattle.bcd.proofs.RoundTrip.{digits_decode_accepts, range_16, range_32, range_signed, encode_accepts, encode_decode, encoded-below}
use Rattle.bcd.proofs.Words.{words_count, number_back}
use Rattle.settings.specs.Grammar.{Tag}
use Rattle.settings.specs.TagWords.{kind_of, last_of, some_strict, Ascending}
use Rattle.pdu.specs.Requests.{checked_of}
use Rattle.pdu.specs.Plain.{NotEmpty}
use Rattle.pdu.specs.declared.Table.TheVariants.{Bits, Registers}
use Rattle.pdu.specs.declared.Asked.{Asked}
use Rattle.pdu.specs.declared.Asked.TheVariants.{Read, SingleWrite, MultipleWrite, MaskWrite, ReadWrite, Other}
use Rattle.pdu.proofs.SpoilingLaws.{legal_ranges}
use Rattle.rewrite.specs.declared.Way.TheVariants.{ToBcd}
use Rattle.rewrite.specs.Registers.{registers_at}
use Rattle.rewrite.specs.Rewriting.{Verdict, verdict, is_raw_partial, is_raw_value, own_in}
use Rattle.rewrite.specs.Rewriting.Verdict.{outside, partial, value, done}
use Rattle.rewrite.specs.Plain.{Has, InRun, Whole, Rewrites}
use Rattle.rewrite.specs.Legal.{stays_raw, forbids, some_forbids, some_has, forbidden}
use Rattle.rewrite.specs.Strict.{Carries, Cut, standing, TooFar, Digits, Violates, HasDigits}
use Rattle.rewrite.specs.Strict.Carries.{single, multiple, both}
use Rattle.rewrite.proofs.RegisterLaws.{length-registers, register_at, registers_part}
use Rattle.rewrite.proofs.OrderLaws.{behind_last, first_last}
use Rattle.rewrite.proofs.VerdictLaws.{partial_exactly, value_exactly, done_exactly, turned-encoded, raw-encoded}
use Rattle.rewrite.proofs.TagLaws.{number_one, number_two}

-- WHAT A KIND ALLOWS

-- Words decode exactly where the kind allows their nibbles.
pub digits_exactly : (k : Kind) (n : ℕ) → ((v : ℕ) × (decoded k n ≡ Some v)) ↔ Digits k n
unfolding decoded
digits_exactly Width16 n = digits_decode_accepts digits_per_register n
digits_exactly Width32 n = digits_decode_accepts (2 * digits_per_register) n
digits_exactly Signed16 n = signed_decode_accepts signed_digits n

-- a test fails exactly where what it tests does not hold
fails_unless : {P : Type 0} (t : Bool) → (t ≡ true) ↔ P → (t ≡ false) ↔ (P → ⊥)
fails_unless t r = (λ e p. true≢false (sym (r.1 p) ∙ e), λ n. ⊎_elim (λ e. absurd (n (r.0 e))) (λ e. e) (true_or t))

-- A number in the registers of a kind is outside its range exactly where it is too far.
pub too_far_exactly : (k : Kind) (n : ℕ) → n < 65536 ^ registers k → (in_range k n ≡ false) ↔ TooFar k n
unfolding registers
too_far_exactly Width16 n l = Iff.trans (fails_unless (in_range Width16 n) (range_16 n)) (λ h. omega arith, λ h p. omega arith)
too_far_exactly Width32 n l = Iff.trans (fails_unless (in_range Width32 n) (range_32 n)) (λ h. omega arith, λ h p. omega arith)
too_far_exactly Signed16 n l =
    Iff.trans (fails_unless (in_range Signed16 n) (range_signed n)) (
      λ h.
          let a : n ≤ 999 → ⊥ = λ p. h (inl p) in
          let b : 64537 ≤ n → ⊥ = λ p. h (inr (p, omega arith)) in
          (omega arith, omega arith),
      λ h. ⊎_elim (λ p. omega (arith, h.0)) (λ p. omega (arith, h.1, p.0)),
    )

-- THE NUMBER AT A TAG

module _ (f : List ℕ) (base start address : ℕ) where
  stands : (k : Kind) → number_of (registers_at (base + 2 * (address - start)) (registers k) f) ≡ standing k f base start address
  unfolding registers
  stands Width16 = sym (number_one Width16 (base + 2 * (address - start)) f refl)
  stands Width32 = sym (number_two Width32 (base + 2 * (address - start)) f refl)
  stands Signed16 = sym (number_one Signed16 (base + 2 * (address - start)) f refl)

  stands_low : ((k : ℕ) → get_or f k 0 < 256) → (k : Kind) → standing k f base start address < 65536 ^ registers k
  unfolding registers
  stands_low b Width16 = let at = base + 2 * (address - start) in omega (arith, b at, b (at + 1))
  stands_low b Width32 = let at = base + 2 * (address - start) in omega (arith, b at, b (at + 1), b (at + 2), b (at + 2 + 1))
  stands_low b Signed16 = let at = base + 2 * (address - start) in omega (arith, b at, b (at + 1))

-- WHICH WRITES ARE FORBIDDEN

raw-verdict : (v : Verdict) → ((is_raw_partial v || is_raw_value v) ≡ true) ↔ ((v ≡ partial) ⊎ (v ≡ value))
raw-verdict outside = (λ e. absurd (false≢true e), ⊎_elim (λ e. never (cc)) (λ e. never (cc)))
raw-verdict partial = (λ e. inl refl, λ e. refl)
raw-verdict value = (λ e. inr refl, λ e. refl)
raw-verdict (done ws) = (λ e. absurd (false≢true e), ⊎_elim (λ e. never (cc)) (λ e. never (cc)))

module _ (f : List ℕ) (bytes : (k : ℕ) → get_or f k 0 < 256) (base start quantity : ℕ) where
  abbrev run : List ℕ
  run = registers_at base quantity f

  module _ (t : Tag) where
    abbrev here : ℕ
    here = standing (kind_of t) f base start t.address

    number_here : Whole start quantity t → number_of (own_in start run t) ≡ here
    number_here w =
        let b = behind_last t in
        ap number_of (registers_part base quantity f (t.address - start) (registers (kind_of t)) (omega (arith, w.0, w.1)))
        ∙ stands f base start t.address (kind_of t)

    -- a tag that is whole in the run is in its range or too far
    far_here : (in_range (kind_of t) here ≡ false) ↔ TooFar (kind_of t) here
    far_here = too_far_exactly (kind_of t) here (stands_low f base start t.address bytes (kind_of t))

    value-here : (verdict ToBcd start run t ≡ value) ↔ (Whole start quantity t × TooFar (kind_of t) here)
    value-here =
        let q = rw (length-registers base quantity f) at (value_exactly ToBcd start run t) in (
          λ e. let s = q.0 e in (s.0, far_here.0 ((raw-encoded (kind_of t) here).0 (rw (number_here s.0) at s.1))),
          λ s. q.1 (s.0, rw (number_here s.0) ((raw-encoded (kind_of t) here).1 (far_here.1 s.1))),
        )

    module _ (some : 1 ≤ quantity) where
      cut_here : (verdict ToBcd start run t ≡ partial) ↔ Cut start quantity t
      cut_here = rw (length-registers base quantity f) at (partial_exactly ToBcd start run t (rw (length-registers base quantity f) some))

      forbids_exactly : (forbids start run t ≡ true) ↔ ((t.strict ≡ 1) × (Cut start quantity t ⊎ (Whole start quantity t × TooFar (kind_of t) here)))
      unfolding forbids
      forbids_exactly =
          holds_and (eqb t.strict 1) (stays_raw start run t) (holds_eq t.strict 1)
          (Iff.trans (raw-verdict (verdict ToBcd start run t)) (
            ⊎_elim (λ e. inl (cut_here.0 e)) (λ e. inr (value-here.0 e)),
            ⊎_elim (λ e. inl (cut_here.1 e)) (λ e. inr (value-here.1 e)),
          ))

-- some tag forbids exactly if one of them does
some_in : (start : ℕ) (rs : List ℕ) (tags : List Tag) → some_forbids start rs tags ≡ true → (t : Tag) × Memᴰ t tags × (forbids start rs t ≡ true)
unfolding some_forbids
some_in start rs [] e = absurd (false≢true e)
some_in start rs (t ∷ ts) e =
    ⊎_elim
    (λ h. (t, Memᴰ.head refl, h))
    (λ h. let i = some_in start rs ts h in (i.0, Memᴰ.tail i.1, i.2))
    (or_either (forbids start rs t) (some_forbids start rs ts) e)

pub in_some : (start : ℕ) (rs : List ℕ) (tags : List Tag) (t : Tag) → Memᴰ t tags → forbids start rs t ≡ true → some_forbids start rs tags ≡ true
unfolding some_forbids
in_some start rs [] t m e = absurd (Memᴰ.not-nil m)
in_some start rs (y ∷ ts) t m e =
    ⊎_elim
    (λ (q : t ≡ y). let h : forbids start rs y ≡ true = rw (← q) e in rw h)
    (λ n. rw (in_some start rs ts t n e) (or-true (forbids start rs y)))
    (Memᴰ.cases_cons m)

some_exactly : (tags : List Tag) (f : List ℕ) → ((k : ℕ) → get_or f k 0 < 256) → (base start quantity : ℕ) → 1 ≤ quantity
    → (some_forbids start (registers_at base quantity f) tags ≡ true) ↔ Violates tags f base start quantity
some_exactly tags f bytes base start quantity some = (
  λ e.
      let i = some_in start (registers_at base quantity f) tags e in
      let h = (forbids_exactly f bytes base start quantity i.0 some).0 i.2 in
      record { tag = i.0; listed = i.1; strict = h.0; how = h.1 },
  λ v. in_some start (registers_at base quantity f) tags v.tag v.listed ((forbids_exactly f bytes base start quantity v.tag some).1 (v.strict, v.how)),
)

some-by : {a : Asked} {base start quantity : ℕ} → NotEmpty a → Carries a base start quantity → 1 ≤ quantity
some-by n single = omega arith
some-by n multiple = n
some-by n both = n.1

-- A request that passed the check of its bytes and carries registers carries one at least.
pub carries_some : (f : List ℕ) {a : Asked} {base start quantity : ℕ} → checked_of f ≡ Ok a → Carries a base start quantity → 1 ≤ quantity
carries_some f {a} e c = some-by (legal_ranges f a e).some c

-- A write that carries registers, one at least, is forbidden exactly if they violate a strict tag.
pub forbidden_exactly : (tags : List Tag) (f : List ℕ) → ((k : ℕ) → get_or f k 0 < 256) → (a : Asked) {base start quantity : ℕ} → Carries a base start quantity → 1 ≤ quantity
    → (forbidden tags a f ≡ true) ↔ Violates tags f base start quantity
unfolding forbidden
forbidden_exactly tags f bytes _ (single {a = at}) some = some_exactly tags f bytes 10 at 1 some
forbidden_exactly tags f bytes _ (multiple {s = s} {q = q}) some = some_exactly tags f bytes 13 s q some
forbidden_exactly tags f bytes _ (both {u = u} {p = p}) some = some_exactly tags f bytes 17 u p some

has_test : (t : Tag) (x : ℕ) → ((leb t.address x && leb x (last_of t)) ≡ true) ↔ Has t x
has_test t x = holds_and (leb t.address x) (leb x (last_of t)) (leb-true t.address x, le-leb t.address x) (leb-true x (last_of t), le-leb x (last_of t))

-- Some tag has a register exactly if one of them does, strict or not.
pub has_exactly : (x : ℕ) (tags : List Tag) → (some_has x tags ≡ true) ↔ ((t : Tag) × Memᴰ t tags × Has t x)
unfolding some_has
has_exactly x [] = (λ e. absurd (false≢true e), λ h. absurd (Memᴰ.not-nil h.1))
has_exactly x (t ∷ ts) =
    Iff.trans (holds_or (leb t.address x && leb x (last_of t)) (some_has x ts) (has_test t x) (has_exactly x ts)) (
      ⊎_elim (λ (h : Has t x). (t, Memᴰ.head refl, h)) (λ (h : (u : Tag) × Memᴰ u ts × Has u x). (h.0, Memᴰ.tail h.1, h.2)),
      λ (h : (u : Tag) × Memᴰ u (t ∷ ts) × Has u x). ⊎_elim (λ (q : h.0 ≡ t). inl (rw (← q) h.2)) (λ m. inr (h.0, m, h.2)) (Memᴰ.cases_cons h.1),
    )

-- A mask write is forbidden exactly if a tag has its register.
pub mask_forbidden_exactly : (tags : List Tag) (a x y : ℕ) (f : List ℕ) → (forbidden tags (MaskWrite a x y) f ≡ true) ↔ ((t : Tag) × Memᴰ t tags × Has t a)
unfolding forbidden
mask_forbidden_exactly tags a x y f = has_exactly a tags

-- Where no tag is strict, none is marked as one.
pub strictless : (tags : List Tag) → ((t : Tag) → Memᴰ t tags → t.strict ≡ 1 → ⊥) → some_strict tags ≡ false
unfolding some_strict
strictless [] h = refl
strictless (t ∷ ts) h = rw (ne_eqb t.strict 1 (h t (Memᴰ.head refl))) (strictless ts (λ u m. h u (Memᴰ.tail m)))

lenient-run : (start : ℕ) (rs : List ℕ) (tags : List Tag) → some_strict tags ≡ false → some_forbids start rs tags ≡ false
unfolding some_strict some_forbids forbids
lenient-run start rs [] e = refl
lenient-run start rs (t ∷ ts) e = rw (or_left (eqb t.strict 1) (some_strict ts) e) (lenient-run start rs ts (or_right (eqb t.strict 1) (some_strict ts) e))

-- Tags none of which is strict forbid nothing but a mask write to a register that one of them has.
pub lenient-allowed : (tags : List Tag) → some_strict tags ≡ false → (a : Asked) (f : List ℕ) → ((at x y : ℕ) → a ≡ MaskWrite at x y → some_has at tags ≡ false) → forbidden tags a f ≡ false
unfolding forbidden
lenient-allowed tags e (Read t s q) f free = refl
lenient-allowed tags e (SingleWrite Bits a v) f free = refl
lenient-allowed tags e (SingleWrite Registers a v) f free = lenient-run a (registers_at 10 1 f) tags e
lenient-allowed tags e (MultipleWrite Bits s q) f free = refl
lenient-allowed tags e (MultipleWrite Registers s q) f free = lenient-run s (registers_at 13 q f) tags e
lenient-allowed tags e (MaskWrite a x y) f free = free a x y refl
lenient-allowed tags e (ReadWrite s q u p) f free = lenient-run u (registers_at 17 p f) tags e
lenient-allowed tags e Other f free = refl

-- WHAT GOES OUT

module _ {tags : List Tag} {f w : List ℕ} {p v base start quantity : ℕ} (r : Rewrites ToBcd tags f w p v base start quantity) (asc : Ascending 0 tags) (bytes : (k : ℕ) → get_or f k 0 < 256) (t : Tag) (m : Memᴰ t tags) (whole : Whole start quantity t) where
  -- a tag whose number is in its range stands in w encoded
  words_out : (d : ℕ) → encoded (kind_of t) (standing (kind_of t) f base start t.address) ≡ Some d → registers_at (base + 2 * (t.address - start)) (registers (kind_of t)) w ≡ words_of (kind_of t) d
  words_out d e =
      let k = kind_of t in
      let at = base + 2 * (t.address - start) in
      let ws = words_of k d in
      let b = behind_last t in
      let n = number_here f bytes base start quantity t whole in
      let z = (rw (length-registers base quantity f) at (done_exactly ToBcd start (registers_at base quantity f) t ws)).1 (whole, (d, rw n (turned-encoded k _ (Some d) e), refl)) in
      ext_get_or 0 (registers_at at (registers k) w) ws (length-registers at (registers k) w ∙ sym (words_count k d)) (λ i h.
      let l : i < registers k = omega (arith, length-registers at (registers k) w) in
      let j : at + 2 * i ≡ base + 2 * (t.address - start + i) = omega arith in
      let y : start + (t.address - start + i) - t.address ≡ i = omega (arith, whole.0) in
      register_at at (registers k) w i l
      ∙ rw j (rw y at (r.turned asc bytes t ws (t.address - start + i) m z (omega (arith, whole.0), omega (arith, whole.0)) (omega (arith, whole.0, whole.1)))))

  digits_out : in_range (kind_of t) (standing (kind_of t) f base start t.address) ≡ true → HasDigits t f w base start quantity
  digits_out range =
      let k = kind_of t in
      let n = standing k f base start t.address in
      let s = encode_accepts k n range in
      let e : standing k w base start t.address ≡ s.0 =
      sym (stands w base start t.address k) ∙ ap number_of (words_out s.0 s.1) ∙ number_back k s.0 (encoded-below k n s.0 s.1) in
      let b : decoded k (standing k w base start t.address) ≡ Some n = rw e (encode_decode k n s.0 s.1) in
      record { whole = whole; digits = (digits_exactly k (standing k w base start t.address)).0 (n, b); number = b }

-- A strict tag of which a write that violates none carries a register lies wholly in it, and goes out in digits.
pub strict_sent : {tags : List Tag} {f w : List ℕ} {p v base start quantity : ℕ} → Rewrites ToBcd tags f w p v base start quantity → Ascending 0 tags → ((k : ℕ) → get_or f k 0 < 256)
    → (Violates tags f base start quantity → ⊥) → (t : Tag) → Memᴰ t tags → t.strict ≡ 1 → (x : ℕ) → Has t x → InRun start quantity x → HasDigits t f w base start quantity
strict_sent {f = f} {base = base} {start = start} {quantity = quantity} r asc bytes keeps t m s x h i =
    let l = first_last t in
    let cut : (y : ℕ) → Has t y → (InRun start quantity y → ⊥) → ⊥ = λ y g n. keeps (record { tag = t; listed = m; strict = s; how = inl ((x, h, i), (y, g, n)) }) in
    let whole : Whole start quantity t = (
      ⊎_elim (λ (z : t.address < start). absurd (cut t.address (omega arith, l) (λ g. omega (arith, g.0)))) (λ (z : start ≤ t.address). z) (lt_or t.address start),
      ⊎_elim (λ (z : last_of t < start + quantity). z) (λ (z : start + quantity ≤ last_of t). absurd (cut (last_of t) (l, omega arith) (λ g. omega (arith, g.1)))) (lt_or (last_of t) (start + quantity)),
    ) in
    digits_out r asc bytes t m whole
    (⊎_elim (λ e. e)
    (λ e. absurd (keeps (record { tag = t; listed = m; strict = s; how = inr (whole, (far_here f bytes base start quantity t).0 e) })))
    (true_or (in_range (kind_of t) (standing (kind_of t) f base start t.address))))
