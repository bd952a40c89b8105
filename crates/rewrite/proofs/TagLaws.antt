-- One tag over a run of registers in a buffer: what its verdict makes of the buffer and the counts, its number in one register or two, and whether it stays raw.
-- Assumes nothing.
use Prim.Native.Nat.{ℕ, ◌+◌, ◌*◌, ◌-◌, ◌/◌, ◌%◌, ◌≤◌, ◌<◌}
use mathlib.Core.Path.{◌≡◌, refl, ap, sym, ◌∙◌}
use mathlib.Core.Logic.{⊎_elim}
use mathlib.Core.Bool.{Bool, true, false, cond, not, ◌&&◌, ◌||◌}
use Rattle.std.specs.Prelude.{Option, Some, None}
use mathlib.Core.List.{List, [], ◌∷◌}
use native.Mathlib.Omega.{arith}
use lib.ListN.{length, get_or}
use lib.Seq.{sets}
use lib.Dec.{ltb, leb}
use borrow.Author.Tests.{lt-ltb, le-ltb, lt-leb, le-leb}
use Rattle.laws.specs.Lists.{filter}
use Rattle.laws.specs.Bytes.{pair_at, put_at}
use Rattle.laws.specs.Digits.{digits, value as value_of}
use Rattle.laws.proofs.Choice.{true_or, lt_or}
use Rattle.bcd.specs.declared.Kind.{Kind}
use Rattle.bcd.specs.Bcd.{registers, in_range}
use Rattle.bcd.specs.Words.{words_of, number_of}
use Rattle.bcd.proofs.RoundTrip.{encode_accepts}
use Rattle.bcd.proofs.Words.{words_count}
use Rattle.settings.specs.Grammar.{Tag}
use Rattle.settings.specs.TagWords.{kind_of, last_of}
use Rattle.rewrite.specs.declared.Way.{Way}
use Rattle.rewrite.specs.declared.Way.TheVariants.{ToBcd}
use Rattle.rewrite.specs.Registers.{registers_at, laid_at}
use Rattle.rewrite.specs.Rewriting.{turned, Verdict, is_outside, is_partial, own_in, verdict, laid_by, rewritten_from, is_raw_partial, is_raw_value, partials, values, Rewritten, with_counts, rewriting}
use Rattle.rewrite.specs.Rewriting.Verdict.{outside, partial, value, done}
use Rattle.rewrite.specs.Plain.{Whole}
use Rattle.rewrite.specs.inner.Lent.{whole_laid}
use Rattle.rewrite.proofs.RegisterLaws.{length-registers, registers_part, laid-registers, laid_part}
use Rattle.rewrite.proofs.OrderLaws.{behind_last}
use Rattle.rewrite.proofs.VerdictLaws.{not_partial, verdict_outside, verdict_partial, value_exactly, done_exactly, turned-encoded, raw-encoded}

-- A NUMBER IN ONE REGISTER OR TWO

module _ (kind : Kind) (k : ℕ) (d : List ℕ) where
  -- A kind with one register has its number there.
  pub number_one : registers kind ≡ 1 → pair_at d k ≡ number_of (registers_at k (registers kind) d)
  unfolding number_of value_of registers_at
  number_one e = rw e (omega arith)

  -- A kind with two registers has the low word first.
  pub number_two : registers kind ≡ 2 → pair_at d k + 65536 * pair_at d (k + 2) ≡ number_of (registers_at k (registers kind) d)
  unfolding number_of value_of registers_at
  number_two e = rw e (omega arith)

  -- A number laid into one register.
  pub lay_one : (n : ℕ) → registers kind ≡ 1 → put_at d k (n % 65536) ≡ laid_at k (words_of kind n) d
  unfolding words_of digits laid_at
  lay_one n e = rw e refl

  -- A number laid into two registers, the low word first.
  pub lay_two : (n : ℕ) → registers kind ≡ 2 → n < 4294967296 → put_at (put_at d (k + 2) (n / 65536)) k (n % 65536) ≡ laid_at k (words_of kind n) d
  unfolding words_of digits laid_at
  lay_two n e l = let m : n / 65536 % 65536 ≡ n / 65536 = omega arith in rw (e, m) refl

-- ONE TAG, by its verdict

module _ (way : Way) (base start q : ℕ) (t : Tag) (d : List ℕ) where
  -- what a verdict makes of the buffer, and what it adds to the counts
  abbrev pub by_verdict : Verdict → Rewritten
  by_verdict v = with_counts (length (cond (is_raw_partial v) (t ∷ []) [])) (length (cond (is_raw_value v) (t ∷ []) [])) (laid_at base (laid_by v (t.address - start) (registers_at base q d)) d)

  pub by-verdict : (v : Verdict) → verdict way start (registers_at base q d) t ≡ v → rewriting way base start q (t ∷ []) d ≡ by_verdict v
  unfolding rewriting partials values filter rewritten_from
  by-verdict v e = ap by_verdict e

-- what the code knows of a tag and of the buffer: the tag's first register and its last, and that the buffer holds bytes
pub record KnownTag (t : Tag) (d : List ℕ) (first final : ℕ) : Type 0 where
  pub first_is : first ≡ t.address
  pub final_is : final ≡ last_of t
  pub bytes : (i : ℕ) → get_or d i 0 < 256

module _ (way : Way) (base start q : ℕ) {t : Tag} {d : List ℕ} {a z : ℕ} (n : KnownTag t d a z) where
  same : d ≡ laid_at base (registers_at base q d) d
  same = sym (laid-registers base q d n.bytes)

  -- the definition's tests are the code's
  outside_test : is_outside start (length (registers_at base q d)) t ≡ (ltb z start || leb (start + q) a)
  outside_test = rw (length-registers base q d, n.first_is, n.final_is)

  partial_test : is_partial start (length (registers_at base q d)) t ≡ (ltb a start || leb (start + q) z)
  partial_test = rw (length-registers base q d, n.first_is, n.final_is)

  -- A tag outside the run changes nothing and is not counted.
  pub one_outside : (ltb z start || leb (start + q) a) ≡ true → with_counts 0 0 d ≡ rewriting way base start q (t ∷ []) d
  unfolding laid_by
  one_outside o =
      ap (with_counts 0 0) same
      ∙ sym (by-verdict way base start q t d outside (verdict_outside way start (registers_at base q d) t (outside_test ∙ o)))

  -- A tag partly in the run changes nothing and is counted for partial cover.
  pub one_partial : (ltb z start || leb (start + q) a) ≡ false → (ltb a start || leb (start + q) z) ≡ true → with_counts 1 0 d ≡ rewriting way base start q (t ∷ []) d
  unfolding laid_by
  one_partial o p =
      ap (with_counts 1 0) same
      ∙ sym (by-verdict way base start q t d partial (verdict_partial way start (registers_at base q d) t (outside_test ∙ o) (partial_test ∙ p)))

  module _ (p : (ltb a start || leb (start + q) z) ≡ false) where
    whole_run : Whole start (length (registers_at base q d)) t
    whole_run = not_partial start (length (registers_at base q d)) t (partial_test ∙ p)

    whole : Whole start q t
    whole = rw (length-registers base q d) at whole_run

    -- The registers of a tag that passes both tests are in the run.
    pub one_room : (start ≤ a) × (a - start + registers (kind_of t) ≤ q)
    one_room = let b = behind_last t in let f = n.first_is in (omega (arith, whole.0), omega (arith, whole.0, whole.1))

    -- the tag's number, at its registers in the buffer
    module _ (k : ℕ) (hk : k ≡ base + 2 * (a - start)) where
      abbrev own : ℕ
      own = number_of (registers_at k (registers (kind_of t)) d)

      number : number_of (own_in start (registers_at base q d) t) ≡ own
      number =
          ap number_of (registers_part base q d (t.address - start) (registers (kind_of t)) (rw n.first_is at one_room.1))
          ∙ rw (hk, n.first_is) refl

      one_value : turned way (kind_of t) own ≡ None → with_counts 0 1 d ≡ rewriting way base start q (t ∷ []) d
      unfolding laid_by
      one_value e =
          ap (with_counts 0 1) same
          ∙ sym (by-verdict way base start q t d value ((value_exactly way start (registers_at base q d) t).1 (whole_run, rw number e)))

      one_done : (r : ℕ) → turned way (kind_of t) own ≡ Some r → with_counts 0 0 (laid_at k (words_of (kind_of t) r) d) ≡ rewriting way base start q (t ∷ []) d
      unfolding laid_by
      one_done r e =
          let ws = words_of (kind_of t) r in
          let rs = registers_at base q d in
          let c = words_count (kind_of t) r in
          let l = length-registers base q d in
          let j = rw n.first_is at one_room.1 in
          let i = t.address - start in
          let p : laid_at k ws d ≡ laid_at base (sets rs i ws) d =
          ap (λ (x : List ℕ). laid_at k ws x) same ∙ rw (hk, n.first_is) (laid_part base ws rs d i (omega arith)) in
          ap (with_counts 0 0) p
          ∙ sym (by-verdict way base start q t d (done ws) ((done_exactly way start rs t ws).1 (whole_run, (r, rw number e, refl))))

      -- A tag that passes both tests has its words in the buffer and is not counted, or changes nothing and is counted for its value.
      pub one_whole : whole_laid way (kind_of t) k d ≡ rewriting way base start q (t ∷ []) d
      unfolding whole_laid
      one_whole = go (turned way (kind_of t) own) refl
        where
          go : (o : Option ℕ) → turned way (kind_of t) own ≡ o → whole_laid way (kind_of t) k d ≡ rewriting way base start q (t ∷ []) d
          go None e = rw (e, whole_laid) (one_value e)
          go (Some r) e = rw (e, whole_laid) (one_done r e)

-- WHETHER A TAG STAYS RAW, of what a client writes

abbrev pub stays_by : Verdict → Bool
stays_by v = is_raw_partial v || is_raw_value v

-- the run has one of the tag's registers exactly if the tag is not outside
meets_test : (a z s e : ℕ) → (leb s z && ltb a e) ≡ not (ltb z s || leb e a)
meets_test a z s e =
    ⊎_elim
    (λ (h : z < s). rw (lt-ltb z s h, lt-leb s z h) refl)
    (λ (h : s ≤ z). ⊎_elim
    (λ (l : a < e). simp (le-ltb z s h, le-leb s z h, lt-ltb a e l, lt-leb e a l))
    (λ (l : e ≤ a). simp (le-ltb z s h, le-leb s z h, le-ltb a e l, le-leb e a l))
    (lt_or a e))
    (lt_or z s)

module _ (base start q : ℕ) {t : Tag} {d : List ℕ} {a z : ℕ} (n : KnownTag t d a z) where
  -- A tag that is not whole in the run stays raw exactly if the run has one of its registers.
  pub stays_partly : (ltb a start || leb (start + q) z) ≡ true → (leb start z && ltb a (start + q)) ≡ stays_by (verdict ToBcd start (registers_at base q d) t)
  stays_partly p =
      let rs = registers_at base q d in
      meets_test a z start (start + q)
      ∙ ⊎_elim
      (λ (o : (ltb z start || leb (start + q) a) ≡ true). rw o (sym (ap stays_by (verdict_outside ToBcd start rs t (outside_test ToBcd base start q n ∙ o)))))
      (λ (o : (ltb z start || leb (start + q) a) ≡ false).
      rw o (sym (ap stays_by (verdict_partial ToBcd start rs t (outside_test ToBcd base start q n ∙ o) (partial_test ToBcd base start q n ∙ p)))))
      (true_or (ltb z start || leb (start + q) a))

  -- A tag that is whole in it stays raw exactly if its number is outside its range.
  pub stays_whole : (ltb a start || leb (start + q) z) ≡ false → (k : ℕ) → k ≡ base + 2 * (a - start)
      → not (in_range (kind_of t) (number_of (registers_at k (registers (kind_of t)) d))) ≡ stays_by (verdict ToBcd start (registers_at base q d) t)
  stays_whole p k hk =
      let rs = registers_at base q d in
      let own = number_of (registers_at k (registers (kind_of t)) d) in
      let w = whole_run ToBcd base start q n p in
      let e = number ToBcd base start q n p k hk in
      ⊎_elim
      (λ (r : in_range (kind_of t) own ≡ true).
      let s = encode_accepts (kind_of t) own r in
      rw r (sym (ap stays_by ((done_exactly ToBcd start rs t (words_of (kind_of t) s.0)).1 (w, (s.0, rw e (turned-encoded (kind_of t) own (Some s.0) s.1), refl))))))
      (λ (r : in_range (kind_of t) own ≡ false). rw r (sym (ap stays_by ((value_exactly ToBcd start rs t).1 (w, rw e ((raw-encoded (kind_of t) own).1 r))))))
      (true_or (in_range (kind_of t) own))
