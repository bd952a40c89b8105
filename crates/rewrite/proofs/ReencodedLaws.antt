-- Which requests 06 were re-encoded, in plain words, and that the others are sent as they came.
-- Assumes nothing.
use Prim.Native.Nat.{ℕ, ◌-◌, ◌%◌, ◌≤◌, ◌<◌}
use mathlib.Core.Path.{◌≡◌, refl, ap, sym, ◌∙◌}
use mathlib.Core.Logic.{⊎_elim, ◌↔◌}
use mathlib.Core.Bool.{true, false, not, ◌||◌, false≢true, true≢false, or-true}
use mathlib.Core.List.Memᴰ
use mathlib.Core.List.{List, [], ◌∷◌, map, Memᴰ}
use Rattle.std.specs.Prelude.{Some}
use native.Mathlib.Omega.{arith}
use lib.ListN.{length, get_or}
use lib.Dec.{eqb}
use borrow.Author.Tests.{eq-eqb, eqb-true, not-false}
use Rattle.laws.specs.Bytes.{pair_at}
use Rattle.laws.specs.Digits.{digits, value as value_of}
use Rattle.laws.specs.Search.{first}
use Rattle.laws.proofs.Choice.{true_or, same_test, or_left, or_right, or_either}
use Rattle.bcd.specs.Bcd.{registers, in_range}
use Rattle.bcd.specs.Words.{words_of, number_of}
use Rattle.bcd.proofs.RoundTrip.{encode_accepts}
use Rattle.settings.specs.Grammar.{Tag}
use Rattle.settings.specs.TagWords.{kind_of, last_of, tag_of}
use Rattle.pdu.specs.declared.Table.TheVariants.{Registers}
use Rattle.pdu.specs.declared.Asked.TheVariants.{SingleWrite}
use Rattle.rewrite.specs.declared.Way.TheVariants.{ToBcd}
use Rattle.rewrite.specs.Registers.{registers_at, laid_at}
use Rattle.rewrite.specs.Rewriting.{Verdict, own_in, verdict, laid_by, is_rewritten, rewritten_from, rewriting}
use Rattle.rewrite.specs.Rewriting.Verdict.{outside, partial, value, done}
use Rattle.rewrite.specs.Frames.{forwarded, reencoded}
use Rattle.rewrite.specs.Plain.{Has, Whole}
use Rattle.rewrite.specs.inner.Lent.{TagList, reaches}
use Rattle.rewrite.proofs.RegisterLaws.{laid-registers}
use Rattle.rewrite.proofs.OrderLaws.{behind_last}
use Rattle.rewrite.proofs.TableLaws.{tag_in, owner}
use Rattle.rewrite.proofs.VerdictLaws.{whole_single, was_done, done_exactly, turned-encoded, raw-encoded}

-- a request was re-encoded exactly if some tag's verdict is that it is rewritten
reencoded_in : (tags : List Tag) (a v : ℕ) → reencoded tags a v ≡ true → (t : Tag) × Memᴰ t tags × (is_rewritten (verdict ToBcd a (v ∷ []) t) ≡ true)
unfolding reencoded
reencoded_in [] a v e = absurd (false≢true e)
reencoded_in (t ∷ ts) a v e =
    ⊎_elim
    (λ h. (t, Memᴰ.head refl, h))
    (λ h. let i = reencoded_in ts a v h in (i.0, Memᴰ.tail i.1, i.2))
    (or_either (is_rewritten (verdict ToBcd a (v ∷ []) t)) (reencoded ts a v) e)

in_reencoded : (tags : List Tag) (a v : ℕ) (t : Tag) → Memᴰ t tags → is_rewritten (verdict ToBcd a (v ∷ []) t) ≡ true → reencoded tags a v ≡ true
unfolding reencoded
in_reencoded [] a v t m e = absurd (Memᴰ.not-nil m)
in_reencoded (y ∷ ts) a v t m e =
    ⊎_elim
    (λ (q : t ≡ y). let h : is_rewritten (verdict ToBcd a (v ∷ []) y) ≡ true = rw (← q) e in rw h)
    (λ n. rw (in_reencoded ts a v t n e) (or-true (is_rewritten (verdict ToBcd a (v ∷ []) y))))
    (Memᴰ.cases_cons m)

was_rewritten : (x : Verdict) → is_rewritten x ≡ true → (ws : List ℕ) × (x ≡ done ws)
was_rewritten outside e = absurd (false≢true e)
was_rewritten partial e = absurd (false≢true e)
was_rewritten value e = absurd (false≢true e)
was_rewritten (done ws) e = (ws, refl)

-- of a run of one register, a tag that is that register has it
module _ (a v : ℕ) (t : Tag) (here : t.address ≡ a) (one : registers (kind_of t) ≡ 1) where
  pub own_one : number_of (own_in a (v ∷ []) t) ≡ v
  unfolding number_of value_of
  own_one = let z : t.address - a ≡ 0 = omega arith in rw (z, one) (omega arith)

  pub whole_one : Whole a 1 t
  whole_one = (omega arith, omega arith)

  pub has_one : Has t a
  has_one = (omega arith, omega arith)

  pub words_one : (w : ℕ) → w < 65536 → words_of (kind_of t) w ≡ w ∷ []
  unfolding words_of digits
  words_one w l = let z : w % 65536 ≡ w = omega arith in rw (one, z)

-- a tag is rewritten in a 06 exactly if it is the one register there and its range has the value
one_register : (a v : ℕ) (t : Tag)
    → (is_rewritten (verdict ToBcd a (v ∷ []) t) ≡ true) ↔ ((t.address ≡ a) × (registers (kind_of t) ≡ 1) × (in_range (kind_of t) v ≡ true))
one_register a v t = (
  λ e.
      let d = was_rewritten (verdict ToBcd a (v ∷ []) t) e in
      let w = was_done ToBcd a (v ∷ []) t d.0 d.1 in
      let s = whole_single a t w.0 in (
        s.0,
        s.1,
        ⊎_elim (λ r. r)
            (λ (r : in_range (kind_of t) v ≡ false).
            absurd (let raw = (raw-encoded (kind_of t) v).1 r in let same = own_one a v t s.0 s.1 in let z : ◌≡◌ {A = ℕ} 0 1 = cc (rw same at w.1.1, raw) in omega arith))
            (true_or (in_range (kind_of t) v)),
      ),
  λ p.
      let s = encode_accepts (kind_of t) v p.2 in
      let n = own_one a v t p.0 p.1 in
      ap is_rewritten ((done_exactly ToBcd a (v ∷ []) t (words_of (kind_of t) s.0)).1 (whole_one a v t p.0 p.1, (s.0, rw n (turned-encoded (kind_of t) v (Some s.0) s.1), refl))),
)

-- A request 06 was re-encoded exactly if a tag of one register stands at its address and has its value in its range.
pub reencoded_exactly : (tags : List Tag) (a v : ℕ)
    → (reencoded tags a v ≡ true) ↔ ((t : Tag) × Memᴰ t tags × (t.address ≡ a) × (registers (kind_of t) ≡ 1) × (in_range (kind_of t) v ≡ true))
reencoded_exactly tags a v = (
  λ e. let i = reencoded_in tags a v e in let r = (one_register a v i.0).0 i.2 in (i.0, i.1, r.0, r.1, r.2),
  λ p. in_reencoded tags a v p.0 p.1 ((one_register a v p.0).1 (p.2, p.3, p.4)),
)

-- a request that was not re-encoded goes out as it came
raw_stays : (x : Verdict) (k : ℕ) (rs : List ℕ) → is_rewritten x ≡ false → laid_by x k rs ≡ rs
unfolding laid_by
raw_stays outside k rs e = refl
raw_stays partial k rs e = refl
raw_stays value k rs e = refl
raw_stays (done ws) k rs e = absurd (true≢false e)

from-raw : (ts : List Tag) (a v : ℕ) (rs : List ℕ) → reencoded ts a v ≡ false → rewritten_from ToBcd a (v ∷ []) ts rs ≡ rs
unfolding reencoded rewritten_from
from-raw [] a v rs e = refl
from-raw (t ∷ ts) a v rs e =
    let x = verdict ToBcd a (v ∷ []) t in
    rw (raw_stays x (t.address - a) rs (or_left (is_rewritten x) (reencoded ts a v) e)) (from-raw ts a v rs (or_right (is_rewritten x) (reencoded ts a v) e))

-- A request 06 that was not re-encoded is sent as the client wrote it.
pub sent_raw : (tags : List Tag) (f : List ℕ) → ((k : ℕ) → get_or f k 0 < 256) → (a : ℕ) → reencoded tags a (pair_at f 10) ≡ false
    → (forwarded tags (SingleWrite Registers a (pair_at f 10)) f).bytes ≡ f
unfolding forwarded rewriting registers_at
sent_raw tags f bytes a e = ap (λ (rs : List ℕ). laid_at 10 rs f) (from-raw tags a (pair_at f 10) (pair_at f 10 ∷ []) e) ∙ laid-registers 10 1 f bytes

-- TAG WORDS: the first tag that does not end before the address decides

module _ (words : List ℕ) (w : TagList words) (a v : ℕ) where
  module _ (i : ℕ) (e : i ≡ first (reaches words a) (length words)) where
    not_owned : ((t : Tag) → i < length words → t ≡ tag_of (get_or words i 0) → t.address ≡ a → registers (kind_of t) ≡ 1 → in_range (kind_of t) v ≡ true → ⊥) → false ≡ reencoded (map tag_of words) a v
    not_owned never =
        ⊎_elim
        (λ (r : reencoded (map tag_of words) a v ≡ true).
        let q = (reencoded_exactly (map tag_of words) a v).0 r in
        let o = owner words w a i e q.0 q.1 (has_one a v q.0 q.2 q.3) in
        absurd (never q.0 o.0 o.1 q.2 q.3 q.4))
        (λ r. sym r)
        (true_or (reencoded (map tag_of words) a v))

    -- Where there is no such tag the request is not re-encoded,
    pub word_none : length words ≤ i → false ≡ reencoded (map tag_of words) a v
    word_none l = not_owned (λ t h q x y z. omega arith)

    -- nor where the tag is not that register alone,
    pub word_other : (not (eqb (tag_of (get_or words i 0)).address a) || not (eqb (last_of (tag_of (get_or words i 0))) a)) ≡ true → false ≡ reencoded (map tag_of words) a v
    word_other d =
        not_owned (λ t h q x y z.
        let b = behind_last t in
        let p : (tag_of (get_or words i 0)).address ≡ a = rw (← q) x in
        let l : last_of (tag_of (get_or words i 0)) ≡ a = rw (← q) (omega arith) in
        true≢false (sym d ∙ rw (eq-eqb _ _ p, eq-eqb _ _ l) refl))

    -- and where it is, exactly if the tag's range has the value.
    pub word_here : i < length words → (not (eqb (tag_of (get_or words i 0)).address a) || not (eqb (last_of (tag_of (get_or words i 0))) a)) ≡ false
        → reencoded (map tag_of words) a v ≡ in_range (kind_of (tag_of (get_or words i 0))) v
    word_here l d =
        let t = tag_of (get_or words i 0) in
        let x = not (eqb t.address a) in
        let y = not (eqb (last_of t) a) in
        let p = eqb-true t.address a (not-false (eqb t.address a) (or_left x y d)) in
        let q = eqb-true (last_of t) a (not-false (eqb (last_of t) a) (or_right x y d)) in
        let b = behind_last t in
        let one : registers (kind_of t) ≡ 1 = omega arith in
        same_test _ _
        (λ r. let x = (reencoded_exactly (map tag_of words) a v).0 r in let o = owner words w a i e x.0 x.1 (has_one a v x.0 x.2 x.3) in rw (← o.1) x.4)
        (λ r. (reencoded_exactly (map tag_of words) a v).1 (t, tag_in words w i l, p, one, r))
