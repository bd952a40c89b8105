-- A tag's verdict in plain words, and that it rests on the tag's own registers alone.
-- Assumes nothing.
use Prim.Native.Nat.{ℕ, ◌+◌, ◌≤◌, ◌<◌}
use mathlib.Core.Path.{◌≡◌, refl, ap, sym, ◌∙◌}
use mathlib.Core.Logic.{⊎_elim, ◌⊎◌, inl, inr, ◌↔◌}
use mathlib.Core.Bool.{true, false, or-true}
use Rattle.std.specs.Prelude.{Option, Some, None}
use mathlib.Core.List.{List}
use native.Mathlib.Omega.{arith}
use lib.ListN.{length}
use lib.Dec.{ltb}
use borrow.Author.Tests.{lt-ltb, le-ltb, le-leb, lt-leb, ltb-true, ltb-false, leb-true, leb-false}
use Rattle.laws.proofs.Choice.{true_or, lt_or, or_left, or_right, or_second}
use Rattle.bcd.specs.declared.Kind.{Kind}
use Rattle.bcd.specs.Bcd.{registers, in_range, encoded, decoded}
use Rattle.bcd.specs.Words.{words_of}
use Rattle.bcd.specs.Plain.{NoNumberOf}
use Rattle.bcd.proofs.RoundTrip.{encode_refuses, decode_refuses}
use Rattle.settings.specs.Grammar.{Tag}
use Rattle.settings.specs.TagWords.{kind_of, last_of}
use Rattle.rewrite.specs.declared.Way.{Way}
use Rattle.rewrite.specs.declared.Way.TheVariants.{ToBcd, ToBinary}
use Rattle.rewrite.specs.Rewriting.{turned, Verdict, is_outside, is_partial, own_in, verdict}
use Rattle.rewrite.specs.Rewriting.Verdict.{outside, partial, value, done}
use Rattle.rewrite.specs.Plain.{Has, InRun, Whole, turned_in}
use Rattle.bcd.proofs.Words.{registers-least}
use Rattle.rewrite.proofs.OrderLaws.{first_last, behind_last}

-- WHERE A TAG LIES, by the two tests

module _ (start n : ℕ) (t : Tag) where
  not_outside : is_outside start n t ≡ false → (start ≤ last_of t) × (t.address < start + n)
  not_outside o =
      (ltb-false (last_of t) start (or_left (ltb (last_of t) start) _ o), leb-false (start + n) t.address (or_right (ltb (last_of t) start) _ o))

  -- A tag that the second test lets pass is whole in the run.
  pub not_partial : is_partial start n t ≡ false → Whole start n t
  not_partial p =
      (ltb-false t.address start (or_left (ltb t.address start) _ p), leb-false (start + n) (last_of t) (or_right (ltb t.address start) _ p))

  whole_tests : Whole start n t → (is_outside start n t ≡ false) × (is_partial start n t ≡ false)
  whole_tests w =
      let l = first_last t in (
        rw (le-ltb (last_of t) start (omega (arith, w.0))) (lt-leb (start + n) t.address (omega (arith, w.1))),
        rw (le-ltb t.address start w.0) (lt-leb (start + n) (last_of t) w.1),
      )

  -- A tag is outside the run, partly inside, or whole in it.
  pub cover : (is_outside start n t ≡ true) ⊎ (((is_outside start n t ≡ false) × (is_partial start n t ≡ true)) ⊎ Whole start n t)
  cover =
      ⊎_elim
      inl
      (λ (o : is_outside start n t ≡ false). inr (⊎_elim (λ p. inl (o, p)) (λ p. inr (not_partial p)) (true_or (is_partial start n t))))
      (true_or (is_outside start n t))

  -- a tag outside has no address in the run, and one that is not outside has one, if the run has any
  outside_none : is_outside start n t ≡ true → (x : ℕ) → Has t x → InRun start n x → ⊥
  outside_none o x h r =
      ⊎_elim
      (λ (a : ltb (last_of t) start ≡ true). omega (arith, ltb-true (last_of t) start a, h.1, r.0))
      (λ (a : ltb (last_of t) start ≡ false). omega (arith, leb-true (start + n) t.address (or_second (ltb (last_of t) start) _ a o), h.0, r.1))
      (true_or (ltb (last_of t) start))

  inside_some : 1 ≤ n → is_outside start n t ≡ false → (x : ℕ) × Has t x × InRun start n x
  inside_some h o =
      let m = not_outside o in
      let l = first_last t in
      ⊎_elim
      (λ (a : start < t.address). (t.address, (omega arith, l), (omega arith, m.1)))
      (λ (a : t.address ≤ start). (start, (a, m.0), (omega arith, omega arith)))
      (lt_or start t.address)

  -- a tag that is not whole has an address that is not in the run
  partial_some : is_partial start n t ≡ true → (x : ℕ) × Has t x × (InRun start n x → ⊥)
  partial_some p =
      let l = first_last t in
      ⊎_elim
      (λ (a : ltb t.address start ≡ true). (t.address, (omega arith, l), λ r. omega (arith, ltb-true t.address start a, r.0)))
      (λ (a : ltb t.address start ≡ false).
      (last_of t, (l, omega arith), λ r. omega (arith, leb-true (start + n) (last_of t) (or_second (ltb t.address start) _ a p), r.1)))
      (true_or (ltb t.address start))

  -- Every register of a tag is in the run exactly if every address of the tag is.
  pub whole_exactly : Whole start n t ↔ ((x : ℕ) → Has t x → InRun start n x)
  whole_exactly = (
    λ w x h. (omega (arith, w.0, h.0), omega (arith, w.1, h.1)),
    λ f. let l = first_last t in ((f t.address (omega arith, l)).0, (f (last_of t) (l, omega arith)).1),
  )

-- In a run of one register, as 06 carries it, a tag is whole only if it has that register and no other.
pub whole_single : (start : ℕ) (t : Tag) → Whole start 1 t → (t.address ≡ start) × (registers (kind_of t) ≡ 1)
whole_single start t w = let b = behind_last t in let l = registers-least (kind_of t) in (omega (arith, w.0, w.1), omega (arith, w.0, w.1))

-- THE VERDICT, by where the tag lies

-- of a tag that is whole in the run, by what becomes of its number
abbrev pub judged : Kind → Option ℕ → Verdict
judged k o = elim o [ None ↦ value | Some n ↦ done (words_of k n) ]

-- verdicts told apart
rank : Verdict → ℕ
rank outside = 0
rank partial = 1
rank value = 2
rank (done ws) = 3

rank_judged : (k : Kind) (o : Option ℕ) → 2 ≤ rank (judged k o)
unfolding rank
rank_judged k None = omega arith
rank_judged k (Some n) = omega arith

judged_value : (k : Kind) (o : Option ℕ) → judged k o ≡ value → o ≡ None
judged_value k None e = refl
judged_value k (Some n) e = absurd (let z : ◌≡◌ {A = ℕ} 0 1 = cc in omega arith)

judged_done : (k : Kind) (o : Option ℕ) (ws : List ℕ) → judged k o ≡ done ws → (n : ℕ) × (o ≡ Some n) × (ws ≡ words_of k n)
judged_done k None ws e = absurd (let z : ◌≡◌ {A = ℕ} 0 1 = cc in omega arith)
judged_done k (Some n) ws e = (n, refl, cc)

module _ (way : Way) (start : ℕ) (rs : List ℕ) (t : Tag) where
  -- A tag that the first test catches is outside.
  pub verdict_outside : is_outside start (length rs) t ≡ true → verdict way start rs t ≡ outside
  unfolding verdict
  verdict_outside o = rw o

  -- So is a tag that ends before the run,
  pub verdict-before : last_of t < start → verdict way start rs t ≡ outside
  verdict-before h = verdict_outside (rw (lt-ltb (last_of t) start h) refl)

  -- and one that begins behind it.
  pub verdict-behind : start + length rs ≤ t.address → verdict way start rs t ≡ outside
  verdict-behind h = verdict_outside (rw (le-leb (start + length rs) t.address h) (or-true (ltb (last_of t) start)))

  -- A tag that only the second test catches is raw for partial cover, whatever its registers hold.
  pub verdict_partial : is_outside start (length rs) t ≡ false → is_partial start (length rs) t ≡ true → verdict way start rs t ≡ partial
  unfolding verdict
  verdict_partial o p = rw o (rw p refl)

  -- A tag that is whole in the run is judged by its number.
  pub verdict-whole : Whole start (length rs) t → verdict way start rs t ≡ judged (kind_of t) (turned_in way start rs t)
  unfolding verdict
  verdict-whole w = let s = whole_tests start (length rs) t w in rw s.0 (rw s.1 refl)

  -- and back
  was_outside : verdict way start rs t ≡ outside → is_outside start (length rs) t ≡ true
  unfolding rank
  was_outside e =
      ⊎_elim
      (λ o. o)
      (⊎_elim
      (λ p. absurd (omega (arith, ap rank (sym (verdict_partial p.0 p.1) ∙ e))))
      (λ w. absurd (omega (arith, rank_judged (kind_of t) (turned_in way start rs t), ap rank (sym (verdict-whole w) ∙ e)))))
      (cover start (length rs) t)

  was_partial : verdict way start rs t ≡ partial → (is_outside start (length rs) t ≡ false) × (is_partial start (length rs) t ≡ true)
  unfolding rank
  was_partial e =
      ⊎_elim
      (λ o. absurd (omega (arith, ap rank (sym (verdict_outside o) ∙ e))))
      (⊎_elim (λ p. p) (λ w. absurd (omega (arith, rank_judged (kind_of t) (turned_in way start rs t), ap rank (sym (verdict-whole w) ∙ e)))))
      (cover start (length rs) t)

  was_judged : (v : Verdict) → 2 ≤ rank v → verdict way start rs t ≡ v → Whole start (length rs) t × (judged (kind_of t) (turned_in way start rs t) ≡ v)
  unfolding rank
  was_judged v l e =
      ⊎_elim
      (λ o. absurd (omega (arith, ap rank (sym (verdict_outside o) ∙ e))))
      (⊎_elim (λ p. absurd (omega (arith, ap rank (sym (verdict_partial p.0 p.1) ∙ e)))) (λ w. (w, sym (verdict-whole w) ∙ e)))
      (cover start (length rs) t)

  was_value : verdict way start rs t ≡ value → Whole start (length rs) t × (turned_in way start rs t ≡ None)
  unfolding rank
  was_value e = let j = was_judged value (omega arith) e in (j.0, judged_value (kind_of t) (turned_in way start rs t) j.1)

  -- A tag that is done is whole in the run, and its words are those of its number rewritten.
  pub was_done : (ws : List ℕ) → verdict way start rs t ≡ done ws → Whole start (length rs) t × ((n : ℕ) × (turned_in way start rs t ≡ Some n) × (ws ≡ words_of (kind_of t) n))
  unfolding rank
  was_done ws e = let j = was_judged (done ws) (omega arith) e in (j.0, judged_done (kind_of t) (turned_in way start rs t) ws j.1)

  -- THE VERDICT IN PLAIN WORDS

  -- In a run that has a register a tag is outside exactly if none of its addresses is in the run.
  pub outside_exactly : 1 ≤ length rs → (verdict way start rs t ≡ outside) ↔ ((x : ℕ) → Has t x → InRun start (length rs) x → ⊥)
  outside_exactly h = (
    λ e. outside_none start (length rs) t (was_outside e),
    λ f. verdict_outside (⊎_elim (λ o. o) (λ o. let s = inside_some start (length rs) t h o in absurd (f s.0 s.1 s.2)) (true_or (is_outside start (length rs) t))),
  )

  -- In such a run a tag is raw for partial cover exactly if one of its addresses is in the run and another is not.
  pub partial_exactly : 1 ≤ length rs
      → (verdict way start rs t ≡ partial) ↔ (((x : ℕ) × Has t x × InRun start (length rs) x) × ((x : ℕ) × Has t x × (InRun start (length rs) x → ⊥)))
  partial_exactly h = (
    λ e. let p = was_partial e in (inside_some start (length rs) t h p.0, partial_some start (length rs) t p.1),
    λ s. ⊎_elim
        (λ o. absurd (outside_none start (length rs) t o s.0.0 s.0.1 s.0.2))
        (⊎_elim (λ p. verdict_partial p.0 p.1) (λ w. absurd (s.1.2 ((whole_exactly start (length rs) t).0 w s.1.0 s.1.1))))
        (cover start (length rs) t),
  )

  -- A tag is raw for its value exactly if it is whole in the run and its number cannot be rewritten.
  pub value_exactly : (verdict way start rs t ≡ value) ↔ (Whole start (length rs) t × (turned_in way start rs t ≡ None))
  value_exactly = (was_value, λ s. verdict-whole s.0 ∙ ap (judged (kind_of t)) s.1)

  -- A tag is done exactly if it is whole in the run and its number is rewritten, to the words of what that gives.
  pub done_exactly : (ws : List ℕ)
      → (verdict way start rs t ≡ done ws) ↔ (Whole start (length rs) t × ((n : ℕ) × (turned_in way start rs t ≡ Some n) × (ws ≡ words_of (kind_of t) n)))
  done_exactly ws = (was_done ws, λ s. verdict-whole s.0 ∙ ap (judged (kind_of t)) s.1.1 ∙ ap done (sym s.1.2))

-- The verdict rests on the run's length and on the tag's own registers.
pub verdict_own : (way : Way) (start : ℕ) (rs rs' : List ℕ) (t : Tag) → length rs ≡ length rs'
    → (Whole start (length rs) t → own_in start rs t ≡ own_in start rs' t)
    → verdict way start rs t ≡ verdict way start rs' t
verdict_own way start rs rs' t e f =
    ⊎_elim
    (λ o. verdict_outside way start rs t o ∙ sym (verdict_outside way start rs' t (rw e at o)))
    (⊎_elim
    (λ p. verdict_partial way start rs t p.0 p.1 ∙ sym (verdict_partial way start rs' t (rw e at p.0) (rw e at p.1)))
    (λ w. verdict-whole way start rs t w ∙ rw (f w) (sym (verdict-whole way start rs' t (rw e at w)))))
    (cover start (length rs) t)

-- WHAT BECOMES OF A NUMBER, in plain words

-- What a number is encoded to is what it is rewritten to, towards BCD.
pub turned-encoded : (k : Kind) (n : ℕ) (o : Option ℕ) → encoded k n ≡ o → turned ToBcd k n ≡ o
unfolding turned
turned-encoded k n o e = e

-- What a number is decoded to is what it is rewritten to, towards binary.
pub turned-decoded : (k : Kind) (n : ℕ) (o : Option ℕ) → decoded k n ≡ o → turned ToBinary k n ≡ o
unfolding turned
turned-decoded k n o e = e

-- Towards BCD a number stays raw exactly if it is outside the kind's range.
pub raw-encoded : (k : Kind) (n : ℕ) → (turned ToBcd k n ≡ None) ↔ (in_range k n ≡ false)
unfolding turned
raw-encoded k n = encode_refuses k n

-- Towards binary a number stays raw exactly if it is no number of the kind.
pub raw-decoded : (k : Kind) (n : ℕ) → (turned ToBinary k n ≡ None) ↔ NoNumberOf k n
unfolding turned
raw-decoded k n = decode_refuses k n
