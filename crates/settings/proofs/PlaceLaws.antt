-- At each place of a text the grammar has the line that comes next in plain words, with the plain rule.
-- Assumes nothing.
use Prim.Native.Nat.{ℕ, zero, suc, ◌+◌, ◌*◌, ◌≤◌, ◌<◌}
use mathlib.Core.Path.{◌≡◌, refl, ap, sym, subst, ◌∙◌}
use mathlib.Core.Logic.{◌↔◌, ◌⊎◌, inl, inr, ⊎_elim}
use mathlib.Core.Bool.{true}
use mathlib.Core.List.{List, [], ◌∷◌, ◌++◌, append_assoc, append-nil}
use native.Mathlib.Omega.{arith}
use native.Mathlib.Nat.{eq_of_mul-eq-mul_right}
use lib.ListN.{length, get_or, take, length-append, get_or-append}
use lib.Seq.{get_or_at, get_or-append-add}
use lib.Dec.{ltb}
use borrow.Author.Tests.{lt-ltb, ltb-true}
use Rattle.laws.proofs.TestLaws.{holds_and}
use Rattle.settings.specs.Grammar.{Line, last_register, ascends, timeout_key, join_key, tags_key, addr_key, width_key, sign_key, ttl_key, strict_key, right_timeout, right_join, right_tags, right_addr, right_width, right_sign, right_ttl, right_strict, head_lines, tag_lines}
use Rattle.settings.specs.Plain.{Above, FreeFrom, Right, AllLines}
use Rattle.settings.proofs.ValidLaws.{timeout_exactly, join_exactly, tags_exactly, Widths, width_exactly, Signs, sign_exactly, ttl_exactly, strict_exactly, above_exactly}
use Rattle.settings.proofs.PlainLines.{keys, key_at, InTag, tag_follows}

-- the line l is the next one below these numbers, and its rule is the plain one
pub record Place (l : Line) (above prior own : List ℕ) : Type 0 where
  pub key : l.key ≡ key_at above
  pub rule : (n : ℕ) → (l.right prior own n ≡ true) ↔ Right above l.key n
  pub unfinished : AllLines above → ⊥

-- these lines are the next ones, and behind them P is known of the numbers above and of those that were read
abbrev pub Row : (P : List ℕ → List ℕ → Type 0) → List Line → (above prior own : List ℕ) → Type 0
Row P [] above prior own = P above own
Row P (l ∷ ls) above prior own = Place l above prior own × ((n : ℕ) → Right above l.key n → Row P ls (above ++ (n ∷ [])) prior (own ++ (n ∷ [])))

-- the lines before the tags

timeout_rule : (v n : ℕ) → (right_timeout n ≡ true) ↔ Right (v ∷ []) timeout_key n
timeout_rule v n = (λ e. let w = (timeout_exactly n).0 e in Right.timeout w.0 w.1, λ g. (timeout_exactly n).1 (said g))
  where
    said : Right (v ∷ []) timeout_key n → (100 ≤ n) × (n ≤ 60000)
    said (Right.timeout l m) = (l, m)

join_rule : (v t n : ℕ) → (right_join n ≡ true) ↔ Right (v ∷ t ∷ []) join_key n
join_rule v t n = (λ e. Right.join ((join_exactly n).0 e), λ g. (join_exactly n).1 (said g))
  where
    said : Right (v ∷ t ∷ []) join_key n → (n ≡ 0) ⊎ (n ≡ 1)
    said (Right.join e) = e

tags_rule : (v t j n : ℕ) → (right_tags n ≡ true) ↔ Right (v ∷ t ∷ j ∷ []) tags_key n
tags_rule v t j n = (λ e. Right.tags ((tags_exactly n).0 e), λ g. (tags_exactly n).1 (said g))
  where
    said : Right (v ∷ t ∷ j ∷ []) tags_key n → n ≤ 256
    said (Right.tags l) = l

-- the numbers above are the version's and those of the lines before the tags
abbrev pub Headed : ℕ → List ℕ → List ℕ → Type 0
Headed v above own = (t : ℕ) × (j : ℕ) × (m : ℕ) × (own ≡ t ∷ j ∷ m ∷ []) × (above ≡ v ∷ t ∷ j ∷ m ∷ [])

pub head_row : (v : ℕ) → Row (Headed v) head_lines (v ∷ []) [] []
unfolding key_at
head_row v = (
  record { key = refl; rule = timeout_rule v; unfinished = λ a. omega (arith, a.0) },
  λ t g. (
    record { key = refl; rule = join_rule v t; unfinished = λ a. omega (arith, a.0) },
    λ j h. (record { key = refl; rule = tags_rule v t j; unfinished = λ a. omega (arith, a.0) }, λ m k. (t, j, m, refl, refl)),
  ),
)

-- the lines of the tags

ascends_last : (prior : List ℕ) (n : ℕ) → 1 ≤ length prior → ascends prior n ≡ ltb (last_register prior) n
unfolding ascends
ascends_last [] n l = absurd (omega arith)
ascends_last (a ∷ ns) n l = refl

-- a tag's numbers so far: its width, if there is one, is a width
abbrev pub Told : List ℕ → Type 0
Told own = 2 ≤ length own → (get_or own 1 0 ≡ 16) ⊎ (get_or own 1 0 ≡ 32)

told_on : (own : List ℕ) (n : ℕ) → 2 ≤ length own → Told own → Told (own ++ (n ∷ []))
told_on own n l w = λ h. rw (get_or-append own (n ∷ []) 0 1 l) (w l)

-- v, t, j and m are the numbers of the lines before the tags
module _ (v t j m : ℕ) where
  abbrev pub all : List ℕ → List ℕ
  all ms = v ∷ t ∷ j ∷ m ∷ ms

  -- the tag i − 1 has the numbers `prior`, the last of `start`
  pub record Before (i : ℕ) (prior start : List ℕ) : Type 0 where
    pub above : List ℕ
    pub whole : start ≡ above ++ prior
    pub long : length above ≡ i * (v + 1)
    pub two : 2 ≤ length prior
    pub told : Told prior

  -- the tags up to i have the numbers `start`, and the last of them has `prior`
  pub record Begun (i : ℕ) (prior start : List ℕ) : Type 0 where
    pub long : length start ≡ i * (v + 1)
    pub first : i ≡ 0 → prior ≡ []
    pub later : (h : ℕ) → i ≡ h + 1 → Before h prior start

  -- of the tag i, s lines have been read, with the numbers `own`
  record Inside (i s : ℕ) (prior start own : List ℕ) : Type 0 where
    within : i < m
    line : s ≤ v
    begun : Begun i prior start
    count : length own ≡ s
    told : Told own

  inside : {i s : ℕ} {prior start own : List ℕ} → Inside i s prior start own → InTag (all (start ++ own)) i s
  inside {start = start} {own = own} p =
      record { within = p.within; line = omega (arith, p.line); long = omega (arith, length-append start own, p.begun.long, p.count) }

  own_at : (start own : List ℕ) (p k : ℕ) → p ≡ length (all start) + k → get_or (all (start ++ own)) p 0 ≡ get_or own k 0
  own_at start own p k e = rw e (get_or-append-add (all start) own k 0)

  prior_at : {i : ℕ} {prior start : List ℕ} → Before i prior start → (own : List ℕ) (p k : ℕ) → p ≡ 4 + i * (v + 1) + k → k < 2 → get_or (all (start ++ own)) p 0 ≡ get_or prior k 0
  prior_at {prior = prior} b own p k e l =
      ap (λ ms. get_or (all ms) p 0) (ap (◌++ own) b.whole ∙ append_assoc b.above prior own)
      ∙ own_at b.above (prior ++ own) p k (omega (arith, b.long))
      ∙ get_or-append prior own 0 k (omega (arith, b.two))

  free_rule : (i : ℕ) (prior start own : List ℕ) (n : ℕ) → Begun i prior start → (ascends prior n ≡ true) ↔ FreeFrom (all (start ++ own)) i n
  unfolding ascends
  free_rule i prior start own n b = (there, here i b)
    where
      rule : (h : ℕ) → Before h prior start → (ascends prior n ≡ true) ↔ Above (get_or (all (start ++ own)) (4 + h * (v + 1)) 0) (get_or (all (start ++ own)) (4 + h * (v + 1) + 1) 0) n
      rule h d =
          rw (ascends_last prior n (omega (arith, d.two)), prior_at d own (4 + h * (v + 1)) 0 (omega arith) (omega arith), prior_at d own (4 + h * (v + 1) + 1) 1 refl (omega arith))
          (above_exactly (get_or prior 0 0) (get_or prior 1 0) n (d.told d.two))

      there : ascends prior n ≡ true → FreeFrom (all (start ++ own)) i n
      there e h z = (rule h (b.later h z)).0 e

      here : (i : ℕ) → Begun i prior start → FreeFrom (all (start ++ own)) i n → ascends prior n ≡ true
      here zero b f = rw (b.first refl)
      here (suc h) b f = let z : suc h ≡ h + 1 = omega arith in (rule h (b.later h z)).1 (f h z)

  addr_rule : {i : ℕ} {prior start own : List ℕ} → Inside i 0 prior start own → (n : ℕ) → (right_addr prior n ≡ true) ↔ Right (all (start ++ own)) addr_key n
  addr_rule {i} {prior} {start} {own} p n = (λ e. so (holds.0 e), λ g. holds.1 (said g))
    where
      holds : (right_addr prior n ≡ true) ↔ ((n < 65536) × FreeFrom (all (start ++ own)) i n)
      holds = holds_and (ltb n 65536) (ascends prior n) (ltb-true n 65536, lt-ltb n 65536) (free_rule i prior start own n p.begun)

      so : (n < 65536) × FreeFrom (all (start ++ own)) i n → Right (all (start ++ own)) addr_key n
      so w = Right.addr {ns = all (start ++ own)} {n = n} i p.within (omega (arith, (inside p).long)) (omega (arith, w.0)) w.1

      said : Right (all (start ++ own)) addr_key n → (n < 65536) × FreeFrom (all (start ++ own)) i n
      said (Right.addr h l e s f) =
          let same : i ≡ h = eq_of_mul-eq-mul_right (v + 1) (omega arith) i h (omega (arith, (inside p).long)) in
          (omega arith, λ k z. f k (sym same ∙ z))

  width_rule : {i : ℕ} {prior start own : List ℕ} → Inside i 1 prior start own → (n : ℕ) → (right_width own n ≡ true) ↔ Right (all (start ++ own)) width_key n
  width_rule {i} {prior} {start} {own} p n = (λ e. so ((width_exactly own n).0 e), λ g. (width_exactly own n).1 (said g))
    where
      so : Widths (get_or own 0 0) n → Right (all (start ++ own)) width_key n
      so (inl e) = Right.width {ns = all (start ++ own)} i p.within (inside p).long (inl e)
      so (inr w) = Right.width {ns = all (start ++ own)} i p.within (inside p).long (inr (w.0, omega (arith, w.1, own_at start own (4 + i * (v + 1)) 0 (omega (arith, p.begun.long)))))

      said : Right (all (start ++ own)) width_key n → Widths (get_or own 0 0) n
      said (Right.width h l e (inl w)) = inl w
      said (Right.width h l e (inr w)) = inr (w.0, omega (arith, w.1, own_at start own (4 + h * (v + 1)) 0 (omega (arith, length-append start own, p.count))))

  width-told : {ns : List ℕ} (own : List ℕ) {n : ℕ} → length own ≡ 1 → Right ns width_key n → Told (own ++ (n ∷ []))
  width-told own c (Right.width {n = n} i l e r) = λ h. rw (get_or_at own n [] 0 1 c) (⊎_elim (λ (w : n ≡ 16). inl w) (λ w. inr w.0) r)

  sign_rule : {i : ℕ} {prior start own : List ℕ} → Inside i 2 prior start own → (n : ℕ) → (right_sign own n ≡ true) ↔ Right (all (start ++ own)) sign_key n
  sign_rule {i} {prior} {start} {own} p n = (λ e. so ((sign_exactly own n).0 e), λ g. (sign_exactly own n).1 (said g))
    where
      so : Signs (get_or own 1 0) n → Right (all (start ++ own)) sign_key n
      so (inl e) = Right.sign {ns = all (start ++ own)} i p.within p.line (inside p).long (inl e)
      so (inr w) = Right.sign {ns = all (start ++ own)} i p.within p.line (inside p).long (inr (w.0, own_at start own (4 + i * (v + 1) + 1) 1 (omega (arith, p.begun.long)) ∙ w.1))

      said : Right (all (start ++ own)) sign_key n → Signs (get_or own 1 0) n
      said (Right.sign h l q e (inl w)) = inl w
      said (Right.sign h l q e (inr w)) = inr (w.0, sym (own_at start own (4 + h * (v + 1) + 1) 1 (omega (arith, length-append start own, p.count))) ∙ w.1)

  ttl_rule : {i : ℕ} {prior start own : List ℕ} → Inside i 3 prior start own → (n : ℕ) → (right_ttl n ≡ true) ↔ Right (all (start ++ own)) ttl_key n
  ttl_rule {i} {prior} {start} {own} p n = (λ e. Right.ttl {ns = all (start ++ own)} i p.within p.line (inside p).long ((ttl_exactly n).0 e), λ g. (ttl_exactly n).1 (said g))
    where
      said : Right (all (start ++ own)) ttl_key n → n ≤ 60000
      said (Right.ttl h l q e w) = w

  strict_rule : {i : ℕ} {prior start own : List ℕ} → Inside i 4 prior start own → (n : ℕ) → (right_strict n ≡ true) ↔ Right (all (start ++ own)) strict_key n
  strict_rule {i} {prior} {start} {own} p n = (λ e. Right.strict {ns = all (start ++ own)} i p.within p.line (inside p).long ((strict_exactly n).0 e), λ g. (strict_exactly n).1 (said g))
    where
      said : Right (all (start ++ own)) strict_key n → n ≤ 1
      said (Right.strict h l q e w) = w

  -- the line s of a tag: its key, its rule, and a width that stays one
  record Step (s : ℕ) (l : Line) : Type 0 where
    key : l.key ≡ get_or keys (4 + s) []
    rule : {i : ℕ} {prior start own : List ℕ} → Inside i s prior start own → (n : ℕ) → (l.right prior own n ≡ true) ↔ Right (all (start ++ own)) l.key n
    told : {i : ℕ} {prior start own : List ℕ} → Inside i s prior start own → (n : ℕ) → Right (all (start ++ own)) l.key n → Told (own ++ (n ∷ []))

  abbrev Steps : ℕ → List Line → Type 0
  Steps s [] = Unit {0}
  Steps s (l ∷ ls) = Step s l × Steps (suc s) ls

  tag-steps : Steps 0 tag_lines
  tag-steps = (
    record { key = refl; rule = addr_rule; told = λ {own = own} p n g h. absurd (omega (arith, length-append own (n ∷ []), p.count)) },
    (
      record { key = refl; rule = width_rule; told = λ {own = own} p n g. width-told own p.count g },
      (
        record { key = refl; rule = sign_rule; told = λ {own = own} p n g. told_on own n (omega (arith, p.count)) p.told },
        (
          record { key = refl; rule = ttl_rule; told = λ {own = own} p n g. told_on own n (omega (arith, p.count)) p.told },
          (record { key = refl; rule = strict_rule; told = λ {own = own} p n g. told_on own n (omega (arith, p.count)) p.told }, tt),
        ),
      ),
    ),
  )

  -- behind its last line the tag's numbers stand behind those of the tags before it, and it is the one before the next
  pub record Done (i : ℕ) (start above own : List ℕ) : Type 0 where
    pub whole : above ≡ all (start ++ own)
    pub count : length own ≡ v + 1
    pub begun : Begun (suc i) own (start ++ own)

  tag_end : {i : ℕ} {prior start own : List ℕ} → 1 ≤ v → Begun i prior start → length own ≡ v + 1 → Told own → Begun (suc i) own (start ++ own)
  tag_end {i} {prior} {start} {own} u b c w =
      record {
        long = simp length-append (omega (arith, b.long));
        first = λ z. absurd (omega arith);
        later = λ h z. let same : i ≡ h = omega arith in record { above = start; whole = refl; long = rw same at b.long; two = omega arith; told = w };
      }

  tag-row : 1 ≤ v → (k s i : ℕ) (ls : List Line) (prior start own : List ℕ) → Steps s ls → k + s ≡ v + 1 → k ≤ length ls → i < m → Begun i prior start → length own ≡ s → Told own
      → Row (Done i start) (take k ls) (all (start ++ own)) prior own
  tag-row u zero s i ls prior start own f e z l b c w = record { whole = refl; count = omega arith; begun = tag_end u b (omega arith) w }
  tag-row u (suc k) s i [] prior start own f e z l b c w = absurd (omega arith)
  tag-row u (suc k) s i (x ∷ ls) prior start own f e z l b c w =
      let p : Inside i s prior start own = record { within = l; line = omega arith; begun = b; count = c; told = w } in
      let next = tag_follows (all (start ++ own)) i s (inside p) in (
        record { key = f.0.key ∙ next.0; rule = f.0.rule p; unfinished = next.1 },
        λ n g.
            rw (append_assoc start own (n ∷ []))
            (tag-row u k (suc s) i ls prior start (own ++ (n ∷ [])) f.1 (omega arith) (omega arith) l b (simp length-append (omega arith)) (f.0.told p n g)),
      )

  -- the next tag's lines
  pub tag_lines_lem : (i : ℕ) (prior start : List ℕ) → 1 ≤ v → v < length tag_lines → i < m → Begun i prior start → Row (Done i start) (take (suc v) tag_lines) (all start) prior []
  tag_lines_lem i prior start u most l b =
      subst (λ ms. Row (Done i start) (take (suc v) tag_lines) (all ms) prior []) (append-nil start)
      (tag-row u (suc v) 0 i tag_lines prior start [] tag-steps (omega arith) (omega arith) l b refl (λ z. absurd (omega arith)))
