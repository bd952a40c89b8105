-- What right lines tell: tags that were read of lines have the lines' numbers, one value fits the numbers of a text, and the boundary's struct of that value has them place by place.
-- Assumes nothing.
use Prim.Native.Nat.{ℕ, zero, suc, ◌+◌, ◌*◌, ◌≤◌, ◌<◌}
use mathlib.Core.Path.{◌≡◌, refl, ap, sym, ◌∙◌}
use mathlib.Core.Logic.{⊎_elim}
use mathlib.Core.List.{List, [], ◌∷◌, ◌++◌}
use native.Mathlib.Omega.{arith}
use native.Mathlib.Nat.{eq_of_mul-eq-mul_right}
use lib.ListN.{length, get_or, length-append, get_or-append, get_or-eq_default}
use lib.Seq.{get_or-append-add, ext_get_or}
use Rattle.laws.specs.Lists.{tab}
use Rattle.laws.proofs.Choice.{lt_or}
use Rattle.laws.proofs.ListLaws.{get_d_tab}
use Rattle.settings.specs.Grammar.{Tag, Value, tag_numbers, tag_from, value_from, tag_lines}
use Rattle.settings.specs.Plain.{AllLines, Reads, ReadsTo}
use Rattle.settings.specs.Values.{settings_of}
use Rattle.settings.proofs.ValueLaws.{tag_ext, value_ext, blank, column_at, column_unused, column_places}

-- these tags were read of lines with these numbers, n lines a tag
pub data Tagged (n : ℕ) : List Tag → List ℕ → Type 0 where
  none : Tagged n [] []
  more : {ts : List Tag} {ms : List ℕ} (own : List ℕ) → length own ≡ n → Tagged n ts ms → Tagged n (tag_from own ∷ ts) (own ++ ms)

pub tagged_long : {n : ℕ} {ts : List Tag} {ms : List ℕ} → Tagged n ts ms → length ms ≡ length ts * n
tagged_long none = omega arith
tagged_long (more {ms = ms} own c g) = omega (arith, length-append own ms, tagged_long g)

-- the numbers of one of the tags: those that were read, and 0 for a line that the tag does not have
numbers-told : (own : List ℕ) (s : ℕ) → length own ≤ length tag_lines → get_or (tag_numbers (tag_from own)) s 0 ≡ get_or own s 0
unfolding tab
numbers-told own s few =
    let all : tag_numbers (tag_from own) ≡ tab (length tag_lines) (λ k. get_or own k 0) = refl in
    ⊎_elim
    (λ (h : s < length tag_lines). ap (λ ns. get_or ns s 0) all ∙ get_d_tab (length tag_lines) (λ k. get_or own k 0) s 0 h)
    (λ (h : length tag_lines ≤ s). get_or-eq_default (tag_numbers (tag_from own)) 0 h ∙ sym (get_or-eq_default own 0 (omega arith)))
    (lt_or s (length tag_lines))

-- and where they stand
record Stands (n : ℕ) (ms : List ℕ) (i : ℕ) (t : Tag) : Type 0 where
  line : (s : ℕ) → s < n → get_or (tag_numbers t) s 0 ≡ get_or ms (i * n + s) 0
  none : (s : ℕ) → n ≤ s → get_or (tag_numbers t) s 0 ≡ 0

stands : {n : ℕ} {ts : List Tag} {ms : List ℕ} → n ≤ length tag_lines → Tagged n ts ms → (i : ℕ) (d : Tag) → i < length ts → Stands n ms i (get_or ts i d)
stands few none i d l = absurd (omega arith)
stands {n} few (more {ms = ms} own c g) zero d l =
    record {
      line = λ s h. let e : zero * n + s ≡ s = omega arith in numbers-told own s (omega arith) ∙ rw e (sym (get_or-append own ms 0 s (omega arith)));
      none = λ s h. numbers-told own s (omega arith) ∙ get_or-eq_default own 0 (omega arith);
    }
stands {n} few (more {ms = ms} own c g) (suc i) d l =
    let w = stands few g i d (omega arith) in
    record {
      line = λ s h. let e : suc i * n + s ≡ length own + (i * n + s) = omega arith in w.line s h ∙ rw e (sym (get_or-append-add own ms (i * n + s) 0));
      none = w.none;
    }

-- What all lines tell: `heads` are the numbers of the lines 2 to 4, and `ms` those of the tags' lines.
pub reads : (v t j m : ℕ) (heads ms : List ℕ) (ts : List Tag) → 1 ≤ v → v < length tag_lines → heads ≡ t ∷ j ∷ m ∷ [] → Tagged (v + 1) ts ms → AllLines (v ∷ t ∷ j ∷ m ∷ ms)
    → Reads (v ∷ t ∷ j ∷ m ∷ ms) (value_from heads ts)
reads v t j m heads ms ts least most e g a =
    record {
      timeout = ap (λ ns. get_or ns 0 0) e;
      join = ap (λ ns. get_or ns 1 0) e;
      many = many;
      address = λ i d l. line i 0 (4 + i * (v + 1)) d l (omega arith) (omega arith);
      width = λ i d l. line i 1 (4 + i * (v + 1) + 1) d l (omega arith) (omega arith);
      unsigned = λ z i d l. (at i d l).none 2 (omega arith);
      signed = λ z i d l. line i 2 (4 + i * (v + 1) + 2) d l (omega arith) (omega arith);
      uncached = λ z i d l. (at i d l).none 3 (omega arith);
      cached = λ z i d l. line i 3 (4 + i * (v + 1) + 3) d l (omega arith) (omega arith);
      lenient = λ z i d l. (at i d l).none 4 (omega arith);
      strict = λ z i d l. line i 4 (4 + i * (v + 1) + 4) d l (omega arith) (omega arith);
    }
  where
    many : length ts ≡ m
    many = eq_of_mul-eq-mul_right (v + 1) (omega arith) (length ts) m (omega (arith, tagged_long g, a.1))

    at : (i : ℕ) (d : Tag) → i < m → Stands (v + 1) ms i (get_or ts i d)
    at i d l = stands (omega arith) g i d (omega (arith, many))

    line : (i s p : ℕ) (d : Tag) → i < m → s < v + 1 → p ≡ 4 + (i * (v + 1) + s) → get_or (tag_numbers (get_or ts i d)) s 0 ≡ get_or (v ∷ t ∷ j ∷ m ∷ ms) p 0
    line i s p d l h q = (at i d l).line s h ∙ rw q (sym (get_or-append-add (v ∷ t ∷ j ∷ m ∷ []) ms (i * (v + 1) + s) 0))

-- One value fits the numbers.
pub reads_one : {ns : List ℕ} {v w : Value} → 1 ≤ get_or ns 0 0 → Reads ns v → Reads ns w → v ≡ w
reads_one {ns} {v} {w} least a b =
    value_ext v w (a.timeout ∙ sym b.timeout) (a.join ∙ sym b.join) (ext_get_or blank v.tags w.tags (a.many ∙ sym b.many) (λ i l. same i (omega (arith, a.many))))
  where
    signs : (i : ℕ) → i < get_or ns 3 0 → (get_or v.tags i blank).sign ≡ (get_or w.tags i blank).sign
    signs i l =
        ⊎_elim
        (λ (h : get_or ns 0 0 < 2). let one : get_or ns 0 0 ≡ 1 = omega arith in a.unsigned one i blank l ∙ sym (b.unsigned one i blank l))
        (λ (h : 2 ≤ get_or ns 0 0). a.signed h i blank l ∙ sym (b.signed h i blank l))
        (lt_or (get_or ns 0 0) 2)

    ttls : (i : ℕ) → i < get_or ns 3 0 → (get_or v.tags i blank).ttl ≡ (get_or w.tags i blank).ttl
    ttls i l =
        ⊎_elim
        (λ (h : get_or ns 0 0 < 3). a.uncached h i blank l ∙ sym (b.uncached h i blank l))
        (λ (h : 3 ≤ get_or ns 0 0). a.cached h i blank l ∙ sym (b.cached h i blank l))
        (lt_or (get_or ns 0 0) 3)

    marks : (i : ℕ) → i < get_or ns 3 0 → (get_or v.tags i blank).strict ≡ (get_or w.tags i blank).strict
    marks i l =
        ⊎_elim
        (λ (h : get_or ns 0 0 < 4). a.lenient h i blank l ∙ sym (b.lenient h i blank l))
        (λ (h : 4 ≤ get_or ns 0 0). a.strict h i blank l ∙ sym (b.strict h i blank l))
        (lt_or (get_or ns 0 0) 4)

    same : (i : ℕ) → i < get_or ns 3 0 → get_or v.tags i blank ≡ get_or w.tags i blank
    same i l = tag_ext _ _ (a.address i blank l ∙ sym (b.address i blank l)) (a.width i blank l ∙ sym (b.width i blank l)) (signs i l) (ttls i l) (marks i l)

-- The boundary's struct of that value has them place by place, and 0 in the places that no tag uses.
pub reads_to : {ns : List ℕ} {v : Value} → length v.tags ≤ 256 → Reads ns v → ReadsTo ns (settings_of v)
unfolding settings_of
reads_to {ns} {v} few a =
    record {
      timeout = a.timeout;
      join = a.join;
      tags = a.many;
      address = λ i l. column_at (λ t. t.address) v.tags i (omega (arith, a.many)) ∙ a.address i blank l;
      width = λ i l. column_at (λ t. t.width) v.tags i (omega (arith, a.many)) ∙ a.width i blank l;
      unsigned = λ z i l. column_at (λ t. t.sign) v.tags i (omega (arith, a.many)) ∙ a.unsigned z i blank l;
      signed = λ z i l. column_at (λ t. t.sign) v.tags i (omega (arith, a.many)) ∙ a.signed z i blank l;
      uncached = λ z i l. column_at (λ t. t.ttl) v.tags i (omega (arith, a.many)) ∙ a.uncached z i blank l;
      cached = λ z i l. column_at (λ t. t.ttl) v.tags i (omega (arith, a.many)) ∙ a.cached z i blank l;
      lenient = λ z i l. column_at (λ t. t.strict) v.tags i (omega (arith, a.many)) ∙ a.lenient z i blank l;
      strict = λ z i l. column_at (λ t. t.strict) v.tags i (omega (arith, a.many)) ∙ a.strict z i blank l;
      unused = λ i l.
          let beyond : length v.tags ≤ i = omega (arith, a.many) in (
            column_unused (λ t. t.address) v.tags i beyond,
            column_unused (λ t. t.width) v.tags i beyond,
            column_unused (λ t. t.sign) v.tags i beyond,
            column_unused (λ t. t.ttl) v.tags i beyond,
            column_unused (λ t. t.strict) v.tags i beyond,
          );
      places = (
        column_places (λ t. t.address) v.tags few,
        column_places (λ t. t.width) v.tags few,
        column_places (λ t. t.sign) v.tags few,
        column_places (λ t. t.ttl) v.tags few,
        column_places (λ t. t.strict) v.tags few,
      );
    }
