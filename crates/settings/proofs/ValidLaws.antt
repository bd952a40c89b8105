-- A settings value is valid exactly if its numbers are right, in plain words: of any value, and of the struct that a host lends.
-- Assumes nothing.
use Prim.Native.Nat.{ℕ, zero, suc, ◌+◌, ◌≤◌, ◌<◌}
use mathlib.Core.Path.{◌≡◌, refl}
use mathlib.Core.Logic.Iff
use mathlib.Core.Logic.{◌↔◌, ⊎_elim, ⊎_map, ◌⊎◌, inl, inr}
use mathlib.Core.Bool.{true, cond, ◌&&◌}
use mathlib.Core.List.{List, [], ◌∷◌}
use native.Mathlib.Nat.{suc-add}
use native.Mathlib.Omega.{arith}
use lib.ListN.{length, get_or}
use lib.Dec.{eqb, ltb, leb}
use borrow.Author.Tests.{ltb-true, leb-true, lt-ltb, le-leb}
use Rattle.numbers.specs.Numbers.{most_tags, addresses, least_timeout, most_timeout, most_ttl}
use Rattle.laws.proofs.Choice.{eq_or}
use Rattle.laws.proofs.ListLaws.{length-tab, get_d_tab}
use Rattle.laws.proofs.TestLaws.{holds_eq, holds_and, holds_or, holds_always}
use Rattle.settings.specs.declared.Settings.{Settings}
use Rattle.settings.specs.Grammar.{Tag, Value, newest, tag_numbers, ascends, right_timeout, right_join, right_tags, right_addr, right_width, right_sign, right_ttl, right_strict, all_right, tags_right, valid}
use Rattle.settings.specs.Plain.{RightTag, Above, ValidPlainly, tag_in, ValidSettings}
use Rattle.settings.specs.Values.{value_of}
use Rattle.settings.proofs.ValueLaws.{from_of, ascends-from, valid_parts}

-- the rule of each line, in numbers
pub timeout_exactly : (n : ℕ) → (right_timeout n ≡ true) ↔ ((100 ≤ n) × (n ≤ 60000))
timeout_exactly n = holds_and (leb least_timeout n) (leb n most_timeout) (leb-true least_timeout n, le-leb least_timeout n) (leb-true n most_timeout, le-leb n most_timeout)

pub join_exactly : (n : ℕ) → (right_join n ≡ true) ↔ ((n ≡ 0) ⊎ (n ≡ 1))
join_exactly n = (
  λ e. let l = leb-true n 1 e in ⊎_elim inl (λ (z : n ≡ 0 → ⊥). inr (omega arith)) (eq_or n 0),
  ⊎_elim (λ (e : n ≡ 0). le-leb n 1 (omega arith)) (λ (e : n ≡ 1). le-leb n 1 (omega arith)),
)

pub tags_exactly : (n : ℕ) → (right_tags n ≡ true) ↔ (n ≤ 256)
tags_exactly n = (leb-true n most_tags, le-leb n most_tags)

ascends_exactly : (prior : List ℕ) (n : ℕ) → (ascends prior n ≡ true) ↔ (from_of prior ≤ n)
ascends_exactly prior n = rw (ascends-from prior n) (leb-true (from_of prior) n, le-leb (from_of prior) n)

addr_exactly : (prior : List ℕ) (n : ℕ) → (right_addr prior n ≡ true) ↔ ((n < addresses) × (from_of prior ≤ n))
addr_exactly prior n = holds_and (ltb n addresses) (ascends prior n) (ltb-true n addresses, lt-ltb n addresses) (ascends_exactly prior n)

abbrev pub Widths : (address n : ℕ) → Type 0
Widths a n = (n ≡ 16) ⊎ ((n ≡ 32) × (a + 1 < addresses))

pub width_exactly : (own : List ℕ) (n : ℕ) → (right_width own n ≡ true) ↔ Widths (get_or own 0 0) n
width_exactly own n =
    let last = get_or own 0 0 + 1 in
    holds_or (eqb n 16) (eqb n 32 && ltb last addresses) (holds_eq n 16) (holds_and (eqb n 32) (ltb last addresses) (holds_eq n 32) (ltb-true last addresses, lt-ltb last addresses))

abbrev pub Signs : (width n : ℕ) → Type 0
Signs w n = (n ≡ 0) ⊎ ((n ≡ 1) × (w ≡ 16))

pub sign_exactly : (own : List ℕ) (n : ℕ) → (right_sign own n ≡ true) ↔ Signs (get_or own 1 0) n
sign_exactly own n =
    let w = get_or own 1 0 in
    holds_or (eqb n 0) (eqb n 1 && eqb w 16) (holds_eq n 0) (holds_and (eqb n 1) (eqb w 16) (holds_eq n 1) (holds_eq w 16))

pub ttl_exactly : (n : ℕ) → (right_ttl n ≡ true) ↔ (n ≤ 60000)
ttl_exactly n = (leb-true n most_ttl, le-leb n most_ttl)

pub strict_exactly : (n : ℕ) → (right_strict n ≡ true) ↔ (n ≤ 1)
strict_exactly n = (leb-true n 1, le-leb n 1)

-- a tag's lines together: those of its registers, and those that stand for themselves
abbrev pub Placed : Tag → Type 0
Placed t = ((t.width ≡ 16) × (t.sign ≤ 1) × (t.address ≤ 65535)) ⊎ ((t.width ≡ 32) × (t.sign ≡ 0) × (t.address ≤ 65534))

tag-plain : (t : Tag) → t.address < addresses → Widths t.address t.width → Signs t.width t.sign → Placed t
tag-plain t l (inl w) (inl s) = inl (w, omega arith, omega arith)
tag-plain t l (inl w) (inr s) = inl (w, omega arith, omega arith)
tag-plain t l (inr w) (inl s) = inr (w.0, s, omega arith)
tag-plain t l (inr w) (inr s) = absurd (omega arith)

plain-tag : (t : Tag) → Placed t → (t.address < addresses) × Widths t.address t.width × Signs t.width t.sign
plain-tag t (inl r) = (omega arith, inl r.0, ⊎_elim inl (λ (z : t.sign ≡ 0 → ⊥). inr (omega arith, r.0)) (eq_or t.sign 0))
plain-tag t (inr r) = (omega arith, inr (r.0, omega arith), inl r.1)

-- the rules of a tag's lines hold exactly if the tag is right and lies above the tag before
pub tag_exactly : (prior : List ℕ) (t : Tag) → (all_right newest.tag prior [] (tag_numbers t) ≡ true) ↔ (RightTag t × (from_of prior ≤ t.address))
unfolding all_right
tag_exactly prior t =
    Iff.trans
    (holds_and (right_addr prior t.address) _ (addr_exactly prior t.address)
    (holds_and (right_width (t.address ∷ []) t.width) _ (width_exactly (t.address ∷ []) t.width)
    (holds_and (right_sign (t.address ∷ t.width ∷ []) t.sign) _ (sign_exactly (t.address ∷ t.width ∷ []) t.sign)
    (holds_and (right_ttl t.ttl) _ (ttl_exactly t.ttl) (holds_and (right_strict t.strict) true (strict_exactly t.strict) holds_always)))))
    (λ x. ((tag-plain t x.0.0 x.1.0 x.1.1.0, x.1.1.1.0, x.1.1.1.1.0), x.0.1), λ y. let p = plain-tag t y.0.0 in ((p.0, y.1), (p.1, (p.2, (y.0.1, (y.0.2, tt))))))

-- the first of right tags, and the others behind it
pub first_exactly : (prior : List ℕ) (t : Tag) (ts : List Tag)
    → (tags_right newest.tag prior (t ∷ ts) ≡ true) ↔ ((RightTag t × (from_of prior ≤ t.address)) × (tags_right newest.tag (tag_numbers t) ts ≡ true))
unfolding tags_right
first_exactly prior t ts = holds_and (all_right newest.tag prior [] (tag_numbers t)) (tags_right newest.tag (tag_numbers t) ts) (tag_exactly prior t) (λ e. e, λ e. e)

-- an address is above a tag of either width
pub above_exactly : (a w n : ℕ) → (w ≡ 16) ⊎ (w ≡ 32) → (ltb (cond (eqb w 32) (a + 1) a) n ≡ true) ↔ Above a w n
above_exactly a w n (inl e) = rw e (λ h. inl (refl, ltb-true a n h), λ u. lt-ltb a n (⊎_elim (λ z. z.1) (λ z. absurd (omega (arith, z.0))) u))
above_exactly a w n (inr e) = rw e (λ h. inr (refl, ltb-true (a + 1) n h), λ u. lt-ltb (a + 1) n (⊎_elim (λ z. absurd (omega (arith, z.0))) (λ z. z.1) u))

follows_exactly : (t : Tag) (n : ℕ) → RightTag t → (from_of (tag_numbers t) ≤ n) ↔ Above t.address t.width n
unfolding ascends
follows_exactly t n r = Iff.trans (Iff.symm (ascends_exactly (tag_numbers t) n)) (above_exactly t.address t.width n (⊎_map (λ x. x.0) (λ x. x.0) r.0))

-- right tags, place by place
abbrev Each : List Tag → Type 0
Each ts = (i : ℕ) (d : Tag) → i < length ts → RightTag (get_or ts i d)

abbrev Ascend : List Tag → Type 0
Ascend ts = (i : ℕ) (d : Tag) → i + 1 < length ts → Above (get_or ts i d).address (get_or ts i d).width (get_or ts (i + 1) d).address

right_at : (prior : List ℕ) (ts : List Tag) → tags_right newest.tag prior ts ≡ true → Each ts
right_at prior [] r i d h = absurd (omega arith)
right_at prior (t ∷ ts) r zero d h = ((first_exactly prior t ts).0 r).0.0
right_at prior (t ∷ ts) r (suc i) d h = right_at (tag_numbers t) ts ((first_exactly prior t ts).0 r).1 i d (omega arith)

ascend_at : (prior : List ℕ) (ts : List Tag) → tags_right newest.tag prior ts ≡ true → Ascend ts
ascend_at prior [] r i d h = absurd (omega arith)
ascend_at prior (t ∷ []) r i d h = absurd (omega arith)
ascend_at prior (t ∷ u ∷ ts) r zero d h =
    let f = (first_exactly prior t (u ∷ ts)).0 r in
    (follows_exactly t u.address f.0.0).0 ((first_exactly (tag_numbers t) u ts).0 f.1).0.1
ascend_at prior (t ∷ u ∷ ts) r (suc i) d h = rw (suc-add i 1) (ascend_at (tag_numbers t) (u ∷ ts) ((first_exactly prior t (u ∷ ts)).0 r).1 i d (omega arith))

at_right : (prior : List ℕ) (ts : List Tag) → ((d : Tag) → 0 < length ts → from_of prior ≤ (get_or ts 0 d).address) → Each ts → Ascend ts → tags_right newest.tag prior ts ≡ true
unfolding tags_right
at_right prior [] f e a = refl
at_right prior (t ∷ ts) f e a =
    (first_exactly prior t ts).1 (
      (e 0 t (omega arith), f t (omega arith)),
      at_right (tag_numbers t) ts (λ d h. (follows_exactly t _ (e 0 t (omega arith))).1 (a 0 d (omega arith))) (λ i d h. e (suc i) d (omega arith)) (λ i d h. rw (suc-add i 1) at (a (suc i) d (omega arith))),
    )

-- A value is valid exactly if its numbers are right.
pub valid_exactly : (v : Value) → (valid v ≡ true) ↔ ValidPlainly v
unfolding from_of
valid_exactly v =
    let ts = v.tags in
    rw (valid_parts v)
    (Iff.trans
    (holds_and (right_timeout v.timeout && (right_join v.join && right_tags (length ts))) (tags_right newest.tag [] ts)
    (holds_and (right_timeout v.timeout) _ (timeout_exactly v.timeout) (holds_and (right_join v.join) (right_tags (length ts)) (join_exactly v.join) (tags_exactly (length ts))))
    (λ r. (right_at [] ts r, ascend_at [] ts r), λ (x : Each ts × Ascend ts). at_right [] ts (λ d h. omega arith) x.0 x.1)) (
      λ x. record { least = x.0.0.0; most = x.0.0.1; joins = x.0.1.0; few = x.0.1.1; each = x.1.0; ascend = x.1.1 },
      λ p. (((p.least, p.most), (p.joins, p.few)), (p.each, p.ascend)),
    ))

-- The value of the struct that a host lends is valid exactly if the numbers of the struct are right, those of the first `tags` places.
pub settings_valid_exactly : (s : Settings) → (valid (value_of s) ≡ true) ↔ ValidSettings s
unfolding value_of
settings_valid_exactly s = Iff.trans (valid_exactly (value_of s)) (to, from)
  where
    sized : length (value_of s).tags ≡ s.tags
    sized = length-tab s.tags (tag_in s)

    place : (i : ℕ) (d : Tag) → i < s.tags → get_or (value_of s).tags i d ≡ tag_in s i
    place i d h = get_d_tab s.tags (tag_in s) i d h

    to : ValidPlainly (value_of s) → ValidSettings s
    to p =
        record {
          least = p.least;
          most = p.most;
          joins = p.joins;
          few = rw sized at p.few;
          each = λ i h. rw (place i (tag_in s i) h) at (p.each i (tag_in s i) (rw sized h));
          ascend = λ i h. rw (place i (tag_in s i) (omega arith), place (i + 1) (tag_in s i) h) at (p.ascend i (tag_in s i) (rw sized h));
        }

    from : ValidSettings s → ValidPlainly (value_of s)
    from q =
        record {
          least = q.least;
          most = q.most;
          joins = q.joins;
          few = rw sized q.few;
          each = λ i d h. let l = rw sized at h in rw (place i d l) (q.each i l);
          ascend = λ i d h. let l = rw sized at h in rw (place i d (omega arith), place (i + 1) d l) (q.ascend i l);
        }
