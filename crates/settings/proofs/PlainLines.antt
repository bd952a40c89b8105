-- In plain words: a line is read of a text exactly if the text begins with it, which line comes next follows from the numbers above, and right lines go one way from the start of a text.
-- Assumes nothing.
use Prim.Native.Nat.{ℕ, ◌+◌, ◌*◌, ◌-◌, ◌%◌, ◌≤◌, ◌<◌}
use mathlib.Core.Path.{◌≡◌, refl, ap, sym, subst, ◌∙◌}
use mathlib.Core.Logic.{◌↔◌}
use mathlib.Core.Bool.{true, cond, false≢true}
use mathlib.Core.Option.{some, some-injective}
use mathlib.Core.List.{List, [], ◌∷◌, ◌++◌, append_assoc, append-nil}
use native.Mathlib.Omega.{arith}
use native.Mathlib.Nat.{mod-eq_of_lt, mul-add-mod_self_right, mul-le-mul_right}
use lib.ListN.{length, get_or}
use lib.Dec.{eqb, ltb}
use borrow.Author.Tests.{le-ltb, ne_eqb, eqb-false, not-true}
use Rattle.settings.specs.Lines.{Numbered, is_digit, trailing, plain, number_from, line_in}
use Rattle.settings.specs.Grammar.{version_key, timeout_key, join_key, tags_key, addr_key, width_key, sign_key, ttl_key, strict_key, tag_lines}
use Rattle.settings.specs.Plain.{Decimal, IsLine, lines_of_tag, Right, Next, Lines, AllLines, numbered}
use Rattle.settings.proofs.VersionLaws.{Listed}
use Rattle.settings.proofs.LineLaws.{digit_of, digit_range, digit-first, digits_then, number_then, number_read, line_read, line_parts, digits_back}

-- a decimal without leading zeros: digits that are plain and read as the number

longer : (ds : List ℕ) (c : ℕ) → plain ds ≡ true → 1 ≤ number_from 0 ds → plain (ds ++ (c ∷ [])) ≡ true
unfolding plain number_from
longer [] c p h = absurd (false≢true p)
longer (d ∷ []) c p h = rw (ne_eqb d 48 (λ z. omega arith))
longer (d ∷ e ∷ ds) c p h = p

decimal_read : {ds : List ℕ} {n : ℕ} → Decimal ds n → (trailing ds ≡ []) × (plain ds ≡ true) × (number_from 0 ds ≡ n)
unfolding trailing plain number_from
decimal_read (Decimal.one d h) = (rw (digit_of d (omega arith)), refl, omega arith)
decimal_read (Decimal.more {ds} {n} d p h g) =
    let i = decimal_read p in (
      digits_then ds ((48 + d) ∷ []) i.0 ∙ rw (digit_of d (omega arith)),
      longer ds (48 + d) i.1 (omega (arith, i.2)),
      number_then 0 ds ((48 + d) ∷ []) ∙ rw i.2 (omega arith),
    )

first-digit : (d : ℕ) → is_digit d ≡ true → Decimal (d ∷ []) (0 * 10 + (d - 48))
first-digit d w =
    let range = digit_range d w in
    let byte : 48 + (d - 48) ≡ d = omega arith in
    let value : d - 48 ≡ 0 * 10 + (d - 48) = omega arith in
    subst (λ n. Decimal (d ∷ []) n) value (subst (λ c. Decimal (c ∷ []) (d - 48)) byte (Decimal.one (d - 48) (omega arith)))

decimal_more : {ds : List ℕ} {n : ℕ} → Decimal ds n → 1 ≤ n → (es : List ℕ) → trailing es ≡ [] → Decimal (ds ++ es) (number_from n es)
unfolding number_from
decimal_more {ds} p h [] e = rw (append-nil ds) p
decimal_more {ds} {n} p h (c ∷ es) e =
    let w = digit-first c es e in
    let range = digit_range c w.0 in
    let byte : 48 + (c - 48) ≡ c = omega arith in
    let value : 10 * n + (c - 48) ≡ n * 10 + (c - 48) = omega arith in
    let next : Decimal (ds ++ (c ∷ [])) (n * 10 + (c - 48)) =
    subst (λ m. Decimal (ds ++ (c ∷ [])) m) value (subst (λ b. Decimal (ds ++ (b ∷ [])) (10 * n + (c - 48))) byte (Decimal.more (c - 48) p h (omega arith))) in
    rw append_assoc at (decimal_more {ds = ds ++ (c ∷ [])} {n = n * 10 + (c - 48)} next (omega arith) es w.1)

decimal-told : (ds : List ℕ) → trailing ds ≡ [] → plain ds ≡ true → Decimal ds (number_from 0 ds)
unfolding number_from plain
decimal-told [] e p = absurd (false≢true p)
decimal-told (d ∷ []) e p = first-digit d (digit-first d [] e).0
decimal-told (d ∷ c ∷ ds) e p =
    let w = digit-first d (c ∷ ds) e in
    let range = digit_range d w.0 in
    let above = eqb-false d 48 (not-true (eqb d 48) p) in
    decimal_more (first-digit d w.0) (omega (arith, above)) (c ∷ ds) w.1

-- A line is read of a text exactly if the text begins with it.
pub line_exactly : (key t : List ℕ) (n : ℕ) (r : List ℕ) → (line_in key t ≡ some (numbered n r)) ↔ ((line : List ℕ) × (t ≡ line ++ r) × IsLine key n line)
line_exactly key t n r = (there, λ w. here w.0 w.1 w.2)
  where
    there : line_in key t ≡ some (numbered n r) → (line : List ℕ) × (t ≡ line ++ r) × IsLine key n line
    there h =
        let a = line_read key t (numbered n r) h in
        let d = number_read a.0 (numbered n r) a.2 in (
          key ++ (61 ∷ d.digits ++ (10 ∷ [])),
          a.1 ∙ ap ((key ++ (61 ∷ [])) ++◌) d.whole ∙ sym (line_parts key d.digits r),
          record { digits = d.digits; decimal = subst (λ m. Decimal d.digits m) (sym d.number) (decimal-told d.digits d.only d.right); spells = refl },
        )

    here : (line : List ℕ) → t ≡ line ++ r → IsLine key n line → line_in key t ≡ some (numbered n r)
    here line e l =
        let d = decimal_read l.decimal in
        ap (line_in key) (e ∙ ap (◌++ r) l.spells) ∙ digits_back key l.digits r d.0 d.1 ∙ ap (λ m. some (numbered m r)) d.2

-- which line comes next, by the numbers above: the place among the lines before the tags, or behind them that among the lines of a tag

abbrev pub keys : List (List ℕ)
keys = version_key ∷ timeout_key ∷ join_key ∷ tags_key ∷ addr_key ∷ width_key ∷ sign_key ∷ ttl_key ∷ strict_key ∷ []

unfoldable pub key_at : List ℕ → List ℕ
key_at ns = get_or keys (cond (ltb (length ns) 4) (length ns) (4 + (length ns - 4) % lines_of_tag ns)) []

-- a version has at least two lines for each tag
abbrev pub Known : List ℕ → Type 0
Known ns = 1 ≤ length ns → 2 ≤ lines_of_tag ns

-- below these numbers stands the line s of the tag i
pub record InTag (ns : List ℕ) (i s : ℕ) : Type 0 where
  pub within : i < get_or ns 3 0
  pub line : s < lines_of_tag ns
  pub long : length ns ≡ 4 + i * lines_of_tag ns + s

-- the next line's key is this, and it is not all
abbrev pub Follows : (ns key : List ℕ) → Type 0
Follows ns key = (key ≡ key_at ns) × (AllLines ns → ⊥)

pub tag_follows : (ns : List ℕ) (i s : ℕ) → InTag ns i s → Follows ns (get_or keys (4 + s) [])
unfolding key_at
tag_follows ns i s p =
    let least : 4 ≤ length ns = omega (arith, p.long) in
    let count : length ns - 4 ≡ i * lines_of_tag ns + s = omega (arith, p.long) in
    let slot : (length ns - 4) % lines_of_tag ns ≡ s = ap (◌% lines_of_tag ns) count ∙ mul-add-mod_self_right i (lines_of_tag ns) s ∙ mod-eq_of_lt p.line in
    (rw (le-ltb (length ns) 4 least, slot), λ a. omega (arith, p.long, p.line, a.1, mul-le-mul_right (lines_of_tag ns) p.within))

pub follows : {ns key : List ℕ} {n : ℕ} → Known ns → Right ns key n → Follows ns key
unfolding key_at
follows k (Right.version l u) = (refl, λ a. omega (arith, a.0))
follows k (Right.timeout l m) = (refl, λ a. omega (arith, a.0))
follows k (Right.join r) = (refl, λ a. omega (arith, a.0))
follows k (Right.tags l) = (refl, λ a. omega (arith, a.0))
follows k (Right.addr {ns} i l e s f) = tag_follows ns i 0 (record { within = l; line = omega arith; long = omega arith })
follows k (Right.width {ns} i l e r) = tag_follows ns i 1 (record { within = l; line = k (omega arith); long = e })
follows k (Right.sign {ns} i l v e r) = tag_follows ns i 2 (record { within = l; line = omega arith; long = e })
follows k (Right.ttl {ns} i l v e r) = tag_follows ns i 3 (record { within = l; line = omega arith; long = e })
follows k (Right.strict {ns} i l v e r) = tag_follows ns i 4 (record { within = l; line = omega arith; long = e })

-- the first line's number is a version, and a version is known below it
pub listed_bounds : {n : ℕ} → Listed n → (1 ≤ n) × (n < length tag_lines)
listed_bounds l = (l.0, omega (arith, l.1))

pub first-line : {key : List ℕ} {n : ℕ} → Right [] key n → Listed n
first-line (Right.version l u) = (l, u)
first-line (Right.addr i l e s f) = absurd (omega arith)
first-line (Right.width i l e r) = absurd (omega arith)
first-line (Right.sign i l v e r) = absurd (omega arith)
first-line (Right.ttl i l v e r) = absurd (omega arith)
first-line (Right.strict i l v e r) = absurd (omega arith)

next_known : (ns : List ℕ) {key : List ℕ} {n : ℕ} → Known ns → Right ns key n → Known (ns ++ (n ∷ []))
next_known [] k g = λ h. omega (arith, (listed_bounds (first-line g)).0)
next_known (v ∷ ns) k g = λ h. k (omega arith)

known : {above t ns r : List ℕ} → Known above → Lines above t ns r → Known (above ++ ns)
known {above} k Lines.none = rw (append-nil above) k
known {above} k (Lines.more {ns = ns} {n = n} e l g c) = rw (append_assoc above (n ∷ []) ns) at (known (next_known above k g) c)

pub none_known : Known []
none_known = λ h. absurd (omega arith)

pub all_known : {t ns r : List ℕ} → Lines [] t ns r → Known ns
all_known c = known {above = []} none_known c

-- right lines, and one more
pub one_more : {above t ns r line rest key : List ℕ} {n : ℕ} → Lines above t ns r → r ≡ line ++ rest → IsLine key n line → Right (above ++ ns) key n → Lines above t (ns ++ (n ∷ [])) rest
one_more {above} Lines.none e l g = Lines.more e l (rw (append-nil above) at g) Lines.none
one_more {above} (Lines.more {ns = ns} {n = m} e l g c) f k h = Lines.more e l g (one_more c f k (rw (← append_assoc above (m ∷ []) ns) at h))

-- a right line is the one that is read there, and so a text begins with one at most
pub next_read : {ns t : List ℕ} → Known ns → (a : Next ns t) → line_in (key_at ns) t ≡ some (numbered a.1 a.3)
next_read {t = t} k (key, n, line, rest, e, l, g) = rw (follows k g).0 at ((line_exactly key t n rest).1 (line, e, l))

one_line : {ns t : List ℕ} → Known ns → (a b : Next ns t) → (a.1 ≡ b.1) × (a.3 ≡ b.3)
one_line k a b =
    let same : numbered a.1 a.3 ≡ numbered b.1 b.3 = some-injective _ _ (sym (next_read k a) ∙ next_read k b) in
    (ap (λ (x : Numbered). x.number) same, ap (λ (x : Numbered). x.rest) same)

-- two ways to go along right lines as far as they go are one
one_way : {above t ns r ms q : List ℕ} → Known above → Lines above t ns r → Lines above t ms q → (Next (above ++ ns) r → ⊥) → (Next (above ++ ms) q → ⊥) → (ns ≡ ms) × (r ≡ q)
one_way k Lines.none Lines.none a b = (refl, refl)
one_way {above} k Lines.none (Lines.more {line = line} {behind = behind} {key = key} {n = n} e l g c) a b = absurd (a (rw (append-nil above) (key, n, line, behind, e, l, g)))
one_way {above} k (Lines.more {line = line} {behind = behind} {key = key} {n = n} e l g c) Lines.none a b = absurd (b (rw (append-nil above) (key, n, line, behind, e, l, g)))
one_way {above} k (Lines.more {line = line} {behind = behind} {ns = ns} {rest = r} {key = key} {n = n} e l g c) (Lines.more {line = line'} {behind = behind'} {ns = ms} {rest = q} {key = key'} {n = n'} e' l' g' c') a b =
    let same = one_line k (key, n, line, behind, e, l, g) (key', n', line', behind', e', l', g') in
    let d : Lines (above ++ (n ∷ [])) behind ms q = rw (same.0, same.1) c' in
    let stop : Next ((above ++ (n ∷ [])) ++ ms) q → ⊥ = rw (append_assoc above (n ∷ []) ms, same.0) b in
    let w = one_way (next_known above k g) c d (rw (append_assoc above (n ∷ []) ns) a) stop in
    (rw same.0 (ap (n' ∷◌) w.0), w.1)

-- so a text has one end of right lines
pub one_end : {t ns r ms q : List ℕ} → Lines [] t ns r → (Next ns r → ⊥) → Lines [] t ms q → (Next ms q → ⊥) → (ns ≡ ms) × (r ≡ q)
one_end c a d b = one_way none_known c d a b

-- and behind all lines there is no right one
pub nothing_follows : {t ns r : List ℕ} → Lines [] t ns r → AllLines ns → Next ns r → ⊥
nothing_follows c a n = (follows (all_known c) n.6).1 a
