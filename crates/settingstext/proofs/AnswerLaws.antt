-- The answers of the line reader: what a rule keeps, and each answer as a step of reading several lines or a tag.
-- Assumes nothing.
use Rattle.std.specs.Prelude as code
use Rattle.std.specs.Prelude.{Some, None, Result, Ok, Err}
use Rattle.std.specs.Option.{ok_or}
use Rattle.std.specs.Borrow.{Bor}
use Prim.Native.Nat.{ℕ, zero, suc, ◌+◌, ◌-◌, ◌/◌, ◌≤◌, ◌<◌, min}
use mathlib.Core.Path.{◌≡◌, refl, ap, sym, ◌∙◌}
use mathlib.Core.Logic.{⊎_elim}
use mathlib.Core.Bool.{Bool, true, false, cond, and-false}
use mathlib.Core.Option.{Option, some, none, some-injective, none-ne-some}
use mathlib.Core.List.{List, [], ◌∷◌, ◌++◌}
use native.Mathlib.Numerals.{add-one}
use native.Mathlib.Omega.{arith}
use lib.ListN.{length, get_or, take}
use lib.Seq.{take-nil}
use lib.Dec.{eqb, ltb, leb}
use borrow.Author.Tests.{le-leb, lt-leb, leb-true, lt-ltb, le-ltb, ltb-true, ne_eqb}
use Rattle.numbers.specs.Numbers.{addresses, most_ttl}
use Rattle.laws.proofs.Choice.{true_or, eq_or, lt_or, and_left, and_right, same_test, never}
use Rattle.settings.specs.Lines.{Numbered, equals, behind, number_in, line_in}
use Rattle.settings.specs.Grammar.{Tag, Line, line, addr_key, width_key, sign_key, ttl_key, strict_key, last_register, ascends, right_addr, right_width, right_sign, right_ttl, right_strict, version_of, tag_from, all_right, Read, read_lines, ruled}
use Rattle.settings.specs.Grammar.Read.{got, wrong}
use Rattle.settingstext.specs.inner.Reading.{numbered, ceiling, capped, line_behind, within, lowest, tag_read, later_read}
use Rattle.settings.proofs.RowLaws.{ruled_follows, line_wrong, line_right, lines_only}
use Rattle.settings.proofs.VersionLaws.{widths, fit}

-- a line's number and the text behind it
abbrev pub read_to : ℕ → List ℕ → Numbered
read_to n next = record { number = n; rest = next }

-- what ok_or makes of a line's answer
abbrev Answer : Type 0
Answer = code.Option (ℕ × Bor (List ℕ))

pub line_err : {E : Type 0} {p : Option Numbered} (o : Answer) (e : E) {x : E} {r : Result (ℕ × Bor (List ℕ)) E} → numbered o ≡ p → r ≡ ok_or o e → r ≡ Err x → none ≡ p
line_err None e n p q = n
line_err (Some y) e n p q = never (cc)

pub line_ok : {E : Type 0} {p : Option Numbered} (o : Answer) (e : E) {y : ℕ × Bor (List ℕ)} {r : Result (ℕ × Bor (List ℕ)) E} → numbered o ≡ p → r ≡ ok_or o e → r ≡ Ok y → some (read_to y.0 y.1.now) ≡ p
line_ok None e n p q = never (cc)
line_ok (Some z) e {y} n p q = let same : ◌≡◌ {A = Answer} (Some y) (Some z) = cc in ap numbered same ∙ n

-- the parts of an answer
some_pair : {a c : ℕ} {b d : List ℕ} → some (read_to a b) ≡ some (read_to c d) → (a ≡ c) × (b ≡ d)
some_pair {a} {c} {b} {d} e = let p : read_to a b ≡ read_to c d = some-injective _ _ e in (ap (λ (x : Numbered). x.number) p, ap (λ (x : Numbered). x.rest) p)

-- a line's answer: the rule keeps it or not, and cannot tell a number that was capped

pub ruled_wrong : (rule : ℕ → Bool) (o : Option Numbered) → none ≡ o → none ≡ ruled rule o
unfolding ruled
ruled_wrong rule none e = e
ruled_wrong rule (some x) e = absurd (none-ne-some x e)

module _ (rule : ℕ → Bool) (x : Numbered) where
  pub ruled_in : (o : Option Numbered) → some x ≡ o → rule x.number ≡ true → some x ≡ ruled rule o
  unfolding ruled
  ruled_in o e t = rw (← e, t)

  pub ruled_out : (o : Option Numbered) → some x ≡ o → rule x.number ≡ false → none ≡ ruled rule o
  unfolding ruled
  ruled_out o e t = rw (← e, t)

pub ruled_ext : (rule rule' : ℕ → Bool) → ((n : ℕ) → rule n ≡ rule' n) → (o : Option Numbered) → ruled rule o ≡ ruled rule' o
unfolding ruled
ruled_ext rule rule' h none = refl
ruled_ext rule rule' h (some x) = rw (h x.number)

pub ruled_twice : (rule rule' : ℕ → Bool) → ((n : ℕ) → rule n ≡ true → rule' n ≡ true) → (o : Option Numbered) → ruled rule (ruled rule' o) ≡ ruled rule o
unfolding ruled
ruled_twice rule rule' h none = refl
ruled_twice rule rule' h (some x) =
    ⊎_elim
    (λ (t : rule x.number ≡ true). rw (h x.number t, t))
    (λ (t : rule x.number ≡ false). rw t (⊎_elim (λ (u : rule' x.number ≡ true). rw (u, t)) (λ (u : rule' x.number ≡ false). rw u) (true_or (rule' x.number))))
    (true_or (rule x.number))

pub ruled-capped : (rule : ℕ → Bool) → ((n : ℕ) → rule n ≡ true → n < ceiling) → (o : Option Numbered) → ruled rule (capped o) ≡ ruled rule o
unfolding ruled capped
ruled-capped rule h none = refl
ruled-capped rule h (some x) =
    ⊎_elim
    (λ (l : x.number < ceiling). let q : min x.number ceiling ≡ x.number = omega arith in rw q)
    (λ (l : ceiling ≤ x.number). let q : min x.number ceiling ≡ ceiling = omega arith in rw (q, above ceiling (omega arith), above x.number l))
    (lt_or x.number ceiling)
  where
    above : (n : ℕ) → ceiling ≤ n → rule n ≡ false
    above n l = ⊎_elim (λ t. absurd (omega (arith, h n t))) (λ t. t) (true_or (rule n))

within-below : (least most n : ℕ) → most < ceiling → within least most n ≡ true → n < ceiling
within-below least most n h t = omega (arith, leb-true n most (and_right (leb least n) (leb n most) t))

-- the outcomes of reading the line of a key: the number behind it, if it stands there
module _ (key text : List ℕ) (least most : ℕ) (small : most < ceiling) where
  abbrev read : Option Numbered
  read = ruled (within least most) (line_behind key text)

  pub line_unkeyed : behind key text ≡ none → none ≡ read
  unfolding line_behind ruled
  line_unkeyed f = rw (f, line_behind)

  module _ (rest : List ℕ) (f : behind key text ≡ some rest) where
    uncapped : ruled (within least most) (capped (number_in rest)) ≡ read
    unfolding line_behind
    uncapped = ruled-capped (within least most) (λ n t. within-below least most n small t) _ ∙ rw (f, line_behind)

    pub line_unnumbered : none ≡ capped (number_in rest) → none ≡ read
    line_unnumbered e = ruled_wrong (within least most) _ e ∙ uncapped

    pub line_kept : (x : Numbered) → some x ≡ capped (number_in rest) → within least most x.number ≡ true → some x ≡ read
    line_kept x e t = ruled_in (within least most) x _ e t ∙ uncapped

    pub line-left : (x : Numbered) → some x ≡ capped (number_in rest) → within least most x.number ≡ false → none ≡ read
    line-left x e t = ruled_out (within least most) x _ e t ∙ uncapped

pub key_line : (key t : List ℕ) → line_behind (key ++ (equals ∷ [])) t ≡ line_in key t
unfolding line_behind line_in
key_line key t = refl

-- a line's answer is a step of reading several: a wrong line, a right one
module _ (text : List ℕ) (k : ℕ) (l : Line) (ls : List Line) (prior own : List ℕ) (rule : ℕ → Bool) (alike : (n : ℕ) → rule n ≡ l.right prior own n) where
  abbrev answer : Option Numbered
  answer = ruled rule (line_behind (l.key ++ (equals ∷ [])) text)

  answered : answer ≡ ruled (l.right prior own) (line_in l.key text)
  answered = ruled_ext rule (l.right prior own) alike _ ∙ ap (ruled (l.right prior own)) (key_line l.key text)

  pub read_stop : none ≡ answer → read_lines k (l ∷ ls) prior own text ≡ wrong k
  read_stop e = line_wrong k l ls prior own text (sym (e ∙ answered))

  pub read_step : (n : ℕ) (next : List ℕ) → some (read_to n next) ≡ answer → read_lines k (l ∷ ls) prior own text ≡ read_lines (suc k) ls prior (own ++ (n ∷ [])) next
  read_step n next e = line_right k l ls prior own text (read_to n next) (sym (e ∙ answered))

-- the rules as ranges

pub address_rule : (prior : List ℕ) (n : ℕ) → within (lowest prior) (addresses - 1) n ≡ right_addr prior n
unfolding lowest ascends
address_rule [] n =
    same_test _ _
    (λ t. let high = leb-true n (addresses - 1) (and_right (leb 0 n) _ t) in rw (lt-ltb n addresses (omega arith)))
    (λ t. let high = ltb-true n addresses (and_left (ltb n addresses) _ t) in rw (le-leb 0 n (omega arith), le-leb n (addresses - 1) (omega arith)))
address_rule (a ∷ ns) n =
    let last : ℕ = last_register (a ∷ ns) in
    same_test _ _
    (λ t. let low = leb-true (last + 1) n (and_left (leb (last + 1) n) _ t) in
    let high = leb-true n (addresses - 1) (and_right (leb (last + 1) n) _ t) in
    rw (lt-ltb n addresses (omega arith), lt-ltb last n (omega arith)))
    (λ t. let high = ltb-true n addresses (and_left (ltb n addresses) _ t) in
    let low = ltb-true last n (and_right (ltb n addresses) _ t) in
    rw (le-leb (last + 1) n (omega arith), le-leb n (addresses - 1) (omega arith)))

pub width_rule : (own : List ℕ) (n : ℕ) → right_width own n ≡ true → within 16 32 n ≡ true
width_rule own n t =
    ⊎_elim
    (λ (e : n ≡ 16). rw e)
    (λ (e : n ≡ 32). rw e)
    (widths own n t)

module _ (least most : ℕ) (x : Numbered) (o : Option Numbered) (e : some x ≡ ruled (within least most) o) where
  in_range : within least most x.number ≡ true
  in_range = (ruled_follows (within least most) o x (sym e)).1

  pub ruled_most : x.number ≤ most
  ruled_most = leb-true x.number most (and_right (leb least x.number) _ in_range)

  pub ruled-least : least ≤ x.number
  ruled-least = leb-true least x.number (and_left (leb least x.number) _ in_range)

-- the sign's rule is a range by the width
pub sign_rule : (width n : ℕ) → within 0 (cond (eqb width 16) 1 0) n ≡ right_sign (0 ∷ width ∷ []) n
sign_rule width n =
    ⊎_elim
    (λ (w : width ≡ 16). rw w (⊎_elim (λ (e : n ≡ 0). rw e) (λ (d : n ≡ 0 → ⊥). ⊎_elim (λ (e : n ≡ 1). rw e) (λ (c : n ≡ 1 → ⊥). rw (ne_eqb n 0 d, ne_eqb n 1 c, le-leb 0 n (omega arith), lt-leb n 1 (omega arith))) (eq_or n 1)) (eq_or n 0)))
    (λ (w : width ≡ 16 → ⊥). rw (ne_eqb width 16 w) (⊎_elim (λ (e : n ≡ 0). rw e) (λ (d : n ≡ 0 → ⊥). rw (ne_eqb n 0 d, and-false, le-leb 0 n (omega arith), lt-leb n 0 (omega arith))) (eq_or n 0)))
    (eq_or width 16)

pub sign_small : (width : ℕ) → cond (eqb width 16) 1 0 ≤ 1
sign_small width = ⊎_elim (λ e. rw e (omega arith)) (λ e. rw e (omega arith)) (true_or (eqb width 16))

-- a rule without a least number
pub from_zero : (most n : ℕ) → within 0 most n ≡ leb n most
from_zero most n = rw (le-leb 0 n (omega arith))

-- a line that there is since a version: an older one has none, and the number is 0
module _ (v since : ℕ) (text key : List ℕ) (most : ℕ) where
  pub later_older : v < since → later_read v since text key most ≡ some (read_to 0 text)
  unfolding later_read
  later_older l = rw (lt-ltb v since l)

  pub later_asked : since ≤ v → later_read v since text key most ≡ ruled (within 0 most) (line_behind key text)
  unfolding later_read
  later_asked l = rw (le-ltb v since l)

  later_right : v < since → none ≡ later_read v since text key most → ⊥
  later_right l e = none-ne-some _ (e ∙ later_older l)

  module _ (n : ℕ) (next : List ℕ) (e : some (read_to n next) ≡ later_read v since text key most) where
    later-none : v < since → (n ≡ 0) × (next ≡ text)
    later-none l = some_pair (e ∙ later_older l)

    pub later_most : n ≤ most
    later_most = ⊎_elim (λ (l : v < since). omega (arith, (later-none l).0)) (λ (l : since ≤ v). ruled_most 0 most (read_to n next) _ (e ∙ later_asked l)) (lt_or v since)

-- the outcomes of reading a tag's lines

abbrev address_line : Line
address_line = line addr_key (λ prior own n. right_addr prior n)

abbrev width_line : Line
width_line = line width_key (λ prior own n. right_width own n)

abbrev sign_line : Line
sign_line = line sign_key (λ prior own n. right_sign own n)

abbrev ttl_line : Line
ttl_line = line ttl_key (λ prior own n. right_ttl n)

abbrev strict_line : Line
strict_line = line strict_key (λ prior own n. right_strict n)

-- the lines behind address and width, in the version behind this one
abbrev later_lines : ℕ → List Line
later_lines m = take m (sign_line ∷ ttl_line ∷ strict_line ∷ [])

module _ (text : List ℕ) (number least : ℕ) (prior : List ℕ) (low : least ≡ lowest prior) where
  abbrev address_answer : Option Numbered
  address_answer = ruled (within least (addresses - 1)) (line_behind (addr_key ++ (equals ∷ [])) text)

  abbrev tag_answer : ℕ → Read Tag
  tag_answer v = tag_read (read_lines number (version_of v).tag prior [] text)

  ruled-by : (n : ℕ) → within least (addresses - 1) n ≡ right_addr prior n
  ruled-by n = rw low (address_rule prior n)

  pub tag_unaddressed : (v : ℕ) → 1 ≤ v → none ≡ address_answer → wrong number ≡ tag_answer v
  unfolding tag_read
  tag_unaddressed zero l e = absurd (omega arith)
  tag_unaddressed (suc m) l e = sym (ap (tag_read) (read_stop text number address_line (width_line ∷ later_lines m) prior [] (within least (addresses - 1)) ruled-by e))

  module _ (address : ℕ) (second : List ℕ) (first : some (read_to address second) ≡ address_answer) where
    abbrev width_answer : Option Numbered
    width_answer = ruled (within 16 32) (line_behind (width_key ++ (equals ∷ [])) second)

    fit_in : ℕ → Bool
    fit_in n = right_width (address ∷ []) n

    narrowed : ruled fit_in (ruled (within 16 32) (line_behind (width_key ++ (equals ∷ [])) second)) ≡ ruled fit_in (line_behind (width_key ++ (equals ∷ [])) second)
    unfolding fit_in
    narrowed = ruled_twice fit_in (within 16 32) (width_rule (address ∷ [])) _

    addressed : (m : ℕ) → read_lines number (version_of (suc m)).tag prior [] text ≡ read_lines (suc number) (width_line ∷ later_lines m) prior (address ∷ []) second
    addressed m = read_step text number address_line (width_line ∷ later_lines m) prior [] (within least (addresses - 1)) ruled-by address second first

    stopped : (v : ℕ) → 1 ≤ v → none ≡ (ruled fit_in (ruled (within 16 32) (line_behind (width_key ++ (equals ∷ [])) second))) → wrong (number + 1) ≡ tag_answer v
    unfolding fit_in tag_read
    stopped zero l e = absurd (omega arith)
    stopped (suc m) l e =
        sym (ap (tag_read) (addressed m ∙ read_stop second (suc number) width_line (later_lines m) prior (address ∷ []) fit_in (λ n. refl) (rw narrowed at e)) ∙ rw (add-one number))

    pub tag_unwidthed : (v : ℕ) → 1 ≤ v → none ≡ width_answer → wrong (number + 1) ≡ tag_answer v
    tag_unwidthed v l e = stopped v l (ruled_wrong fit_in _ e)

    module _ (width : ℕ) (third : List ℕ) (last : some (read_to width third) ≡ width_answer) where
      pub tag_unfit : (v : ℕ) → 1 ≤ v → right_width (address ∷ []) width ≡ false → wrong (number + 1) ≡ tag_answer v
      unfolding fit_in
      tag_unfit v l f = stopped v l (ruled_out fit_in (read_to width third) _ last f)

      module _ (t : right_width (address ∷ []) width ≡ true) where
        widened : (m : ℕ) → read_lines number (version_of (suc m)).tag prior [] text ≡ read_lines (suc (suc number)) (later_lines m) prior (address ∷ width ∷ []) third
        unfolding fit_in
        widened m =
            let e : some (read_to width third) ≡ (ruled fit_in (line_behind (width_key ++ (equals ∷ [])) second)) = rw narrowed at (ruled_in fit_in (read_to width third) _ last t) in
            addressed m ∙ read_step second (suc number) width_line (later_lines m) prior (address ∷ []) fit_in (λ n. refl) width third e

        abbrev sign_answer : ℕ → Option Numbered
        sign_answer v = later_read v 2 third (sign_key ++ (equals ∷ [])) (cond (eqb width 16) 1 0)

        pub tag-unsigned : (v : ℕ) → 1 ≤ v → none ≡ sign_answer v → wrong (number + 2) ≡ tag_answer v
        unfolding tag_read
        tag-unsigned zero l e = absurd (omega arith)
        tag-unsigned (suc zero) l e = absurd (later_right 1 2 third _ _ (omega arith) e)
        tag-unsigned (suc (suc m)) l e =
            let line : suc (suc number) ≡ number + 2 = omega arith in
            sym (ap (tag_read) (widened (suc m)
            ∙ read_stop third (suc (suc number)) sign_line (take m (ttl_line ∷ strict_line ∷ [])) prior (address ∷ width ∷ []) _ (sign_rule width) (e ∙ later_asked (suc (suc m)) 2 third _ _ (omega arith))) ∙ ap wrong line)

        module _ (sign : ℕ) (fourth : List ℕ) where
          signed : (m : ℕ) → some (read_to sign fourth) ≡ sign_answer (suc (suc m))
              → read_lines number (version_of (suc (suc m))).tag prior [] text ≡ read_lines (suc (suc (suc number))) (take m (ttl_line ∷ strict_line ∷ [])) prior (address ∷ width ∷ sign ∷ []) fourth
          signed m e =
              widened (suc m)
              ∙ read_step third (suc (suc number)) sign_line (take m (ttl_line ∷ strict_line ∷ [])) prior (address ∷ width ∷ []) _ (sign_rule width) sign fourth (e ∙ later_asked (suc (suc m)) 2 third _ _ (omega arith))

          abbrev ttl_answer : ℕ → Option Numbered
          ttl_answer v = later_read v 3 fourth (ttl_key ++ (equals ∷ [])) most_ttl

          pub tag_untimed : (v : ℕ) → 1 ≤ v → some (read_to sign fourth) ≡ sign_answer v → none ≡ ttl_answer v → wrong (number + 3) ≡ tag_answer v
          unfolding tag_read
          tag_untimed zero l s e = absurd (omega arith)
          tag_untimed (suc zero) l s e = absurd (later_right 1 3 fourth _ _ (omega arith) e)
          tag_untimed (suc (suc zero)) l s e = absurd (later_right 2 3 fourth _ _ (omega arith) e)
          tag_untimed (suc (suc (suc m))) l s e =
              let line : suc (suc (suc number)) ≡ number + 3 = omega arith in
              sym (ap (tag_read) (signed (suc m) s
              ∙ read_stop fourth (suc (suc (suc number))) ttl_line (take m (strict_line ∷ [])) prior (address ∷ width ∷ sign ∷ []) _ (from_zero most_ttl) (e ∙ later_asked (suc (suc (suc m))) 3 fourth _ _ (omega arith))) ∙ ap wrong line)

          module _ (ttl : ℕ) (fifth : List ℕ) where
            timed : (m : ℕ) → some (read_to sign fourth) ≡ sign_answer (suc (suc (suc m))) → some (read_to ttl fifth) ≡ ttl_answer (suc (suc (suc m)))
                → read_lines number (version_of (suc (suc (suc m)))).tag prior [] text ≡ read_lines (suc (suc (suc (suc number)))) (take m (strict_line ∷ [])) prior (address ∷ width ∷ sign ∷ ttl ∷ []) fifth
            timed m s e =
                signed (suc m) s
                ∙ read_step fourth (suc (suc (suc number))) ttl_line (take m (strict_line ∷ [])) prior (address ∷ width ∷ sign ∷ []) _ (from_zero most_ttl) ttl fifth (e ∙ later_asked (suc (suc (suc m))) 3 fourth _ _ (omega arith))

            abbrev strict_answer : ℕ → Option Numbered
            strict_answer v = later_read v 4 fifth (strict_key ++ (equals ∷ [])) 1

            pub tag_unmarked : (v : ℕ) → 1 ≤ v → some (read_to sign fourth) ≡ sign_answer v → some (read_to ttl fifth) ≡ ttl_answer v → none ≡ strict_answer v → wrong (number + 4) ≡ tag_answer v
            unfolding tag_read
            tag_unmarked zero l s e f = absurd (omega arith)
            tag_unmarked (suc zero) l s e f = absurd (later_right 1 4 fifth _ _ (omega arith) f)
            tag_unmarked (suc (suc zero)) l s e f = absurd (later_right 2 4 fifth _ _ (omega arith) f)
            tag_unmarked (suc (suc (suc zero))) l s e f = absurd (later_right 3 4 fifth _ _ (omega arith) f)
            tag_unmarked (suc (suc (suc (suc m)))) l s e f =
                let line : suc (suc (suc (suc number))) ≡ number + 4 = omega arith in
                sym (ap (tag_read) (timed (suc m) s e
                ∙ read_stop fifth (suc (suc (suc (suc number)))) strict_line (take m []) prior (address ∷ width ∷ sign ∷ ttl ∷ []) _ (from_zero 1) (f ∙ later_asked (suc (suc (suc (suc m)))) 4 fifth _ _ (omega arith))) ∙ ap wrong line)

            module _ (strict : ℕ) (next : List ℕ) where
              -- the numbers of the lines that there are, and 0 for the others
              told_in : (v : ℕ) (ns end : List ℕ) → read_lines number (version_of v).tag prior [] text ≡ got ns end → got (tag_from ns) end ≡ tag_answer v
              unfolding tag_read
              told_in v ns end e = sym (ap tag_read e)

              pub tag_fit : (v : ℕ) → 1 ≤ v → some (read_to sign fourth) ≡ sign_answer v → some (read_to ttl fifth) ≡ ttl_answer v → some (read_to strict next) ≡ strict_answer v → got (record { address = address; width = width; sign = sign; ttl = ttl; strict = strict }) next ≡ tag_answer v
              unfolding read_lines
              tag_fit zero l s e f = absurd (omega arith)
              tag_fit (suc zero) l s e f =
                  let x = later-none 1 2 third _ _ sign fourth s (omega arith) in
                  let y = later-none 1 3 fourth _ _ ttl fifth e (omega arith) in
                  let z = later-none 1 4 fifth _ _ strict next f (omega arith) in
                  rw (x.0, y.0, z.0, z.1, y.1, x.1) (told_in 1 (address ∷ width ∷ []) third (widened 0))
              tag_fit (suc (suc zero)) l s e f =
                  let y = later-none 2 3 fourth _ _ ttl fifth e (omega arith) in
                  let z = later-none 2 4 fifth _ _ strict next f (omega arith) in
                  rw (y.0, z.0, z.1, y.1) (told_in 2 (address ∷ width ∷ sign ∷ []) fourth (signed 0 s))
              tag_fit (suc (suc (suc zero))) l s e f =
                  let z = later-none 3 4 fifth _ _ strict next f (omega arith) in
                  rw (z.0, z.1) (told_in 3 (address ∷ width ∷ sign ∷ ttl ∷ []) fifth (timed 0 s e))
              tag_fit (suc (suc (suc (suc m)))) l s e f =
                  let asked = f ∙ later_asked (suc (suc (suc (suc m)))) 4 fifth _ _ (omega arith) in
                  let none : ◌≡◌ {A = List Line} (take m []) [] = take-nil m in
                  told_in (suc (suc (suc (suc m)))) (address ∷ width ∷ sign ∷ ttl ∷ strict ∷ []) next
                  (timed (suc m) s e
                  ∙ read_step fifth (suc (suc (suc (suc number)))) strict_line (take m []) prior (address ∷ width ∷ sign ∷ ttl ∷ []) _ (from_zero 1) strict next asked
                  ∙ rw none)

-- what an answer of a tag's lines says

wrong-only : {j i : ℕ} → ◌≡◌ {A = Read Tag} (wrong j) (wrong i) → j ≡ i
wrong-only e = cc

pub untagged : (j : ℕ) (o : Read (List ℕ)) → wrong j ≡ tag_read o → o ≡ wrong j
unfolding tag_read
untagged j (wrong i) e = ap wrong (sym (wrong-only e))
untagged j (got own r) e = never (cc)

-- the lowest address behind a tag is one register for each 16 bits further
first_two : (ls : List Line) (prior ns : List ℕ) → length ns ≡ length (address_line ∷ width_line ∷ ls) → all_right (address_line ∷ width_line ∷ ls) prior [] ns ≡ true → lowest ns ≡ get_or ns 0 0 + get_or ns 1 0 / 16
unfolding all_right lowest
first_two ls prior [] c r = absurd (omega arith)
first_two ls prior (a ∷ []) c r = absurd (omega arith)
first_two ls prior (a ∷ w ∷ ns) c r =
    ⊎_elim (λ (e : w ≡ 16). rw e) (λ (e : w ≡ 32). rw e (omega arith)) (widths (a ∷ []) w (and_left (right_width (a ∷ []) w) _ (and_right (right_addr prior a) _ r)))

pub record TagTold (text prior : List ℕ) (v number : ℕ) (t : Tag) (next : List ℕ) : Type 0 where
  pub own : List ℕ
  pub read : read_lines number (version_of v).tag prior [] text ≡ got own next
  pub tag : tag_from own ≡ t
  pub low : lowest own ≡ t.address + t.width / 16

got_pair : {t u : Tag} {m n : List ℕ} → ◌≡◌ {A = Read Tag} (got t m) (got u n) → (t ≡ u) × (m ≡ n)
got_pair e = (cc, cc)

pub tagged : (text prior : List ℕ) (v number : ℕ) (t : Tag) (next : List ℕ) → 1 ≤ v → v < addresses
    → got t next ≡ tag_read (read_lines number (version_of v).tag prior [] text) → TagTold text prior v number t next
unfolding tag_read
tagged text prior zero number t next o b e = absurd (omega arith)
tagged text prior (suc m) number t next o b e = go (read_lines number (version_of (suc m)).tag prior [] text) refl
  where
    -- the first two numbers
    behind_two : (ns : List ℕ) → length ns ≡ length (version_of (suc m)).tag → all_right (version_of (suc m)).tag prior [] ns ≡ true → lowest ns ≡ get_or ns 0 0 + get_or ns 1 0 / 16
    behind_two ns c r = first_two (later_lines m) prior ns c r

    go : (o : Read (List ℕ)) → read_lines number (version_of (suc m)).tag prior [] text ≡ o → TagTold text prior (suc m) number t next
    go (wrong j) q = never (cc (rw q at e))
    go (got own r) q =
        let f = got_pair (rw q at e) in
        let l = lines_only number (version_of (suc m)).tag prior [] text own r (fit (suc m) b).tag_bounded q in
        let c : length own ≡ length (version_of (suc m)).tag = ap length l.whole ∙ l.all in
        let right : all_right (version_of (suc m)).tag prior [] own ≡ true = rw l.whole l.right in
        record {
          own = own;
          read = q ∙ ap (got own) (sym f.1);
          tag = sym f.0;
          low = rw f.0 (behind_two own c right);
        }
