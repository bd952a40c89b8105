-- The writer's parts: decimals of any number of digits, lines, tags and the whole text, their lengths and how they are laid over the buffer.
-- Assumes nothing.
use Rattle.std.specs.Prelude.{Ok, Err, Option, Some, None, IsSome, IfSome}
use Rattle.std.specs.Option.{unwrap_or}
use Prim.Native.Nat.{ℕ, zero, suc, ◌+◌, ◌*◌, ◌-◌, ◌/◌, ◌%◌, ◌^◌, ◌≤◌, ◌<◌}
use mathlib.Core.Path.{◌≡◌, refl, ap, sym, ◌∙◌}
use mathlib.Core.Logic.{⊎_elim, ◌↔◌}
use mathlib.Core.Bool.{Bool, true, false, false≢true}
use mathlib.Core.List.{List, [], ◌∷◌, ◌++◌, flat_map, append_assoc, append-nil}
use native.Mathlib.Nat.{pow-succ', one-le-pow, pow-le-pow_right, zero-add, add-zero}
use native.Mathlib.Numerals.{add-one}
use native.Mathlib.Omega.{arith}
use lib.ListN.{length, set, length-append, take, get_or}
use lib.Seq.{take-suc}
use borrow.Author.Tests.{lt-ltb, le-ltb}
use Rattle.laws.specs.Lists.{tab}
use Rattle.laws.specs.Bytes.{over_at, over}
use Rattle.laws.proofs.Choice.{lt_or}
use Rattle.laws.proofs.ListLaws.{length-tab, flat_map_more}
use Rattle.settings.specs.Lines.{equals, line_feed, digit_zero, decimal_of, decimal, line_of}
use Rattle.settings.specs.Grammar.{Tag, Value, newest, version_key, timeout_key, join_key, tags_key, addr_key, width_key, sign_key, ttl_key, strict_key, text_of_lines, text_in, valid}
use Rattle.settings.specs.declared.Settings.{Settings}
use Rattle.settings.specs.Values.{value_of}
use Rattle.settingstext.specs.TextWritten.{writing, written_to}
use Rattle.settingstext.specs.declared.writing.WriteError.TheVariants.{TooShort, Invalid}
use Rattle.settingstext.specs.declared.writing.Writer.{Writer}
use Rattle.settingstext.specs.inner.Parts.{Laid, Room, Lays, head_text, tag_text, tags_text}
use Rattle.settings.proofs.ValueLaws.{tag_at}
use Rattle.laws.proofs.ByteLaws.{over_at-none, length-over_at, over_at_front, over_at-behind, over_at-over}

pub decimal_most : (k n : ℕ) → length (decimal_of k n) ≤ k
unfolding decimal_of
decimal_most zero n = omega arith
decimal_most (suc k) n =
    ⊎_elim
    (λ l. rw (lt-ltb n 10 l) (omega arith))
    (λ l. rw (le-ltb n 10 l) (omega (arith, length-append (decimal_of k (n / 10)) ((digit_zero + n % 10) ∷ []), decimal_most k (n / 10))))
    (lt_or n 10)

-- how many digits a number has, by its power of ten
digits-log : (e k n : ℕ) → 10 ^ e ≤ n → n < 10 ^ suc e → e < k → length (decimal_of k n) ≡ e + 1
unfolding decimal_of
digits-log e zero n l h r = absurd (omega arith)
digits-log zero (suc k) n l h r = rw (lt-ltb n 10 (omega (arith, pow-succ' 10 0))) refl
digits-log (suc e) (suc k) n l h r =
    let one : 1 ≤ 10 ^ e = one-le-pow e 10 (omega arith) in
    let many : 10 ≤ n = omega (arith, pow-succ' 10 e) in
    let rest = digits-log e k (n / 10) (omega (arith, pow-succ' 10 e)) (omega (arith, pow-succ' 10 (suc e))) (omega arith) in
    rw (le-ltb n 10 many) (omega (arith, rest, length-append (decimal_of k (n / 10)) ((digit_zero + n % 10) ∷ [])))

-- the logarithm of a number of 32 bits tells how many: 0 has none, and one digit
pub digits_counted : (n : ℕ) (log : Option ℕ) → n < 2 ^ 32 → (IsSome log ↔ ((0 < n) × (2 ≤ 10))) → IfSome log (λ k. 10 ^ k ≤ n) → IfSome log (λ k. n < 10 * 10 ^ k) → unwrap_or log 0 + 1 ≡ length (decimal n)
unfolding decimal_of
digits_counted n None h some low high =
    let none : n ≡ 0 = ⊎_elim (λ (l : 0 < n). absurd (false≢true (some.1 (l, omega arith)))) (λ (l : n ≤ 0). omega arith) (lt_or 0 n) in
    rw none refl
digits_counted n (Some e) h some low high =
    let few : e < 20 = ⊎_elim (λ (l : e < 20). l) (λ (l : 20 ≤ e). absurd (let more : 10 ^ 20 ≤ 10 ^ e = pow-le-pow_right (omega arith) l in omega arith)) (lt_or e 20) in
    sym (digits-log e 20 n low (omega (arith, pow-succ' 10 e)) few)

-- a number from a power of ten up to the next has one more than that power
pub digits_ranged : (e n : ℕ) → e < 20 → 10 ^ e ≤ n → n < 10 ^ suc e → e + 1 ≡ length (decimal n)
digits_ranged e n few least most = sym (digits-log e 20 n least most few)

-- a number below ten has one
pub decimal_one : (n : ℕ) → n < 10 → (digit_zero + n % 10) ∷ [] ≡ decimal n
unfolding decimal_of
decimal_one n l = let e : n % 10 ≡ n = omega arith in rw (lt-ltb n 10 l, e) refl

-- the last k digits of a number are its decimal, where it has so many
pub lasts : ℕ → ℕ → List ℕ
lasts zero n = []
lasts (suc k) n = lasts k (n / 10) ++ ((digit_zero + n % 10) ∷ [])

lasts_all : (k n : ℕ) → decimal_of k n ≡ lasts (length (decimal_of k n)) n
unfolding decimal_of lasts
lasts_all zero n = refl
lasts_all (suc k) n =
    ⊎_elim
    (λ (l : n < 10). let e : n % 10 ≡ n = omega arith in rw (lt-ltb n 10 l) (rw e refl))
    (λ (l : 10 ≤ n).
    let m : length (decimal_of k (n / 10) ++ ((digit_zero + n % 10) ∷ [])) ≡ suc (length (decimal_of k (n / 10))) = omega (arith, length-append (decimal_of k (n / 10)) ((digit_zero + n % 10) ∷ [])) in
    rw (le-ltb n 10 l, m) (ap (λ (x : List ℕ). x ++ ((digit_zero + n % 10) ∷ [])) (lasts_all k (n / 10))))
    (lt_or n 10)

-- how long the parts are
pub length-line : (key : List ℕ) (n : ℕ) → length (line_of key n) ≡ length key + 1 + length (decimal n) + 1
unfolding line_of
length-line key n = omega (arith, length-append key (equals ∷ decimal n ++ (line_feed ∷ [])), length-append (decimal n) (line_feed ∷ []))

pub line_most : (key : List ℕ) (n : ℕ) → length (line_of key n) ≤ length key + 22
line_most key n = omega (arith, length-line key n, decimal_most 20 n)

pub head_lines_lem : (timeout join tags : ℕ) → head_text timeout join tags ≡ line_of version_key newest.number ++ (line_of timeout_key timeout ++ (line_of join_key join ++ line_of tags_key tags))
unfolding head_text text_of_lines
head_lines_lem timeout join tags = rw append-nil

pub tag_lines_lem : (t : Tag) → tag_text t ≡ line_of addr_key t.address ++ (line_of width_key t.width ++ (line_of sign_key t.sign ++ (line_of ttl_key t.ttl ++ line_of strict_key t.strict)))
unfolding tag_text text_of_lines
tag_lines_lem t = rw append-nil

pub length_head : (timeout join tags : ℕ) → length (head_text timeout join tags) ≡ length (line_of version_key newest.number) + length (line_of timeout_key timeout) + length (line_of join_key join) + length (line_of tags_key tags)
length_head timeout join tags =
    rw (head_lines_lem timeout join tags)
    (omega (
      arith,
      length-append (line_of version_key newest.number) (line_of timeout_key timeout ++ (line_of join_key join ++ line_of tags_key tags)),
      length-append (line_of timeout_key timeout) (line_of join_key join ++ line_of tags_key tags),
      length-append (line_of join_key join) (line_of tags_key tags),
    ))

pub length-tag : (t : Tag) → length (tag_text t) ≡ length (line_of addr_key t.address) + length (line_of width_key t.width) + length (line_of sign_key t.sign) + length (line_of ttl_key t.ttl) + length (line_of strict_key t.strict)
length-tag t =
    rw (tag_lines_lem t)
    (omega (
      arith,
      length-append (line_of addr_key t.address) (line_of width_key t.width ++ (line_of sign_key t.sign ++ (line_of ttl_key t.ttl ++ line_of strict_key t.strict))),
      length-append (line_of width_key t.width) (line_of sign_key t.sign ++ (line_of ttl_key t.ttl ++ line_of strict_key t.strict)),
      length-append (line_of sign_key t.sign) (line_of ttl_key t.ttl ++ line_of strict_key t.strict),
      length-append (line_of ttl_key t.ttl) (line_of strict_key t.strict),
    ))

-- the text of a place, and of the first k places
abbrev pub place_text : Settings → ℕ → List ℕ
place_text s k = tag_text (tag_at s k)

abbrev pub tags_to : Settings → ℕ → List ℕ
tags_to s k = tags_text (tab k (tag_at s))

-- the text is that of the head and that of the tags
pub text_parts : (s : Settings) → text_in newest (value_of s) ≡ head_text s.timeout s.join s.tags ++ tags_to s s.tags
unfolding text_in value_of head_text tag_text tags_text
text_parts s =
    rw (length-tab s.tags (tag_at s))
    (sym (append_assoc (line_of version_key newest.number) (text_of_lines newest.head (s.timeout ∷ s.join ∷ s.tags ∷ [])) (tags_text (tab s.tags (tag_at s)))))

pub length_text : (s : Settings) → length (text_in newest (value_of s)) ≡ length (head_text s.timeout s.join s.tags) + length (tags_to s s.tags)
length_text s = ap length (text_parts s) ∙ length-append (head_text s.timeout s.join s.tags) (tags_to s s.tags)

tags-none : (s : Settings) → tags_to s 0 ≡ []
unfolding tags_text flat_map tab
tags-none s = refl

tags_more : (s : Settings) (k : ℕ) → tags_to s (k + 1) ≡ tags_to s k ++ place_text s k
unfolding tags_text
tags_more s k = flat_map_more tag_text k (tag_at s)

length_more : (s : Settings) (k : ℕ) → length (tags_to s (k + 1)) ≡ length (tags_to s k) + length (place_text s k)
length_more s k = ap length (tags_more s k) ∙ length-append (tags_to s k) (place_text s k)

-- the text of some of the tags is no longer than that of all
longer : (s : Settings) (k d : ℕ) → length (tags_to s k) ≤ length (tags_to s (k + d))
longer s k zero = rw (add-zero k) (omega arith)
longer s k (suc d) =
    let e : k + suc d ≡ k + d + 1 = omega arith in
    rw e (omega (arith, longer s k d, length_more s (k + d)))

tags-some : (s : Settings) (k : ℕ) → k ≤ s.tags → length (tags_to s k) ≤ length (tags_to s s.tags)
tags-some s k h = let e : k + (s.tags - k) ≡ s.tags = omega arith in rw e at (longer s k (s.tags - k))

-- writing digits from the last one on: those that stand already, from a place on, and those of what is left in front of it
pub record Digits (n : ℕ) (before now : Writer) (left place : ℕ) : Type 0 where
  pub same : now.text.ghost_name ≡ before.text.ghost_name
  pub here : now.at ≡ before.at
  pub within : before.at ≤ place
  pub done : List ℕ
  pub whole : decimal n ≡ lasts (place - before.at) left ++ done
  pub bytes : now.text.now ≡ over_at done place before.text.now
  pub meets : place + length done ≡ before.at + length (decimal n)
  pub fits : Room (length (decimal n)) before

pub digits-none : (n : ℕ) (w : Writer) (place : ℕ) → Room (length (decimal n)) w → place ≡ w.at + length (decimal n) → Digits n w w n place
digits-none n w place f e =
    let k : place - w.at ≡ length (decimal n) = omega arith in
    record { same = refl; here = refl; within = omega arith; done = []; whole = rw k (lasts_all 20 n ∙ sym (append-nil _)); bytes = sym (over_at-none place w.text.now); meets = omega arith; fits = f }

module _ {n : ℕ} {b a : Writer} {left place : ℕ} (w : Digits n b a left place) where
  digits_long : length a.text.now ≡ length b.text.now
  digits_long = ap length w.bytes ∙ length-over_at w.done place b.text.now (omega (arith, w.meets, w.fits))

  module _ (more : b.at < place) where
    pub digits_more : {c : Writer} → c.text.ghost_name ≡ a.text.ghost_name → c.at ≡ a.at → c.text.now ≡ set a.text.now (place - 1) (digit_zero + left % 10) → Digits n b c (left / 10) (place - 1)
    unfolding lasts
    digits_more {c} s h t =
        let x : ℕ = digit_zero + left % 10 in
        let k : place - b.at ≡ suc (place - 1 - b.at) = omega arith in
        let p : place - 1 + 1 ≡ place = omega arith in
        let whole : decimal n ≡ lasts (suc (place - 1 - b.at)) left ++ w.done = rw k at w.whole in
        let front : set (over_at w.done (place - 1 + 1) b.text.now) (place - 1) x ≡ over_at (x ∷ w.done) (place - 1) b.text.now = over_at_front w.done (place - 1) b.text.now x (omega (arith, w.meets, w.fits)) in
        record {
          same = s ∙ w.same;
          here = h ∙ w.here;
          within = omega arith;
          done = x ∷ w.done;
          whole = whole ∙ append_assoc (lasts (place - 1 - b.at) (left / 10)) (x ∷ []) w.done;
          bytes = t ∙ ap (λ (y : List ℕ). set y (place - 1) x) w.bytes ∙ rw p at front;
          meets = omega (arith, w.meets);
          fits = w.fits;
        }

-- measuring the text: so far, and no more than fits a number
pub record Measured (s : Settings) (size k : ℕ) : Type 0 where
  pub within : k ≤ s.tags
  pub all : size ≡ length (head_text s.timeout s.join s.tags) + length (tags_to s k)
  pub most : size ≤ 110 + 132 * k

pub measured_none : (s : Settings) (size : ℕ) → size ≡ length (head_text s.timeout s.join s.tags) → Measured s size 0
measured_none s size e =
    record {
      within = omega arith;
      all = omega (arith, ap length (tags-none s));
      most = omega (
        arith,
        length_head s.timeout s.join s.tags,
        line_most version_key newest.number,
        line_most timeout_key s.timeout,
        line_most join_key s.join,
        line_most tags_key s.tags,
      );
    }

pub measured_more : {s : Settings} {size size' k : ℕ} → k < s.tags → Measured s size k → size' ≡ length (place_text s k) → Measured s (size + size') (k + 1)
measured_more {s} {size} {size'} {k} h w e =
    record {
      within = omega arith;
      all = omega (arith, e, w.all, length_more s k);
      most = omega (
        arith,
        e,
        w.most,
        length-tag (tag_at s k),
        line_most addr_key (tag_at s k).address,
        line_most width_key (tag_at s k).width,
        line_most sign_key (tag_at s k).sign,
        line_most ttl_key (tag_at s k).ttl,
        line_most strict_key (tag_at s k).strict,
      );
    }

pub measured_all : {s : Settings} {size k : ℕ} → s.tags ≤ k → Measured s size k → size ≡ length (text_in newest (value_of s))
measured_all {s} {size} {k} h w =
    let e : k ≡ s.tags = omega (arith, w.within) in
    let a = rw e at w.all in
    a ∙ sym (length_text s)

-- one part behind another
pub laid_then : {w v : List ℕ} {at : ℕ} {b m a : List ℕ} {next end : ℕ} → at ≤ length b → Laid w at b m next → Laid v next m a end → Laid (w ++ v) at b a end
laid_then {w} {v} {at} {b} {m} {a} {next} {end} h x y =
    record { bytes = y.bytes ∙ rw (x.behind, x.bytes) (over_at-behind w v at b h); behind = omega (arith, x.behind, y.behind, length-append w v) }

pub lays_then : {w v : List ℕ} {b m a : Writer} → b.at ≤ length b.text.now → Lays w b m → Lays v m a → Lays (w ++ v) b a
lays_then h x y = record { same = y.same ∙ x.same; long = y.long ∙ x.long; laid = laid_then h x.laid y.laid }

pub lays_line : (n : ℕ) {key : List ℕ} {b m₁ m₂ m₃ a : Writer} → b.at ≤ length b.text.now → Lays key b m₁ → Lays (equals ∷ []) m₁ m₂ → Lays (decimal n) m₂ m₃ → Lays (line_feed ∷ []) m₃ a → Lays (line_of key n) b a
unfolding line_of
lays_line n h x y z t = simp append_assoc at (lays_then h (lays_then h (lays_then h x y) z) t)

pub lays_head : (timeout join tags : ℕ) {b m₁ m₂ m₃ a : Writer} → b.at ≤ length b.text.now
    → Lays (line_of version_key newest.number) b m₁ → Lays (line_of timeout_key timeout) m₁ m₂ → Lays (line_of join_key join) m₂ m₃ → Lays (line_of tags_key tags) m₃ a
    → Lays (head_text timeout join tags) b a
lays_head timeout join tags h x y z t = rw (head_lines_lem timeout join tags) (simp append_assoc at (lays_then h (lays_then h (lays_then h x y) z) t))

pub lays_tag : (g : Tag) {b m₁ m₂ m₃ m₄ a : Writer} → b.at ≤ length b.text.now
    → Lays (line_of addr_key g.address) b m₁ → Lays (line_of width_key g.width) m₁ m₂ → Lays (line_of sign_key g.sign) m₂ m₃ → Lays (line_of ttl_key g.ttl) m₃ m₄ → Lays (line_of strict_key g.strict) m₄ a
    → Lays (tag_text g) b a
lays_tag g h x y z t u = rw (tag_lines_lem g) (simp append_assoc at (lays_then h (lays_then h (lays_then h (lays_then h x y) z) t) u))

-- writing bytes: the first k stand
pub bytes_none : (s : List ℕ) (b : Writer) → Lays (take 0 s) b b
bytes_none s b = record { same = refl; long = refl; laid = record { bytes = sym (over_at-none b.at b.text.now); behind = omega arith } }

pub bytes_more : (s : List ℕ) {b m a : Writer} {k : ℕ} → b.at ≤ length b.text.now → k < length s → Lays (take k s) b m → Lays (get_or s k 0 ∷ []) m a → Lays (take (k + 1) s) b a
bytes_more s {k = k} h l w x = rw (add-one k, take-suc s k 0 l) (lays_then h w x)

-- writing the tags: the first k stand
pub record Written (s : Settings) (before now : Writer) (k : ℕ) : Type 0 where
  pub within : k ≤ s.tags
  pub room : Room (length (tags_to s s.tags)) before
  pub stands : Lays (tags_to s k) before now

pub written_none : (s : Settings) (b : Writer) → Room (length (tags_to s s.tags)) b → Written s b b 0
written_none s b h =
    record {
      within = omega arith;
      room = h;
      stands = rw (tags-none s) (record { same = refl; long = refl; laid = record { bytes = sym (over_at-none b.at b.text.now); behind = omega arith } });
    }

pub written_more : {s : Settings} {b m a : Writer} {k : ℕ} → k < s.tags → Written s b m k → Lays (place_text s k) m a → Written s b a (k + 1)
written_more {s} {k = k} h w x = record { within = omega arith; room = w.room; stands = rw (tags_more s k) (lays_then (omega (arith, w.room)) w.stands x) }

pub written_all : {s : Settings} {b a : Writer} {k : ℕ} → s.tags ≤ k → Written s b a k → Lays (tags_to s s.tags) b a
written_all {s} {k = k} h w = let e : k ≡ s.tags = omega (arith, w.within) in rw e at w.stands

-- one tag more has its place
pub tag-room : {s : Settings} {b a : Writer} {k : ℕ} → k < s.tags → Written s b a k → Room (length (place_text s k)) a
tag-room {s} {k = k} h w = omega (arith, w.room, tags-some s (k + 1) (omega arith), length_more s k)

pub lays_text : (s : Settings) {b m a : Writer} → b.at ≤ length b.text.now → Lays (head_text s.timeout s.join s.tags) b m → Lays (tags_to s s.tags) m a → Lays (text_in newest (value_of s)) b a
lays_text s h x y = rw (text_parts s) (lays_then h x y)

-- what writing comes to: an invalid value, a text that does not fit, the text
pub wrote_invalid : (v : Value) (b : List ℕ) {right : Bool} → right ≡ valid v → right ≡ false → writing (Err Invalid) b ≡ written_to v b
unfolding written_to
wrote_invalid v b e f = rw (← e) (rw f refl)

pub wrote_short : (v : Value) (b : List ℕ) {right : Bool} {size : ℕ} → right ≡ valid v → right ≡ true → size ≡ length (text_in newest v) → length b < size → writing (Err TooShort) b ≡ written_to v b
unfolding written_to
wrote_short v b {size = size} e t q h = rw (← e, t, ← q, lt-ltb (length b) size h)

pub wrote_text_lem : (v : Value) {b a now : List ℕ} {right : Bool} {size end : ℕ} → right ≡ valid v → right ≡ true → size ≡ length (text_in newest v) → size ≤ length b → Laid (text_in newest v) 0 b a end → now ≡ a
    → writing (Ok end) now ≡ written_to v b
unfolding written_to
wrote_text_lem v {b} {a} {now} {end = end} e t q h w l =
    let n : end ≡ length (text_in newest v) = w.behind ∙ zero-add (length (text_in newest v)) in
    let o : now ≡ over (text_in newest v) b = l ∙ w.bytes ∙ over_at-over (text_in newest v) b in
    rw (← e, t, n, o, le-ltb (length b) (length (text_in newest v)) (omega arith))
