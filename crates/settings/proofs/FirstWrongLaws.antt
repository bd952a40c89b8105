-- In plain words, which do not mention the reader: the line that it reports is the first wrong line of the text, and the value that it gives is the one that the numbers of the lines tell.
-- Assumes nothing.
use Prim.Native.Nat.{ℕ, zero, suc, ◌+◌, ◌*◌, ◌≤◌, ◌<◌}
use mathlib.Core.Path.{◌≡◌, refl, ap, sym, subst, ◌∙◌}
use mathlib.Core.Logic.{◌↔◌, ◌⊎◌, inl, inr}
use mathlib.Core.Bool.{true}
use mathlib.Core.Option.{Option, some, none, some-ne-none}
use mathlib.Core.List.{List, [], ◌∷◌, ◌++◌, append_assoc, append-nil}
use native.Mathlib.Omega.{arith}
use lib.ListN.{length, get_or, take, length-append}
use lib.Seq.{length-take-le}
use Rattle.settings.specs.Lines.{Numbered, line_in}
use Rattle.settings.specs.Grammar.{Tag, Value, Line, Version, Read, tag_from, value_from, version_key, head_lines, tag_lines, version_of, versions, version_in, ruled, read_lines, read_tags, read_text}
use Rattle.settings.specs.Grammar.Read.{got, wrong}
use Rattle.settings.specs.Plain.{Right, Next, Lines, AllLines, Reads, FirstWrong, numbered, Versioned}
use Rattle.settings.proofs.RowLaws.{ruled_follows, ruled-some, line_wrong, line_right, onto, tag_wrong, tag_right}
use Rattle.settings.proofs.VersionLaws.{Listed, by_number, version_listed, tags_in, Went, went}
use Rattle.settings.proofs.VersionLaws.Went.{unversioned, in_head, in_tags, extra, whole}
use Rattle.settings.proofs.PlainLines.{line_exactly, key_at, follows, listed_bounds, first-line, none_known, all_known, one_more, next_read, one_end, nothing_follows}
use Rattle.settings.proofs.ReadsLaws.{Tagged, tagged_long, reads, reads_one}
use Rattle.settings.proofs.PlaceLaws.{Place, Row, Headed, head_row, all, Begun, Done, tag_lines_lem}

module _ (text : List ℕ) where
  -- what lines come to: the first wrong line, or right ones and what is known behind them
  abbrev LinesTold : (P : List ℕ → List ℕ → Type 0) → Read (List ℕ) → Type 0
  LinesTold P (wrong k) = FirstWrong text k
  LinesTold P (got own r) = (above : List ℕ) × Lines [] text above r × P above own

  place_wrong : (l : Line) (at : ℕ) (above prior own r : List ℕ) → at ≡ length above + 1 → Lines [] text above r → Place l above prior own
      → ruled (l.right prior own) (line_in l.key r) ≡ none → FirstWrong text at
  place_wrong l at above prior own r e c p h =
      record { numbers = above; rest = r; above = c; at = e; wrong = next; left = λ a z. p.unfinished a }
    where
      next : Next above r → ⊥
      next a =
          let k = all_known c in
          let key : a.0 ≡ l.key = (follows k a.6).0 ∙ sym p.key in
          let right : l.right prior own a.1 ≡ true = (p.rule a.1).1 (rw key at a.6) in
          let line : line_in l.key r ≡ some (numbered a.1 a.3) = rw p.key (next_read k a) in
          some-ne-none _ (sym (ruled-some (l.right prior own) _ _ line right) ∙ h)

  lines_told : (P : List ℕ → List ℕ → Type 0) (ls : List Line) (at : ℕ) (above prior own r : List ℕ) → at ≡ length above + 1 → Lines [] text above r → Row P ls above prior own
      → LinesTold P (read_lines at ls prior own r)
  unfolding read_lines
  lines_told P [] at above prior own r e c w = (above, c, w)
  lines_told P (l ∷ ls) at above prior own r e c w =
      go (ruled (l.right prior own) (line_in l.key r)) refl (λ n q. lines_told P ls (suc at) (above ++ (n ∷ [])) prior (own ++ (n ∷ [])) q (simp length-append (omega arith)))
    where
      go : (o : Option Numbered) → ruled (l.right prior own) (line_in l.key r) ≡ o
          → ((n : ℕ) (q : List ℕ) → Lines [] text (above ++ (n ∷ [])) q → Row P ls (above ++ (n ∷ [])) prior (own ++ (n ∷ [])) → LinesTold P (read_lines (suc at) ls prior (own ++ (n ∷ [])) q))
          → LinesTold P (read_lines at (l ∷ ls) prior own r)
      go none h i = rw (line_wrong at l ls prior own r h) (place_wrong l at above prior own r e c w.0 h)
      go (some x) h i =
          let k = ruled_follows (l.right prior own) (line_in l.key r) x h in
          let right = (w.0.rule x.number).0 k.1 in
          let line = (line_exactly l.key r x.number x.rest).0 k.0 in
          rw (line_right at l ls prior own r x h) (i x.number x.rest (one_more c line.1 line.2 right) (w.1 x.number right))

  -- what tags come to behind those with the numbers `start`: the first wrong line, or right ones to the last, of which they were read
  abbrev TagsTold : (v t j m : ℕ) (start : List ℕ) → Read (List Tag) → Type 0
  TagsTold v t j m start (wrong k) = FirstWrong text k
  TagsTold v t j m start (got ts r) = (ms : List ℕ) × Lines [] text (all v t j m (start ++ ms)) r × AllLines (all v t j m (start ++ ms)) × Tagged (v + 1) ts ms

  tag_onto : (v t j m : ℕ) (start own : List ℕ) → length own ≡ v + 1 → (o : Read (List Tag)) → TagsTold v t j m (start ++ own) o → TagsTold v t j m start (onto (tag_from own ∷ []) o)
  unfolding onto
  tag_onto v t j m start own c (wrong k) w = w
  tag_onto v t j m start own c (got ts r) w =
      let same = append_assoc start own w.0 in
      (own ++ w.0, rw same at w.1, rw same at w.2, Tagged.more own c w.3)

module _ (text : List ℕ) (v t j m : ℕ) (least : 1 ≤ v) (most : v < length tag_lines) where
  tags-told : (n i at : ℕ) (prior start r : List ℕ) → n + i ≡ m → at ≡ 5 + length start → Begun v t j m i prior start → Lines [] text (all v t j m start) r
      → TagsTold text v t j m start (read_tags n at (take (suc v) tag_lines) prior r)
  unfolding read_tags
  tags-told zero i at prior start r e f b c =
      let same : i ≡ m = omega arith in
      let long : length start ≡ m * (v + 1) = rw same at b.long in
      ([], rw (append-nil start) c, rw (append-nil start) (omega arith, omega arith), Tagged.none)
  tags-told (suc n) i at prior start r e f b c =
      go (read_lines at (take (suc v) tag_lines) prior [] r) refl
      (lines_told text (Done v t j m i start) (take (suc v) tag_lines) at (all v t j m start) prior [] r (omega arith) c (tag_lines_lem v t j m i prior start least most (omega arith) b))
      (λ own q. tags-told n (suc i) (at + length (take (suc v) tag_lines)) own (start ++ own) q (omega arith))
    where
      go : (o : Read (List ℕ)) → read_lines at (take (suc v) tag_lines) prior [] r ≡ o → LinesTold text (Done v t j m i start) o
          → ((own q : List ℕ) → at + length (take (suc v) tag_lines) ≡ 5 + length (start ++ own) → Begun v t j m (suc i) own (start ++ own) → Lines [] text (all v t j m (start ++ own)) q
          → TagsTold text v t j m (start ++ own) (read_tags n (at + length (take (suc v) tag_lines)) (take (suc v) tag_lines) own q))
          → TagsTold text v t j m start (read_tags (suc n) at (take (suc v) tag_lines) prior r)
      go (wrong k) h w next = rw (tag_wrong n at (take (suc v) tag_lines) prior r k h) w
      go (got own q) h w next =
          let d = w.2 in
          let lines : length (take (suc v) tag_lines) ≡ suc v = length-take-le (suc v) tag_lines (omega arith) in
          rw (tag_right n at (take (suc v) tag_lines) prior r own q h)
          (tag_onto text v t j m start own d.count _ (next own q (omega (arith, b.long, d.begun.long)) d.begun (rw d.whole at w.1)))

-- a version is found in the list
listed_found : {n : ℕ} → Listed n → version_in versions n ≡ none → ⊥
listed_found {n} l h = some-ne-none _ (sym (version_listed n l) ∙ h)

-- a text

module _ (text : List ℕ) where
  -- what a text comes to
  abbrev Judged : Read Value → Type 0
  Judged (wrong k) = FirstWrong text k
  Judged (got v r) = (r ≡ []) × ((ns : List ℕ) × Lines [] text ns [] × AllLines ns × Reads ns v)

  unversioned_told : ((y : Numbered) → line_in version_key text ≡ some y → version_in versions y.number ≡ none) → FirstWrong text 1
  unfolding key_at
  unversioned_told h = record { numbers = []; rest = text; above = Lines.none; at = refl; wrong = next; left = λ a z. omega (arith, a.0) }
    where
      next : Next [] text → ⊥
      next a = listed_found (first-line a.6) (h (numbered a.1 a.3) (next_read none_known a))

  -- behind the version line: the lines before the tags, and those of the tags
  module _ (y : Numbered) (x : Version) (w : Versioned text y x) where
    listed_version : (x ≡ version_of y.number) × Listed y.number
    listed_version =
        let of = by_number (λ z. (z ≡ version_of z.number) × Listed z.number) (λ n l. (refl, l)) x w.listed in
        (of.0 ∙ ap version_of w.number, rw w.number at of.1)

    heads_told : (o : Read (List ℕ)) → read_lines 2 x.head [] [] y.rest ≡ o → LinesTold text (Headed y.number) o
    heads_told o e =
        let line = (line_exactly version_key text y.number y.rest).0 w.line in
        let first : Lines [] text (y.number ∷ []) y.rest = one_more Lines.none line.1 line.2 (Right.version listed_version.1.0 listed_version.1.1) in
        subst (LinesTold text (Headed y.number)) (ap (λ (z : Version). read_lines 2 z.head [] [] y.rest) (sym listed_version.0) ∙ e)
        (lines_told text (Headed y.number) head_lines 2 (y.number ∷ []) [] [] y.rest refl first (head_row y.number))

    -- what is told behind the head lines, whose numbers are hs: the first wrong line, or all lines and the value that they tell
    abbrev BehindTold : (hs : List ℕ) → Read (List Tag) → Type 0
    BehindTold hs (wrong k) = FirstWrong text k
    BehindTold hs (got ts r) = (ns : List ℕ) × Lines [] text ns r × AllLines ns × Reads ns (value_from hs ts) × (length ns ≡ 4 + length ts * (y.number + 1))

    value-told : (t j m : ℕ) (hs : List ℕ) → hs ≡ t ∷ j ∷ m ∷ [] → (o : Read (List Tag)) → TagsTold text y.number t j m [] o → BehindTold hs o
    value-told t j m hs e (wrong k) f = f
    value-told t j m hs e (got ts r) (ms, c, a, g) =
        let bounds = listed_bounds listed_version.1 in
        (all y.number t j m ms, c, a, reads y.number t j m hs ms ts bounds.0 bounds.1 e g a, omega (arith, tagged_long g))

    behind-told : (hs q : List ℕ) → read_lines 2 x.head [] [] y.rest ≡ got hs q → (o : Read (List Tag)) → tags_in x hs q ≡ o → BehindTold hs o
    behind-told hs q e o f = go (heads_told (got hs q) e)
      where
        v : ℕ
        v = y.number

        go : LinesTold text (Headed v) (got hs q) → BehindTold hs o
        go (above, c, (t, j, m, own, these)) =
            let bounds = listed_bounds listed_version.1 in
            let begun : Begun v t j m 0 [] [] = record { long = omega arith; first = λ z. refl; later = λ h z. absurd (omega arith) } in
            let same : read_tags m 5 (take (suc v) tag_lines) [] q ≡ o =
            ap (λ ms. read_tags (get_or ms 2 0) 5 (take (suc v) tag_lines) [] q) (sym own)
            ∙ ap (λ (z : Version). read_tags (get_or hs 2 0) (2 + length z.head) z.tag [] q) (sym listed_version.0)
            ∙ f in
            value-told t j m hs own o (subst (TagsTold text v t j m []) same (tags-told text v t j m bounds.0 bounds.1 m 0 5 [] [] q (omega arith) refl begun (rw these at c)))

    -- an extra byte stands at the line behind the last
    extra_line : (ns : List ℕ) (ts : List Tag) → length ns ≡ 4 + length ts * (y.number + 1) → 2 + length x.head + length x.tag * length ts ≡ length ns + 1
    extra_line ns ts e =
        let bounds = listed_bounds listed_version.1 in
        let heads : length x.head ≡ 3 = ap (λ (z : Version). length z.head) listed_version.0 in
        let lines : length x.tag ≡ suc y.number = ap (λ (z : Version). length z.tag) listed_version.0 ∙ length-take-le (suc y.number) tag_lines bounds.1 in
        omega (arith, ap (◌* length ts) lines)

  judged : {o : Read Value} → Went text o → Judged o
  judged (unversioned h) = unversioned_told h
  judged (in_head y x k w a) = heads_told y x w (wrong k) a
  judged (in_tags y x ns q k w a b) = behind-told y x w ns q a (wrong k) b
  judged (extra y x ns q ts p w a b c) =
      let d = behind-told y x w ns q a (got ts p) b in
      record { numbers = d.0; rest = p; above = d.1; at = extra_line y x w d.0 ts d.4; wrong = nothing_follows d.1 d.2; left = λ a z. c z }
  judged (whole y x ns q ts w a b) = let d = behind-told y x w ns q a (got ts []) b in (refl, (d.0, d.1, d.2, d.3))

-- A line is reported exactly if it is the first wrong line.
pub wrong_exactly : (t : List ℕ) (k : ℕ) → (read_text t ≡ wrong k) ↔ FirstWrong t k
wrong_exactly t k = (λ e. subst (Judged t) e (judged t (went t)), back (read_text t) (judged t (went t)))
  where
    back : (o : Read Value) → Judged t o → FirstWrong t k → o ≡ wrong k
    back (wrong h) g f = ap wrong (g.at ∙ ap (λ ns. length ns + 1) (one_end g.above g.wrong f.above f.wrong).0 ∙ sym f.at)
    back (got v r) g f =
        let c = g.1 in
        let same = one_end c.1 (nothing_follows c.1 c.2) f.above f.wrong in
        absurd (f.left (rw same.0 at c.2) (sym same.1))

-- Right lines, all of them, and nothing besides, are read, to the value that they tell.
pub lines_read : {t ns : List ℕ} → Lines [] t ns [] → AllLines ns → (v : Value) × (read_text t ≡ got v []) × Reads ns v
lines_read {t} {ns} c a = back (read_text t) (judged t (went t))
  where
    back : (o : Read Value) → Judged t o → (v : Value) × (o ≡ got v []) × Reads ns v
    back (wrong h) g =
        let same = one_end c (nothing_follows c a) g.above g.wrong in
        absurd (g.left (rw same.0 at a) (sym same.1))
    back (got v r) g =
        let d = g.1 in
        let same = one_end d.1 (nothing_follows d.1 d.2) c (nothing_follows c a) in
        (v, ap (got v) g.0, rw same.0 at d.3)

-- A text is read to a value exactly if it is right lines, all of them, and nothing besides, and their numbers tell that value.
pub right_exactly : (t : List ℕ) (v : Value) → (read_text t ≡ got v []) ↔ ((ns : List ℕ) × Lines [] t ns [] × AllLines ns × Reads ns v)
right_exactly t v = (λ e. (subst (Judged t) e (judged t (went t))).1, λ w. here w.1 w.2 w.3)
  where
    here : {ns : List ℕ} → Lines [] t ns [] → AllLines ns → Reads ns v → read_text t ≡ got v []
    here c a d =
        let w = lines_read c a in
        let known = all_known c (omega (arith, a.0)) in
        w.1 ∙ ap (λ (u : Value). got u []) (reads_one (omega arith) w.2 d)

-- A text has a first wrong line, or is right lines, all of them, and nothing besides.
pub wrong_or_right : (t : List ℕ) → ((k : ℕ) × FirstWrong t k) ⊎ ((ns : List ℕ) × Lines [] t ns [] × AllLines ns)
wrong_or_right t = told (read_text t) (judged t (went t))
  where
    told : (o : Read Value) → Judged t o → ((k : ℕ) × FirstWrong t k) ⊎ ((ns : List ℕ) × Lines [] t ns [] × AllLines ns)
    told (wrong k) g = inl (k, g)
    told (got v r) g = inr (g.1.0, g.1.1, g.1.2)
