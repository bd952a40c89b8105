-- The turns of the loop over the tags: what has been read stands in the columns, and what is left is read from the text behind it.
-- Assumes nothing.
use Rattle.std.specs.Prelude.{Ok, Err}
use Prim.Native.Nat.{ℕ, suc, ◌+◌, ◌*◌, ◌-◌, ◌/◌, ◌≤◌, ◌<◌}
use mathlib.Core.Path.{◌≡◌, refl, ap, sym, ◌∙◌}
use mathlib.Core.Bool.{false}
use mathlib.Core.List.{List, [], ◌∷◌, ◌++◌, map, append-nil}
use native.Mathlib.Nat.{add-mul, one-mul, mul_comm, mul-le-mul}
use native.Mathlib.Omega.{arith}
use lib.ListN.{length, set, replicate, length-append}
use lib.Seq.{length-take-le}
use lib.Dec.{eqb}
use borrow.Author.Tests.{ne_eqb}
use Rattle.numbers.specs.Numbers.{most_tags, newest_version}
use Rattle.settings.specs.Grammar.{Tag, Value, Read, version_of, tag_from, read_lines, read_tags, read_behind, tag_lines}
use Rattle.settings.specs.Grammar.Read.{got, wrong}
use Rattle.settings.specs.Values.{settings, padded, settings_of}
use Rattle.settingstext.specs.TextRead.{reported}
use Rattle.settingstext.specs.inner.Reading.{lowest, wrong_at, tag_read, HeadRight, TagsRead}
use Rattle.settingstext.specs.declared.reading.WrongLine.{WrongLine}
use Rattle.settingstext.specs.declared.reading.Head.{Head}
use Rattle.settings.specs.declared.Settings.{Settings}
use Rattle.settingstext.specs.declared.reading.ReadText.{ReadText}
use Rattle.laws.proofs.ListLaws.{nothing}
use Rattle.settings.proofs.TagLaws.{filled_more}
use Rattle.settings.proofs.RowLaws.{onto, onto_onto, tag_wrong, tag_right}
use Rattle.settings.proofs.VersionLaws.{text_tags}
use Rattle.settingstext.proofs.AnswerLaws.{untagged, tagged}

pub record Listed (v : ℕ) (start : List ℕ) (count k : ℕ) (rest : List ℕ) (number least : ℕ) (addr width sign ttl strict : List ℕ) : Type 0 where
  pub tags : List Tag
  pub prior : List ℕ
  pub size : length tags ≡ k
  pub few : k ≤ count
  pub line : number ≡ 5 + k * (1 + v)
  pub low : least ≡ lowest prior
  pub left : read_tags count 5 (version_of v).tag [] start ≡ onto tags (read_tags (count - k) number (version_of v).tag prior rest)
  pub addrs : addr ≡ padded (map (λ (t : Tag). t.address) tags)
  pub widths : width ≡ padded (map (λ (t : Tag). t.width) tags)
  pub signs : sign ≡ padded (map (λ (t : Tag). t.sign) tags)
  pub ttls : ttl ≡ padded (map (λ (t : Tag). t.ttl) tags)
  pub marks : strict ≡ padded (map (λ (t : Tag). t.strict) tags)

-- as many lines a tag as the version's number says
lines_count : (v : ℕ) → (1 ≤ v) × (v ≤ newest_version) → length (version_of v).tag ≡ 1 + v
lines_count v listed = length-take-le (suc v) tag_lines (omega (arith, listed.1)) ∙ omega arith

pub line_small : {v : ℕ} {start : List ℕ} {count k : ℕ} {rest : List ℕ} {number least : ℕ} {addr width sign ttl strict : List ℕ} → Listed v start count k rest number least addr width sign ttl strict → count ≤ most_tags → (1 ≤ v) × (v ≤ newest_version) → number ≤ 5 + length tag_lines * most_tags
line_small {v} {k = k} l few listed =
    let most : k * (1 + v) ≤ most_tags * length tag_lines = mul-le-mul {n₂ = most_tags} {m₂ = length tag_lines} (omega (arith, l.few)) (omega (arith, listed.1)) in
    omega (arith, l.line)

onto_none : (o : Read (List Tag)) → onto [] o ≡ o
unfolding onto
onto_none (got us r) = refl
onto_none (wrong k) = refl

pub listed-none : (v : ℕ) (start : List ℕ) (count : ℕ) → Listed v start count 0 start 5 0 (replicate most_tags 0) (replicate most_tags 0) (replicate most_tags 0) (replicate most_tags 0) (replicate most_tags 0)
unfolding lowest
listed-none v start count =
    let e : count - 0 ≡ count = omega arith in
    record { tags = []; prior = []; size = refl; few = omega arith; line = omega arith; low = refl; left = rw e (sym (onto_none _)); addrs = refl; widths = refl; signs = refl; ttls = refl; marks = refl }

abbrev pub right : Settings → ReadText
right s = record { line = 0; settings = s }

module _ (v : ℕ) (listed : (1 ≤ v) × (v ≤ newest_version)) (start : List ℕ) (timeout join count k : ℕ) (rest : List ℕ) (number least : ℕ) (addr width sign ttl strict : List ℕ) (l : Listed v start count k rest number least addr width sign ttl strict) where
  abbrev whole : Read Value
  whole = read_behind (version_of v) (timeout ∷ join ∷ count ∷ []) start

  module _ (more : k < count) where
    one_left : count - k ≡ suc (count - (k + 1))
    one_left = omega arith

    pub listed-stop : (j : ℕ) → wrong j ≡ tag_read (read_lines number (version_of v).tag l.prior [] rest) → whole ≡ wrong j
    unfolding onto read_behind
    listed-stop j e =
        let t = tag_wrong (count - (k + 1)) number (version_of v).tag l.prior rest j (untagged j _ e) in
        let all : read_tags count 5 (version_of v).tag [] start ≡ wrong j = l.left ∙ rw (one_left, t) in
        rw (all, read_behind)

    pub listed_more : count ≤ most_tags → (tag : Tag) (next : List ℕ) → got tag next ≡ tag_read (read_lines number (version_of v).tag l.prior [] rest)
        → Listed v start count (k + 1) next (number + (1 + v)) (tag.address + tag.width / 16) (set addr k tag.address) (set width k tag.width) (set sign k tag.sign) (set ttl k tag.ttl) (set strict k tag.strict)
    listed_more h tag next e =
        let t = tagged rest l.prior v number tag next listed.0 (omega (arith, listed.1)) e in
        let turn : (k + 1) * (1 + v) ≡ k * (1 + v) + (1 + v) = simp (add-mul, one-mul) in
        let lines : number + length (version_of v).tag ≡ number + (1 + v) = ap (number +◌) (lines_count v listed) in
        record {
          tags = l.tags ++ (tag ∷ []);
          prior = t.own;
          size = omega (arith, length-append l.tags (tag ∷ []), l.size);
          few = omega arith;
          line = omega (arith, l.line, turn);
          low = sym t.low;
          left =
              l.left
              ∙ ap (onto l.tags) (rw one_left (tag_right (count - (k + 1)) number (version_of v).tag l.prior rest t.own next t.read))
              ∙ onto_onto l.tags (tag_from t.own ∷ []) (read_tags (count - (k + 1)) (number + length (version_of v).tag) (version_of v).tag t.own next)
              ∙ rw (t.tag, lines);
          addrs = rw l.addrs (filled_more (λ (u : Tag). u.address) l.tags tag k tag.address l.size (omega arith) refl);
          widths = rw l.widths (filled_more (λ (u : Tag). u.width) l.tags tag k tag.width l.size (omega arith) refl);
          signs = rw l.signs (filled_more (λ (u : Tag). u.sign) l.tags tag k tag.sign l.size (omega arith) refl);
          ttls = rw l.ttls (filled_more (λ (u : Tag). u.ttl) l.tags tag k tag.ttl l.size (omega arith) refl);
          marks = rw l.marks (filled_more (λ (u : Tag). u.strict) l.tags tag k tag.strict l.size (omega arith) refl);
        }

  module _ (all : count ≤ k) where
    listed_all : read_tags count 5 (version_of v).tag [] start ≡ got l.tags rest
    unfolding onto read_tags
    listed_all =
        let e : count - k ≡ 0 = omega arith in
        l.left ∙ rw e (ap (λ ts. got ts rest) (append-nil l.tags))

    pub listed-done : rest ≡ [] → right (settings timeout join count addr width sign ttl strict) ≡ reported whole
    unfolding reported settings_of
    listed-done e =
        let value = text_tags (version_of v) (timeout ∷ join ∷ count ∷ []) start l.tags (rw e at listed_all) in
        let n : length l.tags ≡ count = omega (arith, l.size, l.few) in
        ap (λ (m : ℕ). right (settings timeout join m addr width sign ttl strict)) (sym n) ∙ rw (l.addrs, l.widths, l.signs, l.ttls, l.marks) (sym (ap reported value))

    pub listed_extra : (length rest ≡ 0 → ⊥) → whole ≡ wrong number
    unfolding read_behind
    listed_extra d =
        let e : eqb (length rest) 0 ≡ false = ne_eqb (length rest) 0 d in
        let n : 5 + length (version_of v).tag * length l.tags ≡ number = rw (lines_count v listed, l.size, mul_comm (1 + v) k) (sym l.line) in
        rw (listed_all, read_behind) (rw e (ap wrong n))

-- behind the loop: the text ends behind the tags, or goes on; and a wrong line stopped it
module _ (h : Head) (right_head : HeadRight h) {k : ℕ} {rest : List ℕ} {number least : ℕ} {addr width sign ttl strict : List ℕ} (l : Listed h.version h.rest.now h.tags k rest number least addr width sign ttl strict) where
  pub tags_ended : (s : Settings) → s.addr ≡ addr → s.width ≡ width → s.sign ≡ sign → s.ttl ≡ ttl → s.strict ≡ strict → h.tags ≤ k → length rest ≡ 0 → TagsRead h (Ok tt) s
  unfolding TagsRead
  tags_ended s a w g i m all e = rw (a, w, g, i, m) (listed-done _ right_head.listed _ _ _ _ _ _ _ _ _ _ _ _ _ l all (nothing rest e))

  pub tags_extra : (s : Settings) → h.tags ≤ k → (length rest ≡ 0 → ⊥) → TagsRead h (Err (wrong_at number)) s
  unfolding TagsRead
  tags_extra s all d = listed_extra _ right_head.listed _ _ _ _ _ _ _ _ _ _ _ _ _ l all d

  pub tags_stopped : (s : Settings) (e : WrongLine) → k < h.tags → wrong e.0 ≡ tag_read (read_lines number (version_of h.version).tag l.prior [] rest) → TagsRead h (Err e) s
  unfolding TagsRead
  tags_stopped s e more q = listed-stop _ right_head.listed _ _ _ _ _ _ _ _ _ _ _ _ _ l more e.0 q
