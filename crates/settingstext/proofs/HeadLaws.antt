-- The lines before the tags: each answer of the code's line reader is a step of reading the text.
-- Assumes nothing.
use Prim.Native.Nat.{ℕ, ◌≤◌}
use mathlib.Core.Path.{◌≡◌, refl, ap, sym, ◌∙◌}
use mathlib.Core.Logic.{◌↔◌, ⊎_elim}
use mathlib.Core.Bool.{true, false, true≢false}
use mathlib.Core.Option.{Option, some, none, some-ne-none}
use mathlib.Core.List.{List, [], ◌∷◌, ◌++◌}
use lib.Dec.{leb}
use borrow.Author.Tests.{le-leb, leb-true}
use Rattle.numbers.specs.Numbers.{newest_version, least_timeout, most_timeout, most_tags}
use Rattle.laws.proofs.Choice.{true_or}
use Rattle.laws.proofs.TestLaws.{holds_and}
use Rattle.settings.specs.Lines.{Numbered, equals, line_in}
use Rattle.settings.specs.Grammar.{Line, line, version_key, timeout_key, join_key, tags_key, right_timeout, right_join, right_tags, head_lines, version_of, read_lines, read_in, read_text, read_behind, ruled}
use Rattle.settings.specs.Grammar.Read.{wrong}
use Rattle.settingstext.specs.inner.Reading.{line_behind, within}
use Rattle.settings.proofs.RowLaws.{ruled_follows}
use Rattle.settings.proofs.VersionLaws.{Listed, version_listed, version_unlisted, text_version, text_head}
use Rattle.settingstext.proofs.AnswerLaws.{read_to, ruled-least, ruled_most, from_zero, key_line, read_stop, read_step}

-- the answer of the code's line reader
abbrev pub asked : List ℕ → List ℕ → ℕ → ℕ → Option Numbered
asked text key least most = ruled (within least most) (line_behind (key ++ (equals ∷ [])) text)

abbrev timeout_line : Line
timeout_line = line timeout_key (λ prior own n. right_timeout n)

abbrev join_line : Line
join_line = line join_key (λ prior own n. right_join n)

abbrev tags_line : Line
tags_line = line tags_key (λ prior own n. right_tags n)

-- the versions are a range of numbers
in_range_listed : (n : ℕ) → (within 1 newest_version n ≡ true) ↔ Listed n
in_range_listed n = holds_and (leb 1 n) (leb n newest_version) (leb-true 1 n, le-leb 1 n) (leb-true n newest_version, le-leb n newest_version)

by_key : (text : List ℕ) → asked text version_key 1 newest_version ≡ ruled (within 1 newest_version) (line_in version_key text)
by_key text = ap (ruled (within 1 newest_version)) (key_line version_key text)

pub version_stop : (text : List ℕ) → none ≡ asked text version_key 1 newest_version → read_text text ≡ wrong 1
unfolding read_text ruled
version_stop text e = go (line_in version_key text) refl
  where
    unruled : ruled (within 1 newest_version) (line_in version_key text) ≡ none
    unruled = sym (e ∙ by_key text)

    go : (o : Option Numbered) → line_in version_key text ≡ o → read_text text ≡ wrong 1
    go none q = rw (q, read_text)
    go (some x) q =
        ⊎_elim
        (λ (t : within 1 newest_version x.number ≡ true). absurd (some-ne-none x (rw (q, t) at unruled)))
        (λ (t : within 1 newest_version x.number ≡ false). rw (q, read_text) (rw (version_unlisted x.number (λ l. true≢false (sym ((in_range_listed x.number).1 l) ∙ t)))))
        (true_or (within 1 newest_version x.number))

pub version_read : (text : List ℕ) (n : ℕ) (second : List ℕ) → some (read_to n second) ≡ asked text version_key 1 newest_version → read_text text ≡ read_in (version_of n) second
version_read text n second e =
    let k = ruled_follows (within 1 newest_version) (line_in version_key text) (read_to n second) (sym (e ∙ by_key text)) in
    text_version text (read_to n second) (version_of n) k.0 (version_listed n ((in_range_listed n).0 k.1))

-- the version that was read is a listed one
pub version_bounds : (text : List ℕ) (n : ℕ) (second : List ℕ) → some (read_to n second) ≡ asked text version_key 1 newest_version → (1 ≤ n) × (n ≤ newest_version)
version_bounds text n second e = (ruled-least 1 newest_version (read_to n second) _ e, ruled_most 1 newest_version (read_to n second) _ e)

-- the three lines behind the version line
module _ (v : ℕ) (start : List ℕ) where
  head_wrong : (k : ℕ) → read_lines 2 (head_lines) [] [] start ≡ wrong k → read_in (version_of v) start ≡ wrong k
  unfolding read_in
  head_wrong k e = rw (e, read_in)

  pub timeout-stop : none ≡ asked start timeout_key least_timeout most_timeout → read_in (version_of v) start ≡ wrong 2
  timeout-stop e = head_wrong 2 (read_stop start 2 timeout_line (join_line ∷ tags_line ∷ []) [] [] (within least_timeout most_timeout) (λ m. refl) e)

  module _ (timeout : ℕ) (third : List ℕ) (first : some (read_to timeout third) ≡ asked start timeout_key least_timeout most_timeout) where
    timeout_read : read_lines 2 (head_lines) [] [] start ≡ read_lines 3 (join_line ∷ tags_line ∷ []) [] (timeout ∷ []) third
    timeout_read = read_step start 2 timeout_line (join_line ∷ tags_line ∷ []) [] [] (within least_timeout most_timeout) (λ m. refl) timeout third first

    pub join-stop : none ≡ asked third join_key 0 1 → read_in (version_of v) start ≡ wrong 3
    join-stop e = head_wrong 3 (timeout_read ∙ read_stop third 3 join_line (tags_line ∷ []) [] (timeout ∷ []) (within 0 1) (from_zero 1) e)

    module _ (join : ℕ) (fourth : List ℕ) (second : some (read_to join fourth) ≡ asked third join_key 0 1) where
      join_read : read_lines 2 (head_lines) [] [] start ≡ read_lines 4 (tags_line ∷ []) [] (timeout ∷ join ∷ []) fourth
      join_read =
          timeout_read
          ∙ read_step third 3 join_line (tags_line ∷ []) [] (timeout ∷ []) (within 0 1) (from_zero 1) join fourth second

      pub tags-stop : none ≡ asked fourth tags_key 0 most_tags → read_in (version_of v) start ≡ wrong 4
      tags-stop e = head_wrong 4 (join_read ∙ read_stop fourth 4 tags_line [] [] (timeout ∷ join ∷ []) (within 0 most_tags) (from_zero most_tags) e)

      pub head_read : (tags : ℕ) (next : List ℕ) → some (read_to tags next) ≡ asked fourth tags_key 0 most_tags → read_in (version_of v) start ≡ read_behind (version_of v) (timeout ∷ join ∷ tags ∷ []) next
      unfolding read_lines
      head_read tags next e =
          text_head (version_of v) start (timeout ∷ join ∷ tags ∷ []) next
          (join_read ∙ read_step fourth 4 tags_line [] [] (timeout ∷ join ∷ []) (within 0 most_tags) (from_zero most_tags) tags next e)
