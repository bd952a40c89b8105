-- The parts of a text in the newest version, and a part laid over a buffer by a writer.
-- Assumes nothing.
use Rattle.std.specs.Prelude.{ℕ, ◌+◌, ◌≡◌, ◌≤◌, length}
use mathlib.Core.List.{List, [], ◌∷◌, ◌++◌, flat_map}
use Rattle.laws.specs.Bytes.{over_at}
use Rattle.settings.specs.Lines.{line_of}
use Rattle.settings.specs.Grammar.{Tag, tag_numbers, newest, version_key, text_of_lines}
use Rattle.settingstext.specs.declared.writing.Writer.{Writer}

-- a part was laid at `at`, and the next one begins behind it
pub record Laid (w : List ℕ) (at : ℕ) (before after : List ℕ) (next : ℕ) : Type 0 where
  pub bytes : after ≡ over_at w at before
  pub behind : next ≡ at + length w

-- a writer has room for so many bytes from its place on; and it lays a part at its place, in the same buffer
abbrev pub Room : ℕ → Writer → Type 0
Room size w = w.at + size ≤ length w.text.now

pub record Lays (w : List ℕ) (before after : Writer) : Type 0 where
  pub same : after.text.ghost_name ≡ before.text.ghost_name
  pub long : length after.text.now ≡ length before.text.now
  pub laid : Laid w before.at before.text.now after.text.now after.at

-- the version line and the lines behind it; the lines of a tag, and of all tags
unfoldable pub head_text : ℕ → ℕ → ℕ → List ℕ
head_text timeout join tags = line_of version_key newest.number ++ text_of_lines newest.head (timeout ∷ join ∷ tags ∷ [])

unfoldable pub tag_text : Tag → List ℕ
tag_text t = text_of_lines newest.tag (tag_numbers t)

unfoldable pub tags_text : List Tag → List ℕ
tags_text ts = flat_map tag_text ts
