-- What the callers of the rewriter vouch for: the tag words, a run of registers in a buffer, and a frame that carries what was asked.
-- Assumes nothing.
use Rattle.std.specs.Prelude.{ℕ, ◌+◌, ◌*◌, ◌≤◌, ◌≡◌, Bool, List, map, length, get_or, take, leb, Some, None}
use Rattle.numbers.specs.Numbers.{most_tags, addresses, least_frame}
use Rattle.bcd.specs.declared.Kind.{Kind}
use Rattle.bcd.specs.Bcd.{registers}
use Rattle.bcd.specs.Words.{words_of, number_of}
use Rattle.settings.specs.Grammar.{Tag}
use Rattle.settings.specs.TagWords.{tag_of, last_of, Ascending}
use Rattle.pdu.specs.declared.Table.{Table}
use Rattle.pdu.specs.declared.Table.TheVariants.{Bits, Registers}
use Rattle.pdu.specs.declared.Asked.{Asked}
use Rattle.pdu.specs.declared.Asked.TheVariants.{Read, SingleWrite, MultipleWrite, MaskWrite, ReadWrite, Other}
use Rattle.rewrite.specs.Registers.{registers_at, laid_at}
use Rattle.rewrite.specs.declared.Way.{Way}
use Rattle.rewrite.specs.Rewriting.{turned, Rewritten, with_counts}
use Rattle.rewrite.specs.Frames.{read_base, single_base, multiple_base, read_write_base}

-- the tags that the first words are
abbrev pub tags_of : ℕ → List ℕ → List Tag
tags_of tag_count words = map tag_of (take tag_count words)

-- words of tags, each of which counts
pub record TagList (words : List ℕ) : Type 0 where
  pub few : length words ≤ most_tags
  pub ascending : Ascending 0 (map tag_of words)

-- tag words as a state keeps them
pub record TagWords (tag_count : ℕ) (words : List ℕ) : Type 0 where
  pub places : length words ≡ most_tags
  pub few : tag_count ≤ most_tags
  pub ascending : Ascending 0 (tags_of tag_count words)

-- the registers from byte base on are in the buffer, their addresses are addresses
pub record Run (base start quantity : ℕ) (d : List ℕ) : Type 0 where
  pub room : base + 2 * quantity ≤ length d
  pub low : start + quantity ≤ addresses

-- the same of what is carried, where that is registers; nothing of bits
abbrev pub RunOf : Table → (base start quantity : ℕ) → List ℕ → Type 0
RunOf Bits base start quantity d = Unit {0}
RunOf Registers base start quantity d = Run base start quantity d

-- the registers that a request carries, and those that a reply carries, are in the frame
abbrev pub Sent : Asked → List ℕ → Type 0
Sent (Read t s q) f = Unit {0}
Sent (SingleWrite t a v) f = RunOf t single_base a 1 f
Sent (MultipleWrite t s q) f = RunOf t multiple_base s q f
Sent (MaskWrite a x y) f = Unit {0}
Sent (ReadWrite s q u p) f = Run read_write_base u p f
Sent Other f = Unit {0}

abbrev pub Brought : Asked → List ℕ → Type 0
Brought (Read t s q) f = RunOf t read_base s q f
Brought (SingleWrite t a v) f = RunOf t single_base a 1 f
Brought (MultipleWrite t s q) f = Unit {0}
Brought (MaskWrite a x y) f = Unit {0}
Brought (ReadWrite s q u p) f = Run read_base s q f
Brought Other f = Unit {0}

-- a frame, and a buffer that takes it
pub record Framed (f out : List ℕ) : Type 0 where
  pub least : least_frame ≤ length f
  pub fits : length f ≤ length out

-- a tag does not end before start
abbrev pub reaches : List ℕ → ℕ → ℕ → Bool
reaches words start k = leb start (last_of (tag_of (get_or words k 0)))

-- what becomes of a whole tag whose registers stand from byte k on
unfoldable pub whole_laid : Way → Kind → ℕ → List ℕ → Rewritten
whole_laid way kind k d =
    elim (turned way kind (number_of (registers_at k (registers kind) d))) [ None ↦ with_counts 0 1 d | Some n ↦ with_counts 0 0 (laid_at k (words_of kind n) d) ]
