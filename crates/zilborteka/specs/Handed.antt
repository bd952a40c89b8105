-- What a reply and a timeout come to in the host's own words: what it saw, against the lines that it could write down, and whom the frame is handed to.
-- Assumes nothing.
use Rattle.std.specs.Prelude.{ℕ, ◌+◌, ◌*◌, ◌≤◌, ◌<◌, ◌≡◌, ◌⊎◌, true, false, length, get_or, drop}
use mathlib.Core.List.{List, ◌∷◌, Memᴰ}
use Rattle.laws.specs.Lists.{filter}
use Rattle.laws.specs.Bytes.{over}
use Rattle.wire.specs.Frame.{laid}
use Rattle.settings.specs.Grammar.{Value}
use Rattle.pdu.specs.Replies.{answering, excepts}
use Rattle.pdu.specs.declared.What.{What}
use Rattle.rewrite.specs.Plain.{Brings, Rewrites}
use Rattle.rewrite.specs.Frames.{returned}
use Rattle.rewrite.specs.declared.Way.TheVariants.{ToBinary}
use Rattle.book.specs.Book.{Event}
use Rattle.book.specs.Ledger.{Ticket, empty, posts, under, parties_of}
use Rattle.book.specs.Traced.{Outstanding}
use Rattle.machine.specs.Replies.{pairs}
use Rattle.machine.specs.Numbers.{ten}
use Rattle.machine.specs.Histories.{Seen}
use Rattle.machine.specs.PartysFrames.{EachItsFrame}

-- those that wait under an id in the ledger of a history, in the order in which they were accepted
abbrev pub waiting_under : List (Event What) → ℕ → List (Ticket What)
waiting_under vs id = filter (under id) (posts empty vs).waiting

-- what is handed to those that wait under the id which the report names, each of whom asked w: the list holds pair by pair their clients and original ids and behind them what was
-- there (l), and each gets its frame
pub record HandsOut (vs : List (Event What)) (w : What) (l : List ℕ) (saw : Seen) : Type 0 where
  pub list : saw.list ≡ over (pairs (parties_of (waiting_under vs saw.report.id))) l
  pub alike : (k : Ticket What) → Memᴰ k (waiting_under vs saw.report.id) → k.what ≡ w
  pub frames : EachItsFrame (posts empty vs) saw

-- what a reply f comes to after a history: what is outstanding under its id, which it answers; all ten numbers of the report; the definition's rewriting of it, under id 0, which for a
-- reply that brings registers (03, 04, 23) and is no exception is told tag by tag; and whom it is handed to
pub record Replied (v : Value) (vs : List (Event What)) (f o l : List ℕ) (saw : Seen) : Type 0 where
  pub asked : What
  pub client : ℕ
  pub deadline : ℕ
  pub outstanding : Outstanding vs saw.report.id asked client deadline
  pub matches : answering asked f ≡ true
  pub report : saw.report
      ≡ ten 0 0 5 (length f) (length (waiting_under vs saw.report.id)) (returned v.tags asked f).partial (returned v.tags asked f).value 0 (get_or f 0 0 * 256 + get_or f 1 0) 0
  pub frame : saw.frame ≡ over (laid 0 (returned v.tags asked f).bytes) o
  pub rewritten : (s q : ℕ) → Brings asked.asked s q → excepts asked.function f ≡ false
      → Rewrites ToBinary v.tags f saw.frame saw.report.partial saw.report.value 9 s q
  pub handed : HandsOut vs asked l saw

-- what a timeout at t comes to: of the outstanding ids whose deadline has come the one that was due first, the smaller id of two; all ten numbers of the report; exception 0B; and whom
-- it is handed to
pub record TimesOut (vs : List (Event What)) (t : ℕ) (o l : List ℕ) (saw : Seen) : Type 0 where
  pub asked : What
  pub client : ℕ
  pub deadline : ℕ
  pub outstanding : Outstanding vs saw.report.id asked client deadline
  pub due : deadline ≤ t
  pub earliest : (i : ℕ) (w : What) (c u : ℕ) → Outstanding vs i w c u → u ≤ t → (deadline < u) ⊎ ((deadline ≡ u) × (saw.report.id ≤ i))
  pub report : saw.report ≡ ten 0 0 6 9 (length (waiting_under vs saw.report.id)) 0 0 0 saw.report.id 0
  pub frame : saw.frame ≡ (0 ∷ 0 ∷ 0 ∷ 0 ∷ 0 ∷ 3 ∷ asked.unit ∷ (asked.function + 128) ∷ 11 ∷ drop 9 o)
  pub handed : HandsOut vs asked l saw
