-- What a reply and a tick come to, in plain numbers and bytes; and ticks one after another at one time.
-- Assumes nothing.
use Rattle.std.specs.Prelude.{ℕ, ◌≤◌, ◌<◌, ◌≡◌, ◌⊎◌, true, false, List, map, length, get_or}
use Rattle.std.proofs.Math.Option.{some, none, Option}
use Rattle.numbers.specs.Numbers.{no_response, frame_buffer, list_buffer}
use Rattle.laws.specs.Bytes.{over}
use Rattle.wire.specs.Frame.{id_of, laid, exception}
use Rattle.pdu.specs.Replies.{answering, excepts}
use Rattle.pdu.specs.declared.What.{What}
use Rattle.rewrite.specs.Plain.{Brings, Rewrites}
use Rattle.rewrite.specs.Frames.{returned}
use Rattle.rewrite.specs.declared.Way.TheVariants.{ToBinary}
use Rattle.book.specs.Book.{Live, at, book}
use Rattle.machine.specs.Machine.{Machine, Note, machine, settings}
use Rattle.machine.specs.Calls.{Outcome, Call}
use Rattle.machine.specs.Calls.Call.{tick}
use Rattle.machine.specs.Replies.{pairs}
use Rattle.machine.specs.declared.Answer.TheVariants as answer

-- what a reply that is not refused does: the entry under its id, which it answers, is gone; what is said; its whole frame and list
pub record Answers (m : Machine) (f o l : List ℕ) (d : Outcome) : Type 0 where
  pub place : ℕ
  pub entry : Live What Note
  pub there : at m.book place ≡ some entry
  pub same : entry.id ≡ id_of f
  pub matches : answering entry.what f ≡ true
  pub gone : at d.after.book place ≡ none
  pub says : d.says ≡ answer.Answered (record { 0 = entry.id }) (length f) (length entry.parties) (returned (settings m).tags entry.what f).partial (returned (settings m).tags entry.what f).value
  pub frame : d.written ≡ over (laid 0 (returned (settings m).tags entry.what f).bytes) o
  -- of a reply that brings registers: every register, turned to binary by its tag or as it came, and what the counts are
  pub rewritten : (s q : ℕ) → Brings entry.what.asked s q → excepts entry.what.function f ≡ false
      → Rewrites ToBinary (settings m).tags f d.written (returned (settings m).tags entry.what f).partial (returned (settings m).tags entry.what f).value 9 s q
  pub list : d.listed ≡ over (pairs entry.parties) l

-- what a tick that ends an entry does: the entry was due, no other was due before it, and it is gone; what is said; its whole frame and list
pub record Expires (m : Machine) (t : ℕ) (o l : List ℕ) (d : Outcome) : Type 0 where
  pub place : ℕ
  pub entry : Live What Note
  pub there : at m.book place ≡ some entry
  pub due : entry.deadline ≤ t
  pub earliest : (k : ℕ) (e : Live What Note) → at m.book k ≡ some e → e.deadline ≤ t → (entry.deadline < e.deadline) ⊎ ((entry.deadline ≡ e.deadline) × (entry.id ≤ e.id))
  pub gone : at d.after.book place ≡ none
  pub says : d.says ≡ answer.TimedOut (record { 0 = entry.id }) (length entry.parties)
  pub frame : d.written ≡ over (exception 0 entry.what.unit entry.what.function no_response) o
  pub list : d.listed ≡ over (pairs entry.parties) l

-- m, with its clock at t
abbrev pub showing : Machine → ℕ → Machine
showing m t = machine (book (settings m) m.book.places m.book.cursor t) m.attached m.cache

-- a table with at most one entry ended, and that one due at t
pub record Ended (t : ℕ) (ps qs : List (Option (Live What Note))) : Type 0 where
  pub place : ℕ
  pub others : (j : ℕ) → (j ≡ place → ⊥) → get_or qs j none ≡ get_or ps j none
  pub due : (get_or qs place none ≡ get_or ps place none) ⊎ ((e : Live What Note) × (get_or ps place none ≡ some e) × (e.deadline ≤ t) × (get_or qs place none ≡ none))

-- the buffers that a host lends a tick: whatever they hold, they are as long as document 01 asks
pub record Lent : Type 0 where
  pub out : List ℕ
  pub list : List ℕ
  pub long : frame_buffer ≤ length out
  pub long_list : list_buffer ≤ length list

-- a tick, and ticks one after another at one time, each with buffers of its own
abbrev pub tick_at : ℕ → Lent → Call
tick_at t b = tick t b.out b.list

abbrev pub ticks_at : ℕ → List Lent → List Call
ticks_at t bs = map (tick_at t) bs
