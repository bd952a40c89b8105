-- A history of calls on a fresh machine: what is seen of a call (its numbers, the bytes and the list, as the C host has them), the events that the ledger is kept from, the machine after
-- some calls, and which request an issue comes from.
-- Assumes nothing.
use Rattle.std.specs.Prelude.{ℕ, ◌+◌, ◌*◌, ◌≡◌, cond, List, [], ◌∷◌, ◌++◌, take, eqb}
use Rattle.settings.specs.Grammar.{Value}
use Rattle.pdu.specs.declared.What.{What}
use Rattle.book.specs.Book.{Party, Event}
use Rattle.book.specs.Book.Event.{passed, joined, issued, replied, expired, left, lost}
use Rattle.book.specs.Ledger.{Ledger, empty, posts}
use Rattle.book.specs.Follower.{state_after, lines_of}
use Rattle.machine.specs.Calls.{Call, Outcome}
use Rattle.machine.specs.Calls.Call.{attach, detach, request, reply, tick, link_lost}
use Rattle.machine.specs.Numbers.{numbers, is_issued, is_joined, is_timed_out}
use Rattle.machine.specs.Spelled.{asker, asking}
use Rattle.machine.specs.declared.Report.{Report}
use Rattle.machine.specs.Machine.{Machine, made}
use Rattle.machine.specs.Outcomes.{outcome}
use Rattle.machine.specs.declared.Answer.TheVariants as answer

-- what the host sees of an outcome
pub record Seen : Type 0 where
  pub report : Report
  pub frame : List ℕ
  pub list : List ℕ

abbrev pub seen_of : Outcome → Seen
seen_of d = record { report = numbers d.says; frame = d.written; list = d.listed }

-- the pairs of a list as parties
unfoldable pub parties_in : List ℕ → List Party
parties_in [] = []
parties_in (c ∷ []) = []
parties_in (c ∷ i ∷ ns) = record { client = c; original = i } ∷ parties_in ns

abbrev pub listed_in : Seen → List Party
listed_in s = parties_in (take (2 * s.report.parties) s.list)

-- what a call that was not refused tells, in a state that was made with the settings v
unfoldable pub told : Value → Call → Seen → List (Event What)
told v (attach c) s = []
told v (detach c) s = left c ∷ []
told v (request c t f o) s =
    passed t
    ∷ cond (eqb s.report.outcome is_joined) (joined s.report.id (asking f) (asker c f) ∷ [])
    (cond (eqb s.report.outcome is_issued) (issued s.report.id (asking f) (t + v.timeout) (asker c f) ∷ [])
    [])
told v (reply t f o l) s = passed t ∷ replied s.report.id (listed_in s) ∷ []
told v (tick t o l) s = passed t ∷ cond (eqb s.report.outcome is_timed_out) (expired s.report.id (listed_in s) ∷ []) []
told v link_lost s = lost ∷ []

-- a refused call tells nothing
unfoldable pub events : Value → Call → Seen → List (Event What)
events v x s = cond (eqb s.report.refusal 0) (told v x s) []

-- the machine after some calls, from the machine m and from a fresh one; what they tell, from either, and what the calls ys tell that come after the calls xs; and the ledger of what some tell
abbrev pub after_from : Machine → List Call → Machine
after_from m xs = state_after (λ n x. (outcome n x).after) m xs

abbrev pub after_calls : Value → List Call → Machine
after_calls v xs = after_from (made v) xs

abbrev pub told_from : Value → Machine → List Call → List (Event What)
told_from v m xs = lines_of (λ n x. (outcome n x).after) (λ n x. events v x (seen_of (outcome n x))) m xs

abbrev pub told_by : Value → List Call → List (Event What)
told_by v xs = told_from v (made v) xs

abbrev pub told_since : Value → List Call → List Call → List (Event What)
told_since v xs ys = told_from v (after_calls v xs) ys

abbrev pub ledger_of : Value → List Call → Ledger What
ledger_of v xs = posts empty (told_by v xs)

-- an issue says what a request's frame asks, whose it is, and its time plus the timeout
abbrev pub Spells : Value → (c t : ℕ) (f : List ℕ) (w : What) (d : ℕ) (p : Party) → Type 0
Spells v c t f w d p = (w ≡ asking f) × (p ≡ asker c f) × (d ≡ t + v.timeout)

-- the request among the calls xs that an issue comes from: it was answered Issued under that id, and the issue says what it asked
pub record Origin (v : Value) (xs : List Call) (id : ℕ) (w : What) (d : ℕ) (p : Party) : Type 0 where
  pub before : List Call
  pub client : ℕ
  pub time : ℕ
  pub frame : List ℕ
  pub out : List ℕ
  pub later : List Call
  pub call : xs ≡ before ++ request client time frame out ∷ later
  pub says : (n : ℕ) × (a : ℕ) × (b : ℕ) × ((outcome (after_calls v before) (request client time frame out)).says ≡ answer.Issued (record { 0 = id }) n a b)
  pub spells : Spells v client time frame w d p

module _ (v : Value) (s : Seen) (id : ℕ) (w : What) (d : ℕ) (p : Party) where
  -- the call tells the issue: it is a request that was answered so
  abbrev pub IssuedBy : Call → Type 0
  IssuedBy x = (c : ℕ) × (t : ℕ) × (f : List ℕ) × (o : List ℕ) × (x ≡ request c t f o) × (s.report.outcome ≡ is_issued) × (s.report.id ≡ id) × Spells v c t f w d p
