-- The C host's numbers of each answer, and of the whole outcome of a call; each in plain numbers, and what they tell of the answer.
-- Assumes nothing.
use Rattle.std.specs.Prelude.{ℕ, ◌≡◌, ◌⊎◌, List}
use Rattle.numbers.specs.Numbers.{exception_frame}
use Rattle.pdu.specs.declared.ProxyId.{ProxyId}
use Rattle.machine.specs.Machine.{Machine}
use Rattle.machine.specs.Calls.{Outcome}
use Rattle.machine.specs.declared.Answer.{Answer}
use Rattle.machine.specs.declared.Answer.TheVariants.{Refused, Done, Issued, Joined, Excepted, Answered, TimedOut, NothingDue, Lost, Hit}
use Rattle.machine.specs.declared.Report.{Report}

-- the outcomes' numbers: ZB_DONE and so on
abbrev pub is_done : ℕ
is_done = 1

abbrev pub is_issued : ℕ
is_issued = 2

abbrev pub is_joined : ℕ
is_joined = 3

abbrev pub is_exception : ℕ
is_exception = 4

abbrev pub is_answered : ℕ
is_answered = 5

abbrev pub is_timed_out : ℕ
is_timed_out = 6

abbrev pub is_nothing_due : ℕ
is_nothing_due = 7

abbrev pub is_hit : ℕ
is_hit = 10

abbrev pub report : (refusal outcome length parties partial value set id code : ℕ) → Report
report r o n k p v s i c =
    record { refusal = r; line = 0; outcome = o; length = n; parties = k; partial = p; value = v; set = s; id = i; code = c }

-- a report by its ten numbers, in the order of the header's zb_answer: the word of the theorems that say all of them
abbrev pub ten : (refusal line outcome length parties partial value set id code : ℕ) → Report
ten r k o n j p v s i c =
    record { refusal = r; line = k; outcome = o; length = n; parties = j; partial = p; value = v; set = s; id = i; code = c }

unfoldable pub numbers : Answer → Report
numbers (Refused n) = report n 0 0 0 0 0 0 0 0
numbers Done = report 0 is_done 0 0 0 0 0 0 0
numbers (Issued i n p v) = report 0 is_issued n 0 p v 0 i.0 0
numbers (Joined i) = report 0 is_joined 0 0 0 0 0 i.0 0
numbers (Excepted c) = report 0 is_exception exception_frame 0 0 0 0 0 c
numbers (Answered i n k p v) = report 0 is_answered n k p v 0 i.0 0
numbers (TimedOut i k) = report 0 is_timed_out exception_frame k 0 0 0 i.0 0
numbers NothingDue = report 0 is_nothing_due 0 0 0 0 0 0 0
numbers (Lost s) = report 0 is_done 0 0 0 0 s 0 0
numbers (Hit n p v) = report 0 is_hit n 0 p v 0 0 0

-- what a C host sees of a call: the report's numbers, the machine afterwards, and every byte and number of the lent buffers
pub record Reported : Type 0 where
  pub says : Report
  pub after : Machine
  pub written : List ℕ
  pub listed : List ℕ

abbrev pub reported : Report → Machine → List ℕ → List ℕ → Reported
reported r m w l = record { says = r; after = m; written = w; listed = l }

-- the whole outcome of a call, its answer in numbers
abbrev pub numbered : Outcome → Reported
numbered d = reported (numbers d.says) d.after d.written d.listed

-- the report of each answer: refusal, line, outcome, length, parties, partial, value, set, id and code
pub record Plainly : Type 0 where
  pub refused : (n : ℕ) → numbers (Refused n) ≡ ten n 0 0 0 0 0 0 0 0 0
  pub done : numbers Done ≡ ten 0 0 1 0 0 0 0 0 0 0
  pub issued : (i : ProxyId) (n p v : ℕ) → numbers (Issued i n p v) ≡ ten 0 0 2 n 0 p v 0 i.0 0
  pub joined : (i : ProxyId) → numbers (Joined i) ≡ ten 0 0 3 0 0 0 0 0 i.0 0
  pub excepted : (c : ℕ) → numbers (Excepted c) ≡ ten 0 0 4 9 0 0 0 0 0 c
  pub answered : (i : ProxyId) (n k p v : ℕ) → numbers (Answered i n k p v) ≡ ten 0 0 5 n k p v 0 i.0 0
  pub timed_out_lem : (i : ProxyId) (k : ℕ) → numbers (TimedOut i k) ≡ ten 0 0 6 9 k 0 0 0 i.0 0
  pub nothing_due : numbers NothingDue ≡ ten 0 0 7 0 0 0 0 0 0 0
  pub lost : (s : ℕ) → numbers (Lost s) ≡ ten 0 0 1 0 0 0 0 s 0 0
  pub hit : (n p v : ℕ) → numbers (Hit n p v) ≡ ten 0 0 10 n 0 p v 0 0 0

-- what a report says of the answer
pub record Tells (r : Report) (a : Answer) : Type 0 where
  pub refused : (r.refusal ≡ 0 → ⊥) → a ≡ Refused r.refusal
  pub done : r.outcome ≡ is_done → (a ≡ Lost r.set) ⊎ ((a ≡ Done) × (r.set ≡ 0))
  pub issued : r.outcome ≡ is_issued → a ≡ Issued (record { 0 = r.id }) r.length r.partial r.value
  pub joined : r.outcome ≡ is_joined → a ≡ Joined (record { 0 = r.id })
  pub excepted : r.outcome ≡ is_exception → a ≡ Excepted r.code
  pub answered : r.outcome ≡ is_answered → a ≡ Answered (record { 0 = r.id }) r.length r.parties r.partial r.value
  pub timed_out_lem : r.outcome ≡ is_timed_out → a ≡ TimedOut (record { 0 = r.id }) r.parties
  pub nothing_due : r.outcome ≡ is_nothing_due → a ≡ NothingDue
  pub hit : r.outcome ≡ is_hit → a ≡ Hit r.length r.partial r.value
