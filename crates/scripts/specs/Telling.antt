-- What is said of a call on a state: its name with its numbers, the frame, the parties, and whether more was changed.
-- Assumes nothing.
use Rattle.std.specs.Prelude.{ℕ, zero, suc, ◌+◌, ◌*◌, cond, List, [], ◌∷◌, ◌++◌, get_or, take, drop, eqb}
use Rattle.parts.specs.Texts.{field_of}
use Rattle.parts.specs.Said.{formed}
use Rattle.machine.specs.declared.Answer.{Answer}
use Rattle.machine.specs.declared.Answer.TheVariants.{Refused, Done, Issued, Joined, Excepted, Answered, TimedOut, NothingDue, Lost, Hit}
use Rattle.machine.specs.declared.Report.{Report}
use Rattle.machine.specs.Numbers.{numbers, is_exception}
use Rattle.scripts.specs.Pieces.{frame_text, kept_byte, kept_place, all_are, touched}

-- "refusal D|done|issued 0xX D,D|joined 0xX D,D|exception B D,D|answered 0xX D,D|timed out 0xX D,D|nothing due|||hit 0xX D,D|", in the order of the outcomes' numbers; 8 and 9 are no answer's
abbrev pub names : List ℕ
names =
    114 ∷ 101 ∷ 102 ∷ 117 ∷ 115 ∷ 97 ∷ 108 ∷ 32 ∷ 68 ∷ 124 ∷ 100 ∷ 111 ∷ 110 ∷ 101 ∷ 124 ∷ 105 ∷ 115 ∷ 115 ∷ 117 ∷ 101 ∷ 100 ∷ 32 ∷ 48 ∷ 120 ∷ 88 ∷ 32 ∷ 68 ∷ 44 ∷ 68 ∷ 124 ∷ 106 ∷ 111 ∷ 105 ∷ 110 ∷ 101 ∷ 100 ∷ 32 ∷ 48 ∷ 120 ∷ 88 ∷ 32 ∷ 68 ∷ 44 ∷ 68 ∷ 124 ∷ 101 ∷ 120 ∷ 99 ∷ 101 ∷ 112 ∷ 116 ∷ 105 ∷ 111 ∷ 110 ∷ 32 ∷ 66 ∷ 32 ∷ 68 ∷ 44 ∷ 68 ∷ 124 ∷ 97 ∷ 110 ∷ 115 ∷ 119 ∷ 101 ∷ 114 ∷ 101 ∷ 100 ∷ 32 ∷ 48 ∷ 120 ∷ 88 ∷ 32 ∷ 68 ∷ 44 ∷ 68 ∷ 124 ∷ 116 ∷ 105 ∷ 109 ∷ 101 ∷ 100 ∷ 32 ∷ 111 ∷ 117 ∷ 116 ∷ 32 ∷ 48 ∷ 120 ∷ 88 ∷ 32 ∷ 68 ∷ 44 ∷ 68 ∷ 124 ∷ 110 ∷ 111 ∷ 116 ∷ 104 ∷ 105 ∷ 110 ∷ 103 ∷ 32 ∷ 100 ∷ 117 ∷ 101 ∷ 124 ∷ 124 ∷ 124 ∷ 104 ∷ 105 ∷ 116 ∷ 32 ∷ 48 ∷ 120 ∷ 88 ∷ 32 ∷ 68 ∷ 44 ∷ 68 ∷ 124 ∷ []

-- the number that a name begins with: a refusal's, an exception's code, or the proxy id
abbrev pub first_number : Report → ℕ
first_number r = cond (eqb r.outcome 0) r.refusal (cond (eqb r.outcome is_exception) r.code r.id)

unfoldable pub outcome_text : Report → List ℕ
outcome_text r = formed (field_of 124 r.outcome names) (first_number r) r.partial r.value

-- "lost 0xL" for a lost link, which a report does not tell from done
unfoldable pub name_text : Answer → List ℕ
name_text (Refused n) = outcome_text (numbers (Refused n))
name_text Done = outcome_text (numbers Done)
name_text (Issued i n p v) = outcome_text (numbers (Issued i n p v))
name_text (Joined i) = outcome_text (numbers (Joined i))
name_text (Excepted c) = outcome_text (numbers (Excepted c))
name_text (Answered i n k p v) = outcome_text (numbers (Answered i n k p v))
name_text (TimedOut i k) = outcome_text (numbers (TimedOut i k))
name_text NothingDue = outcome_text (numbers NothingDue)
name_text (Lost s) = formed (108 ∷ 111 ∷ 115 ∷ 116 ∷ 32 ∷ 48 ∷ 120 ∷ 76 ∷ []) s 0 0
name_text (Hit n p v) = outcome_text (numbers (Hit n p v))

-- the k-th party of a list, its client and its id: " to D,0xX", and without the "to" from the second on
abbrev pub skipped : ℕ → ℕ
skipped k = cond (eqb k 0) 0 3

abbrev pub party_text : List ℕ → ℕ → List ℕ
party_text list k = formed (drop (skipped k) (32 ∷ 116 ∷ 111 ∷ 32 ∷ 68 ∷ 44 ∷ 48 ∷ 120 ∷ 88 ∷ [])) (get_or list (2 * k) 0) (get_or list (2 * k + 1) 0) 0

unfoldable pub parties_text : List ℕ → ℕ → List ℕ
parties_text list zero = []
parties_text list (suc k) = parties_text list k ++ party_text list k

-- what is said of a report whose name is said so, of the lent buffer and the lent list afterwards
unfoldable pub report_text : List ℕ → Report → List ℕ → List ℕ → List ℕ
report_text name r out list =
    name
    ++ (frame_text (take r.length out)
    ++ (parties_text list r.parties
    ++ (touched (all_are kept_byte (drop r.length out))
    ++ touched (all_are kept_place (drop (2 * r.parties) list)))))

abbrev pub answer_text : Answer → List ℕ → List ℕ → List ℕ
answer_text a out list = report_text (name_text a) (numbers a) out list
