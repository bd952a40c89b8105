-- Laws on what is said of buffers and of an answer.
-- Assumes nothing.
use Rattle.std.proofs.Common.{◌≡◌, ℕ, ◌&&◌, eqb, List, [], ◌∷◌, refl, ap}
use Rattle.std.specs.List.{list_all}
use Rattle.machine.specs.declared.Answer.{Answer}
use Rattle.machine.specs.declared.Answer.TheVariants.{Refused, Done, Issued, Joined, Excepted, Answered, TimedOut, NothingDue, Lost, Hit}
use Rattle.machine.specs.Numbers.{numbers}
use Rattle.scripts.specs.Pieces.{all_are}
use Rattle.scripts.specs.Telling.{outcome_text, name_text}

-- a list is all of one number where each element passes the test for it
pub all_list : (n : ℕ) (l : List ℕ) → list_all (λ x. eqb x n) l ≡ all_are n l
unfolding all_are
all_list n [] = refl
all_list n (x ∷ xs) = ap (eqb x n &&◌) (all_list n xs)

-- every answer but a lost link is named by its report
pub name_other : (a : Answer) → ((s : ℕ) → a ≡ Lost s → ⊥) → name_text a ≡ outcome_text (numbers a)
unfolding name_text
name_other (Refused n) h = refl
name_other Done h = refl
name_other (Issued i n p v) h = refl
name_other (Joined i) h = refl
name_other (Excepted c) h = refl
name_other (Answered i n k p v) h = refl
name_other (TimedOut i k) h = refl
name_other NothingDue h = refl
name_other (Lost s) h = absurd (h s refl)
name_other (Hit n p v) h = refl
