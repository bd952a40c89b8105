-- Saying a text piece by piece: what was said so far, and the rest.
-- Assumes nothing.
use Rattle.std.proofs.Common.{◌≡◌, ℕ, List, [], ◌++◌, sym, refl, ◌∙◌, ◌≤◌, ⊎_elim, arith, SomeIff, Option, Some, None, ◌<◌, ◌^◌, min}
use Rattle.laws.proofs.Choice.{lt_or}
use Rattle.parts.specs.declared.saying.Saying.{Saying}
use Rattle.parts.specs.Said.{lost, said}
use Rattle.parts.specs.Saying.{place_of, place, Says}
use Rattle.parts.proofs.SaidLaws.{said-nothing, said-said}

-- the place that is found by adding, where a place can hold the sum
pub place_checked : (at : Option ℕ) (n : ℕ) → SomeIff at (n < 2 ^ 64) n → place_of at ≡ min n lost
place_checked None n w = ⊎_elim (λ (l : n < 2 ^ 64). absurd (w l)) (λ (l : 2 ^ 64 ≤ n). omega arith) (lt_or n (2 ^ 64))
place_checked (Some k) n w = rw w.1

-- nothing said leaves the place
pub says_nothing : (s t : Saying) → t.right.now ≡ s.right.now → t.at ≡ s.at → Says s [] t
says_nothing s t e f = record { stays = e; moves = rw f (sym (said-nothing s.right.now (place s) (omega arith))) }

-- two texts, one after the other, are said as one
pub says_says : {a b c : Saying} {p q : List ℕ} → Says a p b → Says b q c → Says a (p ++ q) c
says_says {a} {b} {c} {p} {q} v w = record { stays = w.stays ∙ v.stays; moves = w.moves ∙ rw (v.stays, v.moves) (said-said a.right.now (place a) p q) }

-- a text that is said in turns: the rest, said from where the turns have come, is said in all
pub record Underway (start : Saying) (text : List ℕ) (now : Saying) (rest : List ℕ) : Type 0 where
  pub same : now.right.now ≡ start.right.now
  pub all : said start.right.now (place now) rest ≡ said start.right.now (place start) text

pub underway_none : (start : Saying) (text : List ℕ) → Underway start text start text
underway_none start text = record { same = refl; all = refl }

pub underway_more : {start : Saying} {text : List ℕ} {now : Saying} {rest : List ℕ} {next : Saying} (piece rest' : List ℕ)
    → rest ≡ piece ++ rest' → Says now piece next → Underway start text now rest → Underway start text next rest'
underway_more {start} {text} {now} {rest} {next} piece rest' e v w =
    let step : place next ≡ said start.right.now (place now) piece = rw w.same at v.moves in
    record { same = v.stays ∙ w.same; all = rw (step, said-said start.right.now (place now) piece rest', ← e) w.all }

pub underway_all : {start : Saying} {text : List ℕ} {now : Saying} {rest : List ℕ} → rest ≡ [] → Underway start text now rest → Says start text now
underway_all {start} {now = now} e w = record { stays = w.same; moves = sym (said-nothing start.right.now (place now) (omega arith)) ∙ rw e at w.all }
