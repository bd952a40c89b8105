-- What is written of a reply is written for the word of what was asked.
-- Assumes nothing.
use Prim.Native.Nat.{ℕ}
use mathlib.Core.Path.{◌≡◌, ap, ◌∙◌}
use mathlib.Core.List.{List}
use Rattle.settings.specs.Grammar.{Tag}
use Rattle.pdu.specs.Replies.{what}
use Rattle.pdu.specs.declared.What.{What}
use Rattle.pdu.specs.declared.Asked.{Asked}
use Rattle.rewrite.specs.Rewriting.{Rewritten}
use Rattle.rewrite.specs.Frames.{returned, under}

-- What is written for a function and what was asked is written for the word that says both.
pub by_word : (o f : List ℕ) (tags : List Tag) {x : Rewritten} {y : ℕ} {a : Asked} (w : What) → y ≡ w.function → a ≡ w.asked
    → ((unit : ℕ) → x ≡ under 0 o (returned tags (what unit y a) f))
    → x ≡ under 0 o (returned tags w f)
by_word o f tags {a = a} w e q h =
    h w.unit
    ∙ ap (λ (v : What). under 0 o (returned tags v f))
    (ap (λ (z : ℕ). what w.unit z a) e ∙ ap (λ (z : Asked). what w.unit w.function z) q)
