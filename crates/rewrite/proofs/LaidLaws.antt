-- An id laid over a frame changes nothing of how the frame is rewritten: the registers stand behind it.
-- Assumes nothing.
use Prim.Native.Nat.{ℕ, zero, suc, ◌+◌, ◌≤◌}
use mathlib.Core.Path.{◌≡◌, refl, ap}
use mathlib.Core.Logic.{⊎_elim}
use mathlib.Core.Bool.{true, false}
use mathlib.Core.List.{List, [], ◌∷◌}
use native.Mathlib.Omega.{arith}
use lib.ListN.{length}
use Rattle.laws.proofs.Choice.{true_or}
use Rattle.wire.specs.Frame.{laid}
use Rattle.settings.specs.Grammar.{Tag}
use Rattle.pdu.specs.Replies.{excepts}
use Rattle.pdu.specs.declared.What.{What}
use Rattle.pdu.specs.declared.Table.TheVariants.{Bits, Registers}
use Rattle.pdu.specs.declared.Asked.{Asked}
use Rattle.pdu.specs.declared.Asked.TheVariants.{Read, SingleWrite, MultipleWrite, MaskWrite, ReadWrite, Other}
use Rattle.rewrite.specs.declared.Way.{Way}
use Rattle.rewrite.specs.Registers.{registers_at, laid_at}
use Rattle.rewrite.specs.Rewriting.{Rewritten, with_counts, rewriting, partials, values, rewritten}
use Rattle.rewrite.specs.Frames.{reencoded, returned_by, returned}

-- registers from the third byte on, and what is laid there, do not rest on the first two
module _ (x y : ℕ) where
  registers-behind : (k n : ℕ) (d : List ℕ) → registers_at (suc (suc k)) n (x ∷ y ∷ d) ≡ registers_at k n d
  unfolding registers_at
  registers-behind k zero d = refl
  registers-behind k (suc n) d = let e : suc (suc k) + 2 ≡ suc (suc (k + 2)) = omega arith in let a : suc (suc k) + 1 ≡ suc (suc (k + 1)) = omega arith in rw (e, a, registers-behind (k + 2) n d)

  laid-behind : (k : ℕ) (rs d : List ℕ) → laid_at (suc (suc k)) rs (x ∷ y ∷ d) ≡ x ∷ y ∷ laid_at k rs d
  unfolding laid_at
  laid-behind k [] d = refl
  laid-behind k (r ∷ rs) d = let e : suc (suc k) + 2 ≡ suc (suc (k + 2)) = omega arith in let a : suc (suc k) + 1 ≡ suc (suc (k + 1)) = omega arith in rw (e, a, laid-behind (k + 2) rs d)

-- what a rewriting comes to, with an id laid over it
abbrev pub laid_over : ℕ → Rewritten → Rewritten
laid_over id r = with_counts r.partial r.value (laid id r.bytes)

module _ (way : Way) (k start q : ℕ) (tags : List Tag) where
  behind : (x y : ℕ) (d : List ℕ)
      → rewriting way (suc (suc k)) start q tags (x ∷ y ∷ d)
      ≡ with_counts (partials way start tags (registers_at k q d)) (values way start tags (registers_at k q d)) (x ∷ y ∷ laid_at k (rewritten way start tags (registers_at k q d)) d)
  unfolding rewriting
  behind x y d = rw (registers-behind x y k q d) (ap (with_counts _ _) (laid-behind x y k (rewritten way start tags (registers_at k q d)) d))

  rewriting-laid : (id : ℕ) (f : List ℕ) → 2 ≤ length f → rewriting way (suc (suc k)) start q tags (laid id f) ≡ laid_over id (rewriting way (suc (suc k)) start q tags f)
  rewriting-laid id [] h = absurd (omega arith)
  rewriting-laid id (x ∷ []) h = absurd (omega arith)
  rewriting-laid id (x ∷ y ∷ d) h = rw (behind x y d) (behind _ _ d)

-- A reply under an id is rewritten as the reply is.
pub returned-laid : (tags : List Tag) (w : What) (id : ℕ) (f : List ℕ) → 2 ≤ length f → returned tags w (laid id f) ≡ laid_over id (returned tags w f)
unfolding returned returned_by
returned-laid tags w id [] h = absurd (omega arith)
returned-laid tags w id (x ∷ []) h = absurd (omega arith)
returned-laid tags w id (x ∷ y ∷ d) h =
    ⊎_elim
    (λ (e : excepts w.function (x ∷ y ∷ d) ≡ true). rw e)
    (λ (e : excepts w.function (x ∷ y ∷ d) ≡ false). rw e (by w.asked))
    (true_or (excepts w.function (x ∷ y ∷ d)))
  where
    by : (a : Asked) → returned_by tags a (laid id (x ∷ y ∷ d)) ≡ laid_over id (returned_by tags a (x ∷ y ∷ d))
    by (Read Bits s q) = refl
    by (Read Registers s q) = rewriting-laid _ 7 s q tags id (x ∷ y ∷ d) h
    by (SingleWrite Bits a v) = refl
    by (SingleWrite Registers a v) = ⊎_elim (λ e. rw e (rewriting-laid _ 8 a 1 tags id (x ∷ y ∷ d) h)) (λ e. rw e) (true_or (reencoded tags a v))
    by (MultipleWrite t s q) = refl
    by (MaskWrite a v m) = refl
    by (ReadWrite s q u p) = rewriting-laid _ 7 s q tags id (x ∷ y ∷ d) h
    by Other = refl
