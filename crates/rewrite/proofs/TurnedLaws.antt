-- A frame whose registers were rewritten, under an id over the start of a buffer: each register stands there turned by its tag's verdict or as it came, and the counts are of tags.
-- Assumes nothing.
use Prim.Native.Nat.{ℕ, ◌+◌, ◌*◌, ◌≤◌, ◌<◌}
use mathlib.Core.Path.{◌≡◌, refl, ap, sym, ◌∙◌}
use mathlib.Core.List.{List}
use native.Mathlib.Omega.{arith}
use lib.ListN.{length, get_or}
use Rattle.laws.specs.Bytes.{over, pair_at}
use Rattle.wire.specs.Frame.{laid}
use Rattle.settings.specs.Grammar.{Tag}
use Rattle.rewrite.specs.declared.Way.{Way}
use Rattle.rewrite.specs.Registers.{registers_at}
use Rattle.rewrite.specs.Rewriting.{rewritten, partials, values, rewriting}
use Rattle.rewrite.specs.Plain.{Rewrites}
use Rattle.rewrite.proofs.RegisterLaws.{register_at}
use Rattle.rewrite.proofs.RunLaws.{register_done, register_raw}
use Rattle.rewrite.proofs.TableLaws.{registers-after}
use Rattle.rewrite.proofs.FrameLaws.{length-rewriting, rewriting_other, stands_under}

module _ (way : Way) (base start q : ℕ) (tags : List Tag) (f : List ℕ) (id : ℕ) (o : List ℕ) (b : 2 ≤ base) (room : base + 2 * q ≡ length f) where
  -- what stands in the buffer behind the id
  stands : (k : ℕ) → 2 ≤ k → k < length f → get_or (over (laid id (rewriting way base start q tags f).bytes) o) k 0 ≡ get_or (rewriting way base start q tags f).bytes k 0
  stands k h l = stands_under id (rewriting way base start q tags f).bytes o k h (rw (length-rewriting way base start q tags f) l)

  -- a register of it is one of the registers rewritten
  register : ((k : ℕ) → get_or f k 0 < 256) → (i : ℕ) → i < q
      → pair_at (over (laid id (rewriting way base start q tags f).bytes) o) (base + 2 * i) ≡ get_or (rewritten way start tags (registers_at base q f)) i 0
  register bytes i h =
      let w = (rewriting way base start q tags f).bytes in
      rw (stands (base + 2 * i) (omega arith) (omega arith), stands (base + 2 * i + 1) (omega arith) (omega arith))
      (sym (register_at base q w i h) ∙ ap (λ (rs : List ℕ). get_or rs i 0) (registers-after way base start q f bytes (omega arith) tags))

  -- What was rewritten and laid over a buffer stands there rewritten.
  pub stands_rewritten : Rewrites way tags f (over (laid id (rewriting way base start q tags f).bytes) o) (rewriting way base start q tags f).partial (rewriting way base start q tags f).value base start q
  unfolding rewriting partials values
  stands_rewritten =
      record {
        inside = room;
        registers = λ k l u. stands k (omega arith) (omega arith);
        turned = λ asc bytes t ws i m e h l. register bytes i l ∙ register_done way start tags (registers_at base q f) asc t m ws i e h;
        raw = λ bytes i l n. register bytes i l ∙ register_raw way start tags (registers_at base q f) i n ∙ register_at base q f i l;
        others = λ k l u z. stands k l u ∙ rewriting_other way base start q tags f k z;
        raw_for_cover = refl;
        raw_for_value = refl;
      }
