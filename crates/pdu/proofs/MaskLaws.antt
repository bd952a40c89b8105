-- The reply to a 22 is its request, byte for byte behind the id (request #109: "reply an exact echo").
-- Assumes nothing.
use Prim.Native.Nat.{ℕ, zero, suc, ◌+◌, ◌*◌, ◌/◌, ◌%◌, ◌<◌}
use mathlib.Core.Path.{◌≡◌, sym, ◌∙◌}
use mathlib.Core.Logic.{⊎_elim}
use mathlib.Core.Bool.{true, false, true≢false}
use mathlib.Core.List.{List}
use native.Mathlib.Omega.{arith}
use lib.ListN.{length, get_or, drop, length-drop}
use lib.Seq.{ext_get_or, get_or-drop}
use Rattle.laws.specs.Bytes.{pair_at}
use Rattle.laws.proofs.Choice.{eq_or}
use Rattle.wire.specs.Frame.{unit_of, function_of, misframed}
use Rattle.wire.proofs.FrameLaws.{framed}
use Rattle.pdu.specs.Requests.{start_of, and_mask_of, or_mask_of}
use Rattle.pdu.specs.Replies.{what, excepts, answering}
use Rattle.pdu.specs.declared.What.{What}
use Rattle.pdu.specs.declared.Asked.TheVariants.{MaskWrite}
use Rattle.pdu.specs.Plain.{Exception, Shaped}
use Rattle.pdu.proofs.ReplyLaws.{excepts_exact, answers_exact}

-- two bytes are told by their number
pair_tells : (f g : List ℕ) (k : ℕ) → ((j : ℕ) → get_or f j 0 < 256) → ((j : ℕ) → get_or g j 0 < 256) → pair_at f k ≡ pair_at g k → (get_or f k 0 ≡ get_or g k 0) × (get_or f (k + 1) 0 ≡ get_or g (k + 1) 0)
pair_tells f g k b d e = (omega (arith, b k, b (k + 1), d k, d (k + 1)), omega (arith, b k, b (k + 1), d k, d (k + 1)))

-- The reply f to what the 22 in g asked, if it is no exception, has every byte of g behind the id.
pub mask_echo : (f g : List ℕ) → ((k : ℕ) → get_or f k 0 < 256) → ((k : ℕ) → get_or g k 0 < 256) → misframed f ≡ false → misframed g ≡ false → length g ≡ 14 → function_of g ≡ 22
    → answering (what (unit_of g) 22 (MaskWrite (start_of g) (and_mask_of g) (or_mask_of g))) f ≡ true → excepts 22 f ≡ false → (length f ≡ 14) × (drop 2 f ≡ drop 2 g)
mask_echo f g b d m n long named answers plain = (size, ext_get_or 0 (drop 2 f) (drop 2 g) (let p = length-drop 2 f in let q = length-drop 2 g in omega (arith, size, long)) (λ i h. rw (get_or-drop 2 f i 0, get_or-drop 2 g i 0) (byte i (omega (arith, length-drop 2 f, size)))))
  where
    w : What
    w = what (unit_of g) 22 (MaskWrite (start_of g) (and_mask_of g) (or_mask_of g))

    told : (function_of f ≡ 22) × Shaped w.asked f
    told = ⊎_elim (λ (y : Exception 22 f). absurd (true≢false (sym ((excepts_exact 22 f).1 y) ∙ plain))) (λ y. y) ((answers_exact w f).0 answers).1

    size : length f ≡ 14
    size = let r = framed f m in omega (arith, told.1.0)

    pair : (j : ℕ) → j < 6 → pair_at f (2 + 2 * j) ≡ pair_at g (2 + 2 * j)
    pair zero h = (framed f m).protocol ∙ sym (framed g n).protocol
    pair (suc zero) h = let p = (framed f m).counted in let q = (framed g n).counted in omega (arith, size)
    pair (suc (suc zero)) h = rw (((answers_exact w f).0 answers).0, told.0, named)
    pair (suc (suc (suc zero))) h = told.1.1.0
    pair (suc (suc (suc (suc zero)))) h = told.1.1.1.0
    pair (suc (suc (suc (suc (suc zero))))) h = told.1.1.1.1
    pair (suc (suc (suc (suc (suc (suc j)))))) h = absurd (omega arith)

    byte : (i : ℕ) → i < 12 → get_or f (2 + i) 0 ≡ get_or g (2 + i) 0
    byte i h =
        let j = i / 2 in
        let t = pair_tells f g (2 + 2 * j) b d (pair j (omega arith)) in
        ⊎_elim
        (λ (z : i % 2 ≡ 0). let e : 2 + i ≡ 2 + 2 * j = omega arith in rw e t.0)
        (λ (z : i % 2 ≡ 0 → ⊥). let e : 2 + i ≡ 2 + 2 * j + 1 = omega (arith, z) in rw e t.1)
        (eq_or (i % 2) 0)
