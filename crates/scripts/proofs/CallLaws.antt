-- Laws on which call a letter tells.
-- Assumes nothing.
use Rattle.std.proofs.Common.{◌≡◌, ℕ, Bool, true, false, ◌||◌, eqb, refl, ne_eqb, arith}
use Rattle.scripts.specs.declared.naming.Call.{Call}
use Rattle.scripts.specs.declared.naming.Call.TheVariants.{Fresh, Attach, Detach, Request, Reply, Tick, LinkLost, Cursor, Split, Read, Write}
use Rattle.scripts.specs.Calls.{Tells}

-- the four calls that leave the state
abbrev pub leaving : Call → Bool
leaving Fresh = false
leaving Attach = false
leaving Detach = false
leaving Request = false
leaving Reply = false
leaving Tick = false
leaving LinkLost = false
leaving Cursor = true
leaving Split = true
leaving Read = true
leaving Write = true

pub leaving_told : (n : ℕ) (k : Call) → Tells n k → leaving k ≡ (eqb n 99 || (eqb n 115 || (eqb n 65 || eqb n 119)))
leaving_told n Fresh e = rw e
leaving_told n Attach e = rw e
leaving_told n Detach e = rw e
leaving_told n Request e = rw e
leaving_told n Reply e = rw e
leaving_told n Tick e = rw e
leaving_told n LinkLost e = rw (ne_eqb n 99 e.6, ne_eqb n 115 e.7, ne_eqb n 65 e.8, ne_eqb n 119 e.9)
leaving_told n Cursor e = rw e
leaving_told n Split e = rw e
leaving_told n Read e = rw e
leaving_told n Write e = rw e

-- the letter of a call that is none of three
pub told_apart : (n : ℕ) (k : Call) → Tells n k → (k ≡ Split → ⊥) → (k ≡ Read → ⊥) → (k ≡ Write → ⊥) → (n ≡ 115 → ⊥) × (n ≡ 65 → ⊥) × (n ≡ 119 → ⊥)
told_apart n Fresh e s r w = (λ z. omega arith, λ z. omega arith, λ z. omega arith)
told_apart n Attach e s r w = (λ z. omega arith, λ z. omega arith, λ z. omega arith)
told_apart n Detach e s r w = (λ z. omega arith, λ z. omega arith, λ z. omega arith)
told_apart n Request e s r w = (λ z. omega arith, λ z. omega arith, λ z. omega arith)
told_apart n Reply e s r w = (λ z. omega arith, λ z. omega arith, λ z. omega arith)
told_apart n Tick e s r w = (λ z. omega arith, λ z. omega arith, λ z. omega arith)
told_apart n LinkLost e s r w = (e.7, e.8, e.9)
told_apart n Cursor e s r w = (λ z. omega arith, λ z. omega arith, λ z. omega arith)
told_apart n Split e s r w = absurd (s refl)
told_apart n Read e s r w = absurd (r refl)
told_apart n Write e s r w = absurd (w refl)
