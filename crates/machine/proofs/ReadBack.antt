-- Demand 2 over calls: a value in a tag's range that an issued write carries, stored as sent and carried by the reply to a later read, reaches the reader as the writer sent it.
-- Assumes nothing.
use Prim.Native.Nat.{ℕ, zero, suc, ◌+◌, ◌*◌, ◌≤◌, ◌<◌}
use mathlib.Core.Path.{◌≡◌, refl, ap, ◌∙◌}
use mathlib.Core.Bool.{true, false}
use mathlib.Core.List.{List, Memᴰ}
use native.Mathlib.Omega.{arith}
use lib.ListN.{get_or}
use Rattle.bcd.specs.Bcd.{in_range}
use Rattle.bcd.specs.Words.{number_of}
use Rattle.settings.specs.Grammar.{Tag}
use Rattle.settings.specs.TagWords.{kind_of, Ascending}
use Rattle.pdu.specs.Replies.{excepts}
use Rattle.rewrite.specs.declared.Way.TheVariants.{ToBcd, ToBinary}
use Rattle.rewrite.specs.Registers.{registers_at}
use Rattle.rewrite.specs.Rewriting.{own_in, rewriting}
use Rattle.rewrite.specs.Plain.{Brings, Whole}
use Rattle.rewrite.specs.Strict.{Carries}
use Rattle.rewrite.proofs.ReadBack.{read_back_frames}
use Rattle.machine.specs.Machine.{Machine, settings}
use Rattle.machine.specs.Calls.Call.{request, reply}
use Rattle.machine.specs.Outcomes.{outcome}
use Rattle.machine.specs.Spelled.{asking}
use Rattle.machine.specs.Requested.{Issues}
use Rattle.machine.specs.Answered.{Answers}

registers_ext : (k n : ℕ) (d e : List ℕ) → ((j : ℕ) → k ≤ j → j < k + 2 * n → get_or d j 0 ≡ get_or e j 0) → registers_at k n d ≡ registers_at k n e
unfolding registers_at
registers_ext k zero d e h = refl
registers_ext k (suc n) d e h =
    rw (h k (omega arith) (omega arith), h (k + 1) (omega arith) (omega arith), registers_ext (k + 2) n d e (λ j a b. h j (omega arith) (omega arith)))

-- A value in a tag's range, written over the whole tag in one request, stored as sent and read back whole in one, comes back equal: over any two calls of any two machines
-- with the same tags.
pub comes_back : (tags : List Tag) → Ascending 0 tags → (tag : Tag) → Memᴰ tag tags
    → (m : Machine) → (settings m).tags ≡ tags → (c t : ℕ) (f o : List ℕ) → ((k : ℕ) → get_or f k 0 < 256) → Issues m c t f o (outcome m (request c t f o))
    → (base s q : ℕ) → Carries (asking f).asked base s q → Whole s q tag → in_range (kind_of tag) (number_of (own_in s (registers_at base q f) tag)) ≡ true
    → (m' : Machine) → (settings m').tags ≡ tags → (t' : ℕ) (g o' l : List ℕ) → ((k : ℕ) → get_or g k 0 < 256)
    → (a : Answers m' g o' l (outcome m' (reply t' g o' l))) → excepts a.entry.what.function g ≡ false
    → (s' q' : ℕ) → Brings a.entry.what.asked s' q' → Whole s' q' tag
    → own_in s' (registers_at 9 q' g) tag ≡ own_in s (registers_at base q (outcome m (request c t f o)).written) tag
    → own_in s' (registers_at 9 q' (outcome m' (reply t' g o' l)).written) tag ≡ own_in s (registers_at base q f) tag
comes_back tags asc tag mem m same c t f o bytes x base s q carries whole range m' same' t' g o' l bytes' a plain s' q' reads whole' stored =
    let sent = x.rewritten base s q carries in
    let back = a.rewritten s' q' reads plain in
    let r : registers_at base q (outcome m (request c t f o)).written ≡ registers_at base q (rewriting ToBcd base s q tags f).bytes =
    registers_ext base q _ _ sent.registers ∙ ap (λ (y : List Tag). registers_at base q (rewriting ToBcd base s q y f).bytes) same in
    let r' : registers_at 9 q' (outcome m' (reply t' g o' l)).written ≡ registers_at 9 q' (rewriting ToBinary 9 s' q' tags g).bytes =
    registers_ext 9 q' _ _ back.registers ∙ ap (λ (y : List Tag). registers_at 9 q' (rewriting ToBinary 9 s' q' y g).bytes) same' in
    ap (λ (y : List ℕ). own_in s' y tag) r'
    ∙ read_back_frames tags asc tag mem base s q f bytes (omega (arith, sent.inside)) whole range 9 s' q' g bytes' (omega (arith, back.inside)) whole' (stored ∙ ap (λ (y : List ℕ). own_in s y tag) r)
