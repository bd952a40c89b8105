-- Bytes written over the start of a buffer, and numbers of 16 bits in bytes.
-- Assumes nothing.
use Prim.Native.Nat.{ℕ, suc, ◌+◌, ◌*◌, ◌/◌, ◌%◌, ◌≤◌, ◌<◌}
use mathlib.Core.Path.{◌≡◌, ap, sym, ◌∙◌}
use mathlib.Core.List.{List, [], ◌∷◌, ◌++◌, append_assoc, append-nil}
use native.Mathlib.Nat.{add-zero, zero-add, add_assoc}
use native.Mathlib.Numerals.{add-one}
use native.Mathlib.Omega.{arith}
use lib.ListN.{length, get_or, set, take, drop, take-append-drop, length-set, length-append, get_or-append, get_or-eq_default}
use lib.Seq.{drop-cons, paste, paste-zero, paste-suc, length-paste, take-length, take-suc, take_at, set_at, append_snoc, drop-append-add, drop-drop, length-take-le, sets, sets-eq, get_or-set_same, get_or-set_other, set-set, set_comm, set-get_or}
use Rattle.std.proofs.Common.{drop_of_length-le}
use Rattle.laws.specs.Bytes.{over, over_at, pair_at, put_at}

-- a copy from the front: nothing yet, one byte more, all
pub copied_none : (d s : List ℕ) → d ≡ paste d 0 s 0
copied_none d s = paste-zero d 0 s

pub copied_more : (d₀ s d : List ℕ) (i : ℕ) → i < length s → length s ≤ length d₀ → d ≡ paste d₀ 0 s i → set d i (get_or s i 0) ≡ paste d₀ 0 s (i + 1)
copied_more d₀ s d i h l e =
    let n : 0 + i ≡ i = zero-add i in
    let p : set (paste d₀ 0 s i) (0 + i) (get_or s i 0) ≡ paste d₀ 0 s (suc i) = paste-suc d₀ 0 s i 0 (omega arith) h in
    rw (add-one i) (rw e (ap (λ (k : ℕ). set (paste d₀ 0 s i) k (get_or s i 0)) (sym n) ∙ p))

pub copied_all : (d₀ s d : List ℕ) (i : ℕ) → i ≡ length s → d ≡ paste d₀ 0 s i → d ≡ over s d₀
copied_all d₀ s d i q e = e ∙ rw (q, take-length s, zero-add (length s))

-- stores from the front, one after the other, write over it
pub written : (w d : List ℕ) → length w ≤ length d → sets d 0 w ≡ over w d
written w d h = sets-eq w d 0 (omega arith) ∙ rw (zero-add (length w))

-- a number that was put is read back, elsewhere nothing changed
pub length_put : (d : List ℕ) (k n : ℕ) → length (put_at d k n) ≡ length d
length_put d k n = simp length-set

pub pair_put : (d : List ℕ) (k n : ℕ) → k + 1 < length d → n < 65536 → pair_at (put_at d k n) k ≡ n
pair_put d k n h l =
    let e : get_or (put_at d k n) k 0 ≡ n / 256 = get_or-set_other (set d k (n / 256)) (k + 1) k (n % 256) 0 (λ z. omega arith) ∙ get_or-set_same d k (n / 256) 0 (omega arith) in
    let f : get_or (put_at d k n) (k + 1) 0 ≡ n % 256 = get_or-set_same (set d k (n / 256)) (k + 1) (n % 256) 0 (simp length-set h) in
    rw (e, f) (omega arith)

pub pair_put_other : (d : List ℕ) (k n j : ℕ) → k + 1 < j → pair_at (put_at d k n) j ≡ pair_at d j
pair_put_other d k n j h =
    rw (
      get_or-set_other (set d k (n / 256)) (k + 1) j (n % 256) 0 (λ z. omega arith),
      get_or-set_other d k j (n / 256) 0 (λ z. omega arith),
      get_or-set_other (set d k (n / 256)) (k + 1) (j + 1) (n % 256) 0 (λ z. omega arith),
      get_or-set_other d k (j + 1) (n / 256) 0 (λ z. omega arith),
    )

pub put_put : (d : List ℕ) (k a b : ℕ) → put_at (put_at d k a) k b ≡ put_at d k b
put_put d k a b =
    rw (set_comm (set d k (a / 256)) (k + 1) k (a % 256) (b / 256) (λ z. omega arith), set-set d k (a / 256) (b / 256), set-set (set d k (b / 256)) (k + 1) (a % 256) (b % 256))

pub put_comm : (d : List ℕ) (k a j b : ℕ) → k + 1 < j → put_at (put_at d k a) j b ≡ put_at (put_at d j b) k a
put_comm d k a j b h =
    rw (
      set_comm (set d k (a / 256)) (k + 1) j (a % 256) (b / 256) (λ z. omega arith),
      set_comm d k j (a / 256) (b / 256) (λ z. omega arith),
      set_comm (set (set d j (b / 256)) k (a / 256)) (k + 1) (j + 1) (a % 256) (b % 256) (λ z. omega arith),
      set_comm (set d j (b / 256)) k (j + 1) (a / 256) (b % 256) (λ z. omega arith),
    )

-- the number that is there, put there, changes nothing
pub put_same : (d : List ℕ) (k : ℕ) → get_or d (k + 1) 0 < 256 → put_at d k (pair_at d k) ≡ d
put_same d k b =
    let e : (get_or d k 0 * 256 + get_or d (k + 1) 0) / 256 ≡ get_or d k 0 = omega arith in
    let f : (get_or d k 0 * 256 + get_or d (k + 1) 0) % 256 ≡ get_or d (k + 1) 0 = omega arith in
    rw (e, f, set-get_or d k 0, set-get_or d (k + 1) 0)

-- a number in a list is still there when more bytes come
pub pair_append : (s t : List ℕ) (k : ℕ) → k + 1 < length s → pair_at (s ++ t) k ≡ pair_at s k
pair_append s t k h = rw (get_or-append s t 0 k (omega arith), get_or-append s t 0 (k + 1) h)

-- past the end of a list the number is 0
pub pair_past : (s : List ℕ) (k : ℕ) → length s ≤ k → pair_at s k ≡ 0
pair_past s k h = rw (get_or-eq_default s 0 h, get_or-eq_default s 0 {n = k + 1} (omega arith))

-- parts laid over a buffer: nothing, a whole copy, one byte in front, one part behind another, from the front
pub over_at-none : (at : ℕ) (b : List ℕ) → over_at [] at b ≡ b
over_at-none at b = rw (add-zero at, append-nil (take at b)) (take-append-drop at b)

pub over_at-paste : (w : List ℕ) (at : ℕ) (b : List ℕ) → paste b at w (length w) ≡ over_at w at b
over_at-paste w at b = rw (take-length w)

pub length-over_at : (w : List ℕ) (at : ℕ) (b : List ℕ) → at + length w ≤ length b → length (over_at w at b) ≡ length b
length-over_at w at b h = rw (← over_at-paste w at b) (length-paste b at w (length w) h (omega arith))

pub over_at_front : (w : List ℕ) (at : ℕ) (b : List ℕ) (x : ℕ) → at < length b → set (over_at w (at + 1) b) at x ≡ over_at (x ∷ w) at b
over_at_front w at b x h =
    let e : at + 1 + length w ≡ at + suc (length w) = omega arith in
    rw (e, add-one at, take-suc b at 0 h, append_snoc (take at b) (get_or b at 0) w, append_assoc (take at b) (get_or b at 0 ∷ w) rest)
    (set_at (take at b) (get_or b at 0) (w ++ rest) x at (length-take-le at b (omega arith)) ∙ sym (append_assoc (take at b) (x ∷ w) rest))
  where
    rest : List ℕ
    rest = drop (at + suc (length w)) b

pub over_at-behind : (w v : List ℕ) (at : ℕ) (b : List ℕ) → at ≤ length b → over_at v (at + length w) (over_at w at b) ≡ over_at (w ++ v) at b
over_at-behind w v at b h =
    let l : length (take at b ++ w) ≡ at + length w = omega (arith, length-append (take at b) w, length-take-le at b h) in
    let t : take (at + length w) (over_at w at b) ≡ take at b ++ w = take_at (take at b ++ w) (drop (at + length w) b) (at + length w) l in
    let d : drop (at + length w + length v) (over_at w at b) ≡ drop (at + length w + length v) b =
    rw l at (drop-append-add (take at b ++ w) (drop (at + length w) b) (length v)) ∙ drop-drop (length v) (at + length w) b
    in
    rw (t, d, length-append w v, ← add_assoc at (length w) (length v), append_assoc (take at b) w v)

pub over_at-over : (w b : List ℕ) → over_at w 0 b ≡ over w b
over_at-over w b = rw (zero-add (length w))

-- what is written over no more bytes than it has is all that stands there
pub over_all : (w b : List ℕ) → length b ≤ length w → over w b ≡ w
over_all w b h = rw (drop_of_length-le b h) (append-nil w)

-- one number more written over the start of a buffer
pub over_more : (w d : List ℕ) (n x : ℕ) → length w ≡ n → n < length d → set (over w d) n x ≡ over (w ++ (x ∷ [])) d
over_more w d n x e h =
    rw (e, drop-cons d n 0 h, set_at w (get_or d n 0) (drop (suc n) d) x n e, length-append w (x ∷ []), e, add-one n) (sym (append_snoc w x (drop (suc n) d)))
