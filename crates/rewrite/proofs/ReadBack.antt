-- Demand 2: a value in a tag's range that was written over the whole tag and is read back over the whole tag comes back as that value, for any kind.
-- Assumes nothing.
use Rattle.std.specs.Prelude.{Some}
use Prim.Native.Nat.{ℕ, ◌+◌, ◌*◌, ◌≤◌, ◌<◌}
use mathlib.Core.Path.{◌≡◌, refl, ap, ◌∙◌}
use mathlib.Core.Bool.{true}
use mathlib.Core.List.{List, Memᴰ}
use lib.ListN.{length, get_or}
use Rattle.laws.specs.Digits.{below}
use Rattle.bcd.specs.Bcd.{in_range}
use Rattle.bcd.specs.Words.{words_of, number_of}
use Rattle.bcd.proofs.RoundTrip.{encode_accepts, encode_decode, encoded-below}
use Rattle.bcd.proofs.Words.{words_back, number_back}
use Rattle.settings.specs.Grammar.{Tag}
use Rattle.settings.specs.TagWords.{kind_of, Ascending}
use Rattle.rewrite.specs.declared.Way.TheVariants.{ToBcd, ToBinary}
use Rattle.rewrite.specs.Registers.{registers_at}
use Rattle.rewrite.specs.Rewriting.{own_in, rewritten, rewriting}
use Rattle.rewrite.specs.Plain.{Whole}
use Rattle.rewrite.proofs.VerdictLaws.{done_exactly, turned-encoded, turned-decoded}
use Rattle.rewrite.proofs.RegisterLaws.{length-registers, registers-below}
use Rattle.rewrite.proofs.TableLaws.{registers-after}
use Rattle.rewrite.proofs.RunLaws.{own_done, own_length, own_below}

-- Whatever registers are written around a tag and whatever registers are read around it: what stands at the tag when it is written, if it is in the tag's
-- range, stands there when the words that were sent are read back.
pub read_back : (tags : List Tag) → Ascending 0 tags → (t : Tag) → Memᴰ t tags
    → (start : ℕ) (rs : List ℕ) → Whole start (length rs) t → below 65536 rs ≡ true → in_range (kind_of t) (number_of (own_in start rs t)) ≡ true
    → (start' : ℕ) (rs' : List ℕ) → Whole start' (length rs') t → own_in start' rs' t ≡ own_in start (rewritten ToBcd start tags rs) t
    → own_in start' (rewritten ToBinary start' tags rs') t ≡ own_in start rs t
read_back tags a t m start rs w b range start' rs' w' stored =
    let k = kind_of t in
    let n = number_of (own_in start rs t) in
    let s = encode_accepts k n range in
    let sent : own_in start (rewritten ToBcd start tags rs) t ≡ words_of k s.0 =
    own_done ToBcd start tags rs a t m (words_of k s.0) ((done_exactly ToBcd start rs t (words_of k s.0)).1 (w, (s.0, turned-encoded k n (Some s.0) s.1, refl))) in
    let number : number_of (own_in start' rs' t) ≡ s.0 = ap number_of (stored ∙ sent) ∙ number_back k s.0 (encoded-below k n s.0 s.1) in
    own_done ToBinary start' tags rs' a t m (words_of k n)
    ((done_exactly ToBinary start' rs' t (words_of k n)).1 (w', (n, rw number (turned-decoded k s.0 (Some n) (encode_decode k n s.0 s.1)), refl)))
    ∙ words_back k (own_in start rs t) (own_length start rs t w) (own_below start rs t b)

-- The same of frames: a write that carries the registers from byte base on, and a reply that carries them from byte base' on.
pub read_back_frames : (tags : List Tag) → Ascending 0 tags → (t : Tag) → Memᴰ t tags
    → (base start q : ℕ) (f : List ℕ) → ((i : ℕ) → get_or f i 0 < 256) → base + 2 * q ≤ length f → Whole start q t
    → in_range (kind_of t) (number_of (own_in start (registers_at base q f) t)) ≡ true
    → (base' start' q' : ℕ) (g : List ℕ) → ((i : ℕ) → get_or g i 0 < 256) → base' + 2 * q' ≤ length g → Whole start' q' t
    → own_in start' (registers_at base' q' g) t ≡ own_in start (registers_at base q (rewriting ToBcd base start q tags f).bytes) t
    → own_in start' (registers_at base' q' (rewriting ToBinary base' start' q' tags g).bytes) t ≡ own_in start (registers_at base q f) t
read_back_frames tags a t m base start q f bytes room w range base' start' q' g bytes' room' w' stored =
    ap (λ (rs : List ℕ). own_in start' rs t) (registers-after ToBinary base' start' q' g bytes' room' tags)
    ∙ read_back tags a t m start (registers_at base q f) (rw (length-registers base q f) w) (registers-below base q f bytes) range
    start'
    (registers_at base' q' g)
    (rw (length-registers base' q' g) w')
    (stored ∙ ap (λ (rs : List ℕ). own_in start rs t) (registers-after ToBcd base start q f bytes room tags))
