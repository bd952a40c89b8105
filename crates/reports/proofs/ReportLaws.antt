-- What the calls without a device report is what the crates below come to, and every number of it fits.
-- Assumes nothing.
use prog.Memory.{size}
use Rattle.std.specs.Prelude.{Result, Ok, Err}
use Prim.Native.Nat.{ℕ, ◌≤◌}
use mathlib.Core.Path.{◌≡◌, refl, ap, sym, ◌∙◌}
use mathlib.Core.Bool.{Bool, true, false, cond, not}
use mathlib.Core.List.{List}
use native.Mathlib.Omega.{arith}
use lib.ListN.{length}
use lib.Dec.{ltb}
use borrow.Author.Tests.{ne_eqb}
use Rattle.numbers.specs.Numbers.{most_text, most_frame}
use Rattle.laws.specs.Bytes.{over}
use Rattle.wire.specs.Splitting.{standing_of, first_frame}
use Rattle.wire.specs.Splitting.{Standing}
use Rattle.wire.specs.Splitting.Standing.{Frame}
use Rattle.wire.proofs.SplittingLaws.{starts, first-size}
use Rattle.settings.specs.Grammar.{Value, Read, newest, text_in, valid, read_text}
use Rattle.settings.specs.Grammar.Read.{got, wrong}
use Rattle.settings.proofs.GrammarLaws.{wrong_most, longest_4}
use Rattle.settingstext.specs.declared.reading.ReadText.{ReadText}
use Rattle.settingstext.specs.declared.writing.WriteError.{WriteError}
use Rattle.settingstext.specs.declared.writing.WriteError.TheVariants.{TooShort, Invalid}
use Rattle.settingstext.specs.TextRead.{reported}
use Rattle.settingstext.specs.TextWritten.{Writing, writing, written_to}
use Rattle.machine.specs.declared.Report.{Report}
use Rattle.reports.specs.Reports.{split_told, settings_read, line_told, told_by_read, text_seen, wrote_told, write_told}
use Rattle.reports.proofs.SettingsRead.TheLaws.{mir}

-- A first frame is no longer than a frame may be.
pub first-low : (r : List ℕ) → standing_of r ≡ Frame → length (first_frame r) ≤ most_frame
first-low r e = let most = (starts r e).most in rw (first-size r e) (omega arith)

-- What is told of a text by its first wrong line is what reading it comes to: line 0 is a text that was read, and any other line is wrong.
told_of : (y : Read Value) → ((k : ℕ) → y ≡ wrong k → 1 ≤ k) → settings_read (line_told (reported y).line) (reported y).settings ≡ told_by_read y
unfolding reported told_by_read
told_of (got v rest) p = refl
told_of (wrong k) p = let least = p k refl in rw (ne_eqb k 0 (λ z. omega arith))

pub read_told : (t : List ℕ) {x : ReadText} {r : Report} → x ≡ reported (read_text t) → r ≡ line_told x.line → settings_read r x.settings ≡ told_by_read (read_text t)
read_told t e q = rw (q, e) (told_of (read_text t) (λ k w. (wrong_most t k w).0))

-- A case of what stands at the start of a run is told by its numbers.
pub split_is : (n : ℕ) {s t u : Standing} → s ≡ t → s ≡ u → split_told u n ≡ split_told t n
split_is n e q = ap (λ x. split_told x n) (sym q ∙ e)

-- A case of what writing comes to is told by its numbers, beside the buffer.
pub write_is : (a : List ℕ) {r : Report} {w u : Result ℕ WriteError} {x : Writing} → r ≡ wrote_told u → w ≡ u → writing w a ≡ x → text_seen r a ≡ write_told x
write_is a e q p = ap (λ r. text_seen r a) (e ∙ ap wrote_told (sym q)) ∙ ap write_told p

text_of : (t u : Bool) (m n : ℕ) (a b d : List ℕ) (w : Result ℕ WriteError) → writing w a ≡ cond (not t) (writing (Err Invalid) b) (cond u (writing (Err TooShort) b) (writing (Ok m) d))
    → w ≡ Ok n → (t ≡ true) × (n ≡ m)
text_of false u m n a b d w e s = let said = ap (λ (x : Writing). x.says) e in let z : ◌≡◌ {A = ℕ} 0 1 = cc in absurd (omega arith)
text_of true true m n a b d w e s = let said = ap (λ (x : Writing). x.says) e in let z : ◌≡◌ {A = ℕ} 0 1 = cc in absurd (omega arith)
text_of true false m n a b d w e s = let said = ap (λ (x : Writing). x.says) e in (refl, cc)

-- The length of a written text is no more than the longest text's.
pub written_low : (v : Value) (b a : List ℕ) (w : Result ℕ WriteError) (n : ℕ) → writing w a ≡ written_to v b → w ≡ Ok n → n ≤ most_text
unfolding written_to
written_low v b a w n e s =
    let x = text_of (valid v) (ltb (length b) (length (text_in newest v))) (length (text_in newest v)) n a b (over (text_in newest v) b) w e s in
    rw x.1 (longest_4 v x.0)

-- What reading settings returns has in memory the size of zb_read: that of an answer, and of settings behind it.
pub read_size : size mir ≡ 2612
read_size = refl
