-- What zb_split, zb_settings_write and zb_settings_read report, all ten numbers of it, for any run, value, buffer and text: what follows from their promises.
-- Assumes nothing.
use Prim.Native.Nat.{ℕ, ◌≤◌, ◌<◌}
use mathlib.Core.Path.{◌≡◌, refl, ap, sym, ◌∙◌}
use mathlib.Core.Logic.Iff
use mathlib.Core.Logic.{◌↔◌, ⊎_elim, ◌⊎◌}
use mathlib.Core.Bool.{true, false, not, false≢true}
use mathlib.Core.List.{List, []}
use native.Mathlib.Omega.{arith}
use lib.ListN.{length, take, drop}
use lib.Seq.{take-append_seam}
use lib.Dec.{eqb, ltb}
use borrow.Author.Tests.{eqb-false, ne_eqb, ltb-true, ltb-false, lt-ltb}
use Rattle.numbers.specs.Numbers.{least_length, most_length}
use Rattle.laws.specs.Bytes.{over}
use Rattle.laws.proofs.Choice.{true_or, never}
use Rattle.laws.proofs.TestLaws.{holds_not, holds_or}
use Rattle.wire.specs.Frame.{protocol_of, length_of}
use Rattle.wire.specs.Splitting.{bad_header, standing_of, first_frame}
use Rattle.wire.specs.Splitting.{Standing}
use Rattle.wire.specs.Splitting.Standing.{Frame, MoreNeeded, Refused}
use Rattle.wire.proofs.SplittingLaws.{starts, stands, six_decide, first-size, refused}
use Rattle.settings.specs.Grammar.{Value, Read, valid, read_text}
use Rattle.settings.specs.Grammar.Read.{got, wrong}
use Rattle.settings.specs.Plain.{ValidSettings, FirstWrong}
use Rattle.settings.specs.Values.{value_of, settings_of}
use Rattle.settings.specs.declared.Settings.{Settings}
use Rattle.settings.proofs.GrammarLaws.{read_back, read_valid}
use Rattle.settings.proofs.ValueLaws.{value_back}
use Rattle.settings.proofs.ValidLaws.{settings_valid_exactly}
use Rattle.settings.proofs.ReadsLaws.{reads_to}
use Rattle.settings.proofs.FirstWrongLaws.{wrong_exactly, lines_read, wrong_or_right}
use Rattle.settingstext.specs.TextWritten.{written_to}
use Rattle.machine.specs.Numbers.{ten}
use Rattle.machine.specs.declared.Report.{Report}
use Rattle.reports.specs.Plain.{protocol_in, length_in, WrongHeader, FrameFirst, SplitSays, text_for, WriteSays, ReadSays}
use Rattle.reports.specs.Reports.{short_report, split_told, told_by_read, TextSeen, wrote_told, SplitPromised, ReadPromised, WritePromised}
use Rattle.reports.specs.declared.SettingsRead.{SettingsRead}

-- A report that tells four numbers has these ten exactly if they are its four, and 0 behind them.
pub short_report_exactly : (a k o n a' k' o' n' : ℕ) {r : Report} → r ≡ short_report a k o n → (r ≡ ten a' k' o' n' 0 0 0 0 0 0) ↔ ((a ≡ a') × (k ≡ k') × (o ≡ o') × (n ≡ n'))
short_report_exactly a k o n a' k' o' n' {r} e = (
  λ q. let p : short_report a k o n ≡ ten a' k' o' n' 0 0 0 0 0 0 = sym e ∙ q in (ap (λ (x : Report). x.refusal) p, ap (λ (x : Report). x.line) p, ap (λ (x : Report). x.outcome) p, ap (λ (x : Report). x.length) p),
  λ x. e ∙ rw (x.0, x.1, x.2, x.3),
)

-- two facts that both hold, or both fail
pub both : {P Q : Type 0} → P → Q → P ↔ Q
both p q = (λ x. q, λ y. p)

pub neither : {P Q : Type 0} → (P → ⊥) → (Q → ⊥) → P ↔ Q
neither m n = (λ x. absurd (m x), λ y. absurd (n y))

-- what splitting reports, by what stands first in the run
record Splits (s : Standing) (n : ℕ) (r : Report) : Type 0 where
  pub refused : (r ≡ ten 4 0 0 0 0 0 0 0 0 0) ↔ (s ≡ Refused)
  pub frame : (m : ℕ) → (r ≡ ten 0 0 8 m 0 0 0 0 0 0) ↔ ((s ≡ Frame) × (m ≡ n))
  pub more : (r ≡ ten 0 0 9 0 0 0 0 0 0 0) ↔ ((s ≡ Refused → ⊥) × (s ≡ Frame → ⊥))

splits : (s : Standing) (n : ℕ) {r : Report} → r ≡ split_told s n → Splits s n r
unfolding split_told
splits Frame n e =
    record {
      refused = Iff.trans (short_report_exactly 0 0 8 n 4 0 0 0 e) (neither (λ x. omega arith) (λ q. never (cc)));
      frame = λ m. Iff.trans (short_report_exactly 0 0 8 n 0 0 8 m e) (λ x. (refl, omega arith), λ x. (refl, refl, refl, omega arith));
      more = Iff.trans (short_report_exactly 0 0 8 n 0 0 9 0 e) (neither (λ x. omega arith) (λ x. x.1 refl));
    }
splits MoreNeeded n e =
    record {
      refused = Iff.trans (short_report_exactly 0 0 9 0 4 0 0 0 e) (neither (λ x. omega arith) (λ q. never (cc)));
      frame = λ m. Iff.trans (short_report_exactly 0 0 9 0 0 0 8 m e) (neither (λ x. omega arith) (λ x. let q = x.0 in never (cc)));
      more = both e (λ q. never (cc), λ q. never (cc));
    }
splits Refused n e =
    record {
      refused = both e refl;
      frame = λ m. Iff.trans (short_report_exactly 4 0 0 0 0 0 8 m e) (neither (λ x. omega arith) (λ x. let q = x.0 in never (cc)));
      more = Iff.trans (short_report_exactly 4 0 0 0 0 0 9 0 e) (neither (λ x. omega arith) (λ x. x.0 refl));
    }

-- a header is bad by its numbers
bad_exactly : (run : List ℕ) → (bad_header run ≡ true) ↔ ((protocol_in run ≡ 0 → ⊥) ⊎ ((length_in run < 2) ⊎ (254 < length_in run)))
bad_exactly run =
    let p : protocol_in run ≡ protocol_of run = omega arith in
    let l : length_in run ≡ length_of run = omega arith in
    rw (p, l)
    (holds_or (not (eqb (protocol_of run) 0)) _ (Iff.trans (holds_not (eqb (protocol_of run) 0)) (eqb-false (protocol_of run) 0, ne_eqb (protocol_of run) 0))
    (holds_or (ltb (length_of run) least_length) (ltb most_length (length_of run)) (ltb-true (length_of run) least_length, lt-ltb (length_of run) least_length)
    (ltb-true most_length (length_of run), lt-ltb most_length (length_of run))))

refused_exactly : (run : List ℕ) → (standing_of run ≡ Refused) ↔ WrongHeader run
refused_exactly run = (
  λ e. let h = refused run e in (h.0, (bad_exactly run).0 h.1),
  λ w. six_decide run w.0 ((bad_exactly run).1 w.1),
)

frame_exactly : (run : List ℕ) → (standing_of run ≡ Frame) ↔ FrameFirst run
frame_exactly run = (
  λ e. let h = starts run e in (omega arith, omega arith, omega arith, omega arith),
  λ w. stands run (record { protocol = omega arith; least = omega arith; most = omega arith; whole = omega arith }),
)

-- What splitting reports of any run.
pub split-says : (run : List ℕ) {r : Report} → SplitPromised run r → SplitSays run r
split-says run e =
    let s = splits (standing_of run) (length (first_frame run)) e in
    record {
      refused = Iff.trans s.refused (refused_exactly run);
      frame = λ n. Iff.trans (s.frame n) (
        λ x. let size = first-size run x.0 in ((frame_exactly run).0 x.0, omega arith),
        λ y. let f = (frame_exactly run).1 y.0 in let size = first-size run f in (f, omega arith),
      );
      more = Iff.trans s.more (Iff.and (Iff.not (refused_exactly run)) (Iff.not (frame_exactly run)));
    }

-- writing, case by case: an invalid value, a text that does not fit, and a text that is written
data Writes (from : Settings) (b : List ℕ) (r : Report) (b' : List ℕ) : Type 0 where
  invalid : (ValidSettings from → ⊥) → r ≡ short_report 10 0 0 0 → b' ≡ b → Writes from b r b'
  short : ValidSettings from → length b < length (text_for from) → r ≡ short_report 1 0 0 0 → b' ≡ b → Writes from b r b'
  done : ValidSettings from → length (text_for from) ≤ length b → r ≡ short_report 0 0 1 (length (text_for from)) → b' ≡ over (text_for from) b → Writes from b r b'

writes : (from : Settings) (b : List ℕ) {r : Report} {b' : List ℕ} → WritePromised from b r b' → Writes from b r b'
unfolding written_to wrote_told
writes from b e =
    let n = length (text_for from) in
    let says = ap (λ (x : TextSeen). x.says) e in
    let buffer = ap (λ (x : TextSeen). x.buffer) e in
    ⊎_elim
    (λ (t : valid (value_of from) ≡ true).
    let v = (settings_valid_exactly from).0 t in
    ⊎_elim
    (λ (u : ltb (length b) n ≡ true). short v (ltb-true (length b) n u) (says ∙ rw t (rw u refl)) (buffer ∙ rw t (rw u refl)))
    (λ (u : ltb (length b) n ≡ false). done v (ltb-false (length b) n u) (says ∙ rw t (rw u refl)) (buffer ∙ rw t (rw u refl)))
    (true_or (ltb (length b) n)))
    (λ (t : valid (value_of from) ≡ false). invalid (λ v. false≢true (sym t ∙ (settings_valid_exactly from).1 v)) (says ∙ rw t) (buffer ∙ rw t))
    (true_or (valid (value_of from)))

refusal_of : {r : Report} (a k o n : ℕ) → r ≡ short_report a k o n → r.refusal ≡ a
refusal_of a k o n e = ap (λ (x : Report). x.refusal) e

write_case : (from : Settings) (b : List ℕ) {r : Report} {b' : List ℕ} → Writes from b r b' → WriteSays from b r b'
write_case from b (invalid n e q) =
    record {
      invalid = both e n;
      short = Iff.trans (short_report_exactly 10 0 0 0 1 0 0 0 e) (neither (λ x. omega arith) (λ x. n x.0));
      done = λ m. Iff.trans (short_report_exactly 10 0 0 0 0 0 1 m e) (neither (λ x. omega arith) (λ x. n x.0));
      untouched = λ h. q;
      written = λ z. let h = refusal_of 10 0 0 0 e in absurd (omega arith);
    }
write_case from b (short v l e q) =
    record {
      invalid = Iff.trans (short_report_exactly 1 0 0 0 10 0 0 0 e) (neither (λ x. omega arith) (λ n. n v));
      short = both e (v, l);
      done = λ m. Iff.trans (short_report_exactly 1 0 0 0 0 0 1 m e) (neither (λ x. omega arith) (λ x. omega arith));
      untouched = λ h. q;
      written = λ z. let h = refusal_of 1 0 0 0 e in absurd (omega arith);
    }
write_case from b (done v l e q) =
    let n = length (text_for from) in
    record {
      invalid = Iff.trans (short_report_exactly 0 0 1 n 10 0 0 0 e) (neither (λ x. omega arith) (λ h. h v));
      short = Iff.trans (short_report_exactly 0 0 1 n 1 0 0 0 e) (neither (λ x. omega arith) (λ x. omega arith));
      done = λ m. Iff.trans (short_report_exactly 0 0 1 n 0 0 1 m e) (λ x. (v, omega arith, omega arith), λ x. (refl, refl, refl, omega arith));
      untouched = λ h. absurd (h (refusal_of 0 0 1 n e));
      written = λ z. q;
    }

-- What writing reports of any settings and buffer, and what it leaves in the buffer.
pub write_says : (from : Settings) (b : List ℕ) {r : Report} {b' : List ℕ} → WritePromised from b r b' → WriteSays from b r b'
write_says from b e = write_case from b (writes from b e)

-- the text that was written, read
text_back : (from : Settings) (b : List ℕ) {r : Report} {b' : List ℕ} → Writes from b r b' → r.refusal ≡ 0 → read_text (take r.length b') ≡ got (value_of from) []
text_back from b (invalid n e q) z = let h = refusal_of 10 0 0 0 e in absurd (omega arith)
text_back from b (short v l e q) z = let h = refusal_of 1 0 0 0 e in absurd (omega arith)
text_back from b (done v l e q) z =
    rw (e, q, take-append_seam (text_for from) (drop (length (text_for from)) b)) (read_back (value_of from) ((settings_valid_exactly from).1 v))

-- What was written is read back: reading it is done, and gives the value.
pub written_reads_back : (from : Settings) (b : List ℕ) {r : Report} {b' : List ℕ} → WritePromised from b r b' → r.refusal ≡ 0
    → {q : SettingsRead} → ReadPromised (take r.length b') q → (q.answer ≡ ten 0 0 1 0 0 0 0 0 0 0) × (value_of q.settings ≡ value_of from)
unfolding told_by_read
written_reads_back from b e z p =
    let same = p ∙ ap told_by_read (text_back from b (writes from b e) z) in
    (ap (λ (x : SettingsRead). x.answer) same, ap (λ (x : SettingsRead). value_of x.settings) same ∙ value_back (value_of from))

-- reading, case by case: a text that is read, and one with a first wrong line
read_case : (t : List ℕ) (y : Read Value) → read_text t ≡ y → {r : SettingsRead} → r ≡ told_by_read y → ReadSays t r
unfolding told_by_read settings_of
read_case t (got v rest) y {r} e =
    let none : (k : ℕ) → FirstWrong t k → ⊥ = λ k f. let q = (wrong_exactly t k).1 f in never (cc) in
    let answer : r.answer ≡ short_report 0 0 1 0 = ap (λ (x : SettingsRead). x.answer) e in
    let checked : ValidSettings (settings_of v) = (settings_valid_exactly (settings_of v)).0 (rw (value_back v) (read_valid t rest v y)) in
    record {
      wrong = λ k. Iff.trans (short_report_exactly 0 0 1 0 10 k 0 0 answer) (neither (λ x. omega arith) (none k));
      usual = λ k f. absurd (none k f);
      right = λ ns c a.
          let w = lines_read c a in
          let same : w.0 ≡ v = cc w.1 in
          (answer, rw e checked, rw e (reads_to checked.few (rw same at w.2)));
      either = wrong_or_right t;
    }
read_case t (wrong j) y {r} e =
    let answer : r.answer ≡ short_report 10 j 0 0 = ap (λ (x : SettingsRead). x.answer) e in
    record {
      wrong = λ k. Iff.trans (short_report_exactly 10 j 0 0 10 k 0 0 answer)
          (λ x. let q = x.1 in (wrong_exactly t k).0 (y ∙ ap wrong q), λ f. let q = (wrong_exactly t k).1 f in (refl, cc, refl, refl));
      usual = λ k f. ap (λ (x : SettingsRead). x.settings) e;
      right = λ ns c a. let q = (lines_read c a).1 in never (cc);
      either = wrong_or_right t;
    }

-- What reading reports of any text, and what it gives.
pub read_says : (t : List ℕ) {r : SettingsRead} → ReadPromised t r → ReadSays t r
read_says t e = read_case t (read_text t) refl e
