-- Document 01 on the calls that need no device, and on making one: what a host sees of each, for any bytes, buffers and settings. What is given of a call is the promise of its exported function.
-- Assumes nothing.
use Prim.Native.Nat.{ℕ, ◌+◌, ◌≤◌, ◌<◌}
use mathlib.Core.Path.{◌≡◌, ap, sym, ◌∙◌}
use mathlib.Core.Logic.Iff
use mathlib.Core.Logic.{◌↔◌, ⊎_elim, ◌⊎◌, inl, inr}
use mathlib.Core.Bool.{true, false, false≢true}
use mathlib.Core.List.{List, [], ◌++◌}
use native.Mathlib.Omega.{arith}
use lib.ListN.{length, take, drop, replicate}
use Rattle.laws.proofs.Choice.{true_or}
use Rattle.settings.specs.declared.Settings.{Settings}
use Rattle.settings.specs.Grammar.{valid}
use Rattle.settings.specs.Plain.{ValidSettings, Lines, AllLines, ReadsTo, FirstWrong}
use Rattle.settings.specs.Values.{value_of}
use Rattle.settings.proofs.ValidLaws.{settings_valid_exactly}
use Rattle.machine.specs.Machine.{made}
use Rattle.machine.specs.Numbers.{ten, numbers}
use Rattle.machine.specs.declared.Report.{Report}
use Rattle.reports.specs.Plain.{length_in, WrongHeader, FrameFirst, text_for}
use Rattle.reports.specs.Reports.{short_report, SplitPromised, ReadPromised, WritePromised}
use Rattle.reports.specs.declared.SettingsRead.{SettingsRead}
use Rattle.reports.proofs.SaysLaws as says
use Rattle.proxy.proofs.MakingLaws.{adopts_valid, adopts_usual}
use Rattle.proxy.specs.declared.Device.{Device}
use Rattle.device.specs.Device.{Freshly}
use Rattle.zilborteka.specs.Lives.{in_force, machine_in}

-- A frame: "With fewer than 6 bytes: more needed. With 6 or more: refusal 4 if protocol is not 0 or length not 2 to 254; else the frame, or more needed."
module _ (run : List ℕ) {r : Report} (promise : SplitPromised run r) where
  pub a_run_is_refused_exactly : (r ≡ ten 4 0 0 0 0 0 0 0 0 0) ↔ WrongHeader run
  a_run_is_refused_exactly = (says.split-says run promise).refused

  pub a_frame_stands_first_exactly : (n : ℕ) → (r ≡ ten 0 0 8 n 0 0 0 0 0 0) ↔ (FrameFirst run × (n ≡ 6 + length_in run))
  a_frame_stands_first_exactly = (says.split-says run promise).frame

  pub a_run_needs_more_exactly : (r ≡ ten 0 0 9 0 0 0 0 0 0 0) ↔ ((WrongHeader run → ⊥) × (FrameFirst run → ⊥))
  a_run_needs_more_exactly = (says.split-says run promise).more

  pub fewer_than_six_bytes_need_more : length run < 6 → r ≡ ten 0 0 9 0 0 0 0 0 0 0
  fewer_than_six_bytes_need_more h = a_run_needs_more_exactly.1 (λ w. omega arith, λ f. omega arith)

-- Settings text, the writer, over a buffer b that is b' afterwards.
module _ (from : Settings) (b : List ℕ) {r : Report} {b' : List ℕ} (promise : WritePromised from b r b') where
  -- "Writing from an invalid value is refusal 10 whatever the buffer's length, and writes nothing."
  pub an_invalid_value_is_refused_exactly : (r ≡ ten 10 0 0 0 0 0 0 0 0 0) ↔ (ValidSettings from → ⊥)
  an_invalid_value_is_refused_exactly = (says.write_says from b promise).invalid

  pub a_refusal_writes_nothing : (r.refusal ≡ 0 → ⊥) → b' ≡ b
  a_refusal_writes_nothing = (says.write_says from b promise).untouched

  -- "for a valid value it refuses, with 1, exactly if the text does not fit".
  pub a_text_does_not_fit_exactly : ValidSettings from → (r ≡ ten 1 0 0 0 0 0 0 0 0 0) ↔ (length b < length (text_for from))
  a_text_does_not_fit_exactly v = (λ e. ((says.write_says from b promise).short.0 e).1, λ l. (says.write_says from b promise).short.1 (v, l))

  -- "The writer gives this text for every valid settings value",
  pub a_text_is_written_exactly : (n : ℕ) → (r ≡ ten 0 0 1 n 0 0 0 0 0 0) ↔ (ValidSettings from × (n ≡ length (text_for from)) × (n ≤ length b))
  a_text_is_written_exactly = (says.write_says from b promise).done

  pub a_written_text_stands_first : r.refusal ≡ 0 → b' ≡ text_for from ++ drop (length (text_for from)) b
  a_written_text_stands_first = (says.write_says from b promise).written

  -- "and reading it gives the value back".
  pub a_written_text_is_read_back : r.refusal ≡ 0 → {q : SettingsRead} → ReadPromised (take r.length b') q → (q.answer ≡ ten 0 0 1 0 0 0 0 0 0 0) × (value_of q.settings ≡ value_of from)
  a_written_text_is_read_back = says.written_reads_back from b promise

-- Settings text, the reader.
module _ (t : List ℕ) {r : SettingsRead} (promise : ReadPromised t r) where
  -- Refusal 10: "settings text wrong, with its first wrong line's number".
  pub a_text_is_wrong_exactly : (k : ℕ) → (r.answer ≡ ten 10 k 0 0 0 0 0 0 0 0) ↔ FirstWrong t k
  a_text_is_wrong_exactly = (says.read_says t promise).wrong

  -- "Refusal 10 on reading returns timeout 3000, join 1 and no tags."
  pub a_wrong_text_gives_the_usual_settings : (k : ℕ) → FirstWrong t k
      → r.settings ≡ record { timeout = 3000; join = 1; tags = 0; addr = replicate 256 0; width = replicate 256 0; sign = replicate 256 0; ttl = replicate 256 0; strict = replicate 256 0 }
  a_wrong_text_gives_the_usual_settings = (says.read_says t promise).usual

  -- "Lines of key=value in this order, each ended by LF, decimals without leading zeros, nothing else": such a text is read, and the settings that it gives have the numbers of its lines.
  pub right_lines_give_their_value : (ns : List ℕ) → Lines [] t ns [] → AllLines ns → (r.answer ≡ ten 0 0 1 0 0 0 0 0 0 0) × ValidSettings r.settings × ReadsTo ns r.settings
  right_lines_give_their_value = (says.read_says t promise).right

  -- Every text has a first wrong line or is such lines, and so one that has none is read.
  pub a_text_is_wrong_or_right_lines : ((k : ℕ) × FirstWrong t k) ⊎ ((ns : List ℕ) × Lines [] t ns [] × AllLines ns)
  a_text_is_wrong_or_right_lines = (says.read_says t promise).either

  pub a_text_with_no_wrong_line_is_read : ((k : ℕ) → FirstWrong t k → ⊥) → (r.answer ≡ ten 0 0 1 0 0 0 0 0 0 0) × ValidSettings r.settings
  a_text_with_no_wrong_line_is_read clean =
      ⊎_elim
      (λ (w : (k : ℕ) × FirstWrong t k). absurd (clean w.0 w.1))
      (λ (w : (ns : List ℕ) × Lines [] t ns [] × AllLines ns). let h = right_lines_give_their_value w.0 w.1 w.2 in (h.0, h.1))
      a_text_is_wrong_or_right_lines

-- The settings in force on a device that is made from a value: the value if it is valid, and else "timeout 3000, join 1 and no tags".
pub valid_settings_are_in_force : (from : Settings) → ValidSettings from → in_force from ≡ value_of from
valid_settings_are_in_force from v = (adopts_valid (value_of from) ((settings_valid_exactly from).1 v)).1

pub else_the_usual_are_in_force : (from : Settings) → (ValidSettings from → ⊥) → in_force from ≡ record { timeout = 3000; join = 1; tags = [] }
else_the_usual_are_in_force from n =
    ⊎_elim
    (λ (t : valid (value_of from) ≡ true). absurd (n ((settings_valid_exactly from).0 t)))
    (λ (t : valid (value_of from) ≡ false). (adopts_usual (value_of from) t).1)
    (true_or (valid (value_of from)))

-- "Making a state from an invalid value returns refusal 10 beside the fresh state for timeout 3000, join 1 and no tags."
module _ (from : Settings) {r : Report} {d : Device} (fresh : Freshly from r d) where
  made_as : (ValidSettings from × (r ≡ short_report 0 0 1 0)) ⊎ ((ValidSettings from → ⊥) × (r ≡ short_report 10 0 0 0))
  unfolding numbers
  made_as =
      ⊎_elim
      (λ (t : valid (value_of from) ≡ true). inl ((settings_valid_exactly from).0 t, fresh.0 ∙ ap numbers (adopts_valid (value_of from) t).0))
      (λ (t : valid (value_of from) ≡ false). inr (λ v. false≢true (sym t ∙ (settings_valid_exactly from).1 v), fresh.0 ∙ ap numbers (adopts_usual (value_of from) t).0))
      (true_or (valid (value_of from)))

  pub making_is_refused_exactly : (r ≡ ten 10 0 0 0 0 0 0 0 0 0) ↔ (ValidSettings from → ⊥)
  making_is_refused_exactly =
      ⊎_elim
      (λ (m : ValidSettings from × (r ≡ short_report 0 0 1 0)). Iff.trans (says.short_report_exactly 0 0 1 0 10 0 0 0 m.1) (says.neither (λ x. omega arith) (λ n. n m.0)))
      (λ (m : (ValidSettings from → ⊥) × (r ≡ short_report 10 0 0 0)). says.both m.1 m.0)
      made_as

  pub making_is_done_exactly : (r ≡ ten 0 0 1 0 0 0 0 0 0 0) ↔ ValidSettings from
  making_is_done_exactly =
      ⊎_elim
      (λ (m : ValidSettings from × (r ≡ short_report 0 0 1 0)). says.both m.1 m.0)
      (λ (m : (ValidSettings from → ⊥) × (r ≡ short_report 10 0 0 0)). Iff.trans (says.short_report_exactly 10 0 0 0 0 0 1 0 m.1) (says.neither (λ x. omega arith) m.0))
      made_as

  pub a_made_device_is_fresh : machine_in d ≡ made (in_force from)
  unfolding machine_in
  a_made_device_is_fresh = fresh.1
