-- Laws on what is said of the calls that change no state.
-- Assumes nothing.
use Rattle.std.specs.Prelude.{Result}
use Prim.Native.Nat.{ℕ, ◌<◌}
use mathlib.Core.Path.{◌≡◌, refl, ◌∙◌}
use mathlib.Core.Bool.{cond}
use mathlib.Core.List.{List, ◌++◌}
use lib.ListN.{length, get_or, take, drop}
use lib.Dec.{eqb}
use borrow.Author.Tests.{eq-eqb, ne_eqb}
use Rattle.laws.proofs.ListLaws.{get_d_tab}
use Rattle.settings.specs.Grammar.{read_text}
use Rattle.settingstext.specs.declared.reading.ReadText.{ReadText}
use Rattle.settingstext.specs.TextRead.{reported}
use Rattle.settingstext.specs.declared.writing.WriteError.{WriteError}
use Rattle.settingstext.specs.TextWritten.{Writing, writing}
use Rattle.parts.specs.Texts.{head_of}
use Rattle.parts.specs.Said.{formed}
use Rattle.scripts.specs.Words.{letter_of, settings_in, length_in}
use Rattle.scripts.specs.Apart.{run_text, received, exchanged, wrote_text, untouched, writing_text, written_text, wrong_text, found_text, text_read, state_form, apart_text}

-- what stands at a place of a text with one byte in place of another
module _ (bytes : List ℕ) (from to k : ℕ) {byte : ℕ} (within : k < 512) (e : byte ≡ get_or bytes k 0) where
  at_place : get_or (exchanged bytes from to) k 0 ≡ cond (eqb byte from) to byte
  unfolding exchanged
  at_place = get_d_tab 512 _ k 0 within ∙ rw (← e) refl

  pub exchanged_there : byte ≡ from → get_or (exchanged bytes from to) k 0 ≡ to
  exchanged_there h = at_place ∙ rw (eq-eqb byte from h)

  pub exchanged_other : (byte ≡ from → ⊥) → get_or (exchanged bytes from to) k 0 ≡ byte
  exchanged_other h = at_place ∙ rw (ne_eqb byte from h)

-- what is told of a buffer that was lent in part is told of the writing
pub told-writing : (wrote : Result ℕ WriteError) (lent : ℕ) {buffer : List ℕ} {w : Writing} → writing wrote buffer ≡ w → wrote_text wrote (buffer ++ drop lent untouched) ≡ writing_text w lent
unfolding writing_text
told-writing wrote lent e = rw (← e)

-- what is said of a text that was read: its value written back, or what is wrong
module _ (bytes : List ℕ) {lines text : List ℕ} {found : ReadText} (e : lines ≡ exchanged bytes 47 10) (f : text ≡ take (length bytes) lines) (g : found ≡ reported (read_text text)) where
  whole : text_read bytes ≡ found_text found
  whole = rw (g, f, e)

  pub read_right : found.line ≡ 0 → text_read bytes ≡ written_text found.settings 512
  unfolding found_text
  read_right h = whole ∙ rw (eq-eqb found.line 0 h)

  pub read_wrong : (found.line ≡ 0 → ⊥) → text_read bytes ≡ wrong_text found
  unfolding found_text
  read_wrong h = whole ∙ rw (ne_eqb found.line 0 h)

-- which of the four a call is
module _ (call bytes : List ℕ) (cursor clock attached : ℕ) {letter : ℕ} (e : letter ≡ letter_of call) where
  pub apart_split : letter ≡ 115 → apart_text call bytes cursor clock attached ≡ run_text (received call bytes)
  unfolding apart_text
  apart_split h = rw (← e, h)

  pub apart_read : letter ≡ 65 → apart_text call bytes cursor clock attached ≡ text_read bytes
  unfolding apart_text
  apart_read h = rw (← e, h)

  pub apart_written : letter ≡ 119 → apart_text call bytes cursor clock attached ≡ written_text (settings_in (head_of 44 call)) (length_in call 111 512 512)
  unfolding apart_text
  apart_written h = rw (← e, h)

  pub apart_state : (letter ≡ 115 → ⊥) → (letter ≡ 65 → ⊥) → (letter ≡ 119 → ⊥) → apart_text call bytes cursor clock attached ≡ formed state_form cursor clock attached
  unfolding apart_text
  apart_state h i j = rw (← e, ne_eqb letter 115 h, ne_eqb letter 65 i, ne_eqb letter 119 j)
