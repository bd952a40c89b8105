-- What is said of the calls that change no state: a run's first frame, a settings text read or written, the state's cursor, clock and clients.
-- Assumes nothing.
use Rattle.std.specs.Prelude.{ℕ, cond, List, [], ◌∷◌, ◌++◌, length, get_or, take, drop, replicate, eqb, Result, Ok, Err}
use Rattle.laws.specs.Bytes.{over}
use Rattle.laws.specs.Lists.{tab}
use Rattle.wire.specs.Splitting.{standing_of, first_frame}
use Rattle.wire.specs.Splitting.{Standing}
use Rattle.wire.specs.Splitting.Standing.{Frame, MoreNeeded, Refused}
use Rattle.settings.specs.declared.Settings.{Settings}
use Rattle.settings.specs.Grammar.{read_text}
use Rattle.settings.specs.Values.{value_of}
use Rattle.settingstext.specs.declared.reading.ReadText.{ReadText}
use Rattle.settingstext.specs.TextRead.{reported}
use Rattle.settingstext.specs.declared.writing.WriteError.{WriteError}
use Rattle.settingstext.specs.declared.writing.WriteError.TheVariants.{TooShort, Invalid}
use Rattle.settingstext.specs.TextWritten.{Writing, written_to}
use Rattle.parts.specs.Texts.{head_of, bytes_of}
use Rattle.parts.specs.Said.{formed}
use Rattle.scripts.specs.Words.{letter_of, settings_in, length_in}
use Rattle.scripts.specs.Pieces.{frame_text, kept_byte, all_are, touched}

-- "frame", "more needed" or "refusal 4", and the first frame
unfoldable pub standing_text : Standing → List ℕ
standing_text Frame = 102 ∷ 114 ∷ 97 ∷ 109 ∷ 101 ∷ []
standing_text MoreNeeded = 109 ∷ 111 ∷ 114 ∷ 101 ∷ 32 ∷ 110 ∷ 101 ∷ 101 ∷ 100 ∷ 101 ∷ 100 ∷ []
standing_text Refused = 114 ∷ 101 ∷ 102 ∷ 117 ∷ 115 ∷ 97 ∷ 108 ∷ 32 ∷ 52 ∷ []

unfoldable pub run_text : List ℕ → List ℕ
run_text run = standing_text (standing_of run) ++ frame_text (first_frame run)

-- the bytes of a call at the start of a buffer of zeros, of which as many as the call says
unfoldable pub received : List ℕ → List ℕ → List ℕ
received call bytes = take (length_in call 122 (length (bytes_of 300 bytes)) 300) (over (bytes_of 300 bytes) (replicate 300 0))

-- a text with one byte in place of another, and NULs behind it
unfoldable pub exchanged : List ℕ → ℕ → ℕ → List ℕ
exchanged bytes from to = tab 512 (λ k. cond (eqb (get_or bytes k 0) from) to (get_or bytes k 0))

-- "D bytes: " and a settings text of so many bytes at the start of a buffer, with '/' for LF
unfoldable pub whole_text : List ℕ → ℕ → List ℕ
whole_text buffer size = formed (68 ∷ 32 ∷ 98 ∷ 121 ∷ 116 ∷ 101 ∷ 115 ∷ []) size 0 0 ++ (58 ∷ 32 ∷ take size (exchanged buffer 10 47))

-- what writing into a buffer came to: the text; "refusal 1"; "refusal 10 line 0"
unfoldable pub wrote_text : Result ℕ WriteError → List ℕ → List ℕ
wrote_text (Ok size) buffer = whole_text buffer size ++ touched (all_are kept_byte (drop size buffer))
wrote_text (Err TooShort) buffer = (114 ∷ 101 ∷ 102 ∷ 117 ∷ 115 ∷ 97 ∷ 108 ∷ 32 ∷ 49 ∷ []) ++ touched (all_are kept_byte buffer)
wrote_text (Err Invalid) buffer = (114 ∷ 101 ∷ 102 ∷ 117 ∷ 115 ∷ 97 ∷ 108 ∷ 32 ∷ 49 ∷ 48 ∷ 32 ∷ 108 ∷ 105 ∷ 110 ∷ 101 ∷ 32 ∷ 48 ∷ []) ++ touched (all_are kept_byte buffer)

-- a value written into the start of a buffer, of which so many bytes are lent
abbrev pub untouched : List ℕ
untouched = replicate 512 kept_byte

unfoldable pub writing_text : Writing → ℕ → List ℕ
writing_text w lent = wrote_text w.says (w.buffer ++ drop lent untouched)

abbrev pub written_text : Settings → ℕ → List ℕ
written_text s lent = writing_text (written_to (value_of s) (take lent untouched)) lent

-- "refusal 10 line D: D D D": the first wrong line; and the timeout, join and number of tags of the value that a refusal returns
unfoldable pub wrong_text : ReadText → List ℕ
wrong_text found =
    formed (114 ∷ 101 ∷ 102 ∷ 117 ∷ 115 ∷ 97 ∷ 108 ∷ 32 ∷ 49 ∷ 48 ∷ 32 ∷ 108 ∷ 105 ∷ 110 ∷ 101 ∷ 32 ∷ 68 ∷ []) found.line 0 0
    ++ (58 ∷ formed (32 ∷ 68 ∷ 32 ∷ 68 ∷ 32 ∷ 68 ∷ []) found.settings.timeout found.settings.join found.settings.tags)

-- a settings text, with '/' for LF: its value written back, or what is wrong
unfoldable pub found_text : ReadText → List ℕ
found_text found = cond (eqb found.line 0) (written_text found.settings 512) (wrong_text found)

abbrev pub text_read : List ℕ → List ℕ
text_read bytes = found_text (reported (read_text (take (length bytes) (exchanged bytes 47 10))))

-- "0xX clock D attached 0xL"
abbrev pub state_form : List ℕ
state_form = 48 ∷ 120 ∷ 88 ∷ 32 ∷ 99 ∷ 108 ∷ 111 ∷ 99 ∷ 107 ∷ 32 ∷ 68 ∷ 32 ∷ 97 ∷ 116 ∷ 116 ∷ 97 ∷ 99 ∷ 104 ∷ 101 ∷ 100 ∷ 32 ∷ 48 ∷ 120 ∷ 76 ∷ []

-- which of the four a call is
unfoldable pub apart_text : List ℕ → List ℕ → ℕ → ℕ → ℕ → List ℕ
apart_text call bytes cursor clock attached =
    cond (eqb (letter_of call) 115) (run_text (received call bytes))
    (cond (eqb (letter_of call) 65) (text_read bytes)
    (cond (eqb (letter_of call) 119) (written_text (settings_in (head_of 44 call)) (length_in call 111 512 512))
    (formed state_form cursor clock attached)))
