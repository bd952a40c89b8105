-- What is said of a frame, and of buffers that a call changed beyond what it wrote.
-- Assumes nothing.
use Rattle.std.specs.Prelude.{ℕ, Bool, true, cond, ◌&&◌, List, [], ◌∷◌, length, eqb}
use Rattle.parts.specs.Texts.{hex_of}

-- a frame's bytes behind a ':'; nothing where there is no frame
unfoldable pub frame_text : List ℕ → List ℕ
frame_text frame = cond (eqb (length frame) 0) [] (58 ∷ hex_of frame)

-- each byte of a lent buffer before a call, and each place of a lent list
abbrev pub kept_byte : ℕ
kept_byte = 165

abbrev pub kept_place : ℕ
kept_place = 42405

unfoldable pub all_are : ℕ → List ℕ → Bool
all_are n [] = true
all_are n (x ∷ xs) = eqb x n && all_are n xs

-- " touched", unless all is as it was
unfoldable pub touched : Bool → List ℕ
touched kept = cond kept [] (32 ∷ 116 ∷ 111 ∷ 117 ∷ 99 ∷ 104 ∷ 101 ∷ 100 ∷ [])
