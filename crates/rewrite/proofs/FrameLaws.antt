-- A frame rewritten: its length and every byte outside the registers stay, what it answers too; an exception, coils, discrete inputs and masks pass unchanged, the registers that a request carries and those that a
-- reply brings are rewritten, and it goes over a buffer under an id.
-- Assumes nothing.
use Prim.Native.Nat.{ℕ, zero, suc, ◌+◌, ◌*◌, ◌≤◌, ◌<◌}
use mathlib.Core.Path.{◌≡◌, refl, ap, sym, ◌∙◌}
use mathlib.Core.Logic.{◌⊎◌, inl, ⊎_elim}
use mathlib.Core.Bool.{true, false}
use mathlib.Core.List.{List, [], ◌∷◌, ◌++◌}
use native.Mathlib.Omega.{arith}
use lib.ListN.{length, get_or, take, drop, length-drop, get_or-append}
use lib.Seq.{take-append_seam, drop-append_seam, drop-append-le, get_or-drop}
use Rattle.laws.specs.Bytes.{over}
use Rattle.laws.proofs.Choice.{true_or}
use Rattle.wire.specs.Frame.{function_of, misframed, laid}
use Rattle.wire.proofs.FrameLaws.{length-laid as laid-length}
use Rattle.settings.specs.Grammar.{Tag}
use Rattle.pdu.specs.Requests.{class_of, asked_by, asked_of}
use Rattle.pdu.specs.Replies.{what, excepts, shaped, answering}
use Rattle.pdu.specs.declared.What.{What}
use Rattle.pdu.specs.declared.Table.{Table}
use Rattle.pdu.specs.declared.Table.TheVariants.{Bits, Registers}
use Rattle.pdu.specs.declared.Asked.{Asked}
use Rattle.pdu.specs.declared.Asked.TheVariants.{Read, SingleWrite, MultipleWrite, MaskWrite, ReadWrite, Other}
use Rattle.rewrite.specs.declared.Way.{Way}
use Rattle.rewrite.specs.declared.Way.TheVariants.{ToBcd, ToBinary}
use Rattle.rewrite.specs.Registers.{registers_at}
use Rattle.rewrite.specs.Rewriting.{rewritten, Rewritten, with_counts, rewriting}
use Rattle.rewrite.specs.Frames.{forwarded, reencoded, returned_by, returned, under}
use Rattle.rewrite.specs.Plain.{OfBits, Brings}
use Rattle.rewrite.specs.Plain.OfBits.{coils_read, discrete_read, coil_written, coils_written}
use Rattle.rewrite.specs.Plain.Brings.{read, read_of_both}
use Rattle.rewrite.specs.Strict.{Carries}
use Rattle.rewrite.specs.Strict.Carries.{single, multiple, both}
use Rattle.rewrite.proofs.RegisterLaws.{length-laid, length-registers, laid_other}
use Rattle.rewrite.proofs.RunLaws.{length-rewritten}

module _ (way : Way) (base start q : ℕ) (tags : List Tag) (d : List ℕ) where
  -- Rewriting never changes a buffer's length.
  pub length-rewriting : length (rewriting way base start q tags d).bytes ≡ length d
  unfolding rewriting
  length-rewriting = length-laid base (rewritten way start tags (registers_at base q d)) d

  -- A byte before the registers or behind them stays.
  pub rewriting_other : (i : ℕ) → (i < base) ⊎ (base + 2 * q ≤ i) → get_or (rewriting way base start q tags d).bytes i 0 ≡ get_or d i 0
  unfolding rewriting
  rewriting_other i h =
      let rs = registers_at base q d in
      let l : length (rewritten way start tags rs) ≡ q = length-rewritten way start tags rs ∙ length-registers base q d in
      laid_other base (rewritten way start tags rs) d i (rw l h)

module _ (tags : List Tag) (f : List ℕ) where
  -- A request to read, one to mask a register and one of any other function pass unchanged, and no tag is counted.
  pub forwarded_read : (t : Table) (s q : ℕ) → forwarded tags (Read t s q) f ≡ with_counts 0 0 f
  unfolding forwarded
  forwarded_read t s q = refl

  pub forwarded_mask : (a x y : ℕ) → forwarded tags (MaskWrite a x y) f ≡ with_counts 0 0 f
  unfolding forwarded
  forwarded_mask a x y = refl

  pub forwarded_other : forwarded tags Other f ≡ with_counts 0 0 f
  unfolding forwarded
  forwarded_other = refl

  -- The registers that a request carries are rewritten to BCD.
  pub forwarded_carries : {a : Asked} {base start quantity : ℕ} → Carries a base start quantity → forwarded tags a f ≡ rewriting ToBcd base start quantity tags f
  unfolding forwarded
  forwarded_carries single = refl
  forwarded_carries multiple = refl
  forwarded_carries both = refl

  sent_by : (n : ℕ) → OfBits n → forwarded tags (asked_by (class_of n) f) f ≡ with_counts 0 0 f
  unfolding forwarded asked_by class_of
  sent_by n coils_read = refl
  sent_by n discrete_read = refl
  sent_by n coil_written = refl
  sent_by n coils_written = refl

  -- A request 01, 02, 05 or 15 passes unchanged, whatever the tags, and no tag is counted.
  pub forwarded_bits : OfBits (function_of f) → forwarded tags (asked_of f) f ≡ with_counts 0 0 f
  forwarded_bits = sent_by (function_of f)

  brought_by : (n : ℕ) (g : List ℕ) → OfBits n → returned_by tags (asked_by (class_of n) g) f ≡ with_counts 0 0 f
  unfolding returned_by asked_by class_of
  brought_by n g coils_read = refl
  brought_by n g discrete_read = refl
  brought_by n g coil_written = refl
  brought_by n g coils_written = refl

  brings_by : {a : Asked} {s q : ℕ} → Brings a s q → returned_by tags a f ≡ rewriting ToBinary 9 s q tags f
  unfolding returned_by
  brings_by read = refl
  brings_by read_of_both = refl

  module _ (w : What) where
    -- An exception reply passes unchanged, and no tag is counted.
    pub returned-exception : excepts w.function f ≡ true → returned tags w f ≡ with_counts 0 0 f
    unfolding returned
    returned-exception e = rw e

    -- Every other reply is rewritten by what was asked.
    pub returned_other : excepts w.function f ≡ false → returned tags w f ≡ returned_by tags w.asked f
    unfolding returned
    returned_other e = rw e

    -- A reply that would not be rewritten passes unchanged, exception or not: to a request 15, 16 or 22, to one of any other function, and to 01, 02 and 05.
    unchanged : returned_by tags w.asked f ≡ with_counts 0 0 f → returned tags w f ≡ with_counts 0 0 f
    unchanged e = ⊎_elim returned-exception (λ x. returned_other x ∙ e) (true_or (excepts w.function f))

    pub returned_multiple : (t : Table) (s q : ℕ) → w.asked ≡ MultipleWrite t s q → returned tags w f ≡ with_counts 0 0 f
    unfolding returned_by
    returned_multiple t s q e = unchanged (rw e)

    pub returned_mask : (a x y : ℕ) → w.asked ≡ MaskWrite a x y → returned tags w f ≡ with_counts 0 0 f
    unfolding returned_by
    returned_mask a x y e = unchanged (rw e)

    pub returned_any : w.asked ≡ Other → returned tags w f ≡ with_counts 0 0 f
    unfolding returned_by
    returned_any e = unchanged (rw e)

    -- A reply to what a request 01, 02, 05 or 15 asked passes unchanged, whatever the tags, and no tag is counted.
    pub returned_bits : (g : List ℕ) → OfBits (function_of g) → w.asked ≡ asked_of g → returned tags w f ≡ with_counts 0 0 f
    returned_bits g b e = unchanged (rw e (brought_by (function_of g) g b))

    -- A reply to 03, 04 or 23 is rewritten to binary: as many registers as were to be read, from byte 9 on, of the addresses from the start that was to be read on.
    pub returned_brings : {s q : ℕ} → Brings w.asked s q → excepts w.function f ≡ false → returned tags w f ≡ rewriting ToBinary 9 s q tags f
    returned_brings b x = returned_other x ∙ brings_by b

    -- A reply to a request 06 that was re-encoded is rewritten to binary: the one register at byte 10, of the address asked. To one that was not it passes unchanged.
    pub returned_single : (a v : ℕ) → w.asked ≡ SingleWrite Registers a v → reencoded tags a v ≡ true → excepts w.function f ≡ false → returned tags w f ≡ rewriting ToBinary 10 a 1 tags f
    unfolding returned_by
    returned_single a v e r x = returned_other x ∙ rw (e, r)

    pub returned-raw : (a v : ℕ) → w.asked ≡ SingleWrite Registers a v → reencoded tags a v ≡ false → returned tags w f ≡ with_counts 0 0 f
    unfolding returned_by
    returned-raw a v e r = unchanged (rw (e, r))

    returned_cases : (P : Rewritten → Type 0) → P (with_counts 0 0 f) → P (returned_by tags w.asked f) → P (returned tags w f)
    unfolding returned
    returned_cases P x y = ⊎_elim (λ e. rw e x) (λ e. rw e y) (true_or (excepts w.function f))

  -- what holds of a frame that passes and of one whose register is rewritten holds of an echo
  echo_cases : (P : Rewritten → Type 0) (a v : ℕ) → P (with_counts 0 0 f) → P (rewriting ToBinary 10 a 1 tags f) → P (returned_by tags (SingleWrite Registers a v) f)
  unfolding returned_by
  echo_cases P a v x y = ⊎_elim (λ e. rw e y) (λ e. rw e x) (true_or (reencoded tags a v))

  -- A request's frame keeps its length.
  pub length-forwarded : (a : Asked) → length (forwarded tags a f).bytes ≡ length f
  unfolding forwarded
  length-forwarded (Read t s q) = refl
  length-forwarded (SingleWrite Bits a v) = refl
  length-forwarded (SingleWrite Registers a v) = length-rewriting _ _ a 1 tags f
  length-forwarded (MultipleWrite Bits s q) = refl
  length-forwarded (MultipleWrite Registers s q) = length-rewriting _ _ s q tags f
  length-forwarded (MaskWrite a x y) = refl
  length-forwarded (ReadWrite s q u p) = length-rewriting _ _ u p tags f
  length-forwarded Other = refl

  front_returned_by : (a : Asked) (i : ℕ) → i < 9 → get_or (returned_by tags a f).bytes i 0 ≡ get_or f i 0
  unfolding returned_by
  front_returned_by (Read Bits s q) i h = refl
  front_returned_by (Read Registers s q) i h = rewriting_other _ _ s q tags f i (inl h)
  front_returned_by (SingleWrite Bits a v) i h = refl
  front_returned_by (SingleWrite Registers a v) i h = echo_cases (λ r. get_or r.bytes i 0 ≡ get_or f i 0) a v refl (rewriting_other _ _ a 1 tags f i (inl (omega arith)))
  front_returned_by (MultipleWrite t s q) i h = refl
  front_returned_by (MaskWrite a x y) i h = refl
  front_returned_by (ReadWrite s q u p) i h = rewriting_other _ _ s q tags f i (inl h)
  front_returned_by Other i h = refl

  length-returned-by : (a : Asked) → length (returned_by tags a f).bytes ≡ length f
  unfolding returned_by
  length-returned-by (Read Bits s q) = refl
  length-returned-by (Read Registers s q) = length-rewriting _ _ s q tags f
  length-returned-by (SingleWrite Bits a v) = refl
  length-returned-by (SingleWrite Registers a v) = echo_cases (λ r. length r.bytes ≡ length f) a v refl (length-rewriting _ _ a 1 tags f)
  length-returned-by (MultipleWrite t s q) = refl
  length-returned-by (MaskWrite a x y) = refl
  length-returned-by (ReadWrite s q u p) = length-rewriting _ _ s q tags f
  length-returned-by Other = refl

  -- what is held against the request stands before the registers
  answers_returned_by : (u n : ℕ) (a : Asked) → answering (what u n a) (returned_by tags a f).bytes ≡ answering (what u n a) f
  unfolding answering shaped returned_by
  answers_returned_by u n (Read Bits s q) = refl
  answers_returned_by u n (Read Registers s q) =
      let stays = rewriting_other ToBinary 9 s q tags f in
      rw (stays 6 (inl (omega arith)), stays 7 (inl (omega arith)), stays 8 (inl (omega arith)), length-rewriting ToBinary 9 s q tags f)
  answers_returned_by u n (SingleWrite Bits a v) = refl
  answers_returned_by u n (SingleWrite Registers a v) =
      let stays = rewriting_other ToBinary 10 a 1 tags f in
      echo_cases (λ r. answering (what u n (SingleWrite Registers a v)) r.bytes ≡ answering (what u n (SingleWrite Registers a v)) f) a v refl
      (rw (stays 6 (inl (omega arith)), stays 7 (inl (omega arith)), stays 8 (inl (omega arith)), stays 9 (inl (omega arith)), length-rewriting ToBinary 10 a 1 tags f))
  answers_returned_by u n (MultipleWrite t s q) = refl
  answers_returned_by u n (MaskWrite a x y) = refl
  answers_returned_by u n (ReadWrite s q v p) =
      let stays = rewriting_other ToBinary 9 s q tags f in
      rw (stays 6 (inl (omega arith)), stays 7 (inl (omega arith)), stays 8 (inl (omega arith)), length-rewriting ToBinary 9 s q tags f)
  answers_returned_by u n Other = refl

  module _ (w : What) where
    -- A reply's frame keeps its length.
    pub length-returned : length (returned tags w f).bytes ≡ length f
    length-returned = returned_cases w (λ r. length r.bytes ≡ length f) refl (length-returned-by w.asked)

    -- Its bytes 0 to 8 stay: the header, the function, and the byte count of 01 to 04 and 23.
    pub front_returned : (i : ℕ) → i < 9 → get_or (returned tags w f).bytes i 0 ≡ get_or f i 0
    front_returned i h = returned_cases w (λ r. get_or r.bytes i 0 ≡ get_or f i 0) refl (front_returned_by w.asked i h)

    -- It is refused as a frame where the reply that came is.
    pub returned-framed : misframed (returned tags w f).bytes ≡ misframed f
    unfolding misframed
    returned-framed =
        rw (length-returned, front_returned 2 (omega arith), front_returned 3 (omega arith), front_returned 4 (omega arith), front_returned 5 (omega arith))

    -- It answers what was asked where the reply that came does.
    pub returned_answers : answering w (returned tags w f).bytes ≡ answering w f
    returned_answers = returned_cases w (λ r. answering w r.bytes ≡ answering w f) refl (answers_returned_by w.unit w.function w.asked)

-- An id laid over a frame changes nothing of what it answers.
pub laid_answers : (id : ℕ) (w : What) (f : List ℕ) → 2 ≤ length f → answering w (laid id f) ≡ answering w f
unfolding answering shaped
laid_answers id w [] h = absurd (omega arith)
laid_answers id w (a ∷ []) h = absurd (omega arith)
laid_answers id w (a ∷ b ∷ f) h = by w.asked
  where
    by : (x : Asked) → answering (what w.unit w.function x) (laid id (a ∷ b ∷ f)) ≡ answering (what w.unit w.function x) (a ∷ b ∷ f)
    by (Read t s q) = refl
    by (SingleWrite Bits x v) = refl
    by (SingleWrite Registers x v) = refl
    by (MultipleWrite t s q) = refl
    by (MaskWrite x v m) = refl
    by (ReadWrite s q u p) = refl
    by Other = refl

-- A FRAME AT THE START OF A BUFFER

behind_id : (id : ℕ) (b : List ℕ) (k : ℕ) → get_or (laid id b) (suc (suc k)) 0 ≡ get_or b (suc (suc k)) 0
behind_id id b k = get_or-drop 2 b k 0 ∙ ap (λ (n : ℕ). get_or b n 0) (omega arith)

-- A frame under an id, in a buffer, stands there behind the id.
pub stands_under : (id : ℕ) (b o : List ℕ) (k : ℕ) → 2 ≤ k → k < length b → get_or (over (laid id b) o) k 0 ≡ get_or b k 0
stands_under id b o zero h l = absurd (omega arith)
stands_under id b o (suc zero) h l = absurd (omega arith)
stands_under id b o (suc (suc k)) h l =
    get_or-append (laid id b) (drop (length (laid id b)) o) 0 (suc (suc k)) (rw (laid-length id b (omega arith)) l) ∙ behind_id id b k

module _ (f out : List ℕ) where
  -- What was written over the start of a buffer stands there.
  pub front : take (length f) (over f out) ≡ f
  front = take-append_seam f (drop (length f) out)

  -- A frame of the same length in its place, under an id, is that frame under that id over the buffer.
  pub laid-under : (id p v : ℕ) (b : List ℕ) (w : Rewritten) → 2 ≤ length f → length b ≡ length f → with_counts p v b ≡ w
      → with_counts p v (laid id (b ++ drop (length f) (over f out))) ≡ under id out w
  laid-under id p v b w h l e =
      let t = drop (length f) out in
      let n : length (laid id b) ≡ length f = omega (arith, length-drop 2 b) in
      let s : with_counts p v (laid id (b ++ drop (length f) (over f out))) ≡ under id out (with_counts p v b) =
      rw (drop-append_seam f t, drop-append-le 2 b t (omega arith)) (ap (λ (m : ℕ). with_counts p v (laid id b ++ drop m out)) (sym n)) in
      s ∙ ap (under id out) e
