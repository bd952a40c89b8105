-- Demand 2's addition over calls: a controller that echoes the frame of a request 06 gives the client back the very frame that it wrote; and the reply to a 22 is its request (request #109).
-- Assumes nothing.
use Prim.Native.Nat.{ℕ, ◌+◌, ◌*◌, ◌/◌, ◌%◌, ◌≤◌, ◌<◌}
use mathlib.Core.Path.{◌≡◌, refl, ap, sym, ◌∙◌}
use mathlib.Core.Logic.{inl}
use mathlib.Core.Bool.{true, false}
use mathlib.Core.List.{List, [], ◌∷◌}
use native.Mathlib.Omega.{arith}
use lib.ListN.{length, get_or, take}
use lib.Seq.{get_or-take}
use Rattle.laws.specs.Bytes.{over, pair_at}
use Rattle.wire.specs.Frame.{id_of, unit_of, misframed, laid}
use Rattle.wire.proofs.FrameLaws.{length-laid}
use Rattle.settings.specs.Grammar.{Tag}
use Rattle.settings.specs.TagWords.{Ascending}
use Rattle.pdu.specs.Requests.{class_of, start_of, and_mask_of, or_mask_of, asked_by, asked_of}
use Rattle.pdu.specs.Replies.{what, excepts, answering}
use Rattle.pdu.specs.declared.What.{What}
use Rattle.pdu.specs.declared.Table.TheVariants.{Registers}
use Rattle.pdu.specs.declared.Asked.{Asked}
use Rattle.pdu.specs.declared.Asked.TheVariants.{SingleWrite, MaskWrite}
use Rattle.pdu.proofs.MaskLaws.{mask_echo}
use Rattle.rewrite.specs.declared.Way.TheVariants.{ToBcd}
use Rattle.rewrite.specs.Rewriting.{Rewritten, with_counts, rewriting}
use Rattle.rewrite.specs.Frames.{forwarded, returned}
use Rattle.rewrite.proofs.FrameLaws.{front, length-forwarded, rewriting_other, returned_mask}
use Rattle.rewrite.proofs.EchoLaws.{echo_back}
use Rattle.rewrite.proofs.LaidLaws.{laid_over, returned-laid}
use Rattle.book.specs.Book.{Good}
use Rattle.machine.specs.Machine.{Machine, rules, settings}
use Rattle.machine.specs.Calls.{Outcome}
use Rattle.machine.specs.Calls.Call.{request, reply}
use Rattle.machine.specs.Outcomes.{outcome}
use Rattle.machine.specs.Spelled.{asking}
use Rattle.machine.specs.declared.Answer.TheVariants as answer
use Rattle.machine.specs.Requested.{Issues}
use Rattle.machine.specs.Answered.{Answers}
use Rattle.machine.proofs.SpelledLaws.{asked_spelled, wanted-spelled, asking-says}

-- a request 06, and the frame that is sent of it, are no exception
plain : (tags : List Tag) (f : List ℕ) (a v : ℕ) → get_or f 7 0 ≡ 6 → excepts 6 (forwarded tags (SingleWrite Registers a v) f).bytes ≡ false
unfolding forwarded
plain tags f a v six =
    let e : get_or (rewriting ToBcd 10 a 1 tags f).bytes 7 0 ≡ 6 = rewriting_other ToBcd 10 a 1 tags f 7 (inl (omega arith)) ∙ six in
    rw e

single_asked : (f : List ℕ) → get_or f 7 0 ≡ 6 → asked_of f ≡ SingleWrite Registers (pair_at f 8) (pair_at f 10)
unfolding asked_by class_of
single_asked f e = rw e

-- Of a request 06 that was issued, the reply that is the frame which was sent: as many bytes as the request has are the request's under id 0, and no tag is counted. Over any two calls
-- of any two machines with the same tags.
pub echo_comes_back : (tags : List Tag) → Ascending 0 tags
    → (m : Machine) → (settings m).tags ≡ tags → (c t : ℕ) (f o : List ℕ) → ((k : ℕ) → get_or f k 0 < 256) → 12 ≤ length f → get_or f 7 0 ≡ 6 → Issues m c t f o (outcome m (request c t f o))
    → (m' : Machine) → (settings m').tags ≡ tags → (t' : ℕ) (g o' l : List ℕ) → g ≡ take (length f) (outcome m (request c t f o)).written
    → (a : Answers m' g o' l (outcome m' (reply t' g o' l))) → a.entry.what ≡ asking f
    → ((outcome m' (reply t' g o' l)).says ≡ answer.Answered (record { 0 = a.entry.id }) (length f) (length a.entry.parties) 0 0)
    × ((outcome m' (reply t' g o' l)).written ≡ over (laid 0 f) o')
echo_comes_back tags asc m same c t f o bytes room six x m' same' t' g o' l sent a asks =
    let at = pair_at f 8 in
    let v = pair_at f 10 in
    let id = x.id in
    let q : (asking f).asked ≡ SingleWrite Registers at v = sym (asked_spelled f) ∙ single_asked f six in
    let out = (forwarded tags (SingleWrite Registers at v) f).bytes in
    let long : length (laid id out) ≡ length f = length-laid id out (rw (length-forwarded tags f (SingleWrite Registers at v)) (omega arith)) ∙ length-forwarded tags f (SingleWrite Registers at v) in
    let written : (outcome m (request c t f o)).written ≡ over (laid id out) o =
    x.frame ∙ ap (λ (y : List Tag). over (laid id (forwarded y (asking f).asked f).bytes) o) same ∙ ap (λ (y : Asked). over (laid id (forwarded tags y f).bytes) o) q in
    let came : g ≡ laid id out = sent ∙ ap (take (length f)) written ∙ ap (λ (n : ℕ). take n (over (laid id out) o)) (sym long) ∙ front (laid id out) o in
    let six' : (asking f).function ≡ 6 = (asking-says c f).function ∙ six in
    let back : returned tags (asking f) (laid id out) ≡ with_counts 0 0 (laid id f) =
    returned-laid tags (asking f) id out (rw (length-forwarded tags f (SingleWrite Registers at v)) (omega arith))
    ∙ ap (laid_over id) (echo_back tags asc f bytes room at (asking f) q (rw six' (plain tags f at v six))) in
    let r : returned (settings m').tags a.entry.what g ≡ with_counts 0 0 (laid id f) = rw (same', asks, came) back in
    let n : length g ≡ length f = ap length came ∙ long in (
      a.says ∙ rw (r, n),
      a.frame ∙ ap (λ (y : Rewritten). over (laid 0 y.bytes) o') r,
    )

mask_by_class : (h : List ℕ) → get_or h 7 0 ≡ 22 → asked_of h ≡ MaskWrite (start_of h) (and_mask_of h) (or_mask_of h)
unfolding asked_by class_of
mask_by_class h e = rw e

-- The reply to a 22, if it is no exception, is handed on as the 22 itself: as many bytes, equal behind the id, and no tag is counted.
pub mask_comes_back : (tags : List Tag) (w : What) (f g : List ℕ) → ((k : ℕ) → get_or f k 0 < 256) → ((k : ℕ) → get_or g k 0 < 256) → misframed f ≡ false → misframed g ≡ false → length g ≡ 14
    → get_or g 7 0 ≡ 22 → w ≡ asking g → answering w f ≡ true → excepts 22 f ≡ false
    → (length f ≡ length g) × (returned tags w f ≡ with_counts 0 0 f) × ((id : ℕ) → laid id f ≡ laid id g)
mask_comes_back tags w f g b d m n long named same answers plain =
    let says = asking-says 0 g in
    let asks : w.asked ≡ MaskWrite (start_of g) (and_mask_of g) (or_mask_of g) = ap (λ (y : What). y.asked) same ∙ sym (asked_spelled g) ∙ mask_by_class g named in
    let whole : w ≡ what (unit_of g) 22 (MaskWrite (start_of g) (and_mask_of g) (or_mask_of g)) =
    same ∙ sym (wanted-spelled g) ∙ rw (mask_by_class g named, named) in
    let e = mask_echo f g b d m n long named (ap (λ (y : What). answering y f) (sym whole) ∙ answers) plain in
    (e.0 ∙ sym long, returned_mask tags f w _ _ _ asks, λ id. rw e.1 refl)

-- A frame's own id laid over it is the frame.
pub own_id : (f : List ℕ) → ((k : ℕ) → get_or f k 0 < 256) → 2 ≤ length f → laid (id_of f) f ≡ f
own_id [] bytes h = absurd (omega arith)
own_id (a ∷ []) bytes h = absurd (omega arith)
own_id (a ∷ b ∷ f) bytes h =
    let l : b < 256 = bytes 1 in
    let p : (a * 256 + b) / 256 ≡ a = omega arith in
    let q : (a * 256 + b) % 256 ≡ b = omega arith in
    rw (p, q)

-- A frame under id 0 at the start of a buffer, with its own id laid over it.
pub own_frame : (f o w : List ℕ) (n : ℕ) → ((k : ℕ) → get_or f k 0 < 256) → 2 ≤ length f → n ≡ length f → w ≡ over (laid 0 f) o → laid (id_of f) (take n w) ≡ f
own_frame f o w n bytes h size e =
    let k : take n w ≡ laid 0 f = rw (e, size, ← length-laid 0 f h) (front (laid 0 f) o) in
    rw k (own_id f bytes h)

-- The frame that is sent carries the id that is told.
pub sent_id : (m : Machine) (c t : ℕ) (f o : List ℕ) {d : Outcome} → Good rules m.book → (x : Issues m c t f o d) (n : ℕ) → 2 ≤ n → id_of (take n d.written) ≡ x.id
sent_id m c t f o {d} g x n h = rw (get_or-take n d.written 0 0 (omega arith), get_or-take n d.written 1 0 (omega arith), x.high, x.low) (omega arith)
