-- The frame that a party is handed: whoever a reply, a timeout or a hit answers gets a frame that is not refused, carries its own id, and answers what it asked.
-- Assumes nothing.
use Prim.Native.Nat.{ℕ, ◌+◌, ◌≤◌, ◌<◌}
use mathlib.Core.Path.{◌≡◌, refl, ap, ◌∙◌}
use mathlib.Core.Logic.{⊎_elim, inl, inr}
use mathlib.Core.Bool.{true, false}
use mathlib.Core.Option.{Option, some, none, none-ne-some, some-injective}
use mathlib.Core.List.{List, [], ◌∷◌}
use native.Mathlib.Omega.{arith}
use lib.ListN.{length, get_or, take, drop, set}
use lib.Seq.{take_at, set_out}
use lib.Dec.{eqb}
use Rattle.numbers.specs.Numbers.{places, no_response}
use Rattle.laws.proofs.Choice.{true_or, eq_or, lt_or}
use Rattle.settings.specs.Grammar.{Value}
use Rattle.wire.specs.Frame.{function_of, id_of, misframed, laid, exception}
use Rattle.wire.proofs.FrameLaws.{framed, exception-framed, length-laid, laid-framed}
use Rattle.pdu.specs.Requests.{bad_function}
use Rattle.pdu.specs.Replies.{answering}
use Rattle.pdu.specs.declared.What.{What}
use Rattle.pdu.specs.Plain.{Known}
use Rattle.pdu.proofs.RequestLaws.{known}
use Rattle.pdu.proofs.ReplyLaws.{excepts_exact, answers_exact, exception-excepts}
use Rattle.rewrite.specs.Legal.{fault_under}
use Rattle.rewrite.specs.Frames.{returned}
use Rattle.rewrite.proofs.FrameLaws.{length-returned, returned-framed, returned_answers, laid_answers}
use Rattle.cache.specs.Cache.{Cached, in_cache}
use Rattle.book.specs.Book.{Party, Live, at, new_entry, struck, marked}
use Rattle.book.specs.Desk.{free_place, free_id, due_place}
use Rattle.book.specs.Follower.{after, state_after}
use Rattle.book.proofs.PlaceLaws.{set_cases, map_each, nothing_there}
use Rattle.machine.specs.Machine.{Machine, Note, opened, made, rules, settings, clocked}
use Rattle.machine.specs.Calls.{Call, Outcome}
use Rattle.machine.specs.Calls.Call.{attach, detach, request, reply, tick, link_lost}
use Rattle.machine.specs.Refusals.{rows, refusal}
use Rattle.machine.specs.Requests.{wanted, party_of, closing, joining_place, can_join, exhausted, excepted, hitting_place, hits, hit_on, joined_to, issued_to, missed, served, admitted}
use Rattle.machine.specs.Replies.{answered_to, answered, expired_to, ticked}
use Rattle.machine.specs.Outcomes.{granted, outcome}
use Rattle.machine.specs.Numbers.{numbers}
use Rattle.machine.specs.Spelled.{asker, asking}
use Rattle.machine.specs.Histories.{seen_of, after_calls}
use Rattle.machine.specs.declared.Answer.{Answer}
use Rattle.machine.specs.Requested.{Hits}
use Rattle.machine.specs.Answered.{Answers, Expires}
use Rattle.machine.specs.PartysFrames.{PartysFrame, frame_for}
use Rattle.machine.proofs.RefusalLaws.{refusal_changes_nothing}
use Rattle.machine.proofs.LowestLaws.{none-applies}
use Rattle.machine.proofs.OutcomeLaws.{granted_is, reply_finds}
use Rattle.machine.proofs.AnswerLaws.{reply_framed}
use Rattle.machine.proofs.SpelledLaws.{party-spelled}
use Rattle.machine.proofs.CachedLaws.{Stocked}
use Rattle.machine.proofs.Histories.{product}

-- a frame that is not refused and answers, under a party's id
partys : (w : What) (p : Party) (f : List ℕ) → misframed f ≡ false → answering w f ≡ true → PartysFrame w p (laid p.original f)
partys w p f e a =
    let l = (framed f e).least in
    let b : answering w (laid p.original f) ≡ true = laid_answers p.original w f (omega arith) ∙ a in
    let x = (answers_exact w (laid p.original f)).0 b in
    record {
      framed = laid-framed p.original f (omega arith) ∙ e;
      high = refl;
      low = refl;
      unit = x.0;
      function = ⊎_elim (λ y. inr y.0) (λ y. inl y.0) x.1;
      answers = b;
    }

-- A REPLY

-- A reply that is not refused hands each party of its entry its frame.
pub reply_frame : (m : Machine) (t : ℕ) (f o l : List ℕ) → refusal m (reply t f o l) ≡ 0 → (a : Answers m f o l (outcome m (reply t f o l)))
    → ((numbers (outcome m (reply t f o l)).says).id ≡ a.entry.id) × ((p : Party) → PartysFrame a.entry.what p (frame_for p (seen_of (outcome m (reply t f o l)))))
unfolding numbers
reply_frame m t f o l h a =
    let w = a.entry.what in
    let r = (returned (settings m).tags w f).bytes in
    let e = reply_framed m t f o l h in
    let n : length (laid 0 r) ≡ length f = length-laid 0 r (let y = (framed f e).least in let z = length-returned (settings m).tags f w in omega arith) ∙ length-returned (settings m).tags f w in (
      ap (λ (x : Answer). (numbers x).id) a.says,
      λ p.
          rw (a.says, a.frame, take_at (laid 0 r) (drop (length (laid 0 r)) o) (length f) n)
          (partys w p r (returned-framed (settings m).tags f w ∙ e) (returned_answers (settings m).tags f w ∙ a.matches)),
    )

-- A HIT

-- A hit is its caller's frame.
pub hit_frame : (m : Machine) (c t : ℕ) (f o : List ℕ) (d : Outcome) → Stocked m.cache → Hits m c t f o d
    → PartysFrame (asking f) (asker c f) (take (numbers d.says).length d.written)
hit_frame m c t f o d s h =
    let e = h.cached in
    let w = s.frames h.place e h.there in
    let n : length (laid (id_of f) e.bytes) ≡ length e.bytes = length-laid (id_of f) e.bytes (let y = (framed e.bytes w.0).least in omega arith) in
    let own : id_of f ≡ (asker c f).original = ap (λ (p : Party). p.original) (party-spelled c f) in
    rw (h.report, h.frame, take_at (laid (id_of f) e.bytes) (drop (length (laid (id_of f) e.bytes)) o) (length e.bytes) n, own)
    (partys (asking f) (asker c f) e.bytes w.0 (rw h.same at w.1))

-- A TIMEOUT

-- every live entry has a function from 1 to 127
abbrev pub AllKnown : List (Option (Live What Note)) → Type 0
AllKnown ps = (k : ℕ) (e : Live What Note) → get_or ps k none ≡ some e → Known e.what.function

known_set : (ps : List (Option (Live What Note))) (j : ℕ) (x : Option (Live What Note)) → ((e : Live What Note) → x ≡ some e → Known e.what.function) → AllKnown ps → AllKnown (set ps j x)
known_set ps j x n a k e z =
    ⊎_elim
    (λ (l : j < length ps). ⊎_elim (λ w. n e w.1) (λ w. a k e w.1) (set_cases ps j x k e l z))
    (λ (l : length ps ≤ j). a k e (rw (set_out ps j x l) at z))
    (lt_or j (length ps))

placed_known : (ps : List (Option (Live What Note))) (j : ℕ) (x : Live What Note) → Known x.what.function → AllKnown ps → AllKnown (set ps j (some x))
placed_known ps j x n = known_set ps j (some x) (λ e z. rw (some-injective x e z) at n)

ended_known : (ps : List (Option (Live What Note))) (j : ℕ) → AllKnown ps → AllKnown (set ps j none)
ended_known ps j = known_set ps j none (λ e z. absurd (none-ne-some e z))

missed_known : (m : Machine) (c : ℕ) (f o : List ℕ) → Known (function_of f) → AllKnown m.book.places → AllKnown (missed m c f o).after.book.places
unfolding missed joined_to issued_to excepted
missed_known m c f o n a =
    ⊎_elim
    (λ (t : can_join m f ≡ true). rw t (into (at m.book (joining_place m f)) refl))
    (λ (t : can_join m f ≡ false). rw t
    (⊎_elim
    (λ (u : exhausted m c ≡ true). rw u a)
    (λ (u : exhausted m c ≡ false).
    let k = free_place rules m.book in
    let x : Live What Note = new_entry (free_id rules m.book) (wanted f) opened (m.book.clock + (settings m).timeout) (party_of c f) in
    rw u (map_each (λ e. Known e.what.function) (set m.book.places k (some x)) (marked (closing (wanted f))) (placed_known m.book.places k x n a)))
    (true_or (exhausted m c))))
    (true_or (can_join m f))
  where
    into : (q : Option (Live What Note)) → at m.book (joining_place m f) ≡ q → AllKnown (joined_to m (joining_place m f) c f o q).after.book.places
    into none e = a
    into (some x) e = placed_known m.book.places _ _ (a (joining_place m f) x e) a

served_known : (m : Machine) (c : ℕ) (f o : List ℕ) → Known (function_of f) → AllKnown m.book.places → AllKnown (served m c f o).after.book.places
unfolding served hit_on excepted
served_known m c f o n a =
    ⊎_elim (λ (t : hits m f ≡ true). rw t (shown (in_cache m.cache (hitting_place m f)))) (λ (t : hits m f ≡ false). rw t (missed_known m c f o n a)) (true_or (hits m f))
  where
    shown : (q : Option Cached) → AllKnown (hit_on m f o q).after.book.places
    shown none = a
    shown (some e) = a

request_known : (m : Machine) (c t : ℕ) (f o : List ℕ) → refusal m (request c t f o) ≡ 0 → Known (function_of f)
unfolding rows
request_known m c t f o h =
    let a = none-applies _ 1 _ (λ z. omega arith) h in
    let b = none-applies _ 2 _ (λ z. omega arith) a.1 in
    let d = none-applies _ 3 _ (λ z. omega arith) b.1 in
    let e = none-applies _ 4 _ (λ z. omega arith) d.1 in
    (known (function_of f)).0 (none-applies (bad_function (function_of f)) 5 _ (λ z. omega arith) e.1).0

granted_known : (m : Machine) (x : Call) → refusal m x ≡ 0 → AllKnown m.book.places → AllKnown (granted m x).after.book.places
unfolding granted admitted excepted answered answered_to ticked expired_to
granted_known m (attach c) h a = a
granted_known m (detach c) h a = map_each (λ e. Known e.what.function) m.book.places (struck c) a
granted_known m (request c t f o) h a =
    ⊎_elim
    (λ (z : eqb (fault_under (settings m).tags f) 0 ≡ true). rw z (served_known (clocked m t) c f o (request_known m c t f o h) a))
    (λ (z : eqb (fault_under (settings m).tags f) 0 ≡ false). rw z a)
    (true_or (eqb (fault_under (settings m).tags f) 0))
granted_known m (reply t f o l) h a = let e = reply_finds m t f o l h in rw e.1 (ended_known m.book.places _ a)
granted_known m (tick t o l) h a = due (at (clocked m t).book (due_place rules (clocked m t).book))
  where
    due : (q : Option (Live What Note)) → AllKnown (expired_to (clocked m t) (due_place rules (clocked m t).book) o l q).after.book.places
    due none = a
    due (some e) = ended_known m.book.places _ a
granted_known m link_lost h a = λ k e z. absurd (nothing_there places k e z)

after_known : (v : Value) (m : Machine) (xs : List Call) → AllKnown m.book.places → AllKnown (after (product v) m xs).book.places
unfolding state_after
after_known v m [] a = a
after_known v m (x ∷ xs) a =
    after_known v (outcome m x).after xs (⊎_elim
    (λ (z : refusal m x ≡ 0). rw (granted_is m x z) (granted_known m x z a))
    (λ (z : refusal m x ≡ 0 → ⊥). rw (refusal_changes_nothing m x z) a)
    (eq_or (refusal m x) 0))

-- Whatever the calls, every live entry has a function from 1 to 127.
pub always_known : (v : Value) (xs : List Call) → AllKnown (after_calls v xs).book.places
always_known v xs = after_known v (made v) xs (λ k e z. absurd (nothing_there places k e z))

-- A tick that ends an entry hands each party of it its frame.
pub timeout-frame : (m : Machine) (t : ℕ) (o l : List ℕ) → AllKnown m.book.places → (a : Expires m t o l (outcome m (tick t o l)))
    → ((numbers (outcome m (tick t o l)).says).id ≡ a.entry.id) × ((p : Party) → PartysFrame a.entry.what p (frame_for p (seen_of (outcome m (tick t o l)))))
unfolding numbers exception
timeout-frame m t o l known a =
    let w = a.entry.what in
    let x = exception 0 w.unit w.function no_response in
    let excepts = (excepts_exact w.function x).0 (exception-excepts 0 w.unit w.function no_response (known a.place a.entry a.there).1) in (
      ap (λ (y : Answer). (numbers y).id) a.says,
      λ p.
          rw (a.says, a.frame) (partys w p x (exception-framed 0 w.unit w.function no_response) ((answers_exact w x).1 (refl, inl excepts))),
    )
