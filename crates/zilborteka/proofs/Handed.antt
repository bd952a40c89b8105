-- What a reply and a timeout hand to whom, as a host sees it: over the ledger and the history that are kept from the calls and what was seen of them.
-- Assumes nothing.
use Prim.Native.Nat.{ℕ, ◌+◌, ◌%◌}
use mathlib.Core.Path.{◌≡◌, refl, ap, subst, ◌∙◌}
use mathlib.Core.Option.{some}
use mathlib.Core.List.{List, Memᴰ}
use native.Mathlib.Omega.{arith}
use native.Mathlib.Nat.{mod-eq_of_lt}
use lib.ListN.{length, length-map}
use Rattle.laws.specs.Bytes.{over}
use Rattle.wire.specs.Frame.{laid, exception}
use Rattle.settings.specs.Grammar.{Value}
use Rattle.pdu.specs.declared.What.{What}
use Rattle.rewrite.specs.declared.Way.TheVariants.{ToBinary}
use Rattle.rewrite.specs.Frames.{returned}
use Rattle.rewrite.specs.Plain.{Rewrites}
use Rattle.book.specs.Book.{Live, at}
use Rattle.book.specs.Ledger.{Ticket, parties_of}
use Rattle.book.specs.Traced.{Outstanding}
use Rattle.machine.specs.Machine.{Note}
use Rattle.machine.specs.Calls.{Call}
use Rattle.machine.specs.Calls.Call.{reply, tick}
use Rattle.machine.specs.Refusals.{refusal}
use Rattle.machine.specs.Replies.{pairs}
use Rattle.machine.specs.Outcomes.{outcome}
use Rattle.machine.specs.Numbers.{ten, numbers}
use Rattle.machine.specs.Histories.{Seen, seen_of, after_calls, told_by, ledger_of}
use Rattle.machine.specs.declared.Answer.{Answer}
use Rattle.machine.specs.declared.Answer.TheVariants as answer
use Rattle.machine.specs.PartysFrames.{EachItsFrame}
use Rattle.machine.proofs.FrameOfParty.{reply_frame, always_known}
use Rattle.machine.proofs.Claims as claim
use Rattle.zilborteka.specs.Handed.{waiting_under, HandsOut, Replied, TimesOut}

-- the ten numbers of a reply and of a timeout, with equal numbers in place of the answer's
answered-ten : (i j n k m p q v w : ℕ) → k ≡ m → p ≡ q → v ≡ w → i ≡ j → numbers (answer.Answered (record { 0 = i }) n k p v) ≡ ten 0 0 5 n m q w 0 j 0
unfolding numbers
answered-ten i j n k m p q v w a b c d = cc

timed_ten : (i k m : ℕ) → k ≡ m → numbers (answer.TimedOut (record { 0 = i }) k) ≡ ten 0 0 6 9 m 0 0 0 i 0
unfolding numbers
timed_ten i k m a = cc

module _ (v : Value) (xs : List Call) where
  -- what is live is outstanding
  pub lives_as : (k : ℕ) (e : Live What Note) → at (after_calls v xs).book k ≡ some e → Outstanding (told_by v xs) e.id e.what e.by e.deadline
  lives_as k e h = (claim.which_ids_are_live v xs e.id e.what e.by e.deadline).0 (k, e, h, refl, refl, refl, refl)

  -- as many wait under an entry's id as it has parties
  as_many : (e : Live What Note) → e.parties ≡ parties_of (waiting_under (told_by v xs) e.id) → length e.parties ≡ length (waiting_under (told_by v xs) e.id)
  as_many e q = ap length q ∙ length-map (waiting_under (told_by v xs) e.id) _

  hands_out : (saw : Seen) (l : List ℕ) (e : Live What Note) → saw.report.id ≡ e.id → saw.list ≡ over (pairs e.parties) l
      → e.parties ≡ parties_of (waiting_under (told_by v xs) e.id) → ((k : Ticket What) → Memᴰ k (waiting_under (told_by v xs) e.id) → k.what ≡ e.what)
      → EachItsFrame (ledger_of v xs) saw → HandsOut (told_by v xs) e.what l saw
  hands_out saw l e i p q w z = record { list = rw (i, ← q) p; alike = rw i w; frames = z }

  -- A reply that is not refused, and a tick that is not refused and does not say that nothing is due, come to that.
  pub replied : (t : ℕ) (f o l : List ℕ) → refusal (after_calls v xs) (reply t f o l) ≡ 0 → Replied v (told_by v xs) f o l (seen_of (outcome (after_calls v xs) (reply t f o l)))
  unfolding numbers
  replied t f o l h =
      let g = claim.a_reply_goes_to_its_own v xs t f o l h in
      let a = g.0 in
      let same = claim.the_settings_in_force_stay v xs in
      let id = ap (λ (y : Answer). (numbers y).id) a.says in
      let w = a.entry.what in
      let partial = ap (λ (y : Value). (returned y.tags w f).partial) same in
      let value = ap (λ (y : Value). (returned y.tags w f).value) same in
      record {
        asked = w;
        client = a.entry.by;
        deadline = a.entry.deadline;
        outstanding = rw id (lives_as a.place a.entry a.there);
        matches = a.matches;
        report = rw a.says (answered-ten _ _ _ _ _ _ _ _ _ (as_many a.entry g.1) partial value a.same);
        frame = a.frame ∙ ap (λ (y : Value). over (laid 0 (returned y.tags w f).bytes) o) same;
        rewritten = λ s q e x.
            rw (ap (λ (y : Answer). (numbers y).partial) a.says, ap (λ (y : Answer). (numbers y).value) a.says, partial, value)
            (subst (λ (y : Value). Rewrites ToBinary y.tags f (outcome (after_calls v xs) (reply t f o l)).written (returned y.tags w f).partial (returned y.tags w f).value 9 s q) same
            (a.rewritten s q e x));
        handed = hands_out _ l a.entry id a.list g.1 g.2 (claim.a_partys_frame v xs t f o l h);
      }

  pub timed_out_lem : (t : ℕ) (o l : List ℕ) → refusal (after_calls v xs) (tick t o l) ≡ 0 → ((outcome (after_calls v xs) (tick t o l)).says ≡ answer.NothingDue → ⊥)
      → TimesOut (told_by v xs) t o l (seen_of (outcome (after_calls v xs) (tick t o l)))
  unfolding numbers exception
  timed_out_lem t o l h n =
      let g = claim.a_timeout_goes_to_its_own v xs t o l h n in
      let a = g.0 in
      let known = (always_known v xs a.place a.entry a.there).1 in
      let byte : (a.entry.what.function + 128) % 256 ≡ a.entry.what.function + 128 = mod-eq_of_lt (omega arith) in
      let id = ap (λ (y : Answer). (numbers y).id) a.says in
      record {
        asked = a.entry.what;
        client = a.entry.by;
        deadline = a.entry.deadline;
        outstanding = rw id (lives_as a.place a.entry a.there);
        due = a.due;
        earliest = λ i w c u z q.
            let y = (claim.which_ids_are_live v xs i w c u).1 z in
            rw id (rw (y.3, y.6) at (a.earliest y.0 y.1 y.2 (rw y.6 q)));
        report = rw a.says (timed_ten _ _ _ (as_many a.entry g.1));
        frame = rw byte at a.frame;
        handed = hands_out _ l a.entry id a.list g.1 g.2 (claim.a_partys_timeout v xs t o l h n);
      }

  -- and what is outstanding under its id is what the entry that it answers holds
  pub answers_what : (t : ℕ) (f o l : List ℕ) (h : refusal (after_calls v xs) (reply t f o l) ≡ 0) (w : What) (c u : ℕ)
      → Outstanding (told_by v xs) (numbers (outcome (after_calls v xs) (reply t f o l)).says).id w c u → (claim.a_reply_goes_to_its_own v xs t f o l h).0.entry.what ≡ w
  answers_what t f o l h w c u out =
      let a = (claim.a_reply_goes_to_its_own v xs t f o l h).0 in
      let e = (lives_as a.place a.entry a.there).2 in
      let g = rw (reply_frame (after_calls v xs) t f o l h a).0 at out.2 in
      cc
