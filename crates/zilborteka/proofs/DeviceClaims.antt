-- The tender's claims on the device that a host lends, in the C host's numbers: from a device made fresh, whatever calls but fresh follow, refused ones included.
-- Assumes nothing.
use Prim.Native.Nat.{ℕ, ◌+◌, ◌*◌, ◌-◌, ◌≤◌, ◌<◌}
use mathlib.Core.Path.{◌≡◌, refl, ap, sym, subst, ◌∙◌}
use mathlib.Core.Logic.Iff
use mathlib.Core.Logic.{⊎_elim, ◌⊎◌, inl, inr, ◌↔◌}
use mathlib.Core.Bool.{true, false, cond, not, ◌&&◌, true≢false}
use mathlib.Core.Option
use mathlib.Core.Option.{some}
use mathlib.Core.List.{List, [], ◌∷◌, ◌++◌, map, map-append, append_assoc, Memᴰ}
use native.Mathlib.Omega.{arith}
use lib.ListN.{length, get_or, take}
use lib.Dec.{eqb}
use Rattle.numbers.specs.Numbers.{ids, places, distance, latest_time}
use Rattle.laws.specs.Lists.{last_given, last_of}
use Rattle.laws.specs.Search.{count}
use Rattle.laws.specs.Bits.{has}
use Rattle.laws.specs.Bytes.{over}
use Rattle.laws.proofs.Choice.{never}
use Rattle.laws.proofs.ListLaws.{splits}
use Rattle.wire.specs.Frame.{id_of, function_of, misframed, laid}
use Rattle.bcd.specs.Bcd.{in_range}
use Rattle.bcd.specs.Words.{number_of}
use Rattle.settings.specs.declared.Settings.{Settings}
use Rattle.settings.specs.Grammar.{Value, Tag}
use Rattle.settings.specs.Values.{value_of}
use Rattle.settings.specs.TagWords.{kind_of, tag_of, Ascending}
use Rattle.settings.proofs.ValidLaws.{valid_exactly}
use Rattle.settings.proofs.TagLaws.{valid-ascends}
use Rattle.pdu.specs.Requests.{class_of, bad_function, bad_length, asked_of, fault_of, checked_of}
use Rattle.pdu.specs.Replies.{excepts}
use Rattle.pdu.specs.declared.What.{What}
use Rattle.pdu.specs.Words.{what_of, closed_bit, closed_in}
use Rattle.pdu.specs.Spoiling.{spoils}
use Rattle.pdu.proofs.ReadLaws.{reads_exactly}
use Rattle.rewrite.specs.Registers.{registers_at}
use Rattle.rewrite.specs.Rewriting.{own_in, Rewritten}
use Rattle.rewrite.specs.Frames.{returned}
use Rattle.rewrite.specs.Plain.{Has, InRun, Whole, Brings, OfBits, Rewrites}
use Rattle.rewrite.specs.declared.Way.{Way}
use Rattle.rewrite.specs.declared.Way.TheVariants.{ToBcd, ToBinary}
use Rattle.rewrite.specs.Legal.{legal}
use Rattle.rewrite.specs.Strict.{Carries, Violates, HasDigits}
use Rattle.cache.specs.Cache.{Cached, in_cache}
use Rattle.cache.specs.Plain.{Keyed, Fresh, Takes}
use Rattle.book.specs.Book.{Party, Live, Event, at}
use Rattle.book.specs.Book.Event.{passed, issued}
use Rattle.book.specs.Ledger.{Ticket, Apart, Differing, Anew, parties_of}
use Rattle.book.specs.Traced.{touches, issued_id, behind, Outstanding}
use Rattle.book.specs.Desk.{AllLive, is_live}
use Rattle.machine.specs.Machine.{Machine, Note, rules, settings, clocked}
use Rattle.machine.specs.Calls.{Call, Outcome, out_of, list_of, time_of}
use Rattle.machine.specs.Calls.Call.{attach, detach, request, reply, tick, link_lost}
use Rattle.machine.specs.Refusals.{refusal}
use Rattle.machine.specs.Requests.{excepted, served}
use Rattle.machine.specs.Outcomes.{granted, outcome}
use Rattle.machine.specs.Granted.{concerns}
use Rattle.machine.specs.Numbers.{ten, numbers, is_issued, is_joined, is_exception, is_timed_out, is_nothing_due, is_hit}
use Rattle.machine.specs.Waiting.{next_deadline}
use Rattle.machine.specs.Spelled.{asker, asking}
use Rattle.machine.specs.Histories.{Seen, seen_of, after_calls, told_by, told_since, IssuedBy, told_from}
use Rattle.machine.specs.Closed.{Unspoiled, Joinable, Meets, number_at}
use Rattle.machine.specs.Cached.{NoHit, KeptFor, Put}
use Rattle.machine.specs.declared.Answer.{Answer}
use Rattle.machine.specs.declared.Answer.TheVariants as answer
use Rattle.machine.specs.declared.Report.{Report}
use Rattle.machine.specs.declared.NextDeadline.{NextDeadline}
use Rattle.machine.specs.RefusalTable.{table, Applies}
use Rattle.machine.specs.Requested.{NoneToJoin, Hits, Issues, Joins, Excepts, Accepts, Stands}
use Rattle.machine.specs.PartysFrames.{PartysFrame}
use Rattle.machine.specs.Answered.{showing, Lent, tick_at, ticks_at}
use Rattle.machine.proofs.NumberLaws.{refusal-told, refusal_exactly, exception_exactly, join_exactly}
use Rattle.machine.proofs.OutcomeLaws.{granted_is}
use Rattle.machine.proofs.AskLaws.{bits_carry_none}
use Rattle.machine.proofs.StateLaws.{seen_issue}
use Rattle.machine.proofs.MeetsLaws.{spoils_in_bytes}
use Rattle.machine.proofs.ClosedLaws.{since}
use Rattle.machine.proofs.Claims as claim
use Rattle.table.specs.Columns.{parties_at, note_of}
use Rattle.proxy.specs.State.{value_in}
use Rattle.proxy.proofs.MakingLaws.{adopted-valid}
use Rattle.proxy.specs.declared.Device.{Device}
use Rattle.device.specs.Device.{Freshly, Awaited}
use Rattle.device.proofs.DeviceLaws.{same-device}
use Rattle.zilborteka.specs.Lives.{in_force, machine_in, Called, Line, calls_of, Lived, granted_in, told_in, ledger_in, AsTheMachine, outcome_in, hit_in, issue_in, join_in, exception_in, LiveIn}
use Rattle.zilborteka.specs.Lives.Lived.{none, then}
use Rattle.zilborteka.specs.Handed.{waiting_under, Replied, TimesOut}
use Rattle.zilborteka.specs.Cached.{cache_in, FillsIn, LastReplyIn, LatestIn, ShowsIn}
use Rattle.zilborteka.proofs.Lived.{left, seen, came, report-tells, tells, lived_on, each_line, line-told, a_device_lives_as_the_machine, a_report_tells_the_answer, a_device_accounts_for_every_request}
use Rattle.zilborteka.proofs.Handed.{lives_as, replied, timed_out_lem, answers_what}
use Rattle.zilborteka.proofs.Places.{place_live, live_in}
use Rattle.zilborteka.proofs.Shown.{issue_among, fills-line, fills-call, shows_seen, cache_is, last_line, last_call}
use Rattle.pdu.specs.declared.Fault.TheVariants as check
use Rattle.std.specs.Prelude.{Ok, Err}

-- the whole report of a hit, an issue, a join and an exception, and which of the four it is
module _ {m : Machine} {c t : ℕ} {f o : List ℕ} {y : Outcome} {r : Report} where
  hit_reported : Hits m c t f o y × (r ≡ numbers y.says)
      → (h : Hits m c t f o y) × (r ≡ ten 0 0 10 (length h.cached.bytes) 0 h.cached.partial h.cached.value 0 0 0)
  hit_reported w = (w.0, w.1 ∙ w.0.report)

  issue_reported : Issues m c t f o y × (r ≡ numbers y.says) → (i : Issues m c t f o y) × (r ≡ ten 0 0 2 (length f) 0 i.partial i.value 0 i.id 0)
  unfolding numbers
  issue_reported w = (w.0, w.1 ∙ ap numbers w.0.says)

  join-reported : Joins m c t f o y × (r ≡ numbers y.says) → (j : Joins m c t f o y) × (r ≡ ten 0 0 3 0 0 0 0 0 j.entry.id 0)
  unfolding numbers
  join-reported w = (w.0, w.1 ∙ ap numbers w.0.says)

exception-reported : {m : Machine} {t : ℕ} {f o : List ℕ} {y : Outcome} {r : Report} → Excepts m t f o y × (r ≡ numbers y.says)
    → (e : Excepts m t f o y) × (r ≡ ten 0 0 4 9 0 0 0 0 0 e.code)
unfolding numbers
exception-reported w = (w.0, w.1 ∙ ap numbers w.0.says)

one_of_four : {m : Machine} {c t : ℕ} {f o : List ℕ} {y : Outcome} → Hits m c t f o y ⊎ (Issues m c t f o y ⊎ (Joins m c t f o y ⊎ Excepts m t f o y))
    → ((numbers y.says).outcome ≡ is_hit)
    ⊎ (((numbers y.says).outcome ≡ is_issued) ⊎ (((numbers y.says).outcome ≡ is_joined) ⊎ ((numbers y.says).outcome ≡ is_exception)))
unfolding numbers
one_of_four (inl h) = inl (ap (λ (a : Answer). (numbers a).outcome) h.says)
one_of_four (inr (inl i)) = inr (inl (ap (λ (a : Answer). (numbers a).outcome) i.says))
one_of_four (inr (inr (inl j))) = inr (inr (inl (ap (λ (a : Answer). (numbers a).outcome) j.says)))
one_of_four (inr (inr (inr e))) = inr (inr (inr (ap (λ (a : Answer). (numbers a).outcome) e.says)))

-- The tags in force on a device ascend, whatever it was made from: so what `Rewrites` says of ascending tags holds of its replies and its issues.
pub the_tags_in_force_ascend : (from : Settings) → Ascending 0 (in_force from).tags
the_tags_in_force_ascend from = valid-ascends (in_force from) (adopted-valid (value_of from))

-- A device d was made fresh from a settings value, and these lines followed and left d'. What is claimed of the next call is claimed of each line of a life: `each_line` of Lived.antt.
-- `machine_in d'` is the machine that the device is: its set, cursor, clock and cache are the device's, and its live entries stand in the device's places (`own_fields`, `live_in` of Places.antt).
-- a reply's report with its parties and its id said otherwise
ten-alike : {r : Report} {n p q i j : ℕ} → r ≡ ten 0 0 5 n p 0 0 0 i 0 → p ≡ q → i ≡ j → r ≡ ten 0 0 5 n q 0 0 0 j 0
ten-alike e a b = rw (a, b) at e

-- what is said of a frame and two counts, of those that are shown
shown_as : {way : Way} {tags : List Tag} {f w u : List ℕ} {p q p' q' base start quantity : ℕ} → w ≡ u → p ≡ p' → q ≡ q' → Rewrites way tags f u p' q' base start quantity → Rewrites way tags f w p q base start quantity
shown_as e a b r = rw (e, a, b) r

module _ (from : Settings) {r : Report} {d d' : Device} (ls : List Line) (fresh : Freshly from r d) (life : Lived d ls d') where
  -- the settings in force, the calls so far, and that the device is the machine after them
  abbrev v : Value
  v = in_force from

  abbrev xs : List Call
  xs = calls_of ls

  lived : AsTheMachine v ls d'
  lived = a_device_lives_as_the_machine from ls fresh life

  clock_is : d'.clock ≡ (after_calls v xs).book.clock
  unfolding machine_in
  clock_is = ap (λ (m : Machine). m.book.clock) lived.after

  -- what the host saw of the next call is what the machine shows: a claim about that is one about what the host saw
  sees : (x : Call) {saw : Seen} {e : Device} → Called d' x saw e → saw ≡ seen_of (outcome (after_calls v xs) x)
  sees x s = rw lived.after at (seen x s)

  passes : (x : Call) {saw : Seen} {e : Device} → Called d' x saw e → saw.report.refusal ≡ 0 → refusal (after_calls v xs) x ≡ 0
  passes x s z = sym (refusal-told (after_calls v xs) x) ∙ ap (λ (y : Seen). y.report.refusal) (sym (sees x s)) ∙ z

  -- and where the report tells an answer, a claim about the machine's outcome with that answer is one about the device and what the host saw
  carried : (P : Machine → Outcome → Type 0) (x : Call) {saw : Seen} {e : Device} (s : Called d' x saw e) (a : Answer) → (outcome (machine_in d') x).says ≡ a
      → ((outcome (after_calls v xs) x).says ≡ a → P (after_calls v xs) (outcome (after_calls v xs) x)) → P (machine_in d') (outcome_in a saw e) × (saw.report ≡ numbers a)
  carried P x {saw} {e} s a h f = (
    subst (P (machine_in d')) (came x s ∙ ap (λ (b : Answer). outcome_in b saw e) h) (subst (λ (m : Machine). P m (outcome m x)) (sym lived.after) (f (rw lived.after at h))),
    ap (λ (y : Seen). y.report) (seen x s) ∙ ap numbers h,
  )

  -- The settings in force stay those that fresh adopted: in the machine that the device is, and in the device's own fields, timeout, join and the words of its tags.
  pub the_settings_in_force_stay : (settings (machine_in d') ≡ in_force from) × (d'.settings.timeout ≡ (in_force from).timeout) × (d'.settings.join ≡ (in_force from).join)
      × (map tag_of (take d'.settings.tag_count d'.settings.tag_words) ≡ (in_force from).tags)
  unfolding machine_in value_in
  the_settings_in_force_stay =
      let e = ap (λ (m : Machine). settings m) lived.after ∙ claim.the_settings_in_force_stay v xs in
      (e, ap (λ (y : Value). y.timeout) e, ap (λ (y : Value). y.join) e, ap (λ (y : Value). y.tags) e)

  -- Tender 1: a call refuses by the numbers in document 01. The report says the refusal n exactly if row n of the document's table applies to the call on that device and no
  -- lower row does.
  pub refuses_by_the_table : (x : Call) {saw : Seen} {d'' : Device} → Called d' x saw d'' → (n : ℕ) → (n ≡ 0 → ⊥)
      → (saw.report.refusal ≡ n) ↔ (Applies (table (machine_in d') x) n × ((k : ℕ) → k < n → Applies (table (machine_in d') x) k → ⊥))
  refuses_by_the_table x s n h = rw (sees x s, lived.after) (Iff.trans (refusal_exactly _ n h) (claim.refuses_by_the_table v xs x n h))

  -- Tender 1: a refusal changes no state and no lent byte. Every field of the device, both buffers and every other number of the report are as if nothing had been called.
  pub a_refusal_changes_nothing : (x : Call) {saw : Seen} {d'' : Device} → Called d' x saw d'' → (saw.report.refusal ≡ 0 → ⊥)
      → (d'' ≡ d') × (saw ≡ record { report = ten saw.report.refusal 0 0 0 0 0 0 0 0 0; frame = out_of x; list = list_of x })
  unfolding numbers
  a_refusal_changes_nothing x {saw} {d''} s h = (
    same-device d'' d' (s.2 h),
    sees x s ∙ ap seen_of (claim.a_refusal_changes_nothing v xs x saw.report.refusal h (rw lived.after at ((report-tells x s).refused h))),
  )

  -- Tender 2 and 3, a request, with #107: one that is not refused is a hit, is issued, joins, or gets an exception,
  pub a_request_comes_to_this : (c t : ℕ) (f o : List ℕ) {saw : Seen} {d'' : Device} → Called d' (request c t f o) saw d'' → saw.report.refusal ≡ 0
      → (saw.report.outcome ≡ is_hit) ⊎ ((saw.report.outcome ≡ is_issued) ⊎ ((saw.report.outcome ≡ is_joined) ⊎ (saw.report.outcome ≡ is_exception)))
  a_request_comes_to_this c t f o s z = let x = request c t f o in let h = passes x s z in rw (sees x s) (one_of_four (claim.a_request_comes_to_this v xs c t f o h))

  -- and each of the four is told in plain numbers and bytes: the whole report, every byte of the buffer, and the whole machine that the device is afterwards; after a hit that is as before
  -- but for its clock, which is the request's time.
  pub a_hit_is_this : (c t : ℕ) (f o : List ℕ) {saw : Seen} {d'' : Device} → Called d' (request c t f o) saw d'' → saw.report.outcome ≡ is_hit
      → (h : Hits (machine_in d') c t f o (outcome_in (hit_in saw.report) saw d''))
      × (saw.report ≡ ten 0 0 10 (length h.cached.bytes) 0 h.cached.partial h.cached.value 0 0 0)
  a_hit_is_this c t f o s e =
      let x = request c t f o in
      hit_reported (carried (λ m. Hits m c t f o) x s _ ((report-tells x s).hit e) (claim.a_hit_is_this v xs c t f o _ _ _))

  pub an_issue_is_this : (c t : ℕ) (f o : List ℕ) {saw : Seen} {d'' : Device} → Called d' (request c t f o) saw d'' → saw.report.outcome ≡ is_issued
      → (i : Issues (machine_in d') c t f o (outcome_in (issue_in saw.report) saw d'')) × (saw.report ≡ ten 0 0 2 (length f) 0 i.partial i.value 0 i.id 0)
  an_issue_is_this c t f o s e =
      let x = request c t f o in
      issue_reported (carried (λ m. Issues m c t f o) x s _ ((report-tells x s).issued e) (claim.an_issue_is_this v xs c t f o _ _ _ _))

  pub a_join_is_this : (c t : ℕ) (f o : List ℕ) {saw : Seen} {d'' : Device} → Called d' (request c t f o) saw d'' → saw.report.outcome ≡ is_joined
      → (j : Joins (machine_in d') c t f o (outcome_in (join_in saw.report) saw d'')) × (saw.report ≡ ten 0 0 3 0 0 0 0 0 j.entry.id 0)
  a_join_is_this c t f o s e =
      let x = request c t f o in
      join-reported (carried (λ m. Joins m c t f o) x s _ ((report-tells x s).joined e) (claim.a_join_is_this v xs c t f o _))

  pub an_exception_is_this : (c t : ℕ) (f o : List ℕ) {saw : Seen} {d'' : Device} → Called d' (request c t f o) saw d'' → saw.report.outcome ≡ is_exception
      → (e : Excepts (machine_in d') t f o (outcome_in (exception_in saw.report) saw d'')) × (saw.report ≡ ten 0 0 4 9 0 0 0 0 0 e.code)
  an_exception_is_this c t f o s e =
      let x = request c t f o in
      exception-reported (carried (λ m. Excepts m t f o) x s _ ((report-tells x s).excepted e) (claim.an_exception_is_this v xs c t f o _))

  -- Tender 3: an accepted request stands in the party places afterwards, as the latest party of a live entry that asks what it asks.
  pub the_accepted_stand : (c t : ℕ) (f o : List ℕ) {saw : Seen} {d'' : Device} → Called d' (request c t f o) saw d'' → (saw.report.outcome ≡ is_issued) ⊎ (saw.report.outcome ≡ is_joined)
      → Stands (machine_in d'').book saw.report.id (asking f) (asker c f)
  unfolding Accepts
  the_accepted_stand c t f o {saw} s w =
      let x = request c t f o in
      let tells = rw lived.after at (report-tells x s) in
      rw (left x s, lived.after)
      (claim.the_accepted_stand v xs c t f o saw.report.id (⊎_elim (λ e. rw (tells.issued e) refl) (λ e. rw (tells.joined e) refl) w))

  -- Tender 3, with #104's number and #107: the proxy itself gives exception 04 exactly when a legal request hits nothing, can join nothing and 256 are live.
  pub exception_04_exactly : (c t : ℕ) (f o : List ℕ) {saw : Seen} {d'' : Device} → Called d' (request c t f o) saw d''
      → ((saw.report.outcome ≡ is_exception) × (saw.report.code ≡ 4))
      ↔ ((saw.report.refusal ≡ 0) × (legal (in_force from) f ≡ true) × NoHit (machine_in d') t f × NoneToJoin (machine_in d') t f × AllLive rules (machine_in d').book)
  exception_04_exactly c t f o s =
      let x = request c t f o in
      let same : legal (settings (after_calls v xs)) f ≡ legal v f = ap (λ (y : Value). legal y f) (claim.the_settings_in_force_stay v xs) in
      rw (sees x s, lived.after, refusal-told (after_calls v xs) x) (Iff.trans (exception_exactly _ 4) (rw same at (claim.exception_04_exactly v xs c t f o)))

  -- and no other call reports an exception
  pub no_other_call_says_one : (x : Call) {saw : Seen} {d'' : Device} → Called d' x saw d'' → ((c t : ℕ) (f o : List ℕ) → x ≡ request c t f o → ⊥) → saw.report.outcome ≡ is_exception → ⊥
  no_other_call_says_one x s h e = claim.no_other_call_says_one v xs x h _ (rw lived.after at ((report-tells x s).excepted e))

  -- Tender 2 and 3, a reply: one that is not refused is handed to those that wait under its id in the host's own ledger, each of whom asked what it answers.
  pub a_reply_goes_to_its_own : (t : ℕ) (f o l : List ℕ) {saw : Seen} {d'' : Device} → Called d' (reply t f o l) saw d'' → saw.report.refusal ≡ 0
      → Replied (in_force from) (told_in (in_force from) ls) f o l saw
  a_reply_goes_to_its_own t f o l s z = let x = reply t f o l in let h = passes x s z in rw (lived.told, sees x s) (replied v xs t f o l h)

  -- Tender 2 and 3, a timeout: a tick that is not refused and does not report that nothing is due hands exception 0B to those that wait under the id that was due first.
  pub a_timeout_goes_to_its_own : (t : ℕ) (o l : List ℕ) {saw : Seen} {d'' : Device} → Called d' (tick t o l) saw d'' → saw.report.refusal ≡ 0 → (saw.report.outcome ≡ is_nothing_due → ⊥)
      → TimesOut (told_in (in_force from) ls) t o l saw
  unfolding numbers
  a_timeout_goes_to_its_own t o l s z n =
      let x = tick t o l in
      let h = passes x s z in
      let due : (outcome (after_calls v xs) x).says ≡ answer.NothingDue → ⊥ = λ e. n (ap (λ (y : Seen). y.report.outcome) (sees x s) ∙ ap (λ (a : Answer). (numbers a).outcome) e) in
      rw (lived.told, sees x s) (timed_out_lem v xs t o l h due)

  -- Document 01: "nothing due" is a separate outcome and writes nothing. A tick that reports outcome 7: no other number of the report is set, buffer and list are as they came, no id that
  -- is outstanding by the host's own lines is due at its time, and the machine that the device is afterwards is as before but for its clock, which is that time.
  pub nothing_due_is_this : (t : ℕ) (o l : List ℕ) {saw : Seen} {d'' : Device} → Called d' (tick t o l) saw d'' → saw.report.outcome ≡ 7
      → (saw ≡ record { report = ten 0 0 7 0 0 0 0 0 0 0; frame = o; list = l }) × ((id : ℕ) (w : What) (c u : ℕ) → Outstanding (told_in (in_force from) ls) id w c u → t < u)
      × (machine_in d'' ≡ showing (machine_in d') t)
  unfolding numbers
  nothing_due_is_this t o l s e =
      let x = tick t o l in
      let w = claim.nothing_due_is_this v xs t o l (rw lived.after at ((report-tells x s).nothing_due e)) in (
        sees x s ∙ ap seen_of w.0,
        λ i a c u out. let y = (claim.which_ids_are_live v xs i a c u).1 (rw lived.told at out) in rw y.6 at (w.1 y.0 y.1 y.2),
        left x s ∙ subst (λ (m : Machine). (outcome m x).after ≡ showing m t) (sym lived.after) (ap (λ (y : Outcome). y.after) w.0),
      )

  -- And so reports every tick that is not refused and at whose time no such id is due.
  pub nothing_due_is_said : (t : ℕ) (o l : List ℕ) {saw : Seen} {d'' : Device} → Called d' (tick t o l) saw d'' → saw.report.refusal ≡ 0
      → ((id : ℕ) (w : What) (c u : ℕ) → Outstanding (told_in (in_force from) ls) id w c u → t < u) → saw.report.outcome ≡ 7
  unfolding numbers
  nothing_due_is_said t o l s z n =
      let x = tick t o l in
      ap (λ (y : Seen). y.report.outcome) (sees x s)
      ∙ ap (λ (a : Answer). (numbers a).outcome)
      (claim.nothing_due_is_said v xs t o l (passes x s z) (λ k e h. n e.id e.what e.by e.deadline (rw lived.told (lives_as v xs k e h))))

  -- Request #101: no tag touches coils and discrete inputs. A request 01, 02, 05 or 15 that is issued goes out as it came, but for its id, and the report counts no tag;
  pub bits_go_out_as_they_came : (c t : ℕ) (f o : List ℕ) {saw : Seen} {d'' : Device} → Called d' (request c t f o) saw d'' → saw.report.outcome ≡ is_issued → OfBits (get_or f 7 0)
      → ((k : ℕ) → 2 ≤ k → k < length f → get_or saw.frame k 0 ≡ get_or f k 0) × (saw.report.partial ≡ 0) × (saw.report.value ≡ 0)
  bits_go_out_as_they_came c t f o s e b =
      let x = an_issue_is_this c t f o s e in
      let u = x.0.unchanged (bits_carry_none f b) in
      (u.0, ap (λ (y : Report). y.partial) x.1 ∙ u.1, ap (λ (y : Report). y.value) x.1 ∙ u.2)

  -- and a reply to what such a request asked, outstanding under the reply's id, is handed on as it came, under id 0.
  pub bits_come_back_as_they_came : (t : ℕ) (f o l : List ℕ) {saw : Seen} {d'' : Device} → Called d' (reply t f o l) saw d'' → saw.report.refusal ≡ 0
      → (w : What) (client due : ℕ) → Outstanding (told_in (in_force from) ls) saw.report.id w client due → OfBits w.function
      → (saw.frame ≡ over (laid 0 f) o) × (saw.report.partial ≡ 0) × (saw.report.value ≡ 0)
  unfolding numbers
  bits_come_back_as_they_came t f o l s z w client due out b =
      let h = passes (reply t f o l) s z in
      let shown = sees (reply t f o l) s in
      let same = answers_what v xs t f o l h w client due (rw (lived.told, shown) at out) in
      let r = claim.bits_come_back_as_they_came v xs t f o l (claim.a_reply_goes_to_its_own v xs t f o l h).0 (rw same b) in
      let told : (q : Report → ℕ) → _ = λ q. ap (λ (y : Seen). q y.report) shown ∙ ap (λ (y : Answer). q (numbers y)) r.1 in
      (ap (λ (y : Seen). y.frame) shown ∙ r.0, told (λ y. y.partial), told (λ y. y.value))

  -- what a look at the next deadline tells is the machine's
  awaits : {n : NextDeadline} → Awaited d' n → n ≡ next_deadline (after_calls v xs)
  unfolding machine_in
  awaits a = a ∙ ap next_deadline lived.after

  -- When to tick (ours): a look at the next deadline changes nothing, the device is lent by `&`. Both its numbers, by the host's own lines: no outstanding request is due before that time,
  -- it is the deadline of an outstanding one or 2^64 − 1, which it is exactly if nothing is outstanding, and so many places are live.
  pub the_next_deadline_is_this : {n : NextDeadline} → Awaited d' n
      → ((id : ℕ) (w : What) (c u : ℕ) → Outstanding (told_in (in_force from) ls) id w c u → n.time ≤ u)
      × ((n.time ≡ 18446744073709551615) ⊎ ((id : ℕ) × (w : What) × (c : ℕ) × Outstanding (told_in (in_force from) ls) id w c n.time))
      × ((n.time ≡ 18446744073709551615) ↔ ((id : ℕ) (w : What) (c u : ℕ) → Outstanding (told_in (in_force from) ls) id w c u → ⊥))
      × (n.live ≡ count (λ k. is_live (at (machine_in d').book k)) places)
  the_next_deadline_is_this {n} a =
      let m = after_calls v xs in
      let same = awaits a in
      let w = claim.the_next_deadline_is_this v xs in
      let exactly = claim.no_deadline_exactly v xs ((valid_exactly v).0 (adopted-valid (value_of from))).most in (
        λ id x c u z. let y = (claim.which_ids_are_live v xs id x c u).1 (rw lived.told at z) in rw (same, ← y.6) (w.first y.0 y.1 y.2),
        ⊎_elim
            (λ e. inl (ap (λ (y : NextDeadline). y.time) same ∙ e))
            (λ (y : (k : ℕ) × (e : Live What Note) × (at m.book k ≡ some e) × (e.deadline ≡ (next_deadline m).time)).
            inr (y.1.id, y.1.what, y.1.by, rw (lived.told, same, ← y.3) (lives_as v xs y.0 y.1 y.2)))
            w.taken,
        rw same (
          λ e id x c u z. let y = (claim.which_ids_are_live v xs id x c u).1 (rw lived.told at z) in exactly.0 e y.0 y.1 y.2,
          λ h. exactly.1 (λ k e q. h e.id e.what e.by e.deadline (rw lived.told (lives_as v xs k e q))),
        ),
        ap (λ (y : NextDeadline). y.live) same ∙ w.many ∙ ap (λ (y : Machine). count (λ k. is_live (at y.book k)) places) (sym lived.after),
      )

  -- Of a tick that comes next and is not refused, one before the time that it named reports that nothing is due, and one at or after it ends an entry.
  pub when_the_next_tick_ends_one : {n : NextDeadline} → Awaited d' n → (t : ℕ) (o l : List ℕ) {saw : Seen} {d'' : Device} → Called d' (tick t o l) saw d'' → saw.report.refusal ≡ 0
      → (t < n.time → saw.report.outcome ≡ is_nothing_due) × (n.time ≤ t → saw.report.outcome ≡ is_timed_out)
  unfolding numbers
  when_the_next_tick_ends_one {n} a t o l s z =
      let x = tick t o l in
      let w = claim.when_the_next_tick_ends_one v xs t o l (passes x s z) in
      let same = awaits a in
      let told : (b : Answer) → (outcome (after_calls v xs) x).says ≡ b → _ = λ b q. ap (λ (y : Seen). y.report.outcome) (sees x s) ∙ ap (λ (y : Answer). (numbers y).outcome) q in
      (λ early. told answer.NothingDue (w.0 (rw same at early)), λ late. let y = w.1 (rw same at late) in told (answer.TimedOut y.0 y.1) y.2)

  -- what the lines up to one of them and all lines tell, and what the host saw at that one, are the machine's
  parted : (ks : List Line) (x : Line) (ys : List Line) → ls ≡ ks ++ x ∷ ys
      → (told_in v (ks ++ x ∷ []) ≡ told_by v (calls_of ks ++ x.call ∷ [])) × (told_in v ls ≡ told_by v (calls_of ks ++ x.call ∷ calls_of ys))
      × (x.saw ≡ seen_of (outcome (after_calls v (calls_of ks)) x.call))
  parted ks x ys e =
      let i = each_line ks x ys (subst (λ (l : List Line). Lived d l d') e life) in
      let first = a_device_lives_as_the_machine from (ks ++ x ∷ []) fresh (lived_on i.2 (then i.3 none)) in (
        first.told ∙ ap (told_by v) (map-append (λ (y : Line). y.call) ks (x ∷ [])),
        lived.told ∙ ap (told_by v) (ap calls_of e ∙ map-append (λ (y : Line). y.call) ks (x ∷ ys)),
        lived.saw ks x ys e,
      )

  -- Tender 3: a client number that is attached again gets nothing that its predecessor asked. Whatever lines come after a client's leaving, what is answered to its number in the
  -- host's ledger is what was answered before it left, or was accepted since.
  pub a_successor_gets_nothing_old : (ks : List Line) (x : Line) (ys : List Line) → ls ≡ ks ++ x ∷ ys → (c : ℕ) → x.call ≡ detach c → x.saw.report.refusal ≡ 0
      → Anew c (ledger_in (in_force from) (ks ++ x ∷ [])) (ledger_in (in_force from) ls)
  a_successor_gets_nothing_old ks x ys e c h z =
      let i = parted ks x ys e in
      let m = after_calls v (calls_of ks) in
      let n : refusal m (detach c) ≡ 0 = rw (← h) (sym (refusal-told m x.call) ∙ ap (λ (y : Seen). y.report.refusal) (sym i.2) ∙ z) in
      rw (i.0, i.1, h) (claim.a_successor_gets_nothing_old v (calls_of ks) c (calls_of ys) n)

  -- And the same after a lost link, of any client number.
  pub nor_after_a_lost_link : (ks : List Line) (x : Line) (ys : List Line) → ls ≡ ks ++ x ∷ ys → (c : ℕ) → x.call ≡ link_lost
      → Anew c (ledger_in (in_force from) (ks ++ x ∷ [])) (ledger_in (in_force from) ls)
  nor_after_a_lost_link ks x ys e c h = let i = parted ks x ys e in rw (i.0, i.1, h) (claim.nor_after_a_lost_link v (calls_of ks) c (calls_of ys))

  -- Tender 3: once a tick reports that nothing is due, nothing accepted a full timeout before its time waits in the host's ledger.
  pub nothing_waits_forever : (t : ℕ) (o l : List ℕ) {saw : Seen} {d'' : Device} → Called d' (tick t o l) saw d'' → saw.report.outcome ≡ is_nothing_due
      → (k : Ticket What) → Memᴰ k (ledger_in (in_force from) (ls ++ record { call = tick t o l; saw = saw } ∷ [])).waiting → t < k.time + (in_force from).timeout
  nothing_waits_forever t o l {saw} s n k m =
      let x : Line = record { call = tick t o l; saw = saw } in
      let w = a_device_lives_as_the_machine from (ls ++ x ∷ []) fresh (lived_on life (then s none)) in
      claim.nothing_waits_forever v xs t o l (rw lived.after at ((report-tells (tick t o l) s).nothing_due n)) k
      (rw (w.told, map-append (λ (y : Line). y.call) ls (x ∷ [])) at m)

  -- Tender 3: ticking at one time ends. After this life, as many ticks at one time as there are places, or more, each with whatever buffers of the asked lengths, the next tick at that
  -- time reports that nothing is due, and in the host's ledger nothing accepted a full timeout before that time waits.
  pub ticking_comes_to_an_end : (t : ℕ) → t ≤ latest_time → d'.clock ≤ t → (bs : List Lent) → places ≤ length bs → (b : Lent)
      → (ts : List Line) (x : Line) {e : Device} → Lived d' (ts ++ x ∷ []) e → calls_of ts ≡ ticks_at t bs → x.call ≡ tick_at t b
      → (x.saw.report.outcome ≡ is_nothing_due)
      × ((k : Ticket What) → Memᴰ k (ledger_in (in_force from) (ls ++ (ts ++ x ∷ []))).waiting → t < k.time + (in_force from).timeout)
  unfolding numbers
  ticking_comes_to_an_end t late c bs p b ts x more q y =
      let w = a_device_lives_as_the_machine from (ls ++ (ts ++ x ∷ [])) fresh (lived_on life more) in
      let before : calls_of (ls ++ ts) ≡ xs ++ ticks_at t bs = map-append (λ (z : Line). z.call) ls ts ∙ ap (λ (l : List Call). xs ++ l) q in
      let all : calls_of (ls ++ (ts ++ x ∷ [])) ≡ (xs ++ ticks_at t bs) ++ (tick_at t b ∷ []) =
      ap calls_of (sym (append_assoc ls ts (x ∷ []))) ∙ map-append (λ (z : Line). z.call) (ls ++ ts) (x ∷ []) ∙ rw (before, y) in
      let h = claim.ticking_comes_to_an_end v xs t late (rw clock_is at c) bs p b in (
        ap (λ (z : Seen). z.report.outcome) (w.saw (ls ++ ts) x [] (sym (append_assoc ls ts (x ∷ [])))) ∙ rw (before, y) (ap (λ (a : Answer). (numbers a).outcome) h.0),
        λ k m. h.1 k (rw (w.told, all) at m),
      )

  -- Document 01, the state by the history, 1: a client is attached exactly if the last of its attach, its detach and link lost that was not refused is its attach.
  pub who_is_attached : (c : ℕ) → (has d'.attached c ≡ true) ↔ (last_of (concerns c) (granted_in ls) ≡ some (attach c))
  unfolding machine_in
  who_is_attached c = rw (ap (λ (m : Machine). m.attached) lived.after, lived.granted) (claim.who_is_attached v xs c)

  -- 2: the clock is the time of the last request, reply or tick that was not refused, and 0 where there was none.
  pub what_the_clock_shows : d'.clock ≡ Option.get_or (last_given time_of (granted_in ls)) 0
  what_the_clock_shows = rw (clock_is, lived.granted) (claim.what_the_clock_shows v xs)

  -- 3: the cursor is the last issued id + 1, 0 after 65,535, and 0 where none was issued.
  pub where_the_cursor_stands : d'.table.cursor ≡ behind ids (last_given issued_id (told_in (in_force from) ls))
  unfolding machine_in
  where_the_cursor_stands = ap (λ (m : Machine). m.book.cursor) lived.after ∙ rw lived.told (claim.where_the_cursor_stands v xs)

  -- 4: an id is live, in a place of the device, exactly if it was issued and since its last issue neither answered nor timed out nor lost with the link; the place holds what that
  -- issue asked, for the client that asked it, and is due when that issue said;
  pub which_ids_are_live : (id : ℕ) (w : What) (c u : ℕ) → LiveIn d' id w c u ↔ Outstanding (told_in (in_force from) ls) id w c u
  which_ids_are_live id w c u = Iff.trans (live_in d' lived.next id w c u) (rw (lived.after, lived.told) (claim.which_ids_are_live v xs id w c u))

  -- its parties are those that wait under the id in the host's ledger, in the order in which they were accepted;
  pub who_stands_where : (k id : ℕ) → get_or d'.table.ids k 0 ≡ id + 1 → parties_at d'.table.counts d'.table.clients d'.table.originals k ≡ parties_of (waiting_under (told_in (in_force from) ls) id)
  who_stands_where k id e =
      let i : get_or d'.table.ids k 0 - 1 ≡ id = omega arith in
      rw i at ((a_device_accounts_for_every_request from ls fresh life).entries k _ (place_live d' lived.next k (λ z. omega arith)))

  -- and each issue is a line of this life: a request that was reported issued under that id; it asked what the frame asks, and is due at the request's time plus the timeout.
  pub what_an_issue_is : (id : ℕ) (w : What) (u : ℕ) (p : Party) → Memᴰ (issued id w u p) (told_in (in_force from) ls)
      → (ks : List Line) × (x : Line) × (ys : List Line) × (ls ≡ ks ++ x ∷ ys) × IssuedBy (in_force from) x.saw id w u p x.call
  what_an_issue_is id w u p m = let i = line-told v ls (issued id w u p) m in (i.0, i.1, i.2, i.3, seen_issue v i.1.saw id w u p i.1.call i.4)

  -- Request #102: a live place of the device whose function is 01, 02, 03 or 04 is open, so that its word has no bit 32, exactly if nothing that spoils what it asks was issued since its own
  -- issue. In the word of any other function bit 32 says nothing of the kind: nothing joins that.
  pub what_is_open : (k id : ℕ) → get_or d'.table.ids k 0 ≡ id + 1
      → let w = what_of (get_or d'.table.asked k 0) in
      ((w.function ≡ 1) ⊎ (w.function ≡ 2)) ⊎ ((w.function ≡ 3) ⊎ (w.function ≡ 4))
      → (has (get_or d'.table.asked k 0) closed_bit ≡ false) ↔ Unspoiled (told_in (in_force from) ls) id w (get_or d'.table.deadlines k 0)
  unfolding note_of closed_in
  what_is_open k id e reads =
      let i : get_or d'.table.ids k 0 - 1 ≡ id = omega arith in
      rw ((reads_exactly (get_or d'.table.asked k 0)).1 reads, i, ← lived.told) at (claim.what_is_open v xs k _ (rw lived.after at (place_live d' lived.next k (λ z. omega arith))))

  -- A read after a write is not stale: where a line tells that any request was issued, and a later request joins that it spoils, what this one joins was issued after it, and is live
  -- since.
  pub a_read_after_a_write_is_not_stale : (before later : List (Event What)) (j : ℕ) (w : What) (u : ℕ) (p : Party) → told_in (in_force from) ls ≡ before ++ (issued j w u p ∷ later)
      → (c t : ℕ) (f o : List ℕ) {saw : Seen} {d'' : Device} → Called d' (request c t f o) saw d'' → saw.report.outcome ≡ is_joined → spoils w (asking f) ≡ true
      → (u' : ℕ) × (p' : Party) × (last_of (touches saw.report.id) later ≡ some (issued saw.report.id (asking f) u' p'))
  a_read_after_a_write_is_not_stale before later j w u p told c t f o s e =
      claim.a_read_after_a_write_is_not_stale v xs before later j w u p (sym lived.told ∙ told) c t f o _ (rw lived.after at ((report-tells (request c t f o) s).joined e))

  -- The same in bytes: a line of this life is a request g that was reported issued, and a later request f is reported joined, which g meets: byte 6 of both is equal, byte 7 of g is 05 or 15
  -- and that of f 01 or 02, or 06, 16, 22 or 23 and 03 or 04, and some address is in both ranges, of a 23 in the one that it writes, or g is "other" and f a read. Then of what the lines behind g's tell, the last that
  -- begins or ends a life of the id that f joined is its issue, which asks what f asks.
  pub a_read_after_a_write_is_not_stale_in_bytes : (ks : List Line) (x : Line) (ys : List Line) → ls ≡ ks ++ x ∷ ys → (c t : ℕ) (g o : List ℕ) → x.call ≡ request c t g o
      → x.saw.report.outcome ≡ 2
      → (c' t' : ℕ) (f o' : List ℕ) {saw : Seen} {d'' : Device} → Called d' (request c' t' f o') saw d'' → saw.report.outcome ≡ 3 → get_or g 6 0 ≡ get_or f 6 0 → Meets g f
      → (u : ℕ) × (p : Party) × (last_of (touches saw.report.id) (told_in (in_force from) ys) ≡ some (issued saw.report.id (asking f) u p))
  a_read_after_a_write_is_not_stale_in_bytes ks x ys e c t g o call issue c' t' f o' s join unit met =
      let i = each_line ks x ys (subst (λ (l : List Line). Lived d l d') e life) in
      let first = a_device_lives_as_the_machine from (ks ++ x ∷ []) fresh (lived_on i.2 (then i.3 none)) in
      let calls : (zs : List Line) → calls_of (ks ++ x ∷ zs) ≡ calls_of ks ++ request c t g o ∷ calls_of zs = λ zs. map-append (λ (y : Line). y.call) ks (x ∷ zs) ∙ ap (λ (y : Call). calls_of ks ++ y ∷ calls_of zs) call in
      let later : told_in v ys ≡ told_since v (calls_of ks ++ request c t g o ∷ []) (calls_of ys) = tells v i.4 ∙ ap (λ (m : Machine). told_from v m (calls_of ys)) (first.after ∙ ap (after_calls v) (calls [])) in
      let now : machine_in d' ≡ after_calls v (calls_of ks ++ request c t g o ∷ calls_of ys) = lived.after ∙ ap (after_calls v) (ap calls_of e ∙ calls ys) in
      rw later
      (claim.a_read_after_a_write_is_not_stale_in_bytes v (calls_of ks) c t g o _ _ _ _ (rw call at ((a_report_tells_the_answer from ls fresh life ks x ys e).issued issue))
      (calls_of ys) c' t' f o' _ (rw now at ((report-tells (request c' t' f o') s).joined join)) unit met)

  -- And closing everything is no way out: a legal 01 to 04 that is not refused, with joining on, reports a join of the id exactly if it hits nothing (#107) and that is the smallest under
  -- which a live entry asks the same, has room for one more party and a deadline later than now, and nothing that spoils it was issued since its issue.
  pub a_read_joins_exactly : (c t : ℕ) (f o : List ℕ) {saw : Seen} {d'' : Device} → Called d' (request c t f o) saw d'' → saw.report.refusal ≡ 0 → legal (in_force from) f ≡ true
      → ((get_or f 7 0 ≡ 1) ⊎ (get_or f 7 0 ≡ 2)) ⊎ ((get_or f 7 0 ≡ 3) ⊎ (get_or f 7 0 ≡ 4)) → (in_force from).join ≡ 1 → (id : ℕ)
      → ((saw.report.outcome ≡ is_joined) × (saw.report.id ≡ id))
      ↔ (NoHit (machine_in d') t f × Joinable (machine_in d').book (told_in (in_force from) ls) t f id × ((i : ℕ) → Joinable (machine_in d').book (told_in (in_force from) ls) t f i → id ≤ i))
  a_read_joins_exactly c t f o s z l reads on id =
      let x = request c t f o in
      let same : legal (settings (after_calls v xs)) f ≡ true = ap (λ (y : Value). legal y f) (claim.the_settings_in_force_stay v xs) ∙ l in
      rw (sees x s, lived.after, lived.told) (Iff.trans (join_exactly _ id) (claim.a_read_joins_exactly v xs c t f o (passes x s z) same reads on (record { 0 = id })))

  -- the machine's answer, where the report says a hit
  hit_says : (c t : ℕ) (f o : List ℕ) {saw : Seen} {d'' : Device} → Called d' (request c t f o) saw d'' → saw.report.outcome ≡ is_hit
      → (outcome (after_calls v xs) (request c t f o)).says ≡ hit_in saw.report
  hit_says c t f o s e = rw lived.after at ((report-tells (request c t f o) s).hit e)

  -- the cache that a call leaves on the device is the machine's
  cache_after_lem : (x : Line) {d'' : Device} → Called d' x.call x.saw d'' → cache_in d'' ≡ (outcome (after_calls v xs) x.call).after.cache
  unfolding machine_in
  cache_after_lem x s = ap (λ (y : Machine). y.cache) (rw lived.after at (left x.call s))

  -- Request #107: a hit is not accepted. It tells the host's ledger that time has passed and nothing else, as an exception does, so that demand 3's sum is as before.
  pub a_hit_is_not_accepted : (c t : ℕ) (f o : List ℕ) {saw : Seen} {d'' : Device} → Called d' (request c t f o) saw d'' → saw.report.outcome ≡ is_hit
      → told_in (in_force from) (ls ++ record { call = request c t f o; saw = saw } ∷ []) ≡ told_in (in_force from) ls ++ passed t ∷ []
  a_hit_is_not_accepted c t f o {saw} s e =
      let x : Line = record { call = request c t f o; saw = saw } in
      (a_device_lives_as_the_machine from (ls ++ x ∷ []) fresh (lived_on life (then s none))).told ∙ ap (told_by v) (map-append (λ (y : Line). y.call) ls (x ∷ []))
      ∙ claim.a_hit_is_not_accepted v xs c t f o _ _ _ (hit_says c t f o s e) ∙ ap (λ (vs : List (Event What)). vs ++ passed t ∷ []) (sym lived.told)

  -- Request #107: a hit shows the last reply that filled its place, younger than its life. For each hit there is a line of this life, a reply that filled for what the request asks: it was not
  -- refused, was no exception, and by the lines before it its id was outstanding and had asked the same unit, function, start and quantity, which was cacheable and not closed (`FillsIn`).
  -- Since then no other reply filled for that read (`LatestIn`), no reply took its place, nothing that spoils the read was issued and no link was lost; and less has gone by than its life,
  -- the smallest ttl of the tags in the range (`LastReplyIn`). The hit shows the bytes that were written at that line behind the caller's own id, with its length and its counts: all ten
  -- numbers of the report and every byte of the buffer (`ShowsIn`).
  pub a_hit_shows_the_last_reply : (c t : ℕ) (f o : List ℕ) {saw : Seen} {d'' : Device} → Called d' (request c t f o) saw d'' → saw.report.outcome ≡ is_hit
      → (q : LastReplyIn (in_force from) d ls t (asking f)) × LatestIn (in_force from) d ls t (asking f) q × ShowsIn f o saw q.line.saw
  a_hit_shows_the_last_reply c t f o s e =
      let says = hit_says c t f o s e in
      let a = claim.a_hit_shows_the_last_reply v xs c t f o _ _ _ says in
      let q = last_line from ls fresh life t (asking f) a.0 a.1 in
      (q.0, q.1, shows_seen f o _ _ (sees (request c t f o) s) q.2 (claim.a_hit_is_this v xs c t f o _ _ _ says).listed a.2)

  -- The same in bytes: a hit after a write is not stale. A line of this life is a request g that was reported issued, and a later request f is reported a hit, which g meets, as above. Then the
  -- reply that the hit shows is one of the lines behind g's, and the id that it answered was issued after g: of what the lines between the two tell, the last that begins or ends a life of
  -- that id is its issue, which asks what f asks.
  pub a_hit_after_a_write_is_not_stale_in_bytes : (ks : List Line) (x : Line) (ys : List Line) → ls ≡ ks ++ x ∷ ys → (c t : ℕ) (g o : List ℕ) → x.call ≡ request c t g o
      → x.saw.report.outcome ≡ 2
      → (c' t' : ℕ) (f o' : List ℕ) {saw : Seen} {d'' : Device} → Called d' (request c' t' f o') saw d'' → saw.report.outcome ≡ 10 → get_or g 6 0 ≡ get_or f 6 0 → Meets g f
      → (q : LastReplyIn (in_force from) d ls t' (asking f)) × (mid : List Line) × (ys ≡ mid ++ q.line ∷ q.later) × ShowsIn f o' saw q.line.saw
      × ((u : ℕ) × (p : Party) × (last_of (touches (number_at q.fills.frame 0)) (told_in (in_force from) mid) ≡ some (issued (number_at q.fills.frame 0) (asking f) u p)))
  a_hit_after_a_write_is_not_stale_in_bytes ks x ys e c t g o call issue c' t' f o' s hit unit met =
      let i = each_line ks x ys (subst (λ (l : List Line). Lived d l d') e life) in
      let m = after_calls v (calls_of ks) in
      let says = (a_report_tells_the_answer from ls fresh life ks x ys e).issued issue in
      let report = ap (λ (y : Seen). y.report) (lived.saw ks x ys e) in
      let y = a_hit_shows_the_last_reply c' t' f o' s hit in
      let q = y.0 in
      let spoiled : spoils (asking g) (asking f) ≡ true =
      (spoils_in_bytes _ _ g f (claim.an_issue_is_this v (calls_of ks) c t g o _ _ _ _ (rw call at says)).is_legal (claim.a_hit_is_this v xs c' t' f o' _ _ _ (hit_says c' t' f o' s hit)).is_legal).1 (unit, met) in
      ⊎_elim
      (λ (k : (mid : List Line) × (q.before ≡ ks ++ x ∷ mid) × (ys ≡ mid ++ q.line ∷ q.later)). (
        q,
        k.0,
        k.2,
        y.2,
        since (told_in v ks ++ passed t ∷ []) (told_in v k.0) _ (asking g) (t + v.timeout) (asker c g) (number_at q.fills.frame 0) (asking f) q.fills.deadline spoiled
            (rw (k.1, issue_among v ks x k.0 c t g o (outcome m x.call).says _ _ _ _ call report says) at q.fills.unclosed),
      ))
      (⊎_elim
      (λ (k : (ks ≡ q.before) × (x ≡ q.line)). let same = sym call ∙ ap (λ (z : Line). z.call) k.1 ∙ q.fills.is in never (cc))
      (λ (k : (mid : List Line) × (ks ≡ q.before ++ q.line ∷ mid) × (q.later ≡ mid ++ x ∷ ys)).
      absurd (true≢false (sym spoiled ∙ (q.spared k.0 x ys k.2 i.0 (subst (λ (l : List Line). Lived d l i.0) k.1 i.2)).issues c t g o call issue))))
      (splits ks x ys q.before q.line q.later (sym e ∙ q.split))

  -- And never caching is no way out: after a line that is a reply that fills, and any later lines of which none issues what spoils it, loses the link or takes its place, every equal
  -- request that is not refused and comes within its life is a hit that shows that reply.
  pub a_reply_that_filled_is_shown : (c t : ℕ) (f o : List ℕ) {saw : Seen} {d'' : Device} → Called d' (request c t f o) saw d'' → saw.report.refusal ≡ 0
      → (q : LastReplyIn (in_force from) d ls t (asking f)) → ShowsIn f o saw q.line.saw
  a_reply_that_filled_is_shown c t f o s z q =
      let x = request c t f o in
      let k = last_call from ls fresh life t (asking f) q in
      let a = claim.a_reply_that_filled_is_shown v xs c t f o k.0 (passes x s z) in
      shows_seen f o _ _ (sees x s) k.1 (claim.a_hit_is_this v xs c t f o _ _ _ a.says).listed a

  -- A reply that fills takes one of the 64 places of the device, and one only: its own key's, else the lowest that is empty or expired, else the oldest, ties to the lowest (`Takes`). It stands there
  -- afterwards with its own time and the life of its read, and every other place is as it was (`Put`).
  pub a_filling_reply_takes_one_place : (x : Line) {d'' : Device} → Called d' x.call x.saw d'' → (w : What) (f : FillsIn (in_force from) ls x w)
      → (p : ℕ) × (p < 64) × Takes f.time w (cache_in d') p × ((q : ℕ) → q < 64 → Takes f.time w (cache_in d') q → q ≡ p)
      × Put (in_force from).tags f.start f.quantity f.time w p (cache_in d') (cache_in d'')
  unfolding fills-call
  a_filling_reply_takes_one_place x s w f =
      let k = claim.a_filling_reply_takes_one_place v xs x.call w (fills-call v ls x lived.told (sees x.call s) w f) in
      let same = cache_is from ls fresh life ls d' life in
      let force = ap (λ (y : Value). y.tags) (claim.the_settings_in_force_stay v xs) in
      let put = subst (λ (ts : List Tag). Put ts f.start f.quantity f.time w k.0 (after_calls v xs).cache (outcome (after_calls v xs) x.call).after.cache) force k.4 in
      rw (same, cache_after_lem x s) (k.0, k.1, k.2, k.3, put)

  -- One key stands in at most one place of the device.
  pub one_key_one_place : (j k : ℕ) (h e : Cached) → in_cache (cache_in d') j ≡ some h → in_cache (cache_in d') k ≡ some e → h.what ≡ e.what → j ≡ k
  one_key_one_place j k h e a b =
      let same = cache_is from ls fresh life ls d' life in
      claim.one_key_one_place v xs j k h e (rw same at a) (rw same at b)

  -- And nothing but a reply that fills puts anything in: what stands in a place after a call stood there before, or the call is a reply that filled for it and took that place.
  pub nothing_else_puts_anything_in : (x : Line) {d'' : Device} → Called d' x.call x.saw d'' → (k : ℕ) (e : Cached) → in_cache (cache_in d'') k ≡ some e
      → (in_cache (cache_in d') k ≡ some e)
      ⊎ ((f : FillsIn (in_force from) ls x e.what) × Takes f.time e.what (cache_in d') k × KeptFor (in_force from).tags f.start f.quantity f.time e)
  unfolding fills-line
  nothing_else_puts_anything_in x s k e h =
      let same = cache_is from ls fresh life ls d' life in
      let force = ap (λ (y : Value). y.tags) (claim.the_settings_in_force_stay v xs) in
      rw same
      (⊎_elim inl (λ y. inr (fills-line v ls x lived.told (sees x.call s) e.what y.0, y.1, rw force at y.2))
      (claim.nothing_else_puts_anything_in v xs x.call k e (rw (cache_after_lem x s) at h)))

  -- A place whose reply is another after a call was taken by that call, a reply that fills; and if what stood there was fresh, only by a reply with its own key, or by one whose key stood nowhere while
  -- all 64 were fresh; then it was the one filled earliest, ties to the lowest.
  pub when_a_fresh_place_is_taken : (x : Line) {d'' : Device} → Called d' x.call x.saw d'' → (p : ℕ) (h e : Cached) → in_cache (cache_in d') p ≡ some h → in_cache (cache_in d'') p ≡ some e → (e ≡ h → ⊥)
      → (f : FillsIn (in_force from) ls x e.what)
      × (f.time - h.filled < h.life
      → (h.what ≡ e.what)
      ⊎ (((k : ℕ) → k < 64 → Keyed e.what (in_cache (cache_in d') k) → ⊥) × ((k : ℕ) → k < 64 → Fresh f.time (in_cache (cache_in d') k))
      × ((k : ℕ) (y : Cached) → k < 64 → in_cache (cache_in d') k ≡ some y → (h.filled ≤ y.filled) × (k < p → h.filled < y.filled))))
  unfolding fills-line
  when_a_fresh_place_is_taken x s p h e was is other =
      let same = cache_is from ls fresh life ls d' life in
      let w = claim.when_a_fresh_place_is_taken v xs x.call p h e (rw same at was) (rw (cache_after_lem x s) at is) other in
      rw same (fills-line v ls x lived.told (sees x.call s) e.what w.0, w.1)

  -- Whoever hits gets, of as many bytes as the report says, a frame that is not refused, carries its own id, comes from the unit and is of the function that it asked, and answers it.
  pub a_hits_frame : (c t : ℕ) (f o : List ℕ) {saw : Seen} {d'' : Device} → Called d' (request c t f o) saw d'' → saw.report.outcome ≡ is_hit
      → PartysFrame (asking f) (asker c f) (take saw.report.length saw.frame)
  a_hits_frame c t f o s e = rw (sees (request c t f o) s) (claim.a_hits_frame v xs c t f o _ _ _ (hit_says c t f o s e))

  -- And it counts no tag that is raw for partial cover: each register lies in a tag wholly inside the range, and tags do not overlap.
  pub a_hit_cuts_no_tag : (c t : ℕ) (f o : List ℕ) {saw : Seen} {d'' : Device} → Called d' (request c t f o) saw d'' → saw.report.outcome ≡ is_hit → saw.report.partial ≡ 0
  a_hit_cuts_no_tag c t f o s e = claim.a_hit_cuts_no_tag v xs (adopted-valid (value_of from)) c t f o _ _ _ (hit_says c t f o s e)

  -- Request #109: "neither joins". What is reported joined is one of 01 to 04, and what is reported a hit 03 or 04: no 22 and no 23 ever is.
  pub only_reads_join_or_hit : (c t : ℕ) (f o : List ℕ) {saw : Seen} {d'' : Device} → Called d' (request c t f o) saw d''
      → (saw.report.outcome ≡ is_joined → ((get_or f 7 0 ≡ 1) ⊎ (get_or f 7 0 ≡ 2)) ⊎ ((get_or f 7 0 ≡ 3) ⊎ (get_or f 7 0 ≡ 4)))
      × (saw.report.outcome ≡ is_hit → (get_or f 7 0 ≡ 3) ⊎ (get_or f 7 0 ≡ 4))
  only_reads_join_or_hit c t f o s =
      let x = request c t f o in
      let only = claim.only_reads_join_or_hit v xs c t f o in
      (λ e. only.0 _ (rw lived.after at ((report-tells x s).joined e)), λ e. only.1 _ _ _ (hit_says c t f o s e))

  -- What a 23 that is issued writes, in bytes: the registers from byte 17 on, as many as the number at byte 14 says, are those of the addresses from the number at byte 12 on, each turned to BCD by its tag in
  -- force or as it came; and both counts are of that range.
  pub what_a_23_writes : (c t : ℕ) (f o : List ℕ) {saw : Seen} {d'' : Device} → Called d' (request c t f o) saw d'' → saw.report.outcome ≡ is_issued → get_or f 7 0 ≡ 23
      → Rewrites ToBcd (in_force from).tags f saw.frame saw.report.partial saw.report.value 17 (number_at f 12) (number_at f 14)
  what_a_23_writes c t f o s e named =
      let x = request c t f o in
      rw (ap (λ (y : Seen). y.frame) (sees x s)) (claim.what_a_23_writes v xs c t f o _ _ _ _ (rw lived.after at ((report-tells x s).issued e)) named)

  -- What the reply to a 23 brings: while what a 23 asked is outstanding under a reply's id, the registers from byte 9 on, as many as the number at byte 10 of the 23 says, are those of the addresses from the number
  -- at byte 8 on, turned to binary by their tags in force; and both counts are of that range.
  pub what_a_23_reads : (g : List ℕ) → get_or g 7 0 ≡ 23 → (t : ℕ) (f o l : List ℕ) {saw : Seen} {d'' : Device} → Called d' (reply t f o l) saw d'' → saw.report.refusal ≡ 0
      → (client due : ℕ) → Outstanding (told_in (in_force from) ls) saw.report.id (asking g) client due → excepts 23 f ≡ false
      → Rewrites ToBinary (in_force from).tags f saw.frame saw.report.partial saw.report.value 9 (number_at g 8) (number_at g 10)
  unfolding numbers
  what_a_23_reads g named t f o l s z client due out plain =
      let h = passes (reply t f o l) s z in
      let shown = sees (reply t f o l) s in
      let same = answers_what v xs t f o l h (asking g) client due (rw (lived.told, shown) at out) in
      let a = (claim.a_reply_goes_to_its_own v xs t f o l h).0 in
      let tags = ap (λ (y : Value). y.tags) (claim.the_settings_in_force_stay v xs) in
      let told = ap (λ (y : Seen). y.report) shown ∙ ap numbers a.says in
      let by : (q : Rewritten → ℕ) → q (returned (settings (after_calls v xs)).tags a.entry.what f) ≡ q (returned v.tags (asking g) f) =
      λ q. ap (λ (ts : List Tag). q (returned ts a.entry.what f)) tags ∙ ap (λ (w : What). q (returned v.tags w f)) same in
      shown_as (ap (λ (y : Seen). y.frame) shown) (ap (λ (y : Report). y.partial) told ∙ by (λ y. y.partial)) (ap (λ (y : Report). y.value) told ∙ by (λ y. y.value))
      (claim.what_a_23_reads v xs t f o l a g same named plain)

  -- Request #108: "If a write covers a strict tag partly, or its value is outside the range, the client gets exception 03 and nothing is issued." A write 06, 16 or 23 that is not refused and whose
  -- bytes give neither exception 03 nor 02 reports exception 03 exactly if some strict tag has a register in the write and another outside it, or lies in it with a value outside its range, in
  -- plain numbers (`Violates`). All ten numbers, the buffer, and that nothing is issued, closed or dropped then: `an_exception_is_this`. What is lent is bytes, which a line does not say.
  pub a_strict_tag_forbids_exactly : (c t : ℕ) (f o : List ℕ) → ((k : ℕ) → get_or f k 0 < 256) → {saw : Seen} {d'' : Device} → Called d' (request c t f o) saw d'' → saw.report.refusal ≡ 0
      → checked_of f ≡ Ok (asked_of f) → (base start quantity : ℕ) → Carries (asking f).asked base start quantity
      → ((saw.report.outcome ≡ is_exception) × (saw.report.code ≡ 3)) ↔ Violates (in_force from).tags f base start quantity
  a_strict_tag_forbids_exactly c t f o bytes s z fine base start quantity carries =
      let x = request c t f o in
      let h = passes x s z in
      rw (sees x s) (Iff.trans (exception_exactly _ 3) (claim.a_strict_tag_forbids_exactly v xs c t f o h bytes fine base start quantity carries))

  -- "The check follows exception 02 in 01's order": a request that is not refused reports exception 03 exactly if its bytes give that, or they give neither 03 nor 02 and it is a write of
  -- registers that a strict tag forbids, or a 22 (#109) whose register a tag has. No read, no write of coils and no other function is forbidden, and bytes that give 02 do not get 03.
  pub only_a_tag_forbids : (c t : ℕ) (f o : List ℕ) → ((k : ℕ) → get_or f k 0 < 256) → {saw : Seen} {d'' : Device} → Called d' (request c t f o) saw d'' → saw.report.refusal ≡ 0
      → ((saw.report.outcome ≡ is_exception) × (saw.report.code ≡ 3))
      ↔ ((checked_of f ≡ Err (check.Excepted 3))
      ⊎ ((checked_of f ≡ Ok (asked_of f))
      × (((base : ℕ) × (start : ℕ) × (quantity : ℕ) × Carries (asking f).asked base start quantity × Violates (in_force from).tags f base start quantity)
      ⊎ ((get_or f 7 0 ≡ 22) × ((tag : Tag) × Memᴰ tag (in_force from).tags × Has tag (number_at f 8))))))
  only_a_tag_forbids c t f o bytes s z =
      let x = request c t f o in
      let h = passes x s z in
      rw (sees x s) (Iff.trans (exception_exactly _ 3) (claim.only_a_tag_forbids v xs c t f o h bytes))

  -- Request #109: "On any tagged register it gets exception 03, because masks have no sense on digits." A 22 that is not refused reports exception 03 exactly if a tag in force has the register that
  -- bytes 8 and 9 name, whatever the tag's kind, strict or not; and it never reports 02.
  pub a_mask_on_a_tag_gets_03_exactly : (c t : ℕ) (f o : List ℕ) {saw : Seen} {d'' : Device} → Called d' (request c t f o) saw d'' → saw.report.refusal ≡ 0 → get_or f 7 0 ≡ 22
      → (((saw.report.outcome ≡ is_exception) × (saw.report.code ≡ 3)) ↔ ((tag : Tag) × Memᴰ tag (in_force from).tags × Has tag (number_at f 8)))
      × ((saw.report.outcome ≡ is_exception) × (saw.report.code ≡ 2) → ⊥)
  a_mask_on_a_tag_gets_03_exactly c t f o s z seven =
      let x = request c t f o in
      let h = passes x s z in
      let says = claim.a_mask_on_a_tag_gets_03_exactly v xs c t f o h seven in
      rw (sees x s) (Iff.trans (exception_exactly _ 3) says.0, λ e. says.1 ((exception_exactly _ 2).0 e))

  -- "#108's claim extends to them": no 22 goes out to a register that a tag in force has, function and address as the buffer has them after the call. That of 23 is what-goes-out-at-a-strict-tag.
  pub no_mask_goes_out_to_a_tag : (c t : ℕ) (f o : List ℕ) {saw : Seen} {d'' : Device} → Called d' (request c t f o) saw d'' → saw.report.outcome ≡ is_issued
      → get_or saw.frame 7 0 ≡ 22 → (tag : Tag) → Memᴰ tag (in_force from).tags → Has tag (number_at saw.frame 8) → ⊥
  no_mask_goes_out_to_a_tag c t f o s e seven tag listed has =
      let x = request c t f o in
      claim.no_mask_goes_out_to_a_tag v xs c t f o _ _ _ _ (rw lived.after at ((report-tells x s).issued e)) (rw (sees x s) at seven) tag listed (rw (sees x s) at has)

  -- "No frame to the device ever holds, at a strict tag, a word its kind does not allow, for the register writes 06 and 16", and 23 (#109). In the buffer after a write that is issued, a strict tag of which
  -- any register is written lies wholly in the write and has there digits that its kind allows, and these decode to the number that the client wrote there (`HasDigits`): function, addresses
  -- and quantity as the written frame has them.
  pub what_goes_out_at_a_strict_tag : (c t : ℕ) (f o : List ℕ) → ((k : ℕ) → get_or f k 0 < 256) → {saw : Seen} {d'' : Device} → Called d' (request c t f o) saw d'' → saw.report.outcome ≡ is_issued
      → (base start quantity : ℕ) → Carries (asking saw.frame).asked base start quantity
      → (tag : Tag) → Memᴰ tag (in_force from).tags → tag.strict ≡ 1 → (y : ℕ) → Has tag y → InRun start quantity y → HasDigits tag f saw.frame base start quantity
  what_goes_out_at_a_strict_tag c t f o bytes s e base start quantity carries tag listed strict y has in_run =
      let x = request c t f o in
      rw (sees x s)
      (claim.what_goes_out_at_a_strict_tag v xs (adopted-valid (value_of from)) c t f o _ _ _ _ (rw lived.after at ((report-tells x s).issued e)) bytes base start quantity (rw (sees x s) at carries) tag listed strict y has in_run)

  -- "Lenient tags keep today's counts." Where no tag in force is strict, a request that is not refused shows and leaves what it did before, and which request is legal is as it was: its bytes
  -- alone decide, but of a 22 (#109) whose register a tag has. Where some are, the counts of what is issued are still those of `Rewrites`, which does not ask whether a tag is strict (`an_issue_is_this`).
  pub without_a_strict_tag_as_before : ((tag : Tag) → Memᴰ tag (in_force from).tags → tag.strict ≡ 1 → ⊥)
      → (c t : ℕ) (f o : List ℕ) → (get_or f 7 0 ≡ 22 → (tag : Tag) → Memᴰ tag (in_force from).tags → Has tag (number_at f 8) → ⊥)
      → {saw : Seen} {d'' : Device} → Called d' (request c t f o) saw d'' → saw.report.refusal ≡ 0
      → (saw ≡ seen_of (cond (eqb (fault_of f) 0) (served (clocked (machine_in d') t) c f o) (excepted (clocked (machine_in d') t) (fault_of f) f o)))
      × (machine_in d'' ≡ (cond (eqb (fault_of f) 0) (served (clocked (machine_in d') t) c f o) (excepted (clocked (machine_in d') t) (fault_of f) f o)).after)
      × (legal (in_force from) f ≡ (not (misframed f) && (not (bad_function (function_of f)) && (not (bad_length (class_of (function_of f)) f) && eqb (fault_of f) 0))))
  unfolding granted
  without_a_strict_tag_as_before lenient c t f o clear s z =
      let x = request c t f o in
      let w = claim.without_a_strict_tag_as_before v xs lenient c t f o clear in
      let comes = granted_is (after_calls v xs) x (passes x s z) ∙ w.0 in
      rw lived.after (sees x s ∙ ap seen_of comes, rw lived.after at (left x s) ∙ ap (λ (y : Outcome). y.after) comes, w.1)

  -- Tender 3: live proxy ids differ, place by place of the device.
  pub live_ids_differ : (i j : ℕ) → (get_or d'.table.ids i 0 ≡ 0 → ⊥) → get_or d'.table.ids i 0 ≡ get_or d'.table.ids j 0 → i ≡ j
  live_ids_differ i j n e =
      let live = place_live d' lived.next in
      claim.live_ids_differ v xs i j _ _ (rw lived.after at (live i n)) (rw lived.after at (live j (rw e at n))) (ap (λ (k : ℕ). k - 1) e)

  -- Tender 3, with #104's number: an id is not issued again until at least 65,280 others were,
  pub an_id_comes_round_late : Apart distance (ledger_in (in_force from) ls).issues
  an_id_comes_round_late = rw lived.told (claim.an_id_comes_round_late v xs)

  -- and those others are of different ids
  pub the_others_differ : Differing distance (ledger_in (in_force from) ls).issues
  the_others_differ = rw lived.told (claim.the_others_differ v xs)

  -- Document 01: link lost returns the former set, client by client those that were attached, and nobody is attached after it.
  pub link_lost_says_who_was_attached : {saw : Seen} {d'' : Device} → Called d' link_lost saw d'' → (saw.report ≡ ten 0 0 1 0 0 0 0 saw.report.set 0 0)
      × ((c : ℕ) → (has saw.report.set c ≡ true) ↔ (last_of (concerns c) (granted_in ls) ≡ some (attach c))) × ((c : ℕ) → has d''.attached c ≡ false)
  unfolding numbers machine_in
  link_lost_says_who_was_attached {saw} s =
      let w = claim.link_lost_says_who_was_attached v xs in
      let told : saw.report ≡ ten 0 0 1 0 0 0 0 w.0 0 0 = ap (λ (y : Seen). y.report) (sees link_lost s) ∙ ap numbers w.1 in
      let set = ap (λ (y : Report). y.set) told in (
        told ∙ ap (λ (n : ℕ). ten 0 0 1 0 0 0 0 n 0 0) (sym set),
        λ c. rw (set, lived.granted) (w.2 c),
        λ c. ap (λ (m : Machine). has m.attached c) (rw lived.after at (left link_lost s)) ∙ w.3 c,
      )

  -- Attach and detach that are not refused report done and nothing else.
  pub attach_says_done : (c : ℕ) {saw : Seen} {d'' : Device} → Called d' (attach c) saw d'' → saw.report.refusal ≡ 0 → saw.report ≡ ten 0 0 1 0 0 0 0 0 0 0
  unfolding numbers
  attach_says_done c s z = let x = attach c in let h = passes x s z in rw (sees x s, claim.attach_says_done v xs c h)

  pub detach_says_done : (c : ℕ) {saw : Seen} {d'' : Device} → Called d' (detach c) saw d'' → saw.report.refusal ≡ 0 → saw.report ≡ ten 0 0 1 0 0 0 0 0 0 0
  unfolding numbers
  detach_says_done c s z = let x = detach c in let h = passes x s z in rw (sees x s, claim.detach_says_done v xs c h)

module _ (from : Settings) {r r' : Report} {d d' e e' : Device} (ls ks : List Line) (fresh : Freshly from r d) (life : Lived d ls d') (fresh' : Freshly from r' e) (life' : Lived e ks e') where
  -- Tender 2: a value in a tag's range, written over the whole tag in one request, stored as sent and read back whole in one, comes back equal. Over two lives of devices that were
  -- made from one settings value, or two places of one life: the registers of the tag in the frame that was issued, carried by the reply to a read that covers the tag and is
  -- outstanding under the reply's id, reach the reader as the registers that the writer sent. Written by 06, 16 or 23, read by 03, 04 or 23; one tag among any others. What is lent is bytes, which a line does not say.
  pub a_value_comes_back : (tag : Tag) → Memᴰ tag (in_force from).tags
      → (c t : ℕ) (f o : List ℕ) → ((k : ℕ) → get_or f k 0 < 256) → {saw : Seen} {d'' : Device} → Called d' (request c t f o) saw d'' → saw.report.outcome ≡ is_issued
      → (base s q : ℕ) → Carries (asking f).asked base s q → Whole s q tag → in_range (kind_of tag) (number_of (own_in s (registers_at base q f) tag)) ≡ true
      → (t' : ℕ) (g o' l : List ℕ) → ((k : ℕ) → get_or g k 0 < 256) → {saw' : Seen} {e'' : Device} → Called e' (reply t' g o' l) saw' e'' → saw'.report.refusal ≡ 0
      → (w : What) (client due : ℕ) → Outstanding (told_in (in_force from) ks) saw'.report.id w client due → excepts w.function g ≡ false
      → (s' q' : ℕ) → Brings w.asked s' q' → Whole s' q' tag
      → own_in s' (registers_at 9 q' g) tag ≡ own_in s (registers_at base q saw.frame) tag
      → own_in s' (registers_at 9 q' saw'.frame) tag ≡ own_in s (registers_at base q f) tag
  a_value_comes_back tag mem c t f o bytes called issue base s q carries whole range t' g o' l bytes' called' z w client due out plain s' q' reads whole' stored =
      let ys = calls_of ks in
      let h = passes from ks fresh' life' (reply t' g o' l) called' z in
      let shown = sees from ks fresh' life' (reply t' g o' l) called' in
      let same = answers_what (in_force from) ys t' g o' l h w client due (rw ((lived from ks fresh' life').told, shown) at out) in
      rw shown
      (claim.a_value_comes_back (in_force from) (adopted-valid (value_of from)) tag mem (calls_of ls) c t f o bytes _ _ _ _ (rw (lived from ls fresh life).after at ((report-tells (request c t f o) called).issued issue))
      base s q carries whole range ys t' g o' l bytes' (claim.a_reply_goes_to_its_own (in_force from) ys t' g o' l h).0 (rw same plain) s' q' (rw same reads) whole'
      (rw (sees from ls fresh life (request c t f o) called) at stored))

  -- Demand 2's addition (#106), of such lives: a controller that echoes the frame of a 06 gives the client back the very frame that it wrote. While what the request asked is
  -- outstanding under its id, the reply that is the frame which was sent is handed on as the client's own frame, once its id is laid over it, and both counts are 0.
  pub an_echo_comes_back : (c t : ℕ) (f o : List ℕ) → ((k : ℕ) → get_or f k 0 < 256) → get_or f 7 0 ≡ 6 → {saw : Seen} {d'' : Device} → Called d' (request c t f o) saw d'' → saw.report.outcome ≡ is_issued
      → (t' : ℕ) (o' l : List ℕ) {saw' : Seen} {e'' : Device} → Called e' (reply t' (take saw.report.length saw.frame) o' l) saw' e'' → saw'.report.refusal ≡ 0
      → (client due : ℕ) → Outstanding (told_in (in_force from) ks) saw.report.id (asking f) client due
      → (saw'.report.partial ≡ 0) × (saw'.report.value ≡ 0) × (laid (id_of f) (take saw'.report.length saw'.frame) ≡ f)
  unfolding numbers
  an_echo_comes_back c t f o bytes six {saw} called issue t' o' l called' z client due out =
      let g = take saw.report.length saw.frame in
      let x = reply t' g o' l in
      let frame = ap (λ (y : Seen). y.frame) (sees from ls fresh life (request c t f o) called) in
      let shown = sees from ks fresh' life' x called' ∙ ap (λ (y : List ℕ). seen_of (outcome (after_calls (in_force from) (calls_of ks)) (reply t' (take saw.report.length y) o' l))) frame in
      let r = claim.an_echo_comes_back (in_force from) (adopted-valid (value_of from)) (calls_of ls) c t f o bytes six _ _ _ _ (rw (lived from ls fresh life).after at ((report-tells (request c t f o) called).issued issue))
      (calls_of ks) t' o' l (rw (← frame) (passes from ks fresh' life' x called' z)) client due (rw (lived from ks fresh' life').told at out) in
      let told : (q : Report → ℕ) → _ = λ q. ap (λ (y : Seen). q y.report) shown ∙ ap (λ (y : Answer). q (numbers y)) r.1 in (
        told (λ y. y.partial),
        told (λ y. y.value),
        rw (told (λ y. y.length), ap (λ (y : Seen). y.frame) shown) r.2,
      )

  -- Request #109, of such lives: "reply an exact echo". While what a 22 that was issued asked is outstanding under a reply's id, a reply that is no exception is handed on as the client's own frame,
  -- once its id is laid over it; all ten numbers of the report are said, and both counts are 0.
  pub a_masks_reply_is_its_request : (c t : ℕ) (g o : List ℕ) → ((k : ℕ) → get_or g k 0 < 256) → get_or g 7 0 ≡ 22 → {saw : Seen} {d'' : Device} → Called d' (request c t g o) saw d'' → saw.report.outcome ≡ is_issued
      → (t' : ℕ) (f o' l : List ℕ) → ((k : ℕ) → get_or f k 0 < 256) → {saw' : Seen} {e'' : Device} → Called e' (reply t' f o' l) saw' e'' → saw'.report.refusal ≡ 0
      → (client due : ℕ) → Outstanding (told_in (in_force from) ks) saw'.report.id (asking g) client due → excepts 22 f ≡ false
      → (saw'.report ≡ ten 0 0 5 (length g) (length (waiting_under (told_in (in_force from) ks) saw'.report.id)) 0 0 0 (get_or f 0 0 * 256 + get_or f 1 0) 0) × (laid (id_of g) (take saw'.report.length saw'.frame) ≡ g)
  unfolding numbers
  a_masks_reply_is_its_request c t g o bytes seven called issue t' f o' l bytes' called' z client due out plain =
      let ys = calls_of ks in
      let h = passes from ks fresh' life' (reply t' f o' l) called' z in
      let shown = sees from ks fresh' life' (reply t' f o' l) called' in
      let same = answers_what (in_force from) ys t' f o' l h (asking g) client due (rw ((lived from ks fresh' life').told, shown) at out) in
      let r = claim.a_masks_reply_is_its_request (in_force from) (calls_of ls) c t g o bytes seven _ _ _ _ (rw (lived from ls fresh life).after at ((report-tells (request c t g o) called).issued issue))
      ys t' f o' l bytes' h (claim.a_reply_goes_to_its_own (in_force from) ys t' f o' l h).0 same plain in
      let told = ap (λ (y : Seen). y.report) shown ∙ ap numbers r.0 in
      let reply-told = (a_reply_goes_to_its_own from ks fresh' life' t' f o' l called' z).report in
      let parties = sym (ap (λ (y : Report). y.parties) told) ∙ ap (λ (y : Report). y.parties) reply-told in
      let named = sym (ap (λ (y : Report). y.id) told) ∙ ap (λ (y : Report). y.id) reply-told in (
        ten-alike told parties named,
        rw (ap (λ (y : Report). y.length) told, ap (λ (y : Seen). y.frame) shown) r.1,
      )
