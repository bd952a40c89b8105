-- What the tender asks of any history, in one place: every list of calls on a fresh machine, refused calls included, whatever the settings value.
-- `after_calls v xs` is the machine after the calls xs, `ledger_of v xs` the ledger kept from the calls and what the host saw of them: the C answer's numbers, the bytes and the list.
-- `told_by v xs` is the lines of that ledger, `granted_calls v xs` those of the calls that were not refused; what `last_of` and `last_given` are is said in plain words in LastLaws of `laws`.
-- Assumes nothing.
use Prim.Native.Nat.{ℕ, suc, ◌+◌, ◌*◌, ◌-◌, ◌≤◌, ◌<◌}
use mathlib.Core.Path.{◌≡◌, refl, ap, sym, subst, subst₂, ◌∙◌}
use mathlib.Core.Logic.{⊎_elim, ◌⊎◌, ◌↔◌}
use mathlib.Core.Bool.{true, false, cond, not, ◌&&◌}
use mathlib.Core.Option
use mathlib.Core.Option.{some, some-injective}
use mathlib.Core.List.Memᴰ
use mathlib.Core.List.{List, [], ◌∷◌, ◌++◌, append_assoc, Memᴰ}
use native.Mathlib.Omega.{arith}
use lib.ListN.{length, get_or, take}
use lib.Dec.{eqb}
use borrow.Author.Tests.{eqb-true}
use Rattle.numbers.specs.Numbers.{places, ids, distance, latest_time}
use Rattle.laws.specs.Lists.{filter, last_given, last_of}
use Rattle.laws.specs.Bits.{has}
use Rattle.laws.specs.Bytes.{over}
use Rattle.laws.proofs.BitLaws.{has-none}
use Rattle.laws.proofs.FilterLaws.{filter_in}
use Rattle.laws.proofs.LastLaws.{last_of_exactly}
use Rattle.wire.specs.Frame.{id_of, function_of, misframed, laid}
use Rattle.bcd.specs.Bcd.{in_range}
use Rattle.bcd.specs.Words.{number_of}
use Rattle.settings.specs.Grammar.{Value, Tag, valid}
use Rattle.settings.specs.TagWords.{kind_of}
use Rattle.settings.proofs.TagLaws.{valid-ascends}
use Rattle.pdu.specs.Requests.{class_of, bad_function, bad_length, asked_of, fault_of, checked_of}
use Rattle.pdu.specs.Replies.{excepts}
use Rattle.pdu.specs.declared.What.{What}
use Rattle.pdu.specs.Spoiling.{spoils}
use Rattle.pdu.specs.declared.ProxyId.{ProxyId}
use Rattle.pdu.specs.declared.Asked.TheVariants.{ReadWrite}
use Rattle.rewrite.specs.Registers.{registers_at}
use Rattle.rewrite.specs.Rewriting.{own_in, Rewritten}
use Rattle.rewrite.specs.Plain.{Has, InRun, Whole, Brings, OfBits, Rewrites}
use Rattle.rewrite.specs.Plain.Brings.{read_of_both}
use Rattle.rewrite.specs.Frames.{returned}
use Rattle.rewrite.specs.declared.Way.TheVariants.{ToBcd, ToBinary}
use Rattle.rewrite.specs.Legal.{legal}
use Rattle.rewrite.specs.Strict.{Carries, Violates, HasDigits}
use Rattle.rewrite.specs.Strict.Carries.{single, both}
use Rattle.pdu.proofs.RequestLaws.{legal-room}
use Rattle.rewrite.proofs.FrameLaws.{returned_bits}
use Rattle.rewrite.proofs.LegalLaws.{legal_checked}
use Rattle.rewrite.proofs.StrictLaws.{strictless}
use Rattle.cache.specs.Cache.{Cached, in_cache}
use Rattle.cache.specs.Plain.{Keyed, Fresh, Takes}
use Rattle.cache.proofs.CacheLaws.{fresh_taken}
use Rattle.book.specs.Book.{Party, Live, Event, Good, at}
use Rattle.book.specs.Book.Event.{passed, issued, left, lost}
use Rattle.book.specs.Ledger.{Ticket, Apart, Differing, Anew, under, parties_of}
use Rattle.book.specs.Traced.{touches, issued_id, behind, Outstanding, Holds}
use Rattle.book.specs.Desk.{AllLive}
use Rattle.book.specs.Follower.{Accounted, history, lines_of}
use Rattle.book.proofs.History.{ids_come_round_late, after_on, after_one, history_on, history_one}
use Rattle.book.proofs.SpacedLaws.{apart_exactly}
use Rattle.book.proofs.TracedLaws.{traced}
use Rattle.book.proofs.LedgerLaws.{successor, successor_of_lost}
use Rattle.machine.specs.Machine.{Machine, Note, made, rules, settings, clocked}
use Rattle.machine.specs.Calls.{Call, Outcome, done, out_of, list_of, time_of}
use Rattle.machine.specs.Calls.Call.{attach, detach, request, reply, tick, link_lost}
use Rattle.machine.specs.Refusals.{rows, lowest, refusal}
use Rattle.machine.specs.Numbers.{numbers, Tells}
use Rattle.machine.specs.Requests.{wanted, party_of, excepted, served, admitted}
use Rattle.machine.specs.Outcomes.{granted, outcome}
use Rattle.machine.specs.Granted.{granted_calls, concerns}
use Rattle.machine.specs.Waiting.{next_deadline, Waits}
use Rattle.machine.specs.Spelled.{asker, asking, AskedBy}
use Rattle.machine.specs.Histories.{seen_of, events, told, after_calls, told_by, told_since, ledger_of, Origin}
use Rattle.machine.specs.Closed.{Unspoiled, Joinable, number_at, Meets}
use Rattle.machine.specs.Cached.{NoHit, Fills, KeptFor, Put, LastReply, Latest, Shows}
use Rattle.machine.specs.declared.Answer.{Answer}
use Rattle.machine.specs.declared.Answer.TheVariants as answer
use Rattle.machine.specs.RefusalTable.{table, Applies}
use Rattle.machine.specs.Requested.{NoneToJoin, Hits, Issues, Joins, Excepts, Accepts, Stands}
use Rattle.machine.specs.Answered.{Answers, Expires, showing, Lent, tick_at, ticks_at}
use Rattle.machine.specs.PartysFrames.{PartysFrame, EachItsFrame}
use Rattle.machine.proofs.RefusalLaws.{refused_exactly}
use Rattle.machine.proofs.OutcomeLaws.{says-refusal, refused_is, granted_is}
use Rattle.machine.proofs.NumberLaws.{numbers-tell}
use Rattle.machine.proofs.SpelledLaws.{asked_spelled, kept_as_asked, asking-says}
use Rattle.machine.proofs.RequestLaws.{code_of, no_other_exception, exception_04 as said_exactly}
use Rattle.machine.proofs.Follows.{same-entry}
use Rattle.machine.proofs.AskLaws.{bits_carry_none, request_comes_to, hit_is_said, issue_is, join_is, exception_is}
use Rattle.machine.proofs.StrictLaws.{forbids_exactly, only_forbids, mask_excepted_exactly, mask_never_02, sends_no_mask, sends_digits, legal_as_before, admitted_as_before}
use Rattle.machine.proofs.JoinLaws.{registers_read}
use Rattle.machine.proofs.PartyLaws.{accepted_stands}
use Rattle.machine.proofs.AnswerLaws.{reply_framed, reply_answers, tick_expires, idle_is, idle_when}
use Rattle.machine.proofs.ReadBack.{comes_back}
use Rattle.machine.proofs.EchoBack.{echo_comes_back, mask_comes_back, own_frame, sent_id}
use Rattle.machine.proofs.TickLaws.{ticking_ends}
use Rattle.machine.proofs.WaitingLaws.{waits, outstanding_due, none-waits, next_tick}
use Rattle.machine.proofs.FrameOfParty.{reply_frame, hit_frame, always_known, timeout-frame}
use Rattle.machine.proofs.Histories.{product, in_force_lem, stocked, accounted}
use Rattle.machine.proofs.ClosedLaws.{open_exactly, since, not_stale, not_stale_in_bytes, joins_exactly}
use Rattle.machine.proofs.MeetsLaws.{spoils_in_bytes}
use Rattle.machine.proofs.Freshness.{hit_shows, then_hit, came-after, one_place, nothing_else, none_cut_cached}
use Rattle.machine.proofs.StateLaws.{attached_exactly, clock_exactly, issue_origin}
use Rattle.pdu.specs.declared.Fault.TheVariants as check
use Rattle.std.specs.Prelude.{Ok, Err}

-- Tender 3, the sum: accepted = answered by a reply + answered by timeout + dropped by a leaving + dropped by a lost link + held in the party places; each accepted
-- request is in one group and there once; the held ones are, entry by entry and in order, the parties in the places; each answer's list is exactly those that it answers.
pub every_request_is_accounted_for : (v : Value) (xs : List Call) → Accounted rules (after_calls v xs).book (told_by v xs) (ledger_of v xs)
every_request_is_accounted_for v xs = accounted v xs

-- Tender 1 and 3, as a C host sees them: the report's numbers tell the answer, so that what is claimed of an answer is claimed of its report: a refusal's number, an issue's or
-- a join's id, an exception's code, whom a reply or a timeout answers, that nothing is due.
pub the_report_tells_the_answer : (a : Answer) → Tells (numbers a) a
the_report_tells_the_answer = numbers-tell

-- Tender 3, who asks what: the party and the request that are kept of client c's bytes f are that client, the id in bytes 0 and 1, the unit in byte 6, the function in byte 7,
-- and behind it the numbers at bytes 8, 10, 12 and 14 as that function has them.
pub who_asked_what : (c : ℕ) (f : List ℕ) → AskedBy c f (party_of c f) (wanted f)
who_asked_what = kept_as_asked

-- The distance of ids is the book's, of these numbers of ids and places.
pub the_distance : distance ≡ rules.ids - rules.places
the_distance = refl

-- Link lost is never refused.
pub never_refused : (m : Machine) → refusal m link_lost ≡ 0
unfolding rows lowest
never_refused m = refl

-- a hit tells its time
hit_tells : (v : Value) (m : Machine) (c t : ℕ) (f o : List ℕ) (n p w : ℕ) → (outcome m (request c t f o)).says ≡ answer.Hit n p w
    → events v (request c t f o) (seen_of (outcome m (request c t f o))) ≡ passed t ∷ []
unfolding events told numbers
hit_tells v m c t f o n p w e =
    let d = outcome m (request c t f o) in
    ap (λ (a : Answer). events v (request c t f o) (record { report = numbers a; frame = d.written; list = d.listed })) e

module _ (v : Value) (xs : List Call) where
  -- every book of a history is good
  good : Good rules (after_calls v xs).book
  good = (accounted v xs).good

  -- The settings in force are those that the machine was made with, whatever was called.
  pub the_settings_in_force_stay : settings (after_calls v xs) ≡ v
  the_settings_in_force_stay = in_force_lem v xs

  tags_stay : (settings (after_calls v xs)).tags ≡ v.tags
  tags_stay = ap (λ (y : Value). y.tags) the_settings_in_force_stay

  -- Tender 1: a call refuses by the numbers in document 01. It says the refusal n exactly if row n of the document's table applies to it and no lower row does; the
  -- table in plain words is `table` of specs/RefusalTable.antt.
  pub refuses_by_the_table : (x : Call) (n : ℕ) → (n ≡ 0 → ⊥)
      → ((outcome (after_calls v xs) x).says ≡ answer.Refused n) ↔ (Applies (table (after_calls v xs) x) n × ((k : ℕ) → k < n → Applies (table (after_calls v xs) x) k → ⊥))
  refuses_by_the_table = says-refusal (after_calls v xs) good

  -- Tender 1: a refusal changes no state and no lent byte.
  pub a_refusal_changes_nothing : (x : Call) (n : ℕ) → (n ≡ 0 → ⊥) → (outcome (after_calls v xs) x).says ≡ answer.Refused n
      → outcome (after_calls v xs) x ≡ done (answer.Refused n) (after_calls v xs) (out_of x) (list_of x)
  a_refusal_changes_nothing x n h s =
      let m = after_calls v xs in
      sym (refused_is m x n ((refused_exactly m good x n h).1 ((says-refusal m good x n h).0 s)) h)

  -- Tender 3: live proxy ids differ.
  pub live_ids_differ : (i j : ℕ) (d e : Live What Note) → at (after_calls v xs).book i ≡ some d → at (after_calls v xs).book j ≡ some e → d.id ≡ e.id → i ≡ j
  live_ids_differ = good.differ

  -- Tender 3, with #104's number: an id is not issued again until at least 65,280 others were.
  pub an_id_comes_round_late : Apart distance (ledger_of v xs).issues
  an_id_comes_round_late = ids_come_round_late (product v) xs

  -- and those others are of different ids
  pub the_others_differ : Differing distance (ledger_of v xs).issues
  the_others_differ = (apart_exactly distance (ledger_of v xs).issues).0 (ids_come_round_late (product v) xs)

  -- Tender 3: an accepted request stands in the party places afterwards, as the latest party of a live entry that asks what it asks.
  pub the_accepted_stand : (c t : ℕ) (f o : List ℕ) (id : ℕ)
      → Accepts (outcome (after_calls v xs) (request c t f o)).says id → Stands (outcome (after_calls v xs) (request c t f o)).after.book id (asking f) (asker c f)
  the_accepted_stand c t f o id = accepted_stands (after_calls v xs) c t f o good (stocked v xs) id

  -- Tender 2 and 3, with #107: a request that is not refused is a hit, is issued, joins, or gets an exception, and each of the four is told in plain numbers and bytes: what is said,
  -- every byte of the buffer, and the whole machine afterwards.
  pub a_request_comes_to_this : (c t : ℕ) (f o : List ℕ) → refusal (after_calls v xs) (request c t f o) ≡ 0
      → Hits (after_calls v xs) c t f o (outcome (after_calls v xs) (request c t f o))
      ⊎ (Issues (after_calls v xs) c t f o (outcome (after_calls v xs) (request c t f o))
      ⊎ (Joins (after_calls v xs) c t f o (outcome (after_calls v xs) (request c t f o)) ⊎ Excepts (after_calls v xs) t f o (outcome (after_calls v xs) (request c t f o))))
  a_request_comes_to_this c t f o = request_comes_to (after_calls v xs) c t f o good (stocked v xs)

  -- Which of the four it is, the answer says.
  pub a_hit_is_this : (c t : ℕ) (f o : List ℕ) (n p w : ℕ) → (outcome (after_calls v xs) (request c t f o)).says ≡ answer.Hit n p w
      → Hits (after_calls v xs) c t f o (outcome (after_calls v xs) (request c t f o))
  a_hit_is_this c t f o = hit_is_said (after_calls v xs) c t f o good (stocked v xs)

  -- Request #107: a hit is not accepted. It tells the ledger that time has passed and nothing else, as an exception does, so that demand 3's sum is as before.
  pub a_hit_is_not_accepted : (c t : ℕ) (f o : List ℕ) (n p w : ℕ) → (outcome (after_calls v xs) (request c t f o)).says ≡ answer.Hit n p w
      → told_by v (xs ++ request c t f o ∷ []) ≡ told_by v xs ++ passed t ∷ []
  a_hit_is_not_accepted c t f o n p w e = history_one (product v) (made v) xs (request c t f o) ∙ ap (λ vs. told_by v xs ++ vs) (hit_tells v (after_calls v xs) c t f o n p w e)

  pub an_issue_is_this : (c t : ℕ) (f o : List ℕ) (i : ProxyId) (n p w : ℕ) → (outcome (after_calls v xs) (request c t f o)).says ≡ answer.Issued i n p w
      → Issues (after_calls v xs) c t f o (outcome (after_calls v xs) (request c t f o))
  an_issue_is_this c t f o = issue_is (after_calls v xs) c t f o good (stocked v xs)

  pub a_join_is_this : (c t : ℕ) (f o : List ℕ) (i : ProxyId) → (outcome (after_calls v xs) (request c t f o)).says ≡ answer.Joined i
      → Joins (after_calls v xs) c t f o (outcome (after_calls v xs) (request c t f o))
  a_join_is_this c t f o = join_is (after_calls v xs) c t f o good (stocked v xs)

  pub an_exception_is_this : (c t : ℕ) (f o : List ℕ) (n : ℕ) → (outcome (after_calls v xs) (request c t f o)).says ≡ answer.Excepted n
      → Excepts (after_calls v xs) t f o (outcome (after_calls v xs) (request c t f o))
  an_exception_is_this c t f o = exception_is (after_calls v xs) c t f o good (stocked v xs)

  -- Tender 3, with #104's number and #107: the proxy itself gives exception 04 exactly when a legal request hits nothing, can join nothing and 256 are live.
  pub exception_04_exactly : (c t : ℕ) (f o : List ℕ)
      → ((outcome (after_calls v xs) (request c t f o)).says ≡ answer.Excepted 4)
      ↔ ((refusal (after_calls v xs) (request c t f o) ≡ 0) × (legal (settings (after_calls v xs)) f ≡ true) × NoHit (after_calls v xs) t f × NoneToJoin (after_calls v xs) t f
      × AllLive rules (after_calls v xs).book)
  exception_04_exactly c t f o = said_exactly (after_calls v xs) c t f o good (stocked v xs).sorted

  -- and no other call says an exception
  pub no_other_call_says_one : (x : Call) → ((c t : ℕ) (f o : List ℕ) → x ≡ request c t f o → ⊥) → (n : ℕ) → (outcome (after_calls v xs) x).says ≡ answer.Excepted n → ⊥
  no_other_call_says_one x h n e = let z : suc n ≡ 0 = sym (ap code_of e) ∙ no_other_exception (after_calls v xs) x h in omega arith

  -- whoever waits under an entry's id asked what it holds
  asked_alike : (k : ℕ) (e : Live What Note) → at (after_calls v xs).book k ≡ some e → (t : Ticket What) → Memᴰ t (filter (under e.id) (ledger_of v xs).waiting) → t.what ≡ e.what
  asked_alike k e h t m =
      let i = filter_in (under e.id) t (ledger_of v xs).waiting m in
      (accounted v xs).asked k e h t i.0 (eqb-true t.id e.id i.1)

  -- Tender 2 and 3, a reply: it hands the definition's rewriting of itself to the parties of the entry under its id, which it answers and ends; these are the requests
  -- that wait under that id, in the order in which they were accepted, and each asked what the reply was matched against.
  pub a_reply_goes_to_its_own : (t : ℕ) (f o l : List ℕ) → refusal (after_calls v xs) (reply t f o l) ≡ 0
      → (a : Answers (after_calls v xs) f o l (outcome (after_calls v xs) (reply t f o l)))
      × (a.entry.parties ≡ parties_of (filter (under a.entry.id) (ledger_of v xs).waiting))
      × ((k : Ticket What) → Memᴰ k (filter (under a.entry.id) (ledger_of v xs).waiting) → k.what ≡ a.entry.what)
  a_reply_goes_to_its_own t f o l h =
      let a = reply_answers (after_calls v xs) t f o l good h in (
        a,
        (accounted v xs).entries a.place a.entry a.there,
        asked_alike a.place a.entry a.there,
      )

  -- Tender 2 and 3, a timeout: exception 0B goes to the parties of the earliest entry whose deadline has come, which ends; these are the requests that wait under its id,
  -- and each asked what it holds.
  pub a_timeout_goes_to_its_own : (t : ℕ) (o l : List ℕ) → refusal (after_calls v xs) (tick t o l) ≡ 0 → ((outcome (after_calls v xs) (tick t o l)).says ≡ answer.NothingDue → ⊥)
      → (a : Expires (after_calls v xs) t o l (outcome (after_calls v xs) (tick t o l))) × (a.entry.parties ≡ parties_of (filter (under a.entry.id) (ledger_of v xs).waiting))
      × ((k : Ticket What) → Memᴰ k (filter (under a.entry.id) (ledger_of v xs).waiting) → k.what ≡ a.entry.what)
  a_timeout_goes_to_its_own t o l h n =
      let a = tick_expires (after_calls v xs) t o l good h n in
      (a, (accounted v xs).entries a.place a.entry a.there, asked_alike a.place a.entry a.there)

  -- Document 01: "nothing due" is a separate outcome and writes nothing. A tick that says so: the clock is its time, nothing else of the machine has changed, buffer and list are as they
  -- came, and no live entry's deadline is at or before its time.
  pub nothing_due_is_this : (t : ℕ) (o l : List ℕ) → (outcome (after_calls v xs) (tick t o l)).says ≡ answer.NothingDue
      → (outcome (after_calls v xs) (tick t o l) ≡ done answer.NothingDue (showing (after_calls v xs) t) o l) × ((k : ℕ) (e : Live What Note) → at (after_calls v xs).book k ≡ some e → t < e.deadline)
  nothing_due_is_this t o l s = let w = idle_when (after_calls v xs) t o l good s in (idle_is (after_calls v xs) t o l good w.0 w.1, w.1)

  -- And every tick says so that is not refused and at whose time no live entry is due.
  pub nothing_due_is_said : (t : ℕ) (o l : List ℕ) → refusal (after_calls v xs) (tick t o l) ≡ 0 → ((k : ℕ) (e : Live What Note) → at (after_calls v xs).book k ≡ some e → t < e.deadline)
      → (outcome (after_calls v xs) (tick t o l)).says ≡ answer.NothingDue
  nothing_due_is_said t o l h n = ap (λ (d : Outcome). d.says) (idle_is (after_calls v xs) t o l good h n)

  -- When to tick (ours): the time that `next_deadline` names is the earliest deadline of the live requests, or 2^64 − 1, and so many are live.
  pub the_next_deadline_is_this : Waits (after_calls v xs) (next_deadline (after_calls v xs))
  the_next_deadline_is_this = waits (after_calls v xs) good

  -- It is 2^64 − 1 exactly if nothing is live, under a timeout that a settings value may have: a deadline is then at most 2^63 − 1 + 60,000.
  pub no_deadline_exactly : v.timeout ≤ 60000
      → ((next_deadline (after_calls v xs)).time ≡ 18446744073709551615) ↔ ((k : ℕ) (e : Live What Note) → at (after_calls v xs).book k ≡ some e → ⊥)
  no_deadline_exactly most =
      none-waits (after_calls v xs) good
      (λ k e h. let u = outstanding_due v xs e.id e.what e.by e.deadline (((traced (product v) xs).lives _ _ _ _).0 (k, e, h, refl, refl, refl, refl)) in omega arith)

  -- Of a tick that comes next and is not refused, one before that time says that nothing is due, and one at or after it ends an entry.
  pub when_the_next_tick_ends_one : (t : ℕ) (o l : List ℕ) → refusal (after_calls v xs) (tick t o l) ≡ 0
      → (t < (next_deadline (after_calls v xs)).time → (outcome (after_calls v xs) (tick t o l)).says ≡ answer.NothingDue)
      × ((next_deadline (after_calls v xs)).time ≤ t → (i : ProxyId) × (n : ℕ) × ((outcome (after_calls v xs) (tick t o l)).says ≡ answer.TimedOut i n))
  when_the_next_tick_ends_one t o l = next_tick (after_calls v xs) t o l good

  -- Document 01: laying a party's id over bytes 0 and 1 gives its frame. Whoever waits under the id that a reply's report names gets, of as many bytes as the report says, a frame
  -- that is not refused, carries its own id, comes from the unit and is of the function that it asked, or that + 128, and answers what it asked.
  pub a_partys_frame : (t : ℕ) (f o l : List ℕ) → refusal (after_calls v xs) (reply t f o l) ≡ 0 → EachItsFrame (ledger_of v xs) (seen_of (outcome (after_calls v xs) (reply t f o l)))
  a_partys_frame t f o l h k m =
      let g = a_reply_goes_to_its_own t f o l h in
      let w = reply_frame (after_calls v xs) t f o l h g.0 in
      rw (g.2 k (rw w.0 at m)) (w.1 k.party)

  -- And of a timeout the same.
  pub a_partys_timeout : (t : ℕ) (o l : List ℕ) → refusal (after_calls v xs) (tick t o l) ≡ 0 → ((outcome (after_calls v xs) (tick t o l)).says ≡ answer.NothingDue → ⊥)
      → EachItsFrame (ledger_of v xs) (seen_of (outcome (after_calls v xs) (tick t o l)))
  a_partys_timeout t o l h n k m =
      let g = a_timeout_goes_to_its_own t o l h n in
      let w = timeout-frame (after_calls v xs) t o l (always_known v xs) g.0 in
      rw (g.2 k (rw w.0 at m)) (w.1 k.party)

  -- Document 01, the state by the history, 1: a client is attached exactly if the last of its attach, its detach and link lost that was not refused is its attach.
  pub who_is_attached : (c : ℕ) → (has (after_calls v xs).attached c ≡ true) ↔ (last_of (concerns c) (granted_calls v xs) ≡ some (attach c))
  who_is_attached = attached_exactly v xs

  -- 2: the clock is the time of the last request, reply or tick that was not refused, and 0 where there was none.
  pub what_the_clock_shows : (after_calls v xs).book.clock ≡ Option.get_or (last_given time_of (granted_calls v xs)) 0
  what_the_clock_shows = clock_exactly v xs

  -- 3: the cursor is the last issued id + 1, 0 after 65,535, and 0 where none was issued.
  pub where_the_cursor_stands : (after_calls v xs).book.cursor ≡ behind ids (last_given issued_id (told_by v xs))
  where_the_cursor_stands = (traced (product v) xs).cursor

  -- 4: an id is live exactly if it was issued and since its last issue neither answered nor timed out nor lost with the link; it holds what that issue asked, for the client
  -- that asked it, and is due when that issue said. A leaving ends nothing: an entry with no party stays live. Its parties are `entries` of `Accounted`.
  pub which_ids_are_live : (id : ℕ) (w : What) (c d : ℕ) → Holds (after_calls v xs).book id w c d ↔ Outstanding (told_by v xs) id w c d
  which_ids_are_live = (traced (product v) xs).lives

  -- and each issue is a request among the calls, answered Issued under that id: it asked what the frame asks, and is due at the request's time plus the timeout.
  pub what_an_issue_is : (id : ℕ) (w : What) (d : ℕ) (p : Party) → Memᴰ (issued id w d p) (told_by v xs) → Origin v xs id w d p
  what_an_issue_is = issue_origin v xs

  -- Request #101: no tag touches coils and discrete inputs. A request 01, 02, 05 or 15 that is issued goes out as it came, but for its id, and no tag is counted.
  pub bits_go_out_as_they_came : (c t : ℕ) (f o : List ℕ) (i : ProxyId) (n p w : ℕ) → (outcome (after_calls v xs) (request c t f o)).says ≡ answer.Issued i n p w → OfBits (get_or f 7 0)
      → ((k : ℕ) → 2 ≤ k → k < length f → get_or (outcome (after_calls v xs) (request c t f o)).written k 0 ≡ get_or f k 0) × (p ≡ 0) × (w ≡ 0)
  bits_go_out_as_they_came c t f o i n p w e b =
      let x = an_issue_is_this c t f o i n p w e in
      let u = x.unchanged (bits_carry_none f b) in
      (u.0, cc u.1, cc u.2)

  -- And a reply to one is handed on as it came, under id 0; no tag is counted.
  pub bits_come_back_as_they_came : (t : ℕ) (f o l : List ℕ) (a : Answers (after_calls v xs) f o l (outcome (after_calls v xs) (reply t f o l))) → OfBits a.entry.what.function
      → ((outcome (after_calls v xs) (reply t f o l)).written ≡ over (laid 0 f) o)
      × ((outcome (after_calls v xs) (reply t f o l)).says ≡ answer.Answered (record { 0 = a.entry.id }) (length f) (length a.entry.parties) 0 0)
  unfolding asking
  bits_come_back_as_they_came t f o l a b =
      let e = a.entry in
      let u = (which_ids_are_live e.id e.what e.by e.deadline).0 (a.place, e, a.there, refl, refl, refl, refl) in
      let i = (last_of_exactly (touches e.id) (told_by v xs) _).0 u.2 in
      let g = what_an_issue_is e.id e.what e.deadline u.0 (rw i.2 (Memᴰ.append_right i.0 (Memᴰ.head refl))) in
      let same = g.spells.0 in
      let r = returned_bits (settings (after_calls v xs)).tags f e.what g.frame (rw same at b) (ap (λ (w : What). w.asked) same ∙ sym (asked_spelled g.frame)) in (
        a.frame ∙ ap (λ (y : Rewritten). over (laid 0 y.bytes) o) r,
        a.says ∙ ap (λ (y : Rewritten). answer.Answered (record { 0 = e.id }) (length f) (length e.parties) y.partial y.value) r,
      )

  -- Request #102: nothing joins a read any more once a request was issued that spoils it, by unit, table and range, or "other"; which those are is said in plain numbers by
  -- `spoils_exactly` of SpoilingLaws of `pdu`, and in bytes by `spoils_in_bytes` of MeetsLaws. A live entry is open exactly if nothing that spoils it was issued since its own issue.
  pub what_is_open : (k : ℕ) (e : Live What Note) → at (after_calls v xs).book k ≡ some e
      → (e.note.closed ≡ false) ↔ Unspoiled (told_by v xs) e.id e.what e.deadline
  what_is_open = open_exactly v xs

  -- A read after a write is not stale: where any request was issued, and later one joins that it spoils, the entry that this one joins was issued after it, and is live since.
  pub a_read_after_a_write_is_not_stale : (before later : List (Event What)) (j : ℕ) (w : What) (d : ℕ) (p : Party) → told_by v xs ≡ before ++ (issued j w d p ∷ later)
      → (c t : ℕ) (f o : List ℕ) (i : ProxyId) → (outcome (after_calls v xs) (request c t f o)).says ≡ answer.Joined i → spoils w (asking f) ≡ true
      → (d' : ℕ) × (p' : Party) × (last_of (touches i.0) later ≡ some (issued i.0 (asking f) d' p'))
  a_read_after_a_write_is_not_stale = not_stale v xs

  -- And closing everything is no way out: a legal 01 to 04 that is not refused, with joining on, joins exactly where it hits nothing (#107) and some live entry asks the same, has room for
  -- one more party and a deadline later than now, and nothing that spoils it was issued since its issue; of several the smallest id.
  pub a_read_joins_exactly : (c t : ℕ) (f o : List ℕ) → refusal (after_calls v xs) (request c t f o) ≡ 0 → legal (settings (after_calls v xs)) f ≡ true
      → ((get_or f 7 0 ≡ 1) ⊎ (get_or f 7 0 ≡ 2)) ⊎ ((get_or f 7 0 ≡ 3) ⊎ (get_or f 7 0 ≡ 4)) → v.join ≡ 1 → (i : ProxyId)
      → ((outcome (after_calls v xs) (request c t f o)).says ≡ answer.Joined i)
      ↔ (NoHit (after_calls v xs) t f × Joinable (after_calls v xs).book (told_by v xs) t f i.0 × ((id : ℕ) → Joinable (after_calls v xs).book (told_by v xs) t f id → i.0 ≤ id))
  a_read_joins_exactly = joins_exactly v xs

  -- Request #107: a hit shows the last reply that filled its place, younger than its life. For each hit there is a reply among the calls that filled for what the request asks: it was not
  -- refused, was no exception, and answered a live entry that asked the same unit, function, start and quantity, which was cacheable and not closed (`Fills`). Since then no other reply
  -- filled for that read (`Latest`), no reply took its place, nothing that spoils the read was issued and no link was lost; and less has gone by than its life, the smallest ttl of the tags
  -- in the range (`LastReply`). The hit shows that reply's bytes behind the caller's own id, with its length and its counts (`Shows`).
  pub a_hit_shows_the_last_reply : (c t : ℕ) (f o : List ℕ) (n p w : ℕ) → (outcome (after_calls v xs) (request c t f o)).says ≡ answer.Hit n p w
      → (s : LastReply (after_calls v) (told_by v) xs t (asking f)) × Latest (after_calls v) (told_by v) xs t (asking f) s
      × Shows f o (outcome (after_calls v xs) (request c t f o)) (outcome (after_calls v s.before) s.call)
  a_hit_shows_the_last_reply c t f o n p w e = hit_shows v xs c t f o (outcome (after_calls v xs) (request c t f o)) (a_hit_is_this c t f o n p w e)

  -- And never caching is no way out: after a reply that fills, and any later calls of which none issues what spoils it, loses the link or takes its place, every equal request that is not
  -- refused and comes within its life is a hit that shows that reply.
  pub a_reply_that_filled_is_shown : (c t : ℕ) (f o : List ℕ) (s : LastReply (after_calls v) (told_by v) xs t (asking f)) → refusal (after_calls v xs) (request c t f o) ≡ 0
      → Shows f o (outcome (after_calls v xs) (request c t f o)) (outcome (after_calls v s.before) s.call)
  a_reply_that_filled_is_shown = then_hit v xs

  -- A reply that fills takes one of the 64 places, and one only: its own key's, else the lowest that is empty or expired, else the oldest, ties to the lowest (`Takes`). It stands there afterwards
  -- with its own time and the life of its read, and every other place is as it was (`Put`).
  pub a_filling_reply_takes_one_place : (x : Call) (r : What) (f : Fills (after_calls v xs) (told_by v xs) x r)
      → (p : ℕ) × (p < 64) × Takes f.time r (after_calls v xs).cache p × ((q : ℕ) → q < 64 → Takes f.time r (after_calls v xs).cache q → q ≡ p)
      × Put (settings (after_calls v xs)).tags f.start f.quantity f.time r p (after_calls v xs).cache (outcome (after_calls v xs) x).after.cache
  a_filling_reply_takes_one_place = one_place v xs

  -- One key stands in at most one place.
  pub one_key_one_place : (j k : ℕ) (d e : Cached) → in_cache (after_calls v xs).cache j ≡ some d → in_cache (after_calls v xs).cache k ≡ some e → d.what ≡ e.what → j ≡ k
  one_key_one_place = (stocked v xs).sorted.once

  -- And nothing but a reply that fills puts anything in: what stands in a place after a call stood there before, or the call is a reply that filled for it and took that place.
  pub nothing_else_puts_anything_in : (x : Call) (k : ℕ) (e : Cached) → in_cache (outcome (after_calls v xs) x).after.cache k ≡ some e
      → (in_cache (after_calls v xs).cache k ≡ some e)
      ⊎ ((f : Fills (after_calls v xs) (told_by v xs) x e.what) × Takes f.time e.what (after_calls v xs).cache k × KeptFor (settings (after_calls v xs)).tags f.start f.quantity f.time e)
  nothing_else_puts_anything_in = nothing_else v xs

  -- A place whose reply is another after a call was taken by that call, a reply that fills; and if what stood there was fresh, only by a reply with its own key, or by one whose key stood nowhere while
  -- all 64 were fresh; then it was the one filled earliest, ties to the lowest.
  pub when_a_fresh_place_is_taken : (x : Call) (p : ℕ) (d e : Cached) → in_cache (after_calls v xs).cache p ≡ some d → in_cache (outcome (after_calls v xs) x).after.cache p ≡ some e → (e ≡ d → ⊥)
      → (f : Fills (after_calls v xs) (told_by v xs) x e.what)
      × (f.time - d.filled < d.life
      → (d.what ≡ e.what)
      ⊎ (((k : ℕ) → k < 64 → Keyed e.what (in_cache (after_calls v xs).cache k) → ⊥) × ((k : ℕ) → k < 64 → Fresh f.time (in_cache (after_calls v xs).cache k))
      × ((k : ℕ) (h : Cached) → k < 64 → in_cache (after_calls v xs).cache k ≡ some h → (d.filled ≤ h.filled) × (k < p → d.filled < h.filled))))
  when_a_fresh_place_is_taken x p d e was is other =
      ⊎_elim
      (λ (w : in_cache (after_calls v xs).cache p ≡ some e). absurd (other (some-injective e d (sym w ∙ was))))
      (λ (w : (f : Fills (after_calls v xs) (told_by v xs) x e.what) × Takes f.time e.what (after_calls v xs).cache p × KeptFor (settings (after_calls v xs)).tags f.start f.quantity f.time e).
      (w.0, fresh_taken (after_calls v xs).cache w.0.time e.what p w.1 d was))
      (nothing_else_puts_anything_in x p e is)

  -- Whoever hits gets, of as many bytes as the report says, a frame that is not refused, carries its own id, comes from the unit and is of the function that it asked, and answers it.
  pub a_hits_frame : (c t : ℕ) (f o : List ℕ) (n p w : ℕ) → (outcome (after_calls v xs) (request c t f o)).says ≡ answer.Hit n p w
      → PartysFrame (asking f) (asker c f) (take (numbers (outcome (after_calls v xs) (request c t f o)).says).length (outcome (after_calls v xs) (request c t f o)).written)
  a_hits_frame c t f o n p w e = hit_frame (after_calls v xs) c t f o (outcome (after_calls v xs) (request c t f o)) (stocked v xs) (a_hit_is_this c t f o n p w e)

  -- And it counts no tag that is raw for partial cover: each register lies in a tag wholly inside the range, and tags do not overlap.
  pub a_hit_cuts_no_tag : valid v ≡ true → (c t : ℕ) (f o : List ℕ) (n p w : ℕ) → (outcome (after_calls v xs) (request c t f o)).says ≡ answer.Hit n p w → p ≡ 0
  a_hit_cuts_no_tag right c t f o n p w e =
      let h = a_hit_is_this c t f o n p w e in
      let same : p ≡ h.cached.partial = cc h.says in
      same ∙ none_cut_cached v (valid-ascends v right) xs h.place h.cached h.there

  -- Request #109: "neither joins". What joins is one of 01 to 04, and what hits 03 or 04: no 22 and no 23 ever does.
  pub only_reads_join_or_hit : (c t : ℕ) (f o : List ℕ)
      → ((i : ProxyId) → (outcome (after_calls v xs) (request c t f o)).says ≡ answer.Joined i → ((get_or f 7 0 ≡ 1) ⊎ (get_or f 7 0 ≡ 2)) ⊎ ((get_or f 7 0 ≡ 3) ⊎ (get_or f 7 0 ≡ 4)))
      × ((n p w : ℕ) → (outcome (after_calls v xs) (request c t f o)).says ≡ answer.Hit n p w → (get_or f 7 0 ≡ 3) ⊎ (get_or f 7 0 ≡ 4))
  only_reads_join_or_hit c t f o = (
    λ i e. (a_join_is_this c t f o i e).may.reads,
    λ n p w e. registers_read f (a_hit_shows_the_last_reply c t f o n p w e).0.fills.reads,
  )

  -- What a 23 that is issued writes, in bytes: the registers from byte 17 on, as many as the number at byte 14 says, are those of the addresses from the number at byte 12 on, each turned to BCD by its tag or as
  -- it came; and the counts are of that range.
  pub what_a_23_writes : (c t : ℕ) (f o : List ℕ) (i : ProxyId) (n p w : ℕ) → (outcome (after_calls v xs) (request c t f o)).says ≡ answer.Issued i n p w → get_or f 7 0 ≡ 23
      → Rewrites ToBcd v.tags f (outcome (after_calls v xs) (request c t f o)).written p w 17 (number_at f 12) (number_at f 14)
  what_a_23_writes c t f o i n p w e named =
      let x = an_issue_is_this c t f o i n p w e in
      let told : answer.Issued i n p w ≡ answer.Issued (record { 0 = x.id }) (length f) x.partial x.value = sym e ∙ x.says in
      let counts : (p ≡ x.partial) × (w ≡ x.value) = (cc, cc) in
      let shown = subst (λ (ts : List Tag). Rewrites ToBcd ts f (outcome (after_calls v xs) (request c t f o)).written x.partial x.value 17 (number_at f 12) (number_at f 14)) tags_stay
      (x.rewritten 17 (number_at f 12) (number_at f 14) (rw ((asking-says c f).reads_and_writes named) both)) in
      subst₂ (λ (a b : ℕ). Rewrites ToBcd v.tags f (outcome (after_calls v xs) (request c t f o)).written a b 17 (number_at f 12) (number_at f 14)) (sym counts.0) (sym counts.1) shown

  -- And what its reply brings: the registers from byte 9 on, as many as the number at byte 10 of the request says, are those of the addresses from the number at byte 8 on, turned to binary; and the counts are of
  -- that range.
  pub what_a_23_reads : (t : ℕ) (f o l : List ℕ) (a : Answers (after_calls v xs) f o l (outcome (after_calls v xs) (reply t f o l))) (g : List ℕ) → a.entry.what ≡ asking g → get_or g 7 0 ≡ 23 → excepts 23 f ≡ false
      → Rewrites ToBinary v.tags f (outcome (after_calls v xs) (reply t f o l)).written (returned v.tags (asking g) f).partial (returned v.tags (asking g) f).value 9 (number_at g 8) (number_at g 10)
  what_a_23_reads t f o l a g same named plain =
      let function : a.entry.what.function ≡ 23 = ap (λ (y : What). y.function) same ∙ (asking-says 0 g).function ∙ named in
      let asked : a.entry.what.asked ≡ ReadWrite (number_at g 8) (number_at g 10) (number_at g 12) (number_at g 14) = ap (λ (y : What). y.asked) same ∙ (asking-says 0 g).reads_and_writes named in
      subst₂ (λ (ts : List Tag) (w : What). Rewrites ToBinary ts f (outcome (after_calls v xs) (reply t f o l)).written (returned ts w f).partial (returned ts w f).value 9 (number_at g 8) (number_at g 10)) tags_stay same
      (a.rewritten (number_at g 8) (number_at g 10) (rw asked read_of_both) (rw function plain))

  -- Request #108: "If a write covers a strict tag partly, or its value is outside the range, the client gets exception 03 and nothing is issued." A write 06, 16 or 23 that is not refused and whose
  -- bytes give neither exception 03 nor 02 gets exception 03 exactly if some strict tag has a register in the write and another outside it, or lies in it with a value outside its range, in
  -- plain numbers (`Violates`). That nothing is issued, closed or dropped then, and that the buffer has the nine bytes of the exception, is `an_exception_is_this`.
  pub a_strict_tag_forbids_exactly : (c t : ℕ) (f o : List ℕ) → refusal (after_calls v xs) (request c t f o) ≡ 0 → ((k : ℕ) → get_or f k 0 < 256) → checked_of f ≡ Ok (asked_of f)
      → (base start quantity : ℕ) → Carries (asking f).asked base start quantity
      → ((outcome (after_calls v xs) (request c t f o)).says ≡ answer.Excepted 3) ↔ Violates v.tags f base start quantity
  a_strict_tag_forbids_exactly c t f o h bytes fine base start quantity carries =
      forbids_exactly (after_calls v xs) v.tags tags_stay c t f o good (stocked v xs) h bytes fine base start quantity carries

  -- "The check follows exception 02 in 01's order": a request that is not refused gets exception 03 exactly if its bytes give that, or they give neither 03 nor 02 and it is a write of
  -- registers that a strict tag forbids, or a 22 (#109) whose register a tag has. No read, no write of coils and no other function is forbidden, and bytes that give 02 do not get 03.
  pub only_a_tag_forbids : (c t : ℕ) (f o : List ℕ) → refusal (after_calls v xs) (request c t f o) ≡ 0 → ((k : ℕ) → get_or f k 0 < 256)
      → ((outcome (after_calls v xs) (request c t f o)).says ≡ answer.Excepted 3)
      ↔ ((checked_of f ≡ Err (check.Excepted 3))
      ⊎ ((checked_of f ≡ Ok (asked_of f))
      × (((base : ℕ) × (start : ℕ) × (quantity : ℕ) × Carries (asking f).asked base start quantity × Violates v.tags f base start quantity)
      ⊎ ((get_or f 7 0 ≡ 22) × ((tag : Tag) × Memᴰ tag v.tags × Has tag (number_at f 8))))))
  only_a_tag_forbids c t f o h bytes = only_forbids (after_calls v xs) v.tags tags_stay c t f o good (stocked v xs) h bytes

  -- Request #109: "On any tagged register it gets exception 03, because masks have no sense on digits." A 22 that is not refused gets exception 03 exactly if a tag has the register that bytes 8 and
  -- 9 name, whatever the tag's kind, strict or not; and it never gets 02.
  pub a_mask_on_a_tag_gets_03_exactly : (c t : ℕ) (f o : List ℕ) → refusal (after_calls v xs) (request c t f o) ≡ 0 → get_or f 7 0 ≡ 22
      → (((outcome (after_calls v xs) (request c t f o)).says ≡ answer.Excepted 3) ↔ ((tag : Tag) × Memᴰ tag v.tags × Has tag (number_at f 8)))
      × ((outcome (after_calls v xs) (request c t f o)).says ≡ answer.Excepted 2 → ⊥)
  a_mask_on_a_tag_gets_03_exactly c t f o h named = (
    mask_excepted_exactly (after_calls v xs) v.tags tags_stay c t f o good (stocked v xs) h named,
    mask_never_02 (after_calls v xs) v.tags tags_stay c t f o good (stocked v xs) h named,
  )

  -- "#108's claim extends to them": no 22 goes out to a register that a tag has, function and address as the written frame has them. That of 23 is what-goes-out-at-a-strict-tag.
  pub no_mask_goes_out_to_a_tag : (c t : ℕ) (f o : List ℕ) (i : ProxyId) (n p w : ℕ) → (outcome (after_calls v xs) (request c t f o)).says ≡ answer.Issued i n p w
      → get_or (outcome (after_calls v xs) (request c t f o)).written 7 0 ≡ 22 → (tag : Tag) → Memᴰ tag v.tags → Has tag (number_at (outcome (after_calls v xs) (request c t f o)).written 8) → ⊥
  no_mask_goes_out_to_a_tag c t f o i n p w e = sends_no_mask (after_calls v xs) v.tags tags_stay c t f o _ (an_issue_is_this c t f o i n p w e)

  -- "No frame to the device ever holds, at a strict tag, a word its kind does not allow, for the register writes 06 and 16", and 23 (#109). In a frame that goes out of a write, a strict tag of which any
  -- register is written lies wholly in the write and has there digits that its kind allows, and these decode to the number that the client wrote there (`HasDigits`): function, addresses and
  -- quantity as the written frame has them.
  pub what_goes_out_at_a_strict_tag : valid v ≡ true → (c t : ℕ) (f o : List ℕ) (i : ProxyId) (n p w : ℕ) → (outcome (after_calls v xs) (request c t f o)).says ≡ answer.Issued i n p w
      → ((k : ℕ) → get_or f k 0 < 256) → (base start quantity : ℕ) → Carries (asking (outcome (after_calls v xs) (request c t f o)).written).asked base start quantity
      → (tag : Tag) → Memᴰ tag v.tags → tag.strict ≡ 1 → (x : ℕ) → Has tag x → InRun start quantity x
      → HasDigits tag f (outcome (after_calls v xs) (request c t f o)).written base start quantity
  what_goes_out_at_a_strict_tag right c t f o i n p w e =
      sends_digits (after_calls v xs) v.tags tags_stay c t f o _ (an_issue_is_this c t f o i n p w e) (valid-ascends v right)

  -- "Lenient tags keep today's counts." Where no tag is strict, what a request comes to that is not refused, and which request is legal, are as they were: its bytes alone decide, but of a 22 (#109)
  -- whose register a tag has. Where some are, the counts of what is issued are still those of `Rewrites`, which does not ask whether a tag is strict (`an_issue_is_this`).
  pub without_a_strict_tag_as_before : ((tag : Tag) → Memᴰ tag v.tags → tag.strict ≡ 1 → ⊥) → (c t : ℕ) (f o : List ℕ)
      → (get_or f 7 0 ≡ 22 → (tag : Tag) → Memᴰ tag v.tags → Has tag (number_at f 8) → ⊥)
      → (admitted (after_calls v xs) c t f o
      ≡ cond (eqb (fault_of f) 0) (served (clocked (after_calls v xs) t) c f o) (excepted (clocked (after_calls v xs) t) (fault_of f) f o))
      × (legal v f ≡ (not (misframed f) && (not (bad_function (function_of f)) && (not (bad_length (class_of (function_of f)) f) && eqb (fault_of f) 0))))
  without_a_strict_tag_as_before none c t f o clear =
      let lenient = strictless v.tags none in
      (admitted_as_before v lenient f clear (after_calls v xs) the_settings_in_force_stay c t o, legal_as_before v lenient f clear)

  -- Document 01: link lost returns the former set, client by client those that were attached, and nobody is attached after it.
  pub link_lost_says_who_was_attached : (s : ℕ) × ((outcome (after_calls v xs) link_lost).says ≡ answer.Lost s)
      × ((c : ℕ) → (has s c ≡ true) ↔ (last_of (concerns c) (granted_calls v xs) ≡ some (attach c))) × ((c : ℕ) → has (outcome (after_calls v xs) link_lost).after.attached c ≡ false)
  unfolding granted
  link_lost_says_who_was_attached =
      let e = granted_is (after_calls v xs) link_lost (never_refused (after_calls v xs)) in
      ((after_calls v xs).attached, ap (λ (d : Outcome). d.says) e, who_is_attached, λ c. ap (λ (d : Outcome). has d.after.attached c) e ∙ has-none c)

  -- Attach and detach say done.
  pub attach_says_done : (c : ℕ) → refusal (after_calls v xs) (attach c) ≡ 0 → (outcome (after_calls v xs) (attach c)).says ≡ answer.Done
  unfolding granted
  attach_says_done c h = ap (λ (d : Outcome). d.says) (granted_is (after_calls v xs) (attach c) h)

  pub detach_says_done : (c : ℕ) → refusal (after_calls v xs) (detach c) ≡ 0 → (outcome (after_calls v xs) (detach c)).says ≡ answer.Done
  unfolding granted
  detach_says_done c h = ap (λ (d : Outcome). d.says) (granted_is (after_calls v xs) (detach c) h)

-- Tender 3: once the host has ticked until nothing is due, at the time t, nothing accepted a full timeout ago waits.
pub nothing_waits_forever : (v : Value) (xs : List Call) (t : ℕ) (o l : List ℕ) → (outcome (after_calls v xs) (tick t o l)).says ≡ answer.NothingDue
    → (k : Ticket What) → Memᴰ k (ledger_of v (xs ++ (tick t o l ∷ []))).waiting → t < k.time + v.timeout
nothing_waits_forever v xs t o l s k m =
    let w = nothing_due_is_this v xs t o l s in
    let ys = xs ++ (tick t o l ∷ []) in
    let e : after_calls v ys ≡ showing (after_calls v xs) t = after_one (product v) (made v) xs (tick t o l) ∙ ap (λ (d : Outcome). d.after) w.0 in
    let d = (accounted v ys).drained (rw (ap (λ (n : Machine). n.book) e) w.1) k m in
    let c : (after_calls v ys).book.clock ≡ t = ap (λ (n : Machine). n.book.clock) e in
    rw (c, the_settings_in_force_stay v ys) at d

-- Tender 3: ticking at one time ends. After any calls, and then as many ticks at one time as there are places, or more, each with whatever buffers, the next tick at that time says
-- that nothing is due, and nothing accepted a full timeout before that time waits.
pub ticking_comes_to_an_end : (v : Value) (xs : List Call) (t : ℕ) → t ≤ latest_time → (after_calls v xs).book.clock ≤ t → (bs : List Lent) → places ≤ length bs → (b : Lent)
    → ((outcome (after_calls v (xs ++ ticks_at t bs)) (tick_at t b)).says ≡ answer.NothingDue)
    × ((k : Ticket What) → Memᴰ k (ledger_of v ((xs ++ ticks_at t bs) ++ (tick_at t b ∷ []))).waiting → t < k.time + v.timeout)
ticking_comes_to_an_end v xs t late c bs p b =
    let s : (outcome (after_calls v (xs ++ ticks_at t bs)) (tick_at t b)).says ≡ answer.NothingDue =
    rw (after_on (product v) (made v) xs (ticks_at t bs)) (ticking_ends v t late bs b (after_calls v xs) (good v xs) c p) in
    (s, nothing_waits_forever v (xs ++ ticks_at t bs) t b.out b.list s)

-- an issue tells its time and itself
issue_told : (v : Value) (m : Machine) (c t : ℕ) (f o : List ℕ) (ys : List Call) (i : ProxyId) (n p w : ℕ) → (outcome m (request c t f o)).says ≡ answer.Issued i n p w
    → history (product v) m (request c t f o ∷ ys) ≡ passed t ∷ issued i.0 (asking f) (t + v.timeout) (asker c f) ∷ history (product v) (outcome m (request c t f o)).after ys
unfolding lines_of events told numbers
issue_told v m c t f o ys i n p w e =
    let d = outcome m (request c t f o) in
    ap (λ (a : Answer). events v (request c t f o) (record { report = numbers a; frame = d.written; list = d.listed }) ++ history (product v) d.after ys) e

-- the lines of calls among which one is issued
issue_among : (v : Value) (before : List Call) (c t : ℕ) (g o : List ℕ) (j : ProxyId) (n p w : ℕ) → (outcome (after_calls v before) (request c t g o)).says ≡ answer.Issued j n p w → (later : List Call)
    → told_by v (before ++ request c t g o ∷ later)
    ≡ (told_by v before ++ passed t ∷ []) ++ issued j.0 (asking g) (t + v.timeout) (asker c g) ∷ told_since v (before ++ request c t g o ∷ []) later
issue_among v before c t g o j n p w e later =
    let x = request c t g o in
    rw (after_one (product v) (made v) before x)
    (history_on (product v) (made v) before (x ∷ later) ∙ ap (λ vs. told_by v before ++ vs) (issue_told v (after_calls v before) c t g o later j n p w e) ∙ sym (append_assoc (told_by v before) (passed t ∷ []) _))

-- Request #102 in bytes: a read after a write is not stale. A request g was issued, after whatever calls; whatever calls came later, a request f then joins, and g meets it: byte 6 of both
-- is equal, byte 7 of g is 05 or 15 and that of f 01 or 02, or 06, 16, 22 or 23 and 03 or 04, and some address is in both ranges, of a 23 in the one that it writes, or g is "other" and f a
-- read. Then of the lines that the later calls tell (`told_since`), the last that begins or ends a life of the id that f joined is its issue, which asks what f asks: what f joined was issued after g, and is live since.
pub a_read_after_a_write_is_not_stale_in_bytes : (v : Value) (before : List Call) (c t : ℕ) (g o : List ℕ) (j : ProxyId) (n p w : ℕ)
    → (outcome (after_calls v before) (request c t g o)).says ≡ answer.Issued j n p w
    → (later : List Call) (c' t' : ℕ) (f o' : List ℕ) (i : ProxyId) → (outcome (after_calls v (before ++ request c t g o ∷ later)) (request c' t' f o')).says ≡ answer.Joined i
    → get_or g 6 0 ≡ get_or f 6 0 → Meets g f
    → (d : ℕ) × (q : Party) × (last_of (touches i.0) (told_since v (before ++ request c t g o ∷ []) later) ≡ some (issued i.0 (asking f) d q))
a_read_after_a_write_is_not_stale_in_bytes v before c t g o j n p w e later c' t' f o' i =
    let x = request c t g o in
    not_stale_in_bytes v (before ++ x ∷ later) (told_by v before ++ passed t ∷ []) (told_since v (before ++ x ∷ []) later) j.0 _ g (t + v.timeout) (asker c g) (an_issue_is_this v before c t g o j n p w e).is_legal
    (issue_among v before c t g o j n p w e later) c' t' f o' i

-- Request #107 in bytes: a hit after a write is not stale. A request g was issued, after whatever calls; whatever calls came later, a request f then hits, and g meets it, as above. Then the
-- reply that the hit shows is one of the later calls, and the id that it answered was issued after g: of the lines told between g and that reply, the last that begins or ends a life of
-- that id is its issue, which asks what f asks.
pub a_hit_after_a_write_is_not_stale_in_bytes : (v : Value) (before : List Call) (c t : ℕ) (g o : List ℕ) (j : ProxyId) (n p w : ℕ)
    → (outcome (after_calls v before) (request c t g o)).says ≡ answer.Issued j n p w
    → (later : List Call) (c' t' : ℕ) (f o' : List ℕ) (n' p' w' : ℕ) → (outcome (after_calls v (before ++ request c t g o ∷ later)) (request c' t' f o')).says ≡ answer.Hit n' p' w'
    → get_or g 6 0 ≡ get_or f 6 0 → Meets g f
    → (s : LastReply (after_calls v) (told_by v) (before ++ request c t g o ∷ later) t' (asking f)) × (mid : List Call) × (later ≡ mid ++ s.call ∷ s.later)
    × Shows f o' (outcome (after_calls v (before ++ request c t g o ∷ later)) (request c' t' f o')) (outcome (after_calls v (before ++ request c t g o ∷ mid)) s.call)
    × ((d : ℕ) × (q : Party) × (last_of (touches s.fills.entry.id) (told_since v (before ++ request c t g o ∷ []) mid) ≡ some (issued s.fills.entry.id (asking f) d q)))
a_hit_after_a_write_is_not_stale_in_bytes v before c t g o j n p w e later c' t' f o' n' p' w' hit unit met =
    let x = request c t g o in
    let y = a_hit_shows_the_last_reply v (before ++ x ∷ later) c' t' f o' n' p' w' hit in
    let s = y.0 in
    let spoiled : spoils (asking g) (asking f) ≡ true =
    (spoils_in_bytes _ _ g f (an_issue_is_this v before c t g o j n p w e).is_legal (a_hit_is_this v (before ++ x ∷ later) c' t' f o' n' p' w' hit).is_legal).1 (unit, met) in
    let k = came-after v before c t g o j n p w e later t' (asking f) spoiled s in
    let lines : told_by v s.before ≡ (told_by v before ++ passed t ∷ []) ++ issued j.0 (asking g) (t + v.timeout) (asker c g) ∷ told_since v (before ++ x ∷ []) k.0 =
    ap (told_by v) k.1 ∙ issue_among v before c t g o j n p w e k.0 in (
      s,
      k.0,
      k.2,
      rw k.1 at y.2,
      since (told_by v before ++ passed t ∷ []) (told_since v (before ++ x ∷ []) k.0) j.0 (asking g) (t + v.timeout) (asker c g) s.fills.entry.id (asking f) s.fills.entry.deadline spoiled
          (rw lines at s.fills.unclosed),
    )

-- Tender 2: a value in a tag's range, written over the whole tag in one request, stored as sent and read back whole in one, comes back equal. Whatever calls came before the
-- write and whatever calls came before the reply: the registers of the tag in the frame that was issued, carried by a reply to a read that covers the tag, reach the reader
-- as the registers that the writer sent. Written by 06, 16 or 23, read by 03, 04 or 23; one tag among any others.
pub a_value_comes_back : (v : Value) → valid v ≡ true → (tag : Tag) → Memᴰ tag v.tags
    → (xs : List Call) (c t : ℕ) (f o : List ℕ) → ((k : ℕ) → get_or f k 0 < 256)
    → (i : ProxyId) (n p w : ℕ) → (outcome (after_calls v xs) (request c t f o)).says ≡ answer.Issued i n p w
    → (base s q : ℕ) → Carries (asking f).asked base s q → Whole s q tag → in_range (kind_of tag) (number_of (own_in s (registers_at base q f) tag)) ≡ true
    → (ys : List Call) (t' : ℕ) (g o' l : List ℕ) → ((k : ℕ) → get_or g k 0 < 256)
    → (a : Answers (after_calls v ys) g o' l (outcome (after_calls v ys) (reply t' g o' l))) → excepts a.entry.what.function g ≡ false
    → (s' q' : ℕ) → Brings a.entry.what.asked s' q' → Whole s' q' tag
    → own_in s' (registers_at 9 q' g) tag ≡ own_in s (registers_at base q (outcome (after_calls v xs) (request c t f o)).written) tag
    → own_in s' (registers_at 9 q' (outcome (after_calls v ys) (reply t' g o' l)).written) tag ≡ own_in s (registers_at base q f) tag
a_value_comes_back v right tag m xs c t f o bytes i n p w e base s q carries whole range ys =
    comes_back v.tags (valid-ascends v right) tag m (after_calls v xs) (ap (λ (x : Value). x.tags) (the_settings_in_force_stay v xs)) c t f o bytes (an_issue_is_this v xs c t f o i n p w e) base s q
    carries whole range (after_calls v ys) (ap (λ (x : Value). x.tags) (the_settings_in_force_stay v ys))

-- Demand 2's addition (#106): a device that echoes what it was sent gives the client back the very frame that the client wrote. A 06 was issued; whatever calls came before the reply,
-- while what the request asked is outstanding under its id: the reply that is the frame which was sent, byte for byte, is handed on as the client's own frame, once its id is laid over
-- it, and no tag is counted. Whether its value was re-encoded or went out raw.
pub an_echo_comes_back : (v : Value) → valid v ≡ true → (xs : List Call) (c t : ℕ) (f o : List ℕ) → ((k : ℕ) → get_or f k 0 < 256) → get_or f 7 0 ≡ 6
    → (i : ProxyId) (n p w : ℕ) → (outcome (after_calls v xs) (request c t f o)).says ≡ answer.Issued i n p w
    → (ys : List Call) (t' : ℕ) (o' l : List ℕ) → (let g = take n (outcome (after_calls v xs) (request c t f o)).written in refusal (after_calls v ys) (reply t' g o' l) ≡ 0
    → (client due : ℕ) → Outstanding (told_by v ys) i.0 (asking f) client due
    → (k : ℕ) × ((outcome (after_calls v ys) (reply t' g o' l)).says ≡ answer.Answered i n k 0 0)
    × (laid (id_of f) (take n (outcome (after_calls v ys) (reply t' g o' l)).written) ≡ f))
an_echo_comes_back v right xs c t f o bytes six i n p w e ys t' o' l h client due out =
    let m = after_calls v xs in
    let x = an_issue_is_this v xs c t f o i n p w e in
    let says : answer.Issued i n p w ≡ answer.Issued (record { 0 = x.id }) (length f) x.partial x.value = sym e ∙ x.says in
    let size : n ≡ length f = cc in
    let own : i ≡ record { 0 = x.id } = cc in
    let carries : Carries (asking f).asked 10 (256 * get_or f 8 0 + get_or f 9 0) 1 = rw ((asking-says c f).writes_one six) single in
    let long : 12 ≤ length f = omega (arith, (x.rewritten 10 _ 1 carries).inside) in
    let g = take n (outcome m (request c t f o)).written in
    let a = reply_answers (after_calls v ys) t' g o' l (good v ys) h in
    let held = (which_ids_are_live v ys i.0 (asking f) client due).1 out in
    let named : a.entry.id ≡ i.0 = a.same ∙ sent_id m c t f o (good v xs) x n (omega arith) ∙ ap (λ (j : ProxyId). j.0) (sym own) in
    let place : a.place ≡ held.0 = live_ids_differ v ys a.place held.0 a.entry held.1 a.there held.2 (named ∙ sym held.3) in
    let same : a.entry ≡ held.1 = same-entry (sym a.there ∙ ap (λ (k : ℕ). at (after_calls v ys).book k) place ∙ held.2) in
    let r = echo_comes_back v.tags (valid-ascends v right) m (ap (λ (y : Value). y.tags) (the_settings_in_force_stay v xs)) c t f o bytes long six x (after_calls v ys) (ap (λ (y : Value). y.tags) (the_settings_in_force_stay v ys)) t' g o' l
    (ap (λ (k : ℕ). take k (outcome m (request c t f o)).written) size) a (ap (λ (y : Live What Note). y.what) same ∙ held.4) in (
      length a.entry.parties,
      r.0 ∙ ap (λ (j : ProxyId). answer.Answered j (length f) (length a.entry.parties) 0 0) (ap (λ (k : ℕ). record { 0 = k }) named) ∙ ap (λ (k : ℕ). answer.Answered i k (length a.entry.parties) 0 0) (sym size),
      own_frame f o' _ n bytes (omega arith) size r.1,
    )

-- Request #109: "reply an exact echo". A 22 was issued; whatever calls came before the reply, a reply to what it asked that is no exception is handed to its party as the party's own frame, byte for
-- byte, once its id is laid over it, and no tag is counted.
pub a_masks_reply_is_its_request : (v : Value) (xs : List Call) (c t : ℕ) (g o : List ℕ) → ((k : ℕ) → get_or g k 0 < 256) → get_or g 7 0 ≡ 22
    → (i : ProxyId) (n p w : ℕ) → (outcome (after_calls v xs) (request c t g o)).says ≡ answer.Issued i n p w
    → (ys : List Call) (t' : ℕ) (f o' l : List ℕ) → ((k : ℕ) → get_or f k 0 < 256) → refusal (after_calls v ys) (reply t' f o' l) ≡ 0
    → (a : Answers (after_calls v ys) f o' l (outcome (after_calls v ys) (reply t' f o' l))) → a.entry.what ≡ asking g → excepts 22 f ≡ false
    → ((outcome (after_calls v ys) (reply t' f o' l)).says ≡ answer.Answered (record { 0 = a.entry.id }) (length g) (length a.entry.parties) 0 0)
    × (laid (id_of g) (take (length g) (outcome (after_calls v ys) (reply t' f o' l)).written) ≡ g)
a_masks_reply_is_its_request v xs c t g o bytes seven i n p w e ys t' f o' l bytes' h a same plain =
    let fine = (legal_checked (settings (after_calls v xs)) g).0 (an_issue_is_this v xs c t g o i n p w e).is_legal in
    let long : length g ≡ 14 = sym (rw (asked_spelled g ∙ (asking-says c g).masks seven) at (legal-room g (asked_of g) fine.1)) in
    let r = mask_comes_back (settings (after_calls v ys)).tags a.entry.what f g bytes' bytes (reply_framed (after_calls v ys) t' f o' l h) fine.0 long seven same a.matches plain in
    let written : (outcome (after_calls v ys) (reply t' f o' l)).written ≡ over (laid 0 g) o' = a.frame ∙ ap (λ (y : Rewritten). over (laid 0 y.bytes) o') r.1 ∙ ap (λ (y : List ℕ). over y o') (r.2 0) in (
      a.says ∙ rw (r.1, r.0) refl,
      own_frame g o' _ (length g) bytes (omega arith) refl written,
    )

-- a leaving and a lost link tell just that
leaving_told : (v : Value) (m : Machine) (c : ℕ) (ys : List Call) → refusal m (detach c) ≡ 0
    → history (product v) m (detach c ∷ ys) ≡ left c ∷ history (product v) (outcome m (detach c)).after ys
unfolding lines_of events told granted numbers
leaving_told v m c ys h = ap (λ (d : Outcome). events v (detach c) (seen_of d) ++ history (product v) (outcome m (detach c)).after ys) (granted_is m (detach c) h)

loss_told : (v : Value) (m : Machine) (ys : List Call) → history (product v) m (link_lost ∷ ys) ≡ lost ∷ history (product v) (outcome m link_lost).after ys
unfolding lines_of events told granted numbers
loss_told v m ys = ap (λ (d : Outcome). events v link_lost (seen_of d) ++ history (product v) (outcome m link_lost).after ys) (granted_is m link_lost (never_refused m))

-- Tender 3: a client number that is attached again gets nothing that its predecessor asked. Whatever calls come after a client's leaving, what is answered to its number is what
-- was answered before it left, or was accepted since.
pub a_successor_gets_nothing_old : (v : Value) (xs : List Call) (c : ℕ) (ys : List Call) → refusal (after_calls v xs) (detach c) ≡ 0
    → Anew c (ledger_of v (xs ++ detach c ∷ [])) (ledger_of v (xs ++ detach c ∷ ys))
unfolding lines_of
a_successor_gets_nothing_old v xs c ys h =
    let m = after_calls v xs in
    rw (
      history_on (product v) (made v) xs (detach c ∷ []) ∙ ap (λ vs. told_by v xs ++ vs) (leaving_told v m c [] h),
      history_on (product v) (made v) xs (detach c ∷ ys) ∙ ap (λ vs. told_by v xs ++ vs) (leaving_told v m c ys h),
    ) (successor (told_by v xs) c _)

-- And the same after a lost link, of any client number.
pub nor_after_a_lost_link : (v : Value) (xs : List Call) (c : ℕ) (ys : List Call) → Anew c (ledger_of v (xs ++ link_lost ∷ [])) (ledger_of v (xs ++ link_lost ∷ ys))
unfolding lines_of
nor_after_a_lost_link v xs c ys =
    let m = after_calls v xs in
    rw (
      history_on (product v) (made v) xs (link_lost ∷ []) ∙ ap (λ vs. told_by v xs ++ vs) (loss_told v m []),
      history_on (product v) (made v) xs (link_lost ∷ ys) ∙ ap (λ vs. told_by v xs ++ vs) (loss_told v m ys),
    ) (successor_of_lost (told_by v xs) c _)
