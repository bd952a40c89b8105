-- The ways in which a request ends, one law each, over the machine and plain values.
-- Assumes nothing.
use Prim.Native.Nat.{ℕ, ◌+◌, ◌*◌, ◌≤◌, ◌<◌}
use mathlib.Core.Path.{◌≡◌, refl, ap, sym, ◌∙◌}
use mathlib.Core.Bool.{false}
use mathlib.Core.Option.{Option, some, none}
use mathlib.Core.List.{List, []}
use lib.ListN.{length, get_or}
use borrow.Author.Tests.{eq-eqb, lt-ltb, le-ltb}
use Rattle.numbers.specs.Numbers.{places, cache_places, device_failure}
use Rattle.laws.specs.Bytes.{over}
use Rattle.wire.specs.Frame.{id_of, unit_of, function_of, laid, exception}
use Rattle.settings.specs.Grammar.{Tag}
use Rattle.pdu.specs.Requests.{asked_of}
use Rattle.pdu.specs.declared.What.{What}
use Rattle.pdu.specs.declared.Asked.{Asked}
use Rattle.rewrite.specs.Rewriting.{Rewritten, with_counts}
use Rattle.rewrite.specs.Frames.{forwarded, under}
use Rattle.rewrite.specs.Legal.{fault_under, checked_under}
use Rattle.rewrite.specs.inner.Lent.{tags_of}
use Rattle.rewrite.proofs.CheckLaws.{under_tests}
use Rattle.cache.specs.Cache.{Cached, Cache, in_cache, dropped_by}
use Rattle.caching.specs.Kept.{cache_of}
use Rattle.caching.proofs.ShowLaws.{stands_held}
use Rattle.book.specs.Book.{Live, at, apply}
use Rattle.book.specs.Book.Move.{join, issue, mark}
use Rattle.book.specs.Desk.{free_place, free_id}
use Rattle.machine.specs.Machine.{Machine, Note, opened, Live_book, machine, rules, settings, moved, caching}
use Rattle.machine.specs.Calls.{Outcome, done, out_of, list_of}
use Rattle.machine.specs.Calls.Call.{request}
use Rattle.machine.specs.Refusals.{refusal}
use Rattle.machine.specs.RefusalNumbers.{number_of}
use Rattle.machine.specs.declared.Refusal.{Refusal}
use Rattle.machine.specs.Requests.{wanted, party_of, closing, hitting_place, hit_on, joining_place, can_join, exhausted, excepted, joined_to, issued_to, missed, served, admitted}
use Rattle.machine.specs.Numbers.{numbers}
use Rattle.machine.specs.Outcomes.{granted, outcome}
use Rattle.machine.specs.declared.Answer.{Answer}
use Rattle.machine.specs.declared.Answer.TheVariants.{Refused, Joined, Excepted, Issued, Hit}
use Rattle.machine.proofs.OutcomeLaws.{granted_is, refused_is, served_cases}
use Rattle.proxy.specs.Calls.{Does}
use Rattle.proxy.specs.State.{State, value_in, machine_of, SoundState}
use Rattle.proxy.proofs.StateLaws.{timed, clock_is}
use Rattle.requesting.proofs.GateLaws.{Open, number_not_0, check_passes, not-before}
use Rattle.pdu.specs.declared.Fault.TheVariants.{Excepted as Faulty}
use Rattle.std.specs.Prelude.{Ok, Err}

-- A refused request changes nothing.
pub was_refused : (m : Machine) (c t : ℕ) (f o : List ℕ) (n : ℕ) → (n ≡ 0 → ⊥) → refusal m (request c t f o) ≡ n → done (Refused n) m o [] ≡ outcome m (request c t f o)
unfolding out_of list_of
was_refused m c t f o n h e = refused_is m (request c t f o) n e h

-- So what refuses is all that the call does.
pub does_refuse : (s : State) → SoundState s → (c t : ℕ) (f o : List ℕ) (r : Refusal) → refusal (machine_of s) (request c t f o) ≡ number_of r → Does s (request c t f o) (Refused (number_of r)) s o []
does_refuse s sounds c t f o r e = (was_refused (machine_of s) c t f o (number_of r) (number_not_0 r) e, sounds, λ h. refl)

-- An exception written with the caller's id, unit and function is the caller's.
pub exception-made : (m : Machine) (f o : List ℕ) (id unit function code : ℕ) (o' : List ℕ) → id ≡ id_of f → unit ≡ unit_of f → function ≡ function_of f
    → o' ≡ over (exception id unit function code) o → done (Excepted code) m o' [] ≡ excepted m code f o
unfolding excepted
exception-made m f o id unit function code o' ei eu ef e = rw (e, ei, eu, ef)

module _ (s : State) {c t : ℕ} {f o : List ℕ} (p : Open (machine_of s) c t f o) where
  -- the tags that the check goes by
  abbrev tags : List Tag
  tags = tags_of s.settings.tag_count s.settings.tag_words

  -- A request with a fault sets the clock and gets the exception.
  pub was_excepted : {code : ℕ} {d : Outcome} → checked_under tags f ≡ Err (Faulty code) → d ≡ excepted (machine_of (timed s t)) code f o → d ≡ outcome (machine_of s) (request c t f o)
  unfolding granted admitted value_in
  was_excepted e q =
      let w = under_tests tags f e in
      q ∙ sym (granted_is (machine_of s) (request c t f o) (check_passes p w.0 w.1) ∙ rw w.3 (rw (w.2, clock_is s t (not-before p)) refl))

  -- A legal request sets the clock and is served.
  pub was_served : {a : Asked} {d : Outcome} → checked_under tags f ≡ Ok a → d ≡ served (machine_of (timed s t)) c f o → d ≡ outcome (machine_of s) (request c t f o)
  unfolding granted admitted value_in
  was_served e q =
      let w = under_tests tags f e in
      q ∙ sym (granted_is (machine_of s) (request c t f o) (check_passes p w.0 w.1) ∙ rw (eq-eqb (fault_under tags f) 0 w.2) (rw (clock_is s t (not-before p)) refl))

module _ (m : Machine) (c : ℕ) (f o : List ℕ) where
  -- A request that hits a place is shown what is cached there,
  pub was_hit : (k : ℕ) (d : Outcome) → k ≡ hitting_place m f → k < cache_places → d ≡ hit_on m f o (in_cache m.cache k) → d ≡ served m c f o
  unfolding served
  was_hit k d q l e = e ∙ rw (← q) (rw (lt-ltb k cache_places l) refl)

  -- and one that hits none comes to what it does without a cache.
  pub was_missed : (d : Outcome) → cache_places ≤ hitting_place m f → d ≡ missed m c f o → d ≡ served m c f o
  unfolding served
  was_missed d l e = rw (le-ltb (hitting_place m f) cache_places l) e

  -- A request that can join does, and no frame is written.
  pub was_joined : (k : ℕ) (e : Live What Note) → k ≡ joining_place m f → k < places → at m.book k ≡ some e
      → done (Joined (record { 0 = e.id })) (moved m (join k e (wanted f) (party_of c f))) o [] ≡ missed m c f o
  unfolding missed joined_to
  was_joined k e q l live = rw (← q) (rw (lt-ltb k places l) (rw live refl))

  module _ (none : places ≤ joining_place m f) where
    cannot : can_join m f ≡ false
    cannot = le-ltb (joining_place m f) places none

    -- A request that can join nothing is issued where a place is free,
    pub was_issued : (d : Outcome) → free_place rules m.book < places → d ≡ issued_to m c f o → d ≡ missed m c f o
    unfolding missed exhausted
    was_issued d l q = rw cannot (rw (lt-ltb (free_place rules m.book) places l) q)

    -- and gets exception 04 where none is.
    pub was_full : (d : Outcome) → places ≤ free_place rules m.book → d ≡ excepted m device_failure f o → d ≡ missed m c f o
    unfolding missed exhausted
    was_full d l q = rw cannot (rw (le-ltb (free_place rules m.book) places l) q)

  -- what is said, kept and written of an issue under an id into a place
  abbrev sent : ℕ → ℕ → Rewritten → Outcome
  sent id place r =
      done (Issued (record { 0 = id }) (length f) r.partial r.value)
      (caching (moved (moved m (issue place id (wanted f) opened (m.book.clock + (settings m).timeout) (party_of c f))) (mark (closing (wanted f)))) (dropped_by (wanted f) m.cache)) r.bytes []

  -- What is issued: the first free id, the lowest free place, what it spoils closed and dropped, the frame under that id with its registers rewritten, and both counts.
  pub issue_made : (id place : ℕ) (a : Asked) (p v : ℕ) (o' : List ℕ) (b : Live_book) (h : Cache)
      → id ≡ free_id rules m.book → place ≡ free_place rules m.book → a ≡ asked_of f
      → with_counts p v o' ≡ under id o (forwarded (settings m).tags a f)
      → b ≡ apply rules (apply rules m.book (issue place id (wanted f) opened (m.book.clock + (settings m).timeout) (party_of c f))) (mark (closing (wanted f)))
      → h ≡ dropped_by (wanted f) m.cache
      → done (Issued (record { 0 = id }) (length f) p v) (machine b m.attached h) o' [] ≡ issued_to m c f o
  unfolding issued_to
  issue_made id place a p v o' b h ei ep ea w eb eh =
      rw (eb, eh)
      (ap (sent id place) w
      ∙ ap (λ (x : Asked). sent id place (under id o (forwarded (settings m).tags x f))) ea
      ∙ ap (λ (k : ℕ). sent id k (under id o (forwarded (settings m).tags (asked_of f) f))) ep
      ∙ ap (λ (i : ℕ). sent i (free_place rules m.book) (under i o (forwarded (settings m).tags (asked_of f) f))) ei)

-- What is shown of a place under the caller's id is the hit.
pub hit_made : (m : Machine) (cache shown : List ℕ) (place : ℕ) (f o : List ℕ) {r v : ℕ} {o' : List ℕ} → place < 64 → (in_cache (cache_of cache shown) place ≡ none → ⊥)
    → ((e : Cached) → in_cache (cache_of cache shown) place ≡ some e → (r ≡ length e.bytes) × (o' ≡ over (laid (get_or f 0 0 * 256 + get_or f 1 0) e.bytes) o))
    → ((e : Cached) → in_cache (cache_of cache shown) place ≡ some e → v ≡ e.value)
    → done (Hit r 0 v) m o' [] ≡ hit_on m f o (in_cache (cache_of cache shown) place)
unfolding hit_on
hit_made m cache shown place f o {r} {v} {o'} low there shows counts = go (in_cache (cache_of cache shown) place) refl
  where
    go : (q : Option Cached) → in_cache (cache_of cache shown) place ≡ q → done (Hit r 0 v) m o' [] ≡ hit_on m f o (in_cache (cache_of cache shown) place)
    go none e = absurd (there e)
    go (some e) q =
        let s = shows e q in
        let z : e.partial ≡ 0 = ap (λ (x : Cached). x.partial) (sym (stands_held cache shown place e low q)) in
        rw (q, s.0, s.1, counts e q, z) refl

-- An exception for the caller, and what a legal request comes to, is no refusal.
pub excepted_no_refusal : (m : Machine) (code : ℕ) (f o : List ℕ) {a : Answer} {m' : Machine} {w l : List ℕ} → done a m' w l ≡ excepted m code f o → (numbers a).refusal ≡ 0
unfolding excepted numbers
excepted_no_refusal m code f o e = ap (λ (d : Outcome). (numbers d.says).refusal) e

pub served_no_refusal : (m : Machine) (c : ℕ) (f o : List ℕ) {a : Answer} {m' : Machine} {w l : List ℕ} → done a m' w l ≡ served m c f o → (numbers a).refusal ≡ 0
unfolding excepted joined_to issued_to hit_on numbers
served_no_refusal m c f o e =
    ap (λ (d : Outcome). (numbers d.says).refusal) e ∙ served_cases (λ d. (numbers d.says).refusal ≡ 0) m c f o refl (λ k x. refl) refl (λ x. refl)
