-- What a request that is not refused comes to, in plain numbers and bytes: it is a hit, it is issued, it joins, or it gets an exception.
-- Assumes nothing.
use Prim.Native.Nat.{ℕ, ◌+◌, ◌*◌, ◌-◌, ◌/◌, ◌%◌, ◌≤◌, ◌<◌}
use mathlib.Core.Path.{◌≡◌, refl, ap, sym, ◌∙◌}
use mathlib.Core.Logic.{⊎_elim, ◌⊎◌, inl, inr}
use mathlib.Core.Bool.{Bool, true, false, true≢false}
use mathlib.Core.Option
use mathlib.Core.Option.{Option, some, none}
use mathlib.Core.List.{List, map}
use native.Mathlib.Omega.{arith}
use lib.ListN.{length, get_or, set, drop, length-append, length-drop, get_or-map}
use lib.Seq.{get_or-append-add, get_or-drop, get_or-set_same, get_or-set_other}
use borrow.Author.Tests.{ltb-false}
use Rattle.numbers.specs.Numbers.{places, frame_buffer, device_failure}
use Rattle.laws.specs.Bytes.{over}
use Rattle.laws.proofs.Choice.{eq_or, never}
use Rattle.wire.specs.Frame.{id_of, laid, exception}
use Rattle.wire.proofs.FrameLaws.{framed, length-laid}
use Rattle.settings.specs.Grammar.{Tag}
use Rattle.pdu.specs.Requests.{asked_of}
use Rattle.pdu.specs.declared.What.{What}
use Rattle.pdu.specs.declared.Table.TheVariants.{Bits, Registers}
use Rattle.pdu.specs.declared.Asked.{Asked}
use Rattle.pdu.specs.declared.Asked.TheVariants.{Read, SingleWrite, MultipleWrite, MaskWrite, ReadWrite, Other}
use Rattle.pdu.specs.declared.ProxyId.{ProxyId}
use Rattle.pdu.proofs.SpoilingLaws.{spoils_itself}
use Rattle.pdu.proofs.RequestLaws.{RequestRoom, legal-room, known}
use Rattle.rewrite.specs.declared.Way.TheVariants.{ToBcd}
use Rattle.rewrite.specs.Frames.{forwarded}
use Rattle.rewrite.specs.Legal.{fault_under, checked_under, legal}
use Rattle.rewrite.specs.Strict.{Carries}
use Rattle.rewrite.specs.Strict.Carries.{single, multiple, both}
use Rattle.rewrite.specs.Plain.{OfBits, Rewrites}
use Rattle.rewrite.specs.Plain.OfBits.{coils_read, discrete_read, coil_written, coils_written}
use Rattle.rewrite.proofs.LegalLaws.{legal_checked, checked_codes}
use Rattle.rewrite.proofs.FrameLaws.{length-forwarded, stands_under}
use Rattle.rewrite.proofs.TurnedLaws.{stands_rewritten}
use Rattle.rewrite.proofs.RoomLaws.{carries_ends}
use Rattle.cache.specs.Cache.{Cached, in_cache}
use Rattle.cache.proofs.CacheLaws.{dropped_exactly}
use Rattle.book.specs.Book.{Live, Good, at, new_entry, marked}
use Rattle.book.specs.Desk.{free_place, free_id}
use Rattle.book.proofs.PlaceLaws.{at_low}
use Rattle.book.proofs.DeskLaws.{free-found, next-free}
use Rattle.machine.specs.Machine.{Machine, Note, opened, rules, settings, clocked}
use Rattle.machine.specs.Calls.{Outcome}
use Rattle.machine.specs.Calls.Call.{request}
use Rattle.machine.specs.Refusals.{refusal}
use Rattle.machine.specs.Requests.{wanted, party_of, closing, excepted, hit_on, joined_to, issued_to}
use Rattle.machine.specs.Outcomes.{outcome}
use Rattle.machine.specs.Spelled.{spelled, asking}
use Rattle.machine.specs.Cached.{NoHit}
use Rattle.machine.specs.declared.Answer.TheVariants as answer
use Rattle.machine.specs.Requested.{MayJoin, NoneToJoin, Hits, Issues, Joins, Excepts}
use Rattle.machine.specs.Answered.{showing}
use Rattle.machine.proofs.SpelledLaws.{party-spelled, asked_spelled, wanted-spelled}
use Rattle.machine.proofs.OutcomeLaws.{clocked-at, not-refused}
use Rattle.machine.proofs.RequestLaws.Comes.{faulty, hitting, joining, full, issuing}
use Rattle.machine.proofs.RequestLaws.{Comes, comes, request_passes, fault_checked}
use Rattle.machine.proofs.NumberLaws.{numbers_plainly}
use Rattle.machine.proofs.CachedLaws.{Stocked}
use Rattle.pdu.specs.declared.Fault.TheVariants as check
use Rattle.std.specs.Prelude.{Err}

-- what carries registers, and that 01, 02, 05 and 15 carry none
carrying : Asked → Bool
carrying (Read t s q) = false
carrying (SingleWrite Bits a v) = false
carrying (SingleWrite Registers a v) = true
carrying (MultipleWrite Bits s q) = false
carrying (MultipleWrite Registers s q) = true
carrying (MaskWrite a x y) = false
carrying (ReadWrite s q u p) = true
carrying Other = false

carries_some : {a : Asked} {base start quantity : ℕ} → Carries a base start quantity → carrying a ≡ true
unfolding carrying
carries_some single = refl
carries_some multiple = refl
carries_some both = refl

spelled_none : (n a b c d : ℕ) → OfBits n → carrying (spelled n a b c d) ≡ false
unfolding carrying spelled
spelled_none n a b c d coils_read = refl
spelled_none n a b c d discrete_read = refl
spelled_none n a b c d coil_written = refl
spelled_none n a b c d coils_written = refl

-- A request 01, 02, 05 or 15 carries no registers.
pub bits_carry_none : (f : List ℕ) → OfBits (get_or f 7 0) → (base start quantity : ℕ) → Carries (asking f).asked base start quantity → ⊥
unfolding asking
bits_carry_none f b base start quantity c = true≢false (sym (carries_some c) ∙ spelled_none (get_or f 7 0) _ _ _ _ b)

-- BYTES

over-size : (w b : List ℕ) → length w ≤ length b → length (over w b) ≡ length b
over-size w b h = simp (length-append, length-drop) (omega arith)

over-behind : (w b : List ℕ) (k : ℕ) → length w ≤ k → get_or (over w b) k 0 ≡ get_or b k 0
over-behind w b k h =
    let e : k ≡ length w + (k - length w) = omega arith in
    ap (λ (n : ℕ). get_or (over w b) n 0) e ∙ get_or-append-add w (drop (length w) b) (k - length w) 0 ∙ get_or-drop (length w) b (k - length w) 0 ∙ ap (λ (n : ℕ). get_or b n 0) (sym e)

-- what is behind the id of a frame that is rewritten, and of one that passes
carried : {a : Asked} {base start quantity : ℕ} → Carries a base start quantity → (tags : List Tag) (f : List ℕ) (id : ℕ) (o : List ℕ) → RequestRoom a f
    → Rewrites ToBcd tags f (over (laid id (forwarded tags a f).bytes) o) (forwarded tags a f).partial (forwarded tags a f).value base start quantity
unfolding forwarded
carried (single {a = a} {v = v}) tags f id o r = stands_rewritten ToBcd _ _ _ tags f id o (omega arith) (carries_ends f {start = a} (single {v = v}) r)
carried (multiple {s = s} {q = q}) tags f id o r = stands_rewritten ToBcd _ _ _ tags f id o (omega arith) (carries_ends f {start = s} (multiple {q = q}) r)
carried (both {s = s} {q = q} {u = u} {p = p}) tags f id o r = stands_rewritten ToBcd _ _ _ tags f id o (omega arith) (carries_ends f {start = u} (both {s = s} {q = q} {p = p}) r)

passed_on : (a : Asked) → ((base start quantity : ℕ) → Carries a base start quantity → ⊥) → (tags : List Tag) (f : List ℕ)
    → ((forwarded tags a f).bytes ≡ f) × ((forwarded tags a f).partial ≡ 0) × ((forwarded tags a f).value ≡ 0)
unfolding forwarded
passed_on (Read t s q) n tags f = (refl, refl, refl)
passed_on (SingleWrite Bits a v) n tags f = (refl, refl, refl)
passed_on (SingleWrite Registers a v) n tags f = absurd (n _ _ _ single)
passed_on (MultipleWrite Bits s q) n tags f = (refl, refl, refl)
passed_on (MultipleWrite Registers s q) n tags f = absurd (n _ _ _ multiple)
passed_on (MaskWrite a x y) n tags f = (refl, refl, refl)
passed_on (ReadWrite s q u p) n tags f = absurd (n _ _ _ both)
passed_on Other n tags f = (refl, refl, refl)

-- f's own bytes 0, 1 and 7 in an exception frame
own_bytes : (a b n : ℕ) → b < 256 → n < 128 → ((a * 256 + b) / 256 ≡ a) × ((a * 256 + b) % 256 ≡ b) × ((n + 128) % 256 ≡ n + 128)
own_bytes a b n h l = (omega arith, omega arith, omega arith)

-- what stands at a place, and elsewhere, once an entry was put there and every entry is marked
module _ (x : What → Note → Note) (ps : List (Option (Live What Note))) (k : ℕ) (e : Live What Note) where
  marked-here : k < length ps → get_or (map (Option.map (marked x)) (set ps k (some e))) k none ≡ some (marked x e)
  marked-here h = get_or-map (Option.map (marked x)) (set ps k (some e)) k none ∙ ap (Option.map (marked x)) (get_or-set_same ps k (some e) none h)

  marked_elsewhere : (j : ℕ) → (j ≡ k → ⊥) → get_or (map (Option.map (marked x)) (set ps k (some e))) j none ≡ Option.map (marked x) (get_or ps j none)
  marked_elsewhere j n = get_or-map (Option.map (marked x)) (set ps k (some e)) j none ∙ ap (Option.map (marked x)) (get_or-set_other ps k j (some e) none n)

-- THE FOUR OUTCOMES

module _ (m : Machine) (c t : ℕ) (f o : List ℕ) (g : Good rules m.book) (s : Stocked m.cache) (h : refusal m (request c t f o) ≡ 0) where
  set_clock : (clocked m t).book.clock ≡ t
  set_clock = clocked-at m (request c t f o) t h refl

  fits_in : (8 ≤ length f) × (length f ≤ length o) × (260 ≤ length o)
  fits_in =
      let p = request_passes m c t f o h in
      let r = framed f p.1 in
      let b = ltb-false (length o) frame_buffer p.0 in
      omega arith

  hit_is : legal (settings m) f ≡ true → (k : ℕ) (e : Cached) → in_cache m.cache k ≡ some e → e.what ≡ asking f → t - e.filled < e.life → Hits m c t f o (hit_on (clocked m t) f o (some e))
  unfolding hit_on
  hit_is is_legal k e there same young =
      let room = fits_in in
      let y = framed e.bytes (s.frames k e there).0 in
      let size : length (laid (id_of f) e.bytes) ≡ length e.bytes = length-laid (id_of f) e.bytes (omega arith) in
      record {
        is_legal = is_legal;
        place = k;
        cached = e;
        there = there;
        same = same;
        young = young;
        says = refl;
        report = numbers_plainly.hit _ _ _;
        high = λ b. (own_bytes (get_or f 0 0) (get_or f 1 0) 0 (b 1) (omega arith)).0;
        low = λ b. (own_bytes (get_or f 0 0) (get_or f 1 0) 0 (b 1) (omega arith)).1;
        bytes = λ j a b. stands_under (id_of f) e.bytes o j a b;
        behind = λ j b. over-behind (laid (id_of f) e.bytes) o j (omega arith);
        size = over-size (laid (id_of f) e.bytes) o (omega arith);
        frame = refl;
        listed = refl;
        after = ap (showing m) set_clock;
      }

  issued_is : legal (settings m) f ≡ true → NoHit m t f → NoneToJoin m t f → free_place rules m.book < places → Issues m c t f o (issued_to (clocked m t) c f o)
  unfolding issued_to closing
  issued_is is_legal no_hit alone l =
      let id = free_id rules m.book in
      let place = free_place rules m.book in
      let entered : Live What Note = new_entry id (wanted f) opened ((clocked m t).book.clock + (settings m).timeout) (party_of c f) in
      let sent = forwarded (settings m).tags (asked_of f) f in
      let long : length sent.bytes ≡ length f = length-forwarded (settings m).tags f (asked_of f) in
      let room = fits_in in
      let size : length (laid id sent.bytes) ≡ length f = length-laid id sent.bytes (omega arith) ∙ long in
      record {
        is_legal = is_legal;
        no_hit = no_hit;
        alone = alone;
        id = id;
        partial = sent.partial;
        value = sent.value;
        next = next-free rules m.book g;
        says = refl;
        high = refl;
        low = refl;
        rewritten = λ base start quantity x.
            carried (rw (← asked_spelled f) at x) (settings m).tags f id o (legal-room f (asked_of f) ((legal_checked (settings m) f).0 is_legal).1);
        unchanged = λ n.
            let p = passed_on (asked_of f) (λ base start quantity x. n base start quantity (rw (asked_spelled f) at x)) (settings m).tags f in
            (λ k a b. stands_under id sent.bytes o k a (rw long b) ∙ ap (λ (x : List ℕ). get_or x k 0) p.0, p.1, p.2);
        behind = λ k b. over-behind (laid id sent.bytes) o k (omega arith);
        size = over-size (laid id sent.bytes) o (omega arith);
        frame = ap (λ (a : Asked). over (laid id (forwarded (settings m).tags a f).bytes) o) (asked_spelled f);
        listed = refl;
        place = place;
        free = (free-found rules m.book l).0;
        entered = marked-here (closing (wanted f)) m.book.places place entered (rw g.long l) ∙ rw (spoils_itself (wanted f), ← wanted-spelled f, ← party-spelled c f, set_clock) refl;
        others = λ k n. marked_elsewhere (closing (wanted f)) m.book.places place entered k n ∙ rw (← wanted-spelled f) refl;
        cached = λ k e. rw (wanted-spelled f) (dropped_exactly (asking f) m.cache k e);
        cursor = refl;
        clock = set_clock;
        attached = refl;
        rule = refl;
      }

  joined_is : legal (settings m) f ≡ true → NoHit m t f → (k : ℕ) (e : Live What Note) → at m.book k ≡ some e → MayJoin m t f e → ((j : ℕ) (d : Live What Note) → at m.book j ≡ some d → MayJoin m t f d → e.id ≤ d.id)
      → Joins m c t f o (joined_to (clocked m t) k c f o (some e))
  unfolding joined_to
  joined_is is_legal no_hit k e there may smallest =
      record {
        is_legal = is_legal;
        no_hit = no_hit;
        place = k;
        entry = e;
        there = there;
        may = may;
        smallest = smallest;
        says = refl;
        written = refl;
        listed = refl;
        added = get_or-set_same m.book.places k _ none (at_low m.book.places k e there) ∙ rw (← party-spelled c f) refl;
        others = λ j n. get_or-set_other m.book.places k j _ none n;
        cache = refl;
        cursor = refl;
        clock = set_clock;
        attached = refl;
        rule = refl;
      }

  excepted_is : (n : ℕ) → ((n ≡ 4 → ⊥) → checked_under (settings m).tags f ≡ Err (check.Excepted n)) → Excepts m t f o (excepted (clocked m t) n f o)
  unfolding excepted exception
  excepted_is n checked =
      let room = fits_in in
      let low = (known (get_or f 7 0)).0 (request_passes m c t f o h).2 in
      record {
        code = n;
        codes = ⊎_elim (λ e. inr (inr e)) (λ z. ⊎_elim (λ e. inr (inl e)) inl (checked_codes (settings m).tags f n (checked z))) (eq_or n 4);
        checked = checked;
        says = refl;
        frame = λ bytes. let b = own_bytes (get_or f 0 0) (get_or f 1 0) (get_or f 7 0) (bytes 1) (omega arith) in cc (b.0, b.1, b.2);
        size = omega (arith, length-drop 9 o);
        listed = refl;
        places = refl;
        cache = refl;
        cursor = refl;
        clock = set_clock;
        attached = refl;
        rule = refl;
      }

  one_of_four : {d : Outcome} → Comes m c t f o d → Hits m c t f o d ⊎ (Issues m c t f o d ⊎ (Joins m c t f o d ⊎ Excepts m t f o d))
  one_of_four (faulty z) = inr (inr (inr (excepted_is (fault_under (settings m).tags f) (λ n. fault_checked m c t f o h z))))
  one_of_four (hitting z k e there same young) = inl (hit_is z k e there same young)
  one_of_four (joining z no_hit k e there may smallest) = inr (inr (inl (joined_is z no_hit k e there may smallest)))
  one_of_four (full z no_hit alone all) = inr (inr (inr (excepted_is device_failure (λ n. absurd (n refl)))))
  one_of_four (issuing z no_hit alone l) = inr (inl (issued_is z no_hit alone l))

  -- A request that is not refused is a hit, is issued, joins, or gets an exception.
  pub request_comes_to : Hits m c t f o (outcome m (request c t f o))
      ⊎ (Issues m c t f o (outcome m (request c t f o)) ⊎ (Joins m c t f o (outcome m (request c t f o)) ⊎ Excepts m t f o (outcome m (request c t f o))))
  request_comes_to = one_of_four (comes m c t f o g s.sorted h)

module _ (m : Machine) (c t : ℕ) (f o : List ℕ) (g : Good rules m.book) (s : Stocked m.cache) where
  -- Which of the four it is, is what is said.
  pub hit_is_said : (n p w : ℕ) → (outcome m (request c t f o)).says ≡ answer.Hit n p w → Hits m c t f o (outcome m (request c t f o))
  hit_is_said n p w e =
      ⊎_elim (λ x. x) (⊎_elim (λ x. never (cc)) (⊎_elim (λ x. never (cc)) (λ x. never (cc)))) (request_comes_to m c t f o g s (not-refused m (request c t f o) _ refl e))

  pub issue_is : (i : ProxyId) (n p w : ℕ) → (outcome m (request c t f o)).says ≡ answer.Issued i n p w → Issues m c t f o (outcome m (request c t f o))
  issue_is i n p w e =
      ⊎_elim (λ x. never (cc)) (⊎_elim (λ x. x) (⊎_elim (λ x. never (cc)) (λ x. never (cc)))) (request_comes_to m c t f o g s (not-refused m (request c t f o) _ refl e))

  pub join_is : (i : ProxyId) → (outcome m (request c t f o)).says ≡ answer.Joined i → Joins m c t f o (outcome m (request c t f o))
  join_is i e =
      ⊎_elim (λ x. never (cc)) (⊎_elim (λ x. never (cc)) (⊎_elim (λ x. x) (λ x. never (cc)))) (request_comes_to m c t f o g s (not-refused m (request c t f o) _ refl e))

  pub exception_is : (n : ℕ) → (outcome m (request c t f o)).says ≡ answer.Excepted n → Excepts m t f o (outcome m (request c t f o))
  exception_is n e =
      ⊎_elim (λ x. never (cc)) (⊎_elim (λ x. never (cc)) (⊎_elim (λ x. never (cc)) (λ x. x))) (request_comes_to m c t f o g s (not-refused m (request c t f o) _ refl e))
