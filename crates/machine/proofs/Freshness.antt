-- Over any history: what stands in the cache was put there by a reply that filled, and every call since left it there; so a hit shows the last reply that filled its place, and a reply that
-- filled is shown until something takes it out.
-- Assumes nothing.
use Prim.Native.Nat.{ℕ, ◌-◌, ◌<◌}
use mathlib.Core.Path.{◌≡◌, refl, ap, sym, ◌∙◌, subst, subst₂}
use mathlib.Core.Logic.{⊎_elim, ◌⊎◌, inl, inr}
use mathlib.Core.Bool.{true, true≢false}
use mathlib.Core.Option.{some, some-injective, none-ne-some}
use mathlib.Core.List.Memᴰ
use mathlib.Core.List.{List, [], ◌∷◌, ◌++◌, append_assoc}
use native.Mathlib.Omega.{arith}
use lib.ListN.{length, get_or, get_or-append}
use borrow.Author.Tests.{eq-eqb, eqb-true}
use Rattle.laws.specs.Bytes.{over}
use Rattle.laws.proofs.Choice.{true_or, eq_or, never}
use Rattle.laws.proofs.ListLaws.{grown, splits, each_none, each_more}
use Rattle.laws.proofs.LastLaws.{last_of_exactly}
use Rattle.wire.specs.Frame.{id_of}
use Rattle.settings.specs.Grammar.{Value}
use Rattle.settings.specs.TagWords.{Ascending}
use Rattle.pdu.specs.Requests.{fault_of}
use Rattle.pdu.specs.Replies.{excepts}
use Rattle.pdu.specs.declared.What.{What}
use Rattle.pdu.specs.Spoiling.{spoils}
use Rattle.pdu.specs.declared.ProxyId.{ProxyId}
use Rattle.pdu.specs.declared.Table.{Table}
use Rattle.pdu.specs.declared.Table.TheVariants.{Registers}
use Rattle.pdu.specs.declared.Asked.TheVariants.{Read}
use Rattle.pdu.proofs.ReadLaws.{equal_fault}
use Rattle.pdu.proofs.ReplyLaws.{answers_exact, excepts_exact}
use Rattle.rewrite.specs.Legal.{fault_under, legal}
use Rattle.rewrite.proofs.LegalLaws.{faultless_exactly, legal_checked, checked_legal, read_fault}
use Rattle.cache.specs.Cache.{Cached, in_cache}
use Rattle.cache.specs.Life.{life_by}
use Rattle.cache.specs.Plain.{Takes, Cacheable}
use Rattle.cache.proofs.CacheLaws.{taken_low, taken_exactly, emptied_exactly}
use Rattle.cache.proofs.LifeLaws.{cacheable_reads, cacheable_exactly, life_exactly}
use Rattle.book.specs.Book.{Live, Event, Good}
use Rattle.book.specs.Book.Event.{issued}
use Rattle.book.specs.Desk.{id_place}
use Rattle.book.specs.Follower.{state_after}
use Rattle.book.proofs.PlaceLaws.{at_low}
use Rattle.book.proofs.DeskLaws.{id_found}
use Rattle.book.proofs.History.{always, after_one}
use Rattle.machine.specs.Machine.{Machine, Note, made, rules, settings}
use Rattle.machine.specs.Calls.{Call, Outcome}
use Rattle.machine.specs.Calls.Call.{request, reply}
use Rattle.machine.specs.Refusals.{refusal, entry_for}
use Rattle.machine.specs.Requests.{wanted}
use Rattle.machine.specs.Replies.{cached_of}
use Rattle.machine.specs.Outcomes.{outcome}
use Rattle.machine.specs.Spelled.{asking}
use Rattle.machine.specs.Histories.{after_calls, told_by}
use Rattle.machine.specs.Closed.{concerns_read, Unspoiled}
use Rattle.machine.specs.Cached.{Fills, KeptFor, Put, Spares, LastReply, Latest, Shows}
use Rattle.machine.specs.Requested.{Hits, Issues, Joins, Excepts}
use Rattle.machine.specs.declared.Answer.TheVariants as answer
use Rattle.machine.proofs.SpelledLaws.{asked_spelled, wanted-spelled}
use Rattle.machine.proofs.OutcomeLaws.{reply_finds, not-refused}
use Rattle.machine.proofs.RequestLaws.{legal_faultless, exception_04}
use Rattle.machine.proofs.AnswerLaws.{reply_matches}
use Rattle.machine.proofs.AskLaws.{request_comes_to, issue_is}
use Rattle.machine.proofs.CachedLaws.{Filling, entering, place_of, fills_exactly, entering_reads, entering_says, entering_wrote, entering_at, entering_life, entering_partial, entering_what, none_partial, Leaves, was_there, still_there, now_there, others_stay}
use Rattle.machine.proofs.Histories.{product, in_force_lem, stocked}
use Rattle.machine.proofs.ClosedLaws.{open_exactly}
use Rattle.machine.proofs.StateLaws.{issue_origin}

-- requests that ask one read are faulty alike
faulty_alike : (f g : List ℕ) (t : Table) (s q : ℕ) → asking f ≡ asking g → (asking f).asked ≡ Read t s q → fault_of f ≡ fault_of g
faulty_alike f g t s q e a =
    let w : wanted f ≡ wanted g = wanted-spelled f ∙ e ∙ sym (wanted-spelled g) in
    equal_fault f g t s q (ap (λ (y : What). y.function) w) (ap (λ (y : What). y.asked) w) (asked_spelled f ∙ a)

-- A REPLY THAT FILLS, in plain words and by the definition

good : (v : Value) (xs : List Call) → Good rules (after_calls v xs).book
good v xs = (always (product v) xs).good

module _ (v : Value) (xs : List Call) (x : Call) where
  -- What fills by the definition fills in plain words,
  pub plainly_fills : (f : Filling (after_calls v xs) x) (r : What) → (entering f).what ≡ r → Fills (after_calls v xs) (told_by v xs) x r
  plainly_fills f r q =
      let m = after_calls v xs in
      let tags = (settings m).tags in
      let w = f.entry.what in
      let own : w ≡ r = sym (entering_what f) ∙ q in
      let does = (fills_exactly tags f.entry f.frame).0 f.does in
      let read = cacheable_reads tags w.asked does.1.1 in
      let seat = id_place rules m.book (id_of f.frame) in
      let found = id_found rules m.book (good v xs) (id_of f.frame) (rw (good v xs).long at (at_low m.book.places seat f.entry f.there)) in
      let h : refusal m (reply f.time f.frame f.out f.list) ≡ 0 = rw f.is at f.granted in
      record {
        time = f.time;
        frame = f.frame;
        out = f.out;
        list = f.list;
        is = f.is;
        granted = f.granted;
        seat = seat;
        entry = f.entry;
        there = f.there;
        named = ap (λ (y : Live What Note). y.id) (some-injective _ _ (sym f.there ∙ found.1)) ∙ found.2 ∙ omega arith;
        asked = own;
        plain = ⊎_elim
            (λ z. absurd (true≢false (sym ((excepts_exact w.function f.frame).1 z) ∙ does.0)))
            (λ z. z.0)
            ((answers_exact w f.frame).0 (reply_matches m f.time f.frame f.out f.list h f.entry f.there)).1
            ∙ ap (λ (y : What). y.function) own;
        unclosed = rw own at ((open_exactly v xs seat f.entry f.there).0 does.1.0);
        start = read.0;
        quantity = read.1;
        reads = ap (λ (y : What). y.asked) (sym own) ∙ read.2;
        covered = (cacheable_exactly read.0 read.1 tags).0 (rw read.2 at does.1.1);
      }

  -- and the other way round.
  pub by_definition : (r : What) (f : Fills (after_calls v xs) (told_by v xs) x r) → (g : Filling (after_calls v xs) x) × ((entering g).what ≡ r) × (g.time ≡ f.time)
  unfolding entering cached_of
  by_definition r f =
      let m = after_calls v xs in
      let tags = (settings m).tags in
      let h : refusal m (reply f.time f.frame f.out f.list) ≡ 0 = rw f.is at f.granted in
      let seat = id_place rules m.book (id_of f.frame) in
      let e = reply_finds m f.time f.frame f.out f.list h in
      let found = id_found rules m.book (good v xs) (id_of f.frame) (rw (good v xs).long at (at_low m.book.places seat e.0 e.1)) in
      let name : f.entry.id ≡ id_of f.frame = f.named ∙ omega arith in
      let here : seat ≡ f.seat = (good v xs).differ seat f.seat found.0 f.entry found.1 f.there (found.2 ∙ sym name) in
      let there : entry_for m f.frame ≡ some f.entry = rw here f.there in
      let g : Filling m x = record {
        time = f.time;
        frame = f.frame;
        out = f.out;
        list = f.list;
        entry = f.entry;
        is = f.is;
        granted = f.granted;
        there = there;
        does = (fills_exactly tags f.entry f.frame).1 (
          ⊎_elim
              (λ (z : excepts f.entry.what.function f.frame ≡ true).
              let y = ((excepts_exact f.entry.what.function f.frame).0 z).0 in
              let n : f.entry.what.function ≡ r.function = ap (λ (a : What). a.function) f.asked in
              absurd (omega (arith, f.plain)))
              (λ z. z)
              (true_or (excepts f.entry.what.function f.frame)),
          ((open_exactly v xs f.seat f.entry f.there).1 (rw f.asked f.unclosed), rw (f.asked, f.reads) ((cacheable_exactly f.start f.quantity tags).1 f.covered)),
        );
      } in
      (g, f.asked, refl)

  -- The place that it takes.
  pub takes-place : (f : Filling (after_calls v xs) x) → Takes f.time (entering f).what (after_calls v xs).cache (place_of f)
  takes-place f =
      let c = (after_calls v xs).cache in
      let s = (stocked v xs).sorted in
      subst (λ (t : ℕ). Takes t (entering f).what c (place_of f)) (entering_at f)
      ((taken_exactly c s (entering f).filled (entering f).what (entering_reads f) (place_of f) (taken_low c s (entering f).filled (entering f).what (entering_reads f))).0 refl)

  pub takes_only : (f : Filling (after_calls v xs) x) (p : ℕ) → p < 64 → Takes f.time (entering f).what (after_calls v xs).cache p → place_of f ≡ p
  takes_only f p l t = (taken_exactly (after_calls v xs).cache (stocked v xs).sorted (entering f).filled (entering f).what (entering_reads f) p l).1 (rw (entering_at f) t)

  -- A call that leaves a place as it is, in plain words and by the definition.
  pub plainly_spares : (r : What) (p : ℕ) → p < 64 → Leaves (after_calls v xs) x r p → Spares (after_calls v xs) (told_by v xs) x r p
  plainly_spares r p l a = record {
    issues = a.issues;
    link = a.link;
    place = λ w f t. let g = by_definition w f in a.place g.0 (takes_only g.0 p l (rw (g.1, g.2) t));
  }

  pub leaves_by_definition : (r : What) (p : ℕ) → Spares (after_calls v xs) (told_by v xs) x r p → Leaves (after_calls v xs) x r p
  unfolding plainly_fills
  leaves_by_definition r p a = record {
    issues = a.issues;
    link = a.link;
    place = λ f q. a.place (entering f).what (plainly_fills f (entering f).what refl) (rw q at (takes-place f));
  }

  -- What enters came at the reply's time, and lives as long as its read.
  entering_kept : (f : Filling (after_calls v xs) x) (s q : ℕ) → (entering f).what.asked ≡ Read Registers s q → Cacheable (settings (after_calls v xs)).tags s q
      → KeptFor (settings (after_calls v xs)).tags s q f.time (entering f)
  entering_kept f s q reads c =
      let tags = (settings (after_calls v xs)).tags in
      record { came = entering_at f; lives = (life_exactly tags Registers s q c (entering f).life).0 (sym (entering_life f ∙ ap (life_by tags) reads)) }

  -- A reply that fills takes one place, and is put there.
  pub one_place : (r : What) (f : Fills (after_calls v xs) (told_by v xs) x r)
      → (p : ℕ) × (p < 64) × Takes f.time r (after_calls v xs).cache p × ((q : ℕ) → q < 64 → Takes f.time r (after_calls v xs).cache q → q ≡ p)
      × Put (settings (after_calls v xs)).tags f.start f.quantity f.time r p (after_calls v xs).cache (outcome (after_calls v xs) x).after.cache
  one_place r f =
      let b = by_definition r f in
      let g = b.0 in
      let c = (after_calls v xs).cache in (
        place_of g,
        taken_low c (stocked v xs).sorted (entering g).filled (entering g).what (entering_reads g),
        subst₂ (λ (t : ℕ) (w : What). Takes t w c (place_of g)) b.2 b.1 (takes-place g),
        λ q l t. sym (takes_only g q l (subst₂ (λ (u : ℕ) (w : What). Takes u w c q) (sym b.2) (sym b.1) t)),
        record {
          entry = entering g;
          there = now_there (after_calls v xs) x (stocked v xs) g;
          asks = b.1;
          kept = subst (λ (t : ℕ). KeptFor (settings (after_calls v xs)).tags f.start f.quantity t (entering g)) b.2
              (entering_kept g f.start f.quantity (ap (λ (w : What). w.asked) b.1 ∙ f.reads) f.covered);
          others = others_stay (after_calls v xs) x (stocked v xs) g;
        },
      )

  -- What stands in a place after a call stood there before, or the call is a reply that filled and took it.
  pub nothing_else : (k : ℕ) (e : Cached) → in_cache (outcome (after_calls v xs) x).after.cache k ≡ some e
      → (in_cache (after_calls v xs).cache k ≡ some e)
      ⊎ ((f : Fills (after_calls v xs) (told_by v xs) x e.what) × Takes f.time e.what (after_calls v xs).cache k × KeptFor (settings (after_calls v xs)).tags f.start f.quantity f.time e)
  unfolding plainly_fills
  nothing_else k e h =
      ⊎_elim
      (λ w. inl w.0)
      (λ (w : (f : Filling (after_calls v xs) x) × (e ≡ entering f) × (k ≡ place_of f)).
      let own : (entering w.0).what ≡ e.what = ap (λ (y : Cached). y.what) (sym w.1) in
      let f = plainly_fills w.0 e.what own in
      inr (
        f,
        subst₂ (λ (u : What) (p : ℕ). Takes w.0.time u (after_calls v xs).cache p) own (sym w.2) (takes-place w.0),
        subst (λ (y : Cached). KeptFor (settings (after_calls v xs)).tags f.start f.quantity w.0.time y) (sym w.1)
            (entering_kept w.0 f.start f.quantity (ap (λ (y : What). y.asked) own ∙ f.reads) f.covered),
      ))
      (was_there (after_calls v xs) x (stocked v xs) k e h)

-- WHAT STANDS IN THE CACHE

module _ (v : Value) where
  abbrev A : List Call → Machine
  A = after_calls v

  abbrev T : List Call → List (Event What)
  T = told_by v

  -- what stands in the place k after the calls xs: the reply among them that put it there, and what no call since did
  record Backed (xs : List Call) (k : ℕ) (e : Cached) : Type 0 where
    before : List Call
    call : Call
    later : List Call
    split : xs ≡ before ++ call ∷ later
    filling : Filling (A before) call
    is : e ≡ entering filling
    place : k ≡ place_of filling
    spared : (mid : List Call) (y : Call) (rest : List Call) → later ≡ mid ++ y ∷ rest → Spares (A (before ++ call ∷ mid)) (T (before ++ call ∷ mid)) y e.what k
    latest : (mid : List Call) (y : Call) (rest : List Call) → later ≡ mid ++ y ∷ rest → Fills (A (before ++ call ∷ mid)) (T (before ++ call ∷ mid)) y e.what → ⊥

  in_places : (xs : List Call) (k : ℕ) (e : Cached) → in_cache (A xs).cache k ≡ some e → k < 64
  in_places xs k e h = rw (stocked v xs).sorted.long at (at_low (A xs).cache k e h)

  backed_next : (xs : List Call) (x : Call) → ((k : ℕ) (e : Cached) → in_cache (A xs).cache k ≡ some e → Backed xs k e)
      → (k : ℕ) (e : Cached) → in_cache (A (xs ++ (x ∷ []))).cache k ≡ some e → Backed (xs ++ (x ∷ [])) k e
  backed_next xs x h k e there =
      let next : A (xs ++ (x ∷ [])) ≡ (outcome (A xs) x).after = after_one (product v) (made v) xs x in
      ⊎_elim
      (λ (w : (in_cache (A xs).cache k ≡ some e) × Leaves (A xs) x e.what k × ((f : Filling (A xs) x) → (entering f).what ≡ e.what → ⊥)).
      let b = h k e w.0 in
      let spares = plainly_spares v xs x e.what k (in_places xs k e w.0) w.1 in
      let alone : Fills (A xs) (T xs) x e.what → ⊥ = λ f. let g = by_definition v xs x e.what f in w.2 g.0 g.1 in
      record {
        before = b.before;
        call = b.call;
        later = b.later ++ (x ∷ []);
        split = ap (λ ys. ys ++ (x ∷ [])) b.split ∙ append_assoc b.before (b.call ∷ b.later) (x ∷ []);
        filling = b.filling;
        is = b.is;
        place = b.place;
        spared = each_more (λ mid y. Spares (A (b.before ++ b.call ∷ mid)) (T (b.before ++ b.call ∷ mid)) y e.what k) b.later x b.spared
            (subst (λ ys. Spares (A ys) (T ys) x e.what k) b.split spares);
        latest = each_more (λ mid y. Fills (A (b.before ++ b.call ∷ mid)) (T (b.before ++ b.call ∷ mid)) y e.what → ⊥) b.later x b.latest
            (subst (λ ys. Fills (A ys) (T ys) x e.what → ⊥) b.split alone);
      })
      (λ (w : (f : Filling (A xs) x) × (e ≡ entering f) × (k ≡ place_of f)).
      record {
        before = xs;
        call = x;
        later = [];
        split = refl;
        filling = w.0;
        is = w.1;
        place = w.2;
        spared = λ mid y rest q. absurd (each_none mid y rest q);
        latest = λ mid y rest q. absurd (each_none mid y rest q);
      })
      (was_there (A xs) x (stocked v xs) k e (rw next at there))

  backed : (xs : List Call) (k : ℕ) (e : Cached) → in_cache (A xs).cache k ≡ some e → Backed xs k e
  unfolding state_after
  backed = grown (λ xs. (k : ℕ) (e : Cached) → in_cache (A xs).cache k ≡ some e → Backed xs k e) (λ k e h. absurd (none-ne-some e (sym (emptied_exactly k) ∙ h))) backed_next

  -- A HIT SHOWS A REPLY

  -- the frame and the counts of a hit on what a reply left are that reply's
  shown : (xs : List Call) (c t : ℕ) (f o : List ℕ) (d : Outcome) (h : Hits (A xs) c t f o d) (before : List Call) (call : Call) (g : Filling (A before) call) → h.cached ≡ entering g
      → Shows f o d (outcome (A before) call)
  shown xs c t f o d h before call g q =
      let e = h.cached in
      let same : (entering g).bytes ≡ e.bytes = ap (λ (y : Cached). y.bytes) (sym q) in
      let wrote : (outcome (A before) call).written ≡ over e.bytes g.out = entering_wrote g ∙ rw same refl in
      record {
        id = record { 0 = g.entry.id };
        size = length e.bytes;
        parties = length g.entry.parties;
        partial = e.partial;
        value = e.value;
        replied = entering_says g ∙ rw (← q) refl;
        says = h.says;
        high = h.high;
        low = h.low;
        bytes = λ k a b. h.bytes k a b ∙ sym (ap (λ (y : List ℕ). get_or y k 0) wrote ∙ get_or-append e.bytes _ 0 k b);
        behind = h.behind;
        long = h.size;
      }

  hit_on_lem : (xs : List Call) (c t : ℕ) (f o : List ℕ) (d : Outcome) (h : Hits (A xs) c t f o d) → Backed xs h.place h.cached
      → (s : LastReply A T xs t (asking f)) × Latest A T xs t (asking f) s × Shows f o d (outcome (A s.before) s.call)
  unfolding plainly_fills
  hit_on_lem xs c t f o d h b =
      let e = h.cached in
      let tags = (settings (A b.before)).tags in
      let own : (entering b.filling).what ≡ asking f = ap (λ (y : Cached). y.what) (sym b.is) ∙ h.same in
      let fill = plainly_fills v b.before b.call b.filling (asking f) own in
      let life : e.life ≡ life_by tags (Read Registers fill.start fill.quantity) =
      ap (λ (y : Cached). y.life) b.is ∙ entering_life b.filling ∙ ap (λ (w : What). life_by tags w.asked) own ∙ ap (life_by tags) fill.reads in
      let came : e.filled ≡ b.filling.time = ap (λ (y : Cached). y.filled) b.is ∙ entering_at b.filling in
      let s : LastReply A T xs t (asking f) = record {
        before = b.before;
        call = b.call;
        later = b.later;
        split = b.split;
        fills = fill;
        place = h.place;
        low = in_places xs h.place e h.there;
        takes = subst₂ (λ (w : What) (p : ℕ). Takes b.filling.time w (A b.before).cache p) own (sym b.place) (takes-place v b.before b.call b.filling);
        life = e.life;
        smallest = (life_exactly tags Registers fill.start fill.quantity fill.covered e.life).0 (sym life);
        young = (let y = h.young in omega arith);
        spared = subst (λ (r : What). (mid : List Call) (y : Call) (rest : List Call) → b.later ≡ mid ++ y ∷ rest → Spares (A (b.before ++ b.call ∷ mid)) (T (b.before ++ b.call ∷ mid)) y r h.place) h.same b.spared;
      } in (
        s,
        subst (λ (r : What). (mid : List Call) (y : Call) (rest : List Call) → b.later ≡ mid ++ y ∷ rest → Fills (A (b.before ++ b.call ∷ mid)) (T (b.before ++ b.call ∷ mid)) y r → ⊥) h.same b.latest,
        shown xs c t f o d h b.before b.call b.filling b.is,
      )

  -- A hit shows the last reply that filled for what it asks, younger than its life.
  pub hit_shows : (xs : List Call) (c t : ℕ) (f o : List ℕ) (d : Outcome) → Hits (A xs) c t f o d
      → (s : LastReply A T xs t (asking f)) × Latest A T xs t (asking f) s × Shows f o d (outcome (A s.before) s.call)
  hit_shows xs c t f o d h = hit_on_lem xs c t f o d h (backed xs h.place h.cached h.there)

  -- What is cached counts no tag that is raw for partial cover.
  pub none_cut_cached : Ascending 0 v.tags → (xs : List Call) (k : ℕ) (e : Cached) → in_cache (A xs).cache k ≡ some e → e.partial ≡ 0
  none_cut_cached asc xs k e h =
      let b = backed xs k e h in
      let g = b.filling in
      ap (λ (y : Cached). y.partial) b.is ∙ entering_partial g
      ∙ none_partial (settings (A b.before)).tags (rw (in_force_lem v b.before) asc) g.entry g.frame g.does

  -- A REPLY THAT FILLED IS SHOWN

  -- what filled a place stands there as long as each call since left it
  stays : (before : List Call) (call : Call) (g : Filling (A before) call) (later : List Call)
      → ((mid : List Call) (y : Call) (rest : List Call) → later ≡ mid ++ y ∷ rest → Spares (A (before ++ call ∷ mid)) (T (before ++ call ∷ mid)) y (entering g).what (place_of g))
      → in_cache (A (before ++ call ∷ later)).cache (place_of g) ≡ some (entering g)
  stays before call g =
      grown (λ later. ((mid : List Call) (y : Call) (rest : List Call) → later ≡ mid ++ y ∷ rest → Spares (A (before ++ call ∷ mid)) (T (before ++ call ∷ mid)) y (entering g).what (place_of g))
      → in_cache (A (before ++ call ∷ later)).cache (place_of g) ≡ some (entering g))
      (λ spared. rw (after_one (product v) (made v) before call) (now_there (A before) call (stocked v before) g))
      (λ later y so_far spared.
      let ys = before ++ call ∷ later in
      let here = so_far (λ mid z rest q. spared mid z (rest ++ (y ∷ [])) (ap (λ zs. zs ++ (y ∷ [])) q ∙ append_assoc mid (z ∷ rest) (y ∷ []))) in
      let next : A (before ++ call ∷ (later ++ (y ∷ []))) ≡ (outcome (A ys) y).after = ap A (sym (append_assoc before (call ∷ later) (y ∷ []))) ∙ after_one (product v) (made v) ys y in
      rw next (still_there (A ys) y (stocked v ys) (place_of g) (entering g) here (leaves_by_definition v ys y (entering g).what (place_of g) (spared later y [] refl))))

  -- what a filling reply's entry asked was a legal request
  was_legal : (xs : List Call) (id : ℕ) (r : What) (d : ℕ) → Unspoiled (T xs) id r d → (g : List ℕ) × (r ≡ asking g) × (fault_of g ≡ 0)
  was_legal xs id r d (p, u) =
      let i = (last_of_exactly (concerns_read id r) (T xs) (issued id r d p)).0 u in
      let o = issue_origin v xs id r d p (rw i.2 (Memᴰ.append_right i.0 (Memᴰ.head refl))) in
      let m = A o.before in
      let says = o.says.3 in
      let x = issue_is m o.client o.time o.frame o.out (good v o.before) (stocked v o.before) _ _ _ _ says in
      let h = not-refused m (request o.client o.time o.frame o.out) _ refl says in
      (o.frame, o.spells.0, eqb-true (fault_of o.frame) 0 ((faultless_exactly (settings m).tags o.frame).0 (sym (legal_faultless m o.client o.time o.frame o.out h) ∙ x.is_legal)).0)

  -- A reply that filled for what a request asks, is younger than its life and was left there since is shown by a hit, if the request is not refused.
  pub then_hit : (xs : List Call) (c t : ℕ) (f o : List ℕ) (s : LastReply A T xs t (asking f)) → refusal (A xs) (request c t f o) ≡ 0
      → Shows f o (outcome (A xs) (request c t f o)) (outcome (A s.before) s.call)
  then_hit xs c t f o s h =
      let m = A xs in
      let b = by_definition v s.before s.call (asking f) s.fills in
      let g = b.0 in
      let e = entering g in
      let tags = (settings (A s.before)).tags in
      let place : place_of g ≡ s.place = takes_only v s.before s.call g s.place s.low (subst₂ (λ (u : ℕ) (w : What). Takes u w (A s.before).cache s.place) (sym b.2) (sym b.1) s.takes) in
      let spared : (mid : List Call) (y : Call) (rest : List Call) → s.later ≡ mid ++ y ∷ rest
      → Spares (A (s.before ++ s.call ∷ mid)) (T (s.before ++ s.call ∷ mid)) y e.what (place_of g) =
      λ mid y rest q. subst₂ (λ (w : What) (p : ℕ). Spares (A (s.before ++ s.call ∷ mid)) (T (s.before ++ s.call ∷ mid)) y w p) (sym b.1) (sym place) (s.spared mid y rest q) in
      let there : in_cache m.cache (place_of g) ≡ some e = subst (λ ys. in_cache (A ys).cache (place_of g) ≡ some e) (sym s.split) (stays s.before s.call g s.later spared) in
      let life : e.life ≡ s.life =
      entering_life g ∙ ap (λ (w : What). life_by tags w.asked) b.1 ∙ ap (life_by tags) s.fills.reads
      ∙ (life_exactly tags Registers s.fills.start s.fills.quantity s.fills.covered s.life).1 s.smallest in
      let came : e.filled ≡ s.fills.time = entering_at g ∙ b.2 in
      let young : t - e.filled < e.life = (let y = s.young in omega arith) in
      let asked = was_legal s.before s.fills.entry.id (asking f) s.fills.entry.deadline s.fills.unclosed in
      let is_legal : legal (settings m) f ≡ true =
      legal_faultless m c t f o h ∙ eq-eqb (fault_under (settings m).tags f) 0 (read_fault (settings m).tags f (asked_spelled f ∙ s.fills.reads) ∙ faulty_alike f asked.0 Registers s.fills.start s.fills.quantity asked.1 s.fills.reads ∙ asked.2) in
      ⊎_elim
      (λ (x : Hits m c t f o (outcome m (request c t f o))).
      let k : x.place ≡ place_of g = (stocked v xs).sorted.once x.place (place_of g) x.cached e x.there there (x.same ∙ sym b.1) in
      shown xs c t f o (outcome m (request c t f o)) x s.before s.call g (some-injective _ _ (sym x.there ∙ ap (λ (j : ℕ). in_cache m.cache j) k ∙ there)))
      (⊎_elim
      (λ (x : Issues m c t f o (outcome m (request c t f o))). absurd (x.no_hit (place_of g) e there b.1 young))
      (⊎_elim
      (λ (x : Joins m c t f o (outcome m (request c t f o))). absurd (x.no_hit (place_of g) e there b.1 young))
      (λ (x : Excepts m t f o (outcome m (request c t f o))). absurd (⊎_elim
      (λ (z : x.code ≡ 4). ((exception_04 m c t f o (good v xs) (stocked v xs).sorted).0 (x.says ∙ ap answer.Excepted z)).2 (place_of g) e there b.1 young)
      (λ (z : x.code ≡ 4 → ⊥). let l = (legal_checked (settings m) f).0 is_legal in never (cc (x.checked z, (checked_legal (settings m).tags f _).1 (l.1, l.2))))
      (eq_or x.code 4)))))
      (request_comes_to m c t f o (good v xs) (stocked v xs) h)

  -- The last reply that filled for a read came after every request that was issued and spoils it.
  pub came-after : (before : List Call) (c t : ℕ) (g o : List ℕ) (i : ProxyId) (n a b : ℕ) → (outcome (A before) (request c t g o)).says ≡ answer.Issued i n a b
      → (later : List Call) (u : ℕ) (r : What) → spoils (asking g) r ≡ true → (s : LastReply A T (before ++ request c t g o ∷ later) u r)
      → (mid : List Call) × (s.before ≡ before ++ request c t g o ∷ mid) × (later ≡ mid ++ s.call ∷ s.later)
  came-after before c t g o i n a b says later u r met s =
      let x = request c t g o in
      ⊎_elim
      (λ w. w)
      (⊎_elim
      (λ w. let e : x ≡ reply s.fills.time s.fills.frame s.fills.out s.fills.list = w.1 ∙ s.fills.is in never (cc))
      (λ w. absurd (true≢false (sym met ∙ (s.spared w.0 x later w.2).issues c t g o i n a b refl (ap (λ ys. (outcome (A ys) x).says) (sym w.1) ∙ says)))))
      (splits before x later s.before s.call s.later s.split)
