-- What a call makes of the cache: it stays, loses what an issued request spoils, takes a reply, or is emptied; and what the cache of every history is.
-- Assumes nothing.
use Prim.Native.Nat.{ℕ, ◌≤◌}
use mathlib.Core.Path.{◌≡◌, refl, ap, sym, subst, ◌∙◌}
use mathlib.Core.Logic.{⊎_elim, ◌⊎◌, inl, inr, ◌↔◌}
use mathlib.Core.Bool.{true, false, true≢false}
use mathlib.Core.Option.{Option, some, none, some-injective, none-ne-some}
use mathlib.Core.List.{List, Memᴰ}
use native.Mathlib.Omega.{arith}
use lib.ListN.{length}
use lib.Dec.{eqb}
use Rattle.laws.proofs.Choice.{true_or, eq_or, never}
use Rattle.laws.proofs.TestLaws.{holds_and, holds_not}
use Rattle.laws.proofs.FilterLaws.{filter_none}
use Rattle.laws.specs.Bytes.{over}
use Rattle.wire.specs.Frame.{misframed, laid}
use Rattle.wire.proofs.FrameLaws.{framed, length-laid, laid-framed}
use Rattle.settings.specs.Grammar.{Tag}
use Rattle.settings.specs.TagWords.{Ascending}
use Rattle.pdu.specs.declared.Asked.{Asked}
use Rattle.pdu.specs.Replies.{answering, excepts}
use Rattle.pdu.specs.declared.What.{What}
use Rattle.pdu.specs.Reads.{equal_reads}
use Rattle.pdu.specs.Spoiling.{spoils}
use Rattle.pdu.specs.declared.ProxyId.{ProxyId}
use Rattle.pdu.proofs.ReadLaws.{equal_self}
use Rattle.rewrite.specs.Legal.{fault_under}
use Rattle.rewrite.specs.Frames.{returned}
use Rattle.rewrite.specs.declared.Way.{Way}
use Rattle.rewrite.specs.declared.Way.TheVariants.{ToBinary}
use Rattle.rewrite.specs.Registers.{registers_at}
use Rattle.rewrite.specs.Rewriting.{Verdict, verdict, is_raw_partial, partials, Rewritten, rewriting}
use Rattle.rewrite.specs.Rewriting.Verdict.{outside, partial, value, done}
use Rattle.rewrite.specs.Plain.{Has, InRun, Whole, Brings}
use Rattle.rewrite.specs.Plain.Brings.{read}
use Rattle.rewrite.proofs.RegisterLaws.{length-registers}
use Rattle.rewrite.proofs.OrderLaws.{one_owner}
use Rattle.rewrite.proofs.VerdictLaws.{whole_exactly, partial_exactly}
use Rattle.rewrite.proofs.FrameLaws.{length-returned, returned_brings, returned-framed, returned_answers, laid_answers}
use Rattle.cache.specs.Cache.{Cached, Cache, emptied, in_cache, taken_place, filled_with, dropped_by}
use Rattle.cache.specs.Life.{cacheable, life_of}
use Rattle.cache.specs.Plain.{Sorted, Cacheable}
use Rattle.cache.proofs.CacheLaws.{filled_exactly, filled_place, dropped_exactly, emptied_exactly, emptied_sorted, dropped_sorted, filled_sorted}
use Rattle.cache.proofs.LifeLaws.{cacheable_reads, cacheable_exactly}
use Rattle.book.specs.Book.{Live, at}
use Rattle.book.specs.Desk.{due_place}
use Rattle.machine.specs.Machine.{Machine, Note, rules, settings, clocked}
use Rattle.machine.specs.Calls.{Call, Outcome}
use Rattle.machine.specs.Calls.Call.{attach, detach, request, reply, tick, link_lost}
use Rattle.machine.specs.Refusals.{rows, lowest, refusal, entry_for}
use Rattle.machine.specs.Requests.{excepted, hit_on, joined_to, issued_to, admitted, served}
use Rattle.machine.specs.Replies.{fills, cached_of, cache_after, answered_to, answered, expired_to, ticked}
use Rattle.machine.specs.Outcomes.{granted, outcome}
use Rattle.machine.specs.Spelled.{asking}
use Rattle.machine.specs.declared.Answer.TheVariants as answer
use Rattle.machine.proofs.RefusalLaws.{refusal_changes_nothing}
use Rattle.machine.proofs.OutcomeLaws.{granted_is, reply_finds, clocked-at, served_cases}
use Rattle.machine.proofs.SpelledLaws.{wanted-spelled}
use Rattle.machine.proofs.AnswerLaws.{reply_framed, reply_matches}

-- A REPLY THAT FILLS

-- the call is a reply that fills the cache of m: not refused, it answers an entry, and by the definition it fills
pub record Filling (m : Machine) (x : Call) : Type 0 where
  pub time : ℕ
  pub frame : List ℕ
  pub out : List ℕ
  pub list : List ℕ
  pub entry : Live What Note
  pub is : x ≡ reply time frame out list
  pub granted : refusal m x ≡ 0
  pub there : entry_for m frame ≡ some entry
  pub does : fills (settings m).tags entry frame ≡ true

-- what the cache gets of it, and the place that this takes
unfoldable pub entering : {m : Machine} {x : Call} → Filling m x → Cached
entering {m} f = cached_of (clocked m f.time) f.entry f.frame

abbrev pub place_of : {m : Machine} {x : Call} → Filling m x → ℕ
place_of {m} f = taken_place (entering f).filled (entering f).what m.cache

-- A reply fills exactly if it is no exception, its entry is not closed, and what that asked is cacheable.
pub fills_exactly : (tags : List Tag) (e : Live What Note) (f : List ℕ)
    → (fills tags e f ≡ true) ↔ ((excepts e.what.function f ≡ false) × ((e.note.closed ≡ false) × (cacheable tags e.what ≡ true)))
unfolding fills
fills_exactly tags e f = holds_and _ _ (holds_not _) (holds_and _ _ (holds_not _) (λ t. t, λ t. t))

module _ {m : Machine} {x : Call} (f : Filling m x) where
  -- what enters is a reply to a read
  pub entering_reads : equal_reads (entering f).what (entering f).what ≡ true
  unfolding entering cached_of
  entering_reads =
      let r = cacheable_reads (settings m).tags f.entry.what.asked ((fills_exactly (settings m).tags f.entry f.frame).0 f.does).1.1 in
      equal_self f.entry.what _ r.0 r.1 r.2

  granted_reply : refusal m (reply f.time f.frame f.out f.list) ≡ 0
  granted_reply = rw f.is at f.granted

  -- it is a frame, and answers what it is kept for
  pub entering_framed : (misframed (entering f).bytes ≡ false) × (answering (entering f).what (entering f).bytes ≡ true)
  unfolding entering cached_of
  entering_framed =
      let w = f.entry.what in
      let tags = (settings m).tags in
      let r = (returned tags w f.frame).bytes in
      let ok = reply_framed m f.time f.frame f.out f.list granted_reply in
      let long : 2 ≤ length r = (let y = (framed f.frame ok).least in let z = length-returned tags f.frame w in omega arith) in (
        laid-framed 0 r long ∙ returned-framed tags f.frame w ∙ ok,
        laid_answers 0 w r long ∙ returned_answers tags f.frame w ∙ reply_matches m f.time f.frame f.out f.list granted_reply f.entry f.there,
      )

  -- it says the length and the counts that are kept, and writes the frame that is kept
  pub entering_says : (outcome m x).says
      ≡ answer.Answered (record { 0 = f.entry.id }) (length (entering f).bytes) (length f.entry.parties) (entering f).partial (entering f).value
  unfolding granted answered answered_to entering cached_of
  entering_says =
      let w = f.entry.what in
      let tags = (settings m).tags in
      let r = returned tags w f.frame in
      let ok = reply_framed m f.time f.frame f.out f.list granted_reply in
      let long : length (laid 0 r.bytes) ≡ length f.frame =
      length-laid 0 r.bytes (let y = (framed f.frame ok).least in let z = length-returned tags f.frame w in omega arith) ∙ length-returned tags f.frame w in
      ap (λ (d : Outcome). d.says) (ap (outcome m) f.is ∙ granted_is m _ granted_reply) ∙ rw (f.there, long) refl

  pub entering_wrote : (outcome m x).written ≡ over (entering f).bytes f.out
  unfolding granted answered answered_to entering cached_of
  entering_wrote = ap (λ (d : Outcome). d.written) (ap (outcome m) f.is ∙ granted_is m _ granted_reply) ∙ rw f.there refl

  -- what is kept was filled at the reply's time, and has the read's life
  pub entering_at : (entering f).filled ≡ f.time
  unfolding entering cached_of
  entering_at = clocked-at m (reply f.time f.frame f.out f.list) f.time granted_reply refl

  pub entering_life : (entering f).life ≡ life_of (settings m).tags (entering f).what
  unfolding entering cached_of
  entering_life = refl

  pub entering_partial : (entering f).partial ≡ (returned (settings m).tags f.entry.what f.frame).partial
  unfolding entering cached_of
  entering_partial = refl

  pub entering_what : (entering f).what ≡ f.entry.what
  unfolding entering cached_of
  entering_what = refl

-- NO TAG IS CUT

-- Of a cacheable read no tag is partly inside the range: each of its registers lies in a tag that is wholly inside, and tags do not overlap.
none_cut : (tags : List Tag) → Ascending 0 tags → (s q : ℕ) → Cacheable tags s q → (t : Tag) → Memᴰ t tags → (x : ℕ) → Has t x → InRun s q x → Whole s q t
none_cut tags asc s q c t m x has within =
    let w = c.1 x within.0 within.1 in
    let same : t ≡ w.0 = one_owner 0 tags t w.0 x asc m w.1 has (w.3, w.4) in
    rw same (w.2.0, w.2.1)

raw-none : (v : Verdict) → (v ≡ partial → ⊥) → is_raw_partial v ≡ false
raw-none outside n = refl
raw-none partial n = absurd (n refl)
raw-none value n = refl
raw-none (done ws) n = refl

never_partial : (way : Way) (tags : List Tag) → Ascending 0 tags → (s : ℕ) (rs : List ℕ) → Cacheable tags s (length rs) → (t : Tag) → Memᴰ t tags → is_raw_partial (verdict way s rs t) ≡ false
never_partial way tags asc s rs c t m =
    raw-none (verdict way s rs t) (λ z.
    let p = (partial_exactly way s rs t c.0).0 z in
    let w = none_cut tags asc s (length rs) c t m p.0.0 p.0.1 p.0.2 in
    p.1.2 ((whole_exactly s (length rs) t).0 w p.1.0 p.1.1))

-- So a reply that fills counts no tag that is raw for partial cover.
pub none_partial : (tags : List Tag) → Ascending 0 tags → (e : Live What Note) (f : List ℕ) → fills tags e f ≡ true → (returned tags e.what f).partial ≡ 0
unfolding rewriting partials
none_partial tags asc e f does =
    let y = (fills_exactly tags e f).0 does in
    let is = cacheable_reads tags e.what.asked y.1.1 in
    let s = is.0 in
    let q = is.1 in
    let c = (cacheable_exactly s q tags).0 (rw is.2 at y.1.1) in
    let rs = registers_at 9 q f in
    ap (λ (r : Rewritten). r.partial) (returned_brings tags f e.what (subst (λ (a : Asked). Brings a s q) (sym is.2) read) y.0)
    ∙ ap length (filter_none (λ t. is_raw_partial (verdict ToBinary s rs t)) tags (never_partial ToBinary tags asc s rs (rw (length-registers 9 q f) c)))

-- the call fills in one way
one_entry : (m : Machine) {t u : ℕ} {f g o p l n : List ℕ} {d e : Live What Note} → reply t f o l ≡ reply u g p n → entry_for m f ≡ some d → entry_for m g ≡ some e → (t ≡ u) × (f ≡ g) × (d ≡ e)
one_entry m {f = f} {g = g} q a b = let same : f ≡ g = cc in (cc, same, some-injective _ _ (sym a ∙ ap (entry_for m) same ∙ b))

pub entering_one : {m : Machine} {x : Call} (f g : Filling m x) → entering f ≡ entering g
unfolding entering
entering_one {m} f g = let w = one_entry m (sym f.is ∙ g.is) f.there g.there in rw (w.0, w.1, w.2)

-- ONE CALL

-- what a call makes of the cache
pub data Change (m : Machine) (x : Call) (d : Outcome) : Type 0 where
  same : d.after.cache ≡ m.cache → ((i : ProxyId) (n p v : ℕ) → d.says ≡ answer.Issued i n p v → ⊥) → (x ≡ link_lost → ⊥) → (Filling m x → ⊥) → Change m x d
  drops : (c t : ℕ) (f o : List ℕ) (i : ProxyId) (n p v : ℕ) → x ≡ request c t f o → d.says ≡ answer.Issued i n p v → d.after.cache ≡ dropped_by (asking f) m.cache → Change m x d
  takes : (f : Filling m x) → d.after.cache ≡ filled_with (entering f) m.cache → Change m x d
  empties : x ≡ link_lost → d.after.cache ≡ emptied → Change m x d

served_change : (m : Machine) (c t : ℕ) (f o : List ℕ) → Change m (request c t f o) (served (clocked m t) c f o)
unfolding excepted joined_to issued_to hit_on
served_change m c t f o =
    served_cases (λ d. Change m (request c t f o) d) (clocked m t) c f o
    (same refl (λ i n p v s. never (cc)) (λ e. never (cc)) (λ g. never (cc g.is)))
    (λ k e. same refl (λ i n p v s. never (cc)) (λ e. never (cc)) (λ g. never (cc g.is)))
    (drops c t f o _ _ _ _ refl refl (rw (wanted-spelled f) refl))
    (λ e. same refl (λ i n p v s. never (cc)) (λ e. never (cc)) (λ g. never (cc g.is)))

reply_change : (m : Machine) (t : ℕ) (f o l : List ℕ) → refusal m (reply t f o l) ≡ 0 → Change m (reply t f o l) (granted m (reply t f o l))
unfolding granted answered answered_to cache_after entering
reply_change m t f o l h =
    let e = reply_finds m t f o l h in
    ⊎_elim
    (λ (z : fills (settings m).tags e.0 f ≡ true). rw e.1
    (takes (record { time = t; frame = f; out = o; list = l; entry = e.0; is = refl; granted = h; there = e.1; does = z }) (rw z refl)))
    (λ (z : fills (settings m).tags e.0 f ≡ false). rw e.1
    (same (rw z refl) (λ i n p v s. never (cc)) (λ e. never (cc)) (λ g.
    let w = one_entry m g.is e.1 g.there in
    let y : fills (settings m).tags e.0 f ≡ true = rw (w.2, w.1) g.does in
    true≢false (sym y ∙ z))))
    (true_or (fills (settings m).tags e.0 f))

tick_change : (m : Machine) (t k : ℕ) (o l : List ℕ) (q : Option (Live What Note)) → Change m (tick t o l) (expired_to (clocked m t) k o l q)
unfolding expired_to
tick_change m t k o l none = same refl (λ i n p v s. never (cc)) (λ e. never (cc)) (λ g. never (cc g.is))
tick_change m t k o l (some e) = same refl (λ i n p v s. never (cc)) (λ e. never (cc)) (λ g. never (cc g.is))

granted_change : (m : Machine) (x : Call) → refusal m x ≡ 0 → Change m x (granted m x)
unfolding granted admitted excepted ticked
granted_change m (attach c) h = same refl (λ i n p v s. never (cc)) (λ e. never (cc)) (λ g. never (cc g.is))
granted_change m (detach c) h = same refl (λ i n p v s. never (cc)) (λ e. never (cc)) (λ g. never (cc g.is))
granted_change m (request c t f o) h =
    ⊎_elim
    (λ (z : eqb (fault_under (settings m).tags f) 0 ≡ true). rw z (served_change m c t f o))
    (λ (z : eqb (fault_under (settings m).tags f) 0 ≡ false). rw z (same refl (λ i n p v s. never (cc)) (λ e. never (cc)) (λ g. never (cc g.is))))
    (true_or (eqb (fault_under (settings m).tags f) 0))
granted_change m (reply t f o l) h = reply_change m t f o l h
granted_change m (tick t o l) h = tick_change m t (due_place rules (clocked m t).book) o l (at (clocked m t).book (due_place rules (clocked m t).book))
granted_change m link_lost h = empties refl refl

-- link lost is never refused
lost-granted : (m : Machine) (x : Call) → x ≡ link_lost → refusal m x ≡ 0
unfolding rows lowest
lost-granted m x e = rw e refl

-- What any call makes of the cache.
pub change : (m : Machine) (x : Call) → Change m x (outcome m x)
change m x =
    ⊎_elim
    (λ (h : refusal m x ≡ 0). rw (granted_is m x h) (granted_change m x h))
    (λ (h : refusal m x ≡ 0 → ⊥). rw (refusal_changes_nothing m x h) (same refl (λ i n p v s. never (cc)) (λ e. h (lost-granted m x e)) (λ g. h g.granted)))
    (eq_or (refusal m x) 0)

-- THE CACHE OF EVERY HISTORY

-- what is cached is a frame that answers what it is kept for
abbrev pub AllFramed : Cache → Type 0
AllFramed c = (k : ℕ) (e : Cached) → in_cache c k ≡ some e → (misframed e.bytes ≡ false) × (answering e.what e.bytes ≡ true)

-- what is known of every cache
pub record Stocked (c : Cache) : Type 0 where
  pub sorted : Sorted c
  pub frames : AllFramed c

pub stocked_empty : Stocked emptied
stocked_empty = record { sorted = emptied_sorted; frames = λ k e h. absurd (none-ne-some e (sym (emptied_exactly k) ∙ h)) }

-- Every call leaves such a cache.
pub stocked_next : (m : Machine) (x : Call) → Stocked m.cache → Stocked (outcome m x).after.cache
stocked_next m x s = by (outcome m x) (change m x)
  where
    by : (d : Outcome) → Change m x d → Stocked d.after.cache
    by d (same e a b c) = rw e s
    by d (drops c t f o i n p v is says e) =
        rw e (record { sorted = dropped_sorted (asking f) m.cache s.sorted; frames = λ k y h. s.frames k y ((dropped_exactly (asking f) m.cache k y).0 h).0 })
    by d (takes f e) =
        rw e (record {
          sorted = filled_sorted (entering f) m.cache s.sorted (entering_reads f);
          frames = λ k y h. ⊎_elim (λ w. rw w.1 (entering_framed f)) (λ w. s.frames k y w.0) (filled_place (entering f) m.cache s.sorted (entering_reads f) k y h);
        })
    by d (empties is e) = rw e stocked_empty

-- ONE PLACE AND ONE CALL

-- the call leaves a reply to r where it is, in the place p: it issues nothing that spoils r, the link is not lost, and it does not fill the place
pub record Leaves (m : Machine) (x : Call) (r : What) (p : ℕ) : Type 0 where
  pub issues : (c t : ℕ) (g o : List ℕ) (i : ProxyId) (n a b : ℕ) → x ≡ request c t g o → (outcome m x).says ≡ answer.Issued i n a b → spoils (asking g) r ≡ false
  pub link : x ≡ link_lost → ⊥
  pub place : (f : Filling m x) → place_of f ≡ p → ⊥

module _ (m : Machine) (x : Call) (s : Stocked m.cache) where
  -- What stands in a place after a call stood there before, and the call left it there and fills for another read; or the call filled it.
  pub was_there : (k : ℕ) (e : Cached) → in_cache (outcome m x).after.cache k ≡ some e
      → ((in_cache m.cache k ≡ some e) × Leaves m x e.what k × ((f : Filling m x) → (entering f).what ≡ e.what → ⊥)) ⊎ ((f : Filling m x) × (e ≡ entering f) × (k ≡ place_of f))
  was_there k e = by (change m x)
    where
      by : Change m x (outcome m x) → in_cache (outcome m x).after.cache k ≡ some e
          → ((in_cache m.cache k ≡ some e) × Leaves m x e.what k × ((f : Filling m x) → (entering f).what ≡ e.what → ⊥)) ⊎ ((f : Filling m x) × (e ≡ entering f) × (k ≡ place_of f))
      by (same q a b c) h = inl (rw q at h, record { issues = λ c t g o i n p w y z. absurd (a i n p w z); link = b; place = λ f y. c f }, λ f y. c f)
      by (drops c t f o i n p v is says q) h =
          let w = (dropped_exactly (asking f) m.cache k e).0 (rw q at h) in
          inl (
            w.0,
            record {
              issues = λ c t g o i n p a y z. let own : f ≡ g = cc (sym is ∙ y) in rw own at w.1;
              link = λ y. never (cc (sym is ∙ y));
              place = λ g y. never (cc (sym is ∙ g.is));
            },
            λ g y. never (cc (sym is ∙ g.is)),
          )
      by (takes f q) h =
          ⊎_elim
          (λ w. inr (f, w.1, w.0))
          (λ w. inl (
            w.0,
            record {
              issues = λ c t g o i n p a y z. never (cc (sym f.is ∙ y));
              link = λ y. never (cc (sym f.is ∙ y));
              place = λ g y. w.1 (sym y ∙ ap (λ (a : Cached). taken_place a.filled a.what m.cache) (entering_one g f));
            },
            λ g y. w.2 (ap (λ (a : Cached). a.what) (entering_one f g) ∙ y),
          ))
          (filled_place (entering f) m.cache s.sorted (entering_reads f) k e (rw q at h))
      by (empties is q) h = absurd (none-ne-some e (sym (emptied_exactly k) ∙ rw q at h))

  -- What a call leaves where it is stays there.
  pub still_there : (k : ℕ) (e : Cached) → in_cache m.cache k ≡ some e → Leaves m x e.what k → in_cache (outcome m x).after.cache k ≡ some e
  still_there k e h l = by (change m x)
    where
      by : Change m x (outcome m x) → in_cache (outcome m x).after.cache k ≡ some e
      by (same q a b c) = rw q h
      by (drops c t f o i n p v is says q) = rw q ((dropped_exactly (asking f) m.cache k e).1 (h, l.issues c t f o i n p v is says))
      by (takes f q) = rw q ((filled_exactly (entering f) m.cache s.sorted (entering_reads f)).1 k (λ z. l.place f (sym z)) ∙ h)
      by (empties is q) = absurd (l.link is)

  -- A reply that fills stands in the place that it takes.
  pub now_there : (f : Filling m x) → in_cache (outcome m x).after.cache (place_of f) ≡ some (entering f)
  now_there f = by (change m x)
    where
      by : Change m x (outcome m x) → in_cache (outcome m x).after.cache (place_of f) ≡ some (entering f)
      by (same q a b c) = absurd (c f)
      by (drops c t g o i n p v is says q) = never (cc (sym is ∙ f.is))
      by (takes g q) = rw (q, entering_one f g) (filled_exactly (entering g) m.cache s.sorted (entering_reads g)).0
      by (empties is q) = never (cc (sym is ∙ f.is))

  -- And every other place is as it was.
  pub others_stay : (f : Filling m x) (k : ℕ) → (k ≡ place_of f → ⊥) → in_cache (outcome m x).after.cache k ≡ in_cache m.cache k
  others_stay f k n = by (change m x)
    where
      by : Change m x (outcome m x) → in_cache (outcome m x).after.cache k ≡ in_cache m.cache k
      by (same q a b c) = absurd (c f)
      by (drops c t g o i j p v is says q) = never (cc (sym is ∙ f.is))
      by (takes g q) =
          rw q ((filled_exactly (entering g) m.cache s.sorted (entering_reads g)).1 k (λ z. n (z ∙ ap (λ (a : Cached). taken_place a.filled a.what m.cache) (entering_one g f))))
      by (empties is q) = never (cc (sym is ∙ f.is))
