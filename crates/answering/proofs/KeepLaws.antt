-- What a reply leaves in the columns of the cache is what the machine keeps of it.
-- Assumes nothing.
use Prim.Native.Nat.{ℕ, ◌≤◌}
use mathlib.Core.Path.{◌≡◌, refl, ap, sym, ◌∙◌}
use mathlib.Core.Logic.{⊎_elim}
use mathlib.Core.Bool.{Bool, true, false, cond, ◌||◌, false≢true}
use mathlib.Core.Option.{Option, some, none}
use mathlib.Core.List.{List, [], ◌∷◌}
use native.Mathlib.Omega.{arith}
use lib.ListN.{length, take, drop}
use lib.Seq.{take_at}
use Rattle.laws.specs.Bytes.{over}
use Rattle.laws.proofs.Choice.{true_or}
use Rattle.wire.specs.Frame.{misframed, laid}
use Rattle.wire.proofs.FrameLaws.{length-laid, laid-framed}
use Rattle.settings.specs.Grammar.{Tag}
use Rattle.settings.specs.TagWords.{Ascending}
use Rattle.pdu.specs.Replies.{excepts, answering}
use Rattle.pdu.specs.declared.What.{What}
use Rattle.pdu.specs.Words.{what_of, closed_in, Proper}
use Rattle.pdu.specs.declared.Table.TheVariants.{Registers}
use Rattle.pdu.specs.declared.Asked.{Asked}
use Rattle.pdu.specs.Plain.{sort_of}
use Rattle.pdu.proofs.SpoilingLaws.{proper_ranges}
use Rattle.pdu.proofs.RequestLaws.{read_class}
use Rattle.rewrite.specs.Frames.{returned}
use Rattle.rewrite.proofs.FrameLaws.{length-returned, front_returned, returned-framed, returned_answers, laid_answers}
use Rattle.cache.specs.Cache.{Cached, Cache, filled_with}
use Rattle.cache.specs.Life.{cacheable, cacheable_by, life_by, life_of}
use Rattle.cache.proofs.LifeLaws.{cacheable_reads, cacheable_exactly, life_positive}
use Rattle.caching.specs.Kept.{cached, Key, Fills}
use Rattle.book.specs.Book.{Live}
use Rattle.machine.specs.Machine.{Machine, Note, settings}
use Rattle.machine.specs.Replies.{fills, cached_of, cache_after}
use Rattle.machine.proofs.CachedLaws.{fills_exactly, none_partial}
use Rattle.table.specs.Columns.{note_of, place_word}

-- an id laid over a frame does not make it an exception, nor the other way
laid-excepts : (id n : ℕ) (f : List ℕ) → 2 ≤ length f → excepts n (laid id f) ≡ excepts n f
laid-excepts id n [] h = absurd (omega arith)
laid-excepts id n (a ∷ []) h = absurd (omega arith)
laid-excepts id n (a ∷ b ∷ f) h = refl

-- laid twice it is laid once
laid-again : (f : List ℕ) → 2 ≤ length f → laid 0 (laid 0 f) ≡ laid 0 f
laid-again [] h = absurd (omega arith)
laid-again (a ∷ []) h = absurd (omega arith)
laid-again (a ∷ b ∷ f) h = refl

-- what is chosen of a life and none
chosen : (b : Bool) {l m : ℕ} → some l ≡ cond b (some m) none → (b ≡ true) × (l ≡ m)
chosen true e = (refl, cc)
chosen false e = (cc, cc)

chosen-none : (b : Bool) (m : ℕ) → none ≡ cond b (some m) none → b ≡ false
chosen-none true m e = cc
chosen-none false m e = refl

-- a reply to a live entry, whose word says what was asked and whether it is closed, under the tags in force
module _ (tags : List Tag) (word : ℕ) (e : Live What Note) (f : List ℕ) (asks : e.what ≡ what_of word) (noted : e.note ≡ note_of word) where
  -- for how long it is shown again, where it fills
  abbrev pub given : Option ℕ
  given = cond (fills tags e f) (some (life_of tags e.what)) none

  -- nothing is given where it does not fill
  unfilled : fills tags e f ≡ false → none ≡ given
  unfilled t = rw t refl

  unfilled-not : (fills tags e f ≡ true → ⊥) → none ≡ given
  unfilled-not n = ⊎_elim (λ (t : fills tags e f ≡ true). absurd (n t)) unfilled (true_or (fills tags e f))

  -- An exception, and a reply to what is closed, is given none,
  pub given-none : (excepts (what_of word).function f || closed_in word) ≡ true → none ≡ given
  unfolding note_of
  given-none t = unfilled-not (λ does.
      let x = (fills_exactly tags e f).0 does in
      let a : excepts (what_of word).function f ≡ false = ap (λ (w : What). excepts w.function f) (sym asks) ∙ x.0 in
      let b : closed_in word ≡ false = ap (λ (n : Note). n.closed) (sym noted) ∙ x.1.0 in
      false≢true (sym (rw (a, b) refl) ∙ t))

  -- and so is one to what is not cacheable.
  pub given_other : {a : Asked} → (what_of word).asked ≡ a → cacheable_by tags a ≡ false → none ≡ given
  given_other q n = unfilled-not (λ does. false≢true (sym n ∙ ap (cacheable_by tags) (sym q) ∙ ap (λ (w : What). cacheable tags w) (sym asks) ∙ ((fills_exactly tags e f).0 does).1.1))

  module _ (does : fills tags e f ≡ true) where
    -- What it fills is kept under the word of a read of registers.
    pub fills_key : Proper (what_of word) → place_word (what_of word) (note_of word) ≡ word → Key word
    unfolding place_word
    fills_key proper placed =
        let x = (fills_exactly tags e f).0 does in
        let is_open : (note_of word).closed ≡ false = ap (λ (n : Note). n.closed) (sym noted) ∙ x.1.0 in
        let r = cacheable_reads tags (what_of word).asked (ap (λ (w : What). cacheable tags w) (sym asks) ∙ x.1.1) in
        record {
          word = record { proper = proper; back = rw is_open at placed };
          reads = read_class (what_of word).function ((proper_ranges (what_of word) proper).class ∙ ap sort_of r.2);
        }

    -- and its life is not 0.
    pub fills-lives : 1 ≤ life_of tags e.what
    fills-lives =
        let r = cacheable_reads tags e.what.asked ((fills_exactly tags e f).0 does).1.1 in
        let c = (cacheable_exactly r.0 r.1 tags).0 (ap (cacheable_by tags) (sym r.2) ∙ ((fills_exactly tags e f).0 does).1.1) in
        rw r.2 (life_positive tags Registers r.0 r.1 c)

  -- Any other one is given the life of its read.
  pub given_read : {a : Asked} {life : Option ℕ} → excepts (what_of word).function f ≡ false → closed_in word ≡ false → (what_of word).asked ≡ a
      → life ≡ cond (cacheable_by tags a) (some (life_by tags a)) none → life ≡ given
  unfolding note_of
  given_read {a} x n q l =
      let same : e.what.asked ≡ a = ap (λ (w : What). w.asked) asks ∙ q in
      ⊎_elim
      (λ (t : cacheable_by tags a ≡ true).
      let does = (fills_exactly tags e f).1 (ap (λ (w : What). excepts w.function f) asks ∙ x, (ap (λ (z : Note). z.closed) noted ∙ n, ap (cacheable_by tags) same ∙ t)) in
      l ∙ rw (t, does, same) refl)
      (λ (t : cacheable_by tags a ≡ false). l ∙ rw t (given_other q t))
      (true_or (cacheable_by tags a))

  -- What is given a life fills, and that is its life.
  pub gives : {life : ℕ} → some life ≡ given → (fills tags e f ≡ true) × (life ≡ life_of tags e.what)
  gives l = chosen (fills tags e f) l

  -- What is given none does not.
  pub gives-none : none ≡ given → fills tags e f ≡ false
  gives-none l = chosen-none (fills tags e f) (life_of tags e.what) l

  -- what is handed out of it
  abbrev handed : List ℕ
  handed = (returned tags e.what f).bytes

  module _ (framed : misframed f ≡ false) (long : 2 ≤ length f) where
    handed_long : 2 ≤ length handed
    handed_long = let z = length-returned tags f e.what in omega arith

    -- What stands in the buffer is what is handed out.
    pub handed_there : (o : List ℕ) → take (length f) (over (laid 0 handed) o) ≡ laid 0 handed
    handed_there o = take_at (laid 0 handed) (drop (length (laid 0 handed)) o) (length f) (length-laid 0 handed handed_long ∙ length-returned tags f e.what)

    -- It may fill a place.
    pub handed_fills : fills tags e f ≡ true → answering e.what f ≡ true → Fills (what_of word) (laid 0 handed)
    handed_fills does answers =
        let same : excepts e.what.function handed ≡ excepts e.what.function f = rw (front_returned tags f e.what 7 (omega arith), length-returned tags f e.what) refl in
        record {
          framed = laid-framed 0 handed handed_long ∙ returned-framed tags f e.what ∙ framed;
          answers = ap (λ (w : What). answering w (laid 0 handed)) (sym asks) ∙ laid_answers 0 e.what handed handed_long ∙ returned_answers tags f e.what ∙ answers;
          plain = ap (λ (w : What). excepts w.function (laid 0 handed)) (sym asks) ∙ laid-excepts 0 e.what.function handed handed_long ∙ same ∙ ((fills_exactly tags e f).0 does).0;
        }

    -- A place filled with it is the machine's cache after the reply,
    pub kept_is : (m : Machine) {life value : ℕ} {after : Cache} → (settings m).tags ≡ tags → Ascending 0 tags → some life ≡ given → value ≡ (returned tags e.what f).value
        → after ≡ filled_with (cached (what_of word) m.book.clock life value (laid 0 (laid 0 handed))) m.cache
        → after ≡ cache_after m e f
    unfolding cache_after cached_of
    kept_is m {life} {value} force asc lives counts left =
        let does = (gives lives).0 in
        let l = (gives lives).1 in
        left ∙ rw (force, does) (ap (λ (c : Cached). filled_with c m.cache)
        (rw (laid-again handed handed_long, ← asks, l, counts, none_partial tags asc e f does) refl))

  -- and where nothing is given the cache stays.
  pub kept-none : (m : Machine) → (settings m).tags ≡ tags → none ≡ given → m.cache ≡ cache_after m e f
  unfolding cache_after
  kept-none m force l = rw (force, gives-none l) refl
