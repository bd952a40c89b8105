-- A fresh state is the machine that the document says, made from a valid value or from the usual one, and it is sound.
-- Assumes nothing.
use Prim.Native.Nat.{ℕ, ◌^◌}
use mathlib.Core.Path.{◌≡◌, refl, ap, sym, ◌∙◌}
use mathlib.Core.Logic.{⊎_elim}
use mathlib.Core.Bool.{true, false}
use mathlib.Core.Option.{none}
use mathlib.Core.List.{List, map}
use native.Mathlib.Nat.{zero-div}
use native.Mathlib.Omega.{arith}
use lib.ListN.{length, take, replicate, length-replicate, length-append}
use lib.Pow.{pow_pos}
use Rattle.numbers.specs.Numbers.{clients, places, party_places, most_tags, usual_timeout, cache_places, cache_numbers, cache_bytes}
use Rattle.laws.specs.Bits.{has}
use Rattle.laws.proofs.Choice.{true_or}
use Rattle.laws.proofs.ListLaws.{length-tab, get_d_repeat}
use Rattle.settings.specs.declared.Settings.{Settings}
use Rattle.settings.specs.Grammar.{Value, valid_in, valid, all_right, tags_right}
use Rattle.settings.specs.Values.{listed, value_of, padded, usual}
use Rattle.settings.specs.TagWords.{tag_of, some_strict, tag_words, Ascending}
use Rattle.settings.proofs.ValueLaws.{value_ext}
use Rattle.settings.proofs.TagLaws.{words_kept, words_long, valid-ascends, valid_bounds}
use Rattle.settings.proofs.MarkLaws.{unmarked}
use Rattle.book.specs.Book.{book, at}
use Rattle.machine.specs.Machine.{machine, made}
use Rattle.machine.specs.declared.Answer.{Answer}
use Rattle.machine.specs.declared.Answer.TheVariants.{Refused, Done}
use Rattle.cache.specs.Cache.{Cache, emptied, in_cache}
use Rattle.caching.specs.Kept.{cache_of, Bytes, SoundCache}
use Rattle.caching.proofs.DropLaws.{zeros-emptied as no_numbers, zeros_sound as none_sound}
use Rattle.table.specs.Columns.{Columns, columns, table_of}
use Rattle.table.specs.inner.Changes.{blank}
use Rattle.table.proofs.EntryLaws.{blank-table}
use Rattle.table.proofs.ChangeLaws.{clear_sound}
use Rattle.proxy.specs.State.{State, KeptSettings, kept_settings, value_in, state, Settled, SoundState}
use Rattle.proxy.specs.Gates.{adopted, making_answer}
use Rattle.proxy.specs.Calls.{Adopts, Freshened}

-- the usual value is valid
pub usual-valid : valid usual ≡ true
unfolding valid_in all_right tags_right
usual-valid = refl

-- What a fresh state is made from is valid.
pub adopted-valid : (v : Value) → valid (adopted v) ≡ true
unfolding adopted
adopted-valid v = ⊎_elim (λ (t : valid v ≡ true). rw t t) (λ (t : valid v ≡ false). rw t usual-valid) (true_or (valid v))

-- A valid value is adopted, and nothing is refused.
pub adopts_valid : (v : Value) → valid v ≡ true → (making_answer v ≡ Done) × (adopted v ≡ v)
unfolding adopted making_answer
adopts_valid v t = (rw t, rw t)

-- An invalid one is refusal 10, beside the usual value.
pub adopts_usual : (v : Value) → valid v ≡ false → (making_answer v ≡ Refused 10) × (adopted v ≡ usual)
unfolding adopted making_answer
adopts_usual v t = (rw t, rw t)

-- the settings that keep a value: its numbers and its tag words
abbrev pub keeping : Value → ℕ → List ℕ → KeptSettings
keeping v n words = kept_settings v.timeout v.join n words

-- what is kept gives the value back, and is settled
abbrev pub Keeps : KeptSettings → Value → Type 0
Keeps k v = (value_in k ≡ v) × Settled k

-- A valid value's numbers with the words of its tags keep the value.
pub kept_value : (v : Value) (n : ℕ) (words : List ℕ) → valid v ≡ true → length v.tags ≡ n → words ≡ padded (tag_words v.tags) → Keeps (keeping v n words) v
unfolding value_in
kept_value v n words right listed e =
    let b = valid_bounds v right in
    let few = b.few in
    let back : map tag_of (take n words) ≡ v.tags = rw (e, ← listed) (words_kept v right) in (
      value_ext (value_in (keeping v n words)) v refl refl back,
      record {
        timeout = b.most;
        few = rw listed at few;
        long = rw e (simp (length-append, length-replicate, words_long) (omega arith));
        ascending = rw back (valid-ascends v right);
        unmarked = λ h. rw back (unmarked v.tags (rw e at h));
      },
    )

-- So do the boundary's struct's numbers with the words of the tags that it lists.
pub kept_settings_lem : (s : Settings) (words : List ℕ) → valid (value_of s) ≡ true → words ≡ padded (tag_words (listed s.tags s.addr s.width s.sign s.ttl s.strict)) → Keeps (kept_settings s.timeout s.join s.tags words) (value_of s)
unfolding value_of
kept_settings_lem s words right e = kept_value (value_of s) s.tags words right (length-tab s.tags _) e

-- The usual numbers with words of zeros keep the usual value.
pub kept_usual : Keeps (kept_settings usual_timeout 1 0 (replicate most_tags 0)) usual
unfolding tag_words
kept_usual = kept_value usual 0 (replicate most_tags 0) usual-valid refl refl

-- the columns of the cache hold nothing, and are sound
abbrev pub Empties : (cache shown : List ℕ) → Type 0
Empties h b = (cache_of h b ≡ emptied) × SoundCache h b

-- a state with columns of zeros and all else 0 is sound, whatever settings are in it
zeroed_sound : (c : Columns) (k : KeptSettings) (h b : List ℕ) → c ≡ blank → Settled k → Empties h b → SoundState (state c 0 0 0 k h b)
zeroed_sound c k h b e q n = record { table = clear_sound c e; cursor = omega arith; attached = pow_pos clients; settings = q; cache = n.1 }

-- bytes that are 0 may stand beside the cache's numbers
pub blank_bytes : Bytes (replicate cache_bytes 0)
blank_bytes = record { long = length-replicate {A = ℕ} cache_bytes 0; low = λ k. rw (get_d_repeat {A = ℕ} cache_bytes k 0) (omega arith) }

-- What keeps the value that is adopted adopts it, beside the answer.
pub takes : (from : Settings) {w : Value} {answer : Answer} {k : KeptSettings} → (making_answer (value_of from) ≡ answer) × (adopted (value_of from) ≡ w) → Keeps k w → Adopts from answer k
takes from a q = (sym a.0, q.0 ∙ sym a.1, q.1)

-- Columns of zeros with what was adopted are the fresh state, beside the answer.
pub made-fresh : (from : Settings) (answer : Answer) (c : Columns) (k : KeptSettings) (h b : List ℕ) → c ≡ blank → Adopts from answer k → Empties h b → Freshened from answer (state c 0 0 0 k h b)
made-fresh from answer c k h b e a n = (
  a.0,
  ap (λ v. machine (book v (table_of c) 0 0) 0 (cache_of h b)) a.1 ∙ ap (λ l. machine (book (adopted (value_of from)) l 0 0) 0 (cache_of h b)) (ap table_of e ∙ blank-table)
      ∙ ap (λ (x : Cache). machine (book (adopted (value_of from)) (replicate places none) 0 0) 0 x) n.0,
  zeroed_sound c k h b e a.2 n,
)

-- the state that is all zeros
abbrev pub zeros : State
zeros =
    state
    (columns (replicate places 0) (replicate places 0) (replicate places 0) (replicate places 0) (replicate places 0) (replicate party_places 0)
    (replicate party_places 0) 0)
    0 0 0 (kept_settings 0 0 0 (replicate most_tags 0)) (replicate cache_numbers 0) (replicate cache_bytes 0)

-- A state of zeros is sound, and nobody is attached.
pub zeros_sound : SoundState zeros × ((client : ℕ) → has zeros.attached client ≡ false)
unfolding blank Ascending some_strict
zeros_sound = (
  zeroed_sound zeros.table zeros.settings zeros.cache zeros.shown refl
      (record { timeout = omega arith; few = omega arith; long = length-replicate {A = ℕ} most_tags 0; ascending = tt; unmarked = λ h. refl })
      (no_numbers zeros.shown, none_sound zeros.shown blank_bytes),
  λ client. rw (zero-div (2 ^ client)),
)

-- In a fresh machine cursor and clock are 0, nobody is attached, nothing is live and nothing is cached.
pub fresh_is : (v : Value) → ((made v).book.cursor ≡ 0) × ((made v).book.clock ≡ 0) × ((client : ℕ) → has (made v).attached client ≡ false) × ((k : ℕ) → at (made v).book k ≡ none)
    × ((k : ℕ) → in_cache (made v).cache k ≡ none)
fresh_is v = (refl, refl, zeros_sound.1, λ k. get_d_repeat places k none, λ k. get_d_repeat cache_places k none)
