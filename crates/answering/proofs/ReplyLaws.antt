-- Each outcome of a reply: refused before the table is looked into, unknown, mismatched, answered.
-- Assumes nothing.
use Prim.Native.Nat.{ℕ}
use mathlib.Core.Path.{◌≡◌, ap, sym, ◌∙◌}
use mathlib.Core.Bool.{true, false}
use mathlib.Core.Option.{Option, some, none}
use mathlib.Core.List.{List}
use native.Mathlib.Omega.{arith}
use lib.ListN.{length, set}
use Rattle.numbers.specs.Numbers.{places}
use Rattle.laws.specs.Bytes.{over}
use Rattle.laws.specs.Search.{best}
use Rattle.wire.specs.Frame.{id_of}
use Rattle.pdu.specs.Replies.{answering}
use Rattle.pdu.specs.declared.What.{What}
use Rattle.pdu.specs.declared.ProxyId.{ProxyId}
use Rattle.rewrite.specs.Rewriting.{Rewritten, with_counts}
use Rattle.rewrite.specs.Frames.{returned, under}
use Rattle.rewrite.specs.inner.Lent.{tags_of}
use Rattle.book.specs.Book.{Live, at}
use Rattle.book.specs.Book.Move.{reply as replies}
use Rattle.book.specs.Desk.{id_place}
use Rattle.caching.specs.Kept.{cache_of}
use Rattle.machine.specs.Machine.{Machine, Note, rules, moved, caching}
use Rattle.machine.specs.Calls.{Outcome, done, out_of, list_of}
use Rattle.machine.specs.Calls.Call.{reply}
use Rattle.machine.specs.Refusals.{entry_for}
use Rattle.machine.specs.Replies.{pairs, cache_after, answered_to, answered}
use Rattle.machine.specs.Outcomes.{granted, outcome}
use Rattle.machine.specs.declared.Answer.TheVariants.{Refused, Answered}
use Rattle.machine.proofs.OutcomeLaws.{granted_is, refused_is}
use Rattle.table.specs.inner.Places.{holds}
use Rattle.table.specs.inner.Changes.{reach}
use Rattle.table.proofs.ViewLaws.{at_beyond}
use Rattle.table.proofs.EntryLaws.{held, live_at}
use Rattle.table.proofs.FindLaws.{find_place}
use Rattle.proxy.specs.State.{State, value_in, machine_of, SoundState}
use Rattle.proxy.specs.Gates.{reply_gate}
use Rattle.proxy.proofs.StateLaws.{timed, clock_is}
use Rattle.answering.proofs.GateLaws.{reply_gate_lem, reply_behind, reply_timely}
use Rattle.answering.proofs.EndLaws.{named, ended_keeping, Living, holder_lives, ended_keeping_lem}

-- what is said and written, by its parts
abbrev sent : ProxyId → (size parties : ℕ) → Machine → List ℕ → Rewritten → Outcome
sent id m n a l x = done (Answered id m n x.partial x.value) a x.bytes l

told : (m : ℕ) {id : ProxyId} {j n n' : ℕ} {l l' : List ℕ} {a a' : Machine} {x x' : Rewritten} → id.0 ≡ j → n ≡ n' → a ≡ a' → l ≡ l' → x ≡ x'
    → sent id m n a l x ≡ sent (named j) m n' a' l' x'
told m {id} {j} p q r t w = let e : id ≡ named j = ap named p in cc

-- The gate refused.
pub was_refused : (m : Machine) (t : ℕ) (f o l : List ℕ) (n : ℕ) → n ≡ reply_gate (length o) (length l) t m.book.clock f → (n ≡ 0 → ⊥)
    → done (Refused n) m o l ≡ outcome m (reply t f o l)
unfolding out_of list_of
was_refused m t f o l n e h = refused_is m (reply t f o l) n (reply_gate_lem m t f o l n e h) h

module _ (s : State) (d : SoundState s) (t : ℕ) (f o l : List ℕ) (gate : reply_gate (length o) (length l) t s.clock f ≡ 0) (k : ℕ)
    (found : k ≡ best (holds s.table.ids (id_of f)) (λ i j. false) places s.table.top) where
  -- the place found is the book's, and tells the refusal
  place_is : k ≡ id_place rules (machine_of s).book (id_of f)
  place_is = found ∙ find_place (value_in s.settings) s.table s.cursor s.clock d.table (id_of f)

  entry_is : (x : Option (Live What Note)) → at (machine_of s).book k ≡ x → entry_for (machine_of s) f ≡ x
  entry_is x e = ap (at (machine_of s).book) (sym place_is) ∙ e

  -- No place is live under the reply's id.
  pub was_unknown : k ≡ places → done (Refused 7) (machine_of s) o l ≡ outcome (machine_of s) (reply t f o l)
  unfolding out_of list_of
  was_unknown e =
      refused_is (machine_of s) (reply t f o l) 7
      (reply_behind (machine_of s) t f o l gate ∙ rw (entry_is none (at_beyond (value_in s.settings) s.table s.cursor s.clock k (omega (arith, e)))))
      (λ z. omega arith)

  module _ (lives : k ≡ places → ⊥) where
    -- the entry there
    living : Living s.table k
    living = holder_lives s.table d.table (id_of f) k found lives

    stands : at (machine_of s).book k ≡ some (held s.table k)
    stands = live_at s.table k living.low living.live

    -- The reply does not answer it.
    pub was_mismatched : answering (held s.table k).what f ≡ false → done (Refused 8) (machine_of s) o l ≡ outcome (machine_of s) (reply t f o l)
    unfolding out_of list_of
    was_mismatched e =
        refused_is (machine_of s) (reply t f o l) 8 (reply_behind (machine_of s) t f o l gate ∙ rw (entry_is _ stands) (rw e)) (λ z. omega arith)

    module _ (answers : answering (held s.table k).what f ≡ true) where
      is_answered_lem : outcome (machine_of s) (reply t f o l) ≡ answered_to (machine_of (timed s t)) k f o l (some (held s.table k))
      unfolding granted answered
      is_answered_lem =
          granted_is (machine_of s) (reply t f o l) (reply_behind (machine_of s) t f o l gate ∙ rw (entry_is _ stands) (rw answers))
          ∙ rw (← place_is, stands, clock_is s t (reply_timely (length o) (length l) t s.clock f gate).0.later)

      -- The reply answers it, and the entry ends.
      pub was_answered : (id : ProxyId) (n p v : ℕ) (o' l' is : List ℕ) (top : ℕ) (cache shown : List ℕ)
          → id.0 ≡ (held s.table k).id
          → (n ≡ length (held s.table k).parties) × (l' ≡ over (pairs (held s.table k).parties) l)
          → (is ≡ set s.table.ids k 0) × (top ≡ reach is s.table.top)
          → with_counts p v o' ≡ under 0 o (returned (tags_of s.settings.tag_count s.settings.tag_words) (held s.table k).what f)
          → cache_of cache shown ≡ cache_after (machine_of (timed s t)) (held s.table k) f
          → done (Answered id (length f) n p v) (machine_of (ended_keeping s is top t cache shown)) o' l' ≡ outcome (machine_of s) (reply t f o l)
      unfolding answered_to value_in
      was_answered id n p v o' l' is top cache shown i h q w keeps =
          told (length f) i h.0 (ended_keeping_lem s d k living t is top q cache shown ∙ ap (caching (moved (machine_of (timed s t)) (replies k (held s.table k)))) keeps) h.1 w ∙ sym is_answered_lem
