-- Any list of calls on a fresh machine is accounted for.
-- Assumes nothing.
use mathlib.Core.Path.{◌≡◌, refl, ◌∙◌}
use mathlib.Core.List.{List}
use Rattle.settings.specs.Grammar.{Value}
use Rattle.pdu.specs.declared.What.{What}
use Rattle.book.specs.Follower.{Follower, Accounted}
use Rattle.book.proofs.History.{always, always_sound}
use Rattle.machine.specs.Machine.{Machine, Note, made, rules, settings}
use Rattle.machine.specs.Calls.{Call}
use Rattle.machine.specs.Outcomes.{outcome}
use Rattle.machine.specs.Histories.{Seen, seen_of, events, after_calls, told_by, ledger_of}
use Rattle.machine.proofs.Follows.{moves, follows, fits, honest, rule_stays}
use Rattle.machine.proofs.CachedLaws.{Stocked, stocked_empty, stocked_next}

-- the machine as one that follows its book
abbrev pub product : Value → Follower rules What Note Call (λ x. Seen) Machine
product v =
    record {
      made = v;
      start = made v;
      next = λ m x. (outcome m x).after;
      answer = λ m x. seen_of (outcome m x);
      seen = events v;
      Sound = λ m. (settings m ≡ v) × Stocked m.cache;
      book_of = λ m. m.book;
      moves = moves;
      sound_start = (refl, stocked_empty);
      sound_next = λ m x l s g k. (rule_stays m x ∙ s.0, stocked_next m x s.1);
      begins = refl;
      follows = λ m x s g. follows m x;
      fits = λ m x s g. fits m x g;
      honest = λ m x s g. honest v m x g s.0;
    }

-- the settings are those that the machine was made with; and what is known of the cache
pub in_force_lem : (v : Value) (xs : List Call) → settings (after_calls v xs) ≡ v
in_force_lem v xs = (always_sound (product v) xs).0

pub stocked : (v : Value) (xs : List Call) → Stocked (after_calls v xs).cache
stocked v xs = (always_sound (product v) xs).1

pub accounted : (v : Value) (xs : List Call) → Accounted rules (after_calls v xs).book (told_by v xs) (ledger_of v xs)
accounted v xs = always (product v) xs
