-- The machine follows its book: every call's effect is a list of fitting moves, and what is seen of the call is what the moves tell.
-- Assumes nothing.
use Prim.Native.Nat.{ℕ, ◌+◌, ◌*◌}
use mathlib.Core.Path.{◌≡◌, refl, ap, sym, ◌∙◌}
use mathlib.Core.Logic.{⊎_elim}
use mathlib.Core.Bool.{true, false, cond}
use mathlib.Core.Option.{Option, some, none}
use mathlib.Core.List.{List, [], ◌∷◌, flat_map}
use native.Mathlib.Omega.{arith}
use lib.ListN.{length, take, drop}
use lib.Seq.{take_at}
use lib.Dec.{eqb, ltb}
use borrow.Author.Tests.{eq-eqb, ne_eqb, ltb-true}
use Rattle.numbers.specs.Numbers.{places}
use Rattle.laws.specs.Bytes.{over}
use Rattle.laws.proofs.Choice.{true_or, eq_or}
use Rattle.settings.specs.Grammar.{Value}
use Rattle.wire.specs.Frame.{id_of}
use Rattle.pdu.specs.declared.What.{What}
use Rattle.rewrite.specs.Legal.{fault_under}
use Rattle.cache.specs.Cache.{Cached, in_cache}
use Rattle.book.specs.Book.{Party, Live, Move, Good, at}
use Rattle.book.specs.Book.Move.{pass, join, issue, reply as replies, expire, strike, wipe, mark}
use Rattle.book.specs.Book.Event.{passed, replied, expired, left, lost}
use Rattle.book.specs.Desk.{Open, free_place, free_id, id_place, due_place}
use Rattle.book.specs.Follower.{tells, applies, AllFit}
use Rattle.book.proofs.PlaceLaws.{at_low}
use Rattle.book.proofs.GoodLaws.{good_move}
use Rattle.book.proofs.DeskLaws.{join-found, free-found, due_found, next-free}
use Rattle.machine.specs.Machine.{Machine, Note, opened, Live_book, rules, settings, clocked}
use Rattle.machine.specs.Calls.{Call, Outcome, done, out_of, list_of}
use Rattle.machine.specs.Calls.Call.{attach, detach, request, reply, tick, link_lost}
use Rattle.machine.specs.Refusals.{refusal, entry_for}
use Rattle.machine.specs.Requests.{wanted, party_of, joins, closing, joining_place, can_join, exhausted, excepted, hitting_place, hits, hit_on, joined_to, issued_to, missed, served, admitted}
use Rattle.machine.specs.Replies.{pairs, answered_to, answered, expired_to, ticked}
use Rattle.machine.specs.Outcomes.{granted, outcome}
use Rattle.machine.specs.Numbers.{numbers}
use Rattle.machine.specs.Histories.{seen_of, parties_in, told, events}
use Rattle.machine.specs.declared.Answer.TheVariants as answer
use Rattle.machine.proofs.OutcomeLaws.{granted_is, reply_finds, is_refusal, granted_no_refusal, clocked-at, served_cases}
use Rattle.machine.proofs.RefusalLaws.{refusal_changes_nothing}
use Rattle.machine.proofs.NumberLaws.{no_refusal}
use Rattle.machine.proofs.SpelledLaws.{party-spelled, wanted-spelled}
use Rattle.machine.proofs.JoinLaws.{joins_exact}

abbrev pub Moves : Type 0
Moves = List (Move Value What Note)

-- the moves that a legal request makes once the clock is set: none where it hits; joining, else issuing and closing what it spoils, else none
unfoldable pub joining : Machine → ℕ → ℕ → List ℕ → Option (Live What Note) → Moves
joining m k c f none = []
joining m k c f (some e) = join k e (wanted f) (party_of c f) ∷ []

unfoldable pub missing : Machine → ℕ → List ℕ → Moves
missing m c f =
    cond (can_join m f) (joining m (joining_place m f) c f (at m.book (joining_place m f)))
    (cond (exhausted m c) []
    (issue (free_place rules m.book) (free_id rules m.book) (wanted f) opened (m.book.clock + (settings m).timeout) (party_of c f) ∷ mark (closing (wanted f)) ∷ []))

unfoldable pub serving : Machine → ℕ → List ℕ → Moves
serving m c f = cond (hits m f) [] (missing m c f)

unfoldable pub ending : (Live What Note → Move Value What Note) → Option (Live What Note) → Moves
ending x none = []
ending x (some e) = x e ∷ []

-- the moves of a call that is not refused, and of any call
unfoldable pub granted_moves : Machine → Call → Moves
granted_moves m (attach c) = []
granted_moves m (detach c) = strike c ∷ []
granted_moves m (request c t f o) = pass t ∷ cond (eqb (fault_under (settings m).tags f) 0) (serving (clocked m t) c f) []
granted_moves m (reply t f o l) = pass t ∷ ending (replies (id_place rules m.book (id_of f))) (entry_for m f)
granted_moves m (tick t o l) = pass t ∷ ending (expire (due_place rules (clocked m t).book)) (at (clocked m t).book (due_place rules (clocked m t).book))
granted_moves m link_lost = wipe ∷ []

unfoldable pub moves : Machine → Call → Moves
moves m x = cond (eqb (refusal m x) 0) (granted_moves m x) []

moves_refused : (m : Machine) (x : Call) → (refusal m x ≡ 0 → ⊥) → moves m x ≡ []
unfolding moves
moves_refused m x h = rw (ne_eqb (refusal m x) 0 h)

moves_granted : (m : Machine) (x : Call) → refusal m x ≡ 0 → moves m x ≡ granted_moves m x
unfolding moves
moves_granted m x h = rw (eq-eqb (refusal m x) 0 h)

-- FOLLOWS: the book afterwards is what the moves make of it

joined_follows : (m : Machine) (k c : ℕ) (f o : List ℕ) (q : Option (Live What Note)) → (joined_to m k c f o q).after.book ≡ applies rules m.book (joining m k c f q)
unfolding joined_to joining excepted applies
joined_follows m k c f o none = refl
joined_follows m k c f o (some e) = refl

missed_follows : (m : Machine) (c : ℕ) (f o : List ℕ) → (missed m c f o).after.book ≡ applies rules m.book (missing m c f)
unfolding missed missing excepted issued_to applies
missed_follows m c f o =
    ⊎_elim
    (λ (t : can_join m f ≡ true). rw t (into (at m.book (joining_place m f))))
    (λ (t : can_join m f ≡ false). rw t (⊎_elim (λ (u : exhausted m c ≡ true). rw u refl) (λ (u : exhausted m c ≡ false). rw u refl) (true_or (exhausted m c))))
    (true_or (can_join m f))
  where
    into : (q : Option (Live What Note)) → (joined_to m (joining_place m f) c f o q).after.book ≡ applies rules m.book (joining m (joining_place m f) c f q)
    into q = joined_follows m (joining_place m f) c f o q

hit_follows : (m : Machine) (f o : List ℕ) (q : Option Cached) → (hit_on m f o q).after.book ≡ m.book
unfolding hit_on excepted
hit_follows m f o none = refl
hit_follows m f o (some e) = refl

served_follows : (m : Machine) (c : ℕ) (f o : List ℕ) → (served m c f o).after.book ≡ applies rules m.book (serving m c f)
unfolding served serving applies
served_follows m c f o =
    ⊎_elim
    (λ (t : hits m f ≡ true). rw t (hit_follows m f o (in_cache m.cache (hitting_place m f))))
    (λ (t : hits m f ≡ false). rw t (missed_follows m c f o))
    (true_or (hits m f))

granted_follows : (m : Machine) (x : Call) → refusal m x ≡ 0 → (granted m x).after.book ≡ applies rules m.book (granted_moves m x)
unfolding granted granted_moves applies admitted answered answered_to ticked expired_to ending excepted
granted_follows m (attach c) h = refl
granted_follows m (detach c) h = refl
granted_follows m (request c t f o) h =
    ⊎_elim
    (λ (z : eqb (fault_under (settings m).tags f) 0 ≡ true). rw z (served_follows (clocked m t) c f o))
    (λ (z : eqb (fault_under (settings m).tags f) 0 ≡ false). rw z refl)
    (true_or (eqb (fault_under (settings m).tags f) 0))
granted_follows m (reply t f o l) h = let e = reply_finds m t f o l h in rw e.1 refl
granted_follows m (tick t o l) h = due (at (clocked m t).book (due_place rules (clocked m t).book))
  where
    due : (q : Option (Live What Note)) → (expired_to (clocked m t) (due_place rules (clocked m t).book) o l q).after.book ≡ applies rules (clocked m t).book (ending (expire (due_place rules (clocked m t).book)) q)
    due none = refl
    due (some e) = refl
granted_follows m link_lost h = refl

pub follows : (m : Machine) (x : Call) → (outcome m x).after.book ≡ applies rules m.book (moves m x)
unfolding applies
follows m x =
    ⊎_elim
    (λ (z : refusal m x ≡ 0). ap (λ (d : Outcome). d.after.book) (granted_is m x z) ∙ granted_follows m x z ∙ ap (applies rules m.book) (sym (moves_granted m x z)))
    (λ (z : refusal m x ≡ 0 → ⊥). ap (λ (d : Outcome). d.after.book) (refusal_changes_nothing m x z) ∙ ap (applies rules m.book) (sym (moves_refused m x z)))
    (eq_or (refusal m x) 0)

-- FITS: every move may be made

joined_fits : (m : Machine) (k c : ℕ) (f : List ℕ) (e : Live What Note) → at m.book k ≡ some e → Open rules m.book (joins (settings m) (wanted f)) e → AllFit rules m.book (joining m k c f (some e))
unfolding joining AllFit
joined_fits m k c f e h o = ((h, o.1, o.2, (joins_exact (settings m) (wanted f) e.what e.note o.0).1), tt)

missed_fits : (m : Machine) (c : ℕ) (f : List ℕ) → Good rules m.book → AllFit rules m.book (missing m c f)
unfolding missing AllFit exhausted
missed_fits m c f g =
    ⊎_elim
    (λ (t : can_join m f ≡ true).
    let w = join-found rules m.book g (joins (settings m) (wanted f)) (ltb-true (joining_place m f) places t) in
    rw t (rw w.1 (joined_fits m (joining_place m f) c f w.0 w.1 w.2)))
    (λ (t : can_join m f ≡ false). rw t
    (⊎_elim
    (λ (u : ltb (free_place rules m.book) places ≡ true). rw u
    ((ltb-true (free_place rules m.book) places u, (free-found rules m.book (ltb-true (free_place rules m.book) places u)).0, next-free rules m.book g, refl), (tt, tt)))
    (λ (u : ltb (free_place rules m.book) places ≡ false). rw u tt)
    (true_or (ltb (free_place rules m.book) places))))
    (true_or (can_join m f))

served_fits : (m : Machine) (c : ℕ) (f : List ℕ) → Good rules m.book → AllFit rules m.book (serving m c f)
unfolding serving AllFit
served_fits m c f g = ⊎_elim (λ (t : hits m f ≡ true). rw t tt) (λ (t : hits m f ≡ false). rw t (missed_fits m c f g)) (true_or (hits m f))

pub same-entry : {d e : Live What Note} → some d ≡ some e → d ≡ e
same-entry h = cc

due_fits : (b : Live_book) → Good rules b → (q : Option (Live What Note)) → at b (due_place rules b) ≡ q → AllFit rules b (ending (expire (due_place rules b)) q)
unfolding ending AllFit
due_fits b g none e = tt
due_fits b g (some x) e =
    let w = due_found rules b g (rw g.long at (at_low b.places (due_place rules b) x e)) in
    ((e, rw (same-entry (sym w.1 ∙ e)) at w.2), tt)

granted_fits : (m : Machine) (x : Call) → Good rules m.book → refusal m x ≡ 0 → AllFit rules m.book (granted_moves m x)
unfolding granted_moves AllFit ending
granted_fits m (attach c) g h = tt
granted_fits m (detach c) g h = (tt, tt)
granted_fits m (request c t f o) g h = (
  tt,
  ⊎_elim
      (λ (z : eqb (fault_under (settings m).tags f) 0 ≡ true). rw z (served_fits (clocked m t) c f (good_move rules m.book (pass t) g tt)))
      (λ (z : eqb (fault_under (settings m).tags f) 0 ≡ false). rw z tt)
      (true_or (eqb (fault_under (settings m).tags f) 0)),
)
granted_fits m (reply t f o l) g h = let e = reply_finds m t f o l h in (tt, rw e.1 (e.1, tt))
granted_fits m (tick t o l) g h = (tt, due_fits (clocked m t).book (good_move rules m.book (pass t) g tt) (at (clocked m t).book (due_place rules (clocked m t).book)) refl)
granted_fits m link_lost g h = (tt, tt)

pub fits : (m : Machine) (x : Call) → Good rules m.book → AllFit rules m.book (moves m x)
unfolding AllFit
fits m x g =
    ⊎_elim
    (λ (z : refusal m x ≡ 0). rw (moves_granted m x z) (granted_fits m x g z))
    (λ (z : refusal m x ≡ 0 → ⊥). rw (moves_refused m x z) tt)
    (eq_or (refusal m x) 0)

-- HONEST: what is seen is what the moves tell

pairs-length : (ps : List Party) → length (pairs ps) ≡ 2 * length ps
unfolding flat_map
pairs-length [] = omega arith
pairs-length (p ∷ ps) = let i = pairs-length ps in omega arith

pairs_back : (ps : List Party) → parties_in (pairs ps) ≡ ps
unfolding flat_map parties_in
pairs_back [] = refl
pairs_back (p ∷ ps) = ap (p ∷◌) (pairs_back ps)

-- the list that is written shows the parties
listed_back : (ps : List Party) (l : List ℕ) → parties_in (take (2 * length ps) (over (pairs ps) l)) ≡ ps
listed_back ps l = ap parties_in (take_at (pairs ps) (drop (length (pairs ps)) l) (2 * length ps) (pairs-length ps)) ∙ pairs_back ps

missed_honest : (v : Value) (m : Machine) (c t : ℕ) (f o : List ℕ) → Good rules m.book → settings m ≡ v → m.book.clock ≡ t
    → told v (request c t f o) (seen_of (missed m c f o)) ≡ passed t ∷ tells (missing m c f)
unfolding told missed missing tells numbers excepted issued_to joined_to joining exhausted
missed_honest v m c t f o g s k =
    rw (← wanted-spelled f, ← party-spelled c f)
    (⊎_elim
    (λ (z : can_join m f ≡ true).
    let w = join-found rules m.book g (joins (settings m) (wanted f)) (ltb-true (joining_place m f) places z) in
    rw z (rw w.1 refl))
    (λ (z : can_join m f ≡ false). rw z
    (⊎_elim
    (λ (u : ltb (free_place rules m.book) places ≡ true). rw u (rw (s, k) refl))
    (λ (u : ltb (free_place rules m.book) places ≡ false). rw u refl)
    (true_or (ltb (free_place rules m.book) places))))
    (true_or (can_join m f)))

hit_honest : (v : Value) (m : Machine) (c t : ℕ) (f o : List ℕ) (q : Option Cached) → told v (request c t f o) (seen_of (hit_on m f o q)) ≡ passed t ∷ []
unfolding told numbers hit_on excepted
hit_honest v m c t f o none = refl
hit_honest v m c t f o (some e) = refl

served_honest : (v : Value) (m : Machine) (c t : ℕ) (f o : List ℕ) → Good rules m.book → settings m ≡ v → m.book.clock ≡ t
    → told v (request c t f o) (seen_of (served m c f o)) ≡ passed t ∷ tells (serving m c f)
unfolding served serving tells
served_honest v m c t f o g s k =
    ⊎_elim
    (λ (z : hits m f ≡ true). rw z (hit_honest v m c t f o (in_cache m.cache (hitting_place m f))))
    (λ (z : hits m f ≡ false). rw z (missed_honest v m c t f o g s k))
    (true_or (hits m f))

replied_honest : (v : Value) (m n : Machine) (k t : ℕ) (f o l : List ℕ) (e : Live What Note)
    → told v (reply t f o l) (seen_of (answered_to n k f o l (some e))) ≡ passed t ∷ tells (ending (replies k) (some e))
unfolding told tells numbers answered_to ending
replied_honest v m n k t f o l e = ap (λ (ps : List Party). passed t ∷ replied e.id ps ∷ []) (listed_back e.parties l)

ticked_honest : (v : Value) (n : Machine) (k t : ℕ) (o l : List ℕ) (q : Option (Live What Note))
    → told v (tick t o l) (seen_of (expired_to n k o l q)) ≡ passed t ∷ tells (ending (expire k) q)
unfolding told tells numbers expired_to ending
ticked_honest v n k t o l none = refl
ticked_honest v n k t o l (some e) = ap (λ (ps : List Party). passed t ∷ expired e.id ps ∷ []) (listed_back e.parties l)

attach_tells : (v : Value) (m : Machine) (c : ℕ) → told v (attach c) (seen_of (granted m (attach c))) ≡ []
unfolding told
attach_tells v m c = refl

detach_tells : (v : Value) (m : Machine) (c : ℕ) → told v (detach c) (seen_of (granted m (detach c))) ≡ left c ∷ []
unfolding told
detach_tells v m c = refl

lost-tells : (v : Value) (m : Machine) → told v link_lost (seen_of (granted m link_lost)) ≡ lost ∷ []
unfolding told
lost-tells v m = refl

excepted-tells : (v : Value) (m : Machine) (c t : ℕ) (f o : List ℕ) (n : ℕ) → told v (request c t f o) (seen_of (excepted m n f o)) ≡ passed t ∷ []
unfolding told excepted numbers
excepted-tells v m c t f o n = refl

granted_honest : (v : Value) (m : Machine) (x : Call) → Good rules m.book → settings m ≡ v → refusal m x ≡ 0 → told v x (seen_of (granted m x)) ≡ tells (granted_moves m x)
unfolding granted granted_moves tells admitted answered ticked
granted_honest v m (attach c) g s h = attach_tells v m c
granted_honest v m (detach c) g s h = detach_tells v m c
granted_honest v m (request c t f o) g s h =
    ⊎_elim
    (λ (z : eqb (fault_under (settings m).tags f) 0 ≡ true). rw z (served_honest v (clocked m t) c t f o (good_move rules m.book (pass t) g tt) s (clocked-at m (request c t f o) t h refl)))
    (λ (z : eqb (fault_under (settings m).tags f) 0 ≡ false). rw z (excepted-tells v (clocked m t) c t f o _))
    (true_or (eqb (fault_under (settings m).tags f) 0))
granted_honest v m (reply t f o l) g s h = let e = reply_finds m t f o l h in rw e.1 (replied_honest v m (clocked m t) (id_place rules m.book (id_of f)) t f o l e.0)
granted_honest v m (tick t o l) g s h = ticked_honest v (clocked m t) (due_place rules (clocked m t).book) t o l (at (clocked m t).book (due_place rules (clocked m t).book))
granted_honest v m link_lost g s h = lost-tells v m

refused-tells : (v : Value) (m : Machine) (x : Call) (n : ℕ) (w l : List ℕ) → (n ≡ 0 → ⊥) → events v x (seen_of (done (answer.Refused n) m w l)) ≡ []
unfolding events numbers
refused-tells v m x n w l h = rw (ne_eqb n 0 h)

granted-tells : (v : Value) (x : Call) (d : Outcome) → is_refusal d.says ≡ false → events v x (seen_of d) ≡ told v x (seen_of d)
unfolding events
granted-tells v x d h = rw (eq-eqb (numbers d.says).refusal 0 (no_refusal d.says h))

pub honest : (v : Value) (m : Machine) (x : Call) → Good rules m.book → settings m ≡ v → events v x (seen_of (outcome m x)) ≡ tells (moves m x)
unfolding tells
honest v m x g s =
    ⊎_elim
    (λ (z : refusal m x ≡ 0).
    ap (λ (d : Outcome). events v x (seen_of d)) (granted_is m x z) ∙ granted-tells v x (granted m x) (granted_no_refusal m x z)
    ∙ granted_honest v m x g s z ∙ ap tells (sym (moves_granted m x z)))
    (λ (z : refusal m x ≡ 0 → ⊥).
    ap (λ (d : Outcome). events v x (seen_of d)) (refusal_changes_nothing m x z) ∙ refused-tells v m x (refusal m x) (out_of x) (list_of x) z ∙ ap tells (sym (moves_refused m x z)))
    (eq_or (refusal m x) 0)

-- the settings stay those that the machine was made with
served_rule : (m : Machine) (c : ℕ) (f o : List ℕ) → settings (served m c f o).after ≡ settings m
unfolding excepted joined_to issued_to hit_on
served_rule m c f o = served_cases (λ d. settings d.after ≡ settings m) m c f o refl (λ k e. refl) refl (λ e. refl)

expired_rule : (m : Machine) (k : ℕ) (o l : List ℕ) (q : Option (Live What Note)) → settings (expired_to m k o l q).after ≡ settings m
unfolding expired_to
expired_rule m k o l none = refl
expired_rule m k o l (some e) = refl

granted_rule : (m : Machine) (x : Call) → refusal m x ≡ 0 → settings (granted m x).after ≡ settings m
unfolding granted admitted answered answered_to ticked excepted
granted_rule m (attach c) h = refl
granted_rule m (detach c) h = refl
granted_rule m (request c t f o) h =
    ⊎_elim
    (λ (z : eqb (fault_under (settings m).tags f) 0 ≡ true). rw z (served_rule (clocked m t) c f o))
    (λ (z : eqb (fault_under (settings m).tags f) 0 ≡ false). rw z refl)
    (true_or (eqb (fault_under (settings m).tags f) 0))
granted_rule m (reply t f o l) h = let e = reply_finds m t f o l h in rw e.1 refl
granted_rule m (tick t o l) h = expired_rule (clocked m t) (due_place rules (clocked m t).book) o l (at (clocked m t).book (due_place rules (clocked m t).book))
granted_rule m link_lost h = refl

pub rule_stays : (m : Machine) (x : Call) → settings (outcome m x).after ≡ settings m
rule_stays m x =
    ⊎_elim
    (λ (z : refusal m x ≡ 0). ap (λ (d : Outcome). settings d.after) (granted_is m x z) ∙ granted_rule m x z)
    (λ (z : refusal m x ≡ 0 → ⊥). ap (λ (d : Outcome). settings d.after) (refusal_changes_nothing m x z))
    (eq_or (refusal m x) 0)
