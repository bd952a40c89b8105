-- `requesting::check` meets its contract: what is not legal by its bytes stays so, and of what is legal the tags decide.
use Prim.Native.Nat.{ℕ, zero, suc, ◌<◌}
use mathlib.Core.Path.{◌≡◌, refl, sym, ◌∙◌}
use mathlib.Core.Bool.{false}
use mathlib.Core.List.{List, [], ◌∷◌}
use lib.ListN.{get_or, take}
use Rattle.settings.specs.TagWords.{strict_mark, some_strict}
use Rattle.pdu.proofs.RequestLaws.{legal_proper}
use Rattle.rewrite.specs.inner.Lent.{tags_of}
use Rattle.rewrite.proofs.LegalLaws.{under_is}
use Rattle.rewrite.proofs.RoomLaws.{legal_sent}
use Rattle.std.proofs.Common.{rules, Err}
use Rattle.requesting.proofs.check.Goals as goal

-- Where the first word of all has no mark, none of those that count is strict: so where the first of those has none.
listed : (n : ℕ) (ws : List ℕ) → (get_or ws 0 0 < strict_mark → some_strict (tags_of n ws) ≡ false) → get_or (take n ws) 0 0 < strict_mark → some_strict (tags_of n ws) ≡ false
unfolding some_strict
listed zero ws h = λ _. refl
listed (suc n) [] h = λ _. refl
listed (suc n) (w ∷ ws) h = h

pub returns-in_err-asked : goal.returns-in_err-asked
returns-in_err-asked c =
    let k = c.args.settings.now in
    let told : c.from_residual.result ≡ Err c.in_err-asked.field-0.0 = search rules in
    told ∙ sym (under_is (tags_of k.tag_count k.tag_words) c.args.frame.now (sym c.check_request.ensures ∙ c.in_err-asked.was))

pub is_forbidden-requires-clause-sent : goal.is_forbidden-requires-clause-sent
is_forbidden-requires-clause-sent c =
    let f = c.args.frame.now in
    let legal = sym c.check_request.ensures ∙ c.in_ok-asked.was in
    legal_sent f legal (legal_proper f c.in_ok-asked.asked (λ k. (c.type_inv.frame k).fits) legal).lawful

pub is_forbidden-requires-clause-words_value : goal.is_forbidden-requires-clause-words_value
is_forbidden-requires-clause-words_value c =
    let k = c.args.settings.now in
    rw c.tags.ensures (listed k.tag_count k.tag_words c.requires.unmarked)

pub returns-then-is_forbidden : goal.returns-then-is_forbidden
returns-then-is_forbidden c =
    let k = c.args.settings.now in
    let forbids = sym (rw c.tags.ensures at c.is_forbidden.ensures) ∙ c.if-is_forbidden.true in
    sym (under_is (tags_of k.tag_count k.tag_words) c.args.frame.now (sym c.check_request.ensures ∙ c.in_ok-asked.was) ∙ rw forbids refl)

pub returns : goal.returns
returns c =
    let k = c.args.settings.now in
    let allows = sym (rw c.tags.ensures at c.is_forbidden.ensures) ∙ c.if-is_forbidden.false in
    sym (under_is (tags_of k.tag_count k.tag_words) c.args.frame.now (sym c.check_request.ensures ∙ c.in_ok-asked.was) ∙ rw allows refl)
