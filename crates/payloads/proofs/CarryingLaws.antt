-- What a request has for registers decides which of them are in its frame, how the frame goes on, and whether a tag forbids it.
-- Assumes nothing.
use Prim.Native.Nat.{ℕ}
use mathlib.Core.Path.{◌≡◌, refl, ap}
use mathlib.Core.Bool.{Bool, false}
use mathlib.Core.List.{List}
use Rattle.laws.proofs.Choice.{never}
use Rattle.settings.specs.Grammar.{Tag}
use Rattle.settings.specs.TagWords.{some_strict}
use Rattle.pdu.specs.declared.Table.TheVariants.{Bits, Registers}
use Rattle.pdu.specs.declared.Asked.{Asked}
use Rattle.pdu.specs.declared.Asked.TheVariants.{Read, SingleWrite, MultipleWrite, MaskWrite, ReadWrite, Other}
use Rattle.rewrite.specs.declared.Way.TheVariants.{ToBcd}
use Rattle.rewrite.specs.Registers.{registers_at}
use Rattle.rewrite.specs.Rewriting.{Rewritten, with_counts, rewriting}
use Rattle.rewrite.specs.Frames.{forwarded}
use Rattle.rewrite.specs.Legal.{some_forbids, some_has, forbidden}
use Rattle.rewrite.specs.inner.Lent as lent
use Rattle.rewrite.proofs.StrictLaws.{lenient-allowed}
use Rattle.payloads.specs.declared.carrying.Run as run
use Rattle.payloads.specs.declared.carrying.Carried.{Carried}
use Rattle.payloads.specs.declared.carrying.Carried.TheVariants.{Nothing, Mask, Run}
use Rattle.payloads.specs.inner.Carrying.{carried_by}

module _ (tags : List Tag) (f : List ℕ) where
  -- by what a request has: the registers that are in its frame, what the frame becomes, and whether a tag forbids that
  abbrev pub RunIn : Carried → Type 0
  RunIn Nothing = Unit {0}
  RunIn (Mask a) = Unit {0}
  RunIn (Run r) = lent.Run r.base r.start r.quantity f

  abbrev pub sent_as : Carried → Rewritten
  sent_as Nothing = with_counts 0 0 f
  sent_as (Mask a) = with_counts 0 0 f
  sent_as (Run r) = rewriting ToBcd r.base r.start r.quantity tags f

  abbrev pub forbids_as : Carried → Bool
  forbids_as Nothing = false
  forbids_as (Mask a) = some_has a tags
  forbids_as (Run r) = some_forbids r.start (registers_at r.base r.quantity f) tags

  pub record Carrying (a : Asked) (x : Carried) : Type 0 where
    pub room : lent.Sent a f → RunIn x
    pub sent : forwarded tags a f ≡ sent_as x
    pub forbids : forbidden tags a f ≡ forbids_as x

  by_carried : (a : Asked) → Carrying a (carried_by a)
  unfolding forwarded forbidden
  by_carried (Read t s q) = record { room = λ r. r; sent = refl; forbids = refl }
  by_carried (SingleWrite Bits a v) = record { room = λ r. r; sent = refl; forbids = refl }
  by_carried (SingleWrite Registers a v) = record { room = λ r. r; sent = refl; forbids = refl }
  by_carried (MultipleWrite Bits s q) = record { room = λ r. r; sent = refl; forbids = refl }
  by_carried (MultipleWrite Registers s q) = record { room = λ r. r; sent = refl; forbids = refl }
  by_carried (MaskWrite a x y) = record { room = λ r. r; sent = refl; forbids = refl }
  by_carried (ReadWrite s q u p) = record { room = λ r. r; sent = refl; forbids = refl }
  by_carried Other = record { room = λ r. r; sent = refl; forbids = refl }

  module _ (a : Asked) {x : Carried} (e : x ≡ carried_by a) where
    -- What the definitions say of a request they say of what it has for registers.
    pub carrying : Carrying a x
    carrying = rw e (by_carried a)

    -- Where no tag is strict, none forbids a run.
    pub run-lenient : (r : run.Run) → x ≡ Run r → some_strict tags ≡ false → forbidden tags a f ≡ false
    run-lenient r q s = lenient-allowed tags s a f (λ at v w m. never (cc (ap carried_by m)))
