-- What a core does on the device that a state was spread into is, gathered, what the call does to that state; and what making leaves in a device is a fresh state.
-- Assumes nothing.
use Prim.Native.Nat.{ℕ}
use mathlib.Core.Path.{◌≡◌, ap, sym, subst, ◌∙◌}
use mathlib.Core.List.{List}
use Rattle.settings.specs.declared.Settings.{Settings}
use Rattle.machine.specs.Calls.{Call, done}
use Rattle.machine.specs.Outcomes.{outcome}
use Rattle.machine.specs.declared.Answer.{Answer}
use Rattle.proxy.specs.State.{state_of as columned, machine_of, SoundState}
use Rattle.proxy.specs.Calls.{Does, Freshened}
use Rattle.proxy.specs.declared.Device.{Device}
use Rattle.state_by_value.specs.States.{MadeState, state_of, gathered}
use Rattle.state_by_value.specs.Stepped.{ServedByValue, FreshlyByValue}
use Rattle.state_by_value.specs.declared.State.{State}
use Rattle.state_by_value.proofs.GatherLaws.{machine_back, made_back}

-- a state that was gathered from a device
module _ (d : Device) (s : State) (back : s ≡ gathered d) where
  same : SoundState (columned d) → machine_of (state_of s) ≡ machine_of (columned d)
  same sounds = ap (λ t. machine_of (state_of t)) back ∙ machine_back d sounds

  kept_made : SoundState (columned d) → MadeState s
  kept_made sounds = subst MadeState (sym back) (made_back d sounds)

  -- What making left in the device is the fresh state.
  pub freshly : (from : Settings) (a : Answer) → Freshened from a (columned d) → FreshlyByValue from (record { state = s; answer = a })
  freshly from a f = (f.0, same f.2 ∙ f.1, kept_made f.2)

-- a device that a state was spread into
module _ (s : State) (d : Device) (spread : columned d ≡ state_of s) where
  -- The device of a sound state is sound.
  pub spread_sound : MadeState s → SoundState (columned d)
  spread_sound = subst SoundState (sym spread)

  -- What a call does from this device, gathered, it does from the state.
  pub served : (left : Device) (after : State) (x : Call) (a : Answer) (w l : List ℕ)
      → after ≡ gathered left → Does (columned d) x a (columned left) w l → ServedByValue s x (record { state = after; answer = a }) w l
  served left after x a w l back does =
      (ap (λ m. done a m w l) (same left after back does.1) ∙ does.0 ∙ ap (λ k. outcome (machine_of k) x) spread, kept_made left after back does.1)
