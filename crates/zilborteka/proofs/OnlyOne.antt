-- Only one outcome fits: two outcomes that meet the contract of an exported function are the same report, the same lent bytes and the same machine afterwards.
-- Assumes nothing.
use Prim.Native.Nat.{ℕ}
use mathlib.Core.Path.{◌≡◌, refl, ap, sym, ◌∙◌}
use mathlib.Core.List.{List}
use Rattle.settings.specs.declared.Settings.{Settings}
use Rattle.machine.specs.Calls.{Call}
use Rattle.machine.specs.declared.Report.{Report}
use Rattle.machine.specs.declared.NextDeadline.{NextDeadline}
use Rattle.proxy.specs.State.{machine_of}
use Rattle.proxy.specs.declared.Device.{Device}
use Rattle.reports.specs.declared.SettingsRead.{SettingsRead}
use Rattle.machine.specs.Numbers.{Reported}
use Rattle.reports.specs.Reports.{TextSeen, SplitPromised, ReadPromised, WritePromised}
use Rattle.proxy.specs.State.{state_of}
use Rattle.device.specs.Fields.{state_size}
use Rattle.device.specs.Device.{Served, Freshly, Awaited}
use Rattle.device.proofs.DeviceLaws.{same-device}
use Rattle.machine.specs.Numbers.{is_done}
use Rattle.reports.specs.Reports.{is_frame, is_more}
use Rattle.stream.specs.Stream.{TakeOutcome, is_done as done_on_a_stream, is_frame as frame_of_a_stream, is_more as more_for_a_stream}
use Rattle.stream.specs.Lent.{stream_of, Takes, Resets}
use Rattle.stream.specs.declared.LentStream.{LentStream}
use Rattle.stream.specs.declared.Taken.{Taken}

-- Attach, detach, request, reply, tick, link lost: from one device, one call has one report, one machine afterwards, and one content of each lent buffer;
-- and a refusal leaves only one device: the one that was lent.
pub one_outcome : (d : Device) (x : Call) {r q : Report} {e f : Device} {w v l m : List ℕ} → Served d x r e w l → Served d x q f v m
    → (r ≡ q) × (machine_of (state_of e) ≡ machine_of (state_of f)) × (w ≡ v) × (l ≡ m) × ((r.refusal ≡ 0 → ⊥) → (e ≡ d) × (f ≡ d))
one_outcome d x s t =
    let p = s.0 ∙ sym t.0 in
    let same = ap (λ (y : Reported). y.says) p in
    (same, ap (λ (y : Reported). y.after) p, ap (λ (y : Reported). y.written) p, ap (λ (y : Reported). y.listed) p, λ h. (same-device _ d (s.2 h), same-device _ d (t.2 (rw same at h))))

-- Fresh: from one settings value, one report and one machine.
pub one_fresh : (from : Settings) {r q : Report} {e f : Device} → Freshly from r e → Freshly from q f → (r ≡ q) × (machine_of (state_of e) ≡ machine_of (state_of f))
one_fresh from s t = (s.0 ∙ sym t.0, s.1 ∙ sym t.1)

-- A look at the next deadline: of one device, one answer. The device is lent to be read alone.
pub one_look : (d : Device) {n k : NextDeadline} → Awaited d n → Awaited d k → n ≡ k
one_look d s t = s ∙ sym t

-- The size of a device: one number.
pub one_size : {r q : ℕ} → r ≡ state_size → q ≡ state_size → r ≡ q
one_size s t = s ∙ sym t

-- Split and reading: one report. Writing: one report and one content of the buffer.
pub one_split : (run : List ℕ) {r q : Report} → SplitPromised run r → SplitPromised run q → r ≡ q
one_split run s t = s ∙ sym t

pub one_read : (text : List ℕ) {r q : SettingsRead} → ReadPromised text r → ReadPromised text q → r ≡ q
one_read text s t = s ∙ sym t

pub one_write : (from : Settings) (text : List ℕ) {r q : Report} {a b : List ℕ} → WritePromised from text r a → WritePromised from text q b → (r ≡ q) × (a ≡ b)
one_write from text s t = let p = s ∙ sym t in (ap (λ (y : TextSeen). y.says) p, ap (λ (y : TextSeen). y.buffer) p)

-- A stream: from one lent stream, one piece and one buffer have one answer, one stream afterwards and one content of the buffer; and a reset has one answer and one stream.
pub one_take : (i : LentStream) (piece out : List ℕ) {r q : Taken} {j k : LentStream} {w v : List ℕ} → Takes i piece out r j w → Takes i piece out q k v → (r ≡ q) × (stream_of j ≡ stream_of k) × (w ≡ v)
one_take i piece out s t =
    let p = s.comes ∙ sym t.comes in
    (ap (λ (y : TakeOutcome). y.says) p, ap (λ (y : TakeOutcome). y.after) p, ap (λ (y : TakeOutcome). y.written) p)

pub one_reset : {r q : Taken} {i j : LentStream} → Resets r i → Resets q j → (r ≡ q) × (stream_of i ≡ stream_of j)
one_reset s t = (s.says ∙ sym t.says, s.after ∙ sym t.after)

-- Its outcomes have the numbers that they have elsewhere.
pub same_numbers : (done_on_a_stream ≡ is_done) × (frame_of_a_stream ≡ is_frame) × (more_for_a_stream ≡ is_more)
same_numbers = (refl, refl, refl)
