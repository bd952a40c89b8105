-- Whatever calls but fresh a host makes of a device that it made fresh, the device lives as the machine does: so what is claimed of every history of the machine holds of the
-- device. A second fresh begins a new history.
-- Assumes nothing.
use mathlib.Core.Path.{◌≡◌, refl, ap, sym, subst, ◌∙◌}
use mathlib.Core.Logic.{⊎_elim}
use mathlib.Core.List.{List, [], ◌∷◌, ◌++◌, Memᴰ}
use Rattle.settings.specs.declared.Settings.{Settings}
use Rattle.settings.specs.Grammar.{Value}
use Rattle.pdu.specs.declared.What.{What}
use Rattle.book.specs.Book.{Event}
use Rattle.book.specs.Follower.{Accounted, state_after, lines_of}
use Rattle.machine.specs.Machine.{Machine, rules}
use Rattle.machine.specs.Calls.{Call, done}
use Rattle.machine.specs.Refusals.{refusal}
use Rattle.machine.specs.Outcomes.{outcome}
use Rattle.machine.specs.Granted.{granted_from}
use Rattle.machine.specs.Numbers.{Reported, Tells}
use Rattle.machine.specs.Histories.{Seen, seen_of, events, after_calls, after_from, told_from}
use Rattle.machine.specs.declared.Report.{Report}
use Rattle.machine.proofs.NumberLaws.{numbers-tell, refusal-told}
use Rattle.machine.proofs.Histories.{accounted}
use Rattle.proxy.specs.declared.Device.{Device}
use Rattle.device.specs.Device.{MadeDevice, Freshly}
use Rattle.zilborteka.specs.Lives.{in_force, machine_in, Called, Line, calls_of, Lived, granted_in, told_in, ledger_in, AsTheMachine}
use Rattle.zilborteka.specs.Lives.Lived.{none, then}

-- what a call leaves, and what the host sees of it, are the machine's
module _ {d : Device} (x : Call) {saw : Seen} {e : Device} (s : Called d x saw e) where
  pub left : machine_in e ≡ (outcome (machine_in d) x).after
  unfolding machine_in
  left = ap (λ (y : Reported). y.after) s.0

  pub seen : saw ≡ seen_of (outcome (machine_in d) x)
  unfolding machine_in
  seen = ap sees s.0
    where
      sees : Reported → Seen
      sees y = record { report = y.says; frame = y.written; list = y.listed }

  -- the outcome is what the host saw, with the machine's own answer in place of its numbers
  pub came : outcome (machine_in d) x ≡ done (outcome (machine_in d) x).says (machine_in e) saw.frame saw.list
  unfolding machine_in
  came = ap (λ (y : Reported). done (outcome (machine_in d) x).says y.after y.written y.listed) (sym s.0)

  -- and the report tells that answer
  pub report-tells : Tells saw.report (outcome (machine_in d) x).says
  report-tells = rw seen (numbers-tell (outcome (machine_in d) x).says)

module _ (v : Value) where
  -- Some lines later the device is the machine that many calls later, from whatever device they began,
  lives : {d d' : Device} {ls : List Line} → Lived d ls d' → machine_in d' ≡ after_from (machine_in d) (calls_of ls)
  unfolding state_after
  lives none = refl
  lives {ls = x ∷ ls} (then s l) = lives l ∙ ap (λ (m : Machine). after_from m (calls_of ls)) (left x.call s)

  -- the host saw what the machine shows at that call,
  shows : (xs : List Line) (x : Line) (ys : List Line) {d d' : Device} → Lived d (xs ++ (x ∷ ys)) d'
      → x.saw ≡ seen_of (outcome (after_from (machine_in d) (calls_of xs)) x.call)
  unfolding state_after
  shows [] x ys (then s l) = seen x.call s
  shows (y ∷ xs) x ys (then s l) = shows xs x ys l ∙ ap (λ (m : Machine). seen_of (outcome (after_from m (calls_of xs)) x.call)) (left y.call s)

  -- and the lines tell what the machine's history does.
  pub tells : {d d' : Device} {ls : List Line} → Lived d ls d' → told_in v ls ≡ told_from v (machine_in d) (calls_of ls)
  unfolding told_in lines_of
  tells none = refl
  tells {d} {ls = x ∷ ls} (then s l) =
      ap (λ (t : List (Event What)). events v x.call x.saw ++ t) (tells l ∙ ap (λ (m : Machine). told_from v m (calls_of ls)) (left x.call s))
      ∙ ap (λ (y : Seen). events v x.call y ++ told_from v (outcome (machine_in d) x.call).after (calls_of ls)) (seen x.call s)

-- The lines that were not refused are the machine's calls that were not.
grants : {d d' : Device} {ls : List Line} → Lived d ls d' → granted_in ls ≡ granted_from (machine_in d) (calls_of ls)
unfolding granted_in granted_from
grants none = refl
grants {d} {ls = x ∷ ls} (then s l) =
    let e : x.saw.report.refusal ≡ refusal (machine_in d) x.call = ap (λ (y : Seen). y.report.refusal) (seen x.call s) ∙ refusal-told (machine_in d) x.call in
    rw (e, grants l, left x.call s) refl

-- Every line leaves a device that these calls made, so that any call may come next.
stays_made : {d d' : Device} {ls : List Line} → MadeDevice d → Lived d ls d' → MadeDevice d'
stays_made made none = made
stays_made made (then s l) = stays_made s.1 l

-- Lines after lines are a life; and each line of a life is a call of the device that the lines before it left, so that what is claimed of one further call is claimed of each line.
pub lived_on : {d d' e : Device} {ls ks : List Line} → Lived d ls d' → Lived d' ks e → Lived d (ls ++ ks) e
lived_on none k = k
lived_on (then s l) k = then s (lived_on l k)

pub each_line : (xs : List Line) (x : Line) (ys : List Line) {d d' : Device} → Lived d (xs ++ (x ∷ ys)) d'
    → (e : Device) × (e' : Device) × Lived d xs e × Called e x.call x.saw e' × Lived e' ys d'
each_line [] x ys {d} (then {e = e} s l) = (d, e, none, s, l)
each_line (y ∷ xs) x ys (then s l) = let i = each_line xs x ys l in (i.0, i.1, then s i.2, i.3, i.4)

-- What the lines tell is told at one of them.
pub line-told : (v : Value) (ls : List Line) (e : Event What) → Memᴰ e (told_in v ls)
    → (ks : List Line) × (x : Line) × (ys : List Line) × (ls ≡ ks ++ x ∷ ys) × Memᴰ e (events v x.call x.saw)
unfolding told_in
line-told v [] e m = absurd (mathlib.Core.List.Memᴰ.not-nil m)
line-told v (x ∷ ls) e m =
    ⊎_elim
    (λ (h : Memᴰ e (events v x.call x.saw)). ([], x, ls, refl, h))
    (λ (h : Memᴰ e (told_in v ls)). let i = line-told v ls e h in (x ∷ i.0, i.1, i.2, ap (x ∷◌) i.3, i.4))
    (mathlib.Core.List.Memᴰ.append_cases (events v x.call x.saw) m)

module _ (from : Settings) {r : Report} {d d' : Device} (ls : List Line) (fresh : Freshly from r d) (life : Lived d ls d') where
  begins : machine_in d ≡ after_calls (in_force from) []
  unfolding machine_in state_after
  begins = fresh.1

  -- Tender 3, any history, of the exported functions: whatever calls a host makes of a fresh device, refused ones included, the device afterwards is the machine after those calls,
  -- and every report and every lent byte on the way is the machine's. So the claims of the machine's histories are claims of the device.
  pub a_device_lives_as_the_machine : AsTheMachine (in_force from) ls d'
  unfolding state_after
  a_device_lives_as_the_machine =
      let v = in_force from in
      record {
        after = lives v life ∙ ap (λ (m : Machine). after_from m (calls_of ls)) begins;
        saw = λ xs x ys e. shows v xs x ys (subst (λ (l : List Line). Lived d l d') e life) ∙ ap (λ (m : Machine). seen_of (outcome (after_from m (calls_of xs)) x.call)) begins;
        told = tells v life ∙ ap (λ (m : Machine). told_from v m (calls_of ls)) begins;
        granted = grants life ∙ ap (λ (m : Machine). granted_from m (calls_of ls)) begins;
        next = stays_made fresh.2 life;
      }

  -- Each report on the way tells the machine's answer at that place of the history, so that what is claimed of answers (refusals by the table, exception 04, nothing due) is
  -- claimed of what the host is told.
  pub a_report_tells_the_answer : (xs : List Line) (x : Line) (ys : List Line) → ls ≡ xs ++ (x ∷ ys)
      → Tells x.saw.report (outcome (after_calls (in_force from) (calls_of xs)) x.call).says
  a_report_tells_the_answer xs x ys e =
      let a = (outcome (after_calls (in_force from) (calls_of xs)) x.call).says in
      subst (λ (r : Report). Tells r a) (sym (ap (λ (y : Seen). y.report) (a_device_lives_as_the_machine.saw xs x ys e))) (numbers-tell a)

  -- Tender 3, the sum, of a device: the ledger that a host keeps from its own calls and what it saw of them accounts for every accepted request, and agrees with what the device holds.
  pub a_device_accounts_for_every_request : Accounted rules (machine_in d').book (told_in (in_force from) ls) (ledger_in (in_force from) ls)
  a_device_accounts_for_every_request =
      let v = in_force from in
      let a = a_device_lives_as_the_machine in
      rw (a.told, a.after) (accounted v (calls_of ls))
