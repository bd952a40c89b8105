-- `reports::split` meets its contract: each case of what stands at the start of the run.
use mathlib.Core.Path.{sym, ap, ◌∙◌}
use native.Mathlib.Omega.{arith}
use lib.ListN.{length}
use Rattle.reports.specs.Reports.{split_told}
use Rattle.reports.proofs.ReportLaws.{first-low}
use Rattle.reports.proofs.split.Goals as goal

pub overflow_cast-frame : goal.overflow_cast-frame
overflow_cast-frame c =
    let low = first-low c.args.run.now (sym c.in-Frame.ensures.standing) in
    let same = ap length c.in-Frame.ensures.frame in
    record { fits = omega arith }

pub returns-in-Frame : goal.returns-in-Frame
unfolding split_told
returns-in-Frame c = c.said.ensures ∙ rw (← c.in-Frame.ensures.standing, ← c.in-Frame.ensures.frame)

pub returns-in-MoreNeeded : goal.returns-in-MoreNeeded
unfolding split_told
returns-in-MoreNeeded c = c.said-in-MoreNeeded.ensures ∙ rw (← c.in-MoreNeeded.ensures.standing)

pub returns-in-Refused : goal.returns-in-Refused
unfolding split_told
returns-in-Refused c = c.said-in-Refused.ensures ∙ rw (← c.in-Refused.ensures.standing)
