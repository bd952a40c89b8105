-- `scripts::apart::told` meets its contract: each case of what writing came to, and whether more was touched behind it.
use Rattle.std.proofs.Common.{◌≡◌}
use Rattle.settingstext.specs.declared.writing.WriteError.TheVariants.{TooShort, Invalid}
use Rattle.parts.proofs.SayingLaws.{says_says}
use Rattle.scripts.specs.Apart.{wrote_text}
use Rattle.scripts.proofs.apart.told.Goals as goal

pub returns-in-Ok : goal.returns-in-Ok
unfolding wrote_text
returns-in-Ok c = rw c.in-Ok.is (says_says c.whole.ensures c.say_kept.ensures)

pub returns-in-Err-TooShort : goal.returns-in-Err-TooShort
unfolding wrote_text
returns-in-Err-TooShort c =
    let w = c.in-Err-TooShort in
    let short : w.field-0 ≡ TooShort = rw w.is at w.field-0-is in
    rw (w.is, short) (says_says c.say.ensures c.say_kept-in-Err-TooShort.ensures)

pub returns-in-Err-Invalid : goal.returns-in-Err-Invalid
unfolding wrote_text
returns-in-Err-Invalid c =
    let w = c.in-Err-Invalid in
    let invalid : w.field-0 ≡ Invalid = rw w.is at w.field-0-is in
    rw (w.is, invalid) (says_says c.say-in-Err-Invalid.ensures c.say_kept-in-Err-Invalid.ensures)
