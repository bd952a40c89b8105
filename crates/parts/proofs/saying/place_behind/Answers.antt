-- `parts::saying::place_behind` meets its contract: what stands at the place is held against the piece.
use Rattle.std.proofs.Common.{◌≡◌, ◌∙◌, sym, arith, min}
use Rattle.parts.specs.Said.{lost}
use Rattle.parts.proofs.SaidLaws.{said-stands, said-differs}
use Rattle.parts.proofs.SayingLaws.{place_checked}
use Rattle.parts.proofs.saying.place_behind.Goals as goal

pub returns-then-starts_with : goal.returns-then-starts_with
returns-then-starts_with c =
    let a = c.args in
    let same : min a.at lost ≡ a.at = omega arith in
    let e = rw c.behind.ensures at c.starts_with.ensures.value in
    rw same (place_checked _ _ c.checked_add.ensures ∙ sym (said-stands a.right.now a.at a.piece.now e c.if-starts_with.true))

pub returns-else-starts_with : goal.returns-else-starts_with
returns-else-starts_with c =
    let a = c.args in
    let same : min a.at lost ≡ a.at = omega arith in
    let e = rw c.behind.ensures at c.starts_with.ensures.value in
    rw same (sym (said-differs a.right.now a.at a.piece.now e c.if-starts_with.false))
