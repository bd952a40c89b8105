-- `requesting::except_caller` meets its contract: the exception frame has the caller's id, unit and function.
use Rattle.requesting.proofs.StepLaws.{exception-made}
use Rattle.requesting.proofs.except_caller.Goals as goal

pub returns : goal.returns
returns c =
    λ m. exception-made m c.args.frame.now c.args.out.now _ _ _ c.args.code _
    c.original_of-id.ensures c.unit_of-unit.ensures c.function_of-function.ensures c.except.ensures
