-- What the code that rewrites one tag gives back, as the definitions of rewriting have it.
-- Assumes nothing.
use Rattle.std.specs.Prelude.{ℕ, List}
use Rattle.rewrite.specs.Rewriting.{Rewritten, with_counts}
use Rattle.rewrite.specs.declared.Rawness.{Rawness}
use Rattle.rewrite.specs.declared.Rawness.TheVariants as rawness

-- what a tag came to: the counts, by whether it was left raw, and the buffer
abbrev pub counted : Rawness → List ℕ → Rewritten
counted rawness.NotRaw d = with_counts 0 0 d
counted rawness.Partial d = with_counts 1 0 d
counted rawness.Value d = with_counts 0 1 d
