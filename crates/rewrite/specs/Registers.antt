-- Registers in a buffer of bytes, the high byte first.
-- Assumes nothing.
use Rattle.std.specs.Prelude.{ℕ, zero, suc, ◌+◌, List, [], ◌∷◌}
use Rattle.laws.specs.Bytes.{pair_at, put_at}

-- the n registers from byte k on; and registers laid there
unfoldable pub registers_at : ℕ → ℕ → List ℕ → List ℕ
registers_at k zero d = []
registers_at k (suc n) d = pair_at d k ∷ registers_at (k + 2) n d

unfoldable pub laid_at : ℕ → List ℕ → List ℕ → List ℕ
laid_at k [] d = d
laid_at k (r ∷ rs) d = put_at (laid_at (k + 2) rs d) k r
