-- The tags over a run of registers: each tag's verdict on the registers as they came, and from it the rewriting and both counts.
-- Assumes nothing.
use Rattle.std.specs.Prelude.{ℕ, ◌+◌, ◌-◌, Bool, true, false, cond, ◌||◌, List, [], ◌∷◌, length, take, drop, ltb, leb, Option, Some, None}
use Rattle.std.proofs.lemmas.List.Edits.{sets}
use Rattle.laws.specs.Lists.{filter}
use Rattle.bcd.specs.declared.Kind.{Kind}
use Rattle.bcd.specs.Bcd.{registers, encoded, decoded}
use Rattle.bcd.specs.Words.{words_of, number_of}
use Rattle.settings.specs.Grammar.{Tag}
use Rattle.settings.specs.TagWords.{kind_of, last_of}
use Rattle.rewrite.specs.Registers.{registers_at, laid_at}
use Rattle.rewrite.specs.declared.Way.{Way}
use Rattle.rewrite.specs.declared.Way.TheVariants.{ToBcd, ToBinary}

-- a tag's number rewritten, if its value allows: to BCD if it is in the range, to binary if it is a number of the kind
unfoldable pub turned : Way → Kind → ℕ → Option ℕ
turned ToBcd k n = encoded k n
turned ToBinary k n = decoded k n

-- what becomes of a tag: it has no register in the run; not all of them; its value does not allow it; or it is rewritten to these registers
pub data Verdict : Type 0 where
  outside : Verdict
  partial : Verdict
  value : Verdict
  done : List ℕ → Verdict

-- of the n registers of the addresses from start on the tag has none; not all
abbrev pub is_outside : ℕ → ℕ → Tag → Bool
is_outside start n t = ltb (last_of t) start || leb (start + n) t.address

abbrev pub is_partial : ℕ → ℕ → Tag → Bool
is_partial start n t = ltb t.address start || leb (start + n) (last_of t)

-- the tag's own registers in a run that has all of them
abbrev pub own_in : ℕ → List ℕ → Tag → List ℕ
own_in start rs t = take (registers (kind_of t)) (drop (t.address - start) rs)

-- a tag's verdict over the registers of the addresses from start on, as they came
unfoldable pub verdict : Way → ℕ → List ℕ → Tag → Verdict
verdict way start rs t =
    cond (is_outside start (length rs) t) outside
    (cond (is_partial start (length rs) t) partial
    (elim (turned way (kind_of t) (number_of (own_in start rs t))) [ None ↦ value | Some n ↦ done (words_of (kind_of t) n) ]))

-- the registers afterwards: those of each tag that is done, and all others as they came
unfoldable pub laid_by : Verdict → ℕ → List ℕ → List ℕ
laid_by outside k rs = rs
laid_by partial k rs = rs
laid_by value k rs = rs
laid_by (done ws) k rs = sets rs k ws

unfoldable pub rewritten_from : Way → ℕ → List ℕ → List Tag → List ℕ → List ℕ
rewritten_from way start came [] rs = rs
rewritten_from way start came (t ∷ ts) rs = rewritten_from way start came ts (laid_by (verdict way start came t) (t.address - start) rs)

abbrev pub rewritten : Way → ℕ → List Tag → List ℕ → List ℕ
rewritten way start tags rs = rewritten_from way start rs tags rs

-- the counts: tags raw for partial cover, and tags raw for value
abbrev pub is_raw_partial : Verdict → Bool
is_raw_partial outside = false
is_raw_partial partial = true
is_raw_partial value = false
is_raw_partial (done ws) = false

abbrev pub is_raw_value : Verdict → Bool
is_raw_value outside = false
is_raw_value partial = false
is_raw_value value = true
is_raw_value (done ws) = false

-- and a tag that is rewritten
abbrev pub is_rewritten : Verdict → Bool
is_rewritten outside = false
is_rewritten partial = false
is_rewritten value = false
is_rewritten (done ws) = true

unfoldable pub partials : Way → ℕ → List Tag → List ℕ → ℕ
partials way start tags rs = length (filter (λ t. is_raw_partial (verdict way start rs t)) tags)

unfoldable pub values : Way → ℕ → List Tag → List ℕ → ℕ
values way start tags rs = length (filter (λ t. is_raw_value (verdict way start rs t)) tags)

-- a buffer in which the registers from byte base on, those of the addresses from start on, were rewritten; and both counts
pub record Rewritten : Type 0 where
  pub partial : ℕ
  pub value : ℕ
  pub bytes : List ℕ

abbrev pub with_counts : ℕ → ℕ → List ℕ → Rewritten
with_counts p v d = record { partial = p; value = v; bytes = d }

unfoldable pub rewriting : Way → (base start quantity : ℕ) → List Tag → List ℕ → Rewritten
rewriting way base start quantity tags d =
    with_counts (partials way start tags (registers_at base quantity d)) (values way start tags (registers_at base quantity d))
    (laid_at base (rewritten way start tags (registers_at base quantity d)) d)
