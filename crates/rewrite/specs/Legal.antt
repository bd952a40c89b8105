-- Which request is legal under settings: its bytes pass document 01's checks, no strict tag forbids what it writes (request #108), and no tag has the register that it masks (request #109). Exception 03 of a tag
-- follows exception 02.
-- Assumes nothing.
use Rattle.std.specs.Prelude.{ℕ, Bool, false, cond, not, ◌&&◌, ◌||◌, List, [], ◌∷◌, eqb, leb, Ok, Err}
use Rattle.numbers.specs.Numbers.{illegal_value}
use Rattle.wire.specs.Frame.{function_of, misframed}
use Rattle.settings.specs.Grammar.{Tag, Value}
use Rattle.settings.specs.TagWords.{last_of}
use Rattle.pdu.specs.Requests.{class_of, bad_function, bad_length, asked_of, fault_of, checked_of, Checked}
use Rattle.pdu.specs.declared.Table.TheVariants.{Bits, Registers}
use Rattle.pdu.specs.declared.Asked.{Asked}
use Rattle.pdu.specs.declared.Asked.TheVariants.{Read, SingleWrite, MultipleWrite, MaskWrite, ReadWrite, Other}
use Rattle.rewrite.specs.Registers.{registers_at}
use Rattle.rewrite.specs.Rewriting.{verdict, is_raw_partial, is_raw_value}
use Rattle.rewrite.specs.declared.Way.TheVariants.{ToBcd}
use Rattle.rewrite.specs.Frames.{single_base, multiple_base, read_write_base}
use Rattle.pdu.specs.declared.Fault.TheVariants.{Excepted}

-- a tag stays raw over the registers of the addresses from start on, as a client writes them: the registers cover the tag partly, or its value is outside its range
abbrev pub stays_raw : ℕ → List ℕ → Tag → Bool
stays_raw start rs t = is_raw_partial (verdict ToBcd start rs t) || is_raw_value (verdict ToBcd start rs t)

-- a tag forbids such registers: it is strict, and stays raw
unfoldable pub forbids : ℕ → List ℕ → Tag → Bool
forbids start rs t = eqb t.strict 1 && stays_raw start rs t

unfoldable pub some_forbids : ℕ → List ℕ → List Tag → Bool
some_forbids start rs [] = false
some_forbids start rs (t ∷ ts) = forbids start rs t || some_forbids start rs ts

-- a tag has the register of the address x, whatever its kind, strict or not
unfoldable pub some_has : ℕ → List Tag → Bool
some_has x [] = false
some_has x (t ∷ ts) = (leb t.address x && leb x (last_of t)) || some_has x ts

-- a tag forbids the request: a strict one what 06, 16 and 23 write, any one what 22 masks
unfoldable pub forbidden : List Tag → Asked → List ℕ → Bool
forbidden tags (Read t s q) f = false
forbidden tags (SingleWrite Bits a v) f = false
forbidden tags (SingleWrite Registers a v) f = some_forbids a (registers_at single_base 1 f) tags
forbidden tags (MultipleWrite Bits s q) f = false
forbidden tags (MultipleWrite Registers s q) f = some_forbids s (registers_at multiple_base q f) tags
forbidden tags (MaskWrite a x y) f = some_has a tags
forbidden tags (ReadWrite s q u p) f = some_forbids u (registers_at read_write_base p f) tags
forbidden tags Other f = false

-- the exception's code for a request that passed the refusals, and 0 where there is none: that of its bytes, then 03 where a tag forbids it
unfoldable pub fault_under : List Tag → List ℕ → ℕ
fault_under tags f = cond (eqb (fault_of f) 0) (cond (forbidden tags (asked_of f) f) illegal_value 0) (fault_of f)

-- what a request whose bytes are in order comes to under tags
abbrev pub allowed : List Tag → List ℕ → Asked → Checked
allowed tags f a = cond (forbidden tags a f) (Err (Excepted illegal_value)) (Ok a)

-- a request of any bytes under tags: what its bytes come to, and exception 03 where these are in order and a tag forbids it
unfoldable pub checked_under : List Tag → List ℕ → Checked
checked_under tags f = elim (checked_of f) [ Ok a ↦ allowed tags f a | Err e ↦ Err e ]

-- a request that passes the refusals of its frame and the exceptions 03 and 02, that of a tag among them
unfoldable pub legal : Value → List ℕ → Bool
legal s f =
    not (misframed f)
    && (not (bad_function (function_of f)) && (not (bad_length (class_of (function_of f)) f) && eqb (fault_under s.tags f) 0))
