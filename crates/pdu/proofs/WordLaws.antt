-- What was asked comes back from its word, that of a read also from the marked word; a word is closed exactly if it is a read's and has bit 32; two words tell two things apart, and a word fits 64 bits.
-- Assumes nothing.
use Prim.Native.Nat.{ℕ, ◌+◌, ◌*◌, ◌/◌, ◌%◌, ◌^◌, ◌≤◌, ◌<◌}
use mathlib.Core.Path.{◌≡◌, refl, ap, sym, ◌∙◌}
use mathlib.Core.Logic.{◌↔◌, ⊎_elim, ◌⊎◌}
use mathlib.Core.Bool.{true, false, false≢true}
use native.Mathlib.Nat.{mod-eq_of_lt, add_assoc}
use native.Mathlib.Omega.{arith}
use lib.Arith.{digits_div, digits_mod, digits_lt}
use borrow.Author.Tests.{ne_eqb}
use Rattle.laws.specs.Bits.{has, with}
use Rattle.laws.proofs.Choice.{true_or}
use Rattle.laws.proofs.TestLaws.{holds_eq, holds_and}
use Rattle.pdu.specs.Requests.{class_of, most_read_of, most_written_of}
use Rattle.pdu.specs.declared.What.{What}
use Rattle.pdu.specs.Reads.{is_read}
use Rattle.pdu.specs.Words.{asked_bits, asked_from, word_of, what_of, closed_bit, closed_in, what_in, entry_of, Lawful, Proper}
use Rattle.pdu.specs.declared.Table.{Table}
use Rattle.pdu.specs.declared.Table.TheVariants.{Bits, Registers}
use Rattle.pdu.specs.declared.Class.{Class}
use Rattle.pdu.specs.declared.Class.TheVariants.{Reads, WritesOne, WritesMany, Masks, ReadsWrites, Others}
use Rattle.pdu.specs.declared.Asked.{Asked}
use Rattle.pdu.specs.declared.Asked.TheVariants.{Read, SingleWrite, MultipleWrite, MaskWrite, ReadWrite, Other}
use Rattle.pdu.specs.declared.ProxyId.{ProxyId}
use Rattle.pdu.specs.declared.Entry.{Entry}
use Rattle.pdu.proofs.RequestLaws.{known}
use Rattle.pdu.proofs.ReadLaws.{reads_exactly}

-- two fields of 16 bits fit 32 bits, and so 48
two_low : {s q : ℕ} → s < 65536 → q < 65536 → s * 65536 + q < 4294967296
two_low h l = digits_lt {m = 65536} h l

two_kept : {s q : ℕ} → s < 65536 → q < 65536 → s * 65536 + q < 281474976710656
two_kept h l = let z = two_low h l in omega arith

-- no request reads or writes more than 2,000
most_read_lem : (t : Table) → most_read_of t ≤ 2000
most_read_lem Bits = omega arith
most_read_lem Registers = omega arith

most_written_lem : (t : Table) → most_written_of t ≤ 2000
most_written_lem Bits = omega arith
most_written_lem Registers = omega arith

-- what a read keeps fits 32 bits
read_bits_low : (a : Asked) → is_read a ≡ true → Lawful a → asked_bits a < 4294967296
unfolding is_read asked_bits Lawful
read_bits_low (Read t s q) e h = two_low (omega (arith, h)) (omega (arith, h, most_read_lem t))
read_bits_low (SingleWrite t a v) e h = absurd (false≢true e)
read_bits_low (MultipleWrite t s q) e h = absurd (false≢true e)
read_bits_low (MaskWrite a x y) e h = absurd (false≢true e)
read_bits_low (ReadWrite s q u p) e h = absurd (false≢true e)
read_bits_low Other e h = absurd (false≢true e)

-- and what any legal request keeps the 48 bits
asked_bits_low : (a : Asked) → Lawful a → asked_bits a < 281474976710656
unfolding asked_bits Lawful
asked_bits_low (Read t s q) h = two_kept (omega (arith, h)) (omega (arith, h, most_read_lem t))
asked_bits_low (SingleWrite Bits a v) h = two_kept h.0 (⊎_elim (λ e. omega arith) (λ e. omega arith) h.1)
asked_bits_low (SingleWrite Registers a v) h = two_kept h.0 h.1
asked_bits_low (MultipleWrite t s q) h = two_kept (omega (arith, h)) (omega (arith, h, most_written_lem t))
asked_bits_low (MaskWrite a x y) h = digits_lt {m = 4294967296} (two_low h.0 h.1) h.2
asked_bits_low (ReadWrite s q u p) h =
    let first : s * 128 + q < 8388608 = digits_lt {m = 65536} (omega (arith, h)) (omega (arith, h)) in
    let second : (s * 128 + q) * 65536 + u < 549755813888 = digits_lt {m = 8388608} first (omega (arith, h)) in
    let all : ((s * 128 + q) * 65536 + u) * 128 + p < 70368744177664 = digits_lt {m = 549755813888} second (omega (arith, h)) in
    omega arith
asked_bits_low Other h = omega arith

first-marked : (n : ℕ) → (n + 4294967296) / 65536 % 65536 ≡ n / 65536 % 65536
first-marked n = omega arith

second_marked : (n : ℕ) → (n + 4294967296) % 65536 ≡ n % 65536
second_marked n = omega arith

-- the class of a read looks at none of the bits above those
asked_from_marked : (c : Class) (n : ℕ) → is_read (asked_from c n) ≡ true → asked_from c (n + 4294967296) ≡ asked_from c n
unfolding is_read asked_from
asked_from_marked (Reads t) n e = rw (first-marked n, second_marked n)
asked_from_marked (WritesOne t) n e = absurd (false≢true e)
asked_from_marked (WritesMany t) n e = absurd (false≢true e)
asked_from_marked Masks n e = absurd (false≢true e)
asked_from_marked ReadsWrites n e = absurd (false≢true e)
asked_from_marked Others n e = absurd (false≢true e)

module _ (w : What) (p : Proper w) where
  function_low : w.function < 256
  function_low = omega (arith, (known w.function).0 p.function)

  -- the word of what was asked with a number in place of what is kept, from which the class has what was asked
  of_word : (n : ℕ) → n < 281474976710656 → asked_from (class_of w.function) n ≡ w.asked → what_of ((w.unit * 256 + w.function) * 281474976710656 + n) ≡ w
  unfolding what_of
  of_word n h e =
      let high = w.unit * 256 + w.function in
      rw (digits_div high h, digits_mod high h, digits_div w.unit function_low, digits_mod w.unit function_low, mod-eq_of_lt p.unit, e)

  -- What was asked comes back from its word.
  pub word_back : what_of (word_of w) ≡ w
  unfolding word_of
  word_back = of_word (asked_bits w.asked) (asked_bits_low w.asked p.lawful) p.class

  module _ (r : is_read w.asked ≡ true) where
    -- and a read from its word with one bit more, above those that its class looks at
    more_back : what_of (word_of w + 4294967296) ≡ w
    unfolding word_of
    more_back =
        let l = read_bits_low w.asked r p.lawful in
        rw add_assoc (of_word (asked_bits w.asked + 4294967296) (omega arith) (asked_from_marked (class_of w.function) (asked_bits w.asked) (ap is_read p.class ∙ r) ∙ p.class))

    -- The word of a read has no mark, and the read comes back from the marked word, too.
    pub word_unmarked : has (word_of w) closed_bit ≡ false
    unfolding word_of
    word_unmarked = let l = read_bits_low w.asked r p.lawful in ne_eqb (word_of w / 2 ^ closed_bit % 2) 1 (λ z. omega arith)

    pub marked_back : what_of (with (word_of w) closed_bit) ≡ w
    unfolding with
    marked_back = rw word_unmarked more_back

  -- The word of what was asked is not closed, whatever function it is of.
  pub word_unclosed : closed_in (word_of w) ≡ false
  unfolding closed_in
  word_unclosed =
      rw word_back
      (⊎_elim
      (λ (t : is_read w.asked ≡ true). rw (t, word_unmarked t) refl)
      (λ (t : is_read w.asked ≡ false). rw t refl)
      (true_or (is_read w.asked)))

  -- A word fits 64 bits.
  pub word_low : word_of w < 2 ^ 64
  unfolding word_of
  word_low = digits_lt {m = 65536} (digits_lt {m = 256} p.unit function_low) (asked_bits_low w.asked p.lawful)

-- A word is closed exactly where its function is 01, 02, 03 or 04 and bit 32 is set.
pub closed_exactly : (n : ℕ) → let f = (what_of n).function in (closed_in n ≡ true) ↔ ((((f ≡ 1) ⊎ (f ≡ 2)) ⊎ ((f ≡ 3) ⊎ (f ≡ 4))) × (n / 4294967296 % 2 ≡ 1))
unfolding closed_in
closed_exactly n = holds_and (is_read (what_of n).asked) (has n closed_bit) (reads_exactly n) (holds_eq (n / 4294967296 % 2) 1)

-- Two words are equal exactly where what was asked is: unit, function, and what the class keeps.
pub words_tell : (w v : What) → Proper w → Proper v → (word_of w ≡ word_of v) ↔ (w ≡ v)
words_tell w v p q = (λ e. sym (word_back w p) ∙ ap what_of e ∙ word_back v q, ap word_of)

-- An entry comes back from its id, its word and its deadline.
pub entry_back : (e : Entry) → Proper (what_in e) → entry_of e.id (word_of (what_in e)) e.deadline ≡ e
unfolding entry_of
entry_back e p = rw (word_back (what_in e) p)

-- An entry that was made of a word keeps what the word says.
pub entry-what : (id : ProxyId) (n d : ℕ) → what_in (entry_of id n d) ≡ what_of n
unfolding entry_of
entry-what id n d = refl
