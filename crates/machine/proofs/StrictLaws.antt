-- What a tag does to a request (requests #108 and #109): when the request gets exception 03, what goes out at a strict tag, that no 22 goes out to a tag's register, and that without a strict tag all else is as it was.
-- Assumes nothing.
use Prim.Native.Nat.{ℕ, ◌≤◌, ◌<◌}
use mathlib.Core.Path.{◌≡◌, refl, ap, sym, subst, ◌∙◌}
use mathlib.Core.Logic.Iff
use mathlib.Core.Logic.{◌↔◌, ⊎_elim, ⊎_map, ◌⊎◌, inl, inr}
use mathlib.Core.Bool.{true, false, cond, not, ◌&&◌, true≢false}
use mathlib.Core.List.{List, Memᴰ}
use lib.ListN.{get_or}
use lib.Dec.{eqb}
use native.Mathlib.Omega.{arith}
use Rattle.laws.proofs.Choice.{true_or, eq_or, never}
use Rattle.wire.specs.Frame.{function_of, misframed}
use Rattle.wire.proofs.FrameLaws.{framed}
use Rattle.settings.specs.Grammar.{Tag, Value}
use Rattle.settings.specs.TagWords.{Ascending, some_strict}
use Rattle.pdu.specs.Requests.{class_of, bad_function, bad_length, start_of, quantity_of, write_start_of, write_quantity_of, asked_by, asked_of, fault_of, checked_of}
use Rattle.pdu.specs.declared.Table.TheVariants.{Bits, Registers}
use Rattle.pdu.specs.declared.Class.{Class}
use Rattle.pdu.specs.declared.Class.TheVariants.{Reads, WritesOne, WritesMany, Masks, ReadsWrites, Others}
use Rattle.pdu.specs.declared.Asked.{Asked}
use Rattle.pdu.specs.declared.Asked.TheVariants.{Read, SingleWrite, MultipleWrite, MaskWrite, ReadWrite, Other}
use Rattle.pdu.specs.Plain.{class_in}
use Rattle.pdu.specs.Plain.Outcome.{fine as in_order}
use Rattle.pdu.proofs.RequestLaws.{known, sized, class_mask, check_exact, legal-room}
use Rattle.rewrite.specs.declared.Way.TheVariants.{ToBcd}
use Rattle.rewrite.specs.Plain.{Has, InRun, Rewrites}
use Rattle.rewrite.specs.Legal.{some_has, forbidden, fault_under, checked_under, legal}
use Rattle.rewrite.specs.Strict.{Carries, Violates, HasDigits}
use Rattle.rewrite.specs.Strict.Carries.{single, multiple, both}
use Rattle.rewrite.proofs.LegalLaws.{legal_checked, checked_legal, checked_excepted, allowed_fault, forbidden_carries}
use Rattle.rewrite.proofs.StrictLaws.{carries_some, forbidden_exactly, has_exactly, mask_forbidden_exactly, lenient-allowed, strict_sent}
use Rattle.book.specs.Book.{Good}
use Rattle.machine.specs.Machine.{Machine, rules, settings, clocked}
use Rattle.machine.specs.Calls.{Outcome}
use Rattle.machine.specs.Calls.Call.{request}
use Rattle.machine.specs.Refusals.{refusal}
use Rattle.machine.specs.Requests.{excepted, served, admitted}
use Rattle.machine.specs.Outcomes.{outcome}
use Rattle.machine.specs.Spelled.{asking}
use Rattle.machine.specs.Closed.{number_at}
use Rattle.machine.specs.declared.Answer.TheVariants as answer
use Rattle.machine.specs.Requested.{Hits, Issues, Joins, Excepts}
use Rattle.machine.proofs.SpelledLaws.{asked_spelled, asking-says, masking_is}
use Rattle.machine.proofs.RequestLaws.{exception_04, request_passes}
use Rattle.machine.proofs.AskLaws.{request_comes_to, exception_is}
use Rattle.machine.proofs.CachedLaws.{Stocked}
use Rattle.pdu.specs.declared.Fault.TheVariants as check
use Rattle.std.specs.Prelude.{Ok, Err}

-- what is legal under tags is nothing that the check under them excepts
legal_unexcepted : (s : Value) (f : List ℕ) (n : ℕ) → legal s f ≡ true → checked_under s.tags f ≡ Err (check.Excepted n) → ⊥
legal_unexcepted s f n l e = let w = (legal_checked s f).0 l in never (cc ((checked_legal s.tags f (asked_of f)).1 (w.1, w.2)))

-- what a frame carries by the machine's reading of it, and as its bytes are spelled
own : (f : List ℕ) {base start quantity : ℕ} → Carries (asking f).asked base start quantity → Carries (asked_of f) base start quantity
own f c = rw (asked_spelled f) c

spelled : (f : List ℕ) {base start quantity : ℕ} → Carries (asked_of f) base start quantity → Carries (asking f).asked base start quantity
spelled f c = rw (asked_spelled f) at c

-- what is asked carries registers or none
carries_or : (a : Asked) → ((base : ℕ) × (start : ℕ) × (quantity : ℕ) × Carries a base start quantity) ⊎ ((base start quantity : ℕ) → Carries a base start quantity → ⊥)
carries_or (Read t s q) = inr (λ _ _ _ c. elim c [ ])
carries_or (SingleWrite Bits a v) = inr (λ _ _ _ c. elim c [ ])
carries_or (SingleWrite Registers a v) = inl (10, a, 1, single)
carries_or (MultipleWrite Bits s q) = inr (λ _ _ _ c. elim c [ ])
carries_or (MultipleWrite Registers s q) = inl (13, s, q, multiple)
carries_or (MaskWrite a x y) = inr (λ _ _ _ c. elim c [ ])
carries_or (ReadWrite s q u p) = inl (17, u, p, both)
carries_or Other = inr (λ _ _ _ c. elim c [ ])

-- of one function, f carries what w does where the bytes that place f's registers are equal in both
kept : (c : Class) (f w : List ℕ) {base start quantity : ℕ} → Carries (asked_by c w) base start quantity
    → ((base' start' quantity' : ℕ) → Carries (asked_by c f) base' start' quantity' → (k : ℕ) → 2 ≤ k → k < base' → get_or w k 0 ≡ get_or f k 0) → Carries (asked_by c f) base start quantity
unfolding asked_by
kept (Reads t) f w c g = elim c [ ]
kept (WritesOne Bits) f w c g = elim c [ ]
kept (WritesMany Bits) f w c g = elim c [ ]
kept Masks f w c g = elim c [ ]
kept Others f w c g = elim c [ ]
kept (WritesOne Registers) f w single g =
    let same = g _ _ _ single in
    let e : start_of w ≡ start_of f = rw (same 8 (omega arith) (omega arith), same 9 (omega arith) (omega arith)) in
    rw e single
kept (WritesMany Registers) f w multiple g =
    let same = g _ _ _ multiple in
    let e : start_of w ≡ start_of f = rw (same 8 (omega arith) (omega arith), same 9 (omega arith) (omega arith)) in
    let n : quantity_of w ≡ quantity_of f = rw (same 10 (omega arith) (omega arith), same 11 (omega arith) (omega arith)) in
    rw (e, n) multiple
kept ReadsWrites f w both g =
    let same = g _ _ _ both in
    let e : write_start_of w ≡ write_start_of f = rw (same 12 (omega arith) (omega arith), same 13 (omega arith) (omega arith)) in
    let n : write_quantity_of w ≡ write_quantity_of f = rw (same 14 (omega arith) (omega arith), same 15 (omega arith) (omega arith)) in
    rw (e, n) both

module _ (m : Machine) (tags : List Tag) (same : (settings m).tags ≡ tags) (c t : ℕ) (f o : List ℕ) (g : Good rules m.book) (s : Stocked m.cache) (h : refusal m (request c t f o) ≡ 0) where
  under : checked_under (settings m).tags f ≡ checked_under tags f
  under = ap (λ (ts : List Tag). checked_under ts f) same

  -- A request that is not refused gets an exception other than 04 exactly where the check of its bytes and of the tags gives that.
  pub excepted_exactly : (n : ℕ) → (n ≡ 4 → ⊥) → ((outcome m (request c t f o)).says ≡ answer.Excepted n) ↔ (checked_under tags f ≡ Err (check.Excepted n))
  excepted_exactly n other = (
    λ e.
        let x = exception_is m c t f o g s n e in
        let code : x.code ≡ n = cc x.says in
        sym under ∙ x.checked (λ z. other (sym code ∙ z)) ∙ ap (λ (n : ℕ). Err (check.Excepted n)) code,
    λ e. ⊎_elim
        (λ (x : Hits m c t f o (outcome m (request c t f o))). absurd (legal_unexcepted (settings m) f n x.is_legal (under ∙ e)))
        (⊎_elim
        (λ (x : Issues m c t f o (outcome m (request c t f o))). absurd (legal_unexcepted (settings m) f n x.is_legal (under ∙ e)))
        (⊎_elim
        (λ (x : Joins m c t f o (outcome m (request c t f o))). absurd (legal_unexcepted (settings m) f n x.is_legal (under ∙ e)))
        (λ (x : Excepts m t f o (outcome m (request c t f o))). ⊎_elim
        (λ (z : x.code ≡ 4). absurd (legal_unexcepted (settings m) f n ((exception_04 m c t f o g s.sorted).0 (x.says ∙ ap answer.Excepted z)).1 (under ∙ e)))
        (λ (z : x.code ≡ 4 → ⊥). let code : x.code ≡ n = cc (x.checked z, under) in x.says ∙ ap answer.Excepted code)
        (eq_or x.code 4))))
        (request_comes_to m c t f o g s h),
  )

-- some strict tag forbids the registers that f carries; some tag has the register that f masks
abbrev pub Forbidden : List Tag → List ℕ → Type 0
Forbidden tags f = (base : ℕ) × (start : ℕ) × (quantity : ℕ) × Carries (asking f).asked base start quantity × Violates tags f base start quantity

abbrev pub Masked : List Tag → List ℕ → Type 0
Masked tags f = (get_or f 7 0 ≡ 22) × ((tag : Tag) × Memᴰ tag tags × Has tag (number_at f 8))

mask_asked : (f : List ℕ) → get_or f 7 0 ≡ 22 → asked_of f ≡ MaskWrite (number_at f 8) (number_at f 10) (number_at f 12)
mask_asked f seven = asked_spelled f ∙ (asking-says 0 f).masks seven

masked_is : (tags : List Tag) (f : List ℕ) (at x y : ℕ) → asked_of f ≡ MaskWrite at x y → forbidden tags (asked_of f) f ≡ true → Masked tags f
masked_is tags f at x y e z =
    let w = masking_is f at x y (sym (asked_spelled f) ∙ e) in
    (w.0, rw w.1 at ((mask_forbidden_exactly tags at x y f).0 (ap (λ (a : Asked). forbidden tags a f) (sym e) ∙ z)))

masked_forbidden : (tags : List Tag) (f : List ℕ) → Masked tags f → forbidden tags (asked_of f) f ≡ true
masked_forbidden tags f w = ap (λ (a : Asked). forbidden tags a f) (mask_asked f w.0) ∙ (mask_forbidden_exactly tags _ _ _ f).1 w.1

-- the bytes of a 22 that is not refused are in order
mask_fine : (m : Machine) (c t : ℕ) (f o : List ℕ) → refusal m (request c t f o) ≡ 0 → get_or f 7 0 ≡ 22 → checked_of f ≡ Ok (asked_of f)
mask_fine m c t f o h seven =
    let p = request_passes m c t f o h in
    let k : class_in f ≡ Masks = ap class_of seven ∙ class_mask in
    (check_exact f (Ok (asked_of f))).1 (in_order ((known (function_of f)).0 p.2) ((sized (class_in f) f).0 p.3) (rw k tt) (rw k tt))

module _ (m : Machine) (tags : List Tag) (same : (settings m).tags ≡ tags) (c t : ℕ) (f o : List ℕ) (g : Good rules m.book) (s : Stocked m.cache) (h : refusal m (request c t f o) ≡ 0)
    (bytes : (k : ℕ) → get_or f k 0 < 256) where
  -- Where its bytes are in order and it carries registers, exception 03 is said exactly where a strict tag forbids what it writes.
  pub forbids_exactly : checked_of f ≡ Ok (asked_of f) → (base start quantity : ℕ) → Carries (asking f).asked base start quantity
      → ((outcome m (request c t f o)).says ≡ answer.Excepted 3) ↔ Violates tags f base start quantity
  forbids_exactly fine base start quantity carries =
      let exactly = forbidden_exactly tags f bytes (asked_of f) (own f carries) (carries_some f fine (own f carries)) in
      Iff.trans (excepted_exactly m tags same c t f o g s h 3 (λ z. omega arith)) (Iff.trans (checked_excepted tags f 3) (
        λ w. ⊎_elim
            (λ (z : checked_of f ≡ Err (check.Excepted 3)). never (cc))
            (λ (z : (◌≡◌ {A = ℕ} 3 3) × (checked_of f ≡ Ok (asked_of f)) × (forbidden tags (asked_of f) f ≡ true)). exactly.0 z.2)
            w,
        λ w. inr (refl, fine, exactly.1 w),
      ))

  -- It is said of nothing else but bytes that give it.
  pub only_forbids : ((outcome m (request c t f o)).says ≡ answer.Excepted 3)
      ↔ ((checked_of f ≡ Err (check.Excepted 3)) ⊎ ((checked_of f ≡ Ok (asked_of f)) × (Forbidden tags f ⊎ Masked tags f)))
  only_forbids =
      Iff.trans (excepted_exactly m tags same c t f o g s h 3 (λ z. omega arith)) (Iff.trans (checked_excepted tags f 3) (
        λ w. ⊎_elim
            inl
            (λ (z : (◌≡◌ {A = ℕ} 3 3) × (checked_of f ≡ Ok (asked_of f)) × (forbidden tags (asked_of f) f ≡ true)).
            inr (
              z.1,
              ⊎_map
                  (λ (k : (base : ℕ) × (start : ℕ) × (quantity : ℕ) × Carries (asked_of f) base start quantity).
                  (k.0, k.1, k.2, spelled f k.3, (forbidden_exactly tags f bytes (asked_of f) k.3 (carries_some f z.1 k.3)).0 z.2))
                  (λ (k : (at : ℕ) × (x : ℕ) × (y : ℕ) × (asked_of f ≡ MaskWrite at x y)). masked_is tags f k.0 k.1 k.2 k.3 z.2)
                  (forbidden_carries tags f (asked_of f) z.2),
            ))
            w,
        λ w. ⊎_elim
            inl
            (λ (z : (checked_of f ≡ Ok (asked_of f)) × (Forbidden tags f ⊎ Masked tags f)).
            inr (
              refl,
              z.0,
              ⊎_elim
                  (λ (k : Forbidden tags f). (forbidden_exactly tags f bytes (asked_of f) (own f k.3) (carries_some f z.0 (own f k.3))).1 k.4)
                  (λ (k : Masked tags f). masked_forbidden tags f k)
                  z.1,
            ))
            w,
      ))

-- Of a 22 that is not refused exception 03 is said exactly where a tag of any kind has its register,
pub mask_excepted_exactly : (m : Machine) (tags : List Tag) → (settings m).tags ≡ tags → (c t : ℕ) (f o : List ℕ) → Good rules m.book → Stocked m.cache → refusal m (request c t f o) ≡ 0
    → get_or f 7 0 ≡ 22 → ((outcome m (request c t f o)).says ≡ answer.Excepted 3) ↔ ((tag : Tag) × Memᴰ tag tags × Has tag (number_at f 8))
mask_excepted_exactly m tags same c t f o g s h seven =
    let fine = mask_fine m c t f o h seven in
    Iff.trans (excepted_exactly m tags same c t f o g s h 3 (λ z. omega arith)) (Iff.trans (checked_excepted tags f 3) (
      λ w. ⊎_elim
          (λ (z : checked_of f ≡ Err (check.Excepted 3)). never (cc))
          (λ (z : (◌≡◌ {A = ℕ} 3 3) × (checked_of f ≡ Ok (asked_of f)) × (forbidden tags (asked_of f) f ≡ true)). (masked_is tags f _ _ _ (mask_asked f seven) z.2).1)
          w,
      λ w. inr (refl, fine, masked_forbidden tags f (seven, w)),
    ))

-- and exception 02 never.
pub mask_never_02 : (m : Machine) (tags : List Tag) → (settings m).tags ≡ tags → (c t : ℕ) (f o : List ℕ) → Good rules m.book → Stocked m.cache → refusal m (request c t f o) ≡ 0
    → get_or f 7 0 ≡ 22 → (outcome m (request c t f o)).says ≡ answer.Excepted 2 → ⊥
mask_never_02 m tags same c t f o g s h seven e =
    let fine = mask_fine m c t f o h seven in
    ⊎_elim
    (λ (z : checked_of f ≡ Err (check.Excepted 2)). never (cc))
    (λ (z : (◌≡◌ {A = ℕ} 2 3) × (checked_of f ≡ Ok (asked_of f)) × (forbidden tags (asked_of f) f ≡ true)). omega (arith, z.0))
    ((checked_excepted tags f 2).0 ((excepted_exactly m tags same c t f o g s h 2 (λ z. omega arith)).0 e))

masks_carry_none : {a x y base start quantity : ℕ} → Carries (MaskWrite a x y) base start quantity → ⊥
masks_carry_none c = elim c [ ]

-- what is carried stands behind bytes 8 and 9
behind_nine : {a : Asked} {base start quantity : ℕ} → Carries a base start quantity → 10 ≤ base
behind_nine single = omega arith
behind_nine multiple = omega arith
behind_nine both = omega arith

module _ (m : Machine) (tags : List Tag) (same : (settings m).tags ≡ tags) (c t : ℕ) (f o : List ℕ) (d : Outcome) (issue : Issues m c t f o d) where
  -- the function goes out as it came, whether registers are rewritten or nothing is
  function_sent : function_of d.written ≡ function_of f
  function_sent =
      let long = (framed f ((legal_checked (settings m) f).0 issue.is_legal).0).least in
      ⊎_elim
      (λ (k : (base : ℕ) × (start : ℕ) × (quantity : ℕ) × Carries (asking f).asked base start quantity).
      (issue.rewritten _ _ _ k.3).others 7 (omega arith) (omega arith) (inl (omega (arith, behind_nine k.3))))
      (λ (n : (base start quantity : ℕ) → Carries (asking f).asked base start quantity → ⊥). (issue.unchanged n).0 7 (omega arith) (omega arith))
      (carries_or (asking f).asked)

  -- what goes out carries registers only where the client's frame does, of the same addresses
  sent_carried : {base start quantity : ℕ} → Carries (asking d.written).asked base start quantity → Carries (asking f).asked base start quantity
  sent_carried sent =
      spelled f (kept (class_of (function_of f)) f d.written (rw function_sent at (own d.written sent)) (λ base start quantity k.
      let r = issue.rewritten base start quantity (spelled f k) in
      λ j l h. r.others j l (omega (arith, r.inside)) (inl h)))

  -- A 22 goes out to no register of a tag: function and address as the written frame has them.
  pub sends_no_mask : get_or d.written 7 0 ≡ 22 → (tag : Tag) → Memᴰ tag tags → Has tag (number_at d.written 8) → ⊥
  sends_no_mask seven tag listed has =
      let was : get_or f 7 0 ≡ 22 = sym function_sent ∙ seven in
      let fine = (legal_checked (settings m) f).0 issue.is_legal in
      let room = rw (mask_asked f was) at (legal-room f (asked_of f) fine.1) in
      let none : (base start quantity : ℕ) → Carries (asking f).asked base start quantity → ⊥ = λ base start quantity k. masks_carry_none (rw ((asking-says 0 f).masks was) at k) in
      let as-came = (issue.unchanged none).0 in
      let e : number_at d.written 8 ≡ number_at f 8 = rw (as-came 8 (omega arith) (omega arith), as-came 9 (omega arith) (omega arith)) in
      true≢false (sym (masked_forbidden tags f (was, (tag, listed, rw e at has))) ∙ ap (λ (ts : List Tag). forbidden ts (asked_of f) f) (sym same) ∙ fine.2)

  -- What goes out has at a strict tag, all of it, digits of the number that the client wrote there: function, addresses and quantity as the written frame has them.
  pub sends_digits : Ascending 0 tags → ((k : ℕ) → get_or f k 0 < 256) → (base start quantity : ℕ) → Carries (asking d.written).asked base start quantity
      → (tag : Tag) → Memᴰ tag tags → tag.strict ≡ 1 → (x : ℕ) → Has tag x → InRun start quantity x → HasDigits tag f d.written base start quantity
  sends_digits up bytes base start quantity sent =
      let carries = sent_carried sent in
      let fine = (legal_checked (settings m) f).0 issue.is_legal in
      let goes : Rewrites ToBcd tags f d.written issue.partial issue.value base start quantity = subst (λ (ts : List Tag). Rewrites ToBcd ts f d.written issue.partial issue.value base start quantity) same (issue.rewritten base start quantity carries) in
      strict_sent goes up bytes
      (λ w. true≢false (sym ((forbidden_exactly tags f bytes (asked_of f) (own f carries) (carries_some f fine.1 (own f carries))).1 w) ∙ ap (λ (ts : List Tag). forbidden ts (asked_of f) f) (sym same) ∙ fine.2))

-- no tag has the register that f masks
abbrev pub MasksNone : List Tag → List ℕ → Type 0
MasksNone tags f = get_or f 7 0 ≡ 22 → (tag : Tag) → Memᴰ tag tags → Has tag (number_at f 8) → ⊥

module _ (s : Value) (lenient : some_strict s.tags ≡ false) (f : List ℕ) (clear : MasksNone s.tags f) where
  nothing-forbids : forbidden s.tags (asked_of f) f ≡ false
  nothing-forbids =
      lenient-allowed s.tags lenient (asked_of f) f
      (λ at x y e.
      let w = masking_is f at x y (sym (asked_spelled f) ∙ e) in
      ⊎_elim
      (λ (t : some_has at s.tags ≡ true). let k = (has_exactly at s.tags).0 t in absurd (clear w.0 k.0 k.1 (subst (Has k.0) w.1 k.2)))
      (λ (t : some_has at s.tags ≡ false). t)
      (true_or (some_has at s.tags)))

  -- Without a strict tag, and where it masks no register of a tag, a legal request is what it was,
  pub legal_as_before : legal s f ≡ (not (misframed f) && (not (bad_function (function_of f)) && (not (bad_length (class_of (function_of f)) f) && eqb (fault_of f) 0)))
  unfolding legal
  legal_as_before = rw (allowed_fault s.tags f nothing-forbids)

  -- and so is what a request comes to that is not refused.
  pub admitted_as_before : (m : Machine) → settings m ≡ s → (c t : ℕ) (o : List ℕ)
      → admitted m c t f o ≡ cond (eqb (fault_of f) 0) (served (clocked m t) c f o) (excepted (clocked m t) (fault_of f) f o)
  unfolding admitted
  admitted_as_before m same c t o = rw (ap (λ (y : Value). fault_under y.tags f) same ∙ allowed_fault s.tags f nothing-forbids)
