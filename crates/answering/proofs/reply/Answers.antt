-- `answering::reply` meets its contract: each return is one of the outcomes that the laws name.
use Prim.Native.Nat.{ℕ}
use mathlib.Core.Path.{◌≡◌, refl, ap, sym, ◌∙◌}
use mathlib.Core.Bool.{true, false}
use mathlib.Core.List.{List, map}
use native.Mathlib.Omega.{arith}
use lib.ListN.{length, get_or, take}
use lib.Seq.{length-take-le}
use Rattle.numbers.specs.Numbers.{places}
use Rattle.laws.specs.Search.{best}
use Rattle.wire.specs.Frame.{id_of, misframed, laid}
use Rattle.wire.specs.Plain.{Framed}
use Rattle.settings.specs.Grammar.{Tag}
use Rattle.settings.specs.TagWords.{tag_of}
use Rattle.pdu.specs.Replies.{answering}
use Rattle.pdu.specs.Words.{what_of}
use Rattle.pdu.specs.declared.What.{What}
use Rattle.rewrite.specs.Rewriting.{Rewritten, with_counts}
use Rattle.rewrite.specs.Frames.{returned, under}
use Rattle.rewrite.proofs.RoomLaws.{answer_brought}
use Rattle.caching.specs.Kept.{cache_of, SoundCache}
use Rattle.caching.specs.declared.ReplyCache.{ReplyCache}
use Rattle.machine.specs.Machine.{Machine}
use Rattle.machine.specs.Numbers.{numbers}
use Rattle.machine.specs.Replies.{cache_after}
use Rattle.machine.specs.Calls.Call.{reply}
use Rattle.machine.specs.RefusalNumbers.{number_of}
use Rattle.machine.specs.declared.Answer.TheVariants.{Answered}
use Rattle.table.specs.declared.LiveTable.{LiveTable}
use Rattle.table.specs.Columns.{columns_of}
use Rattle.table.specs.inner.Places.{holds}
use Rattle.table.proofs.EntryLaws.{held}
use Rattle.proxy.specs.declared.Device.{Device}
use Rattle.proxy.specs.State.{State, state, value_in, machine_of, SoundState}
use Rattle.proxy.specs.Calls.{Does}
use Rattle.proxy.specs.Gates.{reply_gate}
use Rattle.proxy.proofs.StateLaws.{timed}
use Rattle.answering.proofs.GateLaws.{Timely, reply_timely, reply_framed, number-positive}
use Rattle.answering.proofs.EndLaws.{Living, holder_lives, has_id_lem, may_end, asks_proper, asks_placed, ended_keeping_sound}
use Rattle.answering.proofs.FrameLaws.{by_word}
use Rattle.answering.proofs.KeepLaws.{gives, fills_key, handed_there, handed_fills, kept_is, kept-none}
use Rattle.answering.proofs.ReplyLaws.{was_refused, was_unknown, was_mismatched, was_answered}
use Rattle.answering.proofs.reply.Goals.{In_default, After-find, In-Some, Else-not-answers, After-give_back-raw, After-life_given, In-Some-life_given, in-Some-life_given, in_default-life_given}
use Rattle.answering.proofs.reply.Goals as goal

-- the state that has the device's table, clock, settings and cache, beside what else the state s has
abbrev came : Device → State → State
came d s = state (columns_of d.table) s.cursor s.attached d.clock d.settings d.cache.numbers d.cache.shown

-- the gate let it pass
gate : (c : In_default)
    → let a = c.args in reply_gate (length a.out.now) (length a.list.now) a.time a.device.now.clock a.frame.now ≡ 0
gate c = sym c.in_default.ensures

timely : (c : In_default)
    → let a = c.args in Timely (length a.out.now) (length a.list.now) a.time a.device.now.clock × Framed a.frame.now
timely c =
    let a = c.args in
    reply_timely (length a.out.now) (length a.list.now) a.time a.device.now.clock a.frame.now (gate c)

right : (c : In_default) → misframed c.args.frame.now ≡ false
right c =
    let a = c.args in
    reply_framed (length a.out.now) (length a.list.now) a.time a.device.now.clock a.frame.now (gate c)

-- the place under the reply's id, which is one
found : (c : In-Some)
    → let a = c.args in c.in-Some.place ≡ best (holds a.device.now.table.ids (id_of a.frame.now)) (λ i j. false) places a.device.now.table.top
found c = rw c.proxy_of.ensures at c.in-Some.ensures.found

is_place : (c : In-Some) → c.in-Some.place ≡ places → ⊥
is_place c e = let w = c.in-Some.ensures.within in let t = c.requires.0.within in omega arith

lives : (c : In-Some) → Living (columns_of c.args.device.now.table) c.in-Some.place
lives c = holder_lives (columns_of c.args.device.now.table) c.requires.0 (id_of c.args.frame.now) c.in-Some.place (found c) (is_place c)

-- the word of what was asked at a place
abbrev word_at : LiveTable → ℕ → ℕ
word_at t k = get_or t.asked k 0

-- the reply answers that
answered-by : (c : Else-not-answers) → answering (what_of (word_at c.args.device.now.table c.in-Some.place)) c.args.frame.now ≡ true
answered-by c = rw c.what_of-what.ensures at (sym c.answers.ensures ∙ c.if-not-answers.false)

-- the tags in force
abbrev force : After-give_back-raw → List Tag
force c = map tag_of c.tags-tags.result.words.now

-- what was written for the word
written : (c : After-give_back-raw)
    → let r = c.give_back-raw in
    with_counts r.result.partial r.result.value r.new.out ≡ under 0 c.args.out.now (returned (force c) (what_of (word_at c.args.device.now.table c.in-Some.place)) c.args.frame.now)
written c =
    let e = c.what_of-what.ensures in
    by_word c.args.out.now c.args.frame.now (force c) (what_of (word_at c.args.device.now.table c.in-Some.place)) (ap (λ (w : What). w.function) e) (ap (λ (w : What). w.asked) e) c.give_back-raw.ensures

-- the frame as it is handed out
handed : (c : After-give_back-raw)
    → take (length c.args.frame.now) c.give_back-raw.new.out ≡ laid 0 (returned (force c) (what_of (word_at c.args.device.now.table c.in-Some.place)) c.args.frame.now).bytes
handed c =
    let p = goal.at.After-give_back-raw c in
    let x = held (columns_of c.args.device.now.table) c.in-Some.place in
    rw (ap (λ (r : Rewritten). r.bytes) (written c)) (handed_there (force c) (word_at c.args.device.now.table c.in-Some.place) x c.args.frame.now refl refl (right p.In_default) (let l = (timely p.In_default).1.least in omega arith) c.args.out.now)

pub returns-in-Err-clause-does : goal.returns-in-Err-clause-does
returns-in-Err-clause-does c whole sounds =
    let a = c.args in
    rw c.from.ensures (
      was_refused (machine_of (came a.device.now whole)) a.time a.frame.now a.out.now a.list.now (number_of c.in-Err.refusal) c.in-Err.ensures (number-positive c.in-Err.refusal),
      sounds,
      λ h. refl,
    )

pub returns-in_default-find-clause-does : goal.returns-in_default-find-clause-does
returns-in_default-find-clause-does c whole sounds =
    let a = c.args in
    rw c.from-in_default-find.ensures (
      was_unknown (came a.device.now whole) sounds a.time a.frame.now a.out.now a.list.now (gate (goal.at.returns-in_default-find-clause-does c).In_default) places (rw c.proxy_of.ensures at c.in_default-find.ensures.found) refl,
      sounds,
      λ h. refl,
    )

pub returns-then-not-answers-clause-does : goal.returns-then-not-answers-clause-does
returns-then-not-answers-clause-does c whole sounds =
    let a = c.args in
    let at = goal.at.returns-then-not-answers-clause-does c in
    rw c.from-then-not-answers.ensures (
      was_mismatched (came a.device.now whole) sounds a.time a.frame.now a.out.now a.list.now (gate at.In_default) c.in-Some.place (found at.In-Some) (is_place at.In-Some)
          (rw c.what_of-what.ensures at (sym c.answers.ensures ∙ c.if-not-answers.true)),
      sounds,
      λ h. refl,
    )

pub id_at-id-requires : goal.id_at-id-requires
id_at-id-requires c =
    has_id_lem (columns_of c.args.device.now.table) c.requires.0 c.in-Some.place (lives (goal.at.id_at-id-requires c).In-Some)

pub end_at-parties-requires : goal.end_at-parties-requires
end_at-parties-requires c =
    let a = c.args in
    let at = goal.at.end_at-parties-requires c in
    may_end (columns_of a.device.now.table) c.requires.0 c.in-Some.place (lives at.In-Some) (length a.list.now) (timely at.In_default).0.pairs

pub give_back-raw-requires-clause-framed : goal.give_back-raw-requires-clause-framed
give_back-raw-requires-clause-framed c =
    let p = timely (goal.at.give_back-raw-requires-clause-framed c).In_default in
    record { least = p.1.least; fits = omega (arith, p.1.most, p.0.frames) }

pub give_back-raw-requires-clause-brought : goal.give_back-raw-requires-clause-brought
give_back-raw-requires-clause-brought c =
    let at = goal.at.give_back-raw-requires-clause-brought c in
    rw c.what_of-what.ensures (answer_brought _ c.args.frame.now (asks_proper (columns_of c.args.device.now.table) c.requires.0 c.in-Some.place (lives at.In-Some)).lawful (answered-by at.Else-not-answers))

pub slice_bounds-keep-end : goal.slice_bounds-keep-end
slice_bounds-keep-end c = let p = timely (goal.at.slice_bounds-keep-end c).In_default in omega (arith, c.give_back-raw.auto.out, p.1.most, p.0.frames)

pub slice_bounds-keep-end-in-Some-life_given : goal.slice_bounds-keep-end-in-Some-life_given
slice_bounds-keep-end-in-Some-life_given c =
    let p = timely (goal.at.slice_bounds-keep-end-in-Some-life_given c).In_default in
    sym (length-take-le _ c.give_back-raw.new.out (omega (arith, c.give_back-raw.auto.out, p.1.most, p.0.frames)))

pub keep-requires-clause-key : goal.keep-requires-clause-key
keep-requires-clause-key c =
    let at = goal.at.keep-requires-clause-key c in
    let b = at.After-give_back-raw in
    let n = word_at c.args.device.now.table c.in-Some.place in
    let f = c.args.frame.now in
    let x = held (columns_of c.args.device.now.table) c.in-Some.place in
    let l = lives at.In-Some in
    let does = (gives (force b) n x f refl refl (c.in-Some-life_given.ensures x (sym c.what_of-what.ensures) refl)).0 in (
      fills_key (force b) n x f refl refl does (asks_proper (columns_of c.args.device.now.table) c.requires.0 c.in-Some.place l) (asks_placed (columns_of c.args.device.now.table) c.requires.0 c.in-Some.place l),
      rw (handed b)
          (handed_fills (force b) n x f refl refl (right at.In_default) (let least = (timely at.In_default).1.least in omega arith) does (answered-by at.Else-not-answers)),
    )

pub overflow_cast-result : goal.overflow_cast-result
overflow_cast-result c = omega (arith, (timely (goal.at.overflow_cast-result c).In_default).1.most)

-- the device once the entry has ended, with that cache
abbrev left : After-life_given → ReplyCache → Device
left c d = let n = c.args.device.now in record { table = c.end_at-parties.new.table; attached = n.attached; clock = c.args.time; settings = n.settings; cache = d }

-- the machine at the time of the reply
abbrev at_time : After-life_given → State → Machine
at_time c whole = machine_of (timed (came c.args.device.now whole) c.args.time)

-- It ends as the machine does, where the cache is the machine's after the reply.
ends : (c : After-life_given) (whole : State) → SoundState (came c.args.device.now whole) → (d : ReplyCache)
    → cache_of d.numbers d.shown ≡ cache_after (at_time c whole) (held (columns_of c.args.device.now.table) c.in-Some.place) c.args.frame.now
    → SoundCache d.numbers d.shown
    → let a = c.args in
    Does (came a.device.now whole) (reply a.time a.frame.now a.out.now a.list.now)
    (Answered c.id_at-id.result (length a.frame.now) c.end_at-parties.result c.give_back-raw.result.partial c.give_back-raw.result.value)
    (came (left c d) whole) c.give_back-raw.new.out c.end_at-parties.new.list
unfolding numbers
ends c whole sounds d keeps sound =
    let a = c.args in
    let at = goal.at.After-life_given c in
    let s = came a.device.now whole in
    let e = c.end_at-parties in
    let r = c.give_back-raw in
    let y = e.ensures.stays in
    let w = rw (ap (map tag_of) c.tags-tags.ensures) at (written at.After-give_back-raw) in
    rw (y.0, y.1, y.2, y.3, y.4, y.5) (
      was_answered s sounds a.time a.frame.now a.out.now a.list.now
          (gate at.In_default) c.in-Some.place (found at.In-Some) (is_place at.In-Some) (answered-by at.Else-not-answers)
          c.id_at-id.result e.result r.result.partial r.result.value r.new.out e.new.list e.new.table.ids e.new.table.top d.numbers d.shown
          c.id_at-id.ensures e.ensures.value e.ensures.ids_after w keeps,
      ended_keeping_sound s sounds c.in-Some.place (lives at.In-Some) a.time _ _ e.ensures.ids_after d.numbers d.shown sound,
      λ h. absurd (h refl),
    )

pub returns-clause-does : goal.returns-clause-does
unfolding value_in
returns-clause-does c whole sounds =
    let l = (goal.at.returns-clause-does c).After-life_given in
    let at = goal.at.After-life_given l in
    let b = at.After-give_back-raw in
    let n = word_at c.args.device.now.table c.in-Some.place in
    let f = c.args.frame.now in
    let x = held (columns_of c.args.device.now.table) c.in-Some.place in
    let tagged = sym (ap (map tag_of) c.tags-tags.ensures) in
    let asks = sym c.what_of-what.ensures in
    elim c.match-life_given.branch [
      | in-Some-life_given w ↦
          rw w.device-is (ends l whole sounds w.keep.new.cache
          (kept_is (force b) n x f refl refl (right at.In_default) (let least = (timely at.In_default).1.least in omega arith) (at_time l whole) tagged c.tags-tags.result.listed.ascending
          (w.in-Some-life_given.ensures x asks refl) (ap (λ (r : Rewritten). r.value) (written b)) (rw (handed b) at w.keep.ensures.kept))
          w.keep.ensures.sound)
      | in_default-life_given w ↦
          rw w.device-is (ends l whole sounds c.args.device.now.cache
          (kept-none (force b) n x f refl refl (at_time l whole) tagged (w.in_default-life_given.ensures x asks refl))
          c.requires.2)
    ]
