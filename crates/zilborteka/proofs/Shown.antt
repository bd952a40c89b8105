-- What fills, what is spared and what a hit shows in a host's own lines is, call by call, what fills, is spared and is shown in the machine's history.
-- Assumes nothing.
use Prim.Native.Nat.{ℕ, ◌+◌, ◌-◌, ◌<◌}
use mathlib.Core.Path.{◌≡◌, refl, ap, sym, subst, subst₂, ◌∙◌}
use mathlib.Core.List.{List, [], ◌∷◌, ◌++◌, map-append, append_assoc}
use Rattle.laws.proofs.Choice.{never}
use Rattle.settings.specs.declared.Settings.{Settings}
use Rattle.settings.specs.Grammar.{Value}
use Rattle.pdu.specs.declared.What.{What}
use Rattle.pdu.specs.declared.ProxyId.{ProxyId}
use Rattle.cache.specs.Cache.{Cache}
use Rattle.cache.specs.Plain.{Takes, Cacheable, Life}
use Rattle.book.specs.Book.{Event}
use Rattle.book.specs.Book.Event.{passed, issued}
use Rattle.machine.specs.Machine.{Machine, settings}
use Rattle.machine.specs.Calls.{Call, Outcome}
use Rattle.machine.specs.Calls.Call.{request}
use Rattle.machine.specs.Refusals.{refusal}
use Rattle.machine.specs.Outcomes.{outcome}
use Rattle.machine.specs.Numbers.{numbers, Tells}
use Rattle.machine.specs.Spelled.{asker, asking}
use Rattle.machine.specs.Histories.{Seen, seen_of, events, told, after_calls, told_by}
use Rattle.machine.specs.Closed.{Unspoiled, number_at}
use Rattle.machine.specs.Cached.{Fills, Spares, LastReply, Latest, Shows}
use Rattle.machine.specs.declared.Answer.{Answer}
use Rattle.machine.specs.declared.Answer.TheVariants as answer
use Rattle.machine.specs.declared.Report.{Report}
use Rattle.machine.proofs.NumberLaws.{numbers-tell, refusal-told}
use Rattle.machine.proofs.Claims as claim
use Rattle.proxy.specs.declared.Device.{Device}
use Rattle.device.specs.Device.{Freshly}
use Rattle.zilborteka.specs.Lives.{in_force, machine_in, Line, calls_of, Lived, told_in, AsTheMachine}
use Rattle.zilborteka.specs.Cached.{cache_in, FillsIn, SparesIn, LastReplyIn, LatestIn, ShowsIn}
use Rattle.zilborteka.proofs.Lived.{each_line, a_device_lives_as_the_machine}

-- lines are split where their calls are
split_at : (ls : List Line) (a : List Call) (b : Call) (c : List Call) → calls_of ls ≡ a ++ b ∷ c
    → (ks : List Line) × (x : Line) × (ys : List Line) × (ls ≡ ks ++ x ∷ ys) × (a ≡ calls_of ks) × (b ≡ x.call) × (c ≡ calls_of ys)
split_at [] [] b c e = never (cc)
split_at [] (y ∷ a) b c e = never (cc)
split_at (l ∷ ls) [] b c e = ([], l, ls, refl, refl, cc, cc)
split_at (l ∷ ls) (y ∷ a) b c e =
    let h : y ≡ l.call = cc in
    let t : calls_of ls ≡ a ++ b ∷ c = cc in
    let i = split_at ls a b c t in
    (l ∷ i.0, i.1, i.2, ap (l ∷◌) i.3, ap (y ∷◌) i.4 ∙ ap (◌∷ calls_of i.0) h, i.5, i.6)

-- and their calls are split where they are
calls_of_lem : (ks : List Line) (x : Line) (ys : List Line) → calls_of (ks ++ x ∷ ys) ≡ calls_of ks ++ x.call ∷ calls_of ys
calls_of_lem ks x ys = map-append (λ (y : Line). y.call) ks (x ∷ ys)

-- What lines tell, one after the other; and what a line tells that is reported issued.
told_on : (v : Value) (ks ys : List Line) → told_in v (ks ++ ys) ≡ told_in v ks ++ told_in v ys
unfolding told_in
told_on v [] ys = refl
told_on v (x ∷ ks) ys =
    ap (λ (ws : List (Event What)). events v x.call x.saw ++ ws) (told_on v ks ys) ∙ sym (append_assoc (events v x.call x.saw) (told_in v ks) (told_in v ys))

pub issue_among : (v : Value) (ks : List Line) (x : Line) (ys : List Line) (c t : ℕ) (g o : List ℕ) (a : Answer) (i : ProxyId) (n p w : ℕ) → x.call ≡ request c t g o → x.saw.report ≡ numbers a
    → a ≡ answer.Issued i n p w → told_in v (ks ++ x ∷ ys) ≡ (told_in v ks ++ passed t ∷ []) ++ issued i.0 (asking g) (t + v.timeout) (asker c g) ∷ told_in v ys
unfolding told_in events told numbers
issue_among v ks x ys c t g o a i n p w call report e =
    let here : events v x.call x.saw ≡ passed t ∷ issued i.0 (asking g) (t + v.timeout) (asker c g) ∷ [] =
    ap (λ (y : Call). events v y x.saw) call ∙ ap (λ (r : Report). events v (request c t g o) (record { report = r; frame = x.saw.frame; list = x.saw.list })) (report ∙ ap numbers e) in
    told_on v ks (x ∷ ys) ∙ ap (λ (ws : List (Event What)). told_in v ks ++ (ws ++ told_in v ys)) here
    ∙ sym (append_assoc (told_in v ks) (passed t ∷ []) (issued i.0 (asking g) (t + v.timeout) (asker c g) ∷ told_in v ys))

-- a line x behind the lines ks, which told what the machine's history tells and at which the host saw what the machine shows
module _ (v : Value) (ks : List Line) (x : Line) (lines : told_in v ks ≡ told_by v (calls_of ks)) (saw : x.saw ≡ seen_of (outcome (after_calls v (calls_of ks)) x.call)) where
  abbrev m : Machine
  m = after_calls v (calls_of ks)

  abbrev vs : List (Event What)
  vs = told_by v (calls_of ks)

  -- what it reports of a refusal is the call's
  pub refusal_seen : x.saw.report.refusal ≡ refusal m x.call
  refusal_seen = ap (λ (y : Seen). y.report.refusal) saw ∙ refusal-told m x.call

  tells : Tells x.saw.report (outcome m x.call).says
  tells = subst (λ (y : Seen). Tells y.report (outcome m x.call).says) (sym saw) (numbers-tell (outcome m x.call).says)

  -- It fills exactly where its call does,
  unfoldable pub fills-line : (r : What) → Fills m vs x.call r → FillsIn v ks x r
  fills-line r f = record {
    time = f.time;
    frame = f.frame;
    out = f.out;
    list = f.list;
    is = f.is;
    granted = refusal_seen ∙ f.granted;
    plain = f.plain;
    client = f.entry.by;
    deadline = f.entry.deadline;
    outstanding = rw lines ((claim.which_ids_are_live v (calls_of ks) (number_at f.frame 0) r f.entry.by f.entry.deadline).0 (f.seat, f.entry, f.there, f.named, f.asked, refl, refl));
    unclosed = subst₂ (λ (ws : List (Event What)) (i : ℕ). Unspoiled ws i r f.entry.deadline) (sym lines) f.named f.unclosed;
    start = f.start;
    quantity = f.quantity;
    reads = f.reads;
    covered = subst (λ (y : Value). Cacheable y.tags f.start f.quantity) (claim.the_settings_in_force_stay v (calls_of ks)) f.covered;
  }

  unfoldable pub fills-call : (r : What) → FillsIn v ks x r → Fills m vs x.call r
  fills-call r g =
      let h = (claim.which_ids_are_live v (calls_of ks) (number_at g.frame 0) r g.client g.deadline).1 (rw lines at g.outstanding) in
      record {
        time = g.time;
        frame = g.frame;
        out = g.out;
        list = g.list;
        is = g.is;
        granted = sym refusal_seen ∙ g.granted;
        seat = h.0;
        entry = h.1;
        there = h.2;
        named = h.3;
        asked = h.4;
        plain = g.plain;
        unclosed = subst₂ (λ (i u : ℕ). Unspoiled vs i r u) (sym h.3) (sym h.6) (rw lines at g.unclosed);
        start = g.start;
        quantity = g.quantity;
        reads = g.reads;
        covered = subst (λ (y : Value). Cacheable y.tags g.start g.quantity) (sym (claim.the_settings_in_force_stay v (calls_of ks))) g.covered;
      }

  -- and spares a place exactly where its call does.
  module _ (e : Device) (same : cache_in e ≡ m.cache) (r : What) (p : ℕ) where
    pub spares_line : Spares m vs x.call r p → SparesIn v ks e x r p
    unfolding fills-call
    spares_line s = record {
      issues = λ c t g o q k. s.issues c t g o _ _ _ _ q (tells.issued k);
      link = s.link;
      place = λ w f z. s.place w (fills-call w f) (subst (λ (h : Cache). Takes f.time w h p) same z);
    }

    pub spares_call : SparesIn v ks e x r p → Spares m vs x.call r p
    unfolding fills-line numbers
    spares_call s = record {
      issues = λ c t g o i n a b q k. s.issues c t g o q (ap (λ (y : Seen). y.report.outcome) saw ∙ ap (λ (y : Answer). (numbers y).outcome) k);
      link = s.link;
      place = λ w f z. s.place w (fills-line w f) (subst (λ (h : Cache). Takes f.time w h p) (sym same) z);
    }

-- What the machine's hit shows of a reply, the host sees of it.
pub shows_seen : (f o : List ℕ) (d e : Outcome) {saw was : Seen} → saw ≡ seen_of d → was ≡ seen_of e → d.listed ≡ [] → Shows f o d e → ShowsIn f o saw was
unfolding numbers
shows_seen f o d e a b l s =
    rw (a, b)
    (record {
      report = rw (s.says, s.replied) refl;
      high = s.high;
      low = s.low;
      bytes = λ k i j. s.bytes k i (rw s.replied at j);
      behind = λ k j. s.behind k (rw s.replied at j);
      long = s.long;
      list = l;
    })

module _ (from : Settings) {r : Report} {d d' : Device} (ls : List Line) (fresh : Freshly from r d) (life : Lived d ls d') where
  abbrev v : Value
  v = in_force from

  lived : AsTheMachine v ls d'
  lived = a_device_lives_as_the_machine from ls fresh life

  -- the cache in a device's own fields is the machine's
  pub cache_is : (ks : List Line) (e : Device) → Lived d ks e → cache_in e ≡ (after_calls v (calls_of ks)).cache
  unfolding machine_in
  cache_is ks e l = ap (λ (y : Machine). y.cache) (a_device_lives_as_the_machine from ks fresh l).after

  -- at a line of this life: the device before it, what the lines before it told, and what was seen of it
  at-line : (ks : List Line) (x : Line) (ys : List Line) → ls ≡ ks ++ x ∷ ys
      → (e : Device) × Lived d ks e × (told_in v ks ≡ told_by v (calls_of ks)) × (x.saw ≡ seen_of (outcome (after_calls v (calls_of ks)) x.call))
  at-line ks x ys e =
      let i = each_line ks x ys (subst (λ (l : List Line). Lived d l d') e life) in
      (i.0, i.2, (a_device_lives_as_the_machine from ks fresh i.2).told, lived.saw ks x ys e)

  module _ (t : ℕ) (w : What) where
    -- a reply that filled and was left since, by what stands before it and behind it
    abbrev Left : List Call → Call → List Call → Type 0
    Left b c l =
        (f : Fills (after_calls v b) (told_by v b) c w) × (p : ℕ) × (p < 64) × Takes f.time w (after_calls v b).cache p × (n : ℕ)
        × Life (settings (after_calls v b)).tags f.start f.quantity n × (t - f.time < n)
        × ((mid : List Call) (y : Call) (rest : List Call) → l ≡ mid ++ y ∷ rest → Spares (after_calls v (b ++ c ∷ mid)) (told_by v (b ++ c ∷ mid)) y w p)
        × ((mid : List Call) (y : Call) (rest : List Call) → l ≡ mid ++ y ∷ rest → Fills (after_calls v (b ++ c ∷ mid)) (told_by v (b ++ c ∷ mid)) y w → ⊥)

    -- the split of the lines at a later line
    behind_it : (ks : List Line) (x : Line) (ys : List Line) → ls ≡ ks ++ x ∷ ys → (mid : List Line) (y : Line) (rest : List Line) → ys ≡ mid ++ y ∷ rest → ls ≡ (ks ++ x ∷ mid) ++ y ∷ rest
    behind_it ks x ys e mid y rest q = e ∙ ap (λ (zs : List Line). ks ++ x ∷ zs) q ∙ sym (append_assoc ks (x ∷ mid) (y ∷ rest))

    -- The last call that filled is the call of a line,
    in_lines : (ks : List Line) (x : Line) (ys : List Line) → ls ≡ ks ++ x ∷ ys → Left (calls_of ks) x.call (calls_of ys) → (q : LastReplyIn v d ls t w) × LatestIn v d ls t w q × (q.line ≡ x)
    unfolding fills-line
    in_lines ks x ys e k =
        let i = at-line ks x ys e in
        let f = k.0 in (
          record {
            before = ks;
            line = x;
            later = ys;
            split = e;
            fills = fills-line v ks x i.2 i.3 w f;
            place = k.1;
            low = k.2;
            takes = λ g l. subst (λ (h : Cache). Takes f.time w h k.1) (sym (cache_is ks g l)) k.3;
            life = k.4;
            smallest = subst (λ (y : Value). Life y.tags f.start f.quantity k.4) (claim.the_settings_in_force_stay v (calls_of ks)) k.5;
            young = k.6;
            spared = λ mid y rest q g l.
                let j = at-line (ks ++ x ∷ mid) y rest (behind_it ks x ys e mid y rest q) in
                spares_line v (ks ++ x ∷ mid) y j.2 j.3 g (cache_is (ks ++ x ∷ mid) g l) w k.1
                (subst (λ (zs : List Call). Spares (after_calls v zs) (told_by v zs) y.call w k.1) (sym (calls_of_lem ks x mid))
                (k.7 (calls_of mid) y.call (calls_of rest) (ap calls_of q ∙ calls_of_lem mid y rest)));
          },
          λ mid y rest q g.
              let j = at-line (ks ++ x ∷ mid) y rest (behind_it ks x ys e mid y rest q) in
              k.8 (calls_of mid) y.call (calls_of rest) (ap calls_of q ∙ calls_of_lem mid y rest)
              (subst (λ (zs : List Call). Fills (after_calls v zs) (told_by v zs) y.call w) (calls_of_lem ks x mid) (fills-call v (ks ++ x ∷ mid) y j.2 j.3 w g)),
          refl,
        )

    pub last_line : (s : LastReply (after_calls v) (told_by v) (calls_of ls) t w) → Latest (after_calls v) (told_by v) (calls_of ls) t w s
        → (q : LastReplyIn v d ls t w) × LatestIn v d ls t w q × (q.line.saw ≡ seen_of (outcome (after_calls v s.before) s.call))
    last_line s latest =
        let i = split_at ls s.before s.call s.later s.split in
        let k₀ : Left s.before s.call s.later = (s.fills, s.place, s.low, s.takes, s.life, s.smallest, s.young, s.spared, latest) in
        let k₁ = subst (λ (b : List Call). Left b s.call s.later) i.4 k₀ in
        let k₂ = subst₂ (λ (c : Call) (l : List Call). Left (calls_of i.0) c l) i.5 i.6 k₁ in
        let q = in_lines i.0 i.1 i.2 i.3 k₂ in
        let seen = (at-line i.0 i.1 i.2 i.3).3 in (
          q.0,
          q.1,
          ap (λ (x : Line). x.saw) q.2 ∙ seen ∙ subst₂ (λ (b : List Call) (c : Call). seen_of (outcome (after_calls v b) c) ≡ seen_of (outcome (after_calls v s.before) s.call)) i.4 i.5 refl,
        )

    -- and the last line that filled is one of the calls.
    pub last_call : (s : LastReplyIn v d ls t w) → (q : LastReply (after_calls v) (told_by v) (calls_of ls) t w) × (s.line.saw ≡ seen_of (outcome (after_calls v q.before) q.call))
    unfolding fills-call
    last_call s =
        let i = at-line s.before s.line s.later s.split in
        let g = s.fills in (
          record {
            before = calls_of s.before;
            call = s.line.call;
            later = calls_of s.later;
            split = ap calls_of s.split ∙ calls_of_lem s.before s.line s.later;
            fills = fills-call v s.before s.line i.2 i.3 w g;
            place = s.place;
            low = s.low;
            takes = subst (λ (h : Cache). Takes g.time w h s.place) (cache_is s.before i.0 i.1) (s.takes i.0 i.1);
            life = s.life;
            smallest = subst (λ (y : Value). Life y.tags g.start g.quantity s.life) (sym (claim.the_settings_in_force_stay v (calls_of s.before))) s.smallest;
            young = s.young;
            spared = λ mid y rest q.
                let a = split_at s.later mid y rest q in
                let ks = s.before ++ s.line ∷ a.0 in
                let j = at-line ks a.1 a.2 (behind_it s.before s.line s.later s.split a.0 a.1 a.2 a.3) in
                subst₂ (λ (zs : List Call) (z : Call). Spares (after_calls v (calls_of s.before ++ s.line.call ∷ zs)) (told_by v (calls_of s.before ++ s.line.call ∷ zs)) z w s.place) (sym a.4) (sym a.5)
                (subst (λ (zs : List Call). Spares (after_calls v zs) (told_by v zs) a.1.call w s.place) (calls_of_lem s.before s.line a.0)
                (spares_call v ks a.1 j.2 j.3 j.0 (cache_is ks j.0 j.1) w s.place (s.spared a.0 a.1 a.2 a.3 j.0 j.1)));
          },
          i.3,
        )
