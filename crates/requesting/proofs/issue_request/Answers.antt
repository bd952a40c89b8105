-- `requesting::issue_request` meets its contract: the entry at the free place, what it spoils closed and dropped, and the frame sent on.
use Prim.Native.Nat.{ℕ}
use mathlib.Core.Path.{refl, ap, sym, ◌∙◌}
use mathlib.Core.List.{List, map}
use native.Mathlib.Omega.{arith}
use Rattle.settings.specs.TagWords.{tag_of}
use Rattle.rewrite.specs.Frames.{forwarded, under}
use Rattle.table.specs.Columns.{columns_of}
use Rattle.requesting.proofs.SeatLaws.{word_stands, asked_back, carries, free-here, issued_there}
use Rattle.pdu.specs.declared.What.{What}
use Rattle.pdu.specs.Words.{what_of}
use Rattle.requesting.proofs.issue_request.Goals as goal

pub free_id-id-requires : goal.free_id-id-requires
free_id-id-requires c = c.requires.sound.table.within

pub issue-requires : goal.issue-requires
issue-requires c =
    let free = c.requires.free in
    record { sound_table = c.requires.sound.table; place_lt_places = (free.1, free-here c.args.device.now.table.ids free.0 free.1); proper = word_stands c.requires.asks.0 }

pub close-requires : goal.close-requires
close-requires c = c.issue.ensures.sound_table_2.within

pub drop_met-requires : goal.drop_met-requires
drop_met-requires c = c.requires.sound.cache.bounded

pub forward-raw-requires : goal.forward-raw-requires
forward-raw-requires c =
    let admitted = c.requires.admitted in
    record {
      framed = record { least = admitted.least; fits = omega (arith, admitted.most, admitted.roomy) };
      sent = carries c.args.frame.now admitted.legal c.requires.asks.0.proper;
    }

pub overflow_cast-result : goal.overflow_cast-result
overflow_cast-result c = omega (arith, c.requires.admitted.most)

pub tags-requires : goal.tags-requires
tags-requires c = c.requires.sound.settings

pub returns : goal.returns
returns c =
    let d = c.args.device.now in
    let asks = c.requires.asks in
    let same = asked_back asks.0 ∙ sym asks.1 in
    let unit = ap (λ (w : What). w.unit) same in
    let asked = ap (λ (w : What). w.asked) same in
    let closed = c.close.ensures.closed c.args.word unit asked _ _ _ _ _ c.issue.ensures.sound_table_2 in
    let s = c.close.ensures.stays in
    record {
      came = rw (s.0, s.1, s.2, s.3, s.4, s.5, s.6)
          (issued_there d.settings (columns_of d.table) c.args.client c.args.out.now c.free_id-id.result
          c.requires.sound.table asks.0 c.requires.admitted.legal closed.1 c.free_id-id.ensures (omega (arith, c.free_id-id.type_inv)) c.next.ensures
          c.original_of-original.ensures c.requires.free.0 (closed.0 ∙ ap (map _) c.issue.ensures.top_after) (c.forward-raw.ensures ∙ ap (λ (ws : List ℕ). under c.free_id-id.result.0 c.args.out.now (forwarded (map tag_of ws) c.args.what.asked c.args.frame.now)) c.tags.ensures)
          c.requires.sound.cache (c.drop_met.ensures.drops (what_of c.args.word) unit asked));
      attached = refl;
      clock = refl;
      settings = refl;
      shown = c.drop_met.ensures.stays;
    }
