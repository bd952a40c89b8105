-- `requesting::miss` meets its contract: the open place is joined, else the free place issued into, else exception 04.
use Prim.Native.Nat.{◌<◌}
use mathlib.Core.Path.{refl}
use native.Mathlib.Omega.{arith}
use Rattle.numbers.specs.Numbers.{places}
use Rattle.laws.specs.Options.{place_or}
use Rattle.table.specs.Columns.{columns_of}
use Rattle.requesting.proofs.SeatLaws.{Seated, may_join_own, open_here, joined_there, issued_next, full_there, none_found}
use Rattle.requesting.proofs.miss.Goals.{After-find_seats-seats}
use Rattle.requesting.proofs.miss.Goals as goal

-- what is known after the scan
seated : (c : After-find_seats-seats)
    → Seated c.args.device.now.settings (columns_of c.args.device.now.table) c.args.device.now.clock c.args.frame.now c.may_join-joining.result c.args.word
    (place_or places c.find_seats-seats.result.«open») (place_or places c.find_seats-seats.result.free)
seated c = record {
  sound = c.requires.sound.table;
  asks = c.requires.asks.0;
  may = may_join_own c.args.device.now.settings c.args.frame.now c.requires.admitted.legal c.may_join-joining.ensures;
  scanned = c.find_seats-seats.ensures.found;
}

pub join_request-requires-clause-place_lt_places : goal.join_request-requires-clause-place_lt_places
join_request-requires-clause-place_lt_places c =
    let below = rw c.in-Some.is at c.find_seats-seats.ensures.within.0 in
    let low : c.in-Some.place < places = omega (arith, below, c.requires.sound.table.within) in
    (low, (open_here (rw c.in-Some.is at (seated (goal.at.join_request-requires-clause-place_lt_places c).After-find_seats-seats)) low).1)

pub join_request-requires-clause-nonzero : goal.join_request-requires-clause-nonzero
join_request-requires-clause-nonzero c =
    let below = rw c.in-Some.is at c.find_seats-seats.ensures.within.0 in
    let live = (open_here (rw c.in-Some.is at (seated (goal.at.join_request-requires-clause-nonzero c).After-find_seats-seats)) (omega (arith, below, c.requires.sound.table.within))).0 in
    (omega (arith, live), c.requires.sound.table.low c.in-Some.place)

pub returns-in-Some : goal.returns-in-Some
returns-in-Some c =
    let below = rw c.in-Some.is at c.find_seats-seats.ensures.within.0 in
    let s = rw c.in-Some.is at (seated (goal.at.returns-in-Some c).After-find_seats-seats) in
    let n = c.join_request.ensures.stays in
    record {
      came = rw (n.0, n.1, n.2, n.3, n.4, n.5) (joined_there s (omega (arith, below, c.requires.sound.table.within)) c.join_request.ensures.joined c.requires.sound.cache);
      attached = refl;
      clock = refl;
      settings = refl;
      shown = refl;
    }

pub returns-in-Some-free : goal.returns-in-Some-free
returns-in-Some-free c =
    let s = rw c.in-Some-free.is at (seated (goal.at.returns-in-Some-free c).After-find_seats-seats) in
    let low = rw c.in-Some-free.is at c.find_seats-seats.ensures.within.1 in
    let i = c.issue_request.ensures in
    record {
      came = issued_next s c.args.client c.args.out.now (none_found _ _ c.in_default.not-Some) low i.came;
      attached = i.attached;
      clock = i.clock;
      settings = i.settings;
      shown = i.shown;
    }

pub returns : goal.returns
returns c = record {
  came =
      full_there (seated (goal.at.returns c).After-find_seats-seats) c.args.client c.args.out.now (none_found _ _ c.in_default.not-Some) (none_found _ _ c.in_default-free.not-Some) c.except_caller.ensures
      c.requires.sound.cache;
  attached = refl;
  clock = refl;
  settings = refl;
  shown = refl;
}
