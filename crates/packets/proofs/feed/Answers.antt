-- `packets::feed` meets its contract: by the turns of its loop.
-- Assumes nothing.
use Rattle.std.proofs.Common.{drop, ◌∙◌, arith}
use Rattle.basics.proofs.EachLaws.{each-ends}
use Rattle.packets.specs.Answers.{lent, call, took_one}
use Rattle.packets.proofs.CallLaws.{turned, full-stays}
use Rattle.packets.proofs.Holding.{called-within}
use Rattle.packets.proofs.feed.Goals as goal

pub returns-then-f-room : goal.returns-then-f-room
returns-then-f-room g c =
    let m = g.M.Machine in
    let k = c.loop-f in
    let e =
    full-stays m.by (drop k.f.used c.args.piece.now) (call k.f.reader (m.seen k.machine) (lent k.answers k.f.answered) k.f.used)
    (rw c.has_room-room.ensures at c.if-f-room.true) ∙ k.invariant.0 in
    record { answers_after = e; within = called-within m.by c.args.reader (m.seen c.args.machine.now) c.args.piece.now c.args.answers.now e; stays = k.invariant.1 }

pub loop-f-smaller : goal.loop-f-smaller
loop-f-smaller g c =
    let m = g.M.Machine in
    let k = c.loop-f in
    let t =
    turned m.by c.args.piece.now k.f.reader (m.seen k.machine) (lent k.answers k.f.answered) k.f.used c.loop-f-test.true c.has_room-room.ensures c.if-f-room.false
    c.next-event.ensures c.tell.ensures.done in
    omega (arith, t.further, t.within)

pub loop-f-preserved : goal.loop-f-preserved
loop-f-preserved g c =
    let m = g.M.Machine in
    let k = c.loop-f in
    let t =
    turned m.by c.args.piece.now k.f.reader (m.seen k.machine) (lent k.answers k.f.answered) k.f.used c.loop-f-test.true c.has_room-room.ensures c.if-f-room.false
    c.next-event.ensures c.tell.ensures.done in
    (rw k.invariant.0 at t.same, c.tell.ensures.stays ∙ k.invariant.1)

pub returns : goal.returns
returns g c =
    let m = g.M.Machine in
    let k = c.loop-f in
    let e =
    each-ends (took_one m.by) c.args.piece.now k.f.used (call k.f.reader (m.seen k.machine) (lent k.answers k.f.answered) k.f.used) c.loop-f-test.false ∙ k.invariant.0 in
    record { answers_after = e; within = called-within m.by c.args.reader (m.seen c.args.machine.now) c.args.piece.now c.args.answers.now e; stays = k.invariant.1 }
