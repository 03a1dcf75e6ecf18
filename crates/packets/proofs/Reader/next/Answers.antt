-- `packets::Reader::next` meets its contract: by the test for a whole word.
-- Assumes nothing.
use Rattle.std.proofs.Common.{◌-◌, ◌&&◌, length, arith}
use Rattle.packets.proofs.NextLaws.{four, next_word, next-byte}
use Rattle.packets.proofs.Reader.next.Goals as goal

pub word_at-requires : goal.word_at-requires
word_at-requires c =
    let a = c.args in
    omega (arith, four (c.is_between.result && a.room) (length a.piece.now - a.at) c.if-is_between-room.true)

pub returns-then-is_between-room : goal.returns-then-is_between-room
returns-then-is_between-room c =
    let a = c.args in
    next_word a.self a.piece.now a.at a.room c.is_between.ensures c.if-is_between-room.true c.word_at.ensures c.read_word-event.ensures

pub returns : goal.returns
returns c =
    let a = c.args in
    next-byte a.self a.piece.now a.at a.room c.is_between.ensures c.if-is_between-room.false c.take-event.ensures
