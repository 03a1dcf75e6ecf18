-- `picture::Player::feed` meets its contract: the bytes that are left, taken by the player now, are all of them taken by the player at the start.
-- Assumes nothing.
use Rattle.std.proofs.Common.{◌∙◌}
use Rattle.picture.specs.Player.{sheet, taken}
use Rattle.basics.proofs.EachLaws.{each_again, each-ends}
use Rattle.picture.proofs.Player.feed.Goals as goal

pub loop-byte-preserved : goal.loop-byte-preserved
loop-byte-preserved c =
    let k = c.loop-byte in
    let chunk = c.args.chunk.now in (
      each_again taken chunk k.byte-index (sheet k.p k.mem) _ c.loop-byte-test.true c.take-p.ensures ∙ k.invariant.0,
      c.take-p.auto.mem ∙ k.invariant.1,
    )

pub returns : goal.returns
returns c =
    let k = c.loop-byte in
    each-ends taken c.args.chunk.now k.byte-index (sheet k.p k.mem) c.loop-byte-test.false ∙ k.invariant.0
