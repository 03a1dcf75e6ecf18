-- `drips::Drip::mark_word` meets its contract: each turn takes one of the word's four bytes.
-- Assumes nothing.
use mathlib.Core.Path.{ap, ◌∙◌}
use mathlib.Core.List.{List}
use Prim.Native.Nat.{◌+◌, ◌-◌, ◌*◌}
use Rattle.host.specs.Host.{Pixel, by_byte, by_bytes}
use Rattle.drips.proofs.Marks.{dripping, none-drips, drip-takes, bytes-turn, bytes-start, bytes-done}
use Rattle.drips.proofs.Drip.mark_word.Goals as goal

pub loop-t-init : goal.loop-t-init
loop-t-init c =
    let a = c.args in
    ap (λ (ps : List Pixel). dripping a.self.ink a.self.clip a.self.feed ps a.marks.now) (bytes-start a.self.feed a.last a.word a.taken)

pub loop-t-preserved : goal.loop-t-preserved
loop-t-preserved c =
    let a = c.args in
    let t = c.loop-t.t in
    drip-takes a.self.ink a.self.clip a.self.feed (by_bytes a.self.feed a.last a.word (4 * a.taken + t) (4 - t)) (by_byte a.self.feed a.last a.word (4 * a.taken + t))
    _ _ (bytes-turn a.self.feed a.last a.word a.taken t c.loop-t-test.true) c.mark_byte.ensures
    ∙ c.loop-t.invariant

pub returns : goal.returns
returns c =
    let a = c.args in
    let t = c.loop-t.t in
    none-drips a.self.ink a.self.clip a.self.feed _ (bytes-done a.self.feed a.last a.word (4 * a.taken + t) t c.loop-t-test.false) ∙ c.loop-t.invariant
