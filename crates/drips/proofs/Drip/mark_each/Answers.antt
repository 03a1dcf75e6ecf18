-- `drips::Drip::mark_each` meets its contract: each turn marks the pixels that one word finishes.
-- Assumes nothing.
use mathlib.Core.Path.{ap, ◌∙◌}
use mathlib.Core.List.{List}
use Prim.Native.Nat.{◌+◌}
use lib.ListN.{drop, get_or}
use Rattle.host.specs.Host.{Pixel, by_word, by_run}
use Rattle.drips.proofs.Marks.{dripping, none-drips, drip-takes, run-turn, run-start, run-done}
use Rattle.drips.proofs.Drip.mark_each.Goals as goal

pub loop-i-init : goal.loop-i-init
loop-i-init c =
    let a = c.args in
    ap (λ (ps : List Pixel). dripping a.self.ink a.self.clip a.self.feed ps a.marks.now) (run-start a.self.feed a.words.now a.last a.taken)

pub loop-i-preserved : goal.loop-i-preserved
loop-i-preserved c =
    let a = c.args in
    let i = c.loop-i.i in
    let last = c.loop-i.before in
    drip-takes a.self.ink a.self.clip a.self.feed (by_run a.self.feed last (drop i a.words.now) (a.taken + i)) (by_word a.self.feed last (get_or a.words.now i 0) (a.taken + i))
    _ _ (run-turn a.self.feed a.words.now last a.taken i c.loop-i-test.true) c.mark_word.ensures
    ∙ c.loop-i.invariant

pub returns : goal.returns
returns c =
    let a = c.args in
    let l = c.loop-i in
    none-drips a.self.ink a.self.clip a.self.feed _ (run-done a.self.feed a.words.now l.before (a.taken + l.i) l.i c.loop-i-test.false) ∙ l.invariant
