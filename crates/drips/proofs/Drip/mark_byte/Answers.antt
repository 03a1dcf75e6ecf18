-- `drips::Drip::mark_byte` meets its contract: what is left of the byte's pixels, marked now, is the byte, marked at the start.
-- Assumes nothing.
use native.Mathlib.Omega.{arith}
use mathlib.Core.Path.{ap, ◌∙◌}
use mathlib.Core.List.{List, [], ◌∷◌}
use Prim.Native.Nat.{◌+◌, ◌%◌}
use Rattle.host.specs.Host.{Pixel, pixel, run}
use Rattle.host.proofs.Places.{whole-width}
use Rattle.host.proofs.Drawing.{run-turn, run-done, byte-run, byte-none}
use Rattle.drips.proofs.Marks.{dripping, none-drips, drip-takes}
use Rattle.drips.proofs.Drip.mark_byte.Goals as goal

pub returns-then-self-j : goal.returns-then-self-j
returns-then-self-j c =
    let a = c.args in
    none-drips a.self.ink a.self.clip a.self.feed a.marks.now (byte-none a.self.feed a.last a.word a.o c.if-self-j.true)

pub loop-i-init : goal.loop-i-init
loop-i-init c =
    let a = c.args in
    ap (λ (ps : List Pixel). dripping a.self.ink a.self.clip a.self.feed ps a.marks.now)
    (byte-run a.self.feed a.last a.word a.o c.if-self-j.false c.whole_pixels-start.ensures c.whole_pixels-end.ensures)

pub mark_one-requires : goal.mark_one-requires
mark_one-requires c =
    let w = whole-width c.args.self.feed (c.args.o % c.args.self.feed.step + 1) in
    let f = c.whole_pixels-end.ensures in
    let u = c.loop-i-test.true in
    (c.requires, (omega arith, c.if-self-j.false))

pub loop-i-preserved : goal.loop-i-preserved
loop-i-preserved c =
    let a = c.args in
    let v = c.value_of-v in
    drip-takes a.self.ink a.self.clip a.self.feed (run a.self.feed a.last a.word a.o c.loop-i.i _) (pixel c.loop-i.i _ v.result ∷ []) _ _
    (run-turn a.self.feed a.last a.word a.o c.loop-i.i _ v.result c.loop-i-test.true v.ensures) c.mark_one.ensures
    ∙ c.loop-i.invariant

pub returns : goal.returns
returns c =
    let a = c.args in
    none-drips a.self.ink a.self.clip a.self.feed _ (run-done a.self.feed a.last a.word a.o _ _ c.loop-i-test.false) ∙ c.loop-i.invariant
