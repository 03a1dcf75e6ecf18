-- `words::take_run` meets its contract: each turn went on, or it stopped.
-- Assumes nothing.
use Rattle.std.proofs.Common.{refl, ◌∙◌, arith}
use Rattle.words.specs.Turn.{sofar}
use Rattle.words.proofs.Laws.{refusal-some, ran_ends}
use Rattle.words.proofs.take_run.Goals as goal

pub loop-sums-smaller : goal.loop-sums-smaller
loop-sums-smaller c = omega (arith, c.in-Ok.ensures.more refl, c.loop-sums-test.true)

pub loop-sums-preserved : goal.loop-sums-preserved
loop-sums-preserved c = c.in-Ok.ensures.goes refl ∙ c.loop-sums.invariant

pub returns-in-Err : goal.returns-in-Err
returns-in-Err c = c.in-Err.ensures.stops (refusal-some c.in-Err.refusal) ∙ c.loop-sums.invariant

pub returns : goal.returns
returns c = ran_ends c.args.words.now (sofar c.loop-sums.e c.loop-sums.mem c.loop-sums.sums) c.loop-sums-test.false ∙ c.loop-sums.invariant
