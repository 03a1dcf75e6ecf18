-- `rimebarrow_view` meets its contract: refused by its answer, or the bytes of the row.
-- Assumes nothing.
use mathlib.Core.Path.{sym, ◌∙◌}
use native.Mathlib.Omega.{arith}
use Rattle.surface.proofs.Bytes.{product_lt}
use Rattle.capi.proofs.Views.{part-refused, part-given, part-colour}
use Rattle.capi.proofs.rimebarrow_view.Goals as goal

pub returns-then-answer-ne0 : goal.returns-then-answer-ne0
returns-then-answer-ne0 c = part-refused c.args.memory.now c.args.base c.args.format c.args.x c.args.y c.args.width c.view_answer-answer.ensures c.if-answer-ne0.true

pub byte_of-requires : goal.byte_of-requires
byte_of-requires c = let k = part-colour c.args.memory.now c.args.base c.args.format c.args.x c.args.y c.args.width (sym c.view_answer-answer.ensures ∙ c.if-answer-ne0.false) c.target_of-s.ensures in (k, k.some)

pub overflow_mul-count : goal.overflow_mul-count
overflow_mul-count c =
    let k = part-colour c.args.memory.now c.args.base c.args.format c.args.x c.args.y c.args.width (sym c.view_answer-answer.ensures ∙ c.if-answer-ne0.false) c.target_of-s.ensures in
    omega (arith, product_lt 32 3 {a = c.args.width} {b = c.target_of-s.result.bytes} (omega arith) (omega (arith, k.small.bytes)))

pub returns : goal.returns
returns c = part-given c.args.memory.now c.args.base c.args.format c.args.x c.args.y c.args.width (sym c.view_answer-answer.ensures ∙ c.if-answer-ne0.false) c.target_of-s.ensures c.byte_of.ensures
