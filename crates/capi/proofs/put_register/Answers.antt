-- `put_register` meets its contract: what the tests do not let through stays, and what they do is followed.
-- Assumes nothing.
use mathlib.Core.Path.{ap, ◌∙◌}
use native.Mathlib.Omega.{arith}
use Rattle.registers.specs.Kept.{kept}
use Rattle.basics.specs.Word.{with_word}
use Rattle.state.specs.Layout.{followed}
use Rattle.capi.specs.Calls.{plainly}
use Rattle.capi.proofs.Writes.{tested-refused, tested-taken}
use Rattle.capi.proofs.put_register.Goals as goal

pub returns-then-answer-ne0 : goal.returns-then-answer-ne0
returns-then-answer-ne0 c =
    let a = c.args in
    tested-refused a.s.now a.len _ (followed (with_word a.s.now a.offset (kept a.offset a.word)) a.len a.offset)
    (c.put_plain-answer.ensures ∙ ap (plainly a.s.now a.len a.offset) c.kept_bits-kept.ensures) c.if-answer-ne0.true

pub overflow_cast-len : goal.overflow_cast-len
overflow_cast-len c = omega (arith, (tested-taken c.args.s.now c.args.len _ (c.put_plain-answer.ensures ∙ ap (plainly c.args.s.now c.args.len c.args.offset) c.kept_bits-kept.ensures) c.if-answer-ne0.false).1)

pub follow-requires : goal.follow-requires
follow-requires c = (c.put_plain-answer.auto.s ∙ c.requires.0, omega (arith, (tested-taken c.args.s.now c.args.len _ (c.put_plain-answer.ensures ∙ ap (plainly c.args.s.now c.args.len c.args.offset) c.kept_bits-kept.ensures) c.if-answer-ne0.false).1))

pub returns : goal.returns
returns c =
    let t = tested-taken c.args.s.now c.args.len _ (c.put_plain-answer.ensures ∙ ap (plainly c.args.s.now c.args.len c.args.offset) c.kept_bits-kept.ensures) c.if-answer-ne0.false in
    let a = c.args in
    rw (c.follow.ensures, t.0) (t.2 (followed (with_word a.s.now a.offset (kept a.offset a.word)) a.len a.offset))
