-- `views::row_view` meets its contract: a refused view is empty, and a given one lies in memory.
-- Assumes nothing.
use native.Mathlib.Omega.{arith}
use mathlib.Core.Path.{refl, sym, ap, ◌∙◌}
use lib.ListN.{length}
use Rattle.surface.specs.declared.Surface.{Surface}
use Rattle.views.proofs.ViewLaws.{given-zero, view-refused, place-refused, part-fits, part-place, part-given}
use Rattle.surface.specs.Place.{byte_of}
use Rattle.views.proofs.row_view.Goals as goal

pub returns-then-view_answer-ne0 : goal.returns-then-view_answer-ne0
returns-then-view_answer-ne0 c = (
  sym (view-refused c.args.mem.now c.args.base c.args.format c.args.x c.args.y c.args.width (λ e. c.if-view_answer-ne0.true (c.view_answer.ensures ∙ e))),
  place-refused c.args.mem.ref_ptr (length c.args.mem.now) c.args.base c.args.format c.args.x c.args.y c.args.width (λ e. c.if-view_answer-ne0.true (c.view_answer.ensures ∙ e)),
)

pub byte_of-start-requires : goal.byte_of-start-requires
byte_of-start-requires c = let k = given-zero (length c.args.mem.now) c.args.base c.args.format c.args.x c.args.y c.args.width (sym c.view_answer.ensures ∙ c.if-view_answer-ne0.false) in rw c.target_of-s.ensures (k.last.colour, k.last.colour.some)

pub overflow_mul-end : goal.overflow_mul-end
overflow_mul-end c =
    let k = part-fits c.args.mem.now c.args.base c.args.format c.args.x c.args.y c.args.width (sym c.view_answer.ensures ∙ c.if-view_answer-ne0.false)
    (c.byte_of-start.ensures ∙ ap (λ (s : Surface). byte_of s c.args.x c.args.y 0) c.target_of-s.ensures) refl
    (ap (λ (s : Surface). s.bytes) c.target_of-s.ensures) in
    omega arith

pub overflow_add-end : goal.overflow_add-end
overflow_add-end c =
    let k = part-fits c.args.mem.now c.args.base c.args.format c.args.x c.args.y c.args.width (sym c.view_answer.ensures ∙ c.if-view_answer-ne0.false)
    (c.byte_of-start.ensures ∙ ap (λ (s : Surface). byte_of s c.args.x c.args.y 0) c.target_of-s.ensures) refl
    (ap (λ (s : Surface). s.bytes) c.target_of-s.ensures) in
    omega arith

pub slice_bounds-result-end-2 : goal.slice_bounds-result-end-2
slice_bounds-result-end-2 c =
    part-fits c.args.mem.now c.args.base c.args.format c.args.x c.args.y c.args.width (sym c.view_answer.ensures ∙ c.if-view_answer-ne0.false)
    (c.byte_of-start.ensures ∙ ap (λ (s : Surface). byte_of s c.args.x c.args.y 0) c.target_of-s.ensures) refl
    (ap (λ (s : Surface). s.bytes) c.target_of-s.ensures)

pub returns : goal.returns
returns c = (
  part-given c.args.mem.now c.args.base c.args.format c.args.x c.args.y c.args.width (sym c.view_answer.ensures ∙ c.if-view_answer-ne0.false)
      (c.byte_of-start.ensures ∙ ap (λ (s : Surface). byte_of s c.args.x c.args.y 0) c.target_of-s.ensures) refl
      (ap (λ (s : Surface). s.bytes) c.target_of-s.ensures),
  part-place c.args.mem.now c.args.base c.args.format c.args.x c.args.y c.args.width (sym c.view_answer.ensures ∙ c.if-view_answer-ne0.false)
      (c.byte_of-start.ensures ∙ ap (λ (s : Surface). byte_of s c.args.x c.args.y 0) c.target_of-s.ensures) refl
      (ap (λ (s : Surface). s.bytes) c.target_of-s.ensures) c.args.mem.ref_ptr,
)
