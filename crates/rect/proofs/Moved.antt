-- A plain copy that is not late: whoever moves its bytes, and counts the pixels that change, has made the copy.
-- Assumes nothing.
use mathlib.Core.Path.{◌≡◌, sym, ap, ◌∙◌}
use mathlib.Core.Bool.{Bool, true, false}
use mathlib.Core.List.{List}
use Prim.Native.Nat.{ℕ, ◌*◌}
use native.Mathlib.Nat.{mul_comm}
use lib.ListN.{length}
use Rattle.surface.specs.Pixels.{rect}
use Rattle.paint.specs.Tally.{tally}
use Rattle.paint.specs.Paint.{state, paint, changing, summed}
use Rattle.paint.proofs.Frame.{Bytes}
use Rattle.sweep.specs.declared.Task.{Task}
use Rattle.sweep.specs.Copy.{in_turn}
use Rattle.sweep.specs.Asked.{CanPaint, Orderly}
use Rattle.runs.specs.Runs.{Given}
use Rattle.runs.proofs.Runs.{given-once}
use Rattle.rect.specs.Fast.{plainly, source_byte, late}
use Rattle.rect.proofs.Order.{early-onward, as-before}
use Rattle.rect.proofs.Plain.{plainly-plain, plain-moves, plain-counts, plain-changes}

pub moved : (t : Task) (pattern m : List ℕ) (w h : ℕ) (l u : Bool) → plainly t ≡ true → CanPaint t w h (length m) → Orderly t w h → late l u t w h ≡ false → Bytes m
    → {m₁ : List ℕ} {c : ℕ} → Given t.ink.target (source_byte t m) t.x t.y w h m m₁ × (c ≡ summed (changing t.ink.target m m₁) (rect false false t.x t.y w h))
    → state m₁ (w * h) c ≡ paint t.ink.target (in_turn t pattern (rect l u t.x t.y w h)) (state m 0 0)
moved t pattern m w h l u plainly can orderly early bytes made =
    let plain = plainly-plain t plainly in
    let left = given-once made.0 (plain-moves t pattern m w h plain can bytes) in
    let count = mul_comm w h ∙ sym (plain-counts t pattern m w h plain can bytes) in
    let changed =
    made.1 ∙ ap (λ (after : List ℕ). summed (changing t.ink.target m after) (rect false false t.x t.y w h)) left ∙ sym (plain-changes t pattern m w h plain can bytes) in
    (λ i. state (left i) (count i) (changed i))
    ∙ sym (as-before t w h (length m) can (λ _. orderly) l u (early-onward t w h (length m) can (λ _. orderly) l u early) pattern m (tally 0 0))
