-- What changed: the touched pixels whose bytes are not the same before the write and after it; and a second pass, that none changed exactly if the memory is
-- what it was.
-- Assumes nothing.
use mathlib.Core.Path.{◌≡◌, refl, sym, ap, subst, ◌∙◌}
use mathlib.Core.List.Memᴰ
use mathlib.Core.List.{List, [], ◌∷◌}
use mathlib.Core.Option.{Option, none, some}
use Prim.Native.Nat.{ℕ, ◌<◌}
use native.Mathlib.Nat.{zero-add}
use Rattle.surface.specs.declared.Surface.{Surface}
use Rattle.surface.specs.Pixels.{Px}
use Rattle.surface.proofs.Lists.{In}
use Rattle.surface.proofs.Rects.{Distinct}
use Rattle.paint.specs.Tally.{tally}
use Rattle.paint.specs.Paint.{state, Touch, paint, changing, summed}
use Rattle.paint.proofs.Frame.{pixels, Bytes}
use Rattle.paint.proofs.Changes.{Columns, changed-between}
use Rattle.paint.proofs.Again.{same-unchanged, unchanged-same}
use Rattle.registers.specs.declared.Regs.{Regs}
use Rattle.command.specs.Decode.{target}
use Rattle.engine.specs.declared.Engine.{Engine}
use Rattle.engine.specs.Step.{number_of, changed_of, written}
use Rattle.engine.specs.Orders.{order, touches_of}
use Rattle.engine.specs.Promises.{ChangedSeen, SecondPass}
use Rattle.engine.proofs.Commands.{PaintingOf, write-written}
use Rattle.engine.proofs.Once.{touches-once, write-columns, write-colour}

-- ---- painting pixels of which none is touched twice, on a target with bytes if any is touched
module _ (s : Surface) (m : List ℕ) where
  between : (ts : List Touch) → Distinct (pixels ts) → Columns s (pixels ts) → ((p : Px) → In p (pixels ts) → 0 < s.bytes)
      → (paint s ts (state m 0 0)).tally.changed ≡ summed (changing s m (paint s ts (state m 0 0)).mem) (pixels ts)
  unfolding paint summed
  between [] once columns colour = refl
  between (t ∷ ts) once columns colour = changed-between s (colour t.at (Memᴰ.head refl)) (t ∷ ts) m (tally 0 0) once columns ∙ zero-add _

  again : (ts : List Touch) → Distinct (pixels ts) → Columns s (pixels ts) → ((p : Px) → In p (pixels ts) → 0 < s.bytes) → Bytes m
      → ((paint s ts (state m 0 0)).tally.changed ≡ 0 → (paint s ts (state m 0 0)).mem ≡ m) × ((paint s ts (state m 0 0)).mem ≡ m → (paint s ts (state m 0 0)).tally.changed ≡ 0)
  unfolding paint
  again [] once columns colour bytes = (λ _. refl, λ _. refl)
  again (t ∷ ts) once columns colour bytes =
      let some_byte = colour t.at (Memᴰ.head refl) in
      (unchanged-same s some_byte (t ∷ ts) m (tally 0 0) once columns bytes, same-unchanged s some_byte (t ∷ ts) m (tally 0 0) once columns)

-- ---- the promises
pub changed-seen : ChangedSeen
changed-seen e m o d r h z =
    let ts = touches_of e m o d in
    let painting = subst (λ (k : Option Regs). PaintingOf k ts m (written e m o d)) h ((write-written e m o d).paints z) in
    painting.changed ∙ between (target r) m ts (touches-once e m o d) (write-columns e m o d r h z) (write-colour e m o d r h z)
    ∙ ap (λ (left : List ℕ). summed (changing (target r) m left) (pixels ts)) (sym painting.memory)

module _ (e : Engine) (m : List ℕ) (o d : ℕ) (bytes : Bytes m) (z : number_of (written e m o d).answer ≡ 0) where
  by_order : (k : Option Regs) → order e o d ≡ k → PaintingOf k (touches_of e m o d) m (written e m o d)
      → (changed_of (written e m o d).answer ≡ 0 → (written e m o d).memory ≡ m) × ((written e m o d).memory ≡ m → changed_of (written e m o d).answer ≡ 0)
  by_order none h p = (λ _. p.0, λ _. p.2)
  by_order (some r) h p =
      let both = again (target r) m (touches_of e m o d) (touches-once e m o d) (write-columns e m o d r h z) (write-colour e m o d r h z) bytes in
      (λ c. p.memory ∙ both.0 (sym p.changed ∙ c), λ same. p.changed ∙ both.1 (sym p.memory ∙ same))

pub second-pass : SecondPass
second-pass e m o d bytes z = by_order e m o d bytes z (order e o d) refl ((write-written e m o d).paints z)
