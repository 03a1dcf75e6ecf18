-- A second pass: where no pixel is touched twice, none is told as changed exactly if the memory is what it was.
-- Assumes nothing.
use mathlib.Core.Path.{◌≡◌, refl, sym, ap, ◌∙◌}
use mathlib.Core.Logic.{⊎_elim}
use mathlib.Core.Bool.{Bool, true, false}
use mathlib.Core.List.Memᴰ
use mathlib.Core.List.{List, [], ◌∷◌}
use Prim.Native.Nat.{ℕ, ◌<◌}
use native.Mathlib.Omega.{arith}
use lib.ListN.{get_or}
use lib.Seq.{ext_get_or}
use borrow.Author.Tests.{eqb-true, not-false}
use Rattle.surface.specs.declared.Surface.{Surface}
use Rattle.surface.specs.Place.{read_px, one, differs}
use Rattle.surface.specs.Pixels.{Px}
use Rattle.surface.proofs.Lists.{In}
use Rattle.surface.proofs.Pixels.{same_read}
use Rattle.surface.proofs.Rects.{Distinct}
use Rattle.paint.specs.declared.Tally.{Tally}
use Rattle.paint.specs.Paint.{State, tallied, Touch, paint, changing, summed}
use Rattle.paint.proofs.Owners.{of-byte, owner}
use Rattle.paint.proofs.Frame.{pixels, frame, paint-length, paint_bytes, Bytes}
use Rattle.paint.proofs.Changes.{Columns, summed-none, changed-between, same_differs}

summed-zero : (f : Px → ℕ) (ps : List Px) → summed f ps ≡ 0 → (p : Px) → In p ps → f p ≡ 0
unfolding summed
summed-zero f [] e p i = absurd (Memᴰ.not-nil i)
summed-zero f (q ∷ ps) e p i = ⊎_elim (λ w. ap f w ∙ omega arith) (λ j. summed-zero f ps (omega arith) p j) (Memᴰ.cases_cons i)

one-zero : (b : Bool) → one b ≡ 0 → b ≡ false
one-zero true e = absurd (omega arith)
one-zero false e = refl

module _ (s : Surface) (colour : 0 < s.bytes) (ts : List Touch) (m : List ℕ) (n : Tally) (d : Distinct (pixels ts)) (c : Columns s (pixels ts)) where
  abbrev after : State
  after = paint s ts (tallied m n)

  pub same-unchanged : after.mem ≡ m → after.tally.changed ≡ n.changed
  same-unchanged e =
      let z : summed (changing s m after.mem) (pixels ts) ≡ 0 =
      ap (λ (m' : List ℕ). summed (changing s m m') (pixels ts)) e ∙ summed-none (changing s m m) (pixels ts) (same_differs s m) in
      omega (arith, changed-between s colour ts m n d c)

  pub unchanged-same : Bytes m → after.tally.changed ≡ n.changed → after.mem ≡ m
  unchanged-same bytes e =
      let z : summed (changing s m after.mem) (pixels ts) ≡ 0 = omega (arith, changed-between s colour ts m n d c) in
      let alike : (p : Px) → In p (pixels ts) → read_px m s p.x p.y ≡ read_px after.mem s p.x p.y =
      (λ p i. eqb-true _ _ (not-false _ (one-zero (differs s p.x p.y m after.mem) (summed-zero (changing s m after.mem) (pixels ts) z p i)))) in
      ext_get_or 0 after.mem m (paint-length s ts (tallied m n)) (λ a l. ⊎_elim
      (λ r. let k = of-byte s colour r.0 a r.2 in
      ap (λ (i : ℕ). get_or after.mem i 0) k.1
      ∙ sym (same_read s r.0.x r.0.y m after.mem bytes (paint_bytes s ts (tallied m n) bytes) (alike r.0 r.1) r.2.k k.0)
      ∙ ap (λ (i : ℕ). get_or m i 0) (sym k.1))
      (λ f. frame s colour ts (tallied m n) a f) (owner s (pixels ts) a))
