-- A screen copy by its registers, done in its order: where it comes out as if each source were read before it, and where it spreads a column.
-- Assumes nothing.
use mathlib.Core.Path.{◌≡◌, refl, sym, ap, subst, subst⁻¹, ◌∙◌}
use mathlib.Core.Logic.{⊎_elim}
use mathlib.Core.Bool.{Bool, true, false}
use mathlib.Core.List.{List}
use Prim.Native.Nat.{ℕ, ◌+◌, ◌-◌, ◌/◌, ◌%◌, ◌^◌, ◌≤◌}
use native.Mathlib.Omega.{arith}
use lib.ListN.{length}
use Rattle.surface.specs.declared.Surface.{Surface}
use Rattle.surface.specs.Place.{read_px}
use Rattle.surface.specs.Pixels.{Px, Inside, NotBefore, origin}
use Rattle.surface.proofs.Lists.{In}
use Rattle.surface.proofs.Rects.{in-rect, rect-in, Past}
use Rattle.paint.specs.Tally.{tally}
use Rattle.paint.specs.Paint.{state, paint}
use Rattle.paint.proofs.Frame.{Bytes}
use Rattle.sweep.specs.Copy.{source_place, as_before, in_turn}
use Rattle.sweep.specs.Asked.{CanPaint, Orderly}
use Rattle.rect.proofs.Order.{source-inside, as-before}
use Rattle.rect.proofs.Plain.{PlainCopy}
use Rattle.rect.proofs.Smear.{smears}
use Rattle.registers.specs.declared.Regs.{Regs}
use Rattle.positions.specs.Position.{placed}
use Rattle.cuts.specs.declared.Cut.{Cut}
use Rattle.cuts.specs.Cut.{bit, copy_cut, covered_from, covered, copy_order, needed}
use Rattle.cuts.proofs.CutLaws.{copy-columns, copy-rows}
use Rattle.command.specs.Decode.{target, origins, ink_of, copy_task}
use Rattle.table.specs.Table.{pixels, copy_verdict}
use Rattle.table.proofs.Sources.{needed-first, needed-pixels}
use Rattle.table.proofs.Verdicts.{copy_passed, copy-can, copy-orderly}

-- on one axis: where the source is not before the target, the source of q is no place p that comes before q
never-read : (b : Bool) (at from x s p q : ℕ) → NotBefore b at from → s + at ≡ origin + x + from → origin ≤ s → x ≤ q → Past b p q → s - origin + (q - x) ≡ p → ⊥
never-read false at from x s p q on e first low past f = omega arith
never-read true at from x s p q on e first low past f = omega arith

module _ (r : Regs) (pattern m : List ℕ) (v : copy_verdict r (length m) ≡ 0) where
  abbrev c : Cut
  c = copy_cut r

  can : CanPaint (copy_task r) c.w c.h (length m)
  can = copy-can r (length m) v

  orderly : (copy_task r).copies ≡ true → Orderly (copy_task r) c.w c.h
  orderly _ = copy-orderly r (length m) v

  -- where a pixel is covered, no source position is negative
  first : (p : Px) → Inside c.x c.y c.w c.h p → (origin ≤ c.sx) × (origin ≤ c.sy)
  first p i = needed-first (origins r) (length m) c (omega arith) (omega arith) (copy_passed r (length m) v).source

  abbrev AsBefore : Type 0
  AsBefore = paint (target r) (in_turn (copy_task r) pattern (copy_order r)) (state m 0 0) ≡ paint (target r) (as_before (copy_task r) pattern m (covered c)) (state m 0 0)

  pub none-shared : (target r ≡ origins r → (p : Px) → In p (covered c) → In p (pixels (needed c)) → ⊥) → AsBefore
  unfolding copy_task ink_of
  none-shared none =
      as-before (copy_task r) c.w c.h (length m) can orderly (bit r.command 14) (bit r.command 15)
      (λ _ same p q ip iq ahead e.
      let f = first p ip in
      let j = subst (Inside (c.sx - origin) (c.sy - origin) c.w c.h) e (source-inside (copy_task r) c.w c.h q iq) in
      none (sym same) p (rect-in false false c.x c.y c.w c.h p ip)
      (subst⁻¹ (In p) (needed-pixels c f.0 f.1) (rect-in false false (c.sx - origin) (c.sy - origin) c.w c.h p j))) pattern m (tally 0 0)

  pub not_behind : NotBefore (bit r.command 15) (placed (r.dst_xy / 2 ^ 16)) (placed (r.src_xy / 2 ^ 16))
      → (placed (r.src_xy / 2 ^ 16) ≡ placed (r.dst_xy / 2 ^ 16) → NotBefore (bit r.command 14) (placed r.dst_xy) (placed r.src_xy)) → AsBefore
  unfolding copy_task ink_of source_place
  not_behind rows columns =
      as-before (copy_task r) c.w c.h (length m) can orderly (bit r.command 14) (bit r.command 15)
      (λ _ same p q ip iq ahead e.
      let f = first p ip in
      let ex : c.sx - origin + (q.x - c.x) ≡ p.x = ap (λ (s : Px). s.x) e in
      let ey : c.sy - origin + (q.y - c.y) ≡ p.y = ap (λ (s : Px). s.y) e in
      ⊎_elim
      (λ a. never-read (bit r.command 15) (placed (r.dst_xy / 2 ^ 16)) (placed (r.src_xy / 2 ^ 16)) c.y c.sy p.y q.y rows (copy-rows r) f.1 iq.top a ey)
      (λ a. let level : placed (r.src_xy / 2 ^ 16) ≡ placed (r.dst_xy / 2 ^ 16) = omega (arith, copy-rows r, f.1, iq.top, a.0) in
      never-read (bit r.command 14) (placed r.dst_xy) (placed r.src_xy) c.x c.sx p.x q.x (columns level) (copy-columns r) f.0 iq.left a.1 ex) ahead) pattern m (tally 0 0)

  pub spread : r.command / 2 ^ 24 % 2 ^ 8 ≡ 0xcc → bit r.command_extra 0 ≡ false → bit r.command_extra 1 ≡ false → origins r ≡ target r
      → bit r.command 14 ≡ false → placed r.src_xy + 1 ≡ placed r.dst_xy → placed (r.src_xy / 2 ^ 16) ≡ placed (r.dst_xy / 2 ^ 16) → Bytes m
      → (p : Px) → In p (covered c)
      → read_px (paint (target r) (in_turn (copy_task r) pattern (copy_order r)) (state m 0 0)).mem (target r) p.x p.y ≡ read_px m (target r) (c.x - 1) p.y
  unfolding copy_task ink_of
  spread operation source_key target_key same left column row bytes p i =
      let plain : PlainCopy (copy_task r) =
      record { copies = refl; operation = operation; source_key = source_key; target_key = target_key; format = ap (λ (s : Surface). s.bytes) same } in
      let ip = in-rect false false c.x c.y c.w c.h p i in
      let f = first p ip in
      let beside : c.sx - origin + 1 ≡ c.x = omega (arith, copy-columns r, f.0) in
      let level : c.sy - origin ≡ c.y = omega (arith, copy-rows r, f.1) in
      ap (λ (l : Bool). read_px (paint (target r) (in_turn (copy_task r) pattern (covered_from l (bit r.command 15) c)) (state m 0 0)).mem (target r) p.x p.y) left
      ∙ smears (copy_task r) c.w c.h pattern m (tally 0 0) plain can bytes same beside level (bit r.command 15) p ip
      ∙ ap (λ (k : ℕ). read_px m (target r) k p.y) (omega arith)
