-- The frame of a write: only bytes of covered pixels change, and they are inside the clip.
-- Assumes nothing.
use mathlib.Core.Path.{◌≡◌, refl, ap, subst⁻¹, ◌∙◌}
use mathlib.Core.Bool.{Bool, true, false}
use mathlib.Core.List.Memᴰ
use mathlib.Core.List.{List, [], ◌∷◌, map}
use mathlib.Core.Option.{Option, none, some}
use Prim.Native.Nat.{ℕ, ◌+◌, ◌<◌}
use native.Mathlib.Omega.{arith}
use native.Mathlib.Decide.{ℕ_discrete}
use lib.ListN.{length, get_or}
use Rattle.surface.specs.declared.Surface.{Surface}
use Rattle.surface.specs.Pixels.{Px, Inside, origin}
use Rattle.surface.proofs.Lists.{In, by_cases}
use Rattle.surface.proofs.Rects.{in-rect}
use Rattle.spans.proofs.Spans.{IsByte, addresses-in}
use Rattle.paint.specs.declared.Clip.{Clip}
use Rattle.paint.specs.Clip.{in_clip}
use Rattle.paint.specs.Paint.{state, Touch, paint}
use Rattle.paint.proofs.ClipLaws.{clip-in}
use Rattle.paint.proofs.Frame.{Bytes, frame, paint-length, paint_bytes}
use Rattle.line.specs.Line.{points}
use Rattle.line.proofs.DrawLaws.{covered-in-clip}
use Rattle.registers.specs.declared.Regs.{Regs}
use Rattle.command.specs.Decode.{target, line_of}
use Rattle.cuts.specs.Cut.{number, clip_of, cut_at, fill_cut, copy_cut, covered_from, covered}
use Rattle.engine.specs.declared.Engine.{Engine}
use Rattle.engine.specs.Step.{Step, number_of, written}
use Rattle.engine.specs.Orders.{order, covered_by, touches_of}
use Rattle.engine.specs.Promises.{OnlyCovered}
use Rattle.acts.proofs.Cases.{by-number}
use Rattle.engine.proofs.Commands.{PaintingOf, write-written}
use Rattle.engine.proofs.Undone.{refused-undone}

-- ---- pixels touched are inside the clip
cut-in-clip : (c : Clip) (x y w h sx sy : ℕ) (p : Px)
    → Inside (cut_at c x y w h sx sy).x (cut_at c x y w h sx sy).y (cut_at c x y w h sx sy).w (cut_at c x y w h sx sy).h p
    → in_clip c (origin + p.x) (origin + p.y) ≡ true
unfolding cut_at
cut-in-clip c x y w h sx sy p i = clip-in c (origin + p.x) (origin + p.y) (omega arith)

pub fill-in-clip : (r : Regs) (p : Px) → In p (covered (fill_cut r)) → in_clip (clip_of r) (origin + p.x) (origin + p.y) ≡ true
unfolding fill_cut
fill-in-clip r p i = cut-in-clip (clip_of r) _ _ _ _ _ _ p (in-rect false false _ _ _ _ p i)

pub copy-in-clip : (l u : Bool) (r : Regs) (p : Px) → In p (covered_from l u (copy_cut r)) → in_clip (clip_of r) (origin + p.x) (origin + p.y) ≡ true
unfolding copy_cut
copy-in-clip l u r p i = cut-in-clip (clip_of r) _ _ _ _ _ _ p (in-rect l u _ _ _ _ p i)

pub covered-inside : (r : Regs) (p : Px) → In p (covered_by r) → in_clip (clip_of r) (origin + p.x) (origin + p.y) ≡ true
unfolding covered_by
covered-inside r p =
    by-number (λ (ps : List Px). In p ps → in_clip (clip_of r) (origin + p.x) (origin + p.y) ≡ true) (number r) _ _ _ _ _ _ _
    (λ _ i. absurd (Memᴰ.not-nil i)) (λ _. copy-in-clip _ _ r p) (λ _. fill-in-clip r p) (λ _. fill-in-clip r p) (λ _. fill-in-clip r p)
    (λ _ _. covered-in-clip (clip_of r) (points (line_of r)) p) (λ _ i. absurd (Memᴰ.not-nil i))

-- ---- one write: what is left
pub record Left (m : List ℕ) (k : Option Regs) (now : List ℕ) : Type 0 where
  pub long : length now ≡ length m
  pub same : (a : ℕ) → ((r : Regs) (p : Px) → k ≡ some r → In p (covered_by r) → IsByte (target r) p a → ⊥) → get_or now a 0 ≡ get_or m a 0

unchanged : (m : List ℕ) (k : Option Regs) (now : List ℕ) → now ≡ m → Left m k now
unchanged m k now e = record { long = ap length e; same = λ a f. ap (λ (n : List ℕ). get_or n a 0) e }

-- a frame that asks for a colour target only where a pixel is touched
touched-frame : (s : Surface) (ts : List Touch) (m : List ℕ) (a : ℕ) → ((p : Px) → In p (map (λ t. t.at) ts) → 0 < s.bytes)
    → ((p : Px) → In p (map (λ t. t.at) ts) → IsByte s p a → ⊥) → get_or (paint s ts (state m 0 0)).mem a 0 ≡ get_or m a 0
unfolding paint
touched-frame s [] m a colour none' = refl
touched-frame s (t ∷ ts) m a colour none' = frame s (colour t.at (Memᴰ.head refl)) (t ∷ ts) (state m 0 0) a none'

painting-left : (k : Option Regs) (ts : List Touch) (m : List ℕ) (s : Step) → PaintingOf k ts m s → Left m k s.memory
painting-left none ts m s p = unchanged m none s.memory p.0
painting-left (some r) ts m s p = record {
  long = ap length p.memory ∙ paint-length (target r) ts (state m 0 0);
  same = λ a f. ap (λ (n : List ℕ). get_or n a 0) p.memory
      ∙ touched-frame (target r) ts m a (λ q i. (p.touched q i).1) (λ q i. f r q refl (p.touched q i).0);
}

pub write-left : (e : Engine) (m : List ℕ) (o d : ℕ) → Left m (order e o d) (written e m o d).memory
write-left e m o d =
    by_cases (ℕ_discrete (number_of (written e m o d).answer) 0)
    (λ z. painting-left (order e o d) (touches_of e m o d) m (written e m o d) ((write-written e m o d).paints z))
    (λ n. unchanged m (order e o d) (written e m o d).memory (refused-undone e m o d n).1)

-- a memory of bytes stays one
bytes_of : (k : Option Regs) (ts : List Touch) (m : List ℕ) (s : Step) → PaintingOf k ts m s → Bytes m → Bytes s.memory
bytes_of none ts m s p b = subst⁻¹ Bytes p.0 b
bytes_of (some r) ts m s p b = subst⁻¹ Bytes p.memory (paint_bytes (target r) ts (state m 0 0) b)

pub write-bytes : (e : Engine) (m : List ℕ) (o d : ℕ) → Bytes m → Bytes (written e m o d).memory
write-bytes e m o d b =
    by_cases (ℕ_discrete (number_of (written e m o d).answer) 0)
    (λ z. bytes_of (order e o d) (touches_of e m o d) m (written e m o d) ((write-written e m o d).paints z) b)
    (λ n. subst⁻¹ Bytes (refused-undone e m o d n).1 b)

pub only-covered : OnlyCovered
only-covered e m o d =
    let w = write-left e m o d in
    (w.long, λ a none'. w.same a (λ r p h i b. none' r p h i (covered-inside r p i) (addresses-in (target r) (p ∷ []) p a (Memᴰ.head refl) b)))
