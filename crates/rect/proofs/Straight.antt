-- A straight copy: what a pixel is given, and that the rectangle can be copied so.
-- Assumes nothing.
use mathlib.Core.Path.{◌≡◌, refl, ap, ◌∙◌}
use mathlib.Core.Bool.{Bool, true, false, cond, not, ◌&&◌, ◌||◌, false≢true}
use mathlib.Core.List.{List}
use mathlib.Core.Option.{Option, some}
use Prim.Native.Nat.{ℕ, ◌+◌, ◌-◌, ◌%◌, ◌^◌}
use lib.Dec.{eqb}
use borrow.Author.Tests.{eqb-true, eqb-false}
use Rattle.colour.specs.Convert.{converted}
use Rattle.keys.specs.Key.{key_match}
use Rattle.raster.specs.Rop.{rop_bits}
use Rattle.raster.proofs.RopLaws.{leaves}
use Rattle.surface.specs.Place.{read_px}
use Rattle.surface.specs.Asked.{Colour}
use Rattle.surface.specs.Pixels.{Px}
use Rattle.surface.proofs.OnLaws.{and_left, and_right, pos-of-ne}
use Rattle.ink.specs.declared.Ink.{Ink}
use Rattle.paint.specs.declared.Source.{Source}
use Rattle.paint.specs.Mix.{source, colour_source, chosen, mixed, direct}
use Rattle.ink.specs.Pattern.{pattern_column, pattern_row, pattern_bit, pattern_value}
use Rattle.paint.proofs.MixLaws.{not-true, direct-low}
use Rattle.straight.specs.Straight.{straight_giving}
use Rattle.straight.specs.Asked.{CanCopy}
use Rattle.sweep.specs.declared.Task.{Task}
use Rattle.sweep.specs.Copy.{source_place, giving}
use Rattle.sweep.specs.Asked.{CanPaint}
use Rattle.rect.specs.Fast.{straight, straight_of}
use Rattle.rect.specs.Asked.{Flat}
use Rattle.sweep.proofs.TaskLaws.{can-number}
use Rattle.rect.proofs.Sources.{colour-source}

-- the source, or what stands there by AA
by_key : (ink : Ink) (p v old : ℕ) (k : Bool) → direct ink ≡ true → (k ≡ true → ink.rop2 ≡ 0xaa) → mixed ink p (source v k false) old ≡ some (cond k old v % 2 ^ 32)
unfolding mixed chosen
by_key ink p v old false d f = direct-low ink p v old false d
by_key ink p v old true d f =
    let key = not-true ink.dst_key (and_right (eqb ink.rop0 0xcc) (not ink.dst_key) d) in
    ap {B = Option ℕ} (λ (k : Bool). some (rop_bits 32 (cond (k && key_match ink.target.bytes ink.dst_min ink.dst_max old) ink.rop3 ink.rop2) p v old)) key
    ∙ ap {B = Option ℕ} (λ (c : ℕ). some (rop_bits 32 c p v old)) (f refl) ∙ ap {B = Option ℕ} some (leaves 32 p v old)

matched : (a b c : Bool) → (not a || c) ≡ true → (a && b) ≡ true → c ≡ true
matched true b c e f = e
matched false b c e f = absurd (false≢true f)

module _ (t : Task) (e : straight t ≡ true) where
  abbrev three : Bool
  three = (t.copies && not (eqb t.from.bytes 0)) && direct t.ink

  abbrev two : Bool
  two = t.copies && not (eqb t.from.bytes 0)

  first : two ≡ true
  first = and_left two (direct t.ink) (and_left three (not t.ink.src_key || eqb t.ink.rop2 0xaa) e)

  pub copied : t.copies ≡ true
  copied = and_left t.copies (not (eqb t.from.bytes 0)) first

  pub coloured : t.from.bytes ≡ 0 → ⊥
  coloured = eqb-false t.from.bytes 0 (not-true (eqb t.from.bytes 0) (and_right t.copies (not (eqb t.from.bytes 0)) first))

  pub straight-gives : (pattern now : List ℕ) (p : Px) → giving t pattern now now p ≡ straight_giving (straight_of t) now p
  unfolding giving source_place colour_source straight_giving straight_of
  straight-gives pattern now p =
      let v = read_px now t.from (t.sx + (p.x - t.x)) (t.sy + (p.y - t.y)) in
      let pv = pattern_value t.ink pattern p.x p.y in
      let old = read_px now t.ink.target p.x p.y in
      let match = key_match t.from.bytes t.ink.src_min t.ink.src_max v in
      ap (λ (s : Source). mixed t.ink pv s old) (colour-source t copied (pattern_bit pattern (pattern_column t.ink p.x) (pattern_row t.ink p.y)) now p coloured)
      ∙ by_key t.ink pv (converted t.from.bytes t.ink.target.bytes v) old (t.ink.src_key && match)
      (and_right two (direct t.ink) (and_left three (not t.ink.src_key || eqb t.ink.rop2 0xaa) e))
      (λ f. eqb-true t.ink.rop2 0xaa (matched t.ink.src_key match (eqb t.ink.rop2 0xaa) (and_right three (not t.ink.src_key || eqb t.ink.rop2 0xaa) e) f))

  pub can-straight : (w h len : ℕ) → Flat t → CanPaint t w h len → CanCopy (straight_of t) w h len
  unfolding straight_of
  can-straight w h len flat can = record {
    flat = flat.target;
    from_flat = flat.from;
    target = can.colour;
    from = source-colour;
    wide = can.wide;
    high = can.high;
    source_high = can.source_high;
    on_target = λ i j li lj. (can-number can i j li lj).0;
    on_source = λ i j li lj. record { colour = source-colour; on = (can-number can i j li lj).1 copied };
  }
    where
      source-colour : Colour t.from
      source-colour = record { small = can.small; some = pos-of-ne coloured }
