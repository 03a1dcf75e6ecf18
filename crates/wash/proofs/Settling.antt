-- A fill by masks, painted pixel by pixel, gives each byte what its masks make of it, counts what the masks count, and changes the pixels that are then others.
-- Assumes nothing.
use mathlib.Core.Path.{◌≡◌, refl, sym, ap, ◌∙◌}
use mathlib.Core.Bool.{false}
use mathlib.Core.List.{List}
use Prim.Native.Nat.{ℕ, zero, suc, ◌+◌, ◌-◌, ◌*◌, ◌/◌, ◌%◌, ◌<◌, ◌≤◌}
use native.Mathlib.Nat.{zero-add, add-mul, mul_assoc, div-add-mod'}
use native.Mathlib.Omega.{arith}
use lib.Arith.{digits_mod, digits_lt}
use lib.ListN.{length, get_or}
use Rattle.surface.specs.declared.Surface.{Surface}
use Rattle.surface.specs.Place.{byte_at, byte_of, read_px, write_px}
use Rattle.surface.specs.Asked.{OnColour}
use Rattle.surface.specs.Pixels.{Px, px, rect, Inside}
use Rattle.surface.proofs.OnLaws.{colour-byte, on-column}
use Rattle.surface.proofs.Pixels.{same_byte}
use Rattle.surface.proofs.Rects.{in-rect, rect-in, rect-distinct}
use Rattle.paint.specs.Tally.{tally}
use Rattle.paint.specs.Paint.{State, state, paint, changing, summed}
use Rattle.paint.proofs.Frame.{Bytes}
use Rattle.paint.proofs.Owners.{byte-of, of-byte, read-px}
use Rattle.paint.proofs.Settle.{Settled, settled, counted}
use Rattle.paint.proofs.Changes.{summed_same}
use Rattle.runs.specs.Runs.{Given}
use Rattle.runs.specs.Asked.{RectOn}
use Rattle.runs.proofs.Runs.{given-once}
use Rattle.tint.specs.Masking.{masked, by_mask, mask_in, tinting, down_tint, down_tints}
use Rattle.tint.specs.Asked.{Sound}
use Rattle.tint.proofs.RowLaws.{step}
use Rattle.blocks.specs.Blocks.{Put}
use Rattle.blocks.proofs.Pixels.{put-given}
use Rattle.wash.specs.Wash.{washed, in_rows}
use Rattle.wash.specs.Count.{countings}
use Rattle.wash.proofs.Blend.{masked-byte}
use Rattle.wash.proofs.Counting.{adds_at, rect-summed}

-- a mask counts the pixel that it gives something
counts-one : (keep flip adds old : ℕ) → adds ≤ 1 → counted (by_mask keep flip adds old) ≡ adds
unfolding by_mask
counts-one keep flip zero old h = refl
counts-one keep flip (suc zero) old h = refl
counts-one keep flip (suc (suc adds)) old h = absurd (omega arith)

-- byte k of pixel number d of a row, in periods of eight pixels
in-period : (b d k : ℕ) → k < b → (d * b + k) % (8 * b) ≡ d % 8 * b + k
in-period b d k l =
    let whole : d * b ≡ d / 8 * (8 * b) + d % 8 * b = ap (λ (n : ℕ). n * b) (sym (div-add-mod' d 8)) ∙ add-mul (d / 8 * 8) (d % 8) b ∙ ap (λ (n : ℕ). n + d % 8 * b) (mul_assoc (d / 8) 8 b) in
    let e : d * b + k ≡ d / 8 * (8 * b) + (d % 8 * b + k) = omega (arith, whole) in
    rw e (digits_mod (d / 8) (digits_lt {q = d % 8} {m = 8} {r = k} {c = b} (omega arith) l))

module _ (s : Surface) (keep flip adds : List ℕ) (x y w h : ℕ) (m : List ℕ) (on : RectOn s (length m) x y w h) (bm : Bytes m) (bk : Bytes keep) (bf : Bytes flip)
    (sound : (j : ℕ) → j < h → (i : ℕ) → i < 8 → Sound s.bytes (mask_in s.bytes keep (j % 8 * 8 + i)) (mask_in s.bytes flip (j % 8 * 8 + i)) (get_or adds (j % 8 * 8 + i) 0)) where
  abbrev b : ℕ
  b = s.bytes

  abbrev colour : 0 < b
  colour = on.colour.some

  abbrev ps : List Px
  ps = rect false false x y w h

  abbrev whole : State
  whole = paint s (down_tints s keep flip adds x y ps) (state m 0 0)

  -- the number of a pixel's mask
  abbrev number : Px → ℕ
  number p = (p.y - y) % 8 * 8 + (p.x - x) % 8

  -- what its bytes become
  abbrev byte : Px → ℕ → ℕ
  byte p k = masked (get_or m (byte_of s p.x p.y k) 0) (get_or keep (number p * b + k) 0) (get_or flip (number p * b + k) 0)

  pixel-on : (p : Px) → Inside x y w h p → OnColour s (length m) p.x p.y
  pixel-on p i = on.on p.x p.y i.left i.right i.top i.bottom

  its-sound : (p : Px) → Inside x y w h p → Sound b (mask_in b keep (number p)) (mask_in b flip (number p)) (get_or adds (number p) 0)
  its-sound p i = sound (p.y - y) (omega arith) ((p.x - x) % 8) (omega arith)

  here : Settled s (λ was now p. down_tint s keep flip adds x y now p) m ps (state m 0 0) whole
  unfolding tinting
  here =
      settled s colour (λ was now p. down_tint s keep flip adds x y now p) (λ p a. ⊥)
      (record { same = λ p a c now now' f g. ap (by_mask (mask_in b keep (number p)) (mask_in b flip (number p)) (get_or adds (number p) 0)) (read-px s colour p now now' g) })
      m ps (tally 0 0) (rect-distinct false false x y w h)
      (λ p i. on-column s (length m) p.x p.y (pixel-on p (in-rect false false x y w h p i)).on)

  given : Given s byte x y w h m whole.mem
  unfolding tinting read_px write_px
  given = record {
    inside = λ p i k l.
        let column = on-column s (length m) p.x p.y (pixel-on p i).on in
        here.given p (rect-in false false x y w h p i) (byte_of s p.x p.y k) (byte-of s colour p k l)
        ∙ ap (λ (l : List ℕ). get_or l (byte_of s p.x p.y k) 0)
        (step s p.x p.y (mask_in b keep (number p)) (mask_in b flip (number p)) (get_or adds (number p) 0) (state m 0 0) on.colour.small.bytes bm (its-sound p i)).0
        ∙ masked-byte (byte_of s p.x p.y) (λ j. number p * b + j) m keep flip bm bk bf 0 b m k (omega arith) (omega arith)
        (λ a c f g e. (same_byte s p.x p.y a p.x p.y c column column (omega arith) (omega arith) e).2)
        (λ c f. (colour-byte (pixel-on p i) c (omega arith)).inside);
    others = λ a f. here.others a (λ p i o. let k = of-byte s colour p a o in f p (in-rect false false x y w h p i) o.k k.0 k.1);
    long = here.long;
  }

  counts : whole.tally.count ≡ countings adds w 0 h
  unfolding tinting
  counts =
      here.counts ∙ zero-add _
      ∙ summed_same (λ p. counted (down_tint s keep flip adds x y m p)) (adds_at adds x y) ps
      (λ p i. counts-one (mask_in b keep (number p)) (mask_in b flip (number p)) (get_or adds (number p) 0) (read_px m s p.x p.y) (its-sound p (in-rect false false x y w h p i)).few)
      ∙ rect-summed adds x y w h

  -- ---- the same, from bytes
  value-number : (p : Px) (k : ℕ) → Inside x y w h p → k < b → in_rows (8 * b) (8 * b) (x * b) y (px (p.x * b + k) p.y) ≡ number p * b + k
  value-number p k i l =
      let d = p.x - x in
      let e : p.x ≡ x + d = omega arith in
      let f : p.x * b + k - x * b ≡ d * b + k = omega (arith, ap (λ (n : ℕ). n * b) e, add-mul x d b) in
      rw (f, in-period b d k l) (omega (arith, add-mul ((p.y - y) % 8 * 8) (d % 8) b, mul_assoc ((p.y - y) % 8) 8 b))

  pub washed-whole : {m' : List ℕ} {r c : ℕ} → Put s (washed s keep flip (in_rows (8 * b) (8 * b) (x * b) y) m) (x * b) y (w * b) h m m' → r ≡ countings adds w 0 h
      → c ≡ summed (changing s m m') ps → state m' r c ≡ whole
  unfolding byte_of
  washed-whole {m'} {r} {c} put count sum =
      let bytes : Given s byte x y w h m m' =
      put-given s colour byte (washed s keep flip (in_rows (8 * b) (8 * b) (x * b) y) m) x y w h m m'
      (λ p k i l. ap (λ (a : ℕ). masked (get_or m (byte_at s (p.x * b + k) p.y) 0) (get_or keep a 0) (get_or flip a 0)) (value-number p k i l)) put in
      let left : m' ≡ whole.mem = given-once bytes given in
      let written : r ≡ whole.tally.count = count ∙ sym counts in
      let changed : c ≡ whole.tally.changed = sum ∙ ap (λ (l : List ℕ). summed (changing s m l) ps) left ∙ sym (here.changes ∙ zero-add _) in
      λ i. state (left i) (written i) (changed i)
