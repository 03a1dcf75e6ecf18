-- A copy in whose order no pixel is read after it was overwritten gives each pixel from the source as it was; a copy that is not late is one.
-- Assumes nothing.
use mathlib.Core.Path.{◌≡◌, refl, sym, ap, ap₂, subst, ◌∙◌}
use mathlib.Core.Logic.{⊎_elim}
use mathlib.Core.Bool.{Bool, true, false, cond, ◌&&◌, ◌||◌, false≢true}
use mathlib.Core.List.{List}
use Prim.Native.Nat.{ℕ, ◌+◌, ◌-◌, ◌<◌, ◌≤◌}
use native.Mathlib.Omega.{arith}
use lib.Dec.{eqb}
use lib.ListN.{get_or}
use borrow.Author.Tests.{lt-ltb, eq-eqb, eqb-true, eqb-false}
use Rattle.surface.specs.declared.Surface.{Surface}
use Rattle.surface.specs.Place.{byte_of, read_px, mono_bit, row_pixels}
use Rattle.surface.specs.Pixels.{Px, rect, Inside}
use Rattle.spans.specs.Span.{span_of, meet}
use Rattle.surface.proofs.OnLaws.{on-column, pos-of-ne}
use Rattle.surface.proofs.Same.{same-surface}
use Rattle.surface.proofs.Lists.{pairs-map}
use Rattle.surface.proofs.Pixels.{same_byte}
use Rattle.surface.proofs.Rects.{in-rect, rect-in, rect-pairs, rect-distinct, Past, Ahead}
use Rattle.spans.proofs.Spans.{IsByte, spans-meet}
use Rattle.sweep.specs.declared.Task.{Task}
use Rattle.paint.specs.declared.Source.{Source}
use Rattle.paint.specs.declared.Tally.{Tally}
use Rattle.paint.specs.Paint.{tallied, paint}
use Rattle.paint.specs.Mix.{mixed, bit_source, colour_source, fill_source}
use Rattle.ink.specs.Pattern.{pattern_column, pattern_row, pattern_bit, pattern_value}
use Rattle.sweep.specs.Copy.{source_place, source_by, giving, as_before, in_turn}
use Rattle.sweep.specs.Asked.{CanPaint, Orderly}
use Rattle.rect.specs.Fast.{behind, overlap, touching, late}
use Rattle.paint.proofs.Owners.{byte-of, one-owner, read-px, read-bit}
use Rattle.paint.proofs.Settle.{Local, in-place, any_order}
use Rattle.sweep.proofs.TaskLaws.{can-pixel}

-- ---- what a task reads: for a copy, the bytes of the source pixel
abbrev pub Reads : Task → Px → ℕ → Type 0
Reads t p a = (t.copies ≡ true) × IsByte t.from (source_place t p) a

source-same : (t : Task) (bit : ℕ) (p : Px) (m m' : List ℕ) → ((a : ℕ) → Reads t p a → get_or m a 0 ≡ get_or m' a 0) → source_by t bit m p ≡ source_by t bit m' p
unfolding source_by
source-same t bit p m m' h = by-test t.copies refl (eqb t.from.bytes 0) refl
  where
    q : Px
    q = source_place t p

    by-test : (c : Bool) → t.copies ≡ c → (z : Bool) → eqb t.from.bytes 0 ≡ z
        → ◌≡◌ {A = Source}
        (cond c (cond z (bit_source t.ink (mono_bit m t.from q.x q.y)) (colour_source t.ink t.from.bytes (read_px m t.from q.x q.y))) (fill_source t.ink bit))
        (cond c (cond z (bit_source t.ink (mono_bit m' t.from q.x q.y)) (colour_source t.ink t.from.bytes (read_px m' t.from q.x q.y))) (fill_source t.ink bit))
    by-test true c true z = ap (bit_source t.ink) (read-bit t.from (eqb-true t.from.bytes 0 z) q m m' (λ a b. h a (c, b)))
    by-test true c false z = ap (colour_source t.ink t.from.bytes) (read-px t.from (pos-of-ne (eqb-false t.from.bytes 0 z)) q m m' (λ a b. h a (c, b)))
    by-test false c z e = refl

pub giving-local : (t : Task) (pattern : List ℕ) → 0 < t.ink.target.bytes → Local t.ink.target (giving t pattern) (Reads t)
unfolding giving
giving-local t pattern colour = record {
  same = λ p m m' now now' h g.
      ap₂ (λ (s : Source) (old : ℕ). mixed t.ink (pattern_value t.ink pattern p.x p.y) s old)
      (source-same t (pattern_bit pattern (pattern_column t.ink p.x) (pattern_row t.ink p.y)) p m m' h)
      (read-px t.ink.target colour p now now' g);
}

pub source-inside : (t : Task) (w h : ℕ) (p : Px) → Inside t.x t.y w h p → Inside t.sx t.sy w h (source_place t p)
unfolding source_place
source-inside t w h p i = omega arith

-- ---- late, by two pixels of which the later one's source is the earlier one: one flag to each axis

behind-read : (down : Bool) (x s p q : ℕ) → x ≤ q → Past down p q → s + (q - x) ≡ p → behind down s x ≡ true
behind-read false x s p q h past e = lt-ltb s x (omega arith)
behind-read true x s p q h past e = lt-ltb x s (omega arith)

overlap-read : (x s n p q : ℕ) → x ≤ p → p < x + n → x ≤ q → q < x + n → s + (q - x) ≡ p → overlap s x n ≡ true
overlap-read x s n p q lp up lq uq e = ap₂ ◌&&◌ (lt-ltb s (x + n) (omega arith)) (lt-ltb x (s + n) (omega arith))

or_left : {a : Bool} (b : Bool) → a ≡ true → (a || b) ≡ true
or_left b e = ap (λ (c : Bool). c || b) e

or_right : (a : Bool) {b : Bool} → b ≡ true → (a || b) ≡ true
or_right true e = refl
or_right false e = e

pub touching-read : (t : Task) (w h : ℕ) (p q : Px) → t.from ≡ t.ink.target → Inside t.x t.y w h p → Inside t.x t.y w h q
    → source_place t q ≡ p → touching t w h ≡ true
unfolding source_place touching
touching-read t w h p q same ip iq e =
    ap₂ ◌&&◌ (same-surface t.from t.ink.target same)
    (ap₂ ◌&&◌ (overlap-read t.x t.sx w p.x q.x ip.left ip.right iq.left iq.right (ap (λ (r : Px). r.x) e))
    (overlap-read t.y t.sy h p.y q.y ip.top ip.bottom iq.top iq.bottom (ap (λ (r : Px). r.y) e)))

late-read : (l u : Bool) (t : Task) (w h : ℕ) (p q : Px) → t.from ≡ t.ink.target → Inside t.x t.y w h p → Inside t.x t.y w h q → Ahead l u p q
    → source_place t q ≡ p → late l u t w h ≡ true
unfolding source_place touching late
late-read l u t w h p q same ip iq ahead e =
    let ex : t.sx + (q.x - t.x) ≡ p.x = ap (λ (r : Px). r.x) e in
    let ey : t.sy + (q.y - t.y) ≡ p.y = ap (λ (r : Px). r.y) e in
    ap₂ ◌&&◌ (touching-read t w h p q same ip iq e)
    (⊎_elim (λ a. or_left _ (behind-read u t.y t.sy p.y q.y iq.top a ey))
    (λ a. or_right (behind u t.sy t.y)
    (ap₂ ◌&&◌ (eq-eqb t.sy t.y (omega (arith, iq.top, a.0))) (behind-read l t.x t.sx p.x q.x iq.left a.1 ex))) ahead)

-- ---- no step reads what an earlier one wrote
module _ (t : Task) (w h len : ℕ) (can : CanPaint t w h len) (orderly : t.copies ≡ true → Orderly t w h) where
  abbrev all : Bool → Bool → List Px
  all l u = rect l u t.x t.y w h

  target-column : (p : Px) → Inside t.x t.y w h p → p.x < row_pixels t.ink.target
  target-column p i = on-column t.ink.target len p.x p.y (can-pixel can p.x p.y i).0.on

  pub between : meet (span_of t.ink.target (all false false)) (span_of t.from (rect false false t.sx t.sy w h)) ≡ false
      → (p q : Px) → Inside t.x t.y w h p → Inside t.x t.y w h q → (a : ℕ) → IsByte t.from (source_place t q) a → IsByte t.ink.target p a → ⊥
  between apart p q ip iq a r b =
      false≢true (sym apart ∙ spans-meet t.ink.target t.from (all false false) (rect false false t.sx t.sy w h) p (source_place t q) a
      (rect-in false false t.x t.y w h p ip) (rect-in false false t.sx t.sy w h (source_place t q) (source-inside t w h q iq)) b r)

  -- a byte of q's source is one of p only on one surface, where p is that source
  pub shared : t.copies ≡ true → (p q : Px) → Inside t.x t.y w h p → Inside t.x t.y w h q → (a : ℕ) → IsByte t.from (source_place t q) a → IsByte t.ink.target p a
      → (t.from ≡ t.ink.target) × (source_place t q ≡ p)
  unfolding source_place
  shared copies p q ip iq a r b =
      let column = on-column t.from len (source_place t q).x (source_place t q).y ((can-pixel can q.x q.y iq).1.on copies) in
      ⊎_elim
      (λ same. let k = subst (λ s. ((source_place t q).x < row_pixels s) × IsByte s (source_place t q) a) same (column, r) in
      (same, one-owner t.ink.target can.colour.some (source_place t q) p a k.0 (target-column p ip) k.1 b))
      (λ apart. absurd (between apart p q ip iq a r b)) (orderly copies)

  -- in the order that the flags name, on one surface, no pixel's source is one that comes before it
  abbrev pub Onward : Bool → Bool → Type 0
  Onward l u = t.copies ≡ true → t.from ≡ t.ink.target
      → (p q : Px) → Inside t.x t.y w h p → Inside t.x t.y w h q → Ahead l u p q → source_place t q ≡ p → ⊥

  -- a copy that shares no pixel with its source is not late, and one that is not late goes so
  pub early-onward : (l u : Bool) → late l u t w h ≡ false → Onward l u
  early-onward l u early copies same p q ip iq ahead e = false≢true (sym early ∙ late-read l u t w h p q same ip iq ahead e)

  pub apart-early : (l u : Bool) → touching t w h ≡ false → late l u t w h ≡ false
  unfolding late
  apart-early l u e = rw e

  pub not-read : (l u : Bool) → Onward l u → t.copies ≡ true → (p q : Px) → Inside t.x t.y w h p → Inside t.x t.y w h q → Ahead l u p q
      → (a : ℕ) → IsByte t.from (source_place t q) a → IsByte t.ink.target p a → ⊥
  not-read l u onward copies p q ip iq ahead a r b =
      let s = shared copies p q ip iq a r b in
      onward copies s.0 p q ip iq ahead s.1

  -- of one pixel, a byte is none of the source's other bytes
  pub own-byte : t.copies ≡ true → (p : Px) → Inside t.x t.y w h p → (j k : ℕ) → j < t.ink.target.bytes → k < t.from.bytes → (j ≡ k → ⊥)
      → byte_of t.ink.target p.x p.y j ≡ byte_of t.from (source_place t p).x (source_place t p).y k → ⊥
  unfolding source_place
  own-byte copies p i j k hj hk n e =
      let q = source_place t p in
      let column = on-column t.from len q.x q.y ((can-pixel can p.x p.y i).1.on copies) in
      ⊎_elim
      (λ same. let c = subst (λ (s : Surface). (q.x < row_pixels s) × ((k < s.bytes) × (byte_of t.ink.target p.x p.y j ≡ byte_of s q.x q.y k))) same (column, (hk, e)) in
      n (same_byte t.ink.target p.x p.y j q.x q.y k (target-column p i) c.0 hj c.1.0 c.1.1).2)
      (λ apart. between apart p p i i (byte_of t.ink.target p.x p.y j)
      (subst (IsByte t.from q) (sym e) (byte-of t.from (omega arith) q k hk)) (byte-of t.ink.target can.colour.some p j hj)) (orderly copies)

  -- ---- then the copy comes out as if each source were read before it
  pub as-before : (l u : Bool) → Onward l u → (pattern m : List ℕ) (n : Tally)
      → paint t.ink.target (in_turn t pattern (all l u)) (tallied m n) ≡ paint t.ink.target (as_before t pattern m (all false false)) (tallied m n)
  as-before l u onward pattern m n =
      let loc = giving-local t pattern can.colour.some in
      in-place t.ink.target can.colour.some (giving t pattern) (Reads t) loc (all l u) m n
      (pairs-map (all l u)
      (λ p q i j ahead a r b. not-read l u onward r.0 p q (in-rect l u t.x t.y w h p i) (in-rect l u t.x t.y w h q j) ahead a r.1 b)
      (rect-pairs l u t.x t.y w h))
      ∙ any_order t.ink.target can.colour.some (giving t pattern) (Reads t) loc m (all l u) (all false false) n
      (rect-distinct l u t.x t.y w h) (rect-distinct false false t.x t.y w h)
      (λ p i. rect-in false false t.x t.y w h p (in-rect l u t.x t.y w h p i))
      (λ p i. rect-in l u t.x t.y w h p (in-rect false false t.x t.y w h p i))
      (λ p i. target-column p (in-rect l u t.x t.y w h p i))
