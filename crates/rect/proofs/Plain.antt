-- The plain copy: raster operation CC, the same format, no keys. It moves the bytes of a rectangle exactly, counts every pixel, and those changed that are then not what they were.
-- Assumes nothing.
use mathlib.Core.Path.{◌≡◌, refl, sym, ap, ap₂, subst, ◌∙◌}
use mathlib.Core.Bool.{Bool, true, false, not, ◌&&◌}
use mathlib.Core.List.{List, [], ◌∷◌}
use mathlib.Core.Option.{Option, some}
use Prim.Native.Nat.{ℕ, zero, suc, ◌+◌, ◌*◌, ◌/◌, ◌%◌, ◌^◌, ◌<◌, ◌≤◌}
use native.Mathlib.Nat.{pow-le-pow_right, lt_of_lt_of_le, zero-add}
use native.Mathlib.Omega.{arith}
use native.Mathlib.Decide.{ℕ_discrete}
use borrow.Author.Tests.{eqb-true}
use lib.Dec.{eqb}
use lib.ListN.{length, get_or, set}
use lib.Seq.{get_or-set_same, lt-length-set}
use Rattle.colour.proofs.ConvertLaws.{converted-same}
use Rattle.colour.specs.Convert.{converted}
use Rattle.keys.specs.Key.{key_match}
use Rattle.surface.specs.declared.Surface.{Surface}
use Rattle.surface.specs.Place.{byte_of, read_bytes, write_bytes, read_px, write_px}
use Rattle.surface.specs.Asked.{OnColour}
use Rattle.surface.specs.Pixels.{Px, rect}
use Rattle.surface.proofs.Bytes.{written-other}
use Rattle.surface.proofs.OnLaws.{and_left, and_right, colour-byte, on-column}
use Rattle.surface.proofs.Pixels.{same_byte, read_small}
use Rattle.surface.proofs.Lists.{by_cases}
use Rattle.surface.proofs.Rects.{in-rect, rect-in, rect-distinct, rect-length}
use Rattle.sweep.specs.declared.Task.{Task}
use Rattle.paint.specs.Tally.{tally}
use Rattle.paint.specs.Paint.{State, state, dab, paint, changing, summed}
use Rattle.paint.specs.declared.Source.{Source}
use Rattle.paint.specs.Mix.{source, mixed, colour_source, direct}
use Rattle.ink.specs.Pattern.{pattern_column, pattern_row, pattern_bit, pattern_value}
use Rattle.sweep.specs.Copy.{source_place, source_by, giving, as_before}
use Rattle.sweep.specs.Asked.{CanPaint}
use Rattle.rect.specs.Fast.{source_byte, plainly}
use Rattle.runs.specs.Runs.{Given}
use Rattle.paint.proofs.Owners.{byte-of, of-byte}
use Rattle.paint.proofs.Settle.{Settled, settled, counted}
use Rattle.paint.proofs.Frame.{Bytes}
use Rattle.sweep.proofs.TaskLaws.{can-pixel}
use Rattle.paint.proofs.MixLaws.{not-true, direct-mixed}
use Rattle.rect.proofs.Sources.{colour-source}
use Rattle.rect.proofs.Order.{Reads, giving-local}

pub record PlainCopy (t : Task) : Type 0 where
  pub copies : t.copies ≡ true
  pub operation : t.ink.rop0 ≡ 0xcc
  pub source_key : t.ink.src_key ≡ false
  pub target_key : t.ink.dst_key ≡ false
  pub format : t.from.bytes ≡ t.ink.target.bytes

pub plainly-plain : (t : Task) → plainly t ≡ true → PlainCopy t
plainly-plain t e =
    let ink = t.ink in
    let c = t.copies in
    let r = eqb ink.rop0 0xcc in
    let s = not ink.src_key in
    let d = not ink.dst_key in
    let f = eqb t.from.bytes ink.target.bytes in
    let four = and_left (((c && r) && s) && d) f e in
    let three = and_left ((c && r) && s) d four in
    let two = and_left (c && r) s three in
    record {
      copies = and_left c r two;
      operation = eqb-true ink.rop0 0xcc (and_right c r two);
      source_key = not-true ink.src_key (and_right (c && r) s three);
      target_key = not-true ink.dst_key (and_right ((c && r) && s) d four);
      format = eqb-true t.from.bytes ink.target.bytes (and_right (((c && r) && s) && d) f e);
    }

-- ---- a pixel is given its source pixel
module _ (t : Task) (plain : PlainCopy t) where
  plain-source : (bit v : ℕ) (m : List ℕ) (p : Px) → 0 < t.from.bytes → v ≡ read_px m t.from (source_place t p).x (source_place t p).y
      → source_by t bit m p ≡ source v false false
  unfolding colour_source
  plain-source bit v m p colour e =
      colour-source t plain.copies bit m p (λ z. omega arith)
      ∙ ap (λ (u : ℕ). colour_source t.ink t.from.bytes u) (sym e)
      ∙ ap (λ (k : Bool). source (converted t.from.bytes t.ink.target.bytes v) (k && key_match t.from.bytes t.ink.src_min t.ink.src_max v) false) plain.source_key
      ∙ ap (λ (b : ℕ). source (converted t.from.bytes b v) false false) (sym plain.format)
      ∙ ap (λ (u : ℕ). source u false false) (converted-same t.from.bytes v)

  plain-direct : direct t.ink ≡ true
  plain-direct = ap₂ (λ (c : ℕ) (k : Bool). eqb c 0xcc && not k) plain.operation plain.target_key

pub plain-gives : (t : Task) (pattern m now : List ℕ) (p : Px) → PlainCopy t → 0 < t.ink.target.bytes → t.ink.target.bytes < 5 → Bytes m
    → giving t pattern m now p ≡ some (read_px m t.from (source_place t p).x (source_place t p).y)
unfolding giving
plain-gives t pattern m now p plain some_byte four bytes =
    let v = read_px m t.from (source_place t p).x (source_place t p).y in
    let small : v < 256 ^ t.from.bytes = read_small m t.from (source_place t p).x (source_place t p).y bytes in
    let word : v < 2 ^ 32 = lt_of_lt_of_le small (pow-le-pow_right {n = 256} (omega arith) {i = t.from.bytes} {j = 4} (omega (arith, plain.format))) in
    let pv = pattern_value t.ink pattern p.x p.y in
    let old = read_px now t.ink.target p.x p.y in
    ap (λ (s : Source). mixed t.ink pv s old)
    (plain-source t plain (pattern_bit pattern (pattern_column t.ink p.x) (pattern_row t.ink p.y)) v m p (omega (arith, plain.format)) refl)
    ∙ direct-mixed t.ink pv v old false (plain-direct t plain) word

-- ---- bytes read at one place and written at another
module _ (at to : ℕ → ℕ) (m : List ℕ) (bytes : Bytes m) where
  copied_byte : (k n : ℕ) (m' : List ℕ) (j : ℕ) → k ≤ j → j < k + n → ((a b : ℕ) → a < k + n → b < k + n → to a ≡ to b → a ≡ b)
      → ((b : ℕ) → b < k + n → to b < length m') → get_or (write_bytes to k n (read_bytes m at k n) m') (to j) 0 ≡ get_or m (at j) 0
  unfolding read_bytes write_bytes
  copied_byte k zero m' j l u differ inside = absurd (omega arith)
  copied_byte k (suc n) m' j l u differ inside =
      let b = get_or m (at k) 0 in
      let r = read_bytes m at (suc k) n in
      let low : (b + 256 * r) % 256 ≡ b = omega (arith, bytes (at k)) in
      let high : (b + 256 * r) / 256 ≡ r = omega (arith, bytes (at k)) in
      let m₁ = set m' (to k) ((b + 256 * r) % 256) in
      by_cases (ℕ_discrete k j)
      (λ e. subst (λ (i : ℕ). get_or (write_bytes to (suc k) n ((b + 256 * r) / 256) m₁) (to i) 0 ≡ get_or m (at i) 0) e
      (written-other to (suc k) n ((b + 256 * r) / 256) m₁ (to k) (λ i f g w. let q : k ≡ i = differ k i (omega arith) (omega arith) w in omega arith)
      ∙ get_or-set_same m' (to k) ((b + 256 * r) % 256) 0 (inside k (omega arith)) ∙ low))
      (λ e. ap (λ (v : ℕ). get_or (write_bytes to (suc k) n v m₁) (to j) 0) high
      ∙ copied_byte (suc k) n m₁ j (omega arith) (omega arith) (λ a c f g. differ a c (omega arith) (omega arith))
      (λ i f. lt-length-set m' (to k) ((b + 256 * r) % 256) (inside i (omega arith))))

copied-pixel : (from to : Surface) (m : List ℕ) (p q : Px) (k : ℕ) → from.bytes ≡ to.bytes → OnColour to (length m) p.x p.y → Bytes m → k < to.bytes
    → get_or (write_px m to p.x p.y (read_px m from q.x q.y)) (byte_of to p.x p.y k) 0 ≡ get_or m (byte_of from q.x q.y k) 0
unfolding read_px write_px
copied-pixel from to m p q k e on bytes l =
    let column = on-column to (length m) p.x p.y on.on in
    ap (λ (n : ℕ). get_or (write_bytes (byte_of to p.x p.y) 0 to.bytes (read_bytes m (byte_of from q.x q.y) 0 n) m) (byte_of to p.x p.y k) 0) e
    ∙ copied_byte (byte_of from q.x q.y) (byte_of to p.x p.y) m bytes 0 to.bytes m k (omega arith) (omega arith)
    (λ a b f g w. (same_byte to p.x p.y a p.x p.y b column column (omega arith) (omega arith) w).2)
    (λ b f. (colour-byte on b (omega arith)).inside)

-- ---- a rectangle
summed-all : (f : Px → Option ℕ) (ps : List Px) → ((p : Px) → counted (f p) ≡ 1) → summed (λ p. counted (f p)) ps ≡ length ps
unfolding summed
summed-all f [] h = refl
summed-all f (p ∷ ps) h = ap₂ ◌+◌ (h p) (summed-all f ps h) ∙ omega arith

module _ (t : Task) (pattern m : List ℕ) (w h : ℕ) (plain : PlainCopy t) (can : CanPaint t w h (length m)) (bytes : Bytes m) where
  abbrev whole : State
  whole = paint t.ink.target (as_before t pattern m (rect false false t.x t.y w h)) (state m 0 0)

  gives : (p : Px) → giving t pattern m m p ≡ some (read_px m t.from (source_place t p).x (source_place t p).y)
  gives p = plain-gives t pattern m m p plain can.colour.some can.colour.small.bytes bytes

  here : Settled t.ink.target (giving t pattern) m (rect false false t.x t.y w h) (state m 0 0) whole
  here =
      settled t.ink.target can.colour.some (giving t pattern) (Reads t) (giving-local t pattern can.colour.some) m (rect false false t.x t.y w h) (tally 0 0)
      (rect-distinct false false t.x t.y w h)
      (λ p i. on-column t.ink.target (length m) p.x p.y (can-pixel can p.x p.y (in-rect false false t.x t.y w h p i)).0.on)

  pub plain-moves : Given t.ink.target (source_byte t m) t.x t.y w h m whole.mem
  unfolding dab
  plain-moves = record {
    inside = λ p i k l.
        here.given p (rect-in false false t.x t.y w h p i) (byte_of t.ink.target p.x p.y k) (byte-of t.ink.target can.colour.some p k l)
        ∙ ap (λ (o : Option ℕ). get_or (dab t.ink.target p o (state m 0 0)).mem (byte_of t.ink.target p.x p.y k) 0) (gives p)
        ∙ copied-pixel t.from t.ink.target m p (source_place t p) k plain.format (can-pixel can p.x p.y i).0 bytes l;
    others = λ a f. here.others a (λ p i b. let k = of-byte t.ink.target can.colour.some p a b in
        f p (in-rect false false t.x t.y w h p i) b.k k.0 k.1);
    long = here.long;
  }

  pub plain-counts : whole.tally.count ≡ h * w
  plain-counts =
      here.counts ∙ zero-add _
      ∙ summed-all (giving t pattern m m) (rect false false t.x t.y w h) (λ p. ap counted (gives p))
      ∙ rect-length false false t.x t.y w h

  pub plain-changes : whole.tally.changed ≡ summed (changing t.ink.target m whole.mem) (rect false false t.x t.y w h)
  plain-changes = here.changes ∙ zero-add _
