-- Bytes put into a buffer, one after the other, a row of them in pieces, and the pixels of a row.
-- Assumes nothing.
use mathlib.Core.Path.{◌≡◌, sym, ap, subst, ◌∙◌}
use mathlib.Core.Bool.{true}
use mathlib.Core.List.{List}
use Prim.Native.Nat.{ℕ, ◌+◌, ◌-◌, ◌*◌, ◌/◌, ◌%◌, ◌^◌, ◌<◌, ◌≤◌}
use native.Mathlib.Nat.{add-mul, mul-le-mul, mod-lt, div-add-mod', div-lt_iff_lt-mul}
use native.Mathlib.Omega.{arith}
use native.Mathlib.Decide.{ℕ_discrete, dec_lt}
use lib.Arith.{digits_lt}
use lib.ListN.{length, get_or, set, length-set, take, drop}
use borrow.Rule.Slice.PartMut.{put_mid}
use borrow.Author.Rules.{rules}
use Rattle.std.proofs.lemmas.List.{places}
use lib.Seq.{get_or-set_same, get_or-set_other, ext_get_or}
use Rattle.surface.specs.declared.Surface.{Surface}
use Rattle.surface.specs.Place.{byte_at, byte_of}
use Rattle.surface.specs.Asked.{Small, OnColour}
use Rattle.surface.proofs.Bytes.{product_lt}
use Rattle.surface.proofs.OnLaws.{colour-byte}
use Rattle.surface.proofs.Tiles.{tile-run}
use Rattle.surface.proofs.Rows.{by_layout, byte_at-tiled, byte_at-run}
use Rattle.surface.proofs.Lists.{by_cases}
use Rattle.runs.specs.Runs.{Kept, RowKept}
use Rattle.runs.specs.Asked.{RowOn, RowHeld, PixelsOn}

-- k bytes put in from byte `to` on
pub kept-put : (m out put : List ℕ) (to at k : ℕ) → put ≡ take k (drop at m) → to + k ≤ length out → at + k ≤ length m → Kept m to at k out (put_mid to k out put)
kept-put m out put to at k e room inside = rw e (record {
  came = λ i l. search (rules, places);
  before = λ a l. search (rules, places);
  after = λ a l. search (rules, places);
  long = search (rules, places);
})

-- one byte more
pub kept_next : {m : List ℕ} {to at i : ℕ} {out₀ out : List ℕ} → Kept m to at i out₀ out → to + i < length out → Kept m to at (i + 1) out₀ (set out (to + i) (get_or m (at + i) 0))
kept_next {m} {to} {at} {i} {out₀} {out} now room = record {
  came = λ j l. by_cases (ℕ_discrete j i)
      (λ e. subst (λ (n : ℕ). get_or (set out (to + i) (get_or m (at + i) 0)) (to + n) 0 ≡ get_or m (at + n) 0) (sym e) (get_or-set_same out (to + i) (get_or m (at + i) 0) 0 room))
      (λ e. get_or-set_other out (to + i) (to + j) (get_or m (at + i) 0) 0 (λ q. e (omega arith)) ∙ now.came j (omega arith));
  before = λ a l. get_or-set_other out (to + i) a (get_or m (at + i) 0) 0 (λ q. omega arith) ∙ now.before a l;
  after = λ a l. get_or-set_other out (to + i) a (get_or m (at + i) 0) 0 (λ q. omega arith) ∙ now.after a (omega arith);
  long = length-set out (to + i) (get_or m (at + i) 0) ∙ now.long;
}

-- bytes of a row that reach over no edge of a tile follow each other
pub piece-follows : (s : Surface) (c y k j : ℕ) → (s.tiled ≡ true → c % 128 + k ≤ 128) → j < k → byte_at s c y + j ≡ byte_at s (c + j) y
piece-follows s c y k j edge l =
    by_layout s (λ e. sym (byte_at-run s e c j y)) (λ e. omega (arith, byte_at-tiled s c y e, byte_at-tiled s (c + j) y e, tile-run s.stride c j y (omega (arith, edge e))))

-- and are in memory
pub piece-held : {s : Surface} {x y n len : ℕ} (i k : ℕ) → RowHeld s x y n len → (s.tiled ≡ true → (x + i) % 128 + k ≤ 128) → 0 < k → i + k ≤ n → byte_at s (x + i) y + k ≤ len
piece-held {s} {x} {y} i k row edge some fits =
    let last : x + (i + (k - 1)) ≡ x + i + (k - 1) = omega arith in
    let h = rw (last, ← piece-follows s (x + i) y k (k - 1) edge (omega arith)) at (row.held (i + (k - 1)) (omega arith)) in omega (arith, h)

-- a piece more of a row
pub row_kept : {s : Surface} {m : List ℕ} {x y i : ℕ} {out₀ out out' : List ℕ} (at k : ℕ) → RowKept s m x y i out₀ out → Kept m i at k out out'
    → ((j : ℕ) → j < k → at + j ≡ byte_at s (x + (i + j)) y) → RowKept s m x y (i + k) out₀ out'
row_kept {s} {m} {x} {y} {i} {out' = out'} at k now piece follows = record {
  came = λ j l. by_cases (dec_lt j i) (λ e. piece.before j e ∙ now.came j e)
      (λ e. let p : i + (j - i) ≡ j = omega arith in
      subst (λ (n : ℕ). get_or out' n 0 ≡ get_or m (byte_at s (x + n) y) 0) p (piece.came (j - i) (omega arith) ∙ ap (λ (a : ℕ). get_or m a 0) (follows (j - i) (omega arith))));
  after = λ a l. piece.after a l ∙ now.after a (omega arith);
  long = piece.long ∙ now.long;
}

-- any two buffers that it may leave are the same
pub row-kept-once : {s : Surface} {m : List ℕ} {x y n : ℕ} {old a b : List ℕ} → RowKept s m x y n old a → RowKept s m x y n old b → a ≡ b
row-kept-once {n = n} {a = a} {b} f g =
    ext_get_or 0 a b (f.long ∙ sym g.long) (λ i l. by_cases (dec_lt i n) (λ u. f.came i u ∙ sym (g.came i u)) (λ u. f.after i (omega arith) ∙ sym (g.after i (omega arith))))

-- ---- the pixels of a row, x and w of them as x * b and w * b bytes
module _ {s : Surface} (some : 0 < s.bytes) (x y w : ℕ) where
  -- they are in memory
  pub row-held : {len : ℕ} → Small s → x + w ≤ 2 ^ 15 → y < 2 ^ 32 → ((i : ℕ) → i < w → OnColour s len (x + i) y) → RowHeld s (x * s.bytes) y (w * s.bytes) len
  unfolding byte_of
  row-held {len} small right high on = record {
    small = small;
    wide = omega (arith, product_lt 16 3 {a = x + w} {b = s.bytes} (omega arith) (omega (arith, small.bytes)), add-mul x w s.bytes);
    high = high;
    held = λ i l.
        let b = s.bytes in
        let column : (x + i / b) * b + i % b ≡ x * b + i = omega (arith, add-mul x (i / b) b, div-add-mod' i b) in
        subst (λ (n : ℕ). byte_at s n y < len) column (colour-byte (on (i / b) ((div-lt_iff_lt-mul some).1 l)) (i % b) (mod-lt i some)).inside;
  }

  pub pixels-held : {len : ℕ} → Small s → RowOn s len x w y → y < 2 ^ 32 → RowHeld s (x * s.bytes) y (w * s.bytes) len
  pixels-held small on high = row-held small (omega (arith, on.wide)) high (λ i l. on.on (x + i) (omega arith) (omega arith))

  -- and kept they are the buffer's, in turn
  pub pixels-kept : {m o out : List ℕ} → RowKept s m (x * s.bytes) y (w * s.bytes) o out → (c k : ℕ) → c < w → k < s.bytes
      → get_or out (0 + (c * s.bytes + k)) 0 ≡ get_or m (byte_of s (x + c) y k) 0
  unfolding byte_of
  pixels-kept {m} kept c k l u =
      let b = s.bytes in
      let first : 0 + (c * b + k) ≡ c * b + k = omega arith in
      let column : x * b + (c * b + k) ≡ (x + c) * b + k = omega (arith, add-mul x c b) in
      rw first (kept.came (c * b + k) (digits_lt {q = c} {m = w} {r = k} {c = b} l u) ∙ ap (λ (n : ℕ). get_or m (byte_at s n y) 0) column)

-- a buffer has room for 256 pixels
pub buffer-on : {b w len : ℕ} → 0 < b → b < 5 → w ≤ 256 → 1024 ≤ len → PixelsOn 0 b w len
buffer-on {b} {w} some few most room = record {
  some = some;
  few = few;
  wide = omega arith;
  held = λ i l. record { some = some; few = few; inside = omega (arith, add-mul i 1 b, mul-le-mul {n₁ = i + 1} {m₁ = b} {n₂ = 256} {m₂ = 4} (omega arith) (omega arith)) };
}
