-- Laws of rectangles of which some pixels are left: their parts, and pixels in a page that is marked already.
-- Assumes nothing.
use mathlib.Core.Path.{◌≡◌, refl, sym, ap, subst, ◌∙◌}
use mathlib.Core.Logic.{⊎_elim}
use mathlib.Core.Bool.{Bool, true, false, cond}
use mathlib.Core.List.Memᴰ
use mathlib.Core.List.{List, [], ◌∷◌, ◌++◌}
use Prim.Native.Nat.{ℕ, zero, suc, ◌+◌, ◌-◌, ◌*◌, ◌/◌, ◌%◌, ◌<◌, ◌≤◌, min}
use native.Mathlib.Nat.{zero-add, add-zero, sub-zero, add-mul, mul-le-mul_right, div-add-mod'}
use native.Mathlib.Omega.{arith}
use lib.ListN.{get_or}
use Rattle.surface.specs.declared.Surface.{Surface}
use Rattle.surface.specs.Place.{byte_at, byte_of}
use Rattle.surface.specs.Pixels.{Px, px, across, rect}
use Rattle.surface.specs.Asked.{Colour}
use Rattle.surface.proofs.Lists.{In}
use Rattle.surface.proofs.Rects.{in-across, rect-in, in-rect}
use Rattle.surface.proofs.OnLaws.{colour-first, colour-count}
use Rattle.surface.proofs.Rows.{by_layout, byte_at-run, byte_at-tile}
use Rattle.spans.specs.Span.{addresses}
use Rattle.spans.proofs.Corner.{all-each, each_all}
use Rattle.spans.proofs.Spans.{in-addresses}
use Rattle.pages.specs.Pages.{page_of, marked_at, marking}
use Rattle.pages.specs.Asked.{MarkablePixel}
use Rattle.pages.proofs.MarkLaws.{marking-append, marked-already}
use Rattle.sift.specs.declared.Sieve.{Sieve}
use Rattle.sift.specs.Sift.{chosen, run_of}
use Rattle.sift.specs.Asked.{Siftable}

-- ---- parts

pub across-parts : (x n k y : ℕ) → across false x (n + k) y ≡ across false x n y ++ across false (x + n) k y
unfolding across
across-parts x zero k y = rw (zero-add k, add-zero x)
across-parts x (suc n) k y =
    let e : x + suc n ≡ x + 1 + n = omega arith in
    let q : suc n + k ≡ suc (n + k) = omega arith in
    rw (q, e) (ap (λ (ps : List Px). px x y ∷ ps) (across-parts (x + 1) n k y))

module _ (f : Px → Bool) where
  pub chosen-append : (ps qs : List Px) → chosen f (ps ++ qs) ≡ chosen f ps ++ chosen f qs
  unfolding chosen
  chosen-append [] qs = refl
  chosen-append (p ∷ ps) qs = by (chosen-append ps qs) (f p)
    where
      by : chosen f (ps ++ qs) ≡ chosen f ps ++ chosen f qs → (t : Bool)
          → cond t (p ∷ chosen f (ps ++ qs)) (chosen f (ps ++ qs)) ≡ cond t (p ∷ chosen f ps) (chosen f ps) ++ chosen f qs
      by more true = ap (λ (rs : List Px). p ∷ rs) more
      by more false = more

  pub chosen-in : (ps : List Px) (q : Px) → In q (chosen f ps) → In q ps
  unfolding chosen
  chosen-in [] q i = i
  chosen-in (p ∷ ps) q i = by (chosen-in ps q) (f p) i
    where
      by : (In q (chosen f ps) → In q ps) → (t : Bool) → In q (cond t (p ∷ chosen f ps) (chosen f ps)) → In q (p ∷ ps)
      by more true j = ⊎_elim (λ e. Memᴰ.head e) (λ k. Memᴰ.tail (more k)) (Memᴰ.cases_cons j)
      by more false j = Memᴰ.tail (more j)

  pub chosen-one : (x y : ℕ) → f (px x y) ≡ true → chosen f (across false x 1 y) ≡ px x y ∷ []
  unfolding chosen across
  chosen-one x y e = rw e

  pub chosen-left : (x y : ℕ) → f (px x y) ≡ false → chosen f (across false x 1 y) ≡ []
  unfolding chosen across
  chosen-left x y e = rw e

-- ---- pixels in the page of the first one's first byte
module _ (s : Surface) (colour : Colour s) (x y : ℕ) where
  abbrev at : ℕ
  at = byte_at s (x * s.bytes) y

  pub run-flat : s.tiled ≡ false → {a : ℕ} → a ≡ at → (4096 - a % 4096) / s.bytes ≡ run_of s x y
  unfolding run_of
  run-flat flat e =
      ap (λ (a : ℕ). (4096 - a % 4096) / s.bytes) e
      ∙ ap (λ (t : Bool). cond t (min (4096 - at % 4096) (128 - x * s.bytes % 128)) (4096 - at % 4096) / s.bytes) (sym flat)

  pub run-tiled : s.tiled ≡ true → {a n : ℕ} → a ≡ at → n ≡ min (4096 - a % 4096) (128 - x * s.bytes % 128) → n / s.bytes ≡ run_of s x y
  unfolding run_of
  run-tiled tiled e h =
      ap (λ (n : ℕ). n / s.bytes) h ∙ ap (λ (a : ℕ). min (4096 - a % 4096) (128 - x * s.bytes % 128) / s.bytes) e
      ∙ ap (λ (t : Bool). cond t (min (4096 - at % 4096) (128 - x * s.bytes % 128)) (4096 - at % 4096) / s.bytes) (sym tiled)

  -- j bytes further on
  on-page : (j room : ℕ) → j < room → room ≤ 4096 - at % 4096 → page_of (at + j) ≡ page_of at
  on-page j room h l = omega arith

  run-bytes : (i k : ℕ) → i < run_of s x y → k < s.bytes → page_of (byte_at s (x * s.bytes + (i * s.bytes + k)) y) ≡ page_of at
  run-bytes i k h l =
      by_layout s
      (λ flat. let room = 4096 - at % 4096 in
      let h' : i < room / s.bytes = subst (λ (n : ℕ). i < n) (sym (run-flat flat refl)) h in
      ap page_of (byte_at-run s flat (x * s.bytes) (i * s.bytes + k) y) ∙ on-page (i * s.bytes + k) room (within room h') (omega arith))
      (λ tiled. let room = min (4096 - at % 4096) (128 - x * s.bytes % 128) in
      let h' : i < room / s.bytes = subst (λ (n : ℕ). i < n) (sym (run-tiled tiled refl refl)) h in
      let j = i * s.bytes + k in
      let fits : j < room = within room h' in
      let there : byte_at s (x * s.bytes + j) (y + 0) ≡ at + (0 * 128 + j) = byte_at-tile s tiled (x * s.bytes) y j 0 (omega arith) (omega arith) in
      let here : byte_at s (x * s.bytes + j) y ≡ at + j = ap (byte_at s (x * s.bytes + j)) (sym (add-zero y)) ∙ there ∙ omega arith in
      ap page_of here ∙ on-page j room fits (omega arith))
    where
      within : (room : ℕ) → i < room / s.bytes → i * s.bytes + k < room
      within room q =
          let whole : (i + 1) * s.bytes ≤ room / s.bytes * s.bytes = mul-le-mul_right s.bytes (omega arith) in
          omega (arith, whole, add-mul i 1 s.bytes, div-add-mod' room s.bytes)

  -- a page that is marked already stays so, whichever of them are written
  pub passed_over : (f : Px → Bool) (marks : List Bool) (n : ℕ) → n ≤ run_of s x y → get_or marks (page_of (byte_of s x y 0)) false ≡ true
      → marking s (chosen f (across false x n y)) marks ≡ marks
  unfolding byte_of
  passed_over f marks n h e =
      marked-already (addresses s (chosen f (across false x n y))) marks (λ a i.
      let b = in-addresses s (chosen f (across false x n y)) a i in
      let q = b.0 in
      let r = in-across false x n y q (chosen-in f (across false x n y) q b.1) in
      let k = b.2.k in
      let low : k < s.bytes = rw (colour-count s x colour.some) at b.2.low in
      let whole : q.x * s.bytes ≡ x * s.bytes + (q.x - x) * s.bytes =
      ap (λ (n : ℕ). n * s.bytes) (omega arith) ∙ add-mul x (q.x - x) s.bytes in
      let place : a ≡ byte_at s (x * s.bytes + ((q.x - x) * s.bytes + k)) y =
      b.2.at ∙ ap (λ (n : ℕ). byte_at s n q.y) (omega (arith, colour-first s q.x colour.some, whole)) ∙ ap (byte_at s (x * s.bytes + ((q.x - x) * s.bytes + k))) r.2 in
      let same : page_of a ≡ page_of (byte_at s (x * s.bytes + 0) y) =
      ap page_of place ∙ run-bytes (q.x - x) k (omega arith) low ∙ ap (λ (n : ℕ). page_of (byte_at s n y)) (sym (add-zero (x * s.bytes))) in
      ap (λ (p : ℕ). get_or marks p false) same ∙ e)

-- ---- a rectangle's rows, and the parts of a row
module _ {v : Sieve} {x y w h len : ℕ} (can : Siftable v x y w h len) where
  pub part-can : (i j n k : ℕ) → i + n ≤ w → j + k ≤ h → Siftable v (x + i) (y + j) n k len
  part-can i j n k a b = record {
    colour = can.colour;
    wide = omega (arith, can.wide);
    high = omega (arith, can.high);
    limit = can.limit;
    on = each_all v.task.ink.target len (rect false false (x + i) (y + j) n k) (λ p m.
        let r = in-rect false false (x + i) (y + j) n k p m in
        all-each v.task.ink.target len (rect false false x y w h) can.on p
        (rect-in false false x y w h p (record { left = omega arith; right = omega arith; top = omega arith; bottom = omega arith })));
    each = λ p r. can.each p (record { left = omega (arith, r.left); right = omega (arith, r.right); top = omega (arith, r.top); bottom = omega (arith, r.bottom) });
  }

  pub pixel-can : 0 < w → 0 < h → MarkablePixel v.task.ink.target x y
  pixel-can a b = record {
    len = len;
    limit = can.limit;
    on = record {
      colour = can.colour;
      on = all-each v.task.ink.target len (rect false false x y w h) can.on (px x y)
          (rect-in false false x y w h (px x y) (record { left = omega arith; right = omega arith; top = omega arith; bottom = omega arith }));
    };
  }

-- ---- what the loops have left
module _ (s : Surface) (f : Px → Bool) (marks : List Bool) where
  pub row-start : (x w y : ℕ) → marking s (chosen f (across false (x + 0) (w - 0) y)) marks ≡ marking s (chosen f (across false x w y)) marks
  row-start x w y = rw (add-zero x, sub-zero w)

  pub row-turn : (x w y i n : ℕ) → i + n ≤ w
      → marking s (chosen f (across false (x + (i + n)) (w - (i + n)) y)) (marking s (chosen f (across false (x + i) n y)) marks)
      ≡ marking s (chosen f (across false (x + i) (w - i) y)) marks
  row-turn x w y i n h =
      let e : w - i ≡ n + (w - (i + n)) = omega arith in
      let q : x + (i + n) ≡ x + i + n = omega arith in
      rw (e, q, across-parts (x + i) n (w - (i + n)) y, chosen-append f (across false (x + i) n y) (across false (x + i + n) (w - (i + n)) y))
      (sym (marking-append s (chosen f (across false (x + i) n y)) (chosen f (across false (x + i + n) (w - (i + n)) y)) marks))

  pub row-none : (x w y i : ℕ) → w ≤ i → marking s (chosen f (across false (x + i) (w - i) y)) marks ≡ marks
  unfolding chosen across addresses marked_at
  row-none x w y i h = let e : w - i ≡ 0 = omega arith in rw e

  pub rows_start : (x y w h : ℕ) → marking s (chosen f (rect false false x (y + 0) w (h - 0))) marks ≡ marking s (chosen f (rect false false x y w h)) marks
  rows_start x y w h = rw (add-zero y, sub-zero h)

  pub rows-turn : (x y w h j : ℕ) → j < h
      → marking s (chosen f (rect false false x (y + (j + 1)) w (h - (j + 1)))) (marking s (chosen f (across false x w (y + j))) marks)
      ≡ marking s (chosen f (rect false false x (y + j) w (h - j))) marks
  unfolding rect
  rows-turn x y w h j l =
      let e : h - j ≡ suc (h - (j + 1)) = omega arith in
      let q : y + (j + 1) ≡ y + j + 1 = omega arith in
      rw (e, q, chosen-append f (across false x w (y + j)) (rect false false x (y + j + 1) w (h - (j + 1))))
      (sym (marking-append s (chosen f (across false x w (y + j))) (chosen f (rect false false x (y + j + 1) w (h - (j + 1)))) marks))

  pub rows_none : (x y w h j : ℕ) → h ≤ j → marking s (chosen f (rect false false x (y + j) w (h - j))) marks ≡ marks
  unfolding chosen rect addresses marked_at
  rows_none x y w h j l = let e : h - j ≡ 0 = omega arith in rw e
