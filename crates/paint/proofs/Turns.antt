-- What remains of a row, and of the rows of a rectangle, after some turns of a loop; and what painting asks for.
-- Assumes nothing.
use mathlib.Core.Path.{◌≡◌, refl, sym, ap, ◌∙◌}
use mathlib.Core.Bool.{Bool, true, false}
use mathlib.Core.List.{List, [], ◌∷◌, ◌++◌, map, append-nil, append_assoc, Memᴰ}
use mathlib.Core.Option.{Option, none, some}
use Prim.Native.Nat.{ℕ, zero, suc, ◌+◌, ◌-◌, ◌<◌, ◌≤◌}
use native.Mathlib.Omega.{arith}
use Rattle.surface.specs.declared.Surface.{Surface}
use Rattle.surface.specs.Place.{byte_of, write_bytes, write_px, differ, differs, one}
use Rattle.surface.specs.Pixels.{Px, px, across, rect}
use Rattle.surface.proofs.Run.{InPiece, read-run, write-run}
use Rattle.paint.specs.declared.Tally.{Tally}
use Rattle.paint.specs.Tally.{noted}
use Rattle.paint.specs.Paint.{State, tallied, Touch, touch, dab, dab_at, paint, nth}

-- ---- what remains after i turns
abbrev first : Bool → ℕ → ℕ → ℕ
first false at i = at + i
first true at i = at

unfoldable pub row-left : Bool → ℕ → ℕ → ℕ → ℕ → List Px
row-left l x w i y = across l (first l x i) (w - i) y

unfoldable pub rows_left : Bool → Bool → ℕ → ℕ → ℕ → ℕ → ℕ → List Px
rows_left l t x y w h j = rect l t x (first t y j) w (h - j)

pub row-whole : (l : Bool) (x w y : ℕ) → row-left l x w 0 y ≡ across l x w y
unfolding row-left
row-whole false x w y = let p : x + 0 ≡ x = omega arith in let q : w - 0 ≡ w = omega arith in rw (p, q)
row-whole true x w y = let q : w - 0 ≡ w = omega arith in rw q

pub row-turn : (l : Bool) (x w i y : ℕ) → i < w → row-left l x w i y ≡ px (nth l x w i) y ∷ row-left l x w (i + 1) y
unfolding row-left across
row-turn false x w i y h = let q : w - i ≡ suc (w - (i + 1)) = omega arith in let p : x + i + 1 ≡ x + (i + 1) = omega arith in rw (q, p)
row-turn true x w i y h = let q : w - i ≡ suc (w - (i + 1)) = omega arith in let p : w - 1 - i ≡ w - (i + 1) = omega arith in rw (q, p)

pub row_done : (l : Bool) (x w i y : ℕ) → w ≤ i → row-left l x w i y ≡ []
unfolding row-left across
row_done l x w i y h = let q : w - i ≡ 0 = omega arith in rw q

pub rows_whole : (l t : Bool) (x y w h : ℕ) → rows_left l t x y w h 0 ≡ rect l t x y w h
unfolding rows_left
rows_whole l false x y w h = let p : y + 0 ≡ y = omega arith in let q : h - 0 ≡ h = omega arith in rw (p, q)
rows_whole l true x y w h = let q : h - 0 ≡ h = omega arith in rw q

pub rows-turn : (l t : Bool) (x y w h j : ℕ) → j < h → rows_left l t x y w h j ≡ across l x w (nth t y h j) ++ rows_left l t x y w h (j + 1)
unfolding rows_left rect
rows-turn l false x y w h j g = let q : h - j ≡ suc (h - (j + 1)) = omega arith in let p : y + j + 1 ≡ y + (j + 1) = omega arith in rw (q, p)
rows-turn l true x y w h j g = let q : h - j ≡ suc (h - (j + 1)) = omega arith in let p : h - 1 - j ≡ h - (j + 1) = omega arith in rw (q, p)

pub rows-done : (l t : Bool) (x y w h j : ℕ) → h ≤ j → rows_left l t x y w h j ≡ []
unfolding rows_left rect
rows-done l t x y w h j g = let q : h - j ≡ 0 = omega arith in rw q

-- the place of a turn is one of the n
pub nth_in : (b : Bool) (at n i : ℕ) → i < n → (at ≤ nth b at n i) × (nth b at n i < at + n)
nth_in false at n i h = omega arith
nth_in true at n i h = omega arith

-- ---- painting
pub paint-append : (s : Surface) (ts us : List Touch) (st : State) → paint s (ts ++ us) st ≡ paint s us (paint s ts st)
unfolding paint
paint-append s [] us st = refl
paint-append s (t ∷ ts) us st = paint-append s ts us (dab s t.at (t.gives st.mem) st)

-- painting asks only what each pixel is given
pub paint-same : (s : Surface) (f g : Px → List ℕ → Option ℕ) (ps : List Px) → ((p : Px) → Memᴰ p ps → (now : List ℕ) → f p now ≡ g p now) → (st : State)
    → paint s (map (λ p. touch p (f p)) ps) st ≡ paint s (map (λ p. touch p (g p)) ps) st
unfolding paint
paint-same s f g [] h st = refl
paint-same s f g (p ∷ ps) h st =
    ap (λ (o : Option ℕ). paint s (map (λ p. touch p (f p)) ps) (dab s p o st)) (h p (Memᴰ.head refl) st.mem)
    ∙ paint-same s f g ps (λ q i. h q (Memᴰ.tail i)) (dab s p (g p st.mem) st)

-- the same, while something holds of the memory that no store ends
pub paint-while : (s : Surface) (f g : Px → List ℕ → Option ℕ) (Holds : List ℕ → Type 0) (ps : List Px)
    → ((p : Px) → Memᴰ p ps → (now : List ℕ) → Holds now → f p now ≡ g p now)
    → ((p : Px) → Memᴰ p ps → (o : Option ℕ) (st : State) → Holds st.mem → Holds (dab s p o st).mem) → (st : State) → Holds st.mem
    → paint s (map (λ p. touch p (f p)) ps) st ≡ paint s (map (λ p. touch p (g p)) ps) st
unfolding paint
paint-while s f g Holds [] h k st holds = refl
paint-while s f g Holds (p ∷ ps) h k st holds =
    ap (λ (o : Option ℕ). paint s (map (λ p. touch p (f p)) ps) (dab s p o st)) (h p (Memᴰ.head refl) st.mem holds)
    ∙ paint-while s f g Holds ps (λ q i. h q (Memᴰ.tail i)) (λ q i. k q (Memᴰ.tail i)) (dab s p (g p st.mem) st)
    (k p (Memᴰ.head refl) (g p st.mem) st holds)

-- ---- a store whose answer goes into the tally: of a pixel, or by address
module _ (m : List ℕ) (n : Tally) {m' : List ℕ} {r : Tally} {d : Bool} {c : ℕ} where
  pub dab-stored : (s : Surface) (p : Px) (v : ℕ) → (m' ≡ write_px m s p.x p.y v) × (d ≡ differs s p.x p.y m m') → c ≡ one d → r ≡ noted 1 c n
      → tallied m' r ≡ dab s p (some v) (tallied m n)
  unfolding dab
  dab-stored s p v stored e k = rw (k, e, stored.1, stored.0)

  pub dab_at-stored : (at b v : ℕ) → (m' ≡ write_bytes (λ k. at + k) 0 b v m) × (d ≡ differ (λ k. at + k) b m m') → c ≡ one d → r ≡ noted 1 c n
      → tallied m' r ≡ dab_at at b (some v) (tallied m n)
  unfolding dab_at
  dab_at-stored at b v stored e k = rw (k, e, stored.1, stored.0)

pub dab-at : (s : Surface) → InPiece s → (p : Px) (a : ℕ) (o : Option ℕ) (st : State) → a ≡ byte_of s p.x p.y 0 → dab_at a s.bytes o st ≡ dab s p o st
unfolding dab_at dab
dab-at s piece p a none st e = refl
dab-at s piece p a (some v) st e =
    rw (write-run s piece p.x p.y a e v st.mem, read-run s piece p.x p.y a e st.mem, read-run s piece p.x p.y a e (write_px st.mem s p.x p.y v))

-- ---- several pixels of a row at once
pub across-append : (x m n y : ℕ) → across false x (m + n) y ≡ across false x m y ++ across false (x + m) n y
unfolding across
across-append x zero n y = let p : x + 0 ≡ x = omega arith in let q : 0 + n ≡ n = omega arith in rw (p, q)
across-append x (suc m) n y =
    let p : x + suc m ≡ x + 1 + m = omega arith in
    let q : suc m + n ≡ suc (m + n) = omega arith in
    rw (p, q) (ap (λ (ps : List Px). px x y ∷ ps) (across-append (x + 1) m n y))

pub part-turn : (x w i m y : ℕ) → i + m ≤ w → row-left false x w i y ≡ across false (x + i) m y ++ row-left false x w (i + m) y
unfolding row-left
part-turn x w i m y h =
    let p : w - i ≡ m + (w - (i + m)) = omega arith in
    let q : x + (i + m) ≡ x + i + m = omega arith in
    rw (p, q) (across-append (x + i) m (w - (i + m)) y)

-- ---- a row more, below
pub rect-append : (x y w h : ℕ) → rect false false x y w (h + 1) ≡ rect false false x y w h ++ across false x w (y + h)
unfolding rect
rect-append x y w zero = let p : y + 0 ≡ y = omega arith in rw p (append-nil (across false x w y))
rect-append x y w (suc h) =
    let p : y + suc h ≡ y + 1 + h = omega arith in
    let q : suc h + 1 ≡ suc (h + 1) = omega arith in
    rw (p, q) (ap (λ (ps : List Px). across false x w y ++ ps) (rect-append x (y + 1) w h) ∙ sym (append_assoc (across false x w y) (rect false false x (y + 1) w h) (across false x w (y + 1 + h))))
