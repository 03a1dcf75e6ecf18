-- Loops that paint: after some turns what is left, painted on the state now, is the whole painted on the state at the start, and no more pixels were written
-- than turns were taken. The loops over a row and over the rows of a rectangle are two.
-- Assumes nothing.
use mathlib.Core.Path.{◌≡◌, refl, sym, ap, subst, ◌∙◌}
use mathlib.Core.Bool.{Bool, false}
use mathlib.Core.List.{List, [], ◌∷◌, ◌++◌, map, map-append}
use mathlib.Core.Option.{Option}
use Prim.Native.Nat.{ℕ, suc, ◌+◌, ◌*◌, ◌^◌, ◌<◌, ◌≤◌}
use native.Mathlib.Nat.{mul-add, add-mul, mul-le-mul}
use native.Mathlib.Omega.{arith}
use lib.ListN.{length}
use Rattle.surface.specs.declared.Surface.{Surface}
use Rattle.surface.specs.Pixels.{Px, px, across, rect}
use Rattle.surface.proofs.Rects.{across-length}
use Rattle.paint.specs.declared.Tally.{Tally}
use Rattle.paint.specs.Tally.{tally}
use Rattle.paint.specs.Paint.{State, tallied, state, Touch, touch, dab, paint, nth}
use Rattle.paint.specs.Asked.{Room}
use Rattle.paint.proofs.Tallies.{Upto, upto-none, upto-then, upto-more, room-left, room-first}
use Rattle.paint.proofs.Frame.{paint-length, paint-upto, painted-after}
use Rattle.paint.proofs.Turns.{row-left, row-whole, row-turn, row_done, part-turn, rows_left, rows_whole, rows-turn, rows-done, paint-append}

-- pixels, each with what it is given
abbrev pub touches : (Px → List ℕ → Option ℕ) → List Px → List Touch
touches g ps = map (λ p. touch p (g p)) ps

touches-length : (g : Px → List ℕ → Option ℕ) (ps : List Px) → length (touches g ps) ≡ length ps
touches-length g [] = refl
touches-length g (p ∷ ps) = ap suc (touches-length g ps)

touches-append : (g : Px → List ℕ → Option ℕ) (ps qs : List Px) → touches g (ps ++ qs) ≡ touches g ps ++ touches g qs
touches-append g ps qs = map-append (λ p. touch p (g p)) ps qs

row-length : (g : Px → List ℕ → Option ℕ) (l : Bool) (x w y : ℕ) → length (touches g (across l x w y)) ≡ w
row-length g l x w y = touches-length g (across l x w y) ∙ across-length l x w y

-- ---- any loop that paints: what is left, painted on the state now, is the whole painted on the state at the start, and at most k pixels were written
pub record Left (s : Surface) (all : List Touch) (m₀ : List ℕ) (n : Tally) (k : ℕ) (rest : List Touch) (m : List ℕ) (r : Tally) : Type 0 where
  pub painted : paint s rest (tallied m r) ≡ paint s all (tallied m₀ n)
  pub long : length m ≡ length m₀
  pub upto : Upto n k r

module _ {s : Surface} {all : List Touch} {m₀ : List ℕ} {n : Tally} where
  pub left-begins : {k : ℕ} {rest : List Touch} → rest ≡ all → Left s all m₀ n k rest m₀ n
  left-begins e = record { painted = ap (λ (ts : List Touch). paint s ts (tallied m₀ n)) e; long = refl; upto = upto-more (upto-none n) (omega arith) }

  module _ {k : ℕ} {rest : List Touch} {m : List ℕ} {r : Tally} (left : Left s all m₀ n k rest m r) where
    -- a turn paints the front of what is left
    pub left-takes : (ts : List Touch) {k' : ℕ} {rest' : List Touch} {m' : List ℕ} {r' : Tally} → rest ≡ ts ++ rest' → k + length ts ≤ k'
        → tallied m' r' ≡ paint s ts (tallied m r) → Left s all m₀ n k' rest' m' r'
    left-takes ts {rest' = rest'} e fits put = record {
      painted = ap (paint s rest') put ∙ sym (paint-append s ts rest' (tallied m r)) ∙ ap (λ (us : List Touch). paint s us (tallied m r)) (sym e) ∙ left.painted;
      long = ap (λ (st : State). length st.mem) put ∙ paint-length s ts (tallied m r) ∙ left.long;
      upto = upto-more (upto-then left.upto (subst (λ (st : State). Upto r (length ts) st.tally) (sym put) (paint-upto s ts (tallied m r)))) fits;
    }

    pub left_ended : rest ≡ [] → tallied m r ≡ paint s all (tallied m₀ n)
    unfolding paint
    left_ended e = ap (λ (ts : List Touch). paint s ts (tallied m r)) (sym e) ∙ left.painted

-- ---- a row, after i turns
pub record RowLeft (s : Surface) (g : Px → List ℕ → Option ℕ) (back : Bool) (x w y : ℕ) (m₀ : List ℕ) (n : Tally) (i : ℕ) (m : List ℕ) (r : Tally) : Type 0 where
  pub left : Left s (touches g (across back x w y)) m₀ n i (touches g (row-left back x w i y)) m r
  pub within : i ≤ w

module _ {s : Surface} {g : Px → List ℕ → Option ℕ} {back : Bool} {x w y : ℕ} {m₀ : List ℕ} {n : Tally} where
  pub row-begins : RowLeft s g back x w y m₀ n 0 m₀ n
  row-begins = record { left = left-begins (ap (touches g) (row-whole back x w y)); within = omega arith }

  module _ {i : ℕ} {m : List ℕ} {r : Tally} (now : RowLeft s g back x w y m₀ n i m r) where
    pub row_room : Room n w → i < w → Room r 1
    row_room room more = room-left room now.left.upto (omega arith)

    pub row-goes-on : {m' : List ℕ} {r' : Tally} {o : Option ℕ} (x' : ℕ) → i < w → x' ≡ nth back x w i → tallied m' r' ≡ dab s (px x' y) o (tallied m r)
        → o ≡ g (px x' y) m → RowLeft s g back x w y m₀ n (i + 1) m' r'
    unfolding paint
    row-goes-on x' more here put given =
        let turn : row-left back x w i y ≡ px x' y ∷ row-left back x w (i + 1) y = rw here (row-turn back x w i y more) in
        record {
          left = left-takes now.left (touch (px x' y) (g (px x' y)) ∷ []) (ap (touches g) turn) (omega arith) (put ∙ ap (λ (v : Option ℕ). dab s (px x' y) v (tallied m r)) given);
          within = omega arith;
        }

    pub row-ended : w ≤ i → tallied m r ≡ paint s (touches g (across back x w y)) (tallied m₀ n)
    row-ended all = left_ended now.left (ap (touches g) (row_done back x w i y all))

-- several pixels at once, from the left
pub row-takes : {s : Surface} {g : Px → List ℕ → Option ℕ} {x w y : ℕ} {m₀ : List ℕ} {n : Tally} {i : ℕ} {m : List ℕ} {r : Tally} {m' : List ℕ} {r' : Tally}
    → RowLeft s g false x w y m₀ n i m r → (k : ℕ) → i + k ≤ w → tallied m' r' ≡ paint s (touches g (across false (x + i) k y)) (tallied m r)
    → RowLeft s g false x w y m₀ n (i + k) m' r'
row-takes {g = g} {x} {w} {y} {i = i} now k fits put = record {
  left = left-takes now.left (touches g (across false (x + i) k y)) (ap (touches g) (part-turn x w i k y fits) ∙ touches-append g (across false (x + i) k y) (row-left false x w (i + k) y))
      (omega (arith, row-length g false (x + i) k y)) put;
  within = fits;
}

-- ---- the rows of a rectangle, after j turns, nothing written before
pub record RowsLeft (s : Surface) (g : Px → List ℕ → Option ℕ) (l t : Bool) (x y w h : ℕ) (m₀ : List ℕ) (j : ℕ) (m : List ℕ) (r : Tally) : Type 0 where
  pub left : Left s (touches g (rect l t x y w h)) m₀ (tally 0 0) (j * w) (touches g (rows_left l t x y w h j)) m r
  pub within : j ≤ h

module _ {s : Surface} {g : Px → List ℕ → Option ℕ} {l t : Bool} {x y w h : ℕ} {m₀ : List ℕ} where
  pub rows-begin : RowsLeft s g l t x y w h m₀ 0 m₀ (tally 0 0)
  rows-begin = record { left = left-begins (ap (touches g) (rows_whole l t x y w h)); within = omega arith }

  module _ {j : ℕ} {m : List ℕ} {r : Tally} (now : RowsLeft s g l t x y w h m₀ j m r) where
    next_row : j * w + w ≡ (j + 1) * w
    next_row = omega (arith, add-mul j 1 w)

    pub rows-room : w ≤ 2 ^ 13 → h ≤ 2 ^ 13 → j < h → Room r w
    rows-room wide high more =
        let below : j + 1 ≤ 2 ^ 13 = omega arith in
        room-first now.left.upto (omega (arith, next_row, mul-le-mul {n₂ = 2 ^ 13} {m₂ = 2 ^ 13} below wide))

    pub rows-go-on : {m' : List ℕ} {r' : Tally} (y' : ℕ) → j < h → y' ≡ nth t y h j → tallied m' r' ≡ paint s (touches g (across l x w y')) (tallied m r)
        → RowsLeft s g l t x y w h m₀ (j + 1) m' r'
    rows-go-on y' more here put =
        let turn : rows_left l t x y w h j ≡ across l x w y' ++ rows_left l t x y w h (j + 1) = rw here (rows-turn l t x y w h j more) in
        record {
          left = left-takes now.left (touches g (across l x w y')) (ap (touches g) turn ∙ touches-append g (across l x w y') (rows_left l t x y w h (j + 1)))
              (omega (arith, next_row, row-length g l x w y')) put;
          within = omega arith;
        }

    pub rows-ended : h ≤ j → tallied m r ≡ paint s (touches g (rect l t x y w h)) (state m₀ 0 0)
    rows-ended all = left_ended now.left (ap (touches g) (rows-done l t x y w h j all))

-- ---- loops that write every pixel, nothing written before; c of them changed
pub row-full : {s : Surface} {g : Px → List ℕ → Option ℕ} {back : Bool} {x w y i c : ℕ} {m₀ m : List ℕ} → RowLeft s g back x w y m₀ (tally 0 0) i m (tally i c) → w ≤ i
    → state m w c ≡ paint s (touches g (across back x w y)) (state m₀ 0 0)
row-full {w = w} {i = i} {c = c} {m = m} now all = let e : w ≡ i = omega (arith, now.within) in ap (λ (n : ℕ). state m n c) e ∙ row-ended now all

module _ {s : Surface} {g : Px → List ℕ → Option ℕ} {l t : Bool} {x y w h j c : ℕ} {m₀ m : List ℕ} (now : RowsLeft s g l t x y w h m₀ j m (tally (w * j) c)) where
  pub rows_fill : {m' : List ℕ} {d : ℕ} (y' : ℕ) → j < h → y' ≡ nth t y h j → state m' w d ≡ paint s (touches g (across l x w y')) (state m 0 0)
      → RowsLeft s g l t x y w h m₀ (j + 1) m' (tally (w * (j + 1)) (c + d))
  rows_fill y' more here put =
      let e : w * (j + 1) ≡ w * j + w = omega (arith, mul-add w j 1) in
      rw e (rows-go-on now y' more here (painted-after s (touches g (across l x w y')) m (tally (w * j) c) put))

  pub rows-full : h ≤ j → state m (w * h) c ≡ paint s (touches g (rect l t x y w h)) (state m₀ 0 0)
  rows-full all = let e : h ≡ j = omega (arith, now.within) in ap (λ (n : ℕ). state m (w * n) c) e ∙ rows-ended now all

  -- what changed of one row more fits
  pub rows-sum : w ≤ 2 ^ 13 → h ≤ 2 ^ 13 → j < h → {m' : List ℕ} {d : ℕ} (y' : ℕ) → state m' w d ≡ paint s (touches g (across l x w y')) (state m 0 0) → c + d < 2 ^ 32
  rows-sum wide high more y' put =
      let most = subst (λ (st : State). Upto (tally 0 0) (length (touches g (across l x w y'))) st.tally) (sym put) (paint-upto s (touches g (across l x w y')) (state m 0 0)) in
      omega (arith, most.changed, row-length g l x w y', (rows-room now wide high more).changed)
