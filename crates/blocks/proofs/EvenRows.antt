-- A rectangle of one value: the loop over its first row, that row's bytes, the later rows counted against it, and the whole once all rows have them.
-- Assumes nothing.
use mathlib.Core.Path.{◌≡◌, refl, sym, ap, ap₂, subst, ◌∙◌}
use mathlib.Core.Bool.{Bool, true, false, not}
use mathlib.Core.List.{List, ◌++◌, append-nil}
use mathlib.Core.Option.{some}
use Prim.Native.Nat.{ℕ, ◌+◌, ◌-◌, ◌*◌, ◌<◌, ◌≤◌}
use native.Mathlib.Nat.{mul-add, mul-le-mul}
use native.Mathlib.Omega.{arith}
use mir.Val.{bool_byte}
use lib.Dec.{eqb}
use lib.ListN.{length, get_or}
use Rattle.surface.specs.declared.Surface.{Surface}
use Rattle.surface.specs.Place.{byte_of, read_px, write_px, one, differs, row_pixels}
use Rattle.surface.specs.Pixels.{Px, px, across, rect, Inside}
use Rattle.surface.proofs.Bytes.{read_as}
use Rattle.surface.proofs.Lists.{In}
use Rattle.surface.proofs.OnLaws.{on-column}
use Rattle.surface.proofs.Pixels.{same_byte}
use Rattle.surface.proofs.Rects.{in-across, in-rect}
use Rattle.paint.specs.Tally.{tally}
use Rattle.paint.specs.Paint.{State, state, paint, changing, summed}
use Rattle.paint.proofs.Owners.{of-byte}
use Rattle.paint.proofs.Frame.{changed-most}
use Rattle.paint.proofs.Turns.{rows_left, rows_whole, rows-turn, rows-done, dab-stored}
use Rattle.paint.proofs.Loops.{RowLeft, row-begins, row-goes-on, row-full}
use Rattle.paint.proofs.Changes.{summed_same, summed-append, summed-then}
use Rattle.runs.specs.Runs.{Given, evenly}
use Rattle.runs.specs.Asked.{RectOn}
use Rattle.runs.proofs.Even.{byte_number, even-given, even-counts, even-changes}
use Rattle.blocks.specs.Asked.{PartOn}
use Rattle.runs.proofs.Runs.{given-once}
use Rattle.blocks.specs.Blocks.{others}
use Rattle.blocks.proofs.Others.{others-most, others-sum}

-- ---- the loop over a row, by its column: as many pixels are written as columns were passed, and r of them changed
abbrev pub LineTo : Surface → ℕ → ℕ → ℕ → ℕ → List ℕ → ℕ → List ℕ → ℕ → Type 0
LineTo s v x0 w y m₀ x m r = (x0 ≤ x) × RowLeft s (λ p now. some v) false x0 w y m₀ (tally 0 0) (x - x0) m (tally (x - x0) r)

as-one : (d : Bool) → bool_byte d ≡ one d
as-one false = refl
as-one true = refl

module _ {s : Surface} {v x0 w y : ℕ} {m₀ : List ℕ} where
  pub line-start : LineTo s v x0 w y m₀ x0 m₀ 0
  line-start = let z : x0 - x0 ≡ 0 = omega arith in (omega arith, rw z row-begins)

  module _ {x r : ℕ} {m : List ℕ} (to : LineTo s v x0 w y m₀ x m r) where
    pub line-again : {m' : List ℕ} {d : Bool} {c : ℕ} → x < x0 + w → (m' ≡ write_px m s x y v) × (d ≡ differs s x y m m') → c ≡ bool_byte d → LineTo s v x0 w y m₀ (x + 1) m' (r + c)
    line-again {m'} {d} more stored e =
        let next : x + 1 - x0 ≡ x - x0 + 1 = omega arith in
        (omega arith, rw next (row-goes-on to.1 x (omega arith) (omega arith) (dab-stored m (tally (x - x0) r) s (px x y) v stored (e ∙ as-one d) refl) refl))

    pub line-ends : x0 + w ≤ x → state m w r ≡ paint s (evenly v (across false x0 w y)) (state m₀ 0 0)
    line-ends all = row-full to.1 (omega arith)

-- ---- the later rows, each counted against the first: those up to number j
abbrev against : Surface → List ℕ → ℕ → Px → ℕ
against s m y p = one (not (eqb (read_px m s p.x p.y) (read_px m s p.x y)))

pub record Below (s : Surface) (m : List ℕ) (x y w h c j r : ℕ) : Type 0 where
  pub sum : r + summed (against s m y) (rows_left false false x y w h j) ≡ c + summed (against s m y) (rows_left false false x y w h 1)
  pub most : r ≤ w * j
  pub some : 0 < j
  pub within : j ≤ h

module _ {s : Surface} {m : List ℕ} {x y w h c : ℕ} where
  pub below-begins : c ≤ w → 0 < h → Below s m x y w h c 1 c
  below-begins few high = record { sum = refl; most = omega arith; some = omega arith; within = omega arith }

  module _ {j r : ℕ} (now : Below s m x y w h c j r) where
    pub below_next : {d : ℕ} → j < h → d ≡ others s s m x (y + j) x y w → Below s m x y w h c (j + 1) (r + d)
    below_next {d} more e =
        let row : d ≡ summed (against s m y) (across false x w (y + j)) = e ∙ others-sum s s m (y + j) y (λ p. read_px m s p.x y) x x w (λ n l. refl) in
        let turn = ap (summed (against s m y)) (rows-turn false false x y w h j more) ∙ summed-append (against s m y) (across false x w (y + j)) (rows_left false false x y w h (j + 1)) in
        record {
          sum = omega (arith, row, turn, now.sum);
          most = omega (arith, now.most, e, others-most s s m (y + j) y x x w, mul-add w j 1);
          some = omega arith;
          within = omega arith;
        }

    pub below-fits : {d : ℕ} → w ≤ 8192 → h ≤ 8192 → j < h → d ≡ others s s m x (y + j) x y w → r + d < 4294967296
    below-fits wide high more e = omega (arith, (below_next more e).most, mul-le-mul {n₁ = w} {m₁ = j + 1} {n₂ = 8192} {m₂ = 8192} wide (omega arith))

    pub below_all : h ≤ j → r ≡ c + summed (against s m y) (rows_left false false x y w h 1)
    unfolding summed
    below_all all = let done = ap (summed (against s m y)) (rows-done false false x y w h j all) in omega (arith, done, now.sum)

-- ---- the first row, and the whole
module _ (s : Surface) (v x y w h : ℕ) (m : List ℕ) (on : RectOn s (length m) x y w h) (some : 0 < h) where
  abbrev colour : 0 < s.bytes
  colour = on.colour.some

  one-row : RectOn s (length m) x y w 1
  one-row = record { colour = on.colour; wide = on.wide; high = omega (arith, on.high); on = λ i j a b c d. on.on i j a b c (omega arith) }

  as-rect : across false x w y ≡ rect false false x y w 1
  unfolding rect
  as-rect = sym (append-nil (across false x w y))

  rows_split : rect false false x y w h ≡ across false x w y ++ rows_left false false x y w h 1
  rows_split =
      let first : y + 0 ≡ y = omega arith in
      sym (rows_whole false false x y w h) ∙ (rw first at (rows-turn false false x y w h 0 some))

  later : (p : Px) → In p (rows_left false false x y w h 1) → Inside x y w h p × (y < p.y)
  unfolding rows_left
  later p i = let k = in-rect false false x (y + 1) w (h - 1) p i in (omega arith, omega arith)

  column : (p : Px) → Inside x y w h p → p.x < row_pixels s
  column p i = on-column s (length m) p.x p.y (on.on p.x p.y i.left i.right i.top i.bottom).on

  module _ (m₁ : List ℕ) {c : ℕ} (painted : state m₁ w c ≡ paint s (evenly v (across false x w y)) (state m 0 0)) where
    as-painted : state m₁ w c ≡ paint s (evenly v (rect false false x y w 1)) (state m 0 0)
    as-painted = painted ∙ ap (λ (ps : List Px). paint s (evenly v ps) (state m 0 0)) as-rect

    row-given : Given s (byte_number v) x y w 1 m m₁
    row-given = subst (Given s (byte_number v) x y w 1 m) (sym (ap (λ (st : State). st.mem) as-painted)) (even-given s v x y w 1 m one-row)

    row-changes : c ≡ summed (changing s m m₁) (across false x w y)
    row-changes =
        ap (λ (st : State). st.tally.changed) as-painted ∙ even-changes s v x y w 1 m one-row
        ∙ ap (λ (st : State). summed (changing s m st.mem) (rect false false x y w 1)) (sym as-painted) ∙ ap (summed (changing s m m₁)) (sym as-rect)

    pub row-few : c ≤ w
    row-few = subst (λ (st : State). st.tally.changed ≤ st.tally.count) (sym painted) (changed-most s (evenly v (across false x w y)) (state m 0 0) (omega arith))

    -- on its own, as the loop begins
    pub row-itself : Given s (byte_number v) x y w 1 m₁ m₁
    row-itself = record { inside = row-given.inside; others = λ a f. refl; long = refl }

    module _ (m₂ : List ℕ) (given : Given s (byte_number v) x y w h m₁ m₂) where
      all : Given s (byte_number v) x y w h m m₂
      all = record {
        inside = given.inside;
        others = λ a f. given.others a f ∙ row-given.others a (λ p i. f p (omega arith));
        long = given.long ∙ row-given.long;
      }

      -- what was counted is what changed
      rows-changes : c + summed (against s m₁ y) (rows_left false false x y w h 1) ≡ summed (changing s m m₂) (rect false false x y w h)
      unfolding read_px
      rows-changes =
          ap₂ (λ (a b : ℕ). a + b) row-changes
          (summed_same (against s m₁ y) (changing s m₁ m₂) (rows_left false false x y w h 1) (λ p i.
          let k = later p i in
          ap (λ (n : ℕ). one (not (eqb (read_px m₁ s p.x p.y) n)))
          (read_as (byte_of s p.x y) (byte_of s p.x p.y) 0 s.bytes m₁ m₂
          (λ n l u. row-given.inside (px p.x y) (omega (arith, k.0.left, k.0.right)) n (omega arith) ∙ sym (given.inside p k.0 n (omega arith))))))
          ∙ sym (summed-then s colour m m₁ m₂ (across false x w y) (rows_left false false x y w h 1)
          (λ p i a b. let k = in-across false x w y p i in
          let e = of-byte s colour p a b in
          let first : Inside x y w 1 p = omega arith in
          subst (λ (n : ℕ). get_or m₂ n 0 ≡ get_or m₁ n 0) (sym e.1) (given.inside p (omega arith) b.k e.0 ∙ sym (row-given.inside p first b.k e.0)))
          (λ p i a b. let k = later p i in
          let e = of-byte s colour p a b in
          row-given.others a (λ q j n l f. let q-in : Inside x y w h q = omega arith in
          let same = same_byte s q.x q.y n p.x p.y b.k (column q q-in) (column p k.0) l e.0 (sym f ∙ e.1) in omega (arith, same.1, k.1, j.bottom))))
          ∙ ap (summed (changing s m m₂)) (sym rows_split)

      pub whole-made : {r : ℕ} → r ≡ c + summed (against s m₁ y) (rows_left false false x y w h 1)
          → state m₂ (w * h) r ≡ paint s (evenly v (rect false false x y w h)) (state m 0 0)
      whole-made {r} counted =
          let left = given-once all (even-given s v x y w h m on) in
          let count = sym (even-counts s v x y w h m on) in
          let changed = counted ∙ rows-changes ∙ ap (λ (after : List ℕ). summed (changing s m after) (rect false false x y w h)) left ∙ sym (even-changes s v x y w h m on) in
          λ i. state (left i) (count i) (changed i)

  -- a later row and the first can be held to each other
  pub row-parts : (j : ℕ) → j < h → PartOn s s x (y + j) x y w (length m)
  row-parts j l = record {
    format = refl;
    wide = omega (arith, on.wide);
    right = on.wide;
    source_right = omega (arith, on.wide);
    down = omega (arith, on.high);
    source_down = omega (arith, on.high);
    target = on.colour;
    source = on.colour;
    on = λ i u. (on.on (x + i) (y + j) (omega arith) (omega arith) (omega arith) (omega arith)).on;
    source_on = λ i u. (on.on (x + i) y (omega arith) (omega arith) (omega arith) (omega arith)).on;
  }
