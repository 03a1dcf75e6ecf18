-- The smear: a plain copy within one surface, from the column to the left of its target and from the left, spreads that column over the rectangle.
-- Assumes nothing.
use mathlib.Core.Path.{◌≡◌, refl, sym, ap, ap₂, subst, ◌∙◌}
use mathlib.Core.Logic.{⊎_elim}
use mathlib.Core.Bool.{Bool, true, false}
use mathlib.Core.List.Memᴰ
use mathlib.Core.List.{List, [], ◌∷◌, ◌++◌}
use mathlib.Core.Option.{Option, some}
use Prim.Native.Nat.{ℕ, zero, suc, ◌+◌, ◌-◌, ◌^◌, ◌<◌, ◌≤◌}
use native.Mathlib.Nat.{mod-eq_of_lt}
use native.Mathlib.Omega.{arith}
use native.Mathlib.Decide.{ℕ_discrete}
use lib.ListN.{length}
use Rattle.surface.specs.declared.Surface.{Surface}
use Rattle.surface.specs.Place.{read_px, row_pixels, on_surface}
use Rattle.surface.specs.Asked.{OnColour}
use Rattle.surface.specs.Pixels.{Px, px, across, rect, Inside}
use Rattle.surface.proofs.OnLaws.{on-column}
use Rattle.surface.proofs.Pixels.{write_read, read_small}
use Rattle.surface.proofs.Lists.{In, by_cases}
use Rattle.surface.proofs.Rects.{in-across, in-rect, rect-in}
use Rattle.paint.specs.declared.Tally.{Tally}
use Rattle.paint.specs.Paint.{State, tallied, touch, dab, paint}
use Rattle.paint.proofs.Owners.{one-owner, read-px, dab-length}
use Rattle.paint.proofs.Frame.{Bytes, frame, pixels-of, paint-length, paint_bytes}
use Rattle.sweep.specs.declared.Task.{Task}
use Rattle.sweep.specs.Copy.{source_place, giving, in_turn}
use Rattle.sweep.specs.Asked.{CanPaint}
use Rattle.sweep.proofs.TaskLaws.{can-pixel}
use Rattle.rect.proofs.Plain.{PlainCopy, plain-gives}

module _ (t : Task) (pattern : List ℕ) (w h len : ℕ) (plain : PlainCopy t) (same : t.from ≡ t.ink.target) (left : t.sx + 1 ≡ t.x) (level : t.sy ≡ t.y)
    (on : (x y : ℕ) → t.sx ≤ x → x < t.x + w → t.y ≤ y → y < t.y + h → OnColour t.ink.target len x y) where
  abbrev to : Surface
  to = t.ink.target

  abbrev smeared : List Px → State → State
  smeared ps st = paint to (in_turn t pattern ps) st

  -- ---- a pixel
  column : (p : Px) → Inside t.sx t.y (w + 1) h p → p.x < row_pixels to
  column p i = on-column to len p.x p.y (on p.x p.y i.left (omega arith) i.top i.bottom).on

  -- one that is none of those painted stays
  stays : (ps : List Px) (q : Px) (st : State) → Inside t.sx t.y (w + 1) h q → ((p : Px) → In p ps → Inside t.sx t.y (w + 1) h p × (p ≡ q → ⊥))
      → read_px (smeared ps st).mem to q.x q.y ≡ read_px st.mem to q.x q.y
  stays ps q st iq others =
      let some_byte = (on q.x q.y iq.left (omega arith) iq.top iq.bottom).colour.some in
      read-px to some_byte q (smeared ps st).mem st.mem
      (λ a b. frame to some_byte (in_turn t pattern ps) st a
      (λ p i c. let o = others p (subst (In p) (pixels-of (λ r now. giving t pattern now now r) ps) i) in
      o.1 (one-owner to some_byte p q a (column p o.0) (column q iq) c b)))

  -- each takes the pixel to its left
  takes-left : (c y : ℕ) (m : List ℕ) → t.sx ≤ c → c < t.sx + w → t.y ≤ y → y < t.y + h → Bytes m → giving t pattern m m (px (c + 1) y) ≡ some (read_px m to c y)
  unfolding source_place
  takes-left c y m lc rc top bottom bytes =
      let colour = (on c y lc (omega arith) top bottom).colour in
      plain-gives t pattern m m (px (c + 1) y) plain colour.some colour.small.bytes bytes
      ∙ ap {B = Option ℕ} (λ (s : Surface). some (read_px m s (t.sx + (c + 1 - t.x)) (t.sy + (y - t.y)))) same
      ∙ ap₂ {C = Option ℕ} (λ (a b : ℕ). some (read_px m to a b)) (omega arith) (omega arith)

  given : (x y v : ℕ) (st : State) → OnColour to (length st.mem) x y → v < 256 ^ to.bytes → read_px (dab to (px x y) (some v) st).mem to x y ≡ v
  unfolding dab
  given x y v st o small = write_read st.mem to x y v o ∙ mod-eq_of_lt small

  -- ---- a row
  row-smeared : (c n y : ℕ) (st : State) → t.sx ≤ c → c + n ≡ t.sx + w → t.y ≤ y → y < t.y + h → Bytes st.mem → length st.mem ≡ len
      → (p : Px) → In p (across false (c + 1) n y) → read_px (smeared (across false (c + 1) n y) st).mem to p.x p.y ≡ read_px st.mem to c y
  unfolding across paint
  row-smeared c zero y st lc rc top bottom bytes long p i = absurd (Memᴰ.not-nil i)
  row-smeared c (suc n) y st lc rc top bottom bytes long p i =
      let v = read_px st.mem to c y in
      let q = px (c + 1) y in
      let st₁ = dab to q (some v) st in
      let there = on (c + 1) y (omega arith) (omega arith) top bottom in
      let first : read_px st₁.mem to (c + 1) y ≡ v = given (c + 1) y v st (subst (λ (k : ℕ). OnColour to k (c + 1) y) (sym long) there) (read_small st.mem to c y bytes) in
      ap (λ (o : Option ℕ). read_px (smeared (across false (c + 1 + 1) n y) (dab to q o st)).mem to p.x p.y) (takes-left c y st.mem lc (omega arith) top bottom bytes)
      ∙ ⊎_elim
      (λ e. ap (λ (r : Px). read_px (smeared (across false (c + 1 + 1) n y) st₁).mem to r.x r.y) e
      ∙ stays (across false (c + 1 + 1) n y) q st₁ (omega arith)
      (λ r j. let b = in-across false (c + 1 + 1) n y r j in (omega arith, λ f. let g = ap (λ (z : Px). z.x) f in omega arith)) ∙ first)
      (λ j. row-smeared (c + 1) n y st₁ (omega arith) (omega arith) top bottom (paint_bytes to (touch q (λ now. some v) ∷ []) st bytes) (dab-length to q (some v) st ∙ long) p j ∙ first)
      (Memᴰ.cases_cons i)

  -- ---- rows
  in_parts : (ps qs : List Px) (st : State) → smeared (ps ++ qs) st ≡ smeared qs (smeared ps st)
  unfolding paint
  in_parts [] qs st = refl
  in_parts (p ∷ ps) qs st = in_parts ps qs (dab to p (giving t pattern st.mem st.mem p) st)

  -- the pixels of a list have the first source pixel of their row, as it was
  abbrev Spread : List Px → State → State → Type 0
  Spread ps st st' = (p : Px) → In p ps → read_px st'.mem to p.x p.y ≡ read_px st.mem to t.sx p.y

  -- row y, and then others
  next : (y : ℕ) (ps : List Px) (st : State) → t.y ≤ y → y < t.y + h → ((p : Px) → In p ps → Inside t.sx t.y (w + 1) h p × (p.y ≡ y → ⊥))
      → Bytes st.mem → length st.mem ≡ len
      → Spread ps (smeared (across false (t.sx + 1) w y) st) (smeared ps (smeared (across false (t.sx + 1) w y) st))
      → Spread (across false (t.sx + 1) w y ++ ps) st (smeared (across false (t.sx + 1) w y ++ ps) st)
  next y ps st top bottom others bytes long rest p i =
      let row = across false (t.sx + 1) w y in
      ap (λ (s : State). read_px s.mem to p.x p.y) (in_parts row ps st)
      ∙ ⊎_elim
      (λ j. let b = in-across false (t.sx + 1) w y p j in
      stays ps p (smeared row st) (omega arith) (λ r k. let o = others r k in (o.0, λ e. o.1 (ap (λ (z : Px). z.y) e ∙ b.2)))
      ∙ row-smeared t.sx w y st (omega arith) refl top bottom bytes long p j ∙ ap (read_px st.mem to t.sx) (sym b.2))
      (λ j. let o = others p j in
      rest p j ∙ stays row (px t.sx p.y) st (omega (arith, o.0))
      (λ r k. let b = in-across false (t.sx + 1) w y r k in (omega arith, λ e. o.1 (sym (ap (λ (z : Px). z.y) e) ∙ b.2))))
      (Memᴰ.append_cases row i)

  spread : (u : Bool) (y n : ℕ) (st : State) → t.y ≤ y → y + n ≤ t.y + h → Bytes st.mem → length st.mem ≡ len
      → Spread (rect false u (t.sx + 1) y w n) st (smeared (rect false u (t.sx + 1) y w n) st)
  unfolding rect
  spread u y zero st top bottom bytes long = λ p i. absurd (Memᴰ.not-nil i)
  spread false y (suc n) st top bottom bytes long =
      next y (rect false false (t.sx + 1) (y + 1) w n) st top (omega arith)
      (λ p i. let b = in-rect false false (t.sx + 1) (y + 1) w n p i in (omega arith, λ e. omega arith)) bytes long
      (spread false (y + 1) n _ (omega arith) (omega arith) (paint_bytes to (in_turn t pattern (across false (t.sx + 1) w y)) st bytes)
      (paint-length to (in_turn t pattern (across false (t.sx + 1) w y)) st ∙ long))
  spread true y (suc n) st top bottom bytes long =
      next (y + n) (rect false true (t.sx + 1) y w n) st (omega arith) (omega arith)
      (λ p i. let b = in-rect false true (t.sx + 1) y w n p i in (omega arith, λ e. omega arith)) bytes long
      (spread true y n _ top (omega arith) (paint_bytes to (in_turn t pattern (across false (t.sx + 1) w (y + n))) st bytes)
      (paint-length to (in_turn t pattern (across false (t.sx + 1) w (y + n))) st ∙ long))

-- each pixel of the rectangle becomes the first source pixel of its row
pub smears : (t : Task) (w h : ℕ) (pattern m : List ℕ) (n : Tally) → PlainCopy t → CanPaint t w h (length m) → Bytes m → t.from ≡ t.ink.target → t.sx + 1 ≡ t.x → t.sy ≡ t.y
    → (to_top : Bool) (p : Px) → Inside t.x t.y w h p
    → read_px (paint t.ink.target (in_turn t pattern (rect false to_top t.x t.y w h)) (tallied m n)).mem t.ink.target p.x p.y
    ≡ read_px m t.ink.target t.sx p.y
unfolding source_place
smears t w h pattern m n plain can bytes same left level to_top p i =
    subst (λ (x : ℕ). read_px (paint t.ink.target (in_turn t pattern (rect false to_top x t.y w h)) (tallied m n)).mem t.ink.target p.x p.y ≡ read_px m t.ink.target t.sx p.y)
    left (spread t pattern w h (length m) plain same left level on to_top t.y h (tallied m n) (omega arith) (omega arith) bytes refl p
    (subst (λ (x : ℕ). In p (rect false to_top x t.y w h)) (sym left) (rect-in false to_top t.x t.y w h p i)))
  where
    first : (y : ℕ) → t.y ≤ y → y < t.y + h → on_surface t.ink.target (length m) t.sx y ≡ true
    first y top bottom =
        sym (ap₂ (λ (a b : ℕ). on_surface t.ink.target (length m) a b) (omega arith) (omega arith))
        ∙ subst (λ (s : Surface). on_surface s (length m) (t.sx + (t.x - t.x)) (t.sy + (y - t.y)) ≡ true) same
        ((can-pixel can t.x y (omega (arith, i.left, i.right))).1.on plain.copies)

    on : (x y : ℕ) → t.sx ≤ x → x < t.x + w → t.y ≤ y → y < t.y + h → OnColour t.ink.target (length m) x y
    on x y l r top bottom =
        by_cases (ℕ_discrete x t.sx) (λ e. record { colour = can.colour; on = subst (λ (c : ℕ). on_surface t.ink.target (length m) c y ≡ true) (sym e) (first y top bottom) })
        (λ e. (can-pixel can x y (omega arith)).0)
