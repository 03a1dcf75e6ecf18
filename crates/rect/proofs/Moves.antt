-- A plain copy moved as runs of pixels: each row can be, and after each the rows moved so far have the source's bytes, and their pixels that change are counted.
-- Assumes nothing.
use mathlib.Core.Path.{◌≡◌, refl, sym, ap, ap₂, subst, ◌∙◌}
use mathlib.Core.Logic.{◌⊎◌, inl, inr, ⊎_elim}
use mathlib.Core.Bool.{Bool, true, false}
use mathlib.Core.List.{List}
use Prim.Native.Nat.{ℕ, ◌+◌, ◌-◌, ◌*◌, ◌/◌, ◌%◌, ◌^◌, ◌<◌, ◌≤◌}
use native.Mathlib.Nat.{mod-lt, mul-add, mul-le-mul, div-add-mod', div-mul-le_self, le-div_iff_mul-le}
use native.Mathlib.Omega.{arith}
use native.Mathlib.Decide.{ℕ_discrete}
use lib.ListN.{get_or}
use Rattle.surface.specs.Place.{byte_of, row_pixels}
use Rattle.surface.specs.Asked.{Colour, OnColour}
use Rattle.surface.specs.declared.Surface.{Surface}
use Rattle.surface.specs.Pixels.{Px, px, rect, Inside}
use Rattle.surface.proofs.Lists.{by_cases}
use Rattle.surface.proofs.OnLaws.{on-column}
use Rattle.surface.proofs.Rects.{Past}
use Rattle.surface.proofs.Run.{in-rows, pixel-held, run-byte, run-pixel}
use Rattle.spans.proofs.Spans.{IsByte}
use Rattle.sweep.specs.declared.Task.{Task}
use Rattle.sweep.specs.Copy.{source_place}
use Rattle.paint.specs.Paint.{nth, changing, summed}
use Rattle.rect.specs.Fast.{source_byte, to_row, from_row}
use Rattle.rect.specs.Asked.{RowMoves, Moves}
use Rattle.runs.specs.Runs.{unlikes, Shifted, Given}
use Rattle.runs.specs.Asked.{PixelsOn}
use Rattle.paint.proofs.Owners.{byte-of}
use Rattle.paint.proofs.Turns.{nth_in}
use Rattle.sweep.proofs.TaskLaws.{can-pixel}
use Rattle.rect.proofs.Order.{Onward, early-onward, not-read, own-byte}
use Rattle.rect.proofs.Plain.{PlainCopy, plainly-plain}
use Rattle.runs.proofs.Runs.{run-column, run-place, given-none, given-row}
use Rattle.runs.proofs.Alike.{unlikes-most}
use Rattle.rect.proofs.Changing.{changed_row}

-- ---- the rows that are done after j turns, j of them
abbrev done_top : Bool → ℕ → ℕ → ℕ → ℕ
done_top false y h j = y
done_top true y h j = y + (h - j)

done_all : (b : Bool) (y h j : ℕ) → j ≡ h → done_top b y h j ≡ y
done_all false y h j e = refl
done_all true y h j e = omega arith

one_more : (b : Bool) (y₀ h j y : ℕ) → j < h → y ≡ nth b y₀ h j
    → ((done_top b y₀ h (j + 1) ≡ done_top b y₀ h j) × (y ≡ done_top b y₀ h j + j)) ⊎ ((done_top b y₀ h (j + 1) ≡ y) × (done_top b y₀ h j ≡ y + 1))
one_more false y₀ h j y l e = inl (refl, e)
one_more true y₀ h j y l e = inr (omega arith, omega arith)

done-past : (b : Bool) (y₀ h j y r : ℕ) → j < h → y ≡ nth b y₀ h j → done_top b y₀ h j ≤ r → r < done_top b y₀ h j + j → Past b r y
done-past false y₀ h j y r l e lo hi = omega arith
done-past true y₀ h j y r l e lo hi = omega arith

done-inside : (b : Bool) (y₀ h j r : ℕ) → j ≤ h → done_top b y₀ h j ≤ r → r < done_top b y₀ h j + j → (y₀ ≤ r) × (r < y₀ + h)
done-inside false y₀ h j r l lo hi = omega arith
done-inside true y₀ h j r l lo hi = omega arith

module _ {t : Task} {w h len : ℕ} {to_left to_top : Bool} (mv : Moves t w h len to_left to_top) where
  plain : PlainCopy t
  plain = plainly-plain t mv.plain

  onward : Onward t w h len mv.can (λ _. mv.orderly) to_left to_top
  onward = early-onward t w h len mv.can (λ _. mv.orderly) to_left to_top mv.early

  abbrev bytes : ℕ
  bytes = t.from.bytes

  same_bytes : bytes ≡ t.ink.target.bytes
  same_bytes = plain.format

  source-colour : Colour t.from
  source-colour = record { small = mv.can.small; some = omega (arith, mv.can.colour.some, same_bytes) }

  in-rectangle : (y c : ℕ) → t.y ≤ y → y < t.y + h → c < w → Inside t.x t.y w h (px (t.x + c) y)
  in-rectangle y c top bottom l = omega arith

  -- byte i of a row's run, and of its source's
  to-place : (y i : ℕ) → to_row t y + i ≡ byte_of t.ink.target (t.x + i / bytes) y (i % bytes)
  to-place y i = subst (λ (b : ℕ). to_row t y + i ≡ byte_of t.ink.target (t.x + i / b) y (i % b)) (sym same_bytes) (run-place t.ink.target mv.can.colour.some t.x y mv.flat.target i)

  from_place : (y i : ℕ) → from_row t y + i ≡ byte_of t.from (t.sx + i / bytes) (t.sy + (y - t.y)) (i % bytes)
  from_place y i = run-place t.from source-colour.some t.sx (t.sy + (y - t.y)) mv.flat.from i

  source_of : (y c : ℕ) → source_place t (px (t.x + c) y) ≡ px (t.sx + c) (t.sy + (y - t.y))
  unfolding source_place
  source_of y c = ap (λ (n : ℕ). px (t.sx + n) (t.sy + (y - t.y))) (omega arith)

  column-of : (i : ℕ) → i < w * bytes → i / bytes < w
  column-of i = run-column t.from source-colour.some 0 0 w i

  -- no byte of the row is read after it was overwritten
  row-unread : (y i j : ℕ) → t.y ≤ y → y < t.y + h → i < w * bytes → j < w * bytes → (j ≡ i → ⊥) → (j / bytes ≡ i / bytes) ⊎ Past to_left (j / bytes) (i / bytes)
      → to_row t y + j ≡ from_row t y + i → ⊥
  row-unread y i j top bottom li lj n columns e =
      let p = px (t.x + j / bytes) y in
      let q = px (t.x + i / bytes) y in
      let ip = in-rectangle y (j / bytes) top bottom (column-of j lj) in
      let iq = in-rectangle y (i / bytes) top bottom (column-of i li) in
      let small : j % bytes < bytes = mod-lt j source-colour.some in
      let small' : i % bytes < bytes = mod-lt i source-colour.some in
      let at : byte_of t.ink.target p.x y (j % bytes) ≡ byte_of t.from (source_place t q).x (source_place t q).y (i % bytes) =
      sym (to-place y j) ∙ e ∙ from_place y i ∙ ap (λ (r : Px). byte_of t.from r.x r.y (i % bytes)) (sym (source_of y (i / bytes))) in
      ⊎_elim
      (λ same. own-byte t w h len mv.can (λ _. mv.orderly) plain.copies q iq (j % bytes) (i % bytes) (omega (arith, same_bytes)) small'
      (λ k. n (sym (div-add-mod' j bytes) ∙ ap₂ (λ (a b : ℕ). a * bytes + b) same k ∙ div-add-mod' i bytes))
      (ap (λ (c : ℕ). byte_of t.ink.target (t.x + c) y (j % bytes)) (sym same) ∙ at))
      (λ past. not-read t w h len mv.can (λ _. mv.orderly) to_left to_top onward plain.copies p q ip iq (inr (refl, ahead to_left (j / bytes) (i / bytes) past)) (byte_of t.ink.target p.x y (j % bytes))
      (subst (IsByte t.from (source_place t q)) (sym at) (byte-of t.from source-colour.some (source_place t q) (i % bytes) small'))
      (byte-of t.ink.target mv.can.colour.some p (j % bytes) (omega (arith, same_bytes))))
      columns
    where
      ahead : (b : Bool) (m k : ℕ) → Past b m k → Past b (t.x + m) (t.x + k)
      ahead false m k h = omega arith
      ahead true m k h = omega arith

  column-mono : (i j : ℕ) → j ≤ i → j / bytes ≤ i / bytes
  column-mono i j l = (le-div_iff_mul-le source-colour.some).1 (omega (arith, div-mul-le_self j bytes))

  pub row-moves : (y : ℕ) → t.y ≤ y → y < t.y + h → RowMoves t w y len to_left
  unfolding source_place
  row-moves y top bottom = record {
    target = mv.can.colour;
    source = source-colour;
    first = top;
    small = omega (arith, mv.can.source_high);
    to = subst (λ (b : ℕ). PixelsOn (to_row t y) b w len) (sym same_bytes)
        (on_row t.ink.target mv.flat.target mv.can.colour t.x y (λ c l. (can-pixel mv.can (t.x + c) y (in-rectangle y c top bottom l)).0));
    from = on_row t.from mv.flat.from source-colour t.sx (t.sy + (y - t.y))
        (λ c l. subst (λ (p : Px). OnColour t.from len p.x p.y) (source_of y c) (source-on (t.x + c) y (in-rectangle y c top bottom l)));
    up = λ e. record {
      unread = λ i j l r. row-unread y i j top bottom r (omega arith) (λ q. omega arith)
          (subst (λ (b : Bool). (j / bytes ≡ i / bytes) ⊎ Past b (j / bytes) (i / bytes)) (sym e) (either i j (column-mono i j (omega arith))));
    };
    down = λ e. record {
      unread = λ i j l r. row-unread y i j top bottom (omega arith) r (λ q. omega arith)
          (subst (λ (b : Bool). (j / bytes ≡ i / bytes) ⊎ Past b (j / bytes) (i / bytes)) (sym e) (other i j (column-mono j i (omega arith))));
    };
  }
    where
      on_row : (s : Surface) → s.tiled ≡ false → Colour s → (x y : ℕ) → ((c : ℕ) → c < w → OnColour s len (x + c) y) → PixelsOn (byte_of s x y 0) s.bytes w len
      on_row s flat colour x y on = record {
        some = colour.some;
        few = colour.small.bytes;
        wide = omega (arith, mv.can.wide);
        held = λ c l. pixel-held (in-rows flat) (on c l) _ (run-pixel s flat x y (byte_of s x y 0) refl c);
      }

      source-on : (x y : ℕ) → Inside t.x t.y w h (px x y) → OnColour t.from len (source_place t (px x y)).x (source_place t (px x y)).y
      source-on x y i = record { colour = source-colour; on = (can-pixel mv.can x y i).1.on plain.copies }

      either : (i j : ℕ) → j / bytes ≤ i / bytes → (j / bytes ≡ i / bytes) ⊎ (j / bytes < i / bytes)
      either i j l = by_cases (ℕ_discrete (j / bytes) (i / bytes)) (λ q. inl q) (λ q. inr (omega arith))

      other : (i j : ℕ) → i / bytes ≤ j / bytes → (j / bytes ≡ i / bytes) ⊎ (i / bytes < j / bytes)
      other i j l = by_cases (ℕ_discrete (j / bytes) (i / bytes)) (λ q. inl q) (λ q. inr (omega arith))

  -- ---- one row more
  columns : (y : ℕ) → t.y ≤ y → y < t.y + h → (c : ℕ) → c < w → t.x + c < row_pixels t.ink.target
  columns y top bottom c lc = on-column t.ink.target len (t.x + c) y (can-pixel mv.can (t.x + c) y (in-rectangle y c top bottom lc)).0.on

  next_row : (j y : ℕ) (m₀ m m₁ : List ℕ) → j < h → y ≡ nth to_top t.y h j → t.y ≤ y → y < t.y + h
      → Given t.ink.target (source_byte t m₀) t.x (done_top to_top t.y h j) w j m₀ m → Shifted (to_row t y) (from_row t y) 0 (w * bytes) m m₁
      → Given t.ink.target (source_byte t m₀) t.x (done_top to_top t.y h (j + 1)) w (j + 1) m₀ m₁
  next_row j y m₀ m m₁ l e top bottom given run =
      given-row t.ink.target mv.flat.target mv.can.colour.some (source_byte t m₀) t.x w
      (columns y top bottom)
      (done_top to_top t.y h j) j (done_top to_top t.y h (j + 1)) y (from_row t y) m₀ m m₁ (one_more to_top t.y h j y l e) given
      (subst (λ (b : ℕ). Shifted (to_row t y) (from_row t y) 0 (w * b) m m₁) same_bytes run)
      (λ c k lc lk. values c k lc (omega (arith, same_bytes)))
    where
      values : (c k : ℕ) → c < w → k < bytes → get_or m (from_row t y + (c * t.ink.target.bytes + k)) 0 ≡ source_byte t m₀ (px (t.x + c) y) k
      values c k lc lk =
          let q = px (t.x + c) y in
          let at : from_row t y + (c * t.ink.target.bytes + k) ≡ byte_of t.from (source_place t q).x (source_place t q).y k =
          ap (λ (b : ℕ). from_row t y + (c * b + k)) (sym same_bytes) ∙ run-byte t.from mv.flat.from t.sx (t.sy + (y - t.y)) (from_row t y) refl c k
          ∙ ap (λ (r : Px). byte_of t.from r.x r.y k) (sym (source_of y c)) in
          ap (λ (a : ℕ). get_or m a 0) at
          ∙ given.others (byte_of t.from (source_place t q).x (source_place t q).y k) (λ p i k' l' f.
          let rows = done-inside to_top t.y h j p.y (omega arith) i.top i.bottom in
          let past = done-past to_top t.y h j y p.y l e i.top i.bottom in
          not-read t w h len mv.can (λ _. mv.orderly) to_left to_top onward plain.copies p q (record { left = i.left; right = i.right; top = rows.0; bottom = rows.1 })
          (in-rectangle y c top bottom lc) (inl past) (byte_of t.from (source_place t q).x (source_place t q).y k)
          (byte-of t.from source-colour.some (source_place t q) k lk)
          (subst (IsByte t.ink.target p) (sym f) (byte-of t.ink.target mv.can.colour.some p k' l')))

-- ---- the loop over the rows: j of them have come, and r of their pixels changed
pub record RowsMoved (t : Task) (w h : ℕ) (to_top : Bool) (m₀ : List ℕ) (j : ℕ) (m : List ℕ) (r : ℕ) : Type 0 where
  pub given : Given t.ink.target (source_byte t m₀) t.x (done_top to_top t.y h j) w j m₀ m
  pub sum : r ≡ summed (changing t.ink.target m₀ m) (rect false false t.x (done_top to_top t.y h j) w j)
  pub few : r ≤ w * j
  pub within : j ≤ h

pub rows_none : {t : Task} {w h : ℕ} {to_top : Bool} (m : List ℕ) → RowsMoved t w h to_top m 0 m 0
unfolding rect summed
rows_none {t} {w} {h} {to_top} m = record {
  given = given-none t.ink.target (source_byte t m) t.x (done_top to_top t.y h 0) w m;
  sum = refl;
  few = omega arith;
  within = omega arith;
}

module _ {t : Task} {w h len : ℕ} {to_left to_top : Bool} (mv : Moves t w h len to_left to_top) {m₀ m : List ℕ} {j r : ℕ} (now : RowsMoved t w h to_top m₀ j m r) where
  module _ {c : ℕ} (y : ℕ) (more : j < h) (turn : y ≡ nth to_top t.y h j) (sum : c ≡ unlikes m m t.from.bytes (to_row t y) (from_row t y) w) where
    few-more : r + c ≤ w * (j + 1)
    few-more = omega (arith, now.few, sum, unlikes-most m m t.from.bytes (to_row t y) (from_row t y) w, mul-add w j 1)

    pub rows_fit : r + c < 2 ^ 32
    rows_fit = omega (arith, few-more, mul-le-mul {n₁ = w} {m₁ = j + 1} {n₂ = 2 ^ 13} {m₂ = 2 ^ 13} (omega (arith, mv.can.wide)) (omega (arith, mv.can.high)))

    pub rows_next : {m₁ : List ℕ} → Shifted (to_row t y) (from_row t y) 0 (w * t.from.bytes) m m₁ → RowsMoved t w h to_top m₀ (j + 1) m₁ (r + c)
    rows_next {m₁} run =
        let rows = nth_in to_top t.y h j more in
        let top : t.y ≤ y = omega arith in
        let bottom : y < t.y + h = omega arith in
        let changes = changed_row t.ink.target mv.flat.target mv.can.colour.some (source_byte t m₀) t.x w (columns mv y top bottom) (done_top to_top t.y h j) j (done_top to_top t.y h (j + 1)) y (from_row t y) m₀ m m₁
        (one_more to_top t.y h j y more turn) now.given (subst (λ (b : ℕ). Shifted (to_row t y) (from_row t y) 0 (w * b) m m₁) (same_bytes mv) run) in
        let count : c ≡ unlikes m m t.ink.target.bytes (to_row t y) (from_row t y) w = sum ∙ ap (λ (b : ℕ). unlikes m m b (to_row t y) (from_row t y) w) (same_bytes mv) in
        record {
          given = next_row mv j y m₀ m m₁ more turn top bottom now.given run;
          sum = omega (arith, now.sum, count, changes);
          few = few-more;
          within = omega arith;
        }

  pub rows_all : h ≤ j → Given t.ink.target (source_byte t m₀) t.x t.y w h m₀ m × (r ≡ summed (changing t.ink.target m₀ m) (rect false false t.x t.y w h))
  rows_all all =
      let end : j ≡ h = omega (arith, now.within) in
      subst (λ (y : ℕ). Given t.ink.target (source_byte t m₀) t.x y w h m₀ m × (r ≡ summed (changing t.ink.target m₀ m) (rect false false t.x y w h))) (done_all to_top t.y h j end)
      (subst (λ (n : ℕ). Given t.ink.target (source_byte t m₀) t.x (done_top to_top t.y h j) w n m₀ m × (r ≡ summed (changing t.ink.target m₀ m) (rect false false t.x (done_top to_top t.y h j) w n))) end
      (now.given, now.sum))
