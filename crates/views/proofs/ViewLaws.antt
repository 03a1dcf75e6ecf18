-- Laws of the row view: a refused one is empty, a given one is not, and its length is width times bytes.
-- Assumes nothing.
use mathlib.Core.Path.{◌≡◌, refl, sym, ap, subst, ◌∙◌}
use mathlib.Core.Bool.{Bool, true, false, cond, not, ◌||◌}
use mathlib.Core.List.{List, [], append-nil}
use Prim.Native.Nat.{ℕ, ◌+◌, ◌*◌, ◌-◌, ◌^◌, ◌<◌, ◌≤◌}
use native.Mathlib.Nat.{add-mul, add-zero, add_comm, one-mul, mul-pos}
use native.Mathlib.Omega.{arith}
use lib.Dec.{eqb, ltb}
use lib.ListN.{length, take, drop, length-take, length-drop}
use borrow.Author.Tests.{eq-eqb, ne_eqb, eqb-false, ltb-false}
use Rattle.surface.specs.declared.Surface.{Surface}
use Rattle.surface.specs.Place.{byte_at, byte_of}
use Rattle.surface.specs.Asked.{OnColour}
use Rattle.surface.specs.Pixels.{across, rect}
use Rattle.spans.specs.Span.{all_on}
use Rattle.formats.specs.Format.{view_named, target_of}
use Rattle.views.specs.View.{view_answer, view_start, view_count, viewed, further}
use Rattle.surface.proofs.Rows.{byte_at-run}
use Rattle.surface.proofs.OnLaws.{colour-first, colour-count, on-last, last_byte, pos-of-ne}
use Rattle.spans.proofs.Corner.{across-corner}
use Rattle.formats.proofs.FormatLaws.{target-colour, view-target, view-flat}

-- a rectangle of one row is the row
one-row : (l t : Bool) (x y w : ℕ) → rect l t x y w 1 ≡ across l x w y
unfolding rect
one-row l false x y w = append-nil (across l x w y)
one-row l true x y w = append-nil (across l x w (y + 0)) ∙ ap (across l x w) (add-zero y)

pub row_on : (s : Surface) (len x y w : ℕ) → all_on s len (rect false false x y w 1) ≡ all_on s len (across false x w y)
row_on s len x y w = ap (all_on s len) (one-row false false x y w)

-- what lies between the tests and the answer 0
pub record Given (len base format x y width : ℕ) : Type 0 where
  pub fits : len ≤ 2 ^ 24
  pub named : view_named base format ≡ true
  pub some : 0 < width
  pub last : OnColour (target_of base format) len (x + (width - 1)) y

-- answer 0 says all of it, and all of it gives answer 0
pub given-zero : (len base format x y width : ℕ) → view_answer len base format x y width ≡ 0 → Given len base format x y width
unfolding view_answer
given-zero len base format x y width = by-limit (ltb (2 ^ 24) len) refl (view_named base format) refl (eqb width 0) refl
    (all_on (target_of base format) len (across false x width y)) refl
  where
    by-limit : (t : Bool) → ltb (2 ^ 24) len ≡ t → (n : Bool) → view_named base format ≡ n → (z : Bool) → eqb width 0 ≡ z
        → (o : Bool) → all_on (target_of base format) len (across false x width y) ≡ o
        → ◌≡◌ {A = ℕ} (cond t 1 (cond (not n) 5 (cond (z || not o) 7 0))) 0 → Given len base format x y width
    by-limit true e n f z g o h k = absurd (omega arith)
    by-limit false e false f z g o h k = absurd (omega arith)
    by-limit false e true f true g o h k = absurd (omega arith)
    by-limit false e true f false g false h k = absurd (omega arith)
    by-limit false e true f false g true h k =
        let some : 0 < width = pos-of-ne (eqb-false width 0 g) in
        record {
          fits = ltb-false (2 ^ 24) len e;
          named = f;
          some = some;
          last = record { colour = target-colour base format (view-target base format f); on = sym (across-corner false (target_of base format) len x width y some) ∙ h };
        }

-- the given bytes are in memory
pub view-fits : {len base format x y width : ℕ} → Given len base format x y width
    → byte_of (target_of base format) x y 0 + width * (target_of base format).bytes ≤ len
unfolding byte_of
view-fits {len} {base} {format} {x} {y} {width} g =
    let s = target_of base format in
    let b = s.bytes in
    let some = g.last.colour.some in
    let w = g.some in
    let e : width ≡ width - 1 + 1 = omega arith in
    let f : width * b ≡ (width - 1) * b + b = ap (λ (n : ℕ). n * b) e ∙ add-mul (width - 1) 1 b ∙ ap (λ (n : ℕ). (width - 1) * b + n) (one-mul b) in
    let at : last_byte s (x + (width - 1)) ≡ (x * b + 0) + (width * b - 1) =
    omega (arith, colour-first s (x + (width - 1)) some, colour-count s x some, add-mul x (width - 1) b) in
    let last = subst (λ (n : ℕ). byte_at s n y < len) at (on-last s len (x + (width - 1)) y g.last.on) in
    omega (arith, byte_at-run s (view-flat base format g.named) (x * b + 0) (width * b - 1) y, mul-pos w some)

-- ---- what is handed back
module _ (len base format x y width : ℕ) where
  -- of a view that is given, and of one that is refused
  pub start-given : view_answer len base format x y width ≡ 0 → view_start len base format x y width ≡ byte_of (target_of base format) x y 0
  unfolding view_start
  start-given e = rw (eq-eqb _ _ e)

  pub count-given : view_answer len base format x y width ≡ 0 → view_count len base format x y width ≡ width * (target_of base format).bytes
  unfolding view_count
  count-given e = rw (eq-eqb _ _ e)

  pub start-refused : (view_answer len base format x y width ≡ 0 → ⊥) → view_start len base format x y width ≡ 0
  unfolding view_start
  start-refused e = rw (ne_eqb _ _ e)

  pub count-refused : (view_answer len base format x y width ≡ 0 → ⊥) → view_count len base format x y width ≡ 0
  unfolding view_count
  count-refused e = rw (ne_eqb _ _ e)

-- a refused view is empty
pub view-refused : (m : List ℕ) (base format x y width : ℕ) → (view_answer (length m) base format x y width ≡ 0 → ⊥) → viewed m base format x y width ≡ []
view-refused m base format x y width e = rw (count-refused (length m) base format x y width e)

pub place-refused : (place : ℕ × ℕ) (len base format x y width : ℕ) → (view_answer len base format x y width ≡ 0 → ⊥)
    → place ≡ further place (view_start len base format x y width)
place-refused place len base format x y width e = rw (start-refused len base format x y width e, add-zero)

-- a given one has width times bytes
pub view-length : (m : List ℕ) (base format x y width : ℕ) → view_answer (length m) base format x y width ≡ 0
    → length (viewed m base format x y width) ≡ width * (target_of base format).bytes
view-length m base format x y width e =
    let fits = view-fits (given-zero (length m) base format x y width e) in
    rw (start-given (length m) base format x y width e, count-given (length m) base format x y width e) (simp (length-take, length-drop) (omega arith))

-- and so at least one
pub view-some : (m : List ℕ) (base format x y width : ℕ) → view_answer (length m) base format x y width ≡ 0 → 0 < length (viewed m base format x y width)
view-some m base format x y width e =
    let g = given-zero (length m) base format x y width e in
    subst (λ (n : ℕ). 0 < n) (sym (view-length m base format x y width e)) (mul-pos g.some g.last.colour.some)

-- the same, by numbers that equal start, width and bytes
module _ (m : List ℕ) (base format x y width : ℕ) (zero : view_answer (length m) base format x y width ≡ 0)
    {start w b : ℕ} (at : start ≡ byte_of (target_of base format) x y 0) (as_wide : w ≡ width) (as-deep : b ≡ (target_of base format).bytes) where
  pub part-fits : start + w * b ≤ length m
  part-fits = rw (at, as_wide, as-deep) (view-fits (given-zero (length m) base format x y width zero))

  pub part-place : (place : ℕ × ℕ) → (place.0, start + place.1) ≡ further place (view_start (length m) base format x y width)
  part-place place = rw (start-given (length m) base format x y width zero, at, add_comm place.1 (byte_of (target_of base format) x y 0))

  pub part-given : take (start + w * b - start) (drop start m) ≡ viewed m base format x y width
  part-given =
      let e : start + w * b - start ≡ w * b = omega arith in
      rw (e, start-given (length m) base format x y width zero, count-given (length m) base format x y width zero, at, as_wide, as-deep)
