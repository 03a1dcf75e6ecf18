-- A rectangle that came to another place, and from there back, with only its own bytes changed between: all bytes but those of the other place are as they were.
-- Assumes nothing.
use mathlib.Core.Path.{◌≡◌, refl, sym, ap, ap₂, subst, ◌∙◌}
use mathlib.Core.Logic.{inl, inr, ⊎_elim}
use mathlib.Core.Bool.{Bool, true, false, ◌&&◌, false≢true}
use mathlib.Core.List.{List}
use Prim.Native.Nat.{ℕ, ◌+◌, ◌-◌, ◌<◌, ◌≤◌}
use native.Mathlib.Omega.{arith}
use lib.Dec.{ltb}
use lib.ListN.{get_or}
use borrow.Author.Tests.{lt-ltb}
use Rattle.surface.specs.declared.Surface.{Surface}
use Rattle.spans.specs.declared.Span.{Span}
use Rattle.surface.specs.Place.{byte_of, row_pixels}
use Rattle.surface.specs.Pixels.{Px, px, rect, origin}
use Rattle.spans.specs.Span.{span_of, meet}
use Rattle.surface.proofs.Lists.{In}
use Rattle.surface.proofs.Rects.{in-rect, rect-in}
use Rattle.spans.proofs.Corner.{all-each}
use Rattle.surface.proofs.OnLaws.{on-column}
use Rattle.spans.proofs.Spans.{IsByte, span-holds}
use Rattle.paint.proofs.Owners.{byte-of, of-byte, one-owner, owner}
use Rattle.table.specs.Table.{all_on_at, pixels}
use Rattle.restore.specs.Rectangles.{Rectangle, positions, Apart}
use Rattle.restore.proofs.Areas.{Of, Elsewhere, not_negative, pixels-rect, all-on}
use Rattle.restore.proofs.Copies.{Came}

-- ---- a pixel of a rectangle that is on its surface
module _ (t : Rectangle) (len : ℕ) (on : all_on_at t.surface len (positions t) ≡ true) where
  abbrev area : List Px
  area = rect false false (t.x - origin) (t.y - origin) t.w t.h

  pub of-in : (p : Px) → Of t p → In p area
  of-in p i =
      let n = not_negative t len on (omega arith) (omega arith) in
      rect-in false false (t.x - origin) (t.y - origin) t.w t.h p (omega arith)

  pub in-of : (p : Px) → In p area → Of t p
  in-of p i =
      let k = in-rect false false (t.x - origin) (t.y - origin) t.w t.h p i in
      let n = not_negative t len on (omega arith) (omega arith) in
      omega arith

  pub of-column : (p : Px) → Of t p → p.x < row_pixels t.surface
  of-column p i = on-column t.surface len p.x p.y (all-each t.surface len area (all-on t len on) p (of-in p i))

  pub of-span : (p : Px) (a : ℕ) → Of t p → IsByte t.surface p a
      → ((span_of t.surface (pixels (positions t))).low ≤ a) × (a < (span_of t.surface (pixels (positions t))).past)
  of-span p a i b =
      subst (λ (ps : List Px). ((span_of t.surface ps).low ≤ a) × (a < (span_of t.surface ps).past)) (sym (pixels-rect t len on (omega arith) (omega arith)))
      (span-holds t.surface area p a (of-in p i) b)

-- ---- apart: no byte in common
meet-both : (a b : Span) (k : ℕ) → a.low ≤ k → k < a.past → b.low ≤ k → k < b.past → meet a b ≡ true
meet-both a b k p q u v = ap₂ (λ c d. c && d) (lt-ltb a.low b.past (omega arith)) (lt-ltb b.low a.past (omega arith))

and-swap : (a b : Bool) → (a && b) ≡ (b && a)
and-swap true true = refl
and-swap true false = refl
and-swap false true = refl
and-swap false false = refl

pub apart-swap : (s t : Rectangle) → Apart s t → Apart t s
apart-swap s t apart =
    ⊎_elim (λ k. inl (sym k.0, λ x y i j. k.1 x y j i))
    (λ k. let S = span_of s.surface (pixels (positions s)) in let T = span_of t.surface (pixels (positions t)) in
    inr (and-swap (ltb T.low S.past) (ltb S.low T.past) ∙ k)) apart

pub no_byte : (s t : Rectangle) (len : ℕ) → all_on_at s.surface len (positions s) ≡ true → all_on_at t.surface len (positions t) ≡ true
    → 0 < s.surface.bytes → Apart s t → (p q : Px) (a : ℕ) → Of s p → Of t q → IsByte s.surface p a → IsByte t.surface q a → ⊥
no_byte s t len ons ont colour apart p q a i j b c =
    ⊎_elim
    (λ k.
    let column = subst (λ (u : Surface). q.x < row_pixels u) (sym k.0) (of-column t len ont q j) in
    let e = one-owner s.surface colour p q a (of-column s len ons p i) column b (subst (λ (u : Surface). IsByte u q a) (sym k.0) c) in
    let x : q.x ≡ p.x = ap (λ (u : Px). u.x) (sym e) in
    let y : q.y ≡ p.y = ap (λ (u : Px). u.y) (sym e) in
    k.1 (origin + p.x) (origin + p.y) (omega arith) (omega arith))
    (λ k.
    let u = of-span s len ons p a i b in
    let v = of-span t len ont q a j c in
    false≢true (sym k ∙ meet-both (span_of s.surface (pixels (positions s))) (span_of t.surface (pixels (positions t))) a u.0 u.1 v.0 v.1))
    apart

-- ---- there and back
module _ (home aside : Rectangle) (len : ℕ) (on : all_on_at home.surface len (positions home) ≡ true) (on' : all_on_at aside.surface len (positions aside) ≡ true)
    (colour : 0 < home.surface.bytes) (format : home.surface.bytes ≡ aside.surface.bytes) (wide : home.w ≡ aside.w) (high : home.h ≡ aside.h)
    (apart : Apart home aside) where
  pub comes_back : (m m₁ m₂ m₃ : List ℕ) → Came home aside m m₁ → Elsewhere home m₁ m₂ → Came aside home m₂ m₃
      → (a : ℕ) → ((p : Px) → Of aside p → IsByte aside.surface p a → ⊥) → get_or m₃ a 0 ≡ get_or m a 0
  comes_back m m₁ m₂ m₃ out between back a clear =
      ⊎_elim
      (λ v.
      let p = v.0 in
      let b = v.2 in
      let f = of-byte home.surface colour p a b in
      let ip = in-of home len on p v.1 in
      let n = not_negative home len on (omega arith) (omega arith) in
      let n' = not_negative aside len on' (omega arith) (omega arith) in
      let i = origin + p.x - home.x in
      let j = origin + p.y - home.y in
      let k = b.k in
      let ex : home.x + i - origin ≡ p.x = omega arith in
      let ey : home.y + j - origin ≡ p.y = omega arith in
      let at : a ≡ byte_of home.surface (home.x + i - origin) (home.y + j - origin) k = f.1 ∙ ap₂ (λ (x y : ℕ). byte_of home.surface x y k) (sym ex) (sym ey) in
      let q = px (aside.x + i - origin) (aside.y + j - origin) in
      let iq : Of aside q = omega arith in
      let kb : k < aside.surface.bytes = omega (arith, f.0) in
      let there = byte_of aside.surface q.x q.y k in
      ap (λ (u : ℕ). get_or m₃ u 0) at
      ∙ back.given i j k (omega arith) (omega arith) f.0
      ∙ between.same there (λ p' i' b'. no_byte home aside len on on' colour apart p' q there i' iq b' (byte-of aside.surface (omega arith) q k kb))
      ∙ out.given i j k (omega arith) (omega arith) kb
      ∙ ap (λ (u : ℕ). get_or m u 0) (sym at))
      (λ v.
      let none_has : (p : Px) → Of home p → IsByte home.surface p a → ⊥ = (λ p i b. v p (of-in home len on p i) b) in
      back.others a none_has ∙ between.same a none_has ∙ out.others a clear)
      (owner home.surface (area home len on) a)
