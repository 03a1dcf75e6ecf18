-- Laws of a walk along a line by address: a step from point i leads to point i + 1.
-- Assumes nothing.
use Rattle.std.proofs.Common.{◌≡◌, ℕ, ◌+◌, ◌-◌, ◌*◌, ◌%◌, ◌^◌, ◌<◌, ◌≤◌, Bool, true, false, ltb, leb, sym, refl, ap, ◌∙◌, subst, mul-le-mul_left, one-mul, arith, ltb-false, ltb-true, leb-false}
use Rattle.surface.specs.declared.Surface.{Surface}
use Rattle.surface.specs.Place.{byte_of}
use Rattle.surface.specs.Asked.{Small}
use Rattle.surface.proofs.Rows.{byte_at-small, byte_at-run, byte_at-rows}
use Rattle.surface.proofs.Run.{run-pixel}
use Rattle.surface.specs.Pixels.{origin}
use Rattle.line.specs.declared.Point.{Point}
use Rattle.line.specs.declared.Line.{Line}
use Rattle.strokes.specs.declared.Walk.{Walk}
use Rattle.line.specs.Line.{far, towards, x_major, longer, shorter, aside, point_at}
use Rattle.line.specs.Asked.{Placed}
use Rattle.strokes.specs.Walk.{shift, across, down, steps_of, walk, walked_on, AtPoint}
use Rattle.strokes.specs.Asked.{Ahead}
use Rattle.line.proofs.Sides.{either, longer-x, longer-y, shorter-x, shorter-y, shorter-le, longer-lt, aside-le}
use Rattle.line.proofs.TreadLaws.{aside-stays, aside_grows, start-rest}
use Rattle.line.proofs.PointLaws.{place-x, place-y, point-box, first}

-- ---- from a to b, up by u or down by u
abbrev pub Step : Bool → ℕ → ℕ → ℕ → Type 0
Step true u a b = b ≡ a + u
Step false u a b = a ≡ b + u

towards-next : (a b k : ℕ) → origin ≤ towards a b k → origin ≤ towards a b (k + 1) → k + 1 ≤ far a b → Step (leb a b) 1 (towards a b k - origin) (towards a b (k + 1) - origin)
unfolding towards far
towards-next a b k g h f =
    either (leb a b) (λ e. let g' = rw e at g in let h' = rw e at h in rw e (omega arith))
    (λ e. let g' = rw e at g in let h' = rw e at h in rw e (omega (arith, leb-false a b e)))

shift-sum : (up : Bool) (u a b : ℕ) → a < 2 ^ 60 → b < 2 ^ 60 → Step up u a b → b ≡ (a + shift up u) % 2 ^ 64
unfolding shift
shift-sum true u a b g h e = omega arith
shift-sum false u a b g h e = omega arith

both-sum : (a d e : ℕ) → ((a + d) % 2 ^ 64 + e) % 2 ^ 64 ≡ (a + (d + e) % 2 ^ 64) % 2 ^ 64
both-sum a d e = omega arith

-- ---- the address of a pixel
step_right : (s : Surface) → s.tiled ≡ false → (x x' y : ℕ) → x' ≡ x + 1 → byte_of s x' y 0 ≡ byte_of s x y 0 + s.bytes
step_right s flat x x' y e =
    let first = byte_of s x y 0 in
    ap (λ (c : ℕ). byte_of s c y 0) e ∙ sym (run-pixel s flat x y first refl 1) ∙ ap (λ (n : ℕ). first + n) (one-mul s.bytes)

step_down : (s : Surface) → s.tiled ≡ false → (x y y' : ℕ) → y' ≡ y + 1 → byte_of s x y' 0 ≡ byte_of s x y 0 + s.stride
unfolding byte_of
step_down s flat x y y' e =
    rw e (omega (arith, byte_at-rows s flat (x * s.bytes) y 0 1, byte_at-run s flat (x * s.bytes) 0 y))

-- no pixel close to the origin has an address of 60 bits or more
abbrev pub Low : Surface → Type 0
Low s = (x y : ℕ) → x < 8192 → y < 8192 → byte_of s x y 0 < 2 ^ 60

pub small_low : {s : Surface} → Small s → Low s
unfolding byte_of
small_low {s} small x y hx hy =
    let p : x * s.bytes ≤ x * 5 = mul-le-mul_left x (omega arith) in
    byte_at-small (record { small = small; across = omega arith; down = omega arith })

module _ (s : Surface) (flat : s.tiled ≡ false) (low : Low s) (x y : ℕ) (hx : x < 8192) (hy : y < 8192) where
  go-across : (x' : ℕ) → (up : Bool) → Step up 1 x x' → byte_of s x' y 0 < 2 ^ 60 → byte_of s x' y 0 ≡ (byte_of s x y 0 + shift up s.bytes) % 2 ^ 64
  go-across x' up e h = shift-sum up s.bytes (byte_of s x y 0) (byte_of s x' y 0) (low x y hx hy) h (by_way up e)
    where
      by_way : (up : Bool) → Step up 1 x x' → Step up s.bytes (byte_of s x y 0) (byte_of s x' y 0)
      by_way true e = step_right s flat x x' y e
      by_way false e = step_right s flat x' x y e

  go-down : (y' : ℕ) → (up : Bool) → Step up 1 y y' → byte_of s x y' 0 < 2 ^ 60 → byte_of s x y' 0 ≡ (byte_of s x y 0 + shift up s.stride) % 2 ^ 64
  go-down y' up e h = shift-sum up s.stride (byte_of s x y 0) (byte_of s x y' 0) (low x y hx hy) h (by_way up e)
    where
      by_way : (up : Bool) → Step up 1 y y' → Step up s.stride (byte_of s x y 0) (byte_of s x y' 0)
      by_way true e = step_down s flat x y y' e
      by_way false e = step_down s flat x y' y e

-- ---- the walk
pub steps-small : (bytes stride : ℕ) (l : Line) → Placed l → (steps_of bytes stride l).limit + (steps_of bytes stride l).more < 2 ^ 32
unfolding steps_of
steps-small bytes stride l h = omega (arith, longer-lt h, shorter-le l)

pub walk_start : (s : Surface) (l : Line) (a r : ℕ) → a ≡ byte_of s (l.x0 - origin) (l.y0 - origin) 0 → r ≡ longer l → AtPoint s l 0 (walk a r)
walk_start s l a r e f = record { at = rw (first l) e; rest = f ∙ start-rest (longer l) (shorter l) }

abbrev address : Surface → Point → ℕ
address s p = byte_of s (p.x - origin) (p.y - origin) 0

-- a point at the origin or after it
pub record Shown (p : Point) : Type 0 where
  pub x : origin ≤ p.x
  pub y : origin ≤ p.y

pub ahead-shown : {l : Line} → Ahead l → (i : ℕ) → i ≤ longer l → Shown (point_at l i)
ahead-shown {l} ahead i h = let b = point-box l i h in record { x = omega (arith, b.x.low); y = omega (arith, b.y.low) }

module _ (s : Surface) (flat : s.tiled ≡ false) (low : Low s) (l : Line) (placed : Placed l) (i : ℕ) (h : i + 1 ≤ longer l) (here : Shown (point_at l i)) (there : Shown (point_at l (i + 1))) where
  abbrev p : Point
  p = point_at l i

  abbrev p' : Point
  p' = point_at l (i + 1)

  moves-across : Step (leb l.x0 l.x1) 1 (p.x - origin) (p'.x - origin) → p'.y ≡ p.y → address s p' ≡ (address s p + across s.bytes l) % 2 ^ 64
  moves-across e f =
      let b = point-box l i (omega arith) in
      let b' = point-box l (i + 1) h in
      rw f (go-across s flat low (p.x - origin) (p.y - origin) (omega arith) (omega arith) (p'.x - origin) _ e
      (low (p'.x - origin) (p.y - origin) (omega arith) (omega arith)))

  moves-down : Step (leb l.y0 l.y1) 1 (p.y - origin) (p'.y - origin) → p'.x ≡ p.x → address s p' ≡ (address s p + down s.stride l) % 2 ^ 64
  moves-down e f =
      let b = point-box l i (omega arith) in
      let b' = point-box l (i + 1) h in
      rw f (go-down s flat low (p.x - origin) (p.y - origin) (omega arith) (omega arith) (p'.y - origin) _ e
      (low (p.x - origin) (p'.y - origin) (omega arith) (omega arith)))

  moves_both : Step (leb l.x0 l.x1) 1 (p.x - origin) (p'.x - origin) → Step (leb l.y0 l.y1) 1 (p.y - origin) (p'.y - origin)
      → address s p' ≡ (address s p + (across s.bytes l + down s.stride l) % 2 ^ 64) % 2 ^ 64
  moves_both e f =
      let b = point-box l i (omega arith) in
      let b' = point-box l (i + 1) h in
      let mid = low (p'.x - origin) (p.y - origin) (omega arith) (omega arith) in
      let one = go-across s flat low (p.x - origin) (p.y - origin) (omega arith) (omega arith) (p'.x - origin) _ e mid in
      let two = go-down s flat low (p'.x - origin) (p.y - origin) (omega arith) (omega arith) (p'.y - origin) _ f
      (low (p'.x - origin) (p'.y - origin) (omega arith) (omega arith)) in
      two ∙ ap (λ (a : ℕ). (a + down s.stride l) % 2 ^ 64) one ∙ both-sum (address s p) (across s.bytes l) (down s.stride l)

  along-x : x_major l ≡ true → aside (longer l) (shorter l) (i + 1) ≡ aside (longer l) (shorter l) i → address s p' ≡ (address s p + across s.bytes l) % 2 ^ 64
  unfolding point_at
  along-x e f =
      let a = subst Shown (place-x l i _ e) here in
      let b = subst Shown (place-x l (i + 1) _ e) there in
      moves-across (rw (place-x l i _ e, place-x l (i + 1) _ e) (towards-next l.x0 l.x1 i a.x b.x (omega (arith, longer-x l e))))
      (rw (place-x l i _ e, place-x l (i + 1) _ e, f))

  along-y : x_major l ≡ false → aside (longer l) (shorter l) (i + 1) ≡ aside (longer l) (shorter l) i → address s p' ≡ (address s p + down s.stride l) % 2 ^ 64
  unfolding point_at
  along-y e f =
      let a = subst Shown (place-y l i _ e) here in
      let b = subst Shown (place-y l (i + 1) _ e) there in
      moves-down (rw (place-y l i _ e, place-y l (i + 1) _ e) (towards-next l.y0 l.y1 i a.y b.y (omega (arith, longer-y l e))))
      (rw (place-y l i _ e, place-y l (i + 1) _ e, f))

  along-both : aside (longer l) (shorter l) (i + 1) ≡ aside (longer l) (shorter l) i + 1
      → address s p' ≡ (address s p + (across s.bytes l + down s.stride l) % 2 ^ 64) % 2 ^ 64
  unfolding point_at
  along-both f =
      let k = aside-le (longer l) (shorter l) (i + 1) (shorter-le l) h in
      either (x_major l)
      (λ e.
      let a = subst Shown (place-x l i _ e) here in
      let b = rw f at (subst Shown (place-x l (i + 1) _ e) there) in
      moves_both (rw (place-x l i _ e, place-x l (i + 1) _ e) (towards-next l.x0 l.x1 i a.x b.x (omega (arith, longer-x l e))))
      (rw (place-x l i _ e, place-x l (i + 1) _ e, f) (towards-next l.y0 l.y1 _ a.y b.y (omega (arith, shorter-y l e)))))
      (λ e.
      let a = subst Shown (place-y l i _ e) here in
      let b = rw f at (subst Shown (place-y l (i + 1) _ e) there) in
      moves_both (rw (place-y l i _ e, place-y l (i + 1) _ e, f) (towards-next l.x0 l.x1 _ a.x b.x (omega (arith, shorter-x l e))))
      (rw (place-y l i _ e, place-y l (i + 1) _ e) (towards-next l.y0 l.y1 i a.y b.y (omega (arith, longer-y l e)))))

  pub step-next : (w : Walk) → AtPoint s l i w → AtPoint s l (i + 1) (walked_on (steps_of s.bytes s.stride l) w)
  unfolding walked_on steps_of
  step-next w at =
      let n = longer l in
      let m = shorter l in
      let low = shorter-le l in
      either (ltb w.rest (2 * n - 2 * m))
      (λ e.
      let a = aside-stays n m i low (omega arith) (rw at.rest at (ltb-true w.rest (2 * n - 2 * m) e)) in
      rw e (record {
        at = either (x_major l) (λ f. rw f (ap (λ (b : ℕ). (b + across s.bytes l) % 2 ^ 64) at.at ∙ sym (along-x f a.0))) (λ f. rw f (ap (λ (b : ℕ). (b + down s.stride l) % 2 ^ 64) at.at ∙ sym (along-y f a.0)));
        rest = ap (λ (r : ℕ). r + 2 * m) at.rest ∙ sym a.1;
      }))
      (λ e.
      let a = aside_grows n m i low (omega arith) (rw at.rest at (ltb-false w.rest (2 * n - 2 * m) e)) in
      rw e (record {
        at = ap (λ (b : ℕ). (b + (across s.bytes l + down s.stride l) % 2 ^ 64) % 2 ^ 64) at.at ∙ sym (along-both a.0);
        rest = ap (λ (r : ℕ). r - (2 * n - 2 * m)) at.rest ∙ sym a.1;
      }))

-- the same of a line whose ends are at the origin or after it
pub walk-next : (s : Surface) → s.tiled ≡ false → Low s → (l : Line) → Ahead l → (i : ℕ) → i + 1 ≤ longer l → (w : Walk) → AtPoint s l i w
    → AtPoint s l (i + 1) (walked_on (steps_of s.bytes s.stride l) w)
walk-next s flat low l ahead i h = step-next s flat low l ahead.line i h (ahead-shown ahead i (omega arith)) (ahead-shown ahead (i + 1) h)
