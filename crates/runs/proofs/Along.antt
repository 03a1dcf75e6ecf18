-- Pixels from an address on that are all given one value: the loops over them, one by one or in parts, and that a row's pixels are such.
-- Assumes nothing.
use mathlib.Core.Path.{◌≡◌, refl, sym, ap, ap₂, subst, ◌∙◌}
use mathlib.Core.Bool.{Bool, false}
use mathlib.Core.List.{List}
use mathlib.Core.Option.{some}
use Prim.Native.Nat.{ℕ, zero, suc, ◌+◌, ◌-◌, ◌*◌, ◌<◌, ◌≤◌}
use native.Mathlib.Nat.{add-mul, mul-one}
use native.Mathlib.Omega.{arith}
use lib.ListN.{length}
use Rattle.surface.specs.declared.Surface.{Surface}
use Rattle.surface.specs.Place.{byte_of, write_bytes, one, differ}
use Rattle.surface.specs.Pixels.{px, across}
use Rattle.surface.proofs.Bytes.{length-written}
use Rattle.surface.proofs.OnLaws.{one-most}
use Rattle.surface.proofs.Run.{in-rows, run-pixel}
use Rattle.paint.specs.Tally.{tally, noted}
use Rattle.paint.specs.Paint.{State, tallied, state, dab, dab_at, paint}
use Rattle.paint.proofs.Turns.{dab_at-stored, dab-at}
use Rattle.runs.specs.Runs.{evenly, even_at}

-- ---- pixels from an address on: what they add to a tally is the same after any tally
after : ℕ → ℕ → State → State
after n c st = tallied st.mem (noted st.tally.count st.tally.changed (tally n c))

even-after : (b v at w n c : ℕ) (st : State) → even_at b v at w (after n c st) ≡ after n c (even_at b v at w st)
unfolding even_at dab_at after
even-after b v at zero n c st = refl
even-after b v at (suc w) n c st =
    let d = one (differ (λ k. at + k) b st.mem (write_bytes (λ k. at + k) 0 b v st.mem)) in
    let e : n + st.tally.count + 1 ≡ n + (st.tally.count + 1) = omega arith in
    let f : c + st.tally.changed + d ≡ c + (st.tally.changed + d) = omega arith in
    rw (e, f) (even-after b v (at + b) w n c (dab_at at b (some v) st))

even-split : (b v at k w : ℕ) (st : State) → even_at b v at (k + w) st ≡ even_at b v (at + k * b) w (even_at b v at k st)
unfolding even_at
even-split b v at zero w st = let p : at + 0 * b ≡ at = omega arith in let z : 0 + w ≡ w = omega arith in rw (p, z)
even-split b v at (suc k) w st =
    let p : at + suc k * b ≡ at + b + k * b = omega (arith, add-mul k 1 b) in
    let z : suc k + w ≡ suc (k + w) = omega arith in
    rw (p, z) (even-split b v (at + b) k w (dab_at at b (some v) st))

-- no more are changed than there are, and memory keeps its length
even-most : (b v at w : ℕ) (st : State) → ((even_at b v at w st).tally.changed ≤ st.tally.changed + w) × (length (even_at b v at w st).mem ≡ length st.mem)
unfolding even_at dab_at
even-most b v at zero st = (omega arith, refl)
even-most b v at (suc w) st =
    let rest = even-most b v (at + b) w (dab_at at b (some v) st) in (
      omega (arith, rest.0, one-most (differ (λ k. at + k) b st.mem (write_bytes (λ k. at + k) 0 b v st.mem))),
      rest.1 ∙ length-written (λ k. at + k) 0 b v st.mem,
    )

-- ---- a loop over them: after i of them, r of which changed, what is left, painted on the memory now, is all of them painted on the memory at the start
pub record EvenLeft (b v at w : ℕ) (m₀ : List ℕ) (i : ℕ) (m : List ℕ) (r : ℕ) : Type 0 where
  pub painted : even_at b v (at + i * b) (w - i) (state m i r) ≡ even_at b v at w (state m₀ 0 0)
  pub long : length m ≡ length m₀
  pub few : r ≤ i
  pub within : i ≤ w

module _ {b v at w : ℕ} {m₀ : List ℕ} where
  module _ {i r : ℕ} {m : List ℕ} (now : EvenLeft b v at w m₀ i m r) where
    pub even-part : {m' : List ℕ} {c : ℕ} (k : ℕ) → i + k ≤ w → state m' k c ≡ even_at b v (at + i * b) k (state m 0 0)
        → EvenLeft b v at w m₀ (i + k) m' (r + c)
    unfolding after
    even-part {m'} {c} k fits put =
        let most = subst (λ (st : State). (st.tally.changed ≤ 0 + k) × (length st.mem ≡ length m)) (sym put) (even-most b v (at + i * b) k (state m 0 0)) in
        let e = add-mul i k b in
        let p : at + (i + k) * b ≡ at + i * b + k * b = omega arith in
        let z : w - i ≡ k + (w - (i + k)) = omega arith in
        let zi : i + 0 ≡ i = omega arith in
        let zr : r + 0 ≡ r = omega arith in
        let part : state m' (i + k) (r + c) ≡ even_at b v (at + i * b) k (state m i r) =
        ap (after i r) put ∙ sym (even-after b v (at + i * b) k i r (state m 0 0)) ∙ ap₂ (λ (x y : ℕ). even_at b v (at + i * b) k (state m x y)) zi zr in
        record {
          painted = rw p (ap (even_at b v (at + i * b + k * b) (w - (i + k))) part ∙ sym (even-split b v (at + i * b) k (w - (i + k)) (state m i r))
              ∙ ap (λ (n : ℕ). even_at b v (at + i * b) n (state m i r)) (sym z) ∙ now.painted);
          long = most.1 ∙ now.long;
          few = omega (arith, now.few, most.0);
          within = fits;
        }

    pub even-turn : {m' : List ℕ} {d : Bool} {c : ℕ} → i < w → (m' ≡ write_bytes (λ k. at + i * b + k) 0 b v m) × (d ≡ differ (λ k. at + i * b + k) b m m') → c ≡ one d
        → EvenLeft b v at w m₀ (i + 1) m' (r + c)
    unfolding even_at
    even-turn more stored e =
        even-part 1 (omega arith) (dab_at-stored m (tally 0 0) (at + i * b) b v stored e (ap (tally 1) (omega arith)))

    -- bytes
    pub even-bytes : {m' : List ℕ} {c : ℕ} (k : ℕ) → b ≡ 1 → i + k ≤ w → state m' k c ≡ even_at b v (at + i) k (state m 0 0) → EvenLeft b v at w m₀ (i + k) m' (r + c)
    even-bytes {m'} {c} k by fits put =
        let p : i * b ≡ i = rw by (mul-one i) in
        even-part k fits (subst (λ (n : ℕ). state m' k c ≡ even_at b v (at + n) k (state m 0 0)) (sym p) put)

    pub even-ended : w ≤ i → state m w r ≡ even_at b v at w (state m₀ 0 0)
    unfolding even_at
    even-ended all =
        let z : w - i ≡ 0 = omega arith in
        let e : w ≡ i = omega (arith, now.within) in
        ap (λ (n : ℕ). state m n r) e ∙ rw z at now.painted

-- a row's pixels are so
pub row_at : (s : Surface) → s.tiled ≡ false → (v y x at w : ℕ) (st : State) → at ≡ byte_of s x y 0 → even_at s.bytes v at w st ≡ paint s (evenly v (across false x w y)) st
unfolding even_at paint across
row_at s flat v y x at zero st e = refl
row_at s flat v y x at (suc w) st e =
    let next : at + s.bytes ≡ byte_of s (x + 1) y 0 = ap (λ (n : ℕ). at + n) (omega arith) ∙ run-pixel s flat x y at e 1 in
    ap (even_at s.bytes v (at + s.bytes) w) (dab-at s (in-rows flat) (px x y) at (some v) st e) ∙ row_at s flat v y (x + 1) (at + s.bytes) w (dab s (px x y) (some v) st) next
