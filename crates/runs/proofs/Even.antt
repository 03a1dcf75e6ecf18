-- A rectangle of one value, by its bytes.
-- Assumes nothing.
use mathlib.Core.Path.{◌≡◌, refl, ap, subst, ◌∙◌}
use mathlib.Core.Bool.{false}
use mathlib.Core.List.{List, [], ◌∷◌}
use mathlib.Core.Option.{some}
use Prim.Native.Nat.{ℕ, zero, suc, ◌+◌, ◌-◌, ◌*◌, ◌/◌, ◌%◌, ◌^◌, ◌<◌, ◌≤◌}
use native.Mathlib.Nat.{div-one, pow-suc, mul_comm, div-div-eq-div-mul}
use native.Mathlib.Decide.{ℕ_discrete}
use lib.ListN.{length, get_or, set}
use lib.Seq.{get_or-set_same, lt-length-set}
use native.Mathlib.Omega.{arith}
use Rattle.surface.specs.declared.Surface.{Surface}
use Rattle.surface.specs.Place.{byte_of, write_bytes, write_px}
use Rattle.surface.specs.Asked.{OnColour}
use Rattle.surface.specs.Pixels.{Px, rect, Inside}
use Rattle.surface.proofs.Bytes.{written-other}
use Rattle.surface.proofs.OnLaws.{colour-byte, on-column}
use Rattle.surface.proofs.Pixels.{same_byte}
use Rattle.surface.proofs.Lists.{by_cases}
use Rattle.surface.proofs.Rects.{in-rect, rect-in, rect-distinct, rect-length}
use Rattle.paint.specs.Tally.{tally}
use Rattle.paint.specs.Paint.{State, state, dab, paint, changing, summed}
use Rattle.runs.specs.Runs.{Given, evenly}
use Rattle.runs.specs.Asked.{RectOn}
use Rattle.paint.proofs.Owners.{byte-of, of-byte}
use Rattle.paint.proofs.Settle.{Settled, settled, counted}

abbrev pub byte_number : ℕ → Px → ℕ → ℕ
byte_number v p k = v / 256 ^ k % 256

written_byte : (at : ℕ → ℕ) (k n v : ℕ) (m : List ℕ) (j : ℕ) → k ≤ j → j < k + n → ((a b : ℕ) → a < k + n → b < k + n → at a ≡ at b → a ≡ b)
    → ((b : ℕ) → b < k + n → at b < length m) → get_or (write_bytes at k n v m) (at j) 0 ≡ v / 256 ^ (j - k) % 256
unfolding write_bytes
written_byte at k zero v m j l u differ inside = absurd (omega arith)
written_byte at k (suc n) v m j l u differ inside =
    let m₁ = set m (at k) (v % 256) in
    by_cases (ℕ_discrete k j)
    (λ e. subst (λ (i : ℕ). get_or (write_bytes at (suc k) n (v / 256) m₁) (at i) 0 ≡ v / 256 ^ (i - k) % 256) e
    (written-other at (suc k) n (v / 256) m₁ (at k) (λ i f g w. let q : k ≡ i = differ k i (omega arith) (omega arith) w in omega arith)
    ∙ get_or-set_same m (at k) (v % 256) 0 (inside k (omega arith))
    ∙ let z : k - k ≡ 0 = omega arith in rw z (let o : v / 256 ^ 0 ≡ v = div-one v in rw o refl)))
    (λ e. written_byte at (suc k) n (v / 256) m₁ j (omega arith) (omega arith) (λ a c f g. differ a c (omega arith) (omega arith))
    (λ i f. lt-length-set m (at k) (v % 256) (inside i (omega arith)))
    ∙ let s : j - k ≡ suc (j - suc k) = omega arith in
    rw (s, pow-suc 256 (j - suc k)) (ap (λ (u : ℕ). u % 256) (div-div-eq-div-mul v 256 (256 ^ (j - suc k)) ∙ ap (λ (u : ℕ). v / u) (mul_comm 256 (256 ^ (j - suc k))))))

all_one : (v : ℕ) (ps : List Px) → summed (λ p. counted (some v)) ps ≡ length ps
unfolding summed
all_one v [] = refl
all_one v (p ∷ ps) = let e = all_one v ps in omega (arith, e)

module _ (s : Surface) (v x y w h : ℕ) (m : List ℕ) (on : RectOn s (length m) x y w h) where
  abbrev colour : 0 < s.bytes
  colour = on.colour.some

  abbrev whole : State
  whole = paint s (evenly v (rect false false x y w h)) (state m 0 0)

  pixel-on : (p : Px) → Inside x y w h p → OnColour s (length m) p.x p.y
  pixel-on p i = on.on p.x p.y i.left i.right i.top i.bottom

  here : Settled s (λ was now p. some v) m (rect false false x y w h) (state m 0 0) whole
  here =
      settled s colour (λ was now p. some v) (λ p a. ⊥) (record { same = λ p a b c d f g. refl }) m (rect false false x y w h) (tally 0 0) (rect-distinct false false x y w h)
      (λ p i. on-column s (length m) p.x p.y (pixel-on p (in-rect false false x y w h p i)).on)

  pub even-given : Given s (byte_number v) x y w h m whole.mem
  unfolding dab write_px
  even-given = record {
    inside = λ p i k l.
        let column = on-column s (length m) p.x p.y (pixel-on p i).on in
        here.given p (rect-in false false x y w h p i) (byte_of s p.x p.y k) (byte-of s colour p k l)
        ∙ written_byte (byte_of s p.x p.y) 0 s.bytes v m k (omega arith) (omega arith)
        (λ a b f g e. (same_byte s p.x p.y a p.x p.y b column column (omega arith) (omega arith) e).2)
        (λ b f. (colour-byte (pixel-on p i) b (omega arith)).inside)
        ∙ ap (λ (j : ℕ). v / 256 ^ j % 256) (omega arith);
    others = λ a f. here.others a (λ p i b. let k = of-byte s colour p a b in f p (in-rect false false x y w h p i) b.k k.0 k.1);
    long = here.long;
  }

  pub even-counts : whole.tally.count ≡ w * h
  even-counts = omega (arith, here.counts, all_one v (rect false false x y w h), rect-length false false x y w h, mul_comm w h)

  pub even-changes : whole.tally.changed ≡ summed (changing s m whole.mem) (rect false false x y w h)
  even-changes = here.changes ∙ omega arith
