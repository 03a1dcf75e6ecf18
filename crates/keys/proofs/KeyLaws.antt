-- Laws of the colour key: a channel whose least is above its most never matches; a key of 0 to 0 matches black and nothing else, in every format.
-- Assumes nothing.
use mathlib.Core.Path.{◌≡◌, refl, sym, ap, ap₂, ◌∙◌}
use mathlib.Core.Bool.{Bool, true, false, cond, ◌&&◌, and-false}
use mathlib.Core.List.{List, [], ◌∷◌}
use Prim.Native.Nat.{ℕ, zero, suc, ◌+◌, ◌/◌, ◌%◌, ◌^◌, ◌<◌}
use native.Mathlib.Nat.{zero-div, zero-mod, zero-add, suc-add}
use native.Mathlib.Omega.{arith}
use borrow.Author.Tests.{lt-leb, eq-eqb, ne_eqb, leb-true}
use lib.Dec.{leb, eqb, leb-zero, leb-suc-zero, eqb-suc-zero}
use Rattle.colour.proofs.Bits.{fields}
use Rattle.keys.specs.Key.{Channel, chan, channels, channel, within, all_within, key_match}

-- a channel of a list of channels
pub data Among (c : Channel) : List Channel → Type 0 where
  here : {cs : List Channel} → Among c (c ∷ cs)
  there : {d : Channel} {cs : List Channel} → Among c cs → Among c (d ∷ cs)

-- least above most: no number is between
none_within : (c : Channel) (lo hi v : ℕ) → channel c hi < channel c lo → within c lo hi v ≡ false
unfolding within
none_within c lo hi v h = by-test (leb (channel c lo) (channel c v)) refl
  where
    by-test : (t : Bool) → leb (channel c lo) (channel c v) ≡ t → (t && leb (channel c v) (channel c hi)) ≡ false
    by-test true e = lt-leb (channel c v) (channel c hi) (omega (arith, leb-true (channel c lo) (channel c v) e))
    by-test false e = refl

none-all : {c : Channel} {cs : List Channel} (lo hi v : ℕ) → Among c cs → channel c hi < channel c lo → all_within cs lo hi v ≡ false
none-all {c} lo hi v (here {cs}) h = ap (λ t. t && all_within cs lo hi v) (none_within c lo hi v h)
none-all lo hi v (there {d} {cs} m) h = ap (λ t. within d lo hi v && t) (none-all lo hi v m h) ∙ and-false (within d lo hi v)

pub never : {c : Channel} (bytes lo hi v : ℕ) → Among c (channels bytes) → channel c hi < channel c lo → key_match bytes lo hi v ≡ false
unfolding key_match
never bytes lo hi v m h = none-all lo hi v m h

-- ---- a key of 0 to 0

-- the bits of a pixel that are colour: all but the top byte of four
abbrev pub colour_bits : ℕ → ℕ
colour_bits bytes = cond (eqb bytes 1) 8 (cond (eqb bytes 2) 16 24)

-- one channel, and all of them: their sum is 0
at_zero : (x : ℕ) → (leb 0 x && leb x 0) ≡ eqb x 0
at_zero zero = refl
at_zero (suc n) = simp (leb-zero, leb-suc-zero, eqb-suc-zero)

zero-and : (a b : ℕ) → (eqb a 0 && eqb b 0) ≡ eqb (a + b) 0
zero-and zero b = ap (λ (n : ℕ). eqb n 0) (sym (zero-add b))
zero-and (suc n) b = simp (suc-add, eqb-suc-zero)

sum : List Channel → ℕ → ℕ
sum [] v = 0
sum (c ∷ cs) v = channel c v + sum cs v

black-channel : (c : Channel) (v : ℕ) → within c 0 0 v ≡ eqb (channel c v) 0
unfolding within
black-channel c v = rw (zero-div, zero-mod) (at_zero (channel c v))

black-all : (cs : List Channel) (v : ℕ) → all_within cs 0 0 v ≡ eqb (sum cs v) 0
unfolding sum
black-all [] v = refl
black-all (c ∷ cs) v = ap₂ (λ s t. s && t) (black-channel c v) (black-all cs v) ∙ zero-and (channel c v) (sum cs v)

-- two numbers that are 0 together
together : (a b : ℕ) → (a ≡ 0 → b ≡ 0) → (b ≡ 0 → a ≡ 0) → eqb a 0 ≡ eqb b 0
together zero b f g = sym (eq-eqb b 0 (f refl))
together (suc n) b f g = eqb-suc-zero n ∙ sym (ne_eqb b 0 (λ e. let z : suc n ≡ 0 = g e in omega arith))

black-of : (one two : Bool) (v : ℕ)
    → eqb (sum (cond one (chan 0 256 ∷ []) (cond two (chan 0 32 ∷ chan 5 64 ∷ chan 11 32 ∷ []) (chan 0 256 ∷ chan 8 256 ∷ chan 16 256 ∷ []))) v) 0
    ≡ eqb (v % 2 ^ cond one 8 (cond two 16 24)) 0
unfolding sum
black-of true two v = together (v / 2 ^ 0 % 256 + 0) (v % 2 ^ 8) (λ e. omega arith) (λ e. omega arith)
black-of false true v =
    together (v / 2 ^ 0 % 32 + (v / 2 ^ 5 % 64 + (v / 2 ^ 11 % 32 + 0))) (v % 2 ^ 16)
    (λ e. omega (arith, fields v 5 6 5)) (λ e. omega (arith, fields v 5 6 5))
black-of false false v =
    together (v / 2 ^ 0 % 256 + (v / 2 ^ 8 % 256 + (v / 2 ^ 16 % 256 + 0))) (v % 2 ^ 24)
    (λ e. omega (arith, fields v 8 8 8)) (λ e. omega (arith, fields v 8 8 8))

pub black-only : (bytes v : ℕ) → key_match bytes 0 0 v ≡ eqb (v % 2 ^ colour_bits bytes) 0
unfolding key_match
black-only bytes v = black-all (channels bytes) v ∙ black-of (eqb bytes 1) (eqb bytes 2) v
