-- The word lineStyle by its four fields, which it gives back.
-- Assumes nothing.
use Rattle.std.specs.Prelude.{◌≡◌, ℕ, ◌<◌}
use Rattle.std.proofs.Common.{arith}
use Rattle.line.specs.Stipple.{repeat_count, size, position, bit_number, style_of}
use Rattle.strokes.specs.declared.Phase.TheInside.{Inside}

abbrev pub word_of : Inside → ℕ
word_of p = style_of p.repeat p.size p.position p.bit

abbrev pub fields_of : ℕ → Inside
fields_of style = record { repeat = repeat_count style; size = size style; position = position style; bit = bit_number style }

pub record Fields (p : Inside) : Type 0 where
  pub repeat : p.repeat < 256
  pub size : p.size < 32
  pub position : p.position < 256
  pub bit : p.bit < 32

pub fields-back : (p : Inside) → Fields p → fields_of (word_of p) ≡ p
fields-back p h =
    let e : repeat_count (word_of p) ≡ p.repeat = omega (arith, h.repeat, h.size, h.position, h.bit) in
    let f : size (word_of p) ≡ p.size = omega (arith, h.repeat, h.size, h.position, h.bit) in
    let g : position (word_of p) ≡ p.position = omega (arith, h.repeat, h.size, h.position, h.bit) in
    let k : bit_number (word_of p) ≡ p.bit = omega (arith, h.repeat, h.size, h.position, h.bit) in
    λ i. record { repeat = e i; size = f i; position = g i; bit = k i }
