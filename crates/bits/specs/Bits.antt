-- What the pixels of a mono source are given: bit 1 the one colour, bit 0 the other one, or nothing where that is transparent.
-- Assumes nothing.
use Rattle.std.specs.Prelude.{cond, List, map, ℕ, ◌+◌, ◌-◌, ◌/◌, ◌%◌, ◌^◌, eqb}
use Rattle.std.proofs.Math.Option.{Option, none, some}
use Rattle.surface.specs.Place.{mono_bit}
use Rattle.surface.specs.Pixels.{Px}
use Rattle.paint.specs.Paint.{Touch, touch}
use Rattle.bits.specs.declared.Plain.{Plain}
use Rattle.bits.specs.declared.Mono.{Mono}

unfoldable pub coloured : Plain → ℕ → Option ℕ
coloured p bit = cond (eqb bit 1) (some p.fore) (cond p.clear none (some p.back))

-- bit k of a byte, counted from the highest
abbrev pub bit_of : ℕ → ℕ → ℕ
bit_of byte k = byte / 2 ^ (7 - k) % 2

-- pixels of a row, the one at column x from bit k of a byte
abbrev pub byte_touches : Plain → ℕ → ℕ → ℕ → List Px → List Touch
byte_touches p byte k x ps = map (λ q. touch q (λ now. coloured p (bit_of byte (k + (q.x - x))))) ps

-- a pixel of the rectangle, from its source pixel
unfoldable pub mono_giving : Mono → List ℕ → Px → Option ℕ
mono_giving t now q = coloured t.plain (mono_bit now t.from (t.sx + (q.x - t.x)) (t.sy + (q.y - t.y)))

abbrev pub monoly : Mono → List Px → List Touch
monoly t ps = map (λ q. touch q (λ now. mono_giving t now q)) ps
