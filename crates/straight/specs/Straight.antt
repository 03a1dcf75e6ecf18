-- Straight copies: each pixel is given its source, converted, or stays as it is where the source matches the key.
-- Assumes nothing.
use Rattle.std.specs.Prelude.{Bool, cond, ◌&&◌, List, map, ℕ, ◌+◌, ◌-◌, ◌%◌, ◌^◌}
use Rattle.std.proofs.Math.Option.{Option, some}
use Rattle.colour.specs.Convert.{converted}
use Rattle.keys.specs.Key.{key_match}
use Rattle.surface.specs.Place.{read_bytes, write_bytes, read_px}
use Rattle.surface.specs.Pixels.{Px}
use Rattle.paint.specs.Paint.{Touch, touch}
use Rattle.straight.specs.declared.Straight.{Straight}

-- whether a source of value v matches the key, if there is one
abbrev pub keyed : Straight → ℕ → Bool
keyed t v = t.key && key_match t.from.bytes t.least t.most v

-- what a pixel of value `old` is given: what stands there where its source, of value v, matches the key, else its source, converted
abbrev pub straight_value : Straight → ℕ → ℕ → ℕ
straight_value t old v = cond (keyed t v) old (converted t.from.bytes t.target.bytes v) % 2 ^ 32

-- what pixel p is given
unfoldable pub straight_giving : Straight → List ℕ → Px → Option ℕ
straight_giving t now p =
    some (straight_value t (read_px now t.target p.x p.y) (read_px now t.from (t.sx + (p.x - t.x)) (t.sy + (p.y - t.y))))

-- each pixel, from the source as it is when its turn comes
abbrev pub straightly : Straight → List Px → List Touch
straightly t ps = map (λ p. touch p (λ now. straight_giving t now p)) ps

-- a memory in which the pixel whose bytes begin at d was given the source whose bytes begin at s
unfoldable pub copied : Straight → ℕ → ℕ → List ℕ → List ℕ
copied t d s m =
    write_bytes (λ k. d + k) 0 t.target.bytes
    (straight_value t (read_bytes m (λ k. d + k) 0 t.target.bytes) (read_bytes m (λ k. s + k) 0 t.from.bytes)) m
