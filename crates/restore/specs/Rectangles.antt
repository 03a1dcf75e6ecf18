-- The rectangles of a copy, on their surfaces. Positions count from 16384, as registers' positions do.
-- Assumes nothing.
use Rattle.std.specs.Prelude.{◌≡◌, ◌⊎◌, false, List, ℕ, ◌/◌, ◌^◌}
use Rattle.surface.specs.declared.Surface.{Surface}
use Rattle.surface.specs.Pixels.{Px, px, rect, Inside}
use Rattle.spans.specs.Span.{addresses, span_of, meet}
use Rattle.registers.specs.declared.Regs.{Regs}
use Rattle.positions.specs.Position.{placed}
use Rattle.command.specs.Decode.{target, origins}
use Rattle.cuts.specs.Cut.{width, height}
use Rattle.table.specs.Table.{pixels}

pub record Rectangle : Type 0 where
  pub surface : Surface
  pub x : ℕ
  pub y : ℕ
  pub w : ℕ
  pub h : ℕ

-- the source's and the target's of a copy whose direction bits are clear
abbrev pub source_rect : Regs → Rectangle
source_rect r = record { surface = origins r; x = placed r.src_xy; y = placed (r.src_xy / 2 ^ 16); w = width r; h = height r }

abbrev pub target_rect : Regs → Rectangle
target_rect r = record { surface = target r; x = placed r.dst_xy; y = placed (r.dst_xy / 2 ^ 16); w = width r; h = height r }

abbrev pub positions : Rectangle → List Px
positions t = rect false false t.x t.y t.w t.h

abbrev pub Has : Rectangle → ℕ → ℕ → Type 0
Has t x y = Inside t.x t.y t.w t.h (px x y)

-- the addresses of its pixels' bytes
abbrev pub addresses_in : Rectangle → List ℕ
addresses_in t = addresses t.surface (pixels (positions t))

-- on the same surface, with no pixel in both; or with spans that do not meet
abbrev pub Apart : Rectangle → Rectangle → Type 0
Apart s t =
    ((s.surface ≡ t.surface) × ((x y : ℕ) → Has s x y → Has t x y → ⊥))
    ⊎ (meet (span_of s.surface (pixels (positions s))) (span_of t.surface (pixels (positions t))) ≡ false)
