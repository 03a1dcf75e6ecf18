-- What the registers say of a command's place: its number and size, the clip, and the rectangle that the clip leaves.
-- Assumes nothing.
use Rattle.std.specs.Prelude.{Bool, false, cond, List, map, ℕ, ◌+◌, ◌-◌, ◌/◌, ◌%◌, ◌^◌, min, max, eqb}
use Rattle.surface.specs.Pixels.{Px, px, rect, origin}
use Rattle.paint.specs.declared.Clip.{Clip}
use Rattle.registers.specs.declared.Regs.{Regs}
use Rattle.positions.specs.Position.{placed}
use Rattle.cuts.specs.declared.Cut.{Cut}

abbrev pub bit : ℕ → ℕ → Bool
bit word k = eqb (word / 2 ^ k % 2) 1

-- ---- the command
abbrev pub number : Regs → ℕ
number r = r.command % 16

abbrev pub low13 : ℕ → ℕ
low13 word = word % 2 ^ 13

abbrev pub high13 : ℕ → ℕ
high13 word = word / 2 ^ 16 % 2 ^ 13

abbrev pub width : Regs → ℕ
width r = low13 r.dst_size

abbrev pub height : Regs → ℕ
height r = high13 r.dst_size

-- ---- the clip that bit 23 selects
abbrev pub clip_by : ℕ → ℕ → Clip
clip_by least most = record { left = least % 2 ^ 12; right = most % 2 ^ 12; top = least / 2 ^ 16 % 2 ^ 12; bottom = most / 2 ^ 16 % 2 ^ 12 }

unfoldable pub clip_of : Regs → Clip
clip_of r = cond (bit r.command 23) (clip_by r.clip1_min r.clip1_max) (clip_by r.clip0_min r.clip0_max)

-- ---- the rectangle that the clip leaves of the target rectangle, and where its source begins
-- Positions of registers count from 16384; the pixels that are left count from 0, and the source's first pixel still from 16384, since it may be negative.

-- the first place of n that end at `at`, or begin there
abbrev pub first_of : Bool → ℕ → ℕ → ℕ
first_of last at n = cond last (at - (n - 1)) at

-- on one axis: where n places from `at` meet the clip's from `least` up to, and without, `most`
abbrev pub cut_low : ℕ → ℕ → ℕ
cut_low least at = max at (origin + least)

abbrev pub cut_size : ℕ → ℕ → ℕ → ℕ → ℕ
cut_size least most at n = min (at + n) (origin + most) - cut_low least at

unfoldable pub cut_at : Clip → ℕ → ℕ → ℕ → ℕ → ℕ → ℕ → Cut
cut_at c x y w h sx sy = record {
  x = cut_low c.left x - origin;
  y = cut_low c.top y - origin;
  w = cut_size c.left c.right x w;
  h = cut_size c.top c.bottom y h;
  sx = sx + (cut_low c.left x - x);
  sy = sy + (cut_low c.top y - y);
}

-- a fill or a host blit: dstXY is the upper left pixel
unfoldable pub fill_cut : Regs → Cut
fill_cut r = cut_at (clip_of r) (placed r.dst_xy) (placed (r.dst_xy / 2 ^ 16)) (width r) (height r) origin origin

-- a copy: bits 14 and 15 make both XY registers name the right column and the bottom row
unfoldable pub copy_cut : Regs → Cut
copy_cut r =
    cut_at (clip_of r)
    (first_of (bit r.command 14) (placed r.dst_xy) (width r))
    (first_of (bit r.command 15) (placed (r.dst_xy / 2 ^ 16)) (height r))
    (width r) (height r)
    (first_of (bit r.command 14) (placed r.src_xy) (width r))
    (first_of (bit r.command 15) (placed (r.src_xy / 2 ^ 16)) (height r))

-- the covered pixels of what the clip leaves, from the corner that two flags name, and from the upper left one; and the source positions that they need
abbrev pub covered_from : Bool → Bool → Cut → List Px
covered_from to_left to_top c = rect to_left to_top c.x c.y c.w c.h

abbrev pub covered : Cut → List Px
covered c = covered_from false false c

-- of a copy, in its order: from the corner that bits 14 and 15 name
abbrev pub copy_order : Regs → List Px
copy_order r = covered_from (bit r.command 14) (bit r.command 15) (copy_cut r)

abbrev pub needed : Cut → List Px
needed c = map (λ p. px (c.sx + (p.x - c.x)) (c.sy + (p.y - c.y))) (covered c)
