-- Rows 5 to 8 of the table of answers, for each command: the number of the first row that applies, 0 where none does.
-- Assumes nothing.
use Rattle.std.specs.Prelude.{Bool, true, false, cond, not, ◌&&◌, ◌||◌, List, [], ◌∷◌, map, ℕ, ◌+◌, ◌-◌, ◌/◌, ◌%◌, ◌^◌, eqb, leb, ltb}
use Rattle.colour.specs.Convert.{allowed}
use Rattle.surface.specs.declared.Surface.{Surface}
use Rattle.surface.specs.Place.{same_surface, on_surface}
use Rattle.surface.specs.Pixels.{Px, origin}
use Rattle.spans.specs.Span.{all_on, span_of, meet}
use Rattle.formats.specs.Format.{target_named, source_named, host_named}
use Rattle.formats.specs.Step.{packing_of, row_length}
use Rattle.paint.specs.Clip.{pixel_at}
use Rattle.line.specs.Line.{points}
use Rattle.line.specs.Draw.{line_off}
use Rattle.registers.specs.declared.Regs.{Regs}
use Rattle.cuts.specs.declared.Cut.{Cut}
use Rattle.table.specs.declared.Reach.{Reach}
use Rattle.scale.specs.declared.Scale.{Scale}
use Rattle.scale.specs.declared.Stretch.{Stretch}
use Rattle.scale.specs.Scale.{scaled}
use Rattle.scale.specs.Stretch.{taken_at}
use Rattle.command.specs.Decode.{target, origins, stretch_origins, stretch_of, line_of}
use Rattle.cuts.specs.Cut.{low13, high13, width, height, clip_of, fill_cut, copy_cut, covered, needed}

-- ---- row 5: a surface has a format not listed, a mono, packed or host-blit source is tiled, or the conversion is not allowed
abbrev pub target_fine : Regs → Bool
target_fine r = target_named r.dst_format

-- with a source that is named or not
abbrev pub fine_with : Bool → Regs → Bool
fine_with named r = target_fine r && (named && allowed (origins r).bytes (target r).bytes)

abbrev pub both_fine : Regs → Bool
both_fine r = fine_with (source_named r.src_base_addr r.src_format) r

abbrev pub host_fine : Regs → Bool
host_fine r = fine_with (host_named r.src_base_addr r.src_format) r

-- ---- row 7: a source position, counted from 16384, is on its surface
abbrev pub on_at : Surface → ℕ → Px → Bool
on_at s len q = (leb origin q.x && leb origin q.y) && on_surface s len (q.x - origin) (q.y - origin)

unfoldable pub all_on_at : Surface → ℕ → List Px → Bool
all_on_at s len [] = true
all_on_at s len (q ∷ qs) = on_at s len q && all_on_at s len qs

abbrev pub pixels : List Px → List Px
pixels qs = map (λ q. pixel_at q.x q.y) qs

-- ---- the commands
unfoldable pub fill_verdict : Regs → ℕ → ℕ
fill_verdict r len = cond (not (target_fine r)) 5 (cond (not (all_on (target r) len (covered (fill_cut r)))) 7 0)

unfoldable pub copy_verdict : Regs → ℕ → ℕ
copy_verdict r len =
    cond (not (both_fine r)) 5
    (cond (not (all_on (target r) len (covered (copy_cut r))) || not (all_on_at (origins r) len (needed (copy_cut r)))) 7
    (cond (not (same_surface (target r) (origins r)) && meet (span_of (target r) (covered (copy_cut r))) (span_of (origins r) (pixels (needed (copy_cut r))))) 8
    0))

-- the source positions that the covered pixels of a stretch take
abbrev pub stretch_needed : Regs → List Px
stretch_needed r = map (taken_at (stretch_of r)) (covered (fill_cut r))

-- row 6, for a stretch: a source of no width or no height, and a target that has both
abbrev pub stretch_fault : Regs → Bool
stretch_fault r = (ltb 0 (width r) && ltb 0 (height r)) && (eqb (low13 r.src_size) 0 || eqb (high13 r.src_size) 0)

-- spans that meet are refused on one surface too
unfoldable pub stretch_verdict : Regs → ℕ → ℕ
stretch_verdict r len =
    cond (not (both_fine r)) 5
    (cond (stretch_fault r) 6
    (cond (not (all_on (target r) len (covered (fill_cut r))) || not (all_on_at (stretch_origins r) len (stretch_needed r))) 7
    (cond (meet (span_of (target r) (covered (fill_cut r))) (span_of (stretch_origins r) (pixels (stretch_needed r)))) 8
    0)))

-- row 6, for a host blit: swizzle bits, direction bits or srcXY not 0, or packing 0 with a stride below the row's bytes
abbrev pub host_fault : Regs → Bool
host_fault r =
    not (eqb (r.src_format / 2 ^ 20 % 4) 0)
    || (not (eqb (r.command / 2 ^ 14 % 4) 0)
    || (not (eqb r.src_xy 0)
    || (eqb (packing_of r.src_format) 0 && ltb (origins r).stride (row_length (origins r).bytes (width r)))))

unfoldable pub host_verdict : Regs → ℕ → ℕ
host_verdict r len =
    cond (not (host_fine r)) 5 (cond (host_fault r) 6 (cond (not (all_on (target r) len (covered (fill_cut r)))) 7 0))

unfoldable pub line_verdict : Regs → ℕ → ℕ
line_verdict r len = cond (not (target_fine r)) 5 (cond (line_off (target r) len (clip_of r) (points (line_of r))) 7 0)

-- ---- row 7 of a fill or a host blit
abbrev pub target_row : Regs → ℕ → ℕ
target_row r len = cond (not (all_on (target r) len (covered (fill_cut r)))) 7 0

-- ---- rows 7 and 8 of a command that paints the pixels of a cut and takes source positions; a lenient one may have both on one surface
unfoldable pub source_rows : Surface → Surface → ℕ → Cut → List Px → Bool → ℕ
source_rows t s len c qs lenient =
    cond (not (all_on t len (covered c)) || not (all_on_at s len qs)) 7
    (cond (not (lenient && same_surface t s) && meet (span_of t (covered c)) (span_of s (pixels qs))) 8
    0)

-- ---- a stretch to the pixels of a cut
-- its rows 7 and 8
abbrev pub stretch_rows : Stretch → Cut → ℕ → ℕ
stretch_rows t c len = source_rows t.ink.target t.from len c (map (taken_at t) (covered c)) false

-- on one axis: the source place that the first of n target places takes, and how many there are from it to that of the last
unfoldable pub reach_of : Scale → ℕ → ℕ → Reach
reach_of s at n = record { at = scaled s (origin + at); n = scaled s (origin + (at + (n - 1))) - scaled s (origin + at) + 1 }

-- the box of the source positions that the pixels take; its x and y say nothing
unfoldable pub taken_cut : Stretch → Cut → Cut
taken_cut t c =
    let across = reach_of t.columns c.x c.w in
    let down = reach_of t.rows c.y c.h in
    record { x = 0; y = 0; w = across.n; h = down.n; sx = across.at; sy = down.at }
