-- What the registers say of a command: its surfaces, its ink, and the work of each command.
-- Assumes nothing.
use Rattle.std.specs.Prelude.{Bool, true, false, not, ◌&&◌, ◌-◌, ◌/◌, ◌%◌, ◌^◌, eqb}
use Rattle.surface.specs.declared.Surface.{Surface}
use Rattle.surface.specs.Place.{surface}
use Rattle.surface.specs.Pixels.{origin}
use Rattle.formats.specs.Format.{target_of, source_of}
use Rattle.ink.specs.declared.Ink.{Ink}
use Rattle.sweep.specs.declared.Task.{Task}
use Rattle.scale.specs.declared.Stretch.{Stretch}
use Rattle.cuts.specs.Cut.{bit, number, low13, high13, width, height, fill_cut, copy_cut}
use Rattle.registers.specs.declared.Regs.{Regs}
use Rattle.positions.specs.Position.{placed}
use Rattle.line.specs.declared.Line.{Line}
use Rattle.line.specs.declared.Pen.{Pen}
use Rattle.host.specs.declared.Feed.{Feed}
use Rattle.bits.specs.declared.Plain.{Plain}

-- ---- surfaces
abbrev pub target : Regs → Surface
target r = target_of r.dst_base_addr r.dst_format

abbrev pub origins : Regs → Surface
origins r = source_of r.src_base_addr r.src_format (width r)

-- a stretch's source: its packed step is worked out from its own width
abbrev pub stretch_origins : Regs → Surface
stretch_origins r = source_of r.src_base_addr r.src_format (low13 r.src_size)

-- ---- the ink, by the fields of command (ROP0 31:24, pattern offsets 22:20 and 19:17, transparency 16, mono pattern 13), of rop and of commandExtra
unfoldable pub ink_of : Regs → Ink
ink_of r = record {
  target = target r;
  fore = r.color_fore;
  back = r.color_back;
  rop0 = r.command / 2 ^ 24 % 2 ^ 8;
  rop1 = r.rop % 2 ^ 8;
  rop2 = r.rop / 2 ^ 8 % 2 ^ 8;
  rop3 = r.rop / 2 ^ 16 % 2 ^ 8;
  src_key = bit r.command_extra 0;
  src_min = r.src_colorkey_min;
  src_max = r.src_colorkey_max;
  dst_key = bit r.command_extra 1;
  dst_min = r.dst_colorkey_min;
  dst_max = r.dst_colorkey_max;
  mono = bit r.command 13;
  forced = bit r.command_extra 3;
  pat_x = r.command / 2 ^ 17 % 8;
  pat_y = r.command / 2 ^ 20 % 8;
  clear = bit r.command 16;
}

-- ---- a plain host blit: raster operation CC and neither key enabled; what it needs of the ink
abbrev pub plain_blit : Regs → Bool
plain_blit r = eqb (r.command / 2 ^ 24 % 2 ^ 8) 0xcc && (not (bit r.command_extra 0) && not (bit r.command_extra 1))

unfoldable pub plain_of : Regs → Plain
plain_of r = record { target = target r; fore = r.color_fore; back = r.color_back; clear = bit r.command 16 }

-- ---- the work of each command
unfoldable pub fill_task : Regs → Task
fill_task r = record {
  ink = ink_of r;
  copies = false;
  from = surface 0 0 0;
  sx = 0;
  sy = 0;
  x = (fill_cut r).x;
  y = (fill_cut r).y;
}

unfoldable pub copy_task : Regs → Task
copy_task r = record {
  ink = ink_of r;
  copies = true;
  from = origins r;
  sx = (copy_cut r).sx - origin;
  sy = (copy_cut r).sy - origin;
  x = (copy_cut r).x;
  y = (copy_cut r).y;
}

-- a stretch: srcXY and dstXY are the upper left pixels, srcSize and dstSize the sizes
unfoldable pub stretch_of : Regs → Stretch
stretch_of r = record {
  ink = ink_of r;
  from = stretch_origins r;
  columns = record { to = placed r.dst_xy; size = width r; from = placed r.src_xy; source_size = low13 r.src_size };
  rows = record { to = placed (r.dst_xy / 2 ^ 16); size = height r; from = placed (r.src_xy / 2 ^ 16); source_size = high13 r.src_size };
}

-- a line runs from srcXY to dstXY; number 7 is a polyline
unfoldable pub line_of : Regs → Line
line_of r = record {
  x0 = placed r.src_xy;
  y0 = placed (r.src_xy / 2 ^ 16);
  x1 = placed r.dst_xy;
  y1 = placed (r.dst_xy / 2 ^ 16);
  poly = eqb (number r) 7;
}

abbrev pub pen_of : Regs → Pen
pen_of r = record { stipple = r.line_stipple; stippled = bit r.command 12 }

unfoldable pub feed_of : Regs → Feed
feed_of r = record {
  step = (origins r).stride;
  width = width r;
  height = height r;
  bytes = (origins r).bytes;
  x = placed r.dst_xy;
  y = placed (r.dst_xy / 2 ^ 16);
}
