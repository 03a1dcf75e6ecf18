-- The registers by their offsets: all 0, after a store, and what one of them holds.
-- Assumes nothing.
use Rattle.std.specs.Prelude.{ℕ, cond, eqb}
use Rattle.registers.specs.declared.Regs.{Regs}

-- all registers 0
abbrev pub no_regs : Regs
no_regs = record {
  clip0_min = 0;
  clip0_max = 0;
  dst_base_addr = 0;
  dst_format = 0;
  src_colorkey_min = 0;
  src_colorkey_max = 0;
  dst_colorkey_min = 0;
  dst_colorkey_max = 0;
  bres_error0 = 0;
  bres_error1 = 0;
  rop = 0;
  src_base_addr = 0;
  command_extra = 0;
  line_stipple = 0;
  line_style = 0;
  clip1_min = 0;
  clip1_max = 0;
  src_format = 0;
  src_size = 0;
  src_xy = 0;
  color_back = 0;
  color_fore = 0;
  dst_size = 0;
  dst_xy = 0;
  command = 0;
}

-- the registers after v is put at an offset; the same ones where the offset names none
unfoldable pub put_reg : ℕ → ℕ → Regs → Regs
put_reg o v r = record {
  clip0_min = cond (eqb o 0x08) v r.clip0_min;
  clip0_max = cond (eqb o 0x0c) v r.clip0_max;
  dst_base_addr = cond (eqb o 0x10) v r.dst_base_addr;
  dst_format = cond (eqb o 0x14) v r.dst_format;
  src_colorkey_min = cond (eqb o 0x18) v r.src_colorkey_min;
  src_colorkey_max = cond (eqb o 0x1c) v r.src_colorkey_max;
  dst_colorkey_min = cond (eqb o 0x20) v r.dst_colorkey_min;
  dst_colorkey_max = cond (eqb o 0x24) v r.dst_colorkey_max;
  bres_error0 = cond (eqb o 0x28) v r.bres_error0;
  bres_error1 = cond (eqb o 0x2c) v r.bres_error1;
  rop = cond (eqb o 0x30) v r.rop;
  src_base_addr = cond (eqb o 0x34) v r.src_base_addr;
  command_extra = cond (eqb o 0x38) v r.command_extra;
  line_stipple = cond (eqb o 0x3c) v r.line_stipple;
  line_style = cond (eqb o 0x40) v r.line_style;
  clip1_min = cond (eqb o 0x4c) v r.clip1_min;
  clip1_max = cond (eqb o 0x50) v r.clip1_max;
  src_format = cond (eqb o 0x54) v r.src_format;
  src_size = cond (eqb o 0x58) v r.src_size;
  src_xy = cond (eqb o 0x5c) v r.src_xy;
  color_back = cond (eqb o 0x60) v r.color_back;
  color_fore = cond (eqb o 0x64) v r.color_fore;
  dst_size = cond (eqb o 0x68) v r.dst_size;
  dst_xy = cond (eqb o 0x6c) v r.dst_xy;
  command = cond (eqb o 0x70) v r.command;
}

-- the register at an offset, 0 where there is none
unfoldable pub get_reg : ℕ → Regs → ℕ
get_reg o r =
    cond (eqb o 0x08) r.clip0_min (
    cond (eqb o 0x0c) r.clip0_max (
    cond (eqb o 0x10) r.dst_base_addr (
    cond (eqb o 0x14) r.dst_format (
    cond (eqb o 0x18) r.src_colorkey_min (
    cond (eqb o 0x1c) r.src_colorkey_max (
    cond (eqb o 0x20) r.dst_colorkey_min (
    cond (eqb o 0x24) r.dst_colorkey_max (
    cond (eqb o 0x28) r.bres_error0 (
    cond (eqb o 0x2c) r.bres_error1 (
    cond (eqb o 0x30) r.rop (
    cond (eqb o 0x34) r.src_base_addr (
    cond (eqb o 0x38) r.command_extra (
    cond (eqb o 0x3c) r.line_stipple (
    cond (eqb o 0x40) r.line_style (
    cond (eqb o 0x4c) r.clip1_min (
    cond (eqb o 0x50) r.clip1_max (
    cond (eqb o 0x54) r.src_format (
    cond (eqb o 0x58) r.src_size (
    cond (eqb o 0x5c) r.src_xy (
    cond (eqb o 0x60) r.color_back (
    cond (eqb o 0x64) r.color_fore (
    cond (eqb o 0x68) r.dst_size (
    cond (eqb o 0x6c) r.dst_xy (
    cond (eqb o 0x70) r.command (
    0)))))))))))))))))))))))))
