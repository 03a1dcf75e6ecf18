-- What is asked can be met, in rows and in tiles: on four bytes of 8 bpp, the first pixel copied to the second, filled over, and copied back.
-- Assumes nothing.
use mathlib.Core.Path.{◌≡◌, refl, subst}
use mathlib.Core.Logic.{inl}
use mathlib.Core.Bool.{true, false}
use mathlib.Core.List.{List, [], ◌∷◌}
use Prim.Native.Nat.{ℕ, zero, suc, ◌/◌, ◌%◌, ◌^◌, ◌<◌}
use native.Mathlib.Omega.{arith}
use lib.ListN.{get_or}
use Rattle.raster.specs.Rop as Rop
use Rattle.colour.specs.Convert.{converted, allowed}
use Rattle.surface.specs.Place as Place
use Rattle.surface.specs.Pixels.{across, rect}
use Rattle.spans.specs.Span.{all_on}
use Rattle.formats.specs.Format.{target_of, source_of}
use Rattle.formats.specs.Step.{packing_of, step_of}
use Rattle.paint.specs.Clip.{in_clip}
use Rattle.paint.specs.Paint.{paint, dab}
use Rattle.paint.specs.Mix.{colour_source, fill_source, mixed, chosen}
use Rattle.ink.specs.Pattern.{pattern_in, pattern_pixel, pattern_bit}
use Rattle.sweep.specs.Copy.{giving, source_by, source_place}
use Rattle.paint.proofs.ClipLaws.{in-clip, clip-in}
use Rattle.registers.specs.declared.Regs.{Regs}
use Rattle.bank.specs.Bank.{fresh_bank, stored}
use Rattle.registers.specs.Kept.{kept}
use Rattle.registers.specs.Regs.{put_reg}
use Rattle.registers.specs.Offsets.{place_of}
use Rattle.positions.specs.Position.{stepped_xy}
use Rattle.command.specs.Decode.{target, origins, ink_of, fill_task, copy_task}
use Rattle.cuts.specs.Cut.{bit, number, clip_of, cut_at, fill_cut, copy_cut}
use Rattle.table.specs.Table.{both_fine, all_on_at, fill_verdict, copy_verdict}
use Rattle.engine.specs.declared.Engine.{Engine}
use Rattle.acts.specs.Deed.{rect_ended, carrying, starting}
use Rattle.engine.specs.Step.{fresh_engine, stored_in, carried, launched, to_register, commanded, written}
use Rattle.engine.specs.Orders.{launching}
use Rattle.engine.specs.Writes.{Write, played}
use Rattle.restore.specs.Rectangles.{source_rect, target_rect, positions, Has}
use Rattle.restore.specs.Restore.{Plain, Framed, Saves}
use Rattle.engine.proofs.Orders.{the_same, nothing-ordered}

abbrev write : ℕ → ℕ → Write
write o d = record { offset = o; word = d }

abbrev memory : List ℕ
memory = 7 ∷ 9 ∷ 11 ∷ 13 ∷ []

-- one surface for source and target, a clip of the whole row, one pixel to copy, to column 1
abbrev start_on : ℕ → ℕ → Engine
start_on base format =
    (played (fresh_engine 4) memory
    (write 0x10 base ∷ write 0x34 base ∷ write 0x14 format ∷ write 0x54 format ∷ write 0x0c 0x10004 ∷ write 0x68 0x10001 ∷ write 0x6c 1 ∷ write 0x70 0xcc000001 ∷ [])
    ).engine

-- four pixels a row; and one tile across
abbrev in_rows : Engine
in_rows = start_on 0 0x10004

abbrev in_tiles : Engine
in_tiles = start_on 0x80000000 0x10001

abbrev first : Write
first = write 0x80 0

-- the clip to the first pixel, a fill there; the clip and the copy again
abbrev middle : List Write
middle = write 0x0c 0x10001 ∷ write 0x70 0xcc000005 ∷ write 0x80 0 ∷ write 0x0c 0x10004 ∷ write 0x70 0xcc000001 ∷ []

abbrev last : Write
last = write 0x80 1

abbrev aside : Engine → Regs
aside start = launching start 0

abbrev back : Engine → Regs
back start = launching (played start memory (first ∷ middle)).engine 1

abbrev fills : Engine → Regs
fills start = launching (played start memory (first ∷ write 0x0c 0x10001 ∷ write 0x70 0xcc000005 ∷ [])).engine 0

small : (a : ℕ) → get_or memory a 0 < 256
small zero = omega arith
small (suc zero) = omega arith
small (suc (suc zero)) = omega arith
small (suc (suc (suc zero))) = omega arith
small (suc (suc (suc (suc a)))) = omega arith

-- a plain copy, by what is computed of its registers
plain_of : (len : ℕ) (r : Regs) → number r ≡ 1 → r.command / 2 ^ 24 % 2 ^ 8 ≡ 0xcc → both_fine r ≡ true → bit r.command_extra 0 ≡ false → bit r.command_extra 1 ≡ false
    → packing_of r.src_format ≡ 0 → bit r.command 14 ≡ false → bit r.command 15 ≡ false → (origins r).bytes ≡ (target r).bytes
    → all_on_at (origins r) len (positions (source_rect r)) ≡ true → all_on_at (target r) len (positions (target_rect r)) ≡ true
    → ((x y : ℕ) → Has (target_rect r) x y → in_clip (clip_of r) x y ≡ true) → Plain len r
plain_of len r copy operation fine source_key target_key packing left top format source_on target_on clip = record {
  copy = copy;
  operation = operation;
  fine = fine;
  source_key = source_key;
  target_key = target_key;
  packing = packing;
  left = left;
  top = top;
  format = format;
  source_on = source_on;
  target_on = target_on;
  clip = clip;
}

pub met : Saves in_rows memory first middle last (aside in_rows) (back in_rows)
unfolding played written to_register commanded stored_in stored put_reg kept fresh_engine fresh_bank place_of launching clip_of target_of source_of step_of allowed across rect all_on_at Place.on_surface Place.row_pixels Place.row_bytes Place.in_memory Place.first_byte Place.byte_count Place.byte_at launched starting carried carrying copy_verdict copy_cut cut_at copy_task rect_ended stepped_xy fill_verdict fill_cut fill_task ink_of all_on paint dab giving source_by source_place colour_source fill_source converted mixed chosen Rop.rop_bits Rop.rop_bit Place.read_px Place.write_px Place.read_bytes Place.write_bytes Place.byte_of pattern_in pattern_pixel pattern_bit
met = record {
  limit = omega arith;
  opened = refl;
  bytes = small;
  rests = refl;
  goes = refl;
  plain = plain_of 4 (aside in_rows) refl refl refl refl refl refl refl refl refl refl refl (λ x y h. clip-in (clip_of (aside in_rows)) x y (omega arith));
  apart = inl (refl, λ x y i j. omega arith);
  framed = (
    λ r o. nothing-ordered r o,
    (
      λ r o. nothing-ordered r o,
      (
        λ r o taken n. subst (Framed (source_rect (aside in_rows))) (the_same (fills in_rows) r o) (record { surface = refl; clip = λ x y e. let k = in-clip (clip_of (fills in_rows)) x y e in omega arith }),
        (λ r o. nothing-ordered r o, (λ r o. nothing-ordered r o, tt)),
      ),
    ),
  );
  ended = refl;
  returns = refl;
  again = plain_of 4 (back in_rows) refl refl refl refl refl refl refl refl refl refl refl (λ x y h. clip-in (clip_of (back in_rows)) x y (omega arith));
  from = refl;
  to = refl;
}

pub met-on-tiles : Saves in_tiles memory first middle last (aside in_tiles) (back in_tiles)
unfolding played written to_register commanded stored_in stored put_reg kept fresh_engine fresh_bank place_of launching clip_of target_of source_of step_of allowed across rect all_on_at Place.on_surface Place.row_pixels Place.row_bytes Place.in_memory Place.first_byte Place.byte_count Place.byte_at launched starting carried carrying copy_verdict copy_cut cut_at copy_task rect_ended stepped_xy fill_verdict fill_cut fill_task ink_of all_on paint dab giving source_by source_place colour_source fill_source converted mixed chosen Rop.rop_bits Rop.rop_bit Place.read_px Place.write_px Place.read_bytes Place.write_bytes Place.byte_of pattern_in pattern_pixel pattern_bit
met-on-tiles = record {
  limit = omega arith;
  opened = refl;
  bytes = small;
  rests = refl;
  goes = refl;
  plain = plain_of 4 (aside in_tiles) refl refl refl refl refl refl refl refl refl refl refl (λ x y h. clip-in (clip_of (aside in_tiles)) x y (omega arith));
  apart = inl (refl, λ x y i j. omega arith);
  framed = (
    λ r o. nothing-ordered r o,
    (
      λ r o. nothing-ordered r o,
      (
        λ r o taken n. subst (Framed (source_rect (aside in_tiles))) (the_same (fills in_tiles) r o) (record { surface = refl; clip = λ x y e. let k = in-clip (clip_of (fills in_tiles)) x y e in omega arith }),
        (λ r o. nothing-ordered r o, (λ r o. nothing-ordered r o, tt)),
      ),
    ),
  );
  ended = refl;
  returns = refl;
  again = plain_of 4 (back in_tiles) refl refl refl refl refl refl refl refl refl refl refl (λ x y h. clip-in (clip_of (back in_tiles)) x y (omega arith));
  from = refl;
  to = refl;
}
