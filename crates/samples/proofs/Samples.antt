-- Every line of the sample sheet holds: one statement over the list, whose parts are computed one by one.
-- Assumes nothing.
use mathlib.Core.Path.{◌≡◌, refl, sym, ap₂, ◌∙◌}
use mathlib.Core.List.{List, [], ◌∷◌, ◌++◌, map, map-append}
use Prim.Native.Nat.{ℕ}
use Rattle.raster.specs.Rop.{rop_bit, rop_bits}
use Rattle.colour.specs.Convert.{allowed, converted}
use Rattle.keys.specs.Key.{within, key_match}
use Rattle.surface.specs.Place.{row_bytes, byte_at, byte_of, read_bytes, write_bytes, read_px, write_px, mono_bit, row_pixels, first_byte, byte_count, in_memory, on_surface}
use Rattle.surface.specs.Pixels.{across, rect}
use Rattle.spans.specs.Span.{all_on}
use Rattle.formats.specs.Format.{target_of, source_of}
use Rattle.formats.specs.Step.{row_length, step_of, data_bytes, data_words}
use Rattle.rooms.specs.Room.{whole_rows, room_of, target_room, source_room, worked}
use Rattle.views.specs.View.{view_answer}
use Rattle.line.specs.Line.{far, towards, x_major, longer, shorter, aside, place, point_at, points_from, point_count, points}
use Rattle.line.specs.Stipple.{stepped, after, style_after}
use Rattle.host.specs.Host.{bits_of, value_of, whole, run, by_byte, by_bytes, by_word}
use Rattle.positions.specs.Position.{signed_of, stepped_xy}
use Rattle.scale.specs.Scale.{scaled}
use Rattle.ink.specs.Pattern.{pattern_bit, pattern_pixel, pattern_in}
use Rattle.paint.specs.Paint.{dab, paint}
use Rattle.paint.specs.Mix.{colour_source, fill_source, chosen, mixed}
use Rattle.sweep.specs.Copy.{source_place, source_by, giving}
use Rattle.registers.specs.Kept.{kept}
use Rattle.registers.specs.Regs.{put_reg}
use Rattle.registers.specs.Offsets.{place_of}
use Rattle.bank.specs.Bank.{fresh_bank, stored}
use Rattle.cuts.specs.Cut.{clip_of, cut_at, fill_cut, copy_cut}
use Rattle.command.specs.Decode.{ink_of, fill_task, copy_task}
use Rattle.table.specs.Table.{all_on_at, fill_verdict, copy_verdict}
use Rattle.acts.specs.Deed.{rect_ended, carrying}
use Rattle.engine.specs.Step.{fresh_engine, refusal, stored_in, carried, commanded, to_register, written}
use Rattle.packets.specs.Header.{stepped_from, masked_from, offsets_of}
use Rattle.samples.specs.Sheet.{Line, marked, played_lines, thumbnails, row_smears, column_smears, keyed, keyed_smears, smears, tiles, fill_changes, copy_changes, changes, headers, rooms, sheet}

-- the lines of a list hold
abbrev Hold : List Line → Type 0
Hold lines = map (λ line. line.given) lines ≡ map (λ line. line.said) lines

joined : (xs ys : List Line) → Hold xs → Hold ys → Hold (xs ++ ys)
joined xs ys p q = map-append (λ (line : Line). line.given) xs ys ∙ ap₂ ◌++◌ p q ∙ sym (map-append (λ (line : Line). line.said) xs ys)

marked-hold : Hold marked
unfolding rop_bit rop_bits row_bytes byte_at mono_bit row_pixels first_byte byte_count in_memory on_surface across all_on target_of row_length step_of data_bytes data_words view_answer far towards x_major longer shorter aside place point_at points_from point_count points stepped after style_after bits_of value_of whole run by_byte by_bytes by_word signed_of stepped_xy
marked-hold = refl

played-hold : Hold played_lines
unfolding row_bytes byte_at row_pixels first_byte byte_count in_memory on_surface across all_on target_of stepped_xy rop_bit rop_bits byte_of read_bytes write_bytes read_px write_px rect pattern_bit pattern_pixel pattern_in dab paint fill_source chosen mixed source_place source_by giving kept put_reg place_of fresh_bank stored clip_of cut_at fill_cut ink_of fill_task fill_verdict rect_ended carrying fresh_engine refusal stored_in carried commanded to_register written
played-hold = refl

thumbnails-hold : Hold thumbnails
unfolding scaled
thumbnails-hold = refl

rows-hold : Hold row_smears
unfolding row_bytes byte_at row_pixels first_byte byte_count in_memory on_surface across all_on target_of step_of stepped_xy rop_bit rop_bits allowed converted within key_match byte_of read_bytes write_bytes read_px write_px rect source_of pattern_bit pattern_pixel pattern_in dab paint colour_source chosen mixed source_place source_by giving kept put_reg place_of fresh_bank stored clip_of cut_at copy_cut ink_of copy_task all_on_at copy_verdict rect_ended carrying fresh_engine stored_in carried commanded to_register written
rows-hold = refl

columns-hold : Hold column_smears
unfolding row_bytes byte_at row_pixels first_byte byte_count in_memory on_surface across all_on target_of step_of stepped_xy rop_bit rop_bits allowed converted within key_match byte_of read_bytes write_bytes read_px write_px rect source_of pattern_bit pattern_pixel pattern_in dab paint colour_source chosen mixed source_place source_by giving kept put_reg place_of fresh_bank stored clip_of cut_at copy_cut ink_of copy_task all_on_at copy_verdict rect_ended carrying fresh_engine stored_in carried commanded to_register written
columns-hold = refl

by-source-key : keyed (0x38 ∷ 1 ∷ 0x18 ∷ 2 ∷ 0x1c ∷ 2 ∷ 0x30 ∷ 0xaa00 ∷ []) ≡ 1 ∷ 1 ∷ 1 ∷ 1 ∷ []
unfolding row_bytes byte_at row_pixels first_byte byte_count in_memory on_surface across all_on target_of step_of stepped_xy rop_bit rop_bits allowed converted within key_match byte_of read_bytes write_bytes read_px write_px rect source_of pattern_bit pattern_pixel pattern_in dab paint colour_source chosen mixed source_place source_by giving kept put_reg place_of fresh_bank stored clip_of cut_at copy_cut ink_of copy_task all_on_at copy_verdict rect_ended carrying fresh_engine stored_in carried commanded to_register written
by-source-key = refl

by-target-key : keyed (0x38 ∷ 2 ∷ 0x20 ∷ 2 ∷ 0x24 ∷ 2 ∷ 0x30 ∷ 0xaa ∷ []) ≡ 1 ∷ 2 ∷ 2 ∷ 2 ∷ []
unfolding row_bytes byte_at row_pixels first_byte byte_count in_memory on_surface across all_on target_of step_of stepped_xy rop_bit rop_bits allowed converted within key_match byte_of read_bytes write_bytes read_px write_px rect source_of pattern_bit pattern_pixel pattern_in dab paint colour_source chosen mixed source_place source_by giving kept put_reg place_of fresh_bank stored clip_of cut_at copy_cut ink_of copy_task all_on_at copy_verdict rect_ended carrying fresh_engine stored_in carried commanded to_register written
by-target-key = refl

keyed-hold : Hold keyed_smears
keyed-hold = ap₂ (λ (a b : List ℕ). a ∷ b ∷ []) by-source-key by-target-key

smears-hold : Hold smears
smears-hold = joined row_smears (column_smears ++ keyed_smears) rows-hold (joined column_smears keyed_smears columns-hold keyed-hold)

tiles_hold : Hold tiles
unfolding row_bytes byte_at row_pixels first_byte byte_count in_memory on_surface across all_on target_of stepped_xy rop_bit rop_bits byte_of read_bytes write_bytes read_px write_px rect pattern_bit pattern_pixel pattern_in dab paint chosen mixed source_place source_by giving kept put_reg place_of fresh_bank stored clip_of cut_at fill_cut ink_of fill_task fill_verdict rect_ended carrying fresh_engine refusal stored_in carried commanded to_register written
tiles_hold = refl

fills-changed : Hold fill_changes
unfolding row_bytes byte_at row_pixels first_byte byte_count in_memory on_surface across all_on target_of stepped_xy rop_bit rop_bits byte_of read_bytes write_bytes read_px write_px rect pattern_bit pattern_pixel pattern_in dab paint fill_source chosen mixed source_place source_by giving kept put_reg place_of fresh_bank stored clip_of cut_at fill_cut ink_of fill_task fill_verdict rect_ended carrying fresh_engine refusal stored_in carried commanded to_register written
fills-changed = refl

copies-changed : Hold copy_changes
unfolding row_bytes byte_at row_pixels first_byte byte_count in_memory on_surface across all_on target_of step_of stepped_xy rop_bit rop_bits allowed converted within key_match byte_of read_bytes write_bytes read_px write_px rect source_of pattern_bit pattern_pixel pattern_in dab paint colour_source chosen mixed source_place source_by giving kept put_reg place_of fresh_bank stored clip_of cut_at copy_cut ink_of copy_task all_on_at copy_verdict rect_ended carrying fresh_engine stored_in carried commanded to_register written
copies-changed = refl

changes-hold : Hold changes
changes-hold = joined fill_changes copy_changes fills-changed copies-changed

headers-hold : Hold headers
unfolding offsets_of stepped_from masked_from
headers-hold = refl

rooms-hold : Hold rooms
unfolding whole_rows room_of target_room source_room worked row_bytes byte_at row_pixels first_byte byte_count in_memory on_surface across all_on target_of source_of step_of stepped_xy rop_bit rop_bits byte_of read_bytes write_bytes read_px write_px rect pattern_bit pattern_pixel pattern_in dab paint fill_source chosen mixed source_place source_by giving kept put_reg place_of fresh_bank stored clip_of cut_at fill_cut ink_of fill_task fill_verdict rect_ended carrying fresh_engine refusal stored_in carried commanded to_register written
rooms-hold = refl

pub samples : map (λ line. line.given) sheet ≡ map (λ line. line.said) sheet
samples =
    joined marked (played_lines ++ (thumbnails ++ (smears ++ (tiles ++ (changes ++ (headers ++ rooms)))))) marked-hold
    (joined played_lines (thumbnails ++ (smears ++ (tiles ++ (changes ++ (headers ++ rooms))))) played-hold
    (joined thumbnails (smears ++ (tiles ++ (changes ++ (headers ++ rooms)))) thumbnails-hold
    (joined smears (tiles ++ (changes ++ (headers ++ rooms))) smears-hold
    (joined tiles (changes ++ (headers ++ rooms)) tiles_hold
    (joined changes (headers ++ rooms) changes-hold (joined headers rooms headers-hold rooms-hold))))))
