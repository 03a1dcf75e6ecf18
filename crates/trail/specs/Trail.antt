-- The pixels that a command writes, by its registers, its pattern, its data, and a memory in which mono sources are read; and a rectangle that holds them. No promise
-- rests on it: it is what functions say, and that these are the pixels written is proved.
-- Assumes nothing.
use Rattle.std.specs.Prelude.{true, false, cond, not, List, [], ℕ, eqb}
use Rattle.surface.specs.Pixels.{Px}
use Rattle.paint.specs.Paint.{Touch}
use Rattle.line.specs.Line.{points}
use Rattle.host.specs.Host.{by_run}
use Rattle.registers.specs.declared.Regs.{Regs}
use Rattle.bank.specs.declared.Bank.{Bank}
use Rattle.scale.specs.declared.Scale.{Scale}
use Rattle.scale.specs.Stretch.{pixel_task}
use Rattle.cuts.specs.declared.Cut.{Cut}
use Rattle.cuts.specs.Cut.{number, clip_of, fill_cut, copy_cut, covered, copy_order}
use Rattle.command.specs.Decode.{target, ink_of, fill_task, copy_task, stretch_of, line_of, pen_of, feed_of}
use Rattle.table.specs.Table.{fill_verdict, copy_verdict, stretch_verdict, host_verdict, line_verdict}
use Rattle.pages.specs.declared.Extent.{Extent}
use Rattle.pages.specs.Extent.{extent_of}
use Rattle.sift.specs.declared.Sieve.{Sieve}
use Rattle.sift.specs.Sift.{chosen, left_at}
use Rattle.dots.specs.Dots.{dotted, line_box}
use Rattle.drips.specs.Drips.{dripped, data_box}
use Rattle.acts.specs.declared.Blit.{Blit}
use Rattle.acts.specs.Deed.{by_number, touched_by_fill, touched_by_copy, touched_by_stretch, touched_by_line}
use Rattle.acts.specs.Fed.{touched_by_words}

-- what a command touches; of a host blit, what these words of data do
unfoldable pub touched_by : Bank → Blit → List ℕ → List ℕ → List Touch
touched_by b k ws m =
    by_number (number b.regs) [] (touched_by_copy b) (touched_by_stretch b m) (touched_by_words b k ws) (touched_by_fill b) (touched_by_line b) []

-- the pixels written, in their order
unfoldable pub wet_by : Bank → Blit → List ℕ → List ℕ → List Px
wet_by b k ws m =
    let r = b.regs in
    by_number (number r) []
    (chosen (λ p. not (left_at (copy_task r) b.pattern m p)) (copy_order r))
    (chosen (λ p. not (left_at (pixel_task (stretch_of r) p) b.pattern m p)) (covered (fill_cut r)))
    (dripped (ink_of r) (clip_of r) (feed_of r) (by_run (feed_of r) k.last ws k.taken))
    (chosen (λ p. not (left_at (fill_task r) b.pattern m p)) (covered (fill_cut r)))
    (dotted (ink_of r) (clip_of r) (pen_of r) r.line_style (points (line_of r)))
    []

-- rows 5 to 8 of the table, for the command that the registers hold
unfoldable pub verdict_by : Regs → ℕ → ℕ
verdict_by r len = by_number (number r) 0 (copy_verdict r len) (stretch_verdict r len) (host_verdict r len) (fill_verdict r len) (line_verdict r len) 4

-- a rectangle that holds what the command writes; of a host blit, what n words after `taken` others do
abbrev pub no_cut : Cut
no_cut = record { x = 0; y = 0; w = 0; h = 0; sx = 0; sy = 0 }

unfoldable pub box_by : Regs → ℕ → ℕ → Cut
box_by r taken n =
    by_number (number r) no_cut (copy_cut r) (fill_cut r) (data_box (feed_of r) (fill_cut r) taken n) (fill_cut r) (line_box (line_of r) (clip_of r)) no_cut

-- the pages that it may have written, where it wrote `count` pixels
abbrev pub extent_by : Regs → ℕ → ℕ → ℕ → Extent
extent_by r taken n count =
    let c = box_by r taken n in
    extent_of (target r) c.x c.y c.w c.h count

-- the work of a copy, a stretch or a fill, pixel by pixel
abbrev pub no_scale : Scale
no_scale = record { to = 0; size = 0; from = 0; source_size = 0 }

unfoldable pub sieve_of : Regs → Sieve
sieve_of r =
    cond (eqb (number r) 1) (record { task = copy_task r; stretched = false; columns = no_scale; rows = no_scale })
    (cond (eqb (number r) 2)
    (record {
      task = record { ink = ink_of r; copies = true; from = (stretch_of r).from; sx = 0; sy = 0; x = 0; y = 0 };
      stretched = true;
      columns = (stretch_of r).columns;
      rows = (stretch_of r).rows;
    })
    (record { task = fill_task r; stretched = false; columns = no_scale; rows = no_scale }))
