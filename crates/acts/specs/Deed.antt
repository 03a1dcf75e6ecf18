-- What each command does: the number of the row that refuses it, and what it leaves where none does.
-- Assumes nothing.
use Rattle.std.specs.Prelude.{true, false, cond, ◌&&◌, List, ℕ, ◌+◌, eqb, leb, ltb, length, Result, Ok, Err}
use Rattle.paint.specs.Paint.{State, tallied, state, Touch, paint}
use Rattle.sweep.specs.Copy.{in_turn}
use Rattle.scale.specs.Stretch.{stretched}
use Rattle.line.specs.Line.{points, point_count}
use Rattle.line.specs.Stipple.{style_after}
use Rattle.line.specs.Draw.{line_touches}
use Rattle.host.specs.Host.{by_word, words_of}
use Rattle.host.specs.Draw.{host_touches}
use Rattle.registers.specs.declared.Regs.{Regs}
use Rattle.registers.specs.Regs.{put_reg}
use Rattle.bank.specs.declared.Bank.{Bank}
use Rattle.bank.specs.Bank.{stored}
use Rattle.positions.specs.Position.{stepped_xy}
use Rattle.command.specs.Decode.{target, ink_of, fill_task, copy_task, stretch_of, line_of, pen_of, feed_of}
use Rattle.cuts.specs.Cut.{bit, number, clip_of, fill_cut, copy_order, covered}
use Rattle.table.specs.Table.{fill_verdict, copy_verdict, stretch_verdict, host_verdict, line_verdict}
use Rattle.table.specs.declared.Fault.{Fault}
use Rattle.table.specs.Fault.{fault_number}
use Rattle.acts.specs.declared.Blit.{Blit}
use Rattle.acts.specs.declared.Ends.{Ends}
use Rattle.acts.specs.declared.Act.{Act}

-- ---- registers and host blit
abbrev pub no_blit : Blit
no_blit = record { waiting = false; taken = 0; last = 0 }

-- after a copy, a stretch, a host blit or a fill: bits 10 and 11 step dstXY by dstSize
unfoldable pub rect_ended : Bank → Bank
rect_ended b = stored b 0x6c (stepped_xy b.regs.dst_xy b.regs.dst_size (bit b.regs.command 10) (bit b.regs.command 11))

-- after a line: lineStyle has the stipple's phase, and srcXY becomes dstXY
unfoldable pub line_ended : Bank → ℕ → Bank
line_ended b style = stored (stored b 0x40 style) 0x5c b.regs.dst_xy

-- ---- what each command touches: its covered pixels, in their order, each with what it is given
abbrev pub touched_by_fill : Bank → List Touch
touched_by_fill b = in_turn (fill_task b.regs) b.pattern (covered (fill_cut b.regs))

-- of a copy, from the corner that bits 14 and 15 name; each read sees the writes before it
abbrev pub touched_by_copy : Bank → List Touch
touched_by_copy b = in_turn (copy_task b.regs) b.pattern (copy_order b.regs)

abbrev pub touched_by_stretch : Bank → List ℕ → List Touch
touched_by_stretch b m = stretched (stretch_of b.regs) b.pattern m (covered (fill_cut b.regs))

abbrev pub touched_by_line : Bank → List Touch
touched_by_line b = line_touches (ink_of b.regs) b.pattern (clip_of b.regs) (pen_of b.regs) b.regs.line_style (points (line_of b.regs))

-- of a host blit, those that this word finishes
abbrev pub touched_by_word : Bank → Blit → ℕ → List Touch
touched_by_word b k word =
    host_touches (ink_of b.regs) b.pattern (clip_of b.regs) (feed_of b.regs) (by_word (feed_of b.regs) k.last word k.taken)

abbrev pub painted_by : Bank → List Touch → List ℕ → State
painted_by b ts m = paint (target b.regs) ts (state m 0 0)

-- ---- a command's outcome

-- the registers, the host blit, and the memory and the tally that painting left
pub record Made : Type 0 where
  pub bank : Bank
  pub blit : Blit
  pub left : State

abbrev pub made : Bank → Blit → State → Made
made b k st = record { bank = b; blit = k; left = st }

-- the first of rows 4 to 8 that applies, or 0; and what is made where that is 0
pub record Deed : Type 0 where
  pub verdict : ℕ
  pub makes : Made

-- registers and pattern together
abbrev pub bank_of : Regs → List ℕ → Bank
bank_of r p = record { regs = r; pattern = p }

-- a bank with the three registers that a command can change: lineStyle, srcXY and dstXY
unfoldable pub with_ends : Bank → Ends → Bank
with_ends b e = bank_of (put_reg 0x40 e.line_style (put_reg 0x5c e.src_xy (put_reg 0x6c e.dst_xy b.regs))) b.pattern

-- what a function of this crate left of a bank and a host blit; a refusal leaves both
abbrev pub deed : Bank → Blit → Result Act Fault → List ℕ → Deed
deed b k (Ok a) m = record { verdict = 0; makes = made (with_ends b a.ends) a.blit (tallied m a.tally) }
deed b k (Err f) m = record { verdict = fault_number f; makes = made b k (state m 0 0) }

-- refused: registers, host blit and memory as they were given
unfoldable pub judged : Deed → Bank → Blit → List ℕ → Deed
judged d b k m = cond (eqb d.verdict 0) d (record { verdict = d.verdict; makes = made b k (state m 0 0) })

-- ---- the commands
abbrev pub filling : Bank → Blit → List ℕ → Deed
filling b k m = record { verdict = fill_verdict b.regs (length m); makes = made (rect_ended b) k (painted_by b (touched_by_fill b) m) }

abbrev pub copying : Bank → Blit → List ℕ → Deed
copying b k m = record { verdict = copy_verdict b.regs (length m); makes = made (rect_ended b) k (painted_by b (touched_by_copy b) m) }

abbrev pub stretching : Bank → Blit → List ℕ → Deed
stretching b k m = record { verdict = stretch_verdict b.regs (length m); makes = made (rect_ended b) k (painted_by b (touched_by_stretch b m) m) }

abbrev pub lining : Bank → Blit → List ℕ → Deed
lining b k m = record {
  verdict = line_verdict b.regs (length m);
  makes = made (line_ended b (style_after (pen_of b.regs) (point_count (line_of b.regs)) b.regs.line_style)) k (painted_by b (touched_by_line b) m);
}

-- a host blit opened: it waits for its first word, or ends at once where it needs none
abbrev pub opening : Bank → List ℕ → Deed
opening b m = record {
  verdict = host_verdict b.regs (length m);
  makes =
      cond (ltb 0 (words_of (feed_of b.regs)))
      (made b (record { waiting = true; taken = 0; last = 0 }) (state m 0 0))
      (made (rect_ended b) no_blit (state m 0 0));
}

-- a word of data: the first also opens the blit, the last ends it
abbrev pub feeding : Bank → Blit → List ℕ → ℕ → Deed
feeding b k m word = record {
  verdict = host_verdict b.regs (length m);
  makes =
      cond (ltb k.taken (words_of (feed_of b.regs)))
      (cond (ltb (k.taken + 1) (words_of (feed_of b.regs)))
      (made b (record { waiting = true; taken = k.taken + 1; last = word }) (painted_by b (touched_by_word b k word) m))
      (made (rect_ended b) no_blit (painted_by b (touched_by_word b k word) m)))
      (made (rect_ended b) no_blit (state m 0 0));
}

abbrev pub idling : Bank → Blit → List ℕ → Deed
idling b k m = record { verdict = 0; makes = made b k (state m 0 0) }

abbrev pub unbuilt : Bank → Blit → List ℕ → Deed
unbuilt b k m = record { verdict = 4; makes = made b k (state m 0 0) }

-- ---- by a command's number: nop, screen copy, stretch copy, host blit, fill, line and polyline, and those that are not built
abbrev pub by_number : {A : Type 0} → ℕ → A → A → A → A → A → A → A → A
by_number n nop copy stretch host fill line other =
    cond (eqb n 0) nop (cond (eqb n 1) copy (cond (eqb n 2) stretch (cond (eqb n 3) host (cond (eqb n 5) fill (cond (leb 6 n && ltb n 8) line other)))))

-- the command that the registers hold
unfoldable pub carrying : Bank → Blit → List ℕ → Deed
carrying b k m = by_number (number b.regs) (idling b k m) (copying b k m) (stretching b k m) (opening b m) (filling b k m) (lining b k m) (unbuilt b k m)

-- a launch write puts its data into srcXY or dstXY, or it is a host blit's; with nop it is dropped
unfoldable pub aimed : Bank → ℕ → Bank
aimed b d = by_number (number b.regs) b (stored b 0x5c d) (stored b 0x5c d) b (stored b 0x6c d) (stored b 0x6c d) b

unfoldable pub starting : Bank → Blit → List ℕ → ℕ → Deed
starting b k m d =
    by_number (number b.regs) (idling b k m) (copying (stored b 0x5c d) k m) (stretching (stored b 0x5c d) k m) (feeding b k m d) (filling (stored b 0x6c d) k m)
    (lining (stored b 0x6c d) k m) (unbuilt b k m)
