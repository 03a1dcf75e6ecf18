-- The command that a write has carried out, if it has one: with which registers, which pixels it covers, and which it touches.
-- Assumes nothing.
use Rattle.std.specs.Prelude.{cond, ◌&&◌, List, [], ℕ, eqb, ltb}
use Rattle.std.proofs.Math.Option.{Option, none, some}
use Rattle.surface.specs.Pixels.{Px}
use Rattle.paint.specs.Paint.{Touch}
use Rattle.line.specs.Line.{points}
use Rattle.line.specs.Draw.{covered_points}
use Rattle.host.specs.Host.{words_of}
use Rattle.registers.specs.declared.Regs.{Regs}
use Rattle.registers.specs.declared.Place.{Place}
use Rattle.registers.specs.declared.Place.TheVariants.{Register, Pattern, Launch, Nowhere}
use Rattle.registers.specs.Offsets.{place_of}
use Rattle.command.specs.Decode.{line_of, feed_of}
use Rattle.cuts.specs.Cut.{bit, number, clip_of, fill_cut, covered, copy_order}
use Rattle.engine.specs.declared.Engine.{Engine}
use Rattle.acts.specs.Deed.{touched_by_fill, touched_by_copy, touched_by_stretch, touched_by_line, touched_by_word, by_number}
use Rattle.engine.specs.Step.{regs, stored_in}

-- ---- the registers with which it is carried out: those of a write to command with bit 8; of a launch write, which puts its data into srcXY or dstXY first
unfoldable pub launching : Engine → ℕ → Regs
launching e d =
    by_number (number (regs e)) (regs e) (regs (stored_in e 0x5c d)) (regs (stored_in e 0x5c d)) (regs e) (regs (stored_in e 0x6c d)) (regs (stored_in e 0x6c d)) (regs e)

abbrev pub order_at : Place → Engine → ℕ → ℕ → Option Regs
order_at Register e o d = cond (eqb o 0x70 && bit d 8) (some (regs (stored_in e 0x70 d))) none
order_at (Pattern i) e o d = none
order_at Launch e o d = some (launching e d)
order_at Nowhere e o d = none

abbrev pub order : Engine → ℕ → ℕ → Option Regs
order e o d = order_at (place_of o) e o d

-- ---- the pixels that a command covers, in its order
unfoldable pub covered_by : Regs → List Px
covered_by r =
    by_number (number r) [] (copy_order r) (covered (fill_cut r)) (covered (fill_cut r)) (covered (fill_cut r)) (covered_points (clip_of r) (points (line_of r))) []

-- ---- what a write touches, if it is taken: a host blit touches with each word of data, and not when it is opened
unfoldable pub carried_touches : Engine → List ℕ → List Touch
carried_touches e m = by_number (number (regs e)) [] (touched_by_copy e.bank) (touched_by_stretch e.bank m) [] (touched_by_fill e.bank) (touched_by_line e.bank) []

unfoldable pub launched_touches : Engine → List ℕ → ℕ → List Touch
launched_touches e m d =
    by_number (number (regs e)) [] (touched_by_copy (stored_in e 0x5c d).bank) (touched_by_stretch (stored_in e 0x5c d).bank m)
    (cond (ltb e.blit.taken (words_of (feed_of (regs e)))) (touched_by_word e.bank e.blit d) [])
    (touched_by_fill (stored_in e 0x6c d).bank) (touched_by_line (stored_in e 0x6c d).bank) []

abbrev pub touches_at : Place → Engine → List ℕ → ℕ → ℕ → List Touch
touches_at Register e m o d = cond (eqb o 0x70 && bit d 8) (carried_touches (stored_in e 0x70 d) m) []
touches_at (Pattern i) e m o d = []
touches_at Launch e m o d = launched_touches e m d
touches_at Nowhere e m o d = []

abbrev pub touches_of : Engine → List ℕ → ℕ → ℕ → List Touch
touches_of e m o d = touches_at (place_of o) e m o d
