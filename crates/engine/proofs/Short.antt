-- Short names of what commands leave and touch, for the laws below.
-- Assumes nothing.
use mathlib.Core.List.{List}
use Prim.Native.Nat.{ℕ}
use Rattle.paint.specs.Paint.{Touch}
use Rattle.acts.specs.Deed.{rect_ended, line_ended, filling, copying, stretching, lining, opening, feeding, touched_by_fill, touched_by_copy, touched_by_stretch, touched_by_line, touched_by_word}
use Rattle.engine.specs.declared.Engine.{Engine}
use Rattle.engine.specs.Step.{Step, with_bank, judging}

-- ---- the engine after a rectangle, and after a line that leaves this style
abbrev pub after_rect : Engine → Engine
after_rect e = with_bank e (rect_ended e.bank)

abbrev pub after_line : Engine → ℕ → Engine
after_line e style = with_bank e (line_ended e.bank style)

-- ---- what each command leaves

-- one by one: a fill, a screen copy, a stretch copy, a line, a host blit opened, a word of its data
abbrev pub filled : Engine → Engine → List ℕ → Step
filled old e m = judging old e m (filling e.bank e.blit m)

abbrev pub copied : Engine → Engine → List ℕ → Step
copied old e m = judging old e m (copying e.bank e.blit m)

abbrev pub stretched : Engine → Engine → List ℕ → Step
stretched old e m = judging old e m (stretching e.bank e.blit m)

abbrev pub lined : Engine → Engine → List ℕ → Step
lined old e m = judging old e m (lining e.bank e.blit m)

abbrev pub begun : Engine → Engine → List ℕ → Step
begun old e m = judging old e m (opening e.bank m)

abbrev pub fed : Engine → List ℕ → ℕ → Step
fed e m word = judging e e m (feeding e.bank e.blit m word)

-- ---- what each command touches
abbrev pub fill_touches : Engine → List Touch
fill_touches e = touched_by_fill e.bank

abbrev pub copy_touches : Engine → List Touch
copy_touches e = touched_by_copy e.bank

abbrev pub stretch_touches : Engine → List ℕ → List Touch
stretch_touches e m = touched_by_stretch e.bank m

abbrev pub draw_touches : Engine → List Touch
draw_touches e = touched_by_line e.bank

abbrev pub word_touches : Engine → ℕ → List Touch
word_touches e word = touched_by_word e.bank e.blit word
