-- `tint::masks_at` meets its contract: the masks passed are those of their pixels.
-- Assumes nothing.
use Prim.Native.Nat.{◌+◌, ◌*◌}
use Rattle.tint.specs.Masking.{Tables, tables, MadeOf}
use Rattle.tint.proofs.masks_at.Given as goal

abbrev pub invariant-loop-i : goal.invariant-loop-i
invariant-loop-i l =
    (old : Tables) → MadeOf l.ink l.pattern l.x l.y (l.j * 8) old (tables l.initial.keep l.initial.flip l.initial.adds) → MadeOf l.ink l.pattern l.x l.y (l.j * 8 + l.i) old (tables l.keep l.flip l.adds)

abbrev pub invariant-loop-j : goal.invariant-loop-j
invariant-loop-j l =
    MadeOf l.ink l.pattern l.x l.y (l.j * 8) (tables l.initial.keep l.initial.flip l.initial.adds) (tables l.keep l.flip l.adds)
