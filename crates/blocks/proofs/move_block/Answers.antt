-- `blocks::move_block` meets its contract: a block lies in lines.
-- Assumes nothing.
use Rattle.blocks.proofs.Blocks.{near-to, near-from, block-lines, block-put}
use Rattle.blocks.proofs.move_block.Goals as goal

pub byte_at-d-requires : goal.byte_at-d-requires
byte_at-d-requires c = near-to c.args.b c.requires.0

pub byte_at-s-requires : goal.byte_at-s-requires
byte_at-s-requires c = near-from c.args.b c.requires.0

pub move_lines-requires : goal.move_lines-requires
move_lines-requires c =
    let p = c.requires in
    rw (c.byte_at-d.ensures, c.pitch_of.ensures, c.byte_at-s.ensures, c.pitch_of-2.ensures)
    (block-lines c.args.b p.0 p.1.0.0 p.1.0.1 p.1.1.0 p.1.1.1)

pub returns : goal.returns
returns c =
    let p = c.requires in
    block-put c.args.b p.0 p.1.0.0 p.1.0.1 p.1.1.0 p.1.1.1
    (rw (c.byte_at-d.ensures, c.pitch_of.ensures, c.byte_at-s.ensures, c.pitch_of-2.ensures) at c.move_lines.ensures)
