-- `rect::move_apart` meets its contract: the pixels that will change are counted, and the pixels' bytes go their way.
-- Assumes nothing.
use Prim.Native.Nat.{ℕ, ◌*◌, ◌<◌, ◌≤◌}
use native.Mathlib.Omega.{arith}
use Rattle.surface.proofs.Bytes.{product_lt}
use Rattle.rect.proofs.Bytes.{bytes-go, bytes-given}
use Rattle.rect.proofs.Others.{down-on, down-changed}
use Rattle.rect.proofs.move_apart.Goals as goal

few_bytes : {a b : ℕ} → a ≤ 32768 → b < 5 → a * b < 524288
few_bytes {a} {b} l u = product_lt 16 3 {a = a} {b = b} (omega arith) (omega arith)

pub unlike_rows-changed-requires : goal.unlike_rows-changed-requires
unlike_rows-changed-requires c = down-on c.requires

pub move_blocks-requires : goal.move_blocks-requires
move_blocks-requires c = bytes-go c.requires

pub returns : goal.returns
returns c =
    let p = c.requires in
    let given = bytes-given p c.move_blocks.ensures in
    (given, down-changed p given c.unlike_rows-changed.ensures)
