-- `surface::store_bytes` meets its contract: what was read before the store, and what it stores.
-- Assumes nothing.
use Prim.Native.Nat.{◌+◌}
use native.Mathlib.Omega.{arith}
use Rattle.surface.proofs.Bytes.{read-written}
use Rattle.surface.proofs.store_bytes.Goals as goal

pub returns : goal.returns
returns c =
    let a = c.args in
    let new = read-written (λ k. a.at + k) 0 a.n a.v a.mem.now (λ i j p q e. omega arith) (λ j l. omega arith) in
    (c.put_bytes.ensures, cc)
