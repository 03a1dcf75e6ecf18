-- One write more, after those that were played.
-- Assumes nothing.
use mathlib.Core.Path.{◌≡◌, refl, ap}
use mathlib.Core.List.{List, [], ◌∷◌, ◌++◌}
use Prim.Native.Nat.{ℕ, ◌+◌}
use native.Mathlib.Omega.{arith}
use Rattle.engine.specs.declared.Engine.{Engine}
use Rattle.engine.specs.Step.{Answer, count_of, changed_of}
use Rattle.engine.specs.Writes.{Write, by, run, before, played, counted, changes}

pub played-last : (e : Engine) (m : List ℕ) (ws : List Write) (w : Write)
    → played e m (ws ++ (w ∷ []))
    ≡ run (by (played e m ws).engine (played e m ws).memory w).engine (by (played e m ws).engine (played e m ws).memory w).memory
    ((played e m ws).answers ++ ((by (played e m ws).engine (played e m ws).memory w).answer ∷ []))
unfolding played
played-last e m [] w = refl
played-last e m (v ∷ ws) w = ap (before (by e m v)) (played-last (by e m v).engine (by e m v).memory ws w)

pub counted-last : (answers : List Answer) (a : Answer) → counted (answers ++ (a ∷ [])) ≡ counted answers + count_of a
unfolding counted
counted-last [] a = omega arith
counted-last (b ∷ answers) a = let h = counted-last answers a in omega arith

pub changes-last : (answers : List Answer) (a : Answer) → changes (answers ++ (a ∷ [])) ≡ changes answers + changed_of a
unfolding changes
changes-last [] a = omega arith
changes-last (b ∷ answers) a = let h = changes-last answers a in omega arith
