-- Laws of the player: its state after a pair, by the parts of the engine's step; its memory keeps its length.
-- Assumes nothing.
use Rattle.std.proofs.Common.{◌≡◌, ℕ, ◌+◌, ◌/◌, ◌%◌, ◌^◌, Bool, true, false, cond, eqb, ltb, List, [], ◌∷◌, length, refl, ◌∙◌}
use lib.ListN.{length-replicate}
use Rattle.engine.specs.declared.Engine.{Engine}
use Rattle.engine.specs.Step.{Answer, Step, step, number_of, written}
use Rattle.engine.proofs.Frame.{write-left}
use Rattle.picture.specs.declared.Player.{Player}
use Rattle.basics.specs.Each.{each}
use Rattle.picture.specs.Player.{Sheet, sheet, shifted, counted, wrote, arrived, taken, fed, start}

pub wrote_by : (p : Player) (w : ℕ) (e : Engine) (m : List ℕ) (a : Answer) (n k : ℕ) (st : Step) → step e m a ≡ st → n ≡ number_of a → k ≡ counted n p.played
    → sheet (record { engine = e; window = w; held = 0; played = k; refused = n }) m ≡ wrote p w st
unfolding wrote
wrote_by p w e m a n k st f g h = rw (← f, h, g)

-- ---- the memory keeps its length
taken-long : (b : ℕ) (s : Sheet) → length (taken b s).memory ≡ length s.memory
unfolding taken arrived wrote
taken-long b s = by-test (eqb s.player.refused 0) (ltb s.player.held 7)
  where
    window : ℕ
    window = shifted s.player.window b

    by-test : (t u : Bool)
        → length (cond t (cond u (sheet (record { engine = s.player.engine; window = window; held = s.player.held + 1; played = s.player.played; refused = 0 }) s.memory)
        (wrote s.player window (written s.player.engine s.memory (window % 2 ^ 32) (window / 2 ^ 32)))) s).memory ≡ length s.memory
    by-test true true = refl
    by-test true false = (write-left s.player.engine s.memory (window % 2 ^ 32) (window / 2 ^ 32)).long
    by-test false u = refl

pub fed-long : (bytes : List ℕ) (s : Sheet) → length (fed bytes s).memory ≡ length s.memory
unfolding each
fed-long [] s = refl
fed-long (b ∷ bytes) s = fed-long bytes (taken b s) ∙ taken-long b s

pub start-long : length start.memory ≡ 65536
unfolding start
start-long = length-replicate {A = ℕ} 65536 0
