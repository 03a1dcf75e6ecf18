-- A call of run is the engine's run between the bytes of its state: a launch word leaves all of it but the words that a command can change.
-- Assumes nothing.
use mathlib.Core.Path.{◌≡◌, sym, ap, ◌∙◌}
use mathlib.Core.Bool.{true, false}
use mathlib.Core.List.{List, [], ◌∷◌}
use Prim.Native.Nat.{ℕ}
use Rattle.engine.specs.declared.Engine.{Engine}
use Rattle.acts.proofs.Cases.{picked}
use Rattle.words.specs.Words.{Ran, launching, is_taken, ran_from, ran}
use Rattle.words.proofs.Laws.{launch-80}
use Rattle.state.specs.Layout.{encoded, decoded, is_state, Bytes, with_slots, command_slots}
use Rattle.capi.specs.Calls.{run_call, ran_to}
use Rattle.state.proofs.Back.{opened, bytes_back}
use Rattle.capi.proofs.Changes.{Like, like-same, like-then, like-laid, draws-launch, written-led}
use Rattle.capi.proofs.Writes.{command-words}

ran-led : (ws : List ℕ) (e : Engine) (t : Ran) → Like command_slots e t.engine → Like command_slots e (ran_from t ws).engine
unfolding ran_from
ran-led [] e t h = h
ran-led (w ∷ ws) e t h =
    picked (λ (r : Ran). Like command_slots e r.engine) (is_taken (launching t w)) _ _
    (λ _. ran-led ws e _ (like-then h (written-led t.engine t.memory 0x80 w (draws-launch 0x80 launch-80)))) (λ _. h)

pub not-run : (s m ws : List ℕ) → is_state s ≡ false → run_call s m 255 0 0 0 ≡ ran_to s m ws
unfolding ran_to
not-run s m ws t = rw t

pub state-run : (s m ws : List ℕ) → is_state s ≡ true → Bytes s → {e : Engine} {r : Ran} {s' : List ℕ} → e ≡ decoded s → r ≡ ran e m ws
    → s' ≡ with_slots s r.engine command_slots → run_call s' r.memory r.number r.taken r.count r.changed ≡ ran_to s m ws
unfolding ran_to
state-run s m ws t b {e} {r} p q v =
    let whole : r ≡ ran (decoded s) m ws = q ∙ ap (λ (e : Engine). ran e m ws) p in
    let laid : with_slots s (ran (decoded s) m ws).engine command_slots ≡ encoded (ran (decoded s) m ws).engine =
    ap (λ x. with_slots x (ran (decoded s) m ws).engine command_slots) (sym (bytes_back s (opened s t b)))
    ∙ like-laid command_slots (decoded s) (ran (decoded s) m ws).engine (ran-led ws (decoded s) _ (like-same (decoded s))) command-words in
    ap (λ x. run_call x r.memory r.number r.taken r.count r.changed) v
    ∙ ap (λ (r : Ran). run_call (with_slots s r.engine command_slots) r.memory r.number r.taken r.count r.changed) whole
    ∙ rw t (ap (λ x. run_call x (ran (decoded s) m ws).memory (ran (decoded s) m ws).number (ran (decoded s) m ws).taken (ran (decoded s) m ws).count (ran (decoded s) m ws).changed) laid)
