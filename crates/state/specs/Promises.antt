-- What is promised of a state's bytes: nothing of an engine is lost between two calls, and the bytes of an engine are taken by the next one.
-- Assumes nothing.
use Rattle.std.specs.Prelude.{◌≡◌, true, List, ℕ, ◌^◌, ◌<◌, length}
use Rattle.registers.specs.Regs.{get_reg}
use Rattle.engine.specs.declared.Engine.{Engine}
use Rattle.state.specs.Layout.{encoded, decoded, is_state, Bytes}

-- what was decoded is encoded as it was, and what was encoded is decoded as it was
abbrev pub BytesBack : Type 0
BytesBack = (s : List ℕ) → is_state s ≡ true → Bytes s → encoded (decoded s) ≡ s

-- an engine whose numbers fit their places, as those of the code do
pub record Fits (e : Engine) : Type 0 where
  pub registers : (o : ℕ) → get_reg o e.bank.regs < 2 ^ 32
  pub taken : e.blit.taken < 2 ^ 32
  pub last : e.blit.last < 2 ^ 32
  pub opened : e.opened < 2 ^ 64
  pub source : (e.rooms.source.pixels < 2 ^ 32) × (e.rooms.source.rows < 2 ^ 32)
  pub target : (e.rooms.target.pixels < 2 ^ 32) × (e.rooms.target.rows < 2 ^ 32)
  pub pattern : length e.bank.pattern ≡ 256

abbrev pub EngineBack : Type 0
EngineBack = (e : Engine) → Fits e → decoded (encoded e) ≡ e

-- the bytes of any engine are a state, so that the next call takes them
abbrev pub StaysState : Type 0
StaysState = (e : Engine) → is_state (encoded e) ≡ true
