-- What functions of this crate ask for. No promise rests on it.
-- Assumes nothing.
use Rattle.std.specs.Prelude.{ℕ, ◌^◌, ◌<◌}
use Rattle.paint.specs.declared.Clip.{Clip}
use Rattle.paint.specs.Asked.{Bits12}

pub record Axis (least at : ℕ) : Type 0 where
  pub least12 : least < 2 ^ 12
  pub small : at < 20480

pub record CutRange (c : Clip) (x y w h sx sy : ℕ) : Type 0 where
  pub clip : Bits12 c
  pub x15 : x < 20480
  pub y15 : y < 20480
  pub w13 : w < 2 ^ 13
  pub h13 : h < 2 ^ 13
  pub sx15 : sx < 20480
  pub sy15 : sy < 20480
