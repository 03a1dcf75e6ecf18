-- The one law for a contract that is an equation: it allows one outcome.
-- Assumes nothing.
use mathlib.Core.Path.{◌≡◌, sym, ◌∙◌}

pub settled : {A : Type 0} (f x y : A) → x ≡ f → y ≡ f → x ≡ y
settled f x y p q = p ∙ sym q
