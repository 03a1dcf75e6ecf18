-- The part of memory that a view names.
-- Assumes nothing.
use mathlib.Core.Path.{◌≡◌, refl, ap, ◌∙◌}
use mathlib.Core.List.{List}
use Prim.Native.Nat.{ℕ, ◌*◌}
use lib.ListN.{length}
use Rattle.surface.specs.declared.Surface.{Surface}
use Rattle.surface.specs.Place.{byte_of}
use Rattle.surface.specs.Asked.{Colour}
use Rattle.formats.specs.Format.{target_of}
use Rattle.views.specs.View.{view_answer}
use Rattle.views.proofs.ViewLaws.{given-zero, start-given, count-given, start-refused, count-refused}
use Rattle.capi.specs.Calls.{part, part_of}
use Rattle.capi.specs.Promises.{PartViewed}

module _ (m : List ℕ) (base format x y width : ℕ) where
  abbrev answer : ℕ
  answer = view_answer (length m) base format x y width

  pub part-refused : {a : ℕ} → a ≡ answer → (a ≡ 0 → ⊥) → part a 0 0 ≡ part_of m base format x y width
  unfolding part_of
  part-refused {a} e n =
      rw (start-refused (length m) base format x y width (λ z. n (e ∙ z)), count-refused (length m) base format x y width (λ z. n (e ∙ z))) (ap (λ v. part v 0 0) e)

  pub part-given : {s : Surface} {start : ℕ} → answer ≡ 0 → s ≡ target_of base format → start ≡ byte_of s x y 0
      → part 0 start (width * s.bytes) ≡ part_of m base format x y width
  unfolding part_of
  part-given {s} z e f =
      rw (start-given (length m) base format x y width z, count-given (length m) base format x y width z, z)
      (ap (λ n. part 0 n (width * s.bytes)) f ∙ ap (λ t. part 0 (byte_of t x y 0) (width * t.bytes)) e)

  pub part-colour : {s : Surface} → answer ≡ 0 → s ≡ target_of base format → Colour s
  part-colour z e = rw e (given-zero (length m) base format x y width z).last.colour

pub part-viewed : PartViewed
unfolding part_of
part-viewed m base format x y width = (refl, (refl, refl))
