-- A chosen part of a list of pixels, in its order: its pixels are the list's, and where none of the list comes twice, none of them does.
-- Assumes nothing.
use mathlib.Core.Logic.{⊎_elim}
use mathlib.Core.List.Memᴰ
use mathlib.Core.List.{List, [], ◌∷◌}
use Rattle.surface.specs.Pixels.{Px}
use Rattle.surface.proofs.Lists.{In}
use Rattle.surface.proofs.Rects.{Distinct}

pub data Part : List Px → List Px → Type 0 where
  end : Part [] []
  kept : {p : Px} {qs ps : List Px} → Part qs ps → Part (p ∷ qs) (p ∷ ps)
  passed : {p : Px} {qs ps : List Px} → Part qs ps → Part qs (p ∷ ps)

pub part_in : {qs ps : List Px} → Part qs ps → (q : Px) → In q qs → In q ps
part_in end q i = i
part_in (kept r) q i = ⊎_elim (λ e. Memᴰ.head e) (λ j. Memᴰ.tail (part_in r q j)) (Memᴰ.cases_cons i)
part_in (passed r) q i = Memᴰ.tail (part_in r q i)

pub part-distinct : {qs ps : List Px} → Part qs ps → Distinct ps → Distinct qs
part-distinct end h = tt
part-distinct (kept r) h = (λ q i. h.0 q (part_in r q i), part-distinct r h.1)
part-distinct (passed r) h = part-distinct r h.1
