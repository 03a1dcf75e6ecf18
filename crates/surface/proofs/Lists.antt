-- Lists of pixels: a relation that holds of each pixel and each later one.
-- Assumes nothing.
use mathlib.Core.Path.{refl}
use mathlib.Core.Logic.{⊎_elim}
use mathlib.Core.List.Memᴰ
use mathlib.Core.List.{List, [], ◌∷◌, ◌++◌, Memᴰ}
use Rattle.surface.specs.Pixels.{Px}

abbrev pub In : Px → List Px → Type 0
In p ps = Memᴰ p ps

pub by_cases : {A B : Type 0} → Dec A → (A → B) → ((A → ⊥) → B) → B
by_cases (yes a) f g = f a
by_cases (no a) f g = g a

abbrev pub Pairs : (Px → Px → Type 0) → List Px → Type 0
Pairs R [] = Unit {0}
Pairs R (p ∷ ps) = ((q : Px) → In q ps → R p q) × Pairs R ps

-- a weaker relation, perhaps only on the list's own pixels
pub pairs-map : {R Q : Px → Px → Type 0} (ps : List Px) → ((p q : Px) → In p ps → In q ps → R p q → Q p q) → Pairs R ps → Pairs Q ps
pairs-map [] f h = tt
pairs-map (p ∷ ps) f h =
    (λ q m. f p q (Memᴰ.head refl) (Memᴰ.tail m) (h.0 q m), pairs-map ps (λ a b i j. f a b (Memᴰ.tail i) (Memᴰ.tail j)) h.1)

pub pairs-append : {R : Px → Px → Type 0} (ps qs : List Px) → Pairs R ps → Pairs R qs → ((p q : Px) → In p ps → In q qs → R p q) → Pairs R (ps ++ qs)
pairs-append [] qs h k f = k
pairs-append (p ∷ ps) qs h k f = (
  λ q m. ⊎_elim (λ i. h.0 q i) (λ j. f p q (Memᴰ.head refl) j) (Memᴰ.append_cases ps m),
  pairs-append ps qs h.1 k (λ a b i j. f a b (Memᴰ.tail i) j),
)

pub pairs-all : {R : Px → Px → Type 0} (ps : List Px) → ((p q : Px) → In p ps → In q ps → R p q) → Pairs R ps
pairs-all [] f = tt
pairs-all (p ∷ ps) f = (λ q m. f p q (Memᴰ.head refl) (Memᴰ.tail m), pairs-all ps (λ a b i j. f a b (Memᴰ.tail i) (Memᴰ.tail j)))
