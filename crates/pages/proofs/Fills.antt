-- Pixels that are all in a list, none twice, and as many as the list has, are all of the list.
-- Assumes nothing.
use mathlib.Core.Path.{◌≡◌, refl, sym, ap, ◌∙◌}
use mathlib.Core.Logic.{◌⊎◌, inl, inr, ⊎_elim}
use mathlib.Core.List.Memᴰ
use mathlib.Core.List.{List, [], ◌∷◌}
use Prim.Native.Nat.{suc, ◌≤◌}
use native.Mathlib.Omega.{arith}
use lib.ListN.{length}
use Rattle.surface.specs.Pixels.{Px}
use Rattle.surface.proofs.Lists.{In}
use Rattle.surface.proofs.Rects.{Distinct}

-- a list with one of its pixels taken out once
record Without (p : Px) (qs : List Px) : Type 0 where
  rest : List Px
  shorter : length qs ≡ suc (length rest)
  other : (q : Px) → In q qs → (q ≡ p) ⊎ In q rest

without : (p : Px) (qs : List Px) → In p qs → Without p qs
without p [] i = absurd (Memᴰ.not-nil i)
without p (q ∷ qs) i =
    ⊎_elim (λ e. record { rest = qs; shorter = refl; other = λ t j. ⊎_elim (λ f. inl (f ∙ sym e)) inr (Memᴰ.cases_cons j) })
    (λ k.
    let r = without p qs k in
    record {
      rest = q ∷ r.rest;
      shorter = ap suc r.shorter;
      other = λ t j. ⊎_elim (λ f. inr (Memᴰ.head f)) (λ m. ⊎_elim inl (λ n. inr (Memᴰ.tail n)) (r.other t m)) (Memᴰ.cases_cons j);
    }) (Memᴰ.cases_cons i)

pub fills : (ps qs : List Px) → Distinct ps → ((p : Px) → In p ps → In p qs) → length qs ≤ length ps → (q : Px) → In q qs → In q ps
fills [] [] once all few q i = absurd (Memᴰ.not-nil i)
fills [] (t ∷ qs) once all few q i = absurd (omega arith)
fills (p ∷ ps) qs once all few q i =
    let r = without p qs (all p (Memᴰ.head refl)) in
    ⊎_elim (λ e. Memᴰ.head e)
    (λ j. Memᴰ.tail (fills ps r.rest once.1
    (λ t k. ⊎_elim (λ e. absurd (once.0 t k (sym e))) (λ m. m) (r.other t (all t (Memᴰ.tail k)))) (omega (arith, r.shorter)) q j)) (r.other q i)
