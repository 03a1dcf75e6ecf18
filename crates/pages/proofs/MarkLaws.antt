-- Laws of marks: which are set, that only the set of pages counts, and what the loops over pages have left.
-- Assumes nothing.
use mathlib.Core.Path.{◌≡◌, refl, sym, ap, ◌∙◌}
use mathlib.Core.Logic.{◌⊎◌, inl, inr, ⊎_elim, ◌↔◌}
use mathlib.Core.Bool.{Bool, true, false, ◌||◌}
use mathlib.Core.List.Memᴰ
use mathlib.Core.List.{List, [], ◌∷◌, ◌++◌, append_assoc, Memᴰ}
use Prim.Native.Nat.{ℕ, zero, suc, ◌+◌, ◌-◌, ◌*◌, ◌/◌, ◌<◌, ◌≤◌}
use native.Mathlib.Omega.{arith}
use native.Mathlib.Decide.{ℕ_discrete}
use lib.ListN.{length, get_or, set, replicate, length-set, length-replicate, get_or-replicate}
use lib.Seq.{get_or-set_same, get_or-set_other, ext_get_or}
use Rattle.surface.specs.declared.Surface.{Surface}
use Rattle.surface.specs.Pixels.{Px}
use Rattle.surface.proofs.OnLaws.{same_test}
use Rattle.surface.proofs.Lists.{In, by_cases}
use Rattle.spans.specs.Span.{addresses}
use Rattle.spans.proofs.Spans.{in-addresses, addresses-in}
use Rattle.pages.specs.Pages.{page_of, marked_at, marking}
use Rattle.pages.specs.Extent.{starts}

-- ---- tests

-- what follows from one that holds, and from one that does not
pub either : {A : Type 0} (t : Bool) → (t ≡ true → A) → (t ≡ false → A) → A
either true f g = f refl
either false f g = g refl

or_left : (a b : Bool) → a ≡ true → (a || b) ≡ true
or_left true b e = refl
or_left false b e = absurd (let z : ◌≡◌ {A = ℕ} 0 1 = cc in omega arith)

or_right : (a b : Bool) → b ≡ true → (a || b) ≡ true
or_right true b e = refl
or_right false b e = e

pub or_cases : (a b : Bool) → (a || b) ≡ true → (a ≡ true) ⊎ (b ≡ true)
or_cases true b e = inl refl
or_cases false b e = inr e

pub false-true : false ≡ true → ⊥
false-true e = let z : ◌≡◌ {A = ℕ} 0 1 = cc in omega arith

-- one of the addresses is in page k
pub record InPage (l : List ℕ) (k : ℕ) : Type 0 where
  pub a : ℕ
  pub one : Memᴰ a l
  pub page : page_of a ≡ k

pub marked-length : (l : List ℕ) (marks : List Bool) → length (marked_at l marks) ≡ length marks
unfolding marked_at
marked-length [] marks = refl
marked-length (a ∷ l) marks = marked-length l (set marks (page_of a) true) ∙ length-set marks (page_of a) true

pub marked_append : (l r : List ℕ) (marks : List Bool) → marked_at (l ++ r) marks ≡ marked_at r (marked_at l marks)
unfolding marked_at
marked_append [] r marks = refl
marked_append (a ∷ l) r marks = marked_append l r (set marks (page_of a) true)

addresses-append : (s : Surface) (ps qs : List Px) → addresses s (ps ++ qs) ≡ addresses s ps ++ addresses s qs
unfolding addresses
addresses-append s [] qs = refl
addresses-append s (p ∷ ps) qs = rw (addresses-append s ps qs, append_assoc)

pub marking-append : (s : Surface) (ps qs : List Px) (marks : List Bool) → marking s (ps ++ qs) marks ≡ marking s qs (marking s ps marks)
marking-append s ps qs marks = rw addresses-append (marked_append (addresses s ps) (addresses s qs) marks)

pub marking-none : (s : Surface) (ps : List Px) (marks : List Bool) → ((p : Px) → Memᴰ p ps → ⊥) → marking s ps marks ≡ marks
unfolding addresses marked_at
marking-none s [] marks f = refl
marking-none s (p ∷ ps) marks f = absurd (f p (Memᴰ.head refl))

-- ---- which are set
set-true : (marks : List Bool) (p k : ℕ) → k < length marks → get_or marks k false ≡ true → get_or (set marks p true) k false ≡ true
set-true marks p k h e =
    by_cases (ℕ_discrete k p) (λ q. rw (← q) (get_or-set_same marks k true false h)) (λ q. get_or-set_other marks p k true false q ∙ e)

pub marked-stays : (l : List ℕ) (marks : List Bool) (k : ℕ) → k < length marks → get_or marks k false ≡ true → get_or (marked_at l marks) k false ≡ true
unfolding marked_at
marked-stays [] marks k h e = e
marked-stays (a ∷ l) marks k h e =
    marked-stays l (set marks (page_of a) true) k (rw length-set h) (set-true marks (page_of a) k h e)

pub marked-sets : (l : List ℕ) (marks : List Bool) (k a : ℕ) → k < length marks → Memᴰ a l → page_of a ≡ k → get_or (marked_at l marks) k false ≡ true
unfolding marked_at
marked-sets [] marks k a h i e = absurd (Memᴰ.not-nil i)
marked-sets (b ∷ l) marks k a h i e =
    ⊎_elim
    (λ q. marked-stays l (set marks (page_of b) true) k (rw length-set h)
    (let p : page_of b ≡ k = ap page_of (sym q) ∙ e in rw p (get_or-set_same marks k true false h)))
    (λ j. marked-sets l (set marks (page_of b) true) k a (rw length-set h) j e) (Memᴰ.cases_cons i)

pub marked-only : (l : List ℕ) (marks : List Bool) (k : ℕ) → get_or (marked_at l marks) k false ≡ true → (get_or marks k false ≡ true) ⊎ InPage l k
unfolding marked_at
marked-only [] marks k e = inl e
marked-only (a ∷ l) marks k e =
    by_cases (ℕ_discrete k (page_of a)) (λ q. inr (record { a = a; one = Memᴰ.head refl; page = sym q }))
    (λ q. ⊎_elim (λ f. inl (sym (get_or-set_other marks (page_of a) k true false q) ∙ f))
    (λ i. inr (record { a = i.a; one = Memᴰ.tail i.one; page = i.page })) (marked-only l (set marks (page_of a) true) k e))

pub marked-iff : (l : List ℕ) (marks : List Bool) (k : ℕ) → k < length marks
    → (get_or (marked_at l marks) k false ≡ true) ↔ ((get_or marks k false ≡ true) ⊎ InPage l k)
marked-iff l marks k h =
    (marked-only l marks k, ⊎_elim (marked-stays l marks k h) (λ i. marked-sets l marks k i.a h i.one i.page))

-- what is set is not set again
pub marked-already : (l : List ℕ) (marks : List Bool) → ((a : ℕ) → Memᴰ a l → get_or marks (page_of a) false ≡ true) → marked_at l marks ≡ marks
marked-already l marks f =
    ext_get_or false (marked_at l marks) marks (marked-length l marks) (λ k h.
    let h' : k < length marks = rw (marked-length l marks) at h in
    same_test _ _
    (λ e. ⊎_elim (λ g. g) (λ i. rw i.page at (f i.a i.one)) (marked-only l marks k e))
    (marked-stays l marks k h'))

-- ---- only the set of pages counts
pub same-pages : (l r : List ℕ) (marks : List Bool) → ((a : ℕ) → Memᴰ a l → InPage r (page_of a)) → ((a : ℕ) → Memᴰ a r → InPage l (page_of a))
    → marked_at l marks ≡ marked_at r marks
same-pages l r marks f g =
    ext_get_or false (marked_at l marks) (marked_at r marks) (marked-length l marks ∙ sym (marked-length r marks)) (λ k h.
    let h' : k < length marks = rw (marked-length l marks) at h in
    same_test _ _ (carried l r k h' f) (carried r l k h' g))
  where
    carried : (l r : List ℕ) (k : ℕ) → k < length marks → ((a : ℕ) → Memᴰ a l → InPage r (page_of a))
        → get_or (marked_at l marks) k false ≡ true → get_or (marked_at r marks) k false ≡ true
    carried l r k h f e =
        ⊎_elim (marked-stays r marks k h)
        (λ i. let j = f i.a i.one in marked-sets r marks k j.a h j.one (j.page ∙ i.page)) (marked-only l marks k e)

-- so lists with the same pixels mark the same
pub marking-same : (s : Surface) (ps qs : List Px) (marks : List Bool) → ((p : Px) → In p ps → In p qs) → ((p : Px) → In p qs → In p ps) → marking s ps marks ≡ marking s qs marks
marking-same s ps qs marks f g =
    same-pages (addresses s ps) (addresses s qs) marks
    (λ a i. let b = in-addresses s ps a i in record { a = a; one = addresses-in s qs b.0 a (f b.0 b.1) b.2; page = refl })
    (λ a i. let b = in-addresses s qs a i in record { a = a; one = addresses-in s ps b.0 a (g b.0 b.1) b.2; page = refl })

-- ---- marking adds: it sets what it sets of marks that are all clear, beside what is set
pub marking-adds : (l : List ℕ) (marks : List Bool) (k : ℕ) → k < length marks
    → get_or (marked_at l marks) k false ≡ (get_or marks k false || get_or (marked_at l (replicate (length marks) false)) k false)
marking-adds l marks k h =
    let clear = replicate (length marks) false in
    let h' : k < length clear = rw length-replicate h in
    let b = get_or (marked_at l clear) k false in
    same_test _ _
    (λ e. ⊎_elim (or_left (get_or marks k false) b)
    (λ i. or_right (get_or marks k false) b (marked-sets l clear k i.a h' i.one i.page)) (marked-only l marks k e))
    (λ e. ⊎_elim (marked-stays l marks k h)
    (λ f. ⊎_elim (λ g. absurd (false-true (sym (get_or-replicate (length marks) k false false h) ∙ g)))
    (λ i. marked-sets l marks k i.a h i.one i.page) (marked-only l clear k f))
    (or_cases (get_or marks k false) b e))

-- ---- a run of pages, as the addresses that they start at
in-starts : (k n a : ℕ) → Memᴰ a (starts k n) → (k ≤ page_of a) × (page_of a < k + n)
unfolding starts
in-starts k zero a i = absurd (Memᴰ.not-nil i)
in-starts k (suc n) a i = ⊎_elim (λ e. omega arith) (λ j. let r = in-starts (k + 1) n a j in omega arith) (Memᴰ.cases_cons i)

starts-in : (k n j : ℕ) → k ≤ j → j < k + n → InPage (starts k n) j
unfolding starts
starts-in k zero j g h = absurd (omega arith)
starts-in k (suc n) j g h =
    by_cases (ℕ_discrete j k) (λ e. record { a = k * 4096; one = Memᴰ.head refl; page = omega arith })
    (λ e. let r = starts-in (k + 1) n j (omega arith) (omega arith) in record { a = r.a; one = Memᴰ.tail r.one; page = r.page })

-- addresses that are in the pages from one to another, and in each of them
pub marks-between : (l : List ℕ) (first last : ℕ) (marks : List Bool) → ((a : ℕ) → Memᴰ a l → (first ≤ page_of a) × (page_of a ≤ last))
    → ((k : ℕ) → first ≤ k → k ≤ last → InPage l k) → marked_at l marks ≡ marked_at (starts first (last + 1 - first)) marks
marks-between l first last marks held met =
    let n = last + 1 - first in
    same-pages l (starts first n) marks
    (λ a i. let r = held a i in starts-in first n (page_of a) r.0 (omega arith))
    (λ a i. let r = in-starts first n a i in met (page_of a) r.0 (omega arith))

pub starts-cons : (k past : ℕ) (marks : List Bool) → k < past
    → marked_at (starts (k + 1) (past - (k + 1))) (set marks k true) ≡ marked_at (starts k (past - k)) marks
unfolding marked_at starts
starts-cons k past marks h =
    let q : past - k ≡ suc (past - (k + 1)) = omega arith in
    let p : k ≡ k * 4096 / 4096 = omega arith in
    rw q (ap (λ (n : ℕ). marked_at (starts (k + 1) (past - (k + 1))) (set marks n true)) p)

pub starts_none : (k past : ℕ) (marks : List Bool) → past ≤ k → marked_at (starts k (past - k)) marks ≡ marks
unfolding marked_at starts
starts_none k past marks h = let q : past - k ≡ 0 = omega arith in rw q
