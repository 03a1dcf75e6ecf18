-- An extent is right: its pages hold every byte of the written pixels, and where it says so, each of them has one.
-- Assumes nothing.
use mathlib.Core.Path.{◌≡◌, refl, sym, ap₂, ◌∙◌}
use mathlib.Core.Logic.{⊎_elim}
use mathlib.Core.Bool.{Bool, true, false, ◌&&◌, ◌||◌}
use mathlib.Core.List.Memᴰ
use mathlib.Core.List.{List, [], ◌∷◌, Memᴰ}
use Prim.Native.Nat.{ℕ, ◌+◌, ◌-◌, ◌*◌, ◌^◌, ◌<◌, ◌≤◌}
use native.Mathlib.Nat.{mul_comm}
use native.Mathlib.Omega.{arith}
use native.Mathlib.Decide.{ℕ_discrete}
use lib.Dec.{eqb, ltb}
use lib.ListN.{length}
use borrow.Author.Tests.{lt-ltb, ltb-true, eqb-true, ne_eqb}
use Rattle.surface.specs.declared.Surface.{Surface}
use Rattle.surface.specs.Place.{byte_at, first_byte, on_surface}
use Rattle.surface.specs.Pixels.{Px, rect, Inside}
use Rattle.surface.specs.Asked.{Colour}
use Rattle.surface.proofs.Lists.{In, by_cases}
use Rattle.surface.proofs.Rects.{Distinct, rect-in, rect-length}
use Rattle.surface.proofs.OnLaws.{and_left, and_right, some_byte, on-bytes}
use Rattle.spans.specs.Span.{addresses}
use Rattle.spans.proofs.Spans.{in-addresses, addresses-in}
use Rattle.pages.specs.Pages.{page_of, marked_at, marking}
use Rattle.pages.specs.Extent.{starts, band_of, first_page, last_page, extent_of}
use Rattle.pages.proofs.MarkLaws.{either, false-true, or_cases, InPage, marking-none, marks-between, starts_none}
use Rattle.pages.proofs.Bands.{Filled, stride-some, page-within, band-marks}
use Rattle.pages.proofs.Fills.{fills}

-- ---- tests: a rectangle with pixels
pub sides : (w h : ℕ) → (ltb 0 w && ltb 0 h) ≡ true → (0 < w) × (0 < h)
sides w h e = (ltb-true 0 w (and_left (ltb 0 w) (ltb 0 h) e), ltb-true 0 h (and_right (ltb 0 w) (ltb 0 h) e))

pub no_sides : (w h : ℕ) → (ltb 0 w && ltb 0 h) ≡ false → 0 < w → 0 < h → ⊥
no_sides w h e p q = false-true (sym e ∙ ap₂ ◌&&◌ (lt-ltb 0 w p) (lt-ltb 0 h q))

-- ---- the three forms of an extent

-- some pixel may be written, and the last page is one of the memory's
pub record Boxed (s : Surface) (x y w h count : ℕ) : Type 0 where
  pub some : 0 < count
  pub wide : 0 < w
  pub high : 0 < h
  pub fits : last_page s x y w h < 4096

module _ (s : Surface) (x y w h count : ℕ) where
  abbrev test : Bool
  test = ltb 0 count && (ltb 0 w && (ltb 0 h && ltb (last_page s x y w h) 4096))

  test-boxed : test ≡ true → Boxed s x y w h count
  test-boxed e =
      let last = ltb (last_page s x y w h) 4096 in
      let f = and_right (ltb 0 count) _ e in
      let g = and_right (ltb 0 w) _ f in
      record {
        some = ltb-true 0 count (and_left (ltb 0 count) _ e);
        wide = ltb-true 0 w (and_left (ltb 0 w) _ f);
        high = ltb-true 0 h (and_left (ltb 0 h) last g);
        fits = ltb-true (last_page s x y w h) 4096 (and_right (ltb 0 h) last g);
      }

  boxed-test : Boxed s x y w h count → test ≡ true
  boxed-test b = rw (lt-ltb 0 count b.some, lt-ltb 0 w b.wide, lt-ltb 0 h b.high, lt-ltb (last_page s x y w h) 4096 b.fits)

  pub extent-box : Boxed s x y w h count → extent_of s x y w h count
      ≡ record { first = first_page s x y; past = last_page s x y w h + 1; whole = eqb (first_page s x y) (last_page s x y w h) || (eqb count (w * h) && eqb (band_of s y h) h) }
  unfolding extent_of
  extent-box b = rw (boxed-test b)

  pub extent-none : count ≡ 0 → extent_of s x y w h count ≡ record { first = 0; past = 0; whole = true }
  unfolding extent_of
  extent-none e = rw e

  pub extent-all : (count ≡ 0 → ⊥) → (Boxed s x y w h count → ⊥) → extent_of s x y w h count ≡ record { first = 0; past = 4096; whole = false }
  unfolding extent_of
  extent-all n off = either test (λ e. absurd (off (test-boxed e))) (λ e. rw (e, ne_eqb count 0 n))

  by-extent : {A : Type 0} → (Boxed s x y w h count → A) → (count ≡ 0 → A) → ((count ≡ 0 → ⊥) → (Boxed s x y w h count → ⊥) → A) → A
  by-extent f g k =
      by_cases (ℕ_discrete count 0) g (λ n. either test (λ e. f (test-boxed e)) (λ e. k n (λ b. false-true (sym e ∙ boxed-test b))))

-- ---- pixels of a rectangle that are written: so many, none twice, all on the surface
pub record Lies (s : Surface) (x y w h count : ℕ) (ps : List Px) : Type 0 where
  pub colour : Colour s
  pub inside : (p : Px) → In p ps → Inside x y w h p
  pub len : ℕ
  pub limit : len ≤ 2 ^ 24
  pub on : (p : Px) → In p ps → on_surface s len p.x p.y ≡ true
  pub once : Distinct ps
  pub many : length ps ≡ count

some-pixel : (ps : List Px) → 0 < length ps → (p : Px) × In p ps
some-pixel [] h = absurd (omega arith)
some-pixel (p ∷ ps) h = (p, Memᴰ.head refl)

no-pixel : (ps : List Px) → length ps ≡ 0 → (p : Px) → In p ps → ⊥
no-pixel [] e p i = Memᴰ.not-nil i
no-pixel (q ∷ ps) e p i = omega arith

module _ {s : Surface} {x y w h count : ℕ} {ps : List Px} (l : Lies s x y w h count ps) where
  page-held : (a : ℕ) → Memᴰ a (addresses s ps) → (first_page s x y ≤ page_of a) × (page_of a ≤ last_page s x y w h)
  page-held a i =
      let b = in-addresses s ps a i in
      let p = b.0 in
      page-within s x y w h p a l.colour.some (stride-some s l.len p.x p.y (l.on p b.1)) (l.inside p b.1) b.2

  page-small : (a : ℕ) → Memᴰ a (addresses s ps) → page_of a < 4096
  page-small a i =
      let b = in-addresses s ps a i in
      let p = b.0 in
      omega (arith, l.limit, b.2.at, on-bytes s l.len p.x p.y (l.on p b.1) b.2.k b.2.low)

  none_in : count ≡ 0 → (a : ℕ) → Memᴰ a (addresses s ps) → ⊥
  none_in e a i = let b = in-addresses s ps a i in no-pixel ps (l.many ∙ e) b.0 b.1

  pub extent-holds : (a : ℕ) → Memᴰ a (addresses s ps)
      → ((extent_of s x y w h count).first ≤ page_of a) × (page_of a < (extent_of s x y w h count).past)
  extent-holds a i =
      by-extent s x y w h count
      (λ b. rw (extent-box s x y w h count b) (let r = page-held a i in omega arith))
      (λ e. absurd (none_in e a i))
      (λ n off. rw (extent-all s x y w h count n off) (omega (arith, page-small a i)))

  -- one page alone has a byte of any pixel
  one-page : 0 < count → first_page s x y ≡ last_page s x y w h → (k : ℕ) → first_page s x y ≤ k → k ≤ last_page s x y w h → InPage (addresses s ps) k
  one-page some e k low high =
      let p = some-pixel ps (omega (arith, l.many)) in
      let a = byte_at s (first_byte s p.0.x + 0) p.0.y in
      let i = addresses-in s ps p.0 a p.1 (record { k = 0; low = some_byte s; at = refl }) in
      let r = page-held a i in
      record { a = a; one = i; page = omega arith }

  -- all pixels of one band have a byte in each
  all-filled : Boxed s x y w h count → count ≡ w * h → band_of s y h ≡ h → Filled s x y w h ps
  all-filled b e band =
      let p = some-pixel ps (omega (arith, l.many, b.some)) in
      let pixels = rect false false x y w h in
      record {
        some = l.colour.some;
        stride = stride-some s l.len p.0.x p.0.y (l.on p.0 p.1);
        wide = b.wide;
        high = b.high;
        band = band;
        all = λ q i. fills ps pixels l.once (λ t j. rect-in false false x y w h t (l.inside t j))
            (omega (arith, rect-length false false x y w h, mul_comm w h, l.many)) q (rect-in false false x y w h q i);
        only = l.inside;
      }

  box-marks : Boxed s x y w h count → (eqb (first_page s x y) (last_page s x y w h) || (eqb count (w * h) && eqb (band_of s y h) h)) ≡ true → (marks : List Bool)
      → marking s ps marks ≡ marked_at (starts (first_page s x y) (last_page s x y w h + 1 - first_page s x y)) marks
  box-marks b whole marks =
      ⊎_elim
      (λ e. marks-between (addresses s ps) (first_page s x y) (last_page s x y w h) marks page-held (one-page b.some (eqb-true (first_page s x y) (last_page s x y w h) e)))
      (λ e.
      let count-all = eqb-true count (w * h) (and_left (eqb count (w * h)) (eqb (band_of s y h) h) e) in
      let one-band = eqb-true (band_of s y h) h (and_right (eqb count (w * h)) (eqb (band_of s y h) h) e) in
      band-marks (all-filled b count-all one-band) marks)
      (or_cases (eqb (first_page s x y) (last_page s x y w h)) (eqb count (w * h) && eqb (band_of s y h) h) whole)

  pub extent-whole : (extent_of s x y w h count).whole ≡ true → (marks : List Bool)
      → marking s ps marks ≡ marked_at (starts (extent_of s x y w h count).first ((extent_of s x y w h count).past - (extent_of s x y w h count).first)) marks
  extent-whole whole marks =
      by-extent s x y w h count
      (λ b. rw (extent-box s x y w h count b) (box-marks b (rw (extent-box s x y w h count b) at whole) marks))
      (λ e. rw (extent-none s x y w h count e) (marking-none s ps marks (no-pixel ps (l.many ∙ e)) ∙ sym (starts_none 0 0 marks (omega arith))))
      (λ n off. absurd (false-true (rw (extent-all s x y w h count n off) at whole)))

pub extent-past : (s : Surface) (x y w h count : ℕ) → (extent_of s x y w h count).past ≤ 4096
extent-past s x y w h count =
    by-extent s x y w h count
    (λ b. rw (extent-box s x y w h count b) (omega (arith, b.fits)))
    (λ e. rw (extent-none s x y w h count e) (omega arith))
    (λ n off. rw (extent-all s x y w h count n off) (omega arith))
