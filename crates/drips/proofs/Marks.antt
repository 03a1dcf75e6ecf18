-- Laws of the marks: one pixel, and the loops that mark a list from its front.
-- Assumes nothing.
use mathlib.Core.Path.{◌≡◌, refl, sym, ap, ◌∙◌}
use mathlib.Core.Bool.{Bool, true, false}
use mathlib.Core.List.{List, [], ◌∷◌, ◌++◌}
use Prim.Native.Nat.{ℕ, suc, ◌+◌, ◌-◌, ◌*◌, ◌<◌, ◌≤◌}
use native.Mathlib.Nat.{add-zero}
use native.Mathlib.Numerals.{add-one}
use native.Mathlib.Omega.{arith}
use lib.ListN.{length, drop, get_or, drop_of_length-le}
use lib.Seq.{drop-cons}
use Rattle.surface.specs.Pixels.{Px}
use Rattle.spans.specs.Span.{addresses}
use Rattle.ink.specs.declared.Ink.{Ink}
use Rattle.paint.specs.declared.Clip.{Clip}
use Rattle.paint.specs.Clip.{in_clip, pixel_at}
use Rattle.pages.specs.Pages.{marked_at, marking}
use Rattle.pages.proofs.MarkLaws.{marking-append}
use Rattle.host.specs.declared.Feed.{Feed}
use Rattle.host.specs.Host.{Pixel, pixel, by_byte, by_bytes, by_word, by_run}
use Rattle.host.specs.Draw.{host_source}
use Rattle.drips.specs.Drips.{dripped}
use Rattle.drips.proofs.Drops.{dripped-append}

-- the marks with those of the written pixels' pages
abbrev pub dripping : Ink → Clip → Feed → List Pixel → List Bool → List Bool
dripping ink c feed ps marks = marking ink.target (dripped ink c feed ps) marks

module _ (ink : Ink) (c : Clip) (feed : Feed) where
  -- ---- one pixel
  pub one-falls : (i j v : ℕ) (marks : List Bool) → in_clip c (feed.x + i) (feed.y + j) ≡ true → (host_source ink feed v).left ≡ false
      → marking ink.target (pixel_at (feed.x + i) (feed.y + j) ∷ []) marks ≡ dripping ink c feed (pixel i j v ∷ []) marks
  unfolding dripped
  one-falls i j v marks e f = rw (e, f)

  pub one_left : (i j v : ℕ) (marks : List Bool) → (host_source ink feed v).left ≡ true → marks ≡ dripping ink c feed (pixel i j v ∷ []) marks
  unfolding dripped addresses marked_at
  one_left i j v marks f = by-test (in_clip c (feed.x + i) (feed.y + j)) refl
    where
      by-test : (b : Bool) → in_clip c (feed.x + i) (feed.y + j) ≡ b → marks ≡ dripping ink c feed (pixel i j v ∷ []) marks
      by-test true e = rw (e, f)
      by-test false e = rw e

  pub one_outside : (i j v : ℕ) (marks : List Bool) → in_clip c (feed.x + i) (feed.y + j) ≡ false → marks ≡ dripping ink c feed (pixel i j v ∷ []) marks
  unfolding dripped addresses marked_at
  one_outside i j v marks e = rw e

  -- ---- lists
  pub none-drips : {ps : List Pixel} (marks : List Bool) → ps ≡ [] → marks ≡ dripping ink c feed ps marks
  unfolding dripped addresses marked_at
  none-drips marks e = rw e

  -- the front of a list marked, what is left of it is marked on that
  pub drip-takes : (rest ps rest' : List Pixel) (marks : List Bool) {marks' : List Bool} → rest ≡ ps ++ rest' → marks' ≡ dripping ink c feed ps marks
      → dripping ink c feed rest' marks' ≡ dripping ink c feed rest marks
  drip-takes rest ps rest' marks e put =
      ap (dripping ink c feed rest') put
      ∙ sym (marking-append ink.target (dripped ink c feed ps) (dripped ink c feed rest') marks)
      ∙ ap (λ (l : List Px). marking ink.target l marks) (sym (dripped-append ink c feed ps rest'))
      ∙ ap (λ (l : List Pixel). dripping ink c feed l marks) (sym e)

-- ---- the bytes of a word, and the words of a run, from the front
module _ (feed : Feed) (last word : ℕ) where
  pub bytes-turn : (k t : ℕ) → t < 4
      → by_bytes feed last word (4 * k + t) (4 - t) ≡ by_byte feed last word (4 * k + t) ++ by_bytes feed last word (4 * k + (t + 1)) (4 - (t + 1))
  unfolding by_bytes
  bytes-turn k t h =
      let e : 4 - t ≡ suc (4 - (t + 1)) = omega arith in
      let a : 4 * k + (t + 1) ≡ 4 * k + t + 1 = omega arith in
      rw (e, a)

  pub bytes-start : (k : ℕ) → by_bytes feed last word (4 * k + 0) (4 - 0) ≡ by_word feed last word k
  unfolding by_word
  bytes-start k = rw (add-zero (4 * k))

  pub bytes-done : (o t : ℕ) → 4 ≤ t → by_bytes feed last word o (4 - t) ≡ []
  unfolding by_bytes
  bytes-done o t h = let e : 4 - t ≡ 0 = omega arith in rw e

module _ (feed : Feed) (ws : List ℕ) (last : ℕ) where
  pub run-turn : (k i : ℕ) → i < length ws
      → by_run feed last (drop i ws) (k + i) ≡ by_word feed last (get_or ws i 0) (k + i) ++ by_run feed (get_or ws i 0) (drop (i + 1) ws) (k + (i + 1))
  unfolding by_run
  run-turn k i h =
      let a : k + (i + 1) ≡ k + i + 1 = omega arith in
      rw (a, add-one i, drop-cons ws i 0 h)

  pub run-start : (k : ℕ) → by_run feed last (drop 0 ws) (k + 0) ≡ by_run feed last ws k
  run-start k = rw (add-zero k)

  pub run-done : (o i : ℕ) → length ws ≤ i → by_run feed last (drop i ws) o ≡ []
  unfolding by_run
  run-done o i h = rw (drop_of_length-le ws h)
