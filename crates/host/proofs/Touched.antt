-- Every pixel that a word touches is inside the clip, is one of the rectangle's, and is on the target.
-- Assumes nothing.
use mathlib.Core.Path.{◌≡◌, refl, sym, ap, subst}
use mathlib.Core.Logic.{⊎_elim}
use mathlib.Core.Bool.{Bool, true, false, cond}
use mathlib.Core.List.Memᴰ
use mathlib.Core.List.{List, [], ◌∷◌, Memᴰ}
use Prim.Native.Nat.{ℕ, ◌+◌, ◌<◌}
use Rattle.surface.specs.Asked.{OnColour}
use Rattle.surface.specs.Pixels.{Px}
use Rattle.ink.specs.declared.Ink.{Ink}
use Rattle.paint.specs.declared.Clip.{Clip}
use Rattle.paint.specs.Paint.{Touch}
use Rattle.paint.specs.Mix.{placed}
use Rattle.paint.specs.Clip.{in_clip, pixel_at}
use Rattle.host.specs.declared.Feed.{Feed}
use Rattle.host.specs.Host.{Pixel, by_word}
use Rattle.host.specs.Asked.{Rows, Opened}
use Rattle.host.specs.Draw.{host_source, host_touches}
use Rattle.host.proofs.Finished.{Has, finished-by}

-- p is the target pixel of pixel (i, j) of the rectangle, at a position inside the clip
pub record Touched (c : Clip) (feed : Feed) (p : Px) : Type 0 where
  pub i : ℕ
  pub j : ℕ
  pub column : i < feed.width
  pub row : j < feed.height
  pub inside : in_clip c (feed.x + i) (feed.y + j) ≡ true
  pub place : p ≡ pixel_at (feed.x + i) (feed.y + j)

abbrev InRectangle : Feed → List Pixel → Type 0
InRectangle feed ps = (q : Pixel) → Has q ps → (q.i < feed.width) × (q.j < feed.height)

module _ (ink : Ink) (pattern : List ℕ) (c : Clip) (feed : Feed) where
  touched-of : (ps : List Pixel) → InRectangle feed ps → (t : Touch) → Memᴰ t (host_touches ink pattern c feed ps) → Touched c feed t.at
  unfolding host_touches
  touched-of [] h t m = absurd (Memᴰ.not-nil m)
  touched-of (p ∷ ps) h t m =
      by-test (in_clip c (feed.x + p.i) (feed.y + p.j)) refl m (touched-of ps (λ q n. h q (Memᴰ.tail n)) t)
    where
      by-test : (b : Bool) → in_clip c (feed.x + p.i) (feed.y + p.j) ≡ b
          → Memᴰ t (cond b (placed ink pattern (pixel_at (feed.x + p.i) (feed.y + p.j)) (host_source ink feed p.value) ∷ host_touches ink pattern c feed ps) (host_touches ink pattern c feed ps))
          → (Memᴰ t (host_touches ink pattern c feed ps) → Touched c feed t.at) → Touched c feed t.at
      by-test true e n rest =
          ⊎_elim
          (λ q. record {
            i = p.i;
            j = p.j;
            column = (h p (Memᴰ.head refl)).0;
            row = (h p (Memᴰ.head refl)).1;
            inside = e;
            place = ap (λ (u : Touch). u.at) q;
          })
          rest (Memᴰ.cases_cons n)
      by-test false e n rest = rest n

  pub touched-inside : Rows feed → (last word k : ℕ) (t : Touch) → Memᴰ t (host_touches ink pattern c feed (by_word feed last word k)) → Touched c feed t.at
  touched-inside ok last word k =
      touched-of (by_word feed last word k) (λ q m. let r = (finished-by feed last word ok k q).0 m in (r.ends.column, r.ends.row))

  pub touched-on : {len : ℕ} → Opened ink c feed len → (last word k : ℕ) (t : Touch)
      → Memᴰ t (host_touches ink pattern c feed (by_word feed last word k)) → OnColour ink.target len t.at.x t.at.y
  touched-on {len} o last word k t m =
      let r = touched-inside o.rows last word k t m in
      subst (λ (p : Px). OnColour ink.target len p.x p.y) (sym r.place) (o.covered.on r.i r.j r.column r.row r.inside)
