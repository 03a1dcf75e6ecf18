-- Laws of the pixels that are written: those of two lists, which of the painters' pixels they are, and what each of them is.
-- Assumes nothing.
use mathlib.Core.Path.{◌≡◌, refl, sym, ap, ◌∙◌}
use mathlib.Core.Logic.{⊎_elim}
use mathlib.Core.Bool.{Bool, true, false, cond, not}
use mathlib.Core.List.Memᴰ
use mathlib.Core.List.{List, [], ◌∷◌, ◌++◌}
use Prim.Native.Nat.{ℕ, ◌+◌}
use Rattle.surface.specs.declared.Surface.{Surface}
use Rattle.surface.specs.Pixels.{Px}
use Rattle.surface.proofs.Lists.{In}
use Rattle.surface.proofs.OnLaws.{and_left, and_right}
use Rattle.ink.specs.declared.Ink.{Ink}
use Rattle.paint.specs.declared.Clip.{Clip}
use Rattle.paint.specs.Paint.{dab, wrote}
use Rattle.paint.specs.Mix.{placed, mixed}
use Rattle.paint.specs.Clip.{in_clip, pixel_at}
use Rattle.host.specs.declared.Feed.{Feed}
use Rattle.host.specs.Host.{Pixel}
use Rattle.host.specs.Draw.{host_source, host_touches}
use Rattle.host.proofs.Finished.{Has}
use Rattle.drips.specs.Drips.{falls, dripped}

-- pixel p is the target pixel of one of the data's that is written
pub record From (ink : Ink) (c : Clip) (feed : Feed) (ps : List Pixel) (p : Px) : Type 0 where
  pub of : Pixel
  pub one : Has of ps
  pub inside : in_clip c (feed.x + of.i) (feed.y + of.j) ≡ true
  pub kept : (host_source ink feed of.value).left ≡ false
  pub place : p ≡ pixel_at (feed.x + of.i) (feed.y + of.j)

kept_of : (b : Bool) → not b ≡ true → b ≡ false
kept_of true e = sym e
kept_of false e = refl

module _ (ink : Ink) (c : Clip) (feed : Feed) where
  abbrev at : Pixel → Px
  at p = pixel_at (feed.x + p.i) (feed.y + p.j)

  -- ---- one list after the other
  in-front : (b : Bool) (p : Px) (ps qs rs : List Px) → rs ≡ ps ++ qs → cond b (p ∷ rs) rs ≡ cond b (p ∷ ps) ps ++ qs
  in-front true p ps qs rs e = ap (λ (l : List Px). p ∷ l) e
  in-front false p ps qs rs e = e

  pub dripped-append : (ps qs : List Pixel) → dripped ink c feed (ps ++ qs) ≡ dripped ink c feed ps ++ dripped ink c feed qs
  unfolding dripped
  dripped-append [] qs = refl
  dripped-append (p ∷ ps) qs =
      in-front (falls ink c feed p) (at p) (dripped ink c feed ps) (dripped ink c feed qs) (dripped ink c feed (ps ++ qs)) (dripped-append ps qs)

  -- ---- which they are
  pub in-dripped : (ps : List Pixel) (p : Px) → In p (dripped ink c feed ps) → From ink c feed ps p
  unfolding dripped
  in-dripped [] p m = absurd (Memᴰ.not-nil m)
  in-dripped (q ∷ ps) p m =
      by-test (falls ink c feed q) refl m
      (λ n. let r = in-dripped ps p n in record { of = r.of; one = Memᴰ.tail r.one; inside = r.inside; kept = r.kept; place = r.place })
    where
      by-test : (b : Bool) → falls ink c feed q ≡ b → In p (cond b (at q ∷ dripped ink c feed ps) (dripped ink c feed ps))
          → (In p (dripped ink c feed ps) → From ink c feed (q ∷ ps) p) → From ink c feed (q ∷ ps) p
      by-test true e n later =
          ⊎_elim
          (λ place. record {
            of = q;
            one = Memᴰ.head refl;
            inside = and_left (in_clip c (feed.x + q.i) (feed.y + q.j)) (not (host_source ink feed q.value).left) e;
            kept = kept_of _ (and_right (in_clip c (feed.x + q.i) (feed.y + q.j)) (not (host_source ink feed q.value).left) e);
            place = place;
          })
          later (Memᴰ.cases_cons n)
      by-test false e n later = later n

  pub dripped-in : (ps : List Pixel) (p : Px) → From ink c feed ps p → In p (dripped ink c feed ps)
  unfolding dripped
  dripped-in [] p r = absurd (Memᴰ.not-nil r.one)
  dripped-in (q ∷ ps) p r =
      ⊎_elim (λ e. here e)
      (λ m. behind (falls ink c feed q) (dripped-in ps p (record { of = r.of; one = m; inside = r.inside; kept = r.kept; place = r.place })))
      (Memᴰ.cases_cons r.one)
    where
      behind : (b : Bool) → In p (dripped ink c feed ps) → In p (cond b (at q ∷ dripped ink c feed ps) (dripped ink c feed ps))
      behind true m = Memᴰ.tail m
      behind false m = m

      here : r.of ≡ q → In p (cond (falls ink c feed q) (at q ∷ dripped ink c feed ps) (dripped ink c feed ps))
      here e =
          let f : falls ink c feed q ≡ true = rw (← e, r.inside, r.kept) in
          rw f (Memᴰ.head (r.place ∙ ap at e))

-- ---- the painters write exactly these
pub dripped-wrote : (s : Surface) (ink : Ink) (pattern : List ℕ) (c : Clip) (feed : Feed) (ps : List Pixel) (m : List ℕ)
    → wrote s (host_touches ink pattern c feed ps) m ≡ dripped ink c feed ps
unfolding dripped wrote host_touches mixed dab
dripped-wrote s ink pattern c feed [] m = refl
dripped-wrote s ink pattern c feed (p ∷ ps) m =
    by-test (in_clip c (feed.x + p.i) (feed.y + p.j)) (host_source ink feed p.value).left refl refl (dripped-wrote s ink pattern c feed ps)
  where
    by-test : (b l : Bool) → in_clip c (feed.x + p.i) (feed.y + p.j) ≡ b → (host_source ink feed p.value).left ≡ l
        → ((m' : List ℕ) → wrote s (host_touches ink pattern c feed ps) m' ≡ dripped ink c feed ps)
        → wrote s (cond (in_clip c (feed.x + p.i) (feed.y + p.j)) (placed ink pattern (at ink c feed p) (host_source ink feed p.value) ∷ host_touches ink pattern c feed ps) (host_touches ink pattern c feed ps)) m
        ≡ cond (falls ink c feed p) (at ink c feed p ∷ dripped ink c feed ps) (dripped ink c feed ps)
    by-test true true e f rest = rw (e, f) (rest m)
    by-test true false e f rest = rw (e, f) (ap (λ (l : List Px). at ink c feed p ∷ l) (rest _))
    by-test false l e f rest = rw e (rest m)
