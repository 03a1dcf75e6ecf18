-- Of the pixels that a run writes: each is one of the rectangle's inside the clip, so on the target, and none comes twice.
-- Assumes nothing.
use mathlib.Core.Path.{◌≡◌, refl, sym, ap, ◌∙◌}
use mathlib.Core.Bool.{Bool, true, false, cond, not}
use mathlib.Core.List.Memᴰ
use mathlib.Core.List.{List, [], ◌∷◌, map, map-append}
use Prim.Native.Nat.{ℕ, ◌+◌, ◌-◌}
use native.Mathlib.Omega.{arith}
use Rattle.surface.specs.Asked.{OnColour}
use Rattle.surface.specs.Pixels.{Px, origin}
use Rattle.surface.proofs.Lists.{In, pairs-append}
use Rattle.surface.proofs.OnLaws.{and_left}
use Rattle.surface.proofs.Rects.{Distinct, same-px}
use Rattle.ink.specs.declared.Ink.{Ink}
use Rattle.paint.specs.declared.Clip.{Clip}
use Rattle.paint.specs.Clip.{in_clip, pixel_at}
use Rattle.paint.proofs.ClipLaws.{in-clip}
use Rattle.host.specs.declared.Feed.{Feed}
use Rattle.host.specs.Host.{last_byte_of, Pixel, by_word, by_run}
use Rattle.host.specs.Draw.{host_source}
use Rattle.host.specs.Asked.{Rows, Opened}
use Rattle.host.proofs.Finished.{finished-by}
use Rattle.host.proofs.Touched.{Touched}
use Rattle.host.proofs.Once.{spot, word-distinct}
use Rattle.drips.specs.Drips.{falls, dripped}
use Rattle.drips.proofs.Drops.{in-dripped}
use Rattle.drips.proofs.Reach.{run-reached}

-- ---- no pixel of the data comes twice among those of a run
spots-distinct : (f : Feed) → Rows f → (ws : List ℕ) (last k : ℕ) → Distinct (map spot (by_run f last ws k))
unfolding by_run
spots-distinct f ok [] last k = tt
spots-distinct f ok (w ∷ ws) last k =
    rw map-append
    (pairs-append (map spot (by_word f last w k)) (map spot (by_run f w ws (k + 1))) (word-distinct f last w k) (spots-distinct f ok ws w (k + 1))
    (λ p q i j e.
    let a = Memᴰ.of_map spot (by_word f last w k) i in
    let b = Memᴰ.of_map spot (by_run f w ws (k + 1)) j in
    let here = ((finished-by f last w ok k a.0).0 a.1).here in
    let later = (run-reached f ok ws w (k + 1) b.0 b.1).from in
    let same : last_byte_of f a.0.i a.0.j ≡ last_byte_of f b.0.i b.0.j = ap (λ (r : Px). last_byte_of f r.x r.y) (a.2 ∙ e ∙ sym b.2) in
    omega arith))

module _ (ink : Ink) (c : Clip) (feed : Feed) where
  -- positions inside the clip are those of different pixels where the data's are different
  falls-distinct : (ps : List Pixel) → Distinct (map spot ps) → Distinct (dripped ink c feed ps)
  unfolding dripped
  falls-distinct [] h = tt
  falls-distinct (p ∷ ps) h = by-test (falls ink c feed p) refl (falls-distinct ps h.1)
    where
      by-test : (b : Bool) → falls ink c feed p ≡ b → Distinct (dripped ink c feed ps)
          → Distinct (cond b (pixel_at (feed.x + p.i) (feed.y + p.j) ∷ dripped ink c feed ps) (dripped ink c feed ps))
      by-test true t rest = (
        λ q m e.
            let r = in-dripped ink c feed ps q m in
            let u = in-clip c (feed.x + p.i) (feed.y + p.j) (and_left (in_clip c (feed.x + p.i) (feed.y + p.j)) (not (host_source ink feed p.value).left) t) in
            let v = in-clip c (feed.x + r.of.i) (feed.y + r.of.j) r.inside in
            let x : feed.x + p.i - origin ≡ feed.x + r.of.i - origin = ap (λ (s : Px). s.x) (e ∙ r.place) in
            let y : feed.y + p.j - origin ≡ feed.y + r.of.j - origin = ap (λ (s : Px). s.y) (e ∙ r.place) in
            h.0 (spot r.of) (Memᴰ.map spot r.one) (same-px (spot p) (spot r.of) (omega (arith, u.left, v.left)) (omega (arith, u.top, v.top))),
        rest,
      )
      by-test false t rest = rest

  module _ (ok : Rows feed) (ws : List ℕ) (last k : ℕ) where
    pub dripped-distinct : Distinct (dripped ink c feed (by_run feed last ws k))
    dripped-distinct = falls-distinct (by_run feed last ws k) (spots-distinct feed ok ws last k)

    pub dripped-touched : (p : Px) → In p (dripped ink c feed (by_run feed last ws k)) → Touched c feed p
    dripped-touched p m =
        let r = in-dripped ink c feed (by_run feed last ws k) p m in
        let s = run-reached feed ok ws last k r.of r.one in
        record { i = r.of.i; j = r.of.j; column = s.column; row = s.row; inside = r.inside; place = r.place }

  pub dripped-on : {len : ℕ} → Opened ink c feed len → (ws : List ℕ) (last k : ℕ) (p : Px) → In p (dripped ink c feed (by_run feed last ws k))
      → OnColour ink.target len p.x p.y
  dripped-on o ws last k p m =
      let t = dripped-touched o.rows ws last k p m in
      rw t.place (o.covered.on t.i t.j t.column t.row t.inside)
