-- Laws of a plain blit: one pixel of it, and that every ink with raster operation CC and no keys draws as the plain one.
-- Assumes nothing.
use mathlib.Core.Path.{◌≡◌, refl, sym, ap, ap₂, subst, ◌∙◌}
use mathlib.Core.Bool.{Bool, true, false, cond}
use mathlib.Core.Option.{Option, none, some}
use mathlib.Core.List.{List, [], ◌∷◌}
use Prim.Native.Nat.{ℕ, ◌+◌, ◌-◌, ◌^◌, ◌<◌}
use lib.Dec.{eqb}
use Rattle.surface.specs.declared.Surface.{Surface}
use Rattle.surface.specs.Asked.{Colour, OnColour}
use Rattle.surface.specs.Pixels.{Px, origin}
use Rattle.ink.specs.declared.Ink.{Ink}
use Rattle.paint.specs.declared.Clip.{Clip}
use Rattle.paint.specs.declared.Source.{Source}
use Rattle.paint.specs.Paint.{State, dab, Touch, touch, paint}
use Rattle.paint.specs.Mix.{source, bit_source, colour_source, mixed, direct}
use Rattle.paint.specs.Clip.{in_clip, pixel_at}
use Rattle.paint.proofs.MixLaws.{direct-low, direct-mixed}
use Rattle.host.specs.declared.Feed.{Feed}
use Rattle.bits.specs.declared.Plain.{Plain}
use Rattle.host.specs.Host.{Pixel, pixel}
use Rattle.host.specs.Draw.{host_source, host_touches, drawn}
use Rattle.host.specs.Asked.{Opened}
use Rattle.plain.specs.Plain.{plain_ink, Plainly}

-- ---- the plain ink
pub plain-direct : (p : Plain) → direct (plain_ink p) ≡ true
unfolding plain_ink
plain-direct p = refl

unkeyed : (p : Plain) (feed : Feed) (v : ℕ) → (host_source (plain_ink p) feed v).key ≡ false
unfolding host_source bit_source colour_source plain_ink
unkeyed p feed v = by-test (eqb feed.bytes 0)
  where
    by-test : (t : Bool) → (cond t (bit_source (plain_ink p) v) (colour_source (plain_ink p) feed.bytes v)).key ≡ false
    by-test true = refl
    by-test false = refl

as_source : (p : Plain) (feed : Feed) (v : ℕ)
    → host_source (plain_ink p) feed v ≡ source (host_source (plain_ink p) feed v).value false (host_source (plain_ink p) feed v).left
as_source p feed v = ap (λ (k : Bool). source (host_source (plain_ink p) feed v).value k (host_source (plain_ink p) feed v).left) (unkeyed p feed v)

-- ---- an ink that draws as the plain one does
again : (s z : Surface) (t : Bool) (at : Px) (g h : List ℕ → Option ℕ) (ts us : List Touch) → s ≡ z → ((m : List ℕ) → g m ≡ h m)
    → ((st : State) → paint s ts st ≡ paint z us st) → (st : State) → paint s (cond t (touch at g ∷ ts) ts) st ≡ paint z (cond t (touch at h ∷ us) us) st
unfolding paint
again s z true at g h ts us e q r st =
    ap₂ (λ (w : Surface) (o : Option ℕ). paint s ts (dab w at o st)) e (q st.mem) ∙ r (dab z at (h st.mem) st)
again s z false at g h ts us e q r st = r st

module _ (ink : Ink) (p : Plain) (same : Plainly ink p) where
  source-same : (feed : Feed) (v : ℕ) → host_source ink feed v ≡ host_source (plain_ink p) feed v
  unfolding host_source bit_source colour_source plain_ink
  source-same feed v = rw (same.target, same.fore, same.back, same.clear, same.unkeyed)

  -- the source's value is all that a pixel gets
  gives_same : (feed : Feed) (v a b m n : ℕ) → mixed (plain_ink p) b (host_source (plain_ink p) feed v) n ≡ mixed ink a (host_source ink feed v) m
  gives_same feed v a b m n =
      let s = host_source (plain_ink p) feed v in
      ap (λ (u : Source). mixed (plain_ink p) b u n) (as_source p feed v) ∙ direct-low (plain_ink p) b s.value n s.left (plain-direct p)
      ∙ sym (ap (λ (u : Source). mixed ink a u m) (source-same feed v ∙ as_source p feed v) ∙ direct-low ink a s.value m s.left same.gets)

  target-same : (plain_ink p).target ≡ ink.target
  unfolding plain_ink
  target-same = sym same.target

  pub plainly-drawn : (pattern : List ℕ) (c : Clip) (feed : Feed) (ps : List Pixel) (st : State)
      → drawn (plain_ink p) [] c feed ps st ≡ drawn ink pattern c feed ps st
  unfolding host_touches paint
  plainly-drawn pattern c feed [] st = refl
  plainly-drawn pattern c feed (q ∷ ps) st =
      again (plain_ink p).target ink.target (in_clip c (feed.x + q.i) (feed.y + q.j)) (pixel_at (feed.x + q.i) (feed.y + q.j)) _ _
      (host_touches (plain_ink p) [] c feed ps) (host_touches ink pattern c feed ps) target-same (λ m. gives_same feed q.value _ _ _ _)
      (plainly-drawn pattern c feed ps) st

-- a blit that was opened with it was opened with the plain one
pub plainly-opened : {ink : Ink} {p : Plain} {c : Clip} {feed : Feed} {len : ℕ} → Plainly ink p → Opened ink c feed len → Opened (plain_ink p) c feed len
unfolding plain_ink
plainly-opened {ink} {p} {c} {feed} {len} same o = record {
  colour = subst Colour same.target o.colour;
  bits12 = o.bits12;
  rows = o.rows;
  x = o.x;
  y = o.y;
  covered = record {
    on = λ i j a b e. subst (λ (s : Surface). OnColour s len (feed.x + i - origin) (feed.y + j - origin)) same.target (o.covered.on i j a b e);
  };
}

-- ---- one pixel
pub plain-put : (p : Plain) (c : Clip) (feed : Feed) (i j v : ℕ) (st : State) {value : ℕ} {left : Bool} {st' : State} → in_clip c (feed.x + i) (feed.y + j) ≡ true → value < 2 ^ 32
    → source value false left ≡ host_source (plain_ink p) feed v → st' ≡ dab p.target (pixel_at (feed.x + i) (feed.y + j)) (cond left none (some value)) st
    → st' ≡ drawn (plain_ink p) [] c feed (pixel i j v ∷ []) st
unfolding host_touches paint plain_ink
plain-put p c feed i j v st {value} {left} inside small e put = rw (inside, ← e, direct-mixed (plain_ink p) _ value _ left (plain-direct p) small) put
