-- The loops over a stretch of a row's pixels: what is left of it, drawn on the state now, is all of it drawn on the state at the start.
-- Assumes nothing.
use mathlib.Core.Path.{◌≡◌, refl, sym}
use mathlib.Core.List.{List, [], ◌∷◌}
use Prim.Native.Nat.{ℕ, ◌+◌, ◌-◌, ◌%◌, ◌<◌, ◌≤◌}
use native.Mathlib.Omega.{arith}
use Rattle.ink.specs.declared.Ink.{Ink}
use Rattle.paint.specs.declared.Clip.{Clip}
use Rattle.paint.specs.declared.Tally.{Tally}
use Rattle.paint.specs.Paint.{tallied}
use Rattle.paint.specs.Asked.{Room}
use Rattle.paint.proofs.Tallies.{room-left}
use Rattle.host.specs.declared.Feed.{Feed}
use Rattle.host.specs.Host.{last_byte_of, pixel, value_of}
use Rattle.host.specs.Draw.{host_touches, drawn}
use Rattle.paint.proofs.Loops.{Left, left-begins}
use Rattle.host.proofs.Drawing.{draw-takes, draw-ended}
use Rattle.plain.specs.Plain.{stretch}
use Rattle.plain.proofs.Stretch.{stretch-append, stretch-length}

-- the pixels of row j from start up to end, those before pixel i drawn
pub record StretchLeft (ink : Ink) (pattern : List ℕ) (c : Clip) (feed : Feed) (last word j start end : ℕ) (m₀ : List ℕ) (n : Tally) (i : ℕ) (m : List ℕ) (r : Tally) : Type 0 where
  pub left : Left ink.target (host_touches ink pattern c feed (stretch feed last word j start (end - start))) m₀ n (i - start) (host_touches ink pattern c feed (stretch feed last word j i (end - i))) m r
  pub low : start ≤ i

module _ {ink : Ink} {pattern : List ℕ} {c : Clip} {feed : Feed} {last word j start end : ℕ} {m₀ : List ℕ} {n : Tally} where
  pub stretch-begins : StretchLeft ink pattern c feed last word j start end m₀ n start m₀ n
  stretch-begins = record { left = left-begins refl; low = omega arith }

  module _ {i : ℕ} {m : List ℕ} {r : Tally} (now : StretchLeft ink pattern c feed last word j start end m₀ n i m r) where
    pub stretch-room : (k : ℕ) → Room n (end - start) → i + k ≤ end → Room r k
    stretch-room k room fits = room-left room now.left.upto (omega (arith, now.low))

    -- k pixels at once
    pub stretch-takes : (k : ℕ) {m' : List ℕ} {r' : Tally} → i + k ≤ end → tallied m' r' ≡ drawn ink pattern c feed (stretch feed last word j i k) (tallied m r)
        → StretchLeft ink pattern c feed last word j start end m₀ n (i + k) m' r'
    stretch-takes k fits put =
        let e : end - i ≡ k + (end - (i + k)) = omega arith in
        record {
          left = draw-takes ink pattern c feed (stretch feed last word j i (end - i)) (stretch feed last word j i k) _ now.left (rw e (sym (stretch-append feed last word j i k (end - (i + k)))))
              (omega (arith, now.low, stretch-length feed last word j i k)) put;
          low = omega (arith, now.low);
        }

    pub stretch-goes-on : (v : ℕ) {m' : List ℕ} {r' : Tally} → i < end → v ≡ value_of feed last word (last_byte_of feed i j % 4) i
        → tallied m' r' ≡ drawn ink pattern c feed (pixel i j v ∷ []) (tallied m r) → StretchLeft ink pattern c feed last word j start end m₀ n (i + 1) m' r'
    unfolding stretch
    stretch-goes-on v more e put = stretch-takes 1 (omega arith) (rw (← e) put)

    pub stretch-ended : end ≤ i → tallied m r ≡ drawn ink pattern c feed (stretch feed last word j start (end - start)) (tallied m₀ n)
    unfolding stretch
    stretch-ended all = let e : end - i ≡ 0 = omega arith in draw-ended ink pattern c feed {rest = stretch feed last word j i (end - i)} (rw e) now.left
