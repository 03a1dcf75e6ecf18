-- Laws of drawing: pixels drawn one list after the other, one pixel, how many are written, and the loops that draw a list from its front.
-- Assumes nothing.
use mathlib.Core.Path.{◌≡◌, refl, sym, ap, ◌∙◌}
use mathlib.Core.Bool.{Bool, true, false, cond}
use mathlib.Core.List.{List, [], ◌∷◌, ◌++◌, append_assoc}
use Prim.Native.Nat.{ℕ, zero, suc, ◌+◌, ◌-◌, ◌*◌, ◌/◌, ◌%◌, ◌^◌, ◌<◌, ◌≤◌}
use native.Mathlib.Nat.{add-zero, zero-add, suc-add}
use native.Mathlib.Omega.{arith}
use native.Mathlib.Decide.{dec_lt}
use borrow.Author.Tests.{lt-ltb, le-ltb}
use lib.ListN.{length, length-append}
use Rattle.surface.specs.Place.{read_px}
use Rattle.surface.specs.Pixels.{origin}
use Rattle.surface.proofs.Lists.{by_cases}
use Rattle.ink.specs.declared.Ink.{Ink}
use Rattle.paint.specs.declared.Clip.{Clip}
use Rattle.paint.specs.declared.Source.{Source}
use Rattle.paint.specs.declared.Tally.{Tally}
use Rattle.paint.specs.Paint.{State, tallied, dab, Touch, paint}
use Rattle.paint.specs.Mix.{mixed}
use Rattle.ink.specs.Pattern.{pattern_value}
use Rattle.paint.specs.Clip.{in_clip, pixel_at}
use Rattle.paint.specs.Asked.{Room}
use Rattle.paint.proofs.Tallies.{room-left}
use Rattle.paint.proofs.Turns.{paint-append}
use Rattle.paint.proofs.Loops.{Left, left-begins, left-takes, left_ended}
use Rattle.host.specs.declared.Feed.{Feed}
use Rattle.host.specs.Host.{Pixel, pixel, value_of, whole, run, by_byte, by_bytes, by_word}
use Rattle.host.specs.Asked.{Sizes}
use Rattle.host.specs.Draw.{host_source, host_touches, drawn}
use Rattle.host.proofs.Places.{whole-width}

-- ---- one list after the other
in-front : (b : Bool) (t : Touch) (ts us vs : List Touch) → vs ≡ ts ++ us → cond b (t ∷ vs) vs ≡ cond b (t ∷ ts) ts ++ us
in-front true t ts us vs e = ap (λ (l : List Touch). t ∷ l) e
in-front false t ts us vs e = e

module _ (ink : Ink) (pattern : List ℕ) (c : Clip) (feed : Feed) where
  pub touches-append : (ps qs : List Pixel)
      → host_touches ink pattern c feed (ps ++ qs) ≡ host_touches ink pattern c feed ps ++ host_touches ink pattern c feed qs
  unfolding host_touches
  touches-append [] qs = refl
  touches-append (p ∷ ps) qs =
      in-front (in_clip c (feed.x + p.i) (feed.y + p.j)) _ (host_touches ink pattern c feed ps) (host_touches ink pattern c feed qs)
      (host_touches ink pattern c feed (ps ++ qs)) (touches-append ps qs)

  pub drawn-append : (ps qs : List Pixel) (st : State) → drawn ink pattern c feed (ps ++ qs) st ≡ drawn ink pattern c feed qs (drawn ink pattern c feed ps st)
  drawn-append ps qs st =
      ap (λ (ts : List Touch). paint ink.target ts st) (touches-append ps qs)
      ∙ paint-append ink.target (host_touches ink pattern c feed ps) (host_touches ink pattern c feed qs) st

  -- ---- one pixel
  pub pixel-put : (i j v p : ℕ) (s : Source) (m : List ℕ) (n : Tally) (st : State) → in_clip c (feed.x + i) (feed.y + j) ≡ true
      → p ≡ pattern_value ink pattern (feed.x + i - origin) (feed.y + j - origin) → s ≡ host_source ink feed v
      → st ≡ dab ink.target (pixel_at (feed.x + i) (feed.y + j))
      (mixed ink p s (read_px m ink.target (feed.x + i - origin) (feed.y + j - origin))) (tallied m n)
      → st ≡ drawn ink pattern c feed (pixel i j v ∷ []) (tallied m n)
  unfolding host_touches paint
  pixel-put i j v p s m n st e a b d = rw e (rw (← a, ← b) d)

  pub pixel-past : (i j v : ℕ) (st : State) → in_clip c (feed.x + i) (feed.y + j) ≡ false → st ≡ drawn ink pattern c feed (pixel i j v ∷ []) st
  unfolding host_touches paint
  pixel-past i j v st e = rw e

  -- ---- none, and how many
  pub none-drawn : {ps : List Pixel} (st : State) → ps ≡ [] → st ≡ drawn ink pattern c feed ps st
  unfolding host_touches paint
  none-drawn st e = rw e

  touches-length : (ps : List Pixel) → length (host_touches ink pattern c feed ps) ≤ length ps
  unfolding host_touches
  touches-length [] = omega arith
  touches-length (p ∷ ps) = by-test (in_clip c (feed.x + p.i) (feed.y + p.j)) _ (host_touches ink pattern c feed ps) (touches-length ps)
    where
      by-test : (b : Bool) (t : Touch) (ts : List Touch) → length ts ≤ length ps → length (cond b (t ∷ ts) ts) ≤ suc (length ps)
      by-test true t ts l = omega arith
      by-test false t ts l = omega arith

  -- ---- a loop that draws: a turn draws the front of what is left
  pub draw-takes : (rest ps rest' : List Pixel) {all : List Touch} {m₀ : List ℕ} {n : Tally} {k k' : ℕ} {m m' : List ℕ} {r r' : Tally}
      → Left ink.target all m₀ n k (host_touches ink pattern c feed rest) m r → rest ≡ ps ++ rest' → k + length ps ≤ k'
      → tallied m' r' ≡ drawn ink pattern c feed ps (tallied m r) → Left ink.target all m₀ n k' (host_touches ink pattern c feed rest') m' r'
  draw-takes rest ps rest' left e fits put =
      left-takes left (host_touches ink pattern c feed ps) (ap (host_touches ink pattern c feed) e ∙ touches-append ps rest') (omega (arith, touches-length ps)) put

  pub draw-ended : {all : List Touch} {rest : List Pixel} {m₀ : List ℕ} {n : Tally} {k : ℕ} {m : List ℕ} {r : Tally}
      → rest ≡ [] → Left ink.target all m₀ n k (host_touches ink pattern c feed rest) m r → tallied m r ≡ paint ink.target all (tallied m₀ n)
  unfolding host_touches
  draw-ended e left = left_ended left (ap (host_touches ink pattern c feed) e)

-- ---- the pixels of a byte, and the bytes of a word
module _ (feed : Feed) (last word : ℕ) where
  pub run-turn : (o i e v : ℕ) → i < e → v ≡ value_of feed last word (o % 4) i
      → run feed last word o i (e - i) ≡ (pixel i (o / feed.step) v ∷ []) ++ run feed last word o (i + 1) (e - (i + 1))
  unfolding run
  run-turn o i e v l a = let k : e - i ≡ suc (e - (i + 1)) = omega arith in rw (k, a)

  pub run-done : (o i e : ℕ) → e ≤ i → run feed last word o i (e - i) ≡ []
  unfolding run
  run-done o i e l = let k : e - i ≡ 0 = omega arith in rw k

  run_length : (o i n : ℕ) → length (run feed last word o i n) ≡ n
  unfolding run
  run_length o i zero = refl
  run_length o i (suc n) = ap suc (run_length o (i + 1) n)

  pub byte-run : (o : ℕ) {a e : ℕ} → o / feed.step < feed.height → a ≡ whole feed (o % feed.step) → e ≡ whole feed (o % feed.step + 1)
      → run feed last word o a (e - a) ≡ by_byte feed last word o
  unfolding by_byte
  byte-run o l p q = rw (lt-ltb _ _ l, p, q)

  pub byte-none : (o : ℕ) → feed.height ≤ o / feed.step → by_byte feed last word o ≡ []
  unfolding by_byte
  byte-none o l = rw (le-ltb _ _ l)

  byte-length : (o : ℕ) → length (by_byte feed last word o) ≤ feed.width
  byte-length o =
      by_cases (dec_lt (o / feed.step) feed.height)
      (λ l. rw (← byte-run o l refl refl, run_length) (omega (arith, whole-width feed (o % feed.step + 1))))
      (λ l. rw (byte-none o (omega arith)) (omega arith))

  pub bytes-length : feed.width ≤ 2 ^ 13 → (o n : ℕ) → length (by_bytes feed last word o n) ≤ 2 ^ 13 * n
  unfolding by_bytes
  bytes-length w o zero = omega arith
  bytes-length w o (suc n) = omega (arith, length-append (by_byte feed last word o) (by_bytes feed last word (o + 1) n), byte-length o, bytes-length w (o + 1) n)

  bytes-append : (o m n : ℕ) → by_bytes feed last word o (m + n) ≡ by_bytes feed last word o m ++ by_bytes feed last word (o + m) n
  unfolding by_bytes
  bytes-append o zero n = rw (add-zero o, zero-add n)
  bytes-append o (suc m) n =
      let p : o + suc m ≡ o + 1 + m = omega arith in
      rw (suc-add, p)
      (ap (λ (t : List Pixel). by_byte feed last word o ++ t) (bytes-append (o + 1) m n)
      ∙ sym (append_assoc (by_byte feed last word o) (by_bytes feed last word (o + 1) m) (by_bytes feed last word (o + 1 + m) n)))

-- ---- the loop over the bytes of word number k: t of them are taken
pub record WordLeft (ink : Ink) (pattern : List ℕ) (c : Clip) (feed : Feed) (last word k : ℕ) (m₀ : List ℕ) (n : Tally) (t : ℕ) (m : List ℕ) (r : Tally) : Type 0 where
  pub left : Left ink.target (host_touches ink pattern c feed (by_word feed last word k)) m₀ n (2 ^ 13 * t) (host_touches ink pattern c feed (by_bytes feed last word (4 * k + t) (4 - t))) m r

module _ {ink : Ink} {pattern : List ℕ} {c : Clip} {feed : Feed} {last word k : ℕ} {m₀ : List ℕ} {n : Tally} where
  pub word-begins : WordLeft ink pattern c feed last word k m₀ n 0 m₀ n
  unfolding by_word
  word-begins = record { left = left-begins (ap (λ (o : ℕ). host_touches ink pattern c feed (by_bytes feed last word o 4)) (add-zero (4 * k))) }

  module _ {t : ℕ} {m : List ℕ} {r : Tally} (now : WordLeft ink pattern c feed last word k m₀ n t m r) where
    pub word_room : Sizes feed → Room n (2 ^ 15) → t < 4 → Room r feed.width
    word_room sizes room more = room-left room now.left.upto (omega (arith, sizes.width))

    pub word-takes : Sizes feed → (i : ℕ) {m' : List ℕ} {r' : Tally} → t + i ≤ 4
        → tallied m' r' ≡ drawn ink pattern c feed (by_bytes feed last word (4 * k + t) i) (tallied m r) → WordLeft ink pattern c feed last word k m₀ n (t + i) m' r'
    word-takes sizes i fits put =
        let e : 4 - t ≡ i + (4 - (t + i)) = omega arith in
        let a : 4 * k + (t + i) ≡ 4 * k + t + i = omega arith in
        record {
          left = draw-takes ink pattern c feed (by_bytes feed last word (4 * k + t) (4 - t)) (by_bytes feed last word (4 * k + t) i) _ now.left (rw (e, a) (bytes-append feed last word (4 * k + t) i (4 - (t + i))))
              (omega (arith, bytes-length feed last word (omega (arith, sizes.width)) (4 * k + t) i)) put;
        }

    pub word-ended : 4 ≤ t → tallied m r ≡ drawn ink pattern c feed (by_word feed last word k) (tallied m₀ n)
    unfolding by_bytes
    word-ended all = let e : 4 - t ≡ 0 = omega arith in draw-ended ink pattern c feed {rest = by_bytes feed last word (4 * k + t) (4 - t)} (rw e) now.left
