-- Words of a run: cut in two, they finish what the two finish; how many pixels that is at most; and the loop over them.
-- Assumes nothing.
use mathlib.Core.Path.{◌≡◌, refl, sym, ap, ap₂, subst, ◌∙◌}
use mathlib.Core.List.{List, [], ◌∷◌, ◌++◌, append_assoc, append-nil}
use Prim.Native.Nat.{ℕ, suc, ◌+◌, ◌-◌, ◌*◌, ◌^◌, ◌<◌, ◌≤◌}
use native.Mathlib.Nat.{add-zero}
use native.Mathlib.Omega.{arith}
use lib.ListN.{length, take, drop, get_or, length-append, length-drop, take-append-drop, drop_of_length-le}
use lib.Seq.{drop-drop, drop-cons, length-take-le}
use Rattle.ink.specs.declared.Ink.{Ink}
use Rattle.paint.specs.declared.Clip.{Clip}
use Rattle.paint.specs.declared.Tally.{Tally}
use Rattle.paint.specs.Tally.{tally}
use Rattle.paint.specs.Paint.{tallied, state}
use Rattle.paint.specs.Asked.{Room}
use Rattle.paint.proofs.Tallies.{room-first}
use Rattle.paint.proofs.Loops.{Left, left-begins}
use Rattle.host.specs.declared.Feed.{Feed}
use Rattle.host.specs.Host.{Pixel, by_word, by_run, last_of}
use Rattle.host.specs.Asked.{Sizes}
use Rattle.host.specs.Draw.{host_touches, drawn}
use Rattle.host.proofs.Drawing.{bytes-length, draw-takes, draw-ended}

-- ---- the last word
pub last_none : (last : ℕ) (ws : List ℕ) → length ws ≡ 0 → last ≡ last_of last ws
unfolding last_of
last_none last [] none' = refl
last_none last (w ∷ ws) none' = absurd (omega arith)

pub last_some : (ws : List ℕ) (last : ℕ) → 0 < length ws → last_of last ws ≡ get_or ws (length ws - 1) 0
unfolding last_of
last_some [] last some = absurd (omega arith)
last_some (w ∷ []) last some = refl
last_some (w ∷ v ∷ ws) last some =
    let e : suc (suc (length ws)) - 1 ≡ suc (length ws) = omega arith in
    let f : suc (length ws) - 1 ≡ length ws = omega arith in
    last_some (v ∷ ws) w (omega arith) ∙ rw (e, f)

module _ (f : Feed) where
  pub run-append : (us vs : List ℕ) (last k : ℕ) → by_run f last (us ++ vs) k ≡ by_run f last us k ++ by_run f (last_of last us) vs (k + length us)
  unfolding by_run last_of
  run-append [] vs last k = rw (add-zero k)
  run-append (u ∷ us) vs last k =
      let e : k + 1 + length us ≡ k + suc (length us) = omega arith in
      ap (λ (ps : List Pixel). by_word f last u k ++ ps) (run-append us vs u (k + 1))
      ∙ sym (append_assoc (by_word f last u k) (by_run f u us (k + 1)) (by_run f (last_of u us) vs (k + 1 + length us)))
      ∙ ap (λ (n : ℕ). (by_word f last u k ++ by_run f u us (k + 1)) ++ by_run f (last_of u us) vs n) e

  pub run-one : (w last k : ℕ) → by_run f last (w ∷ []) k ≡ by_word f last w k
  unfolding by_run
  run-one w last k = append-nil (by_word f last w k)

  run_length : Sizes f → (ws : List ℕ) (last k : ℕ) → length (by_run f last ws k) ≤ 2 ^ 15 * length ws
  unfolding by_run by_word
  run_length sizes [] last k = omega arith
  run_length sizes (w ∷ ws) last k =
      omega (arith, length-append (by_word f last w k) (by_run f w ws (k + 1)), bytes-length f last w (omega (arith, sizes.width)) (4 * k) 4, run_length sizes ws w (k + 1))

-- ---- the loop over the words of a run, the first of them number k: i of them are taken, and `last` is the word before the next
pub record RunLeft (ink : Ink) (pattern : List ℕ) (c : Clip) (feed : Feed) (first : ℕ) (ws : List ℕ) (k : ℕ) (m₀ : List ℕ) (i last : ℕ) (m : List ℕ) (r : Tally) : Type 0 where
  pub left : Left ink.target (host_touches ink pattern c feed (by_run feed first ws k)) m₀ (tally 0 0) (2 ^ 15 * i) (host_touches ink pattern c feed (by_run feed last (drop i ws) (k + i))) m r
  pub within : i ≤ length ws

module _ {ink : Ink} {pattern : List ℕ} {c : Clip} {feed : Feed} {first : ℕ} {ws : List ℕ} {k : ℕ} {m₀ : List ℕ} where
  pub run-begins : RunLeft ink pattern c feed first ws k m₀ 0 first m₀ (tally 0 0)
  run-begins = record { left = left-begins (rw (add-zero k)); within = omega arith }

  module _ {i last : ℕ} {m : List ℕ} {r : Tally} (now : RunLeft ink pattern c feed first ws k m₀ i last m r) where
    pub run_room : (n : ℕ) → length ws ≤ 2 ^ 16 → i + n ≤ length ws → Room r (2 ^ 15 * n)
    run_room n short more = room-first now.left.upto (omega arith)

    -- n words at once
    pub run-takes : Sizes feed → (n : ℕ) {m' : List ℕ} {r' : Tally} → i + n ≤ length ws
        → tallied m' r' ≡ drawn ink pattern c feed (by_run feed last (take n (drop i ws)) (k + i)) (tallied m r)
        → RunLeft ink pattern c feed first ws k m₀ (i + n) (last_of last (take n (drop i ws))) m' r'
    run-takes sizes n fits put =
        let long : length (take n (drop i ws)) ≡ n = length-take-le n (drop i ws) (omega (arith, length-drop i ws)) in
        let next : k + i + length (take n (drop i ws)) ≡ k + (i + n) = omega arith in
        record {
          left = draw-takes ink pattern c feed (by_run feed last (drop i ws) (k + i)) (by_run feed last (take n (drop i ws)) (k + i)) _ now.left
              (ap (λ (vs : List ℕ). by_run feed last vs (k + i)) (sym (take-append-drop n (drop i ws)))
              ∙ run-append feed (take n (drop i ws)) (drop n (drop i ws)) last (k + i)
              ∙ ap₂ (λ (vs : List ℕ) (o : ℕ). by_run feed last (take n (drop i ws)) (k + i) ++ by_run feed (last_of last (take n (drop i ws))) vs o) (drop-drop n i ws) next)
              (omega (arith, run_length feed sizes (take n (drop i ws)) last (k + i))) put;
          within = fits;
        }

    -- one of them
    pub run-takes-one : {m' : List ℕ} {r' : Tally} → Sizes feed → i < length ws
        → tallied m' r' ≡ drawn ink pattern c feed (by_word feed last (get_or ws i 0) (k + i)) (tallied m r)
        → RunLeft ink pattern c feed first ws k m₀ (i + 1) (get_or ws i 0) m' r'
    unfolding last_of
    run-takes-one {m'} {r'} sizes more put =
        let one : take 1 (drop i ws) ≡ get_or ws i 0 ∷ [] = rw (drop-cons ws i 0 more) in
        subst (λ (vs : List ℕ). RunLeft ink pattern c feed first ws k m₀ (i + 1) (last_of last vs) m' r') one
        (run-takes sizes 1 (omega arith) (rw (one, run-one feed (get_or ws i 0) last (k + i)) put))

    pub run-ended : length ws ≤ i → tallied m r ≡ drawn ink pattern c feed (by_run feed first ws k) (state m₀ 0 0)
    unfolding by_run
    run-ended all = draw-ended ink pattern c feed {rest = by_run feed last (drop i ws) (k + i)} (rw (drop_of_length-le ws all)) now.left
