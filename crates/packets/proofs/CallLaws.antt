-- A call: a turn of its loop, and its end.
-- Assumes nothing.
use Rattle.std.proofs.Common.{◌≡◌, ℕ, ◌+◌, ◌-◌, ◌<◌, ◌≤◌, Bool, true, false, cond, not, ◌&&◌, eqb, ltb, leb, List, [], ◌∷◌, length, get_or, drop, sym, refl, ap, ◌∙◌, add-one, arith, drop-cons, eqb-true}
use mathlib.Core.Bool.{and-eq-true_iff}
use Rattle.basics.specs.Each.{each}
use Rattle.basics.specs.Word.{word_at}
use Rattle.packets.specs.declared.Rest.{Rest}
use Rattle.packets.specs.declared.Reader.{Reader}
use Rattle.packets.specs.declared.Next.{Next}
use Rattle.packets.specs.Reader.{between, worded, took, is_between, next, next_of}
use Rattle.packets.specs.Delivery.{Writer}
use Rattle.packets.specs.Answers.{Lent, room, Call, call, Done, noting, is_full, took_one, took_all}
use Rattle.packets.proofs.NextLaws.{four}
use Rattle.packets.proofs.Promises.{word, spelling}

-- ---- a turn of the loop

-- four numbers of a list
one-first : (t : List ℕ) (i : ℕ) → i < length t → drop i t ≡ get_or t i 0 ∷ drop (i + 1) t
one-first t i h = rw (add-one, drop-cons t i 0 h)

four-first : (t : List ℕ) (i : ℕ) → i + 4 ≤ length t → drop i t ≡ get_or t i 0 ∷ get_or t (i + 1) 0 ∷ get_or t (i + 2) 0 ∷ get_or t (i + 3) 0 ∷ drop (i + 4) t
four-first t i h =
    let two : i + 1 + 1 ≡ i + 2 = omega arith in
    let three : i + 2 + 1 ≡ i + 3 = omega arith in
    let all : i + 3 + 1 ≡ i + 4 = omega arith in
    rw (one-first t i (omega arith), one-first t (i + 1) (omega arith), two, one-first t (i + 2) (omega arith), three, one-first t (i + 3) (omega arith), all)

-- a reader that passes the test is between two words
parts : (w h : ℕ) (rest : Rest) (c : Bool) → h ≡ 0 → w ≡ 0 → not c ≡ true → ◌≡◌ {A = Reader} (record { word = w; held = h; rest = rest; closed = c }) (between rest)
parts w h rest false f g e = rw (f, g)
parts w h rest true f g e = rw (f, g) (ap (λ (t : Bool). record { word = 0; held = 0; rest = rest; closed = t }) (sym e))

between_is : (r : Reader) → is_between r ≡ true → r ≡ between r.rest
between_is r e =
    let all = (and-eq-true_iff (eqb r.held 0 && eqb r.word 0) (not r.closed)).0 e in
    let both = (and-eq-true_iff (eqb r.held 0) (eqb r.word 0)).0 all.0 in
    parts r.word r.held r.rest r.closed (eqb-true r.held 0 both.0) (eqb-true r.word 0 both.1) all.1

module _ {S : Type 0} (write : Writer S) where
  four-took : (a b c d u : ℕ) (rest : Rest) (s : S) (l : Lent) → room l ≡ true
      → noting write (worded rest (word a b c d)).event (worded rest (word a b c d)).reader s l (u + 4)
      ≡ took_one write d (took_one write c (took_one write b (took_one write a (call (between rest) s l u))))
  unfolding took_one took
  four-took a b c d u rest s l h =
      let used : u + 4 ≡ u + 1 + 1 + 1 + 1 = omega arith in
      rw (h, used, ← (spelling a b c d))

  -- some bytes are taken, and what the rest makes of the call now is what all that was left made of it before
  pub record Turned (piece : List ℕ) (c c' : Call S) : Type 0 where
    pub further : c.used < c'.used
    pub within : c'.used ≤ length piece
    pub same : took_all write (drop c'.used piece) c' ≡ took_all write (drop c.used piece) c

  module _ (piece : List ℕ) (r : Reader) (s : S) (l : Lent) (u : ℕ) (some : u < length piece) where
    after : Next → Call S
    after n = noting write n.event n.reader s l n.used

    word-turn : (is_between r && room l && leb 4 (length piece - u)) ≡ true
        → Turned piece (call r s l u) (after (next (worded r.rest (word_at piece u)) (u + 4)))
    unfolding each after word_at
    word-turn e =
        let both = (and-eq-true_iff (is_between r) (room l)).0 ((and-eq-true_iff (is_between r && room l) (leb 4 (length piece - u))).0 e).0 in
        let more = four (is_between r && room l) (length piece - u) e in
        record {
          further = omega arith;
          within = omega arith;
          same =
              ap (each (took_one write) (drop (u + 4) piece)) (four-took (get_or piece u 0) (get_or piece (u + 1) 0) (get_or piece (u + 2) 0) (get_or piece (u + 3) 0) u r.rest s l both.1)
              ∙ sym (ap (λ (t : List ℕ). each (took_one write) t (call (between r.rest) s l u)) (four-first piece u (omega arith)))
              ∙ ap (λ (q : Reader). each (took_one write) (drop u piece) (call q s l u)) (sym (between_is r both.0));
        }

    byte-turn : is_full (call r s l u) ≡ false → Turned piece (call r s l u) (after (next (took (get_or piece u 0) r) (u + 1)))
    unfolding each after took_one
    byte-turn f =
        record {
          further = omega arith;
          within = omega arith;
          same =
              ap (λ (t : Bool). each (took_one write) (drop (u + 1) piece) (cond t (call r s l u) (after (next (took (get_or piece u 0) r) (u + 1))))) (sym f)
              ∙ sym (ap (λ (t : List ℕ). each (took_one write) t (call r s l u)) (one-first piece u some));
        }

    -- by what the code finds: whether there is room, the next bytes, and what was done of their event
    pub turned : {t : Bool} → t ≡ room l → (ltb 2 r.held && not t) ≡ false → {n : Next} → n ≡ next_of r piece u t → {s' : S} {l' : Lent} → Done write n.event s l s' l'
        → Turned piece (call r s l u) (call n.reader s' l' n.used)
    unfolding next_of after
    turned p f {n} g d = rw (d.state, d.run, g, p) (by-test (is_between r && room l && leb 4 (length piece - u)) refl)
      where
        by-test : (t : Bool) → (is_between r && room l && leb 4 (length piece - u)) ≡ t
            → Turned piece (call r s l u)
            (after (cond t (next (worded r.rest (word_at piece u)) (u + 4)) (next (took (get_or piece u 0) r) (u + 1))))
        by-test true e = word-turn e
        by-test false e = byte-turn (rw p at f)

  -- a full call takes nothing more
  pub full-stays : (bytes : List ℕ) (c : Call S) → is_full c ≡ true → c ≡ took_all write bytes c
  unfolding each took_one
  full-stays [] c f = refl
  full-stays (b ∷ bytes) c f = rw f (full-stays bytes c f)
