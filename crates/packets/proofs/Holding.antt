-- What a call leaves: the bytes that it used, from no answers, and in its lent run their answers and then what the run held.
-- Assumes nothing.
use Rattle.std.proofs.Common.{◌≡◌, ℕ, suc, ◌+◌, ◌*◌, ◌/◌, ◌<◌, ◌≤◌, Bool, true, false, cond, not, ltb, List, [], ◌∷◌, ◌++◌, length, take, drop, set, sym, refl, ap, ◌∙◌, append_assoc, add-zero, zero-add, arith, length-append, length-drop, drop-drop, ltb-false, ltb-true, lt-ltb}
use mathlib.Core.Path.{subst⁻¹}
use mathlib.Core.Bool.{and-eq-true_iff}
use Rattle.basics.specs.Each.{each}
use Rattle.packets.specs.declared.Reader.{Reader}
use Rattle.packets.specs.declared.Event.{Event}
use Rattle.packets.specs.declared.Event.TheVariants.{Nothing, Write, Closed}
use Rattle.packets.specs.Reader.{shifted, took, heard}
use Rattle.packets.specs.Delivery.{Note, nine, Writer, Delivery, delivery, told, taken, fed}
use Rattle.packets.specs.Answers.{Lent, lent, room, put, Call, call, noting, is_full, took_one, took_all, called, words_of, holding}
use Rattle.packets.specs.Promises.{CallTook, StopsFull}
use Rattle.packets.proofs.CallLaws.{full-stays}

-- ---- answers as words
words-length : (notes : List Note) → length (words_of notes) ≡ length notes * 3
unfolding words_of
words-length [] = refl
words-length (n ∷ notes) = omega (arith, words-length notes)

words_more : (notes : List Note) (n : Note) → words_of (notes ++ (n ∷ [])) ≡ words_of notes ++ (n.number ∷ n.count ∷ n.changed ∷ [])
unfolding words_of
words_more [] n = refl
words_more (m ∷ notes) n = ap (λ (l : List ℕ). m.number ∷ m.count ∷ m.changed ∷ l) (words_more notes n)

put_three : (p l : List ℕ) (x y z : ℕ) → 3 ≤ length l → set (set (set (p ++ l) (length p) x) (length p + 1) y) (length p + 2) z ≡ p ++ (x ∷ y ∷ z ∷ drop 3 l)
put_three [] [] x y z h = absurd (omega arith)
put_three [] (a ∷ []) x y z h = absurd (omega arith)
put_three [] (a ∷ b ∷ []) x y z h = absurd (omega arith)
put_three [] (a ∷ b ∷ c ∷ l) x y z h = refl
put_three (a ∷ p) l x y z h =
    let f : suc (length p) + 1 ≡ suc (length p + 1) = omega arith in
    let g : suc (length p) + 2 ≡ suc (length p + 2) = omega arith in
    rw (f, g) (ap (λ (t : List ℕ). a ∷ t) (put_three p l x y z h))

-- a byte that is not its word's last brings nothing
quiet : (b : ℕ) (r : Reader) → r.held < 3 → (took b r).event ≡ Nothing
unfolding took
quiet b r h = rw (lt-ltb r.held 3 h) (by-test r.closed)
  where
    by-test : (t : Bool) → (cond t (heard r Nothing) (heard (record { word = shifted r.word b; held = r.held + 1; rest = r.rest; closed = false }) Nothing)).event ≡ Nothing
    by-test true = refl
    by-test false = refl

module _ (run : List ℕ) where
  holding-length : (notes : List Note) → length notes * 3 ≤ length run → length (holding run notes).run ≡ length run
  holding-length notes h = simp (length-append, length-drop, words-length) (omega arith)

  put-holding : (notes : List Note) (n : Note) → length notes < length run / 3 → put n (holding run notes) ≡ holding run (notes ++ (n ∷ []))
  unfolding put
  put-holding notes n h =
      let k : length notes * 3 ≡ length (words_of notes) = sym (words-length notes) in
      let rest : 3 ≤ length (drop (length notes * 3) run) = simp length-drop (omega arith) in
      let one : length (notes ++ (n ∷ [])) ≡ length notes + 1 = length-append notes (n ∷ []) in
      let three : (length notes + 1) * 3 ≡ length notes * 3 + 3 = omega arith in
      let whole = holding-length notes (omega arith) in
      rw (lt-ltb (length notes) (length (words_of notes ++ drop (length notes * 3) run) / 3) (rw whole h), one, three)
      (ap (λ (l : List ℕ). lent l (length notes + 1))
      (ap (λ (i : ℕ). set (set (set (words_of notes ++ drop (length notes * 3) run) i n.number) (i + 1) n.count) (i + 2) n.changed) k
      ∙ put_three (words_of notes) (drop (length notes * 3) run) n.number n.count n.changed rest
      ∙ rw (words_more notes n, append_assoc, drop-drop 3 (length notes * 3) run)))

module _ {S : Type 0} (write : Writer S) (run : List ℕ) where
  -- a call with the answers of some bytes in its run
  abbrev beside : ℕ → Delivery S → Call S
  beside used d = call d.reader d.state (holding run d.notes) used

  -- an event, told to the one who keeps all answers and noted in the run
  record Noted (e : Event) (r : Reader) (s : S) (notes : List Note) (u : ℕ) : Type 0 where
    is : noting write e r s (holding run notes) u ≡ beside u (told write e r s notes)
    fits : length (told write e r s notes).notes * 3 ≤ length run

  answer-fits : (notes : List Note) (n : Note) → length notes < length run / 3 → length (notes ++ (n ∷ [])) * 3 ≤ length run
  answer-fits notes n h = omega (arith, length-append notes (n ∷ []))

  event-noted : (e : Event) (r : Reader) (s : S) (notes : List Note) (u : ℕ) → length notes * 3 ≤ length run → ((e ≡ Nothing → ⊥) → length notes < length run / 3)
      → Noted e r s notes u
  event-noted Nothing r s notes u h spare = record { is = refl; fits = h }
  event-noted (Write o w) r s notes u h spare =
      let n = (write o w s).note in
      let more = spare (λ q. let z : ◌≡◌ {A = ℕ} 0 1 = cc in omega arith) in
      record { is = ap (λ (l : Lent). call r (write o w s).state l u) (put-holding run notes n more); fits = answer-fits notes n more }
  event-noted Closed r s notes u h spare =
      let more = spare (λ q. let z : ◌≡◌ {A = ℕ} 0 1 = cc in omega arith) in
      record { is = ap (λ (l : Lent). call r s l u) (put-holding run notes nine more); fits = answer-fits notes nine more }

  -- where a byte may bring an answer and the call is not full there is room for it
  spared : (b u : ℕ) (d : Delivery S) → length d.notes * 3 ≤ length run → is_full (beside u d) ≡ false → ((took b d.reader).event ≡ Nothing → ⊥)
      → length d.notes < length run / 3
  spared b u d h f some = by-room (room (holding run d.notes)) refl
    where
      last : ltb 2 d.reader.held ≡ true
      last = by-held (ltb 2 d.reader.held) refl
        where
          by-held : (t : Bool) → ltb 2 d.reader.held ≡ t → t ≡ true
          by-held true e = refl
          by-held false e = absurd (some (quiet b d.reader (omega (arith, ltb-false 2 d.reader.held e))))

      by-room : (t : Bool) → room (holding run d.notes) ≡ t → length d.notes < length run / 3
      by-room true e = rw (holding-length run d.notes h) at (ltb-true (length d.notes) (length (holding run d.notes).run / 3) e)
      by-room false e = let z : ◌≡◌ {A = Bool} false true = sym f ∙ rw (last, e) in absurd (let y : ◌≡◌ {A = ℕ} 0 1 = cc in omega arith)

  -- ---- a call, byte by byte
  record Went (bytes : List ℕ) (d : Delivery S) (u : ℕ) : Type 0 where
    stop : ℕ
    most : stop ≤ length bytes
    fits : length (fed write (take stop bytes) d).notes * 3 ≤ length run
    is : took_all write bytes (beside u d) ≡ beside (u + stop) (fed write (take stop bytes) d)
    stops : stop < length bytes → is_full (beside (u + stop) (fed write (take stop bytes) d)) ≡ true

  went_on : (b u : ℕ) (bytes : List ℕ) (d : Delivery S) → length d.notes * 3 ≤ length run
      → (length (taken write b d).notes * 3 ≤ length run → Went bytes (taken write b d) (u + 1)) → Went (b ∷ bytes) d u
  unfolding each taken took_one
  went_on b u bytes d h more = by-test (is_full (beside u d)) refl
    where
      by-test : (t : Bool) → is_full (beside u d) ≡ t → Went (b ∷ bytes) d u
      by-test true f = record {
        stop = 0;
        most = omega arith;
        fits = h;
        is = sym (full-stays write (b ∷ bytes) (beside u d) f) ∙ ap (λ (v : ℕ). beside v d) (sym (add-zero u));
        stops = λ _. f;
      }
      by-test false f =
          let heard = took b d.reader in
          let one = event-noted heard.event heard.reader d.state d.notes (u + 1) h (spared b u d h f) in
          let k = more one.fits in
          let past : u + 1 + k.stop ≡ u + suc k.stop = omega arith in
          record {
            stop = suc k.stop;
            most = omega (arith, k.most);
            fits = k.fits;
            is = rw f (ap (each (took_one write) bytes) one.is ∙ k.is ∙ ap (λ (v : ℕ). beside v (fed write (take k.stop bytes) (taken write b d))) past);
            stops = λ l. k.stops (omega arith);
          }

  went : (bytes : List ℕ) (d : Delivery S) (u : ℕ) → length d.notes * 3 ≤ length run → Went bytes d u
  unfolding each
  went [] d u h = record { stop = 0; most = omega arith; fits = h; is = ap (λ (v : ℕ). beside v d) (sym (add-zero u)); stops = λ l. absurd (omega arith) }
  went (b ∷ bytes) d u h = went_on b u bytes d h (went bytes (taken write b d) (u + 1))

  begun : (r : Reader) (s : S) (piece : List ℕ) → Went piece (delivery r s []) 0
  begun r s piece = went piece (delivery r s []) 0 (omega arith)

  -- where it stopped before the end: a word's last byte is next, and the answers fill the run
  record Stopped (d : Delivery S) : Type 0 where
    last : 2 < d.reader.held
    full : length run / 3 ≤ length d.notes

  stopped : (d : Delivery S) (u : ℕ) → length d.notes * 3 ≤ length run → is_full (beside u d) ≡ true → Stopped d
  stopped d u h f =
      let both = (and-eq-true_iff (ltb 2 d.reader.held) (not (room (holding run d.notes)))).0 f in
      record {
        last = ltb-true 2 d.reader.held both.0;
        full = rw (holding-length run d.notes h) at (ltb-false (length d.notes) (length (holding run d.notes).run / 3) (denied (room (holding run d.notes)) both.1));
      }
    where
      denied : (t : Bool) → not t ≡ true → t ≡ false
      denied true e = sym e
      denied false e = refl

  -- what a call leaves
  pub record Left (r : Reader) (s : S) (piece : List ℕ) : Type 0 where
    pub used : ℕ
    pub most : used ≤ length piece
    pub fits : length (fed write (take used piece) (delivery r s [])).notes * 3 ≤ length run
    pub is : called write r s piece run ≡ beside used (fed write (take used piece) (delivery r s []))
    pub last : used < length piece → 2 < (fed write (take used piece) (delivery r s [])).reader.held
    pub full : used < length piece → length run / 3 ≤ length (fed write (take used piece) (delivery r s [])).notes

  pub left : (r : Reader) (s : S) (piece : List ℕ) → Left r s piece
  unfolding words_of
  left r s piece =
      let k = begun r s piece in
      let d = fed write (take k.stop piece) (delivery r s []) in
      let none : 0 + k.stop ≡ k.stop = zero-add k.stop in
      record {
        used = k.stop;
        most = k.most;
        fits = k.fits;
        is = k.is ∙ ap (λ (v : ℕ). beside v d) none;
        last = λ l. (stopped d (0 + k.stop) k.fits (k.stops l)).last;
        full = λ l. (stopped d (0 + k.stop) k.fits (k.stops l)).full;
      }

module _ {S : Type 0} (write : Writer S) where
  pub call-took : CallTook write
  call-took r s piece run =
      let k = left write run r s piece in
      let n : (called write r s piece run).used ≡ k.used = ap (λ (c : Call S). c.used) k.is in
      subst⁻¹ (λ (v : ℕ). (v ≤ length piece) × (called write r s piece run ≡ beside write run v (fed write (take v piece) (delivery r s [])))) n (k.most, k.is)

  pub stops-full : StopsFull write
  stops-full r s piece run h =
      let k = left write run r s piece in
      let n : (called write r s piece run).used ≡ k.used = ap (λ (c : Call S). c.used) k.is in
      rw k.is (k.full (omega arith))

  -- no more bytes are used than there are, and no more answers given than the run has room for
  pub called-within : (r : Reader) (s : S) (piece run : List ℕ) {c : Call S} → c ≡ called write r s piece run → (c.used ≤ length piece) × (c.lent.answered * 3 ≤ length c.lent.run)
  called-within r s piece run e =
      let k = left write run r s piece in
      let d = fed write (take k.used piece) (delivery r s []) in
      rw (e ∙ k.is) (k.most, rw (holding-length run d.notes k.fits) k.fits)
