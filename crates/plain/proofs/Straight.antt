-- Words that are whole pixels of one row, all inside the clip, in the target's own format and on a target in rows: drawn, they are poured into memory.
-- Assumes nothing.
use mathlib.Core.Path.{◌≡◌, refl, sym, ap, ap₂, subst, ◌∙◌}
use mathlib.Core.Bool.{Bool, true, false, cond, ◌||◌, true≢false}
use mathlib.Core.List.{List, [], ◌∷◌, ◌++◌}
use mathlib.Core.Option.{some}
use Prim.Native.Nat.{ℕ, zero, suc, ◌+◌, ◌-◌, ◌*◌, ◌/◌, ◌%◌, ◌^◌, ◌<◌, ◌≤◌}
use native.Mathlib.Nat.{add-mul, mul_left_comm, mul-le-mul_right, mul-div_cancel, le-div_iff_mul-le, div-add-mod', pow-le-pow_right, lt_of_lt_of_le}
use native.Mathlib.Omega.{arith}
use borrow.Author.Tests.{ne_eqb, lt-ltb, le-ltb}
use lib.Dec.{ltb}
use lib.ListN.{length, take}
use Rattle.colour.proofs.ConvertLaws.{converted-same}
use Rattle.surface.specs.Place.{byte_of}
use Rattle.surface.specs.Pixels.{origin}
use Rattle.surface.proofs.Run.{in-rows, run-pixel, pixel-held}
use Rattle.paint.specs.declared.Clip.{Clip}
use Rattle.paint.specs.declared.Tally.{Tally}
use Rattle.paint.specs.Tally.{noted}
use Rattle.paint.specs.Paint.{State, state, tallied, dab, dab_at, paint}
use Rattle.paint.specs.Mix.{source, colour_source, mixed}
use Rattle.paint.specs.Clip.{in_clip, pixel_at}
use Rattle.paint.proofs.ClipLaws.{in-clip}
use Rattle.paint.proofs.Frame.{painted-after, changed-most}
use Rattle.paint.proofs.MixLaws.{direct-mixed}
use Rattle.paint.proofs.Turns.{dab-at}
use Rattle.host.specs.declared.Feed.{Feed}
use Rattle.host.specs.Host.{bits_of, last_byte_of, Pixel, pixel, whole, by_word, by_run}
use Rattle.host.specs.Stream.{data_byte, data_number, value_at, row_from}
use Rattle.host.specs.Draw.{host_source, host_touches, drawn}
use Rattle.host.specs.Asked.{Opened}
use Rattle.host.proofs.Places.{colour-bits, row-bits, whole-rises, column-in}
use Rattle.host.proofs.Whole.{Data, Prior, right, row-append}
use Rattle.bits.specs.declared.Plain.{Plain}
use Rattle.pours.specs.Pours.{word_in, poured_at}
use Rattle.pours.proofs.Numbers.{number_fits}
use Rattle.pours.proofs.Spilt.{data-small, data-number}
use Rattle.plain.specs.Plain.{plain_ink, stretch}
use Rattle.plain.specs.Asked.{Straight}
use Rattle.plain.proofs.Stretch.{bytes-stretch}
use Rattle.plain.proofs.PlainLaws.{plain-direct}
use Rattle.plain.proofs.Bits.{between}

-- neither test holds
pub neither : (a b : Bool) → (a || b) ≡ false → (a ≡ false) × (b ≡ false)
neither true b e = absurd (true≢false e)
neither false b e = (refl, e)

-- ---- w words as whole pixels of b bytes
pixels-exact : (b w : ℕ) → 0 < b → b < 5 → (b ≡ 3 → w % 3 ≡ 0) → 4 * w / b * b ≡ 4 * w
pixels-exact zero w l few e = absurd (omega arith)
pixels-exact (suc zero) w l few e = omega arith
pixels-exact (suc (suc zero)) w l few e = omega arith
pixels-exact (suc (suc (suc zero))) w l few e = let q : 4 * w / 3 ≡ w / 3 * 4 = omega (arith, e refl) in omega (arith, q, e refl)
pixels-exact (suc (suc (suc (suc zero)))) w l few e = omega arith
pixels-exact (suc (suc (suc (suc (suc b))))) w l few e = absurd (omega arith)

-- a word has one
pub pixels-some : (b w : ℕ) → 0 < b → b < 5 → 0 < w → 0 < 4 * w / b
pixels-some b w l few more = (le-div_iff_mul-le {k = b} {x = 1} {y = 4 * w} l).1 (omega arith)

-- ---- words of one row, the data's words s 0, s 1, ..
module _ (s : ℕ → ℕ) (f : Feed) (d : Data s f) where
  stretch-row : (k last j i n : ℕ) → Prior s k last → ((a : ℕ) → i ≤ a → a < i + n → last_byte_of f a j / 4 ≡ k) → stretch f last (s k) j i n ≡ row_from s f j i n
  unfolding stretch row_from
  stretch-row k last j i zero p h = refl
  stretch-row k last j i (suc n) p h =
      ap₂ (λ (v : ℕ) (t : List Pixel). pixel i j v ∷ t) (right s f d i j k last p (h i (omega arith) (omega arith)))
      (stretch-row k last j (i + 1) n p (λ a l u. h a (omega arith) (omega arith)))

  word_row : (k last j c : ℕ) → Prior s k last → 4 * k ≡ j * f.step + c → c + 4 ≤ f.step → j < f.height
      → by_word f last (s k) k ≡ row_from s f j (whole f c) (whole f (c + 4) - whole f c)
  unfolding by_word last_byte_of
  word_row k last j c p e l h =
      bytes-stretch f last (s k) 4 (4 * k) j c e l h
      ∙ stretch-row k last j (whole f c) (whole f (c + 4) - whole f c) p (λ a lo hi. omega (arith, column-in f c 4 a lo (omega (arith, whole-rises f c 4))))

  words_row : (ws : List ℕ) (k last j c : ℕ) → Prior s k last → ((n : ℕ) → n < length ws → s (k + n) ≡ word_in ws n) → 4 * k ≡ j * f.step + c
      → c + 4 * length ws ≤ f.step → j < f.height → by_run f last ws k ≡ row_from s f j (whole f c) (whole f (c + 4 * length ws) - whole f c)
  unfolding by_run row_from
  words_row [] k last j c p at e l h = let z : c + 4 * 0 ≡ c = omega arith in let y : whole f c - whole f c ≡ 0 = omega arith in rw (z, y)
  words_row (w ∷ ws) k last j c p at e l h =
      let z : k + 0 ≡ k = omega arith in
      let first : s k ≡ w = rw z at (at 0 (omega arith)) in
      let prior : Prior s (k + 1) w = record { word = λ _. sym first ∙ ap s (omega arith); small = rw first at (d.words k) } in
      let rest = words_row ws (k + 1) w j (c + 4) prior (λ n u. ap s (omega arith) ∙ at (suc n) (omega arith)) (omega arith) (omega arith) h in
      let end : c + 4 * suc (length ws) ≡ c + 4 + 4 * length ws = omega arith in
      let next : whole f (c + 4) ≡ whole f c + (whole f (c + 4) - whole f c) = omega (arith, whole-rises f c 4) in
      let all : whole f (c + 4) - whole f c + (whole f (c + 4 + 4 * length ws) - whole f (c + 4)) ≡ whole f (c + 4 + 4 * length ws) - whole f c =
      omega (arith, whole-rises f c 4, whole-rises f (c + 4) (4 * length ws)) in
      rw end
      (ap₂ (λ (ps qs : List Pixel). ps ++ qs) (ap (λ (v : ℕ). by_word f last v k) (sym first) ∙ word_row k last j c p e (omega arith) h) rest
      ∙ ap (λ (i : ℕ). row_from s f j (whole f c) (whole f (c + 4) - whole f c) ++ row_from s f j i (whole f (c + 4 + 4 * length ws) - whole f (c + 4))) next
      ∙ row-append s f d j (whole f c) (whole f (c + 4) - whole f c) (whole f (c + 4 + 4 * length ws) - whole f (c + 4))
      ∙ ap (row_from s f j (whole f c)) all)

-- the bytes of i pixels hold them whole
whole-at : (f : Feed) (i : ℕ) → 0 < f.bytes → i ≤ f.width → whole f (i * f.bytes) ≡ i
unfolding whole
whole-at f i more l =
    let q : 8 * (i * f.bytes) / (8 * f.bytes) ≡ i = ap (λ (n : ℕ). n / (8 * f.bytes)) (mul_left_comm 8 i f.bytes) ∙ mul-div_cancel i (omega arith) in
    rw (colour-bits f (λ e. omega arith), q) (omega arith)

-- ---- pixels of one row, in the target's own format; s from word k on is t
module _ (p : Plain) (c : Clip) (feed : Feed) (s t : ℕ → ℕ) (k j : ℕ) (same : feed.bytes ≡ p.target.bytes) (colour : 0 < feed.bytes) (few : feed.bytes < 5)
    (flat : p.target.tiled ≡ false) (from : (n : ℕ) → s (k + n) ≡ t n) where
  number-from : (b o : ℕ) → data_number s (4 * k + o) b ≡ data_number t o b
  unfolding data_number data_byte
  number-from zero o = refl
  number-from (suc b) o =
      let q : (4 * k + o) / 4 ≡ k + o / 4 = omega arith in
      let r : (4 * k + o) % 4 ≡ o % 4 = omega arith in
      let n : 4 * k + o + 1 ≡ 4 * k + (o + 1) = omega arith in
      rw (q, r, n, from (o / 4), number-from b (o + 1))

  value-from : (i o : ℕ) → j * feed.step + i * feed.bytes ≡ 4 * k + o → value_at s feed i j ≡ data_number t o feed.bytes
  unfolding value_at
  value-from i o e = rw (ne_eqb feed.bytes 0 (λ z. omega arith), e) (number-from feed.bytes o)

  kept : (v : ℕ) → host_source (plain_ink p) feed v ≡ source v false false
  unfolding host_source colour_source plain_ink
  kept v = rw (ne_eqb feed.bytes 0 (λ z. omega arith), ← same, converted-same feed.bytes v)

  small : (o : ℕ) → data_number t o feed.bytes < 2 ^ 32
  small o =
      rw (data-number t o feed.bytes) (lt_of_lt_of_le (number_fits (data_byte t) (data-small t) o feed.bytes) (pow-le-pow_right {n = 256} (omega arith) {i = feed.bytes} {j = 4} (omega arith)))

  dabbed : (i o at pv old : ℕ) (st : State) → j * feed.step + i * feed.bytes ≡ 4 * k + o → at ≡ byte_of p.target (feed.x + i - origin) (feed.y + j - origin) 0
      → dab p.target (pixel_at (feed.x + i) (feed.y + j)) (mixed (plain_ink p) pv (host_source (plain_ink p) feed (value_at s feed i j)) old) st
      ≡ dab_at at feed.bytes (some (data_number t o feed.bytes)) st
  dabbed i o at pv old st e a =
      let v = data_number t o feed.bytes in
      rw (value-from i o e, kept v, direct-mixed (plain_ink p) pv v old false (plain-direct p) (small o), same)
      (sym (dab-at p.target (in-rows flat) (pixel_at (feed.x + i) (feed.y + j)) at (some (data_number t o p.target.bytes)) st a))

  row-poured : (n i o at : ℕ) (st : State) → ((q : ℕ) → q < n → in_clip c (feed.x + i + q) (feed.y + j) ≡ true) → j * feed.step + i * feed.bytes ≡ 4 * k + o
      → at ≡ byte_of p.target (feed.x + i - origin) (feed.y + j - origin) 0
      → drawn (plain_ink p) [] c feed (row_from s feed j i n) st ≡ poured_at t feed.bytes o at n st
  unfolding row_from host_touches paint plain_ink poured_at
  row-poured zero i o at st inside e a = refl
  row-poured (suc n) i o at st inside e a =
      let z : feed.x + i + 0 ≡ feed.x + i = omega arith in
      let here : in_clip c (feed.x + i) (feed.y + j) ≡ true = rw z at (inside 0 (omega arith)) in
      let x : feed.x + i - origin + 1 ≡ feed.x + (i + 1) - origin = omega (arith, (in-clip c (feed.x + i) (feed.y + j) here).left) in
      let one : at + 1 * p.target.bytes ≡ at + feed.bytes = omega arith in
      let next : at + feed.bytes ≡ byte_of p.target (feed.x + (i + 1) - origin) (feed.y + j - origin) 0 =
      sym one ∙ run-pixel p.target flat (feed.x + i - origin) (feed.y + j - origin) at a 1 ∙ ap (λ (u : ℕ). byte_of p.target u (feed.y + j - origin) 0) x in
      rw here
      (ap (drawn (plain_ink p) [] c feed (row_from s feed j (i + 1) n)) (dabbed i o at _ _ st e a)
      ∙ row-poured n (i + 1) (o + feed.bytes) (at + feed.bytes) _ (λ q l. let y : feed.x + i + suc q ≡ feed.x + (i + 1) + q = omega arith in rw y at (inside (suc q) (omega arith)))
      (omega (arith, add-mul i 1 feed.bytes)) next)

-- ---- words from number k on, before them the word `last`
module _ (k last : ℕ) (ws : List ℕ) where
  unfoldable stream : ℕ → ℕ
  stream n = cond (ltb n k) last (word_in ws (n - k))

  stream_at : (n : ℕ) → stream (k + n) ≡ word_in ws n
  unfolding stream
  stream_at n = let e : k + n - k ≡ n = omega arith in rw (le-ltb (k + n) k (omega arith), e)

  stream-prior : last < 2 ^ 32 → Prior stream k last
  unfolding stream
  stream-prior small = record { word = λ l. rw (lt-ltb (k - 1) k (omega arith)); small = small }

  stream-small : last < 2 ^ 32 → ((n : ℕ) → word_in ws n < 2 ^ 32) → (n : ℕ) → stream n < 2 ^ 32
  unfolding stream
  stream-small l h n = by-test (ltb n k)
    where
      by-test : (b : Bool) → cond b last (word_in ws (n - k)) < 2 ^ 32
      by-test true = l
      by-test false = h (n - k)

-- a part of a run has no larger words
pub part_small : (n : ℕ) (ws : List ℕ) → ((i : ℕ) → word_in ws i < 2 ^ 32) → (i : ℕ) → word_in (take n ws) i < 2 ^ 32
part_small zero ws h i = omega arith
part_small (suc n) [] h i = omega arith
part_small (suc n) (w ∷ ws) h zero = h 0
part_small (suc n) (w ∷ ws) h (suc i) = part_small n ws (λ j. h (suc j)) i

-- so many pixels were put, r of them changed: no more than that, and they are drawn after any tally
pub record PutAfter (p : Plain) (c : Clip) (feed : Feed) (ps : List Pixel) (count : ℕ) (m m' : List ℕ) (r : ℕ) : Type 0 where
  pub few : r ≤ count
  pub drawn : (n : Tally) → tallied m' (noted count r n) ≡ paint (plain_ink p).target (host_touches (plain_ink p) [] c feed ps) (tallied m n)

-- ---- words that are straight
module _ {p : Plain} {c : Clip} {feed : Feed} {k left w len : ℕ} (open' : Opened (plain_ink p) c feed len) (st : Straight p c feed k left w) where
  abbrev column : ℕ
  column = 4 * k % feed.step / feed.bytes

  abbrev row : ℕ
  row = 4 * k / feed.step

  abbrev count : ℕ
  count = 4 * w / feed.bytes

  abbrev place : ℕ
  place = byte_of p.target (feed.x + column - origin) (feed.y + row - origin) 0

  few : feed.bytes < 5
  few = open'.rows.sizes.bytes

  exact : count * feed.bytes ≡ 4 * w
  exact = pixels-exact feed.bytes w st.colour few st.whole

  -- the first byte of the words is that of the pixel
  starts : row * feed.step + column * feed.bytes ≡ 4 * k
  starts = omega (arith, div-add-mod' (4 * k) feed.step, div-add-mod' (4 * k % feed.step) feed.bytes, st.begins)

  inside : (q : ℕ) → q < count → in_clip c (feed.x + column + q) (feed.y + row) ≡ true
  inside q l = between c (feed.x + column) (feed.y + row) count q st.first st.last l

  width-held : feed.width * feed.bytes ≤ feed.step
  width-held =
      let e : feed.width * bits_of feed ≡ 8 * (feed.width * feed.bytes) = ap (λ (n : ℕ). feed.width * n) (colour-bits feed (λ z. omega (arith, st.colour))) ∙ mul_left_comm feed.width 8 feed.bytes in
      omega (arith, e, row-bits feed, open'.rows.held)

  pixel-some : 0 < count
  pixel-some = pixels-some feed.bytes w st.colour few st.some

  -- the memory has them
  pub straight-held : place + 4 * w ≤ len
  unfolding plain_ink
  straight-held =
      let x = feed.x + column - origin in
      let y = feed.y + row - origin in
      let z : feed.x + column + (count - 1) ≡ feed.x + (column + (count - 1)) = omega arith in
      let u : x + (count - 1) ≡ feed.x + (column + (count - 1)) - origin = omega (arith, (in-clip c (feed.x + column) (feed.y + row) st.first).left) in
      let on = open'.covered.on (column + (count - 1)) row (omega (arith, st.past, pixel-some)) st.row (rw z at st.last) in
      let a : place + (count - 1) * p.target.bytes ≡ byte_of p.target (feed.x + (column + (count - 1)) - origin) y 0 =
      run-pixel p.target st.flat x y place refl (count - 1) ∙ ap (λ (v : ℕ). byte_of p.target v y 0) u in
      let h = pixel-held (in-rows st.flat) on (place + (count - 1) * p.target.bytes) a in
      let m : (count - 1) * p.target.bytes + p.target.bytes ≡ 4 * w =
      ap (λ (b : ℕ). (count - 1) * b + b) (sym st.same) ∙ omega (arith, exact, add-mul (count - 1) 1 feed.bytes, ap (λ (n : ℕ). n * feed.bytes) (back pixel-some)) in
      omega (arith, h.inside)
    where
      back : {n : ℕ} → 0 < n → n - 1 + 1 ≡ n
      back l = omega arith

  module _ (last : ℕ) (ws : List ℕ) (long : length ws ≡ w) (small : last < 2 ^ 32) (words : (n : ℕ) → word_in ws n < 2 ^ 32) where
    straight-row : by_run feed last ws k ≡ row_from (stream k last ws) feed row column count
    straight-row =
        let e : column * feed.bytes + 4 * length ws ≡ (column + count) * feed.bytes = omega (arith, exact, add-mul column count feed.bytes) in
        words_row (stream k last ws) feed (record { held = open'.rows; words = stream-small k last ws small words }) ws k last row (column * feed.bytes)
        (stream-prior k last ws small) (λ n _. stream_at k last ws n) (sym starts)
        (omega (arith, e, mul-le-mul_right feed.bytes st.past, width-held)) st.row
        ∙ rw (e, whole-at feed column st.colour (omega (arith, st.past)), whole-at feed (column + count) st.colour st.past) (ap (row_from (stream k last ws) feed row column) (omega arith))

    straight-poured : (at : State) → drawn (plain_ink p) [] c feed (by_run feed last ws k) at ≡ poured_at (word_in ws) feed.bytes 0 place count at
    straight-poured at =
        ap (λ (ps : List Pixel). drawn (plain_ink p) [] c feed ps at) straight-row
        ∙ row-poured p c feed (stream k last ws) (word_in ws) k row st.same st.colour few st.flat (stream_at k last ws) count column 0 place at inside (omega (arith, starts)) refl

    -- put where they belong from no tally, they are drawn after any
    pub straight-put : (m : List ℕ) {m' : List ℕ} {at r : ℕ} → at ≡ place
        → state m' (4 * length ws / feed.bytes) r ≡ poured_at (word_in ws) feed.bytes 0 at (4 * length ws / feed.bytes) (state m 0 0)
        → PutAfter p c feed (by_run feed last ws k) count m m' r
    straight-put m {m'} {at} {r} e put =
        let ts = host_touches (plain_ink p) [] c feed (by_run feed last ws k) in
        let painted : state m' count r ≡ paint (plain_ink p).target ts (state m 0 0) = rw (long, e) at put ∙ sym (straight-poured (state m 0 0)) in
        record {
          few = subst (λ (t : State). t.tally.changed ≤ t.tally.count) (sym painted) (changed-most (plain_ink p).target ts (state m 0 0) (omega arith));
          drawn = λ n. painted-after (plain_ink p).target ts m n painted;
        }
