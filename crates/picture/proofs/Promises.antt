-- The promises of specs/Promises, proved from the definitions.
-- Assumes nothing.
use Rattle.std.proofs.Common.{◌≡◌, ℕ, zero, suc, ◌+◌, ◌*◌, ◌/◌, ◌%◌, ◌^◌, ◌<◌, Bool, true, false, cond, ◌&&◌, ltb, [], ◌∷◌, ◌++◌, length, sym, refl, ap, ◌∙◌, mul_assoc, pow-suc, mul-add, mul_left_comm, arith, ltb-true}
use native.Mathlib.Nat.{div-eq_of_lt, div-div-eq-div-mul}
use Rattle.engine.specs.Step.{written}
use Rattle.basics.proofs.One.{settled}
use Rattle.surface.proofs.OnLaws.{and_left}
use Rattle.basics.specs.Each.{each}
use Rattle.ppm.specs.Text.{page, said, digit, digits, decimal}
use Rattle.picture.specs.Player.{fresh_player, shifted, wrote, arrived, taken, fed, printed, start, sheet_of}
use Rattle.picture.specs.Promises.{OneOpen, OneTake, OneFeed, OneText, AnyPieces, WholeText, WholeSheet, value_from, ReadBack, word, between, PairPlayed}
use Rattle.basics.proofs.EachLaws.{each_append}
use Rattle.picture.proofs.PlayerLaws.{fed-long, start-long}
use Rattle.picture.proofs.Fits.{printed-short, said-whole}

-- a contract that says what the outcome equals allows one
pub one-open : OneOpen
one-open len x y = settled (fresh_player len) x y

pub one-take : OneTake
one-take b s x y = settled (taken b s) x y

pub one-feed : OneFeed
one-feed bytes s x y = settled (fed bytes s) x y

pub one-text : OneText
one-text s out x y = settled (said (printed s) (page out 0)) x y

pub any-pieces : AnyPieces
any-pieces a b s = each_append taken a b s

pub whole-text : WholeText
whole-text s out small room =
    let none : 0 + length (printed s) ≡ length (printed s) = omega arith in
    rw none at (said-whole (printed s) (page out 0) (omega (arith, printed-short s small)))

pub whole-sheet : WholeSheet
unfolding sheet_of
whole-sheet input out room = let long = fed-long input start ∙ start-long in whole-text (fed input start) out (omega arith) room

-- ---- numbers
abbrev Reads : ℕ → ℕ → Type 0
Reads k n = value_from (n / 10 ^ k) (digits k n) ≡ n

reads : (k n : ℕ) → Reads k n
unfolding digits digit
reads zero n = omega arith
reads (suc k) n = by-test (ltb n (10 ^ k) && ltb 1 (10 ^ k)) refl (reads k n)
  where
    by-test : (t : Bool) → (ltb n (10 ^ k) && ltb 1 (10 ^ k)) ≡ t → Reads k n → value_from (n / 10 ^ suc k) (cond t [] ((48 + n / 10 ^ k % 10) ∷ []) ++ digits k n) ≡ n
    by-test true e r =
        let small = ltb-true n (10 ^ k) (and_left (ltb n (10 ^ k)) (ltb 1 (10 ^ k)) e) in
        ap (λ (v : ℕ). value_from v (digits k n)) (div-eq_of_lt {n = n} {m = 10 ^ suc k} (omega (arith, pow-suc 10 k)) ∙ sym (div-eq_of_lt {n = n} {m = 10 ^ k} small)) ∙ r
    by-test false e r =
        let place = n / 10 ^ k in
        let above : n / 10 ^ suc k ≡ place / 10 = ap (λ (v : ℕ). n / v) (pow-suc 10 k) ∙ sym (div-div-eq-div-mul n (10 ^ k) 10) in
        ap (λ (v : ℕ). value_from v (digits k n)) (omega (arith, above)) ∙ r

pub read_back : ReadBack
unfolding decimal
read_back n h = rw (div-eq_of_lt {n = n} {m = 10 ^ 20} (omega arith)) at (reads 20 n)

-- ---- pairs

-- the last bytes as a number: n is what the new ones spell, low what is left of earlier ones below them
record Window (unit low n window : ℕ) : Type 0 where
  stale : low < unit
  is : window ≡ low + unit * n

-- a byte more
more : (unit weight : ℕ) {low n window : ℕ} (b : ℕ) → unit * weight ≡ 2 ^ 56 → Window (2 ^ 8 * unit) low n window → Window unit (low / 2 ^ 8) (n + b * weight) (shifted window b)
more unit weight {low} {n} {window} b e w =
    let one : unit * (n + b * weight) ≡ unit * n + unit * (b * weight) = mul-add unit n (b * weight) in
    let two : unit * (b * weight) ≡ b * 2 ^ 56 = mul_left_comm unit b weight ∙ ap (λ (v : ℕ). b * v) e in
    let three : 2 ^ 8 * unit * n ≡ 2 ^ 8 * (unit * n) = mul_assoc (2 ^ 8) unit n in
    record { stale = omega (arith, w.stale); is = omega (arith, w.is) }

spelled : (window a b c d p q r s : ℕ) → window < 2 ^ 64
    → shifted (shifted (shifted (shifted (shifted (shifted (shifted (shifted window a) b) c) d) p) q) r) s ≡ word a b c d + word p q r s * 2 ^ 32
spelled window a b c d p q r s h =
    let w0 : Window (2 ^ 64) window 0 window = record { stale = h; is = omega arith } in
    let w4 = more (2 ^ 32) (2 ^ 24) d refl (more (2 ^ 40) (2 ^ 16) c refl (more (2 ^ 48) (2 ^ 8) b refl (more (2 ^ 56) 1 a refl w0))) in
    let w8 = more 1 (2 ^ 56) s refl (more (2 ^ 8) (2 ^ 48) r refl (more (2 ^ 16) (2 ^ 40) q refl (more (2 ^ 24) (2 ^ 32) p refl w4))) in
    let last = w8.stale in
    omega (arith, w8.is)

pub pair-played : PairPlayed
unfolding each taken arrived wrote
pair-played e m window played a b c d p q r s h x y =
    let whole = spelled window a b c d p q r s h in
    let low : (word a b c d + word p q r s * 2 ^ 32) % 2 ^ 32 ≡ word a b c d = omega (arith, x.first, x.second, x.third, x.fourth) in
    let high : (word a b c d + word p q r s * 2 ^ 32) / 2 ^ 32 ≡ word p q r s = omega (arith, x.first, x.second, x.third, x.fourth) in
    ap (λ (v : ℕ). wrote (between e window played) v (written e m (v % 2 ^ 32) (v / 2 ^ 32))) whole
    ∙ rw (low, high)
