-- What is promised of a run of words, for an outside expert to read first. `ran` (Words) is the definition; the contract of `take_run` says that the engine, the
-- memory, the number, the words taken and both sums are what it gives, for every engine, memory and run. Each promise is proved in proofs/.
-- Assumes nothing.
use Rattle.std.specs.Prelude.{◌≡◌, ℕ, ◌+◌, ◌%◌, ◌^◌, ◌<◌, ◌≤◌, true, List, [], ◌++◌, map, length, take, ◌≢◌, slice_index}
use Rattle.registers.specs.declared.Place.TheVariants.{Launch}
use Rattle.registers.specs.Offsets.{place_of}
use Rattle.host.specs.Host.{words_of}
use Rattle.command.specs.Decode.{feed_of}
use Rattle.engine.specs.declared.Engine.{Engine}
use Rattle.engine.specs.Step.{written, number_of, regs}
use Rattle.engine.specs.Writes.{Run, played, counted, changes}
use Rattle.engine.specs.Promises.{Sound}
use Rattle.words.specs.Words.{Ran, started, launching, ran}

-- ---- the contract allows one outcome
abbrev pub OneRun : Type 0
OneRun = (e : Engine) (m ws : List ℕ) (x y : Ran) → x ≡ ran e m ws → y ≡ ran e m ws → x ≡ y

-- ---- an empty run takes none, changes nothing and is answered 0, on any memory
abbrev pub EmptyRun : Type 0
EmptyRun = (e : Engine) (m : List ℕ) → ran e m [] ≡ started e m

-- ---- the offset within the launch area does not matter
abbrev pub AnyLaunch : Type 0
AnyLaunch = (e : Engine) (m : List ℕ) (o w : ℕ) → place_of o ≡ Launch → written e m o w ≡ written e m 0x80 w

-- ---- the result is that of the single writes of the words taken, in order

-- the first n words of a run as single writes
abbrev pub singly : Engine → List ℕ → List ℕ → ℕ → Run
singly e m ws n = played e m (map (λ w. record { offset = 0x80; word = w }) (take n ws))

-- engine and memory are theirs, and so are both sums, in 64 bits
pub record AsPlayed (r : Ran) (p : Run) : Type 0 where
  pub engine : r.engine ≡ p.engine
  pub memory : r.memory ≡ p.memory
  pub count : r.count ≡ counted p.answers % 2 ^ 64
  pub changed : r.changed ≡ changes p.answers % 2 ^ 64

abbrev pub RunPlayed : Type 0
RunPlayed = (e : Engine) (m ws : List ℕ) → AsPlayed (ran e m ws) (singly e m ws (ran e m ws).taken)

-- with fewer than 2 ^ 32 words the sums are whole
abbrev pub SumsWhole : Type 0
SumsWhole = (e : Engine) (m ws : List ℕ) → length ws < 2 ^ 32
    → let p = singly e m ws (ran e m ws).taken in ((ran e m ws).count ≡ counted p.answers) × ((ran e m ws).changed ≡ changes p.answers)

-- ---- number 0: every word was taken. Another: it is the number of the word after those taken, which is the first that is refused
pub record Stops (e : Engine) (m ws : List ℕ) : Type 0 where
  pub whole : (ran e m ws).number ≡ 0 → (ran e m ws).taken ≡ length ws
  pub part : ((ran e m ws).number ≢ 0) → (ran e m ws).taken < length ws
  pub refused : ((ran e m ws).number ≢ 0) → number_of (launching (ran e m ws) (slice_index ws (ran e m ws).taken)).answer ≡ (ran e m ws).number
  pub earlier : (i : ℕ) → i < (ran e m ws).taken
      → let p = singly e m ws i in number_of (written p.engine p.memory 0x80 (slice_index ws i)).answer ≡ 0

abbrev pub RunStops : Type 0
RunStops = (e : Engine) (m ws : List ℕ) → Stops e m ws

-- ---- a run in two calls is the run

-- the first and the second, which began with what the first left
abbrev pub joined : Ran → Ran → Ran
joined x y = record {
  engine = y.engine;
  memory = y.memory;
  number = y.number;
  taken = x.taken + y.taken;
  count = (x.count + y.count) % 2 ^ 64;
  changed = (x.changed + y.changed) % 2 ^ 64;
}

-- where the first is taken whole; else the second call is not made
pub record Split (e : Engine) (m us vs : List ℕ) : Type 0 where
  pub whole : (ran e m us).number ≡ 0 → ran e m (us ++ vs) ≡ joined (ran e m us) (ran (ran e m us).engine (ran e m us).memory vs)
  pub part : ((ran e m us).number ≢ 0) → ran e m (us ++ vs) ≡ ran e m us

abbrev pub RunSplit : Type 0
RunSplit = (e : Engine) (m us vs : List ℕ) → Split e m us vs

-- ---- the words that a waiting blit still needs are all taken, where row 1 does not refuse
abbrev pub RestOfBlit : Type 0
RestOfBlit = (e : Engine) (m ws : List ℕ) → Sound e → e.blit.waiting ≡ true → length m ≤ 2 ^ 24 → length m ≡ e.opened
    → e.blit.taken + length ws ≤ words_of (feed_of (regs e)) → ((ran e m ws).number ≡ 0) × ((ran e m ws).taken ≡ length ws)
