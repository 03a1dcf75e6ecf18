-- `plain::Blit::take_some` meets its contract: words poured into memory, or one word.
-- Assumes nothing.
use native.Mathlib.Omega.{arith}
use native.Mathlib.Nat.{div-le_self}
use mathlib.Core.Path.{◌≡◌, sym, ap, ◌∙◌}
use mathlib.Core.List.{List, [], ◌∷◌}
use Prim.Native.Nat.{ℕ, ◌*◌, ◌/◌, ◌^◌, ◌<◌}
use lib.ListN.{length, take, get_or}
use lib.Seq.{length-take-le, take-suc}
use Rattle.paint.specs.declared.Clip.{Clip}
use Rattle.paint.specs.Paint.{tallied}
use Rattle.paint.proofs.ClipLaws.{in-clip}
use Rattle.paint.proofs.Tallies.{room-less}
use Rattle.host.specs.declared.Feed.{Feed}
use Rattle.host.specs.Host.{by_run}
use Rattle.host.proofs.Runs.{run-one}
use Rattle.bits.specs.declared.Plain.{Plain}
use Rattle.pours.specs.Pours.{word_in}
use Rattle.plain.specs.Plain.{plain_ink}
use Rattle.plain.specs.Asked.{Straight}
use Rattle.plain.proofs.Straight.{part_small, PutAfter, straight-held, straight-put}
use Rattle.plain.proofs.Blit.take_some.Goals as goal
use Rattle.plain.proofs.Blit.take_some.Goals.{After-put_words-changed}

pub overflow_cast-words : goal.overflow_cast-words
overflow_cast-words c = omega (arith, c.requires.0.short)

pub straight_words-requires : goal.straight_words-requires
straight_words-requires c =
    let w = c.requires.0 in
    (w.opened.rows, (w.opened.bits12, (w.opened.x, (w.opened.y, omega (arith, w.few)))))

pub draw_word-n-requires : goal.draw_word-n-requires
draw_word-n-requires c =
    let p = c.requires in
    (record { opened = p.0.opened; few = omega (arith, p.0.few) }, room-less p.1.1 (omega (arith, p.1.0)))

pub returns-in_default : goal.returns-in_default
returns-in_default c =
    let ws = c.args.words.now in
    let one : take 1 ws ≡ get_or ws 0 0 ∷ [] = take-suc ws 0 0 c.requires.1.0 in
    (omega arith, (c.requires.1.0, rw (one, run-one c.args.self.feed (get_or ws 0 0) c.args.last c.args.k) c.draw_word-n.ensures))

-- ---- words that go into memory as they are
long : (ws : List ℕ) {p : Plain} {c : Clip} {feed : Feed} {k w : ℕ} → Straight p c feed k (length ws) w → length (take w ws) ≡ w
long ws s = length-take-le _ ws s.fits

pub nonzero_div-x : goal.nonzero_div-x
nonzero_div-x c = c.in-Some.ensures.colour

pub overflow_add-x : goal.overflow_add-x
overflow_add-x c = let o = c.requires.0.opened in omega (arith, c.in-Some.ensures.past, o.x, o.rows.sizes.width)

pub overflow_sub-x : goal.overflow_sub-x
overflow_sub-x c = omega (arith, (in-clip _ _ _ c.in-Some.ensures.first).left)

pub overflow_add-y : goal.overflow_add-y
overflow_add-y c = let o = c.requires.0.opened in omega (arith, c.in-Some.ensures.row, o.y, o.rows.sizes.height)

pub overflow_sub-y : goal.overflow_sub-y
overflow_sub-y c = omega (arith, (in-clip _ _ _ c.in-Some.ensures.first).top)

pub place_in_rows-at-requires : goal.place_in_rows-at-requires
unfolding plain_ink
place_in_rows-at-requires c = (c.requires.0.opened.colour, c.in-Some.ensures.flat)

pub slice_bounds-put_words-end : goal.slice_bounds-put_words-end
slice_bounds-put_words-end c = sym (long c.args.words.now c.in-Some.ensures)

pub put_words-changed-requires : goal.put_words-changed-requires
put_words-changed-requires c =
    let s = c.requires.0 in
    let w = c.in-Some.ensures in
    let l = long c.args.words.now w in
    record {
      some = w.colour;
      few = s.opened.rows.sizes.bytes;
      whole = λ e. rw l (w.whole e);
      short = omega (arith, l, w.fits, s.short);
      held = omega (arith, l, c.place_in_rows-at.ensures, straight-held s.opened w);
    }

put : (c : After-put_words-changed) → ((i : ℕ) → word_in c.args.words.now i < 2 ^ 32) → let a = c.args in let w = c.in-Some.w in
    PutAfter a.self.plain a.self.clip a.self.feed (by_run a.self.feed a.last (take w a.words.now) a.k) (4 * w / a.self.feed.bytes) a.mem.now c.put_words-changed.new.mem c.put_words-changed.result
put c small =
    let a = c.args in
    let s = c.in-Some.ensures in
    straight-put c.requires.0.opened s a.last _ (long a.words.now s) (omega (arith, c.ranges.last)) (part_small c.in-Some.w a.words.now small) a.mem.now
    c.place_in_rows-at.ensures c.put_words-changed.ensures

pub overflow_mul-w : goal.overflow_mul-w
overflow_mul-w c = omega (arith, c.in-Some.ensures.fits, c.requires.0.short)

pub nonzero_div-w : goal.nonzero_div-w
nonzero_div-w c = c.in-Some.ensures.colour

pub note-n-requires : goal.note-n-requires
note-n-requires c =
    let w = c.in-Some.w in
    (room-less c.requires.1.1 (omega (arith, c.in-Some.ensures.fits, div-le_self (4 * w) c.args.self.feed.bytes)), (put (goal.at.note-n-requires c).After-put_words-changed (λ i. omega (arith, c.type_inv.words i))).few)

pub returns : goal.returns
returns c =
    let w = c.in-Some.ensures in
    (w.some, (w.fits, ap (tallied c.put_words-changed.new.mem) c.note-n.ensures ∙ (put (goal.at.returns c).After-put_words-changed (λ i. omega (arith, c.type_inv.words i))).drawn c.args.n))
