-- `acts::paint_words` meets its contract: by whether the blit is plain.
-- Assumes nothing.
use lib.ListN.{length}
use native.Mathlib.Omega.{arith}
use Rattle.host.specs.Host.{by_run}
use Rattle.table.proofs.Verdicts.{words-few}
use Rattle.acts.proofs.Laws.{ink-opened, plain-opened, ink-drawn, plain-drawn}
use Rattle.acts.proofs.paint_words.Goals as goal

pub plain_words-requires : goal.plain_words-requires
plain_words-requires c =
    let o = plain-opened c.args.regs (length c.args.mem.now) c.decode_clip-clip.ensures c.decode_feed-feed.ensures c.requires.fine (omega (arith, c.requires.more))
    c.is_plain.ensures c.if-is_plain.true c.decode_plain-plain.ensures in
    record { opened = o; few = omega (arith, words-few c.args.regs, c.requires.all); short = c.requires.short }

pub returns-then-is_plain : goal.returns-then-is_plain
returns-then-is_plain c =
    let a = c.args in
    plain-drawn a.regs a.pattern.now a.mem.now (λ f. by_run f a.blit.last a.words.now a.blit.taken) _ c.decode_clip-clip.ensures c.decode_feed-feed.ensures
    c.is_plain.ensures c.if-is_plain.true c.decode_plain-plain.ensures c.plain_words.ensures

pub host_words-requires : goal.host_words-requires
host_words-requires c =
    let o = ink-opened c.args.regs (length c.args.mem.now) c.decode_clip-clip.ensures c.decode_feed-feed.ensures c.requires.fine (omega (arith, c.requires.more))
    c.decode_ink-ink.ensures in
    record { opened = o; few = omega (arith, words-few c.args.regs, c.requires.all); short = c.requires.short }

pub returns : goal.returns
returns c =
    let a = c.args in
    ink-drawn a.regs a.pattern.now a.mem.now (λ f. by_run f a.blit.last a.words.now a.blit.taken) _ c.decode_clip-clip.ensures c.decode_feed-feed.ensures
    c.decode_ink-ink.ensures c.host_words.ensures
