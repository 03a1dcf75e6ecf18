-- `run` meets its contract: decoded, written by the engine, and saved.
-- Assumes nothing.
use Rattle.state.proofs.Back.{opened}
use Rattle.capi.proofs.Writes.{command-written}
use Rattle.capi.proofs.run.Goals as goal

pub decode-requires : goal.decode-requires
decode-requires c = (opened _ c.requires.0 c.requires.1.0).size

pub save-requires : goal.save-requires
save-requires c = (opened _ c.requires.0 c.requires.1.0).size

pub returns : goal.returns
returns c =
    command-written c.args.s.now c.args.mem.now c.args.offset c.args.word c.requires.0 c.requires.1.0 c.requires.1.1
    c.decode.ensures c.write-answer.ensures c.save.ensures c.pack.ensures c.changed_of.ensures
