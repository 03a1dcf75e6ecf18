-- What is said of a refusal. No promise rests on it.
-- Assumes nothing.
use Rattle.std.specs.Prelude.{List, ℕ, codes}
use Rattle.engine.specs.declared.Refusal.{Refusal}
use Rattle.engine.specs.declared.Refusal.TheVariants.{Memory, Offset, Waiting, NotBuilt, Format, Host, Off, Meet}

abbrev pub reason : Refusal → List ℕ
reason Memory = codes "the memory is too long, or not of the length that the engine was opened with"
reason Offset = codes "the offset names no register"
reason Waiting = codes "a host blit waits for its data, and this write is neither launch data nor to command"
reason NotBuilt = codes "the command is not built"
reason Format = codes "a surface it uses has a format that is not listed, or the conversion is not allowed, or a source that is mono, packed or a host blit's is tiled"
reason Host = codes "host blit: swizzle bits, direction bits or srcXY not 0, or a stride below the row's bytes; stretch copy: a source of no width or no height, and a target that has both"
reason Off = codes "a covered pixel, or a source pixel that it needs, is off its surface"
reason Meet = codes "a screen copy between different surfaces, or a stretch copy, whose spans meet"
