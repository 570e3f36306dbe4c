use Rattle.std.proofs.Common.{◌≡◌, ◌*◌, take}
use Rattle.block.specs.Block.{block_of}
use Rattle.block.proofs.put_block.Given as goal

abbrev pub invariant-loop-i : goal.invariant-loop-i
invariant-loop-i l = take (4 * l.i) l.block ≡ block_of (take l.i l.s)
