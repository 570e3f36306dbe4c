use Rattle.std.proofs.Common.{◌≡◌}
use Rattle.block.proofs.BlockLaws.{filled}
use Rattle.block.proofs.slots_in.Given as goal

abbrev pub invariant-loop-i : goal.invariant-loop-i
invariant-loop-i l = l.v-items ≡ filled l.block l.i
