use Rattle.std.proofs.Common.{◌≡◌, ap, arith, ◌∙◌}
use Rattle.codes.specs.Codes.{Slots}
use Rattle.block.proofs.BlockLaws.{filled, read_whole}
use Rattle.block.proofs.slots_in.Goals as goal

pub returns : goal.returns
returns c =
    let all : c.loop-i.i ≡ Slots = omega arith in
    c.loop-i.invariant ∙ ap (filled c.args.block.now) all ∙ read_whole c.args.block.now c.requires
