use Rattle.std.proofs.Common.{refl, ◌<◌, ◌≡◌, ◌∙◌, ◌^◌, length, get_or, arith, rules}
use Rattle.codes.specs.Codes.{Slots}
use Rattle.block.specs.Block.{block_of}
use Rattle.block.proofs.BlockLaws.{written_one}
use Rattle.block.proofs.put_block.Goals as goal

pub loop-i-init : goal.loop-i-init
unfolding block_of
loop-i-init c = refl

pub loop-i-preserved : goal.loop-i-preserved
loop-i-preserved c =
    let long : length c.args.s.now ≡ Slots = search rules in
    let small : get_or c.args.s.now c.loop-i.i 0 < 2 ^ 32 = search (rules, c.type_inv.s) in
    written_one c.loop-i.block c.args.s.now c.copy_from_slice.new.self c.loop-i.i _ (omega arith) (omega arith) small
    (c.copy_from_slice.ensures.after ∙ c.to_be_bytes.ensures) c.loop-i.invariant
