-- The old byte is noted, then the new one is put.
use Prim.Native.Nat.{◌<◌}
use lib.ListN.{get_or}
use native.Mathlib.Omega.{arith}
use mathlib.Core.Path.{refl}
use borrow.Author.Rules.{rules}
use Rattle.touch.proofs.TouchLaws.{log_order, noted_byte}
use Rattle.touch.proofs.write_byte.Goals as goal

pub above-requires : goal.above-requires
above-requires c = search (rules, log_order)

pub touch-r-requires : goal.touch-r-requires
touch-r-requires c = search (rules, log_order)

pub returns-clause-noted : goal.returns-clause-noted
returns-clause-noted c =
    let byte : get_or c.args.memory.now c.args.a 0 < 256 = search rules in
    let e = c.touch-r.ensures in
    noted_byte _ _ _ _ _ c.requires.2 c.requires.0 (omega arith) byte _ _ _ refl (search rules) e.count.0 e.count.1 e.log
