-- The old byte is noted as the last entry, then the new one is put.
use Prim.Native.Nat.{◌<◌}
use lib.ListN.{get_or}
use borrow.Author.Rules.{rules}
use Rattle.touch.proofs.TouchLaws.{written_last}
use Rattle.touch.proofs.write_above.Goals as goal

pub returns-clause-noted : goal.returns-clause-noted
returns-clause-noted c =
    let byte : get_or c.args.memory.now c.args.a 0 < 256 = search rules in
    (written_last _ _ _ _ c.args.v c.requires.0 c.requires.1 c.requires.2 c.requires.3 byte).0
