use Rattle.std.proofs.Common.{arith}
use Rattle.bank.proofs.BankLaws.{slots_of_is}
use Rattle.bank.proofs.slots_of.Goals as goal

pub returns : goal.returns
returns c =
    slots_of_is _ _ _ _ _ _ _ _ _ _ _ _ _ _ _ _ _ _ _ _
    (omega arith) (omega arith) (omega arith) (omega arith) (omega arith) (omega arith) (omega arith) (omega arith) (omega arith)
    (omega arith) (omega arith) (omega arith) (omega arith) (omega arith) (omega arith) (omega arith) (omega arith) (omega arith)
