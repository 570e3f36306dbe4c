use Rattle.operand.proofs.OperandLaws.{indexed_is}
use Rattle.operand.proofs.indexed.Goals as goal

pub returns : goal.returns
returns c = search indexed_is
