use Rattle.clocks.proofs.ClockLaws.{general_immediate, general_memory, general_register}
use Rattle.timing.proofs.general.Goals as goal

pub returns-then-register-clause-value : goal.returns-then-register-clause-value
returns-then-register-clause-value c = search general_register

pub returns-then-immediate-clause-value : goal.returns-then-immediate-clause-value
returns-then-immediate-clause-value c = search general_immediate

pub returns-clause-value : goal.returns-clause-value
returns-clause-value c = search general_memory
