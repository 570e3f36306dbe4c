use Rattle.step.proofs.ClockLaws.{instruction_clocks_is}
use Rattle.step.proofs.StepLaws.{event_by, instruction_is, memory_by, slots_by}
use borrow.Author.Rules.{rules}
use Rattle.one_step.proofs.instruction.Statement.{statement}
use Rattle.one_step.proofs.instruction.Tie as tie

pub instruction_spec : {M : Type 1} → statement M
instruction_spec =
    tie.close (tie.spec
    (λ c κs. search rules) (λ c κs. search rules) (λ c. search rules) (λ c. search rules)
    (λ c. (search (slots_by, instruction_is), (search (memory_by, instruction_is), (search (event_by, instruction_is), (search instruction_clocks_is, search rules))))))
