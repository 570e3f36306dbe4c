use Rattle.touch.proofs.TouchLaws.{noted_still, noted_within}
use Rattle.step.proofs.ClockLaws.{clocks_instruction, clocks_interrupted, clocks_stopped}
use Rattle.step.proofs.StepLaws.{event_by, memory_by, slots_by, step_instruction, step_interrupted, step_stopped_event}
use Rattle.step.proofs.StepLaws.{step_stopped_memory, step_stopped_slots}
use borrow.Author.Rules.{rules}
use Rattle.one_step.proofs.one_step.Statement.{statement}
use Rattle.one_step.proofs.one_step.Tie as tie

pub one_step_spec : {M : Type 1} → statement M
one_step_spec =
    tie.close (tie.spec
    (λ c. search rules) (λ c κs. search rules) (λ c κs. search rules) (λ c. search rules) (λ c. search rules)
    (λ c. (search (slots_by, step_interrupted), (search (memory_by, step_interrupted), (search (event_by, step_interrupted), (search (noted_within, rules), search clocks_interrupted)))))
    (λ c. search rules) (λ c κs. search rules) (λ c. search rules) (λ c. search rules)
    (λ c. (search (slots_by, step_instruction), (search (memory_by, step_instruction), (search (event_by, step_instruction), (search rules, search clocks_instruction)))))
    (λ c. (search step_stopped_slots, (search step_stopped_memory, (search step_stopped_event, (search noted_still, search clocks_stopped))))))
