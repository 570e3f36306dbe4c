use Rattle.touch.proofs.TouchLaws.{noted_still}
use Rattle.step.proofs.StepLaws.{event_by, memory_by, slots_by, take_trap_none_event, take_trap_none_memory, take_trap_none_slots}
use Rattle.step.proofs.StepLaws.{take_trap_some}
use borrow.Author.Rules.{rules}
use Rattle.step.proofs.take_trap.Statement.{statement}
use Rattle.step.proofs.take_trap.Tie as tie

pub take_trap_spec : {M : Type 1} → statement M
take_trap_spec =
    tie.close (tie.spec
    (λ c. search rules) (λ c κs. search rules) (λ c κs. search rules) (λ c. search rules) (λ c. search rules)
    (λ c. (search (slots_by, take_trap_some), (search (memory_by, take_trap_some), (search (event_by, take_trap_some), search rules))))
    (λ c. (search take_trap_none_slots, (search take_trap_none_memory, (search take_trap_none_event, search noted_still)))))
