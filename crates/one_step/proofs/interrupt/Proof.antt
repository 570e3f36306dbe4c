use Rattle.step.proofs.StepLaws.{event_by, interrupt_is, memory_by, slots_by}
use borrow.Author.Rules.{rules}
use Rattle.one_step.proofs.interrupt.Statement.{statement}
use Rattle.one_step.proofs.interrupt.Tie as tie

pub interrupt_spec : {M : Type 1} → statement M
interrupt_spec =
    tie.close (tie.spec
    (λ c. search rules) (λ c κs. search rules) (λ c κs. search rules) (λ c. search rules) (λ c. search rules)
    (λ c. (search (slots_by, interrupt_is), (search (memory_by, interrupt_is), (search (event_by, interrupt_is), search rules)))))
