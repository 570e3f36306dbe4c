use Rattle.touch.proofs.TouchLaws.{noted_within}
use Rattle.step.proofs.StepLaws.{conclude_faults, conclude_fine, event_by, memory_by, slots_by}
use borrow.Author.Rules.{rules}
use Rattle.step.proofs.conclude.Statement.{statement}
use Rattle.step.proofs.conclude.Tie as tie

pub conclude_spec : {M : Type 1} → statement M
conclude_spec =
    tie.close (tie.spec
    (λ c. search rules) (λ c κs. search rules) (λ c κs. search rules) (λ c. search rules) (λ c. search rules)
    (λ c. (search (slots_by, conclude_fine), (search (memory_by, conclude_fine), (search (event_by, conclude_fine), search rules))))
    (λ c κs. search rules) (λ c. search rules) (λ c. search rules)
    (λ c. (search (slots_by, conclude_faults), (search (memory_by, conclude_faults), (search (event_by, conclude_faults), search (noted_within, rules))))))
