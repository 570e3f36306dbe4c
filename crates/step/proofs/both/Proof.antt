use Rattle.step.proofs.StepLaws.{both_first, both_memory, both_second, both_slots}
use Rattle.touch.proofs.TouchLaws.{noted_then}
use borrow.Author.Rules.{rules}
use Rattle.step.proofs.both.Statement.{statement}
use Rattle.step.proofs.both.Tie as tie

pub both_spec : {M : Type 1} → statement M
both_spec =
    tie.close (tie.spec
    (λ c κs. search rules) (λ c κs. search rules) (λ c κs. search rules) (λ c. search rules) (λ c. search rules)
    (λ c. (search both_slots, (search both_memory, (search both_second, search (noted_then, rules))))) (λ c. search rules) (λ c. search rules)
    (λ c. (search both_slots, (search both_memory, (search both_first, search (noted_then, rules))))))
