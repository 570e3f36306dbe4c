use Rattle.step.proofs.ClockLaws.{concluded_is}
use borrow.Author.Rules.{rules}
use Rattle.step.proofs.concluded.Statement.{statement}
use Rattle.step.proofs.concluded.Tie as tie

pub concluded_spec : {M : Type 1} → statement M
concluded_spec =
    tie.close (tie.spec
    (λ c. search rules) (λ c κs. search rules) (λ c κs. search rules) (λ c. search rules) (λ c κs. search rules) (λ c. search rules) (λ c. search rules)
    (λ c. (search rules, (search rules, (search rules, (search concluded_is, search rules))))))
