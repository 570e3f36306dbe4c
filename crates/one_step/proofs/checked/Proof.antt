use Rattle.step.proofs.StepLaws.{checked_block, checked_none, checked_one}
use borrow.Author.Rules.{rules}
use Rattle.one_step.proofs.checked.Statement.{statement}
use Rattle.one_step.proofs.checked.Tie as tie

pub checked_spec : {M : Type 1} → statement M
checked_spec =
    tie.close (tie.spec
    (λ c. search checked_none) (λ c κs. search rules) (λ c κs. search rules) (λ c. search checked_one) (λ c κs. search rules) (λ c κs. search rules)
    (λ c. search checked_block))
