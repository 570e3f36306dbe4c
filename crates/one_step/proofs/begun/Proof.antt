use Rattle.step.proofs.StepLaws.{begun_is}
use borrow.Author.Rules.{rules}
use Rattle.one_step.proofs.begun.Statement.{statement}
use Rattle.one_step.proofs.begun.Tie as tie

pub begun_spec : {M : Type 1} → statement M
begun_spec =
    tie.close (tie.spec
    (λ c. search rules) (λ c. search rules) (λ c κs. search rules) (λ c κs. search rules) (λ c κs. search rules)
    (λ c. (search begun_is, search rules)))
