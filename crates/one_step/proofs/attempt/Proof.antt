use Rattle.step.proofs.StepLaws.{attempt_is}
use Rattle.step.proofs.LargestLaws.{own_small}
use borrow.Author.Rules.{rules}
use Rattle.one_step.proofs.attempt.Statement.{statement}
use Rattle.one_step.proofs.attempt.Tie as tie

pub attempt_spec : {M : Type 1} → statement M
attempt_spec =
    tie.close (tie.spec
    (λ c κs. search rules) (λ c κs. search rules) (λ c κs. search rules) (λ c. (search attempt_is, search own_small)))
