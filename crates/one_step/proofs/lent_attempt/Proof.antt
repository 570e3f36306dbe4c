use Rattle.step.proofs.StepLaws.{lent_attempt_is}
use borrow.Author.Rules.{rules}
use Rattle.one_step.proofs.lent_attempt.Statement.{statement}
use Rattle.one_step.proofs.lent_attempt.Tie as tie

pub lent_attempt_spec : {M : Type 1} → statement M
lent_attempt_spec =
    tie.close (tie.spec
    (λ c κs. search rules) (λ c κs. search rules) (λ c κs. search rules) (λ c. (search lent_attempt_is, search rules)))
