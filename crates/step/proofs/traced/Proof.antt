use Rattle.step.proofs.StepLaws.{traced_is}
use borrow.Author.Rules.{rules}
use Rattle.step.proofs.traced.Statement.{statement}
use Rattle.step.proofs.traced.Tie as tie

pub traced_spec : {M : Type 1} → statement M
traced_spec =
    tie.close (tie.spec
    (λ c κs. search rules) (λ c. search rules) (λ c. search traced_is))
