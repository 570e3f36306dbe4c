use Rattle.step.proofs.StepLaws.{trap_of_stop, trap_of_vector}
use Rattle.step.proofs.trap_of.Statement.{statement}
use Rattle.step.proofs.trap_of.Tie as tie

pub trap_of_spec : {M : Type 1} → statement M
trap_of_spec =
    tie.close (tie.spec
    (λ c. search trap_of_vector) (λ c. search trap_of_stop))
