use Rattle.step.proofs.ClockLaws.{ended_fault, ended_fine, ended_halts, ended_quiet}
use borrow.Author.Rules.{rules}
use Rattle.step.proofs.ended_clocks.Statement.{statement}
use Rattle.step.proofs.ended_clocks.Tie as tie

pub ended_clocks_spec : {M : Type 1} → statement M
ended_clocks_spec =
    tie.close (tie.spec
    (λ c. search ended_quiet) (λ c κs. search rules) (λ c κs. search rules) (λ c. search rules) (λ c. search ended_fine) (λ c. search ended_halts)
    (λ c κs. search rules) (λ c. search ended_fault))
