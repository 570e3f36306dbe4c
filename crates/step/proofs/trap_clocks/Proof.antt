use Rattle.step.proofs.ClockLaws.{trap_counts, trap_halts, trap_none}
use borrow.Author.Rules.{rules}
use Rattle.step.proofs.trap_clocks.Statement.{statement}
use Rattle.step.proofs.trap_clocks.Tie as tie

pub trap_clocks_spec : {M : Type 1} → statement M
trap_clocks_spec =
    tie.close (tie.spec
    (λ c κs. search rules) (λ c. (search trap_none, search rules)) (λ c. (search trap_halts, search rules)) (λ c κs. search rules)
    (λ c. (search trap_counts, search rules)))
