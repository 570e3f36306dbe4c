use Rattle.step.proofs.ClockLaws.{trace_counts, trace_none}
use borrow.Author.Rules.{rules}
use Rattle.step.proofs.trace_clocks.Statement.{statement}
use Rattle.step.proofs.trace_clocks.Tie as tie

pub trace_clocks_spec : {M : Type 1} → statement M
trace_clocks_spec =
    tie.close (tie.spec
    (λ c κs. search rules) (λ c κs. search rules) (λ c. (search trace_none, search rules)) (λ c κs. search rules)
    (λ c. (search trace_counts, search rules)))
