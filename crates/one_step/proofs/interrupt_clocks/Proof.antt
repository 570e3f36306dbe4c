use Rattle.step.proofs.ClockLaws.{interrupt_counts, interrupt_halts}
use Rattle.one_step.proofs.interrupt_clocks.Statement.{statement}
use Rattle.one_step.proofs.interrupt_clocks.Tie as tie

pub interrupt_clocks_spec : {M : Type 1} → statement M
interrupt_clocks_spec =
    tie.close (tie.spec
    (λ c. search interrupt_halts) (λ c. search interrupt_counts))
