use Rattle.std.proofs.Common.{rules}
use Rattle.clocks.specs.Lines.{time, clocks}
use Rattle.execute.specs.Dispatch.{refused_kind}
use Rattle.execute.proofs.ClockLaws.{arm_clocks, arm_plan, last_clocks, last_plan}
use Rattle.execute.proofs.DispatchLaws.{kept}
use Rattle.execute.proofs.families.refused_kind.Statement.{statement}
use Rattle.execute.proofs.families.refused_kind.Tie as tie

pub refused_kind_spec : {M : Type 1} → statement M
unfolding refused_kind clocks time
refused_kind_spec =
    tie.close (tie.spec
    (λ c κs. search rules) (λ c κs. search rules) (λ c κs. search rules) (λ c κs. search rules) (λ c κs. search rules) (λ c κs. search rules)
    (λ c. (search (arm_plan, kept), search arm_clocks)) (λ c. (search (arm_plan, kept), search arm_clocks))
    (λ c. (search (last_plan, kept, c.before.before.in_default.in_default-own.rest), search (last_clocks 2, c.before.before.in_default.in_default-own.rest))))
