use Rattle.std.proofs.Common.{rules}
use Rattle.clocks.specs.Lines.{time, clocks}
use Rattle.execute.specs.Dispatch.{logical_kind}
use Rattle.execute.proofs.ClockLaws.{arm_clocks, arm_plan, last_clocks, last_plan}
use Rattle.execute.proofs.families.logical_kind.Statement.{statement}
use Rattle.execute.proofs.families.logical_kind.Tie as tie

pub logical_kind_spec : {M : Type 1} → statement M
unfolding logical_kind clocks time
logical_kind_spec =
    tie.close (tie.spec
    (λ c κs. search rules) (λ c κs. search rules) (λ c κs. search rules) (λ c κs. search rules) (λ c κs. search rules) (λ c κs. search rules)
    (λ c κs. search rules) (λ c κs. search rules) (λ c κs. search rules) (λ c κs. search rules) (λ c κs. search rules) (λ c κs. search rules)
    (λ c κs. search rules) (λ c κs. search rules) (λ c κs. search rules) (λ c κs. search rules) (λ c κs. search rules) (λ c κs. search rules)
    (λ c κs. search rules) (λ c κs. search rules) (λ c κs. search rules) (λ c κs. search rules) (λ c κs. search rules) (λ c κs. search rules)
    (λ c κs. search rules) (λ c κs. search rules) (λ c κs. search rules) (λ c κs. search rules) (λ c κs. search rules) (λ c κs. search rules)
    (λ c κs. search rules) (λ c κs. search rules) (λ c κs. search rules) (λ c κs. search rules) (λ c κs. search rules) (λ c κs. search rules)
    (λ c κs. search rules) (λ c κs. search rules) (λ c κs. search rules) (λ c κs. search rules) (λ c κs. search rules) (λ c κs. search rules)
    (λ c κs. search rules) (λ c κs. search rules) (λ c κs. search rules) (λ c κs. search rules) (λ c κs. search rules) (λ c κs. search rules)
    (λ c. (search arm_plan, search arm_clocks)) (λ c. (search arm_plan, search arm_clocks)) (λ c. (search arm_plan, search arm_clocks))
    (λ c. (search arm_plan, search arm_clocks)) (λ c. (search arm_plan, search arm_clocks)) (λ c. (search arm_plan, search arm_clocks))
    (λ c. (search arm_plan, search arm_clocks)) (λ c. (search arm_plan, search arm_clocks)) (λ c. (search arm_plan, search arm_clocks))
    (λ c. (search arm_plan, search arm_clocks)) (λ c. (search arm_plan, search arm_clocks)) (λ c. (search arm_plan, search arm_clocks))
    (λ c. (search arm_plan, search arm_clocks)) (λ c. (search arm_plan, search arm_clocks)) (λ c. (search arm_plan, search arm_clocks))
    (λ c. (search (last_plan, c.before.before.before.before.in_default.in_default-own.rest), search (last_clocks 15, c.before.before.before.before.in_default.in_default-own.rest))))
