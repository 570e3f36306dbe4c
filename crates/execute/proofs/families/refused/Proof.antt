use Rattle.execute.proofs.DispatchLaws.{refused_is}
use Rattle.std.proofs.Common.{rules}
use Rattle.execute.proofs.families.refused.Statement.{statement}
use Rattle.execute.proofs.families.refused.Tie as tie

pub refused_spec : {M : Type 1} → statement M
refused_spec =
    tie.close (tie.spec
    (λ c κs. search rules) (λ c κs. search rules) (λ c. search refused_is))
