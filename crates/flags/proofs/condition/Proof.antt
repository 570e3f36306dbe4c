use Rattle.flags.proofs.FlagsLaws.{condition_is}
use borrow.Author.Rules.{rules}
use Rattle.flags.proofs.condition.Statement.{statement}
use Rattle.flags.proofs.condition.Tie as tie

pub condition_spec : {M : Type 1} → statement M
condition_spec =
    tie.close (tie.spec
    (λ c κs. search rules) (λ c κs. search rules) (λ c κs. search rules) (λ c κs. search rules) (λ c κs. search rules) (λ c. search condition_is))
