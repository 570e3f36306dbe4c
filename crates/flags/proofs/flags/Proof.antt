use Rattle.flags.proofs.FlagsLaws.{flags_is}
use borrow.Author.Rules.{rules}
use Rattle.flags.proofs.flags.Statement.{statement}
use Rattle.flags.proofs.flags.Tie as tie

pub flags_spec : {M : Type 1} → statement M
flags_spec =
    tie.close (tie.spec
    (λ c κs. search rules) (λ c. search rules) (λ c κs. search rules) (λ c. search rules) (λ c. search rules) (λ c κs. search rules)
    (λ c. search rules) (λ c. search rules) (λ c κs. search rules) (λ c. search rules) (λ c. search rules) (λ c κs. search rules) (λ c. search rules)
    (λ c. (search flags_is, search rules)))
