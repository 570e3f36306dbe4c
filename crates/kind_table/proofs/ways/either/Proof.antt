use borrow.Author.Rules.{rules}
use Rattle.kind_table.proofs.ways.either.Statement.{statement}
use Rattle.kind_table.proofs.ways.either.Tie as tie

pub either_spec : {M : Type 1} → statement M
either_spec = tie.close (tie.spec (λ c κs. search rules) (λ c κs. search rules) (λ c. cc (c.fit.ensures, c.before.only.ensures)))
