use borrow.Author.Rules.{rules}
use Rattle.kind_table.proofs.ways.exchanges.Statement.{statement}
use Rattle.kind_table.proofs.ways.exchanges.Tie as tie

pub exchanges_spec : {M : Type 1} → statement M
exchanges_spec = tie.close (tie.spec (λ c κs. search rules) (λ c κs. search rules) (λ c. cc (c.fit.ensures, c.before.either-rest.ensures)))
