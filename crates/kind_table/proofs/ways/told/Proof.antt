use borrow.Author.Rules.{rules}
use Rattle.kind_table.specs.Ways.{told}
use Rattle.kind_table.proofs.ways.told.Statement.{statement}
use Rattle.kind_table.proofs.ways.told.Tie as tie

returns : tie.Need-returns-then-names
unfolding told
returns c = rw c.if-names.true-raw

returns_2 : tie.Need-returns
unfolding told
returns_2 c = rw c.before.if-names.false-raw c.by_way.ensures

pub told_spec : {M : Type 1} → statement M
told_spec = tie.close (tie.spec returns (λ c. search rules) (λ c κs. search rules) returns_2)
