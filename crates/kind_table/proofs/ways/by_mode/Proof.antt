use borrow.Author.Rules.{rules}
use Rattle.kind_table.proofs.WayLaws.{mode_address, mode_last, mode_plain}
use Rattle.kind_table.proofs.ways.by_mode.Statement.{statement}
use Rattle.kind_table.proofs.ways.by_mode.Tie as tie

pub by_mode_spec : {M : Type 1} → statement M
by_mode_spec = tie.close (tie.spec (λ c κs. search rules) (λ c. search mode_address) (λ c. search mode_last) (λ c. search mode_plain))
