use Rattle.execute.proofs.ClockLaws.{after_byte, after_word}
use Rattle.std.proofs.Common.{rules}
use Rattle.execute.proofs.after_branch.Statement.{statement}
use Rattle.execute.proofs.after_branch.Tie as tie

pub after_branch_spec : {M : Type 1} → statement M
after_branch_spec = tie.close (tie.spec (λ c κs. search rules) (λ c. search after_word) (λ c. search after_byte))
