use Rattle.bits.proofs.BitsLaws.{bit_bound}
use borrow.Author.Rules.{rules}
use Rattle.bits.proofs.bit.Statement.{statement}
use Rattle.bits.proofs.bit.Tie as tie

pub bit_spec : {M : Type 1} → statement M
bit_spec = tie.close (tie.spec (λ c. search rules) (λ c. search bit_bound))
