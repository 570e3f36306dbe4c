use Rattle.bits.proofs.OnesLaws.{ones_few, ones_is}
use Rattle.bits.proofs.ones_of.Statement.{statement}
use Rattle.bits.proofs.ones_of.Tie as tie

pub ones_of_spec : {M : Type 1} → statement M
ones_of_spec =
    tie.close (tie.spec
    (λ c. (search ones_is, search ones_few)))
