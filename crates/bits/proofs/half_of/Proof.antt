use Rattle.bits.proofs.BitsLaws.{by_size_byte, by_size_word, by_size_long}
use Rattle.bits.proofs.half_of.Statement.{statement}
use Rattle.bits.proofs.half_of.Tie as tie

pub half_of_spec : {M : Type 1} → statement M
half_of_spec =
    tie.close (tie.spec
    (λ c. search by_size_byte) (λ c. search by_size_word) (λ c. search by_size_long))
