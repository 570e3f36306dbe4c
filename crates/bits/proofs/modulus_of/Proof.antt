use native.Mathlib.Omega.{arith}
use Rattle.bits.proofs.BitsLaws.{by_size_byte, by_size_word, by_size_long, modulus_known}
use Rattle.bits.proofs.modulus_of.Statement.{statement}
use Rattle.bits.proofs.modulus_of.Tie as tie

pub modulus_of_spec : {M : Type 1} → statement M
modulus_of_spec =
    tie.close (tie.spec
    (λ c. modulus_known _ 256 (search by_size_byte) (omega arith) (omega arith)) (λ c. modulus_known _ 65536 (search by_size_word) (omega arith) (omega arith))
    (λ c. modulus_known _ 4294967296 (search by_size_long) (omega arith) (omega arith)))
