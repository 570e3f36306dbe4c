use Rattle.bits.proofs.BitsLaws.{sign_byte_is}
use borrow.Author.Rules.{rules}
use Rattle.bits.proofs.sign_byte.Statement.{statement}
use Rattle.bits.proofs.sign_byte.Tie as tie

pub sign_byte_spec : {M : Type 1} → statement M
sign_byte_spec =
    tie.close (tie.spec
    (λ c κs. search rules) (λ c. search rules) (λ c. search rules) (λ c. search sign_byte_is))
