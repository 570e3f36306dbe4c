use Rattle.bits.proofs.BitsLaws.{by_size_byte, by_size_word, by_size_long}
use borrow.Author.Rules.{rules}
use Rattle.bits.proofs.sign_extended.Statement.{statement}
use Rattle.bits.proofs.sign_extended.Tie as tie

pub sign_extended_spec : {M : Type 1} → statement M
sign_extended_spec =
    tie.close (tie.spec
    (λ c κs. search rules) (λ c. search by_size_byte) (λ c κs. search rules) (λ c. search by_size_word) (λ c. search by_size_long))
