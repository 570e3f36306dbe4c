use Rattle.bits.proofs.BitsLaws.{sign_word_is}
use borrow.Author.Rules.{rules}
use Rattle.bits.proofs.sign_word.Statement.{statement}
use Rattle.bits.proofs.sign_word.Tie as tie

pub sign_word_spec : {M : Type 1} → statement M
sign_word_spec =
    tie.close (tie.spec
    (λ c κs. search rules) (λ c. search rules) (λ c. search rules) (λ c. search sign_word_is))
