use Rattle.multiply_divide.specs.MultiplyDivide.{outside_word}
use borrow.Author.Rules.{rules}
use Rattle.multiply_divide.proofs.outside_word.Statement.{statement}
use Rattle.multiply_divide.proofs.outside_word.Tie as tie

pub outside_word_spec : {M : Type 1} → statement M
unfolding outside_word
outside_word_spec =
    tie.close (tie.spec
    (λ c. search rules))
