use Rattle.multiply_divide.proofs.SignedLaws.{word_bound, signed_word_is}
use Rattle.multiply_divide.proofs.signed_word.Goals as goal

pub returns : goal.returns
returns c = (search signed_word_is, search word_bound)
