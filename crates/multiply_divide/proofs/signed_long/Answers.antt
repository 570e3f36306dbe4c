use Rattle.multiply_divide.proofs.SignedLaws.{big_bound, signed_long_when_big, small_bound, signed_long_when_small}
use Rattle.multiply_divide.proofs.signed_long.Goals as goal

pub returns-then-small : goal.returns-then-small
returns-then-small c = (search signed_long_when_small, search small_bound)

pub returns : goal.returns
returns c = (search signed_long_when_big, search big_bound)
