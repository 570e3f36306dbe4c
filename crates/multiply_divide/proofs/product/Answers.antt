use Rattle.multiply_divide.proofs.SignedLaws.{held_bound, product_fits}
use Rattle.std.proofs.Common.{rules}
use Rattle.multiply_divide.proofs.product.Goals as goal

pub returns : goal.returns
returns c = (search (rules, product_fits), search (rules, held_bound, product_fits))
