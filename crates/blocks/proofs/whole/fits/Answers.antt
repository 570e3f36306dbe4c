use Rattle.std.proofs.Common.{arith}
use Rattle.movem.proofs.FitsLaws.{span_bound, fits_is}
use Rattle.blocks.proofs.whole.fits.Goals as goal

pub overflow_mul-n : goal.overflow_mul-n
overflow_mul-n c = let b = span_bound _ _ _ c.put_way-w.ensures c.ones_of.ensures in record { fits = omega (arith, b) }

pub returns : goal.returns
returns c = fits_is _ _ _ _ _ c.put_way-w.ensures c.ones_of.ensures
