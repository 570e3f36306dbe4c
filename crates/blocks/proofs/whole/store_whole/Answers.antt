use Rattle.movem.proofs.FitsLaws.{fits_when}
use Rattle.blocks.proofs.ValueLaws.{inside_when_fits, below_start, values_memory}
use Rattle.blocks.proofs.whole.store_whole.Goals as goal

pub store_values-requires-clause-inside : goal.store_values-requires-clause-inside
store_values-requires-clause-inside c =
    let q = c.requires.p_value in
    (inside_when_fits _ _ _ (fits_when _ _ _ q.0) c.put_way-w.ensures, below_start c.args.log.now c.args.n c.args.p _ c.put_way-w.ensures q.1)

pub returns-clause-memory : goal.returns-clause-memory
returns-clause-memory c =
    values_memory _ _ _ _ _ _ (fits_when _ _ _ c.requires.p_value.0) c.put_way-w.ensures c.put.ensures c.put.array_long c.store_values.ensures.memory
