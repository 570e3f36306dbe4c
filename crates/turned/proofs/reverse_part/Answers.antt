-- The part, turned round, stands in its place.
use Rattle.turned.proofs.PartLaws.{written_of_reverse}
use Rattle.turned.proofs.reverse_part.Goals as goal

pub returns : goal.returns
returns c = written_of_reverse c.args.journal.now c.args.start c.args.end c.requires.0 c.requires.1 c.reverse.new.self c.reverse.ensures.after
