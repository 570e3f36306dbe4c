-- The copy within the journal writes the part at its new place.
use mathlib.Core.Path.{◌∙◌}
use Rattle.turned.proofs.PartLaws.{written_of_copy}
use Rattle.turned.proofs.move_to.Goals as goal

pub returns : goal.returns
returns c = c.copy_within.ensures.after ∙ written_of_copy c.args.journal.now c.args.start c.args.end c.requires.1 c.requires.2 c.args.to
