-- Invariants.antt - measure: the records that are left, read now after those that were, give what was asked; the space that is left follows.
use Rattle.std.proofs.Common.{List, length}
use Rattle.oldest.specs.Room.{Row}
use Rattle.forms.specs.Forms.{other, journal_in}
use Rattle.forms.specs.Answers.{SpaceIs}
use Rattle.forms.proofs.ConvertLaws.{Passed}
use Rattle.forms.proofs.measure.Given as goal

abbrev pub invariant-loop-e : goal.invariant-loop-e
invariant-loop-e l = (acc : List Row) × Passed l.form l.journal l.e acc × SpaceIs l.space (length (journal_in (other l.form) acc)) l.left

abbrev pub decreases-loop-e : goal.decreases-loop-e
decreases-loop-e l = l.e
