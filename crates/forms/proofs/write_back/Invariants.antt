-- Invariants.antt - write_back: the records that were read stand at the end of the target's part, and those that are left have just the
-- room before it.
use Rattle.std.proofs.Common.{◌≡◌, ◌+◌, List, length}
use Rattle.numbers.specs.Number.{written}
use Rattle.oldest.specs.Room.{Row}
use Rattle.forms.specs.Forms.{other, journal_in}
use Rattle.forms.proofs.ConvertLaws.{Passed}
use Rattle.forms.proofs.write_back.Given as goal

abbrev pub invariant-loop-e : goal.invariant-loop-e
invariant-loop-e l =
    (acc : List Row) × Passed l.form l.journal l.e acc
    × (l.p + length (journal_in (other l.form) acc) ≡ l.total)
    × (l.target ≡ written l.fn.target l.p (journal_in (other l.form) acc))

abbrev pub decreases-loop-e : goal.decreases-loop-e
decreases-loop-e l = l.e
