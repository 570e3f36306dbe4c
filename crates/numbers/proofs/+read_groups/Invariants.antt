-- Invariants.antt - the measure of read_groups.
use Rattle.numbers.proofs.+read_groups.Given as goal

-- the place falls
abbrev pub decreases-read_groups : goal.decreases-read_groups
decreases-read_groups l = l.end
