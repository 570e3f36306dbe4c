use Rattle.std.proofs.Common.{[], rules}
use Rattle.bus.proofs.BusLaws.{part-is}
use Rattle.bus.proofs.below.Statement.{statement}
use Rattle.bus.proofs.below.Tie as tie

pub below-spec : {M : Type 1} → statement M
below-spec = tie.close (tie.spec (λ c. search rules) (λ c. part-is (λ x. x.now) c.before.args.mem.now 1 (record { ref_ptr = (0, 0); now = [] })))
