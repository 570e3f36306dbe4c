use Rattle.std.proofs.Common.{[], length, ap, rules}
use Rattle.bus.proofs.BusLaws.{part_is}
use Rattle.bus.proofs.low.Statement.{statement}
use Rattle.bus.proofs.low.Tie as tie

pub low_spec : {M : Type 1} → statement M
low_spec = tie.close (tie.spec (λ c. search rules) (λ c. ap length (part_is (λ x. x.now) c.args.mem.now 0 (record { ref_ptr = (0, 0); now = [] }))))
