use Rattle.std.proofs.Common.{[], length, ap, rules}
use Rattle.bus.proofs.BusLaws.{part-is}
use Rattle.bus.proofs.rom_low.Statement.{statement}
use Rattle.bus.proofs.rom_low.Tie as tie

pub rom-low-spec : {M : Type 1} → statement M
rom-low-spec = tie.close (tie.spec (λ c. search rules) (λ c. ap length (part-is (λ x. x.now) c.args.mem.now 2 (record { ref_ptr = (0, 0); now = [] }))))
