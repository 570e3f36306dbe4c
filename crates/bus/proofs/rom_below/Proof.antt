use Rattle.std.proofs.Common.{[], rules}
use Rattle.bus.proofs.BusLaws.{part_is}
use Rattle.bus.proofs.rom_below.Statement.{statement}
use Rattle.bus.proofs.rom_below.Tie as tie

pub rom_below_spec : {M : Type 1} → statement M
rom_below_spec = tie.close (tie.spec (λ c. search rules) (λ c. part_is (λ x. x.now) c.before.args.mem.now 3 (record { ref_ptr = (0, 0); now = [] })))
