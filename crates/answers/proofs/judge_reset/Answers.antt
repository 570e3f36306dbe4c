use Rattle.std.proofs.Common.{rules}
use Rattle.calls.specs.Calls.{reset_number}
use Rattle.answers.proofs.judge_reset.Goals as goal

pub returns-then-not-memory_fits : goal.returns-then-not-memory_fits
unfolding reset_number
returns-then-not-memory_fits c = search rules

pub returns-then-not-rom_fits : goal.returns-then-not-rom_fits
unfolding reset_number
returns-then-not-rom_fits c = search rules

pub returns : goal.returns
unfolding reset_number
returns c = search rules
