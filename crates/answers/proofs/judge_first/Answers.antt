use Rattle.std.proofs.Common.{rules}
use Rattle.calls.specs.Calls.{first_tests}
use Rattle.answers.proofs.judge_first.Goals as goal

pub returns-then-not-memory_fits : goal.returns-then-not-memory_fits
unfolding first_tests
returns-then-not-memory_fits c = search rules

pub returns-then-not-rom_fits : goal.returns-then-not-rom_fits
unfolding first_tests
returns-then-not-rom_fits c = search rules

pub returns-then-not-state_fits : goal.returns-then-not-state_fits
unfolding first_tests
returns-then-not-state_fits c = search rules

pub returns-then-not-window_fits : goal.returns-then-not-window_fits
unfolding first_tests
returns-then-not-window_fits c = search rules

pub returns : goal.returns
unfolding first_tests
returns c = search rules
