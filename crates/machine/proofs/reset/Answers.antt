use Rattle.std.proofs.Common.{rules}
use Rattle.machine.proofs.CallLaws.{reset_done, reset_done_answer, reset_length, reset_misfit, reset_misfit_answer}
use Rattle.machine.proofs.reset.Goals as goal

pub returns-in-Err : goal.returns-in-Err
returns-in-Err c = record { slots = search (reset_misfit, rules); answer = search (reset_misfit_answer, rules) }

pub overflow_cast-result : goal.overflow_cast-result
overflow_cast-result c = record { fits = reset_length _ _ _ c.judge_reset.ensures _ c.in_default.is }

pub returns : goal.returns
returns c = record { slots = search (reset_done, rules); answer = search (reset_done_answer, rules) }
