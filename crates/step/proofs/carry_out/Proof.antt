use Rattle.step.proofs.StepLaws.{carry_out_quiet_event, carry_out_quiet_memory, carry_out_quiet_slots, carry_out_trace, carry_out_trap}
use Rattle.step.proofs.StepLaws.{carry_out_write_event, carry_out_write_memory, carry_out_write_slots, event_by, memory_by, slots_by}
use Rattle.touch.proofs.TouchLaws.{noted_still, noted_then, noted_within}
use borrow.Author.Rules.{rules}
use Rattle.step.proofs.carry_out.Statement.{statement}
use Rattle.step.proofs.carry_out.Tie as tie

pub carry_out_spec : {M : Type 1} → statement M
carry_out_spec =
    tie.close (tie.spec
    (λ c κs. search rules) (λ c. (search carry_out_quiet_slots, (search carry_out_quiet_memory, (search carry_out_quiet_event, search noted_still))))
    (λ c κs. search rules) (λ c κs. search rules) (λ c. search rules) (λ c. search rules)
    (λ c. (search (slots_by, carry_out_trap), (search (memory_by, carry_out_trap), (search (event_by, carry_out_trap), search (noted_within, rules)))))
    (λ c κs. search rules) (λ c κs. search rules) (λ c κs. search rules) (λ c. search rules) (λ c. search rules)
    (λ c. (search (slots_by, carry_out_trace), (search (memory_by, carry_out_trace), (search (event_by, carry_out_trace), search (noted_then, rules)))))
    (λ c. search rules) (λ c. search rules)
    (λ c. (search carry_out_write_slots, (search carry_out_write_memory, (search carry_out_write_event, search (noted_within, rules))))))
