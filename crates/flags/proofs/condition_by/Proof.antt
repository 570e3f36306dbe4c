use Rattle.bits.proofs.BitsLaws.{case_at, case_past}
use Rattle.flags.specs.Flags.{condition_by}
use Rattle.flags.proofs.condition_by.Statement.{statement}
use Rattle.flags.proofs.condition_by.Tie as tie

pub condition_by_spec : {M : Type 1} → statement M
unfolding condition_by
condition_by_spec =
    tie.close (tie.spec
    (λ c. search case_at) (λ c. search case_at) (λ c. search case_at) (λ c. search case_at) (λ c. search case_at) (λ c. search case_at)
    (λ c. search case_at) (λ c. search case_at) (λ c. search case_at) (λ c. search case_at) (λ c. search case_at) (λ c. search case_at)
    (λ c. search case_at) (λ c. search case_at) (λ c. search case_at) (λ c. search (case_past, c.in_default.in_default-own.rest)))
