use Rattle.execute.proofs.DispatchLaws.{execute_branch, execute_counted, execute_moved, execute_supervisor, execute_user}
use Rattle.execute.proofs.ClockLaws.{branch_away, counted_away, counted_on, own_branch, own_counted, own_moved, own_supervisor, own_user}
use Rattle.std.proofs.Common.{rules}
use Rattle.execute.proofs.execute.Statement.{statement}
use Rattle.execute.proofs.execute.Tie as tie

pub execute_spec : {M : Type 1} → statement M
execute_spec =
    tie.close (tie.spec
    (λ c κs. search rules) (λ c κs. search rules) (λ c κs. search rules) (λ c κs. search rules)
    (λ c. (search execute_branch, search own_branch)) (λ c. (search execute_branch, search (own_branch, branch_away)))
    (λ c κs. search rules) (λ c κs. search rules) (λ c κs. search rules) (λ c κs. search rules) (λ c κs. search rules)
    (λ c. (search execute_counted, search (own_counted, counted_on))) (λ c. (search execute_counted, search (own_counted, counted_away)))
    (λ c κs. search rules) (λ c κs. search rules) (λ c. (search execute_moved, search own_moved))
    (λ c κs. search rules) (λ c. (search execute_user, search own_user))
    (λ c κs. search rules) (λ c. (search execute_supervisor, search own_supervisor)))
