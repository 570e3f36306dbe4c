use Rattle.execute.proofs.DispatchLaws.{user_dispatch}
use Rattle.execute.proofs.ClockLaws.{taken_refused, user_none, user_own}
use Rattle.std.proofs.Common.{rules}
use Rattle.execute.proofs.as_user.Statement.{statement}
use Rattle.execute.proofs.as_user.Tie as tie

pub as_user_spec : {M : Type 1} → statement M
as_user_spec =
    tie.close (tie.spec
    (λ c κs. search rules) (λ c κs. search rules) (λ c κs. search rules) (λ c. (search taken_refused, search user_none)) (λ c κs. search rules)
    (λ c. (search user_dispatch, search user_own)))
