use native.Mathlib.Omega.{arith}
use borrow.Author.Rules.{rules}
use Rattle.taken.proofs.bytes.Statement.{statement}
use Rattle.taken.proofs.bytes.Tie as tie

pub bytes_spec : {M : Type 1} → statement M
bytes_spec =
    tie.close (tie.spec
    (λ c κs. search rules) (λ c. (search rules, λ k. omega (arith, c.before.shared_slice_known-1.given k))))
