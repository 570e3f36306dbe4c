use native.Mathlib.Omega.{arith}
use Rattle.blocks.proofs.StoringLaws.{noted_sized, sized_room}
use Rattle.step.proofs.StepLaws.{commit_block, commit_one}
use borrow.Author.Rules.{rules}
use Rattle.step.proofs.commit.Statement.{statement}
use Rattle.step.proofs.commit.Tie as tie

pub commit_spec : {M : Type 1} → statement M
commit_spec =
    tie.close (tie.spec
    (λ c κs. (search rules, sized_room _ _ 64 _ (omega arith) (search rules))) (λ c. search rules) (λ c. search rules) (λ c. (search commit_one, search (noted_sized, rules)))
    (λ c κs. search rules) (λ c. search rules) (λ c. search rules) (λ c. (search commit_block, search rules)))
