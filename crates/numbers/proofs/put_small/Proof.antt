-- put_small: a number below 128 is one byte.
use mathlib.Core.Path.{ap}
use native.Mathlib.Omega.{arith}
use lib.ListN.{length}
use borrow.Author.Rules.{rules}
use Rattle.numbers.proofs.PutLaws.{number_bytes_one, put_each}
use Rattle.numbers.proofs.put_small.Statement.{statement}
use Rattle.numbers.proofs.put_small.Tie as tie

pub put_small_spec : {M : Type 1} → statement M
put_small_spec =
    tie.close (tie.spec
    (λ c. search rules) (λ c. omega (arith, ap length (number_bytes_one c.args.v c.requires.0))) (λ c. search rules) (λ c. search rules)
    (λ c. put_each _ _ _ _ _ (number_bytes_one c.args.v c.requires.0) c.requires.1))
