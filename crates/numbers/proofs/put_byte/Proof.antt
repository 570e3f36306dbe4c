-- put_byte: a number below 128 is one byte; one from 128 to 255 is a 1 and the number itself.
use mathlib.Core.Path.{◌≡◌, ap}
use mathlib.Core.List.{[], ◌∷◌}
use native.Mathlib.Omega.{arith}
use lib.ListN.{length, length-set}
use borrow.Author.Rules.{rules}
use Rattle.numbers.specs.Number.{number_bytes}
use Rattle.numbers.proofs.PutLaws.{number_bytes_byte, put_each}
use Rattle.numbers.proofs.put_byte.Statement.{statement}
use Rattle.numbers.proofs.put_byte.Tie as tie

two : (c : tie.Else-v-lt128) → let v = c.before.before.args.v in number_bytes v ≡ 1 ∷ v ∷ []
two c = number_bytes_byte c.before.before.args.v c.if-v-lt128.false c.before.before.requires.0

pub put_byte_spec : {M : Type 1} → statement M
put_byte_spec =
    tie.close (tie.spec
    (λ c κs. search rules) (λ c. search rules) (λ c. search rules) (λ c. omega (arith, ap length (two c)))
    (λ c. search rules) (λ c. search rules) (λ c. simp length-set (omega (arith, ap length (two c))))
    (λ c. search rules) (λ c. search rules) (λ c. put_each _ _ _ _ _ (two c) c.before.before.requires.1))
