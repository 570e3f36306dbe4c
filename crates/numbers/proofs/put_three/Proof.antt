-- put_three: the three bytes that are set one after the other are the number's.
use Prim.Native.Nat.{◌+◌, ◌/◌, ◌%◌}
use mathlib.Core.Path.{◌≡◌, ap}
use mathlib.Core.List.{[], ◌∷◌}
use native.Mathlib.Omega.{arith}
use lib.ListN.{length, length-set}
use borrow.Author.Rules.{rules}
use Rattle.numbers.specs.Number.{number_bytes}
use Rattle.numbers.proofs.PutLaws.{number_bytes_three, put_each}
use Rattle.numbers.proofs.put_three.Statement.{statement}
use Rattle.numbers.proofs.put_three.Tie as tie

three : (c : tie.Start) → let v = c.args.v in number_bytes v ≡ v / 16384 ∷ (v / 128 % 128 + 128) ∷ (v % 128 + 128) ∷ []
three c = number_bytes_three c.args.v c.requires.0 c.requires.1

pub put_three_spec : {M : Type 1} → statement M
put_three_spec =
    tie.close (tie.spec
    (λ c. search rules) (λ c. omega (arith, ap length (three c)))
    (λ c. search rules) (λ c. search rules) (λ c. search rules) (λ c. simp length-set (omega (arith, ap length (three c))))
    (λ c. search rules) (λ c. search rules) (λ c. search rules) (λ c. simp length-set (omega (arith, ap length (three c))))
    (λ c. search rules) (λ c. search rules) (λ c. put_each _ _ _ _ _ (three c) c.requires.2))
