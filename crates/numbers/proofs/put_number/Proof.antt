-- put_number: by the number's range; in each, the bytes that are set one after the other are the number's.
use Prim.Native.Nat.{ℕ, ◌+◌, ◌/◌, ◌%◌}
use mathlib.Core.Path.{◌≡◌, ap}
use mathlib.Core.List.{List, [], ◌∷◌}
use native.Mathlib.Omega.{arith}
use lib.ListN.{length, length-set}
use borrow.Author.Rules.{rules}
use Rattle.numbers.specs.Number.{number_bytes}
use Rattle.numbers.proofs.PutLaws.{number_bytes_two, number_bytes_four, number_bytes_five, put_each}
use Rattle.numbers.proofs.put_number.Statement.{statement}
use Rattle.numbers.proofs.put_number.Tie as tie

-- the bytes after the first, and that they are the number's, in each range that has more than one byte
abbrev rest_two : ℕ → List ℕ
rest_two v = (v % 128 + 128) ∷ []

abbrev rest_three : ℕ → List ℕ
rest_three v = (v / 128 % 128 + 128) ∷ rest_two v

abbrev rest_four : ℕ → List ℕ
rest_four v = (v / 16384 % 128 + 128) ∷ rest_three v

abbrev rest_five : ℕ → List ℕ
rest_five v = (v / 2097152 % 128 + 128) ∷ rest_four v

two : (c : tie.Then-v-lt16384) → let v = c.before.before.before.args.v in number_bytes v ≡ v / 128 ∷ rest_two v
two c = number_bytes_two c.before.before.before.args.v c.before.if-v-lt128.false c.if-v-lt16384.true

four : (c : tie.Then-v-lt268435456) → let v = c.before.before.before.before.before.args.v in number_bytes v ≡ v / 2097152 ∷ rest_four v
four c = number_bytes_four c.before.before.before.before.before.args.v c.before.if-v-lt2097152.false c.if-v-lt268435456.true

five : (c : tie.Else-v-lt268435456) → let v = c.before.before.before.before.before.args.v in number_bytes v ≡ v / 268435456 ∷ rest_five v
five c = number_bytes_five c.before.before.before.before.before.args.v c.if-v-lt268435456.false (omega arith)

pub put_number_spec : {M : Type 1} → statement M
put_number_spec =
    tie.close (tie.spec
    (λ c κs. search rules) (λ c. search rules) (λ c. search rules) (λ c. search rules) (λ c. omega (arith, ap length (two c)))
    (λ c. search rules) (λ c. search rules) (λ c. search rules) (λ c. simp length-set (omega (arith, ap length (two c))))
    (λ c. search rules) (λ c. search rules) (λ c. put_each _ _ _ _ _ (two c) c.before.before.before.requires)
    (λ c κs. search rules) (λ c. search rules) (λ c. search rules)
    (λ c. search rules) (λ c. omega (arith, ap length (four c)))
    (λ c. search rules) (λ c. search rules) (λ c. search rules) (λ c. simp length-set (omega (arith, ap length (four c))))
    (λ c. search rules) (λ c. search rules) (λ c. search rules) (λ c. simp length-set (omega (arith, ap length (four c))))
    (λ c. search rules) (λ c. search rules) (λ c. search rules) (λ c. simp length-set (omega (arith, ap length (four c))))
    (λ c. search rules) (λ c. search rules) (λ c. put_each _ _ _ _ _ (four c) c.before.before.before.before.before.requires)
    (λ c. search rules) (λ c. omega (arith, ap length (five c)))
    (λ c. search rules) (λ c. search rules) (λ c. search rules) (λ c. simp length-set (omega (arith, ap length (five c))))
    (λ c. search rules) (λ c. search rules) (λ c. search rules) (λ c. simp length-set (omega (arith, ap length (five c))))
    (λ c. search rules) (λ c. search rules) (λ c. search rules) (λ c. simp length-set (omega (arith, ap length (five c))))
    (λ c. search rules) (λ c. search rules) (λ c. search rules) (λ c. simp length-set (omega (arith, ap length (five c))))
    (λ c. search rules) (λ c. search rules) (λ c. put_each _ _ _ _ _ (five c) c.before.before.before.before.before.requires))
