use native.Mathlib.Omega.{arith}
use Rattle.bits.proofs.BitsLaws.{by_size_byte, by_size_word, by_size_long, low_known}
use borrow.Author.Rules.{rules}
use Rattle.bits.proofs.cut.Statement.{statement}
use Rattle.bits.proofs.cut.Tie as tie

pub cut_spec : {M : Type 1} → statement M
cut_spec =
    tie.close (tie.spec
    (λ c. search rules) (λ c. low_known _ 256 (search by_size_byte) _ (omega arith)) (λ c. search rules)
    (λ c. low_known _ 65536 (search by_size_word) _ (omega arith)) (λ c. search rules) (λ c. low_known _ 4294967296 (search by_size_long) _ (omega arith)))
