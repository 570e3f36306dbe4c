-- word_above: two noted puts, one after the other.
use Rattle.std.proofs.Common.{arith, rules}
use Rattle.store.proofs.StoreLaws.{stored_word_above}
use Rattle.store.proofs.word_above.Statement.{statement}
use Rattle.store.proofs.word_above.Tie as tie

write_above_requires_2 : tie.Need-write_above-requires-2
write_above_requires_2 c κs =
    let g = c.before.before.before.before.before.before.write_above.ensures in
    (omega (arith, g.1.0.same), omega (arith, g.1.0.long), g.1.0.ok, g.1.1)

returns : tie.Need-returns
returns c =
    let g = c.before.before.before.before.before.before.before.before.before.before.before.write_above in
    let h = c.before.before.before.before.write_above-2 in
    stored_word_above _ _ _ _ _ _ _ _ _ (search rules) (search rules) g.ensures h.ensures

pub word_above_spec : {M : Type 1} → statement M
word_above_spec =
    tie.close
    (tie.spec
    (λ c. search rules)
    (λ c κs. search rules)
    (λ c. search rules)
    (λ c. search rules)
    (λ c. search rules)
    write_above_requires_2
    (λ c. search rules)
    (λ c. search rules)
    returns)
