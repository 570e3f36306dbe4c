-- long_above: two noted puts of words, one after the other.
use Rattle.std.proofs.Common.{arith, rules}
use Rattle.store.proofs.StoreLaws.{stored_long_above}
use Rattle.store.proofs.long_above.Statement.{statement}
use Rattle.store.proofs.long_above.Tie as tie

word_above_requires : tie.Need-word_above-requires
word_above_requires c κs =
    let s = c.before.before.before.before in
    (omega (arith, s.requires.0), omega (arith, s.requires.1), s.requires.2, s.requires.3)

word_above_requires_2 : tie.Need-word_above-requires-2
word_above_requires_2 c κs =
    let g = c.before.before.before.before.before.before.word_above.ensures in
    (omega (arith, g.1.0.same), omega (arith, g.1.0.long), g.1.0.ok, g.1.1)

returns : tie.Need-returns
returns c =
    let g = c.before.before.before.before.before.before.before.before.before.before.before.word_above in
    let h = c.before.before.before.before.word_above-2 in
    stored_long_above _ _ _ _ _ _ _ _ _ (search rules) (search rules) g.ensures h.ensures

pub long_above_spec : {M : Type 1} → statement M
long_above_spec =
    tie.close
    (tie.spec
    word_above_requires
    (λ c. search rules)
    (λ c. search rules)
    word_above_requires_2
    (λ c. search rules)
    (λ c. search rules)
    returns)
