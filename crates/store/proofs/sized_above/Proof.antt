-- sized_above: by size; a law for each return.
use Rattle.std.proofs.Common.{arith, rules}
use Rattle.store.proofs.StoreLaws.{sized_above_word, sized_above_long}
use Rattle.store.proofs.sized_above.Statement.{statement}
use Rattle.store.proofs.sized_above.Tie as tie

word_above_requires : tie.Need-word_above-requires
word_above_requires c κs =
    let d = c.before.before in
    let s = d.before.before.before in
    (omega (arith, d.if-z-eq1.true, s.requires.0), omega (arith, d.if-z-eq1.true, s.requires.0), s.requires.1.0, s.requires.1.1)

returns : tie.Need-returns-then-z-eq1
returns c =
    let g = c.before.before.before.before in
    sized_above_word _ _ _ _ _ _ _ _ g.before.before.before.if-z-eq1.true g.word_above.ensures

long_above_requires : tie.Need-long_above-requires
long_above_requires c κs =
    let d = c.before.before in
    let s = d.before.before.before in
    (omega (arith, d.if-z-eq1.false, s.requires.0), omega (arith, d.if-z-eq1.false, s.requires.0), s.requires.1.0, s.requires.1.1)

returns_2 : tie.Need-returns
returns_2 c =
    let g = c.before.before.before.before in
    let d = g.before.before.before in
    let s = d.before.before.before in
    sized_above_long _ _ _ _ _ _ _ _ s.requires.0.0 s.requires.0.1 d.if-z-eq1.false g.long_above.ensures

pub sized_above_spec : {M : Type 1} → statement M
sized_above_spec =
    tie.close
    (tie.spec
    word_above_requires
    (λ c. search rules)
    (λ c. search rules)
    (λ c. search rules)
    returns
    long_above_requires
    (λ c. search rules)
    (λ c. search rules)
    (λ c. search rules)
    returns_2)
