-- store_sized: by size; a law for each return.
use Rattle.std.proofs.Common.{ℕ, rules}
use Rattle.store.proofs.StoreLaws.{size_byte, size_word, size_long, stored_sized_byte, stored_sized_word, stored_sized_long}
use Rattle.store.proofs.store_sized.Statement.{statement}
use Rattle.store.proofs.store_sized.Tie as tie

store_byte_requires : tie.Need-store_byte-requires
store_byte_requires c κs =
    let d = c.before.before in
    let s = d.before.before.before in
    (s.requires.0, rw (size_byte {A = ℕ} s.args.z 1 2 4 d.if-z-eq0.true) at s.requires.1)

returns : tie.Need-returns-then-z-eq0
returns c =
    let g = c.before.before.before.before in
    stored_sized_byte _ _ _ _ _ _ _ _ _ g.before.before.before.if-z-eq0.true g.store_byte.ensures

store_word_requires : tie.Need-store_word-requires
store_word_requires c κs =
    let d = c.before.before in
    let s = d.before.before.before.before in
    (s.requires.0, rw (size_word {A = ℕ} s.args.z 1 2 4 d.before.if-z-eq0.false d.if-z-eq1.true) at s.requires.1)

returns_2 : tie.Need-returns-then-z-eq1
returns_2 c =
    let g = c.before.before.before.before in
    let d = g.before.before.before in
    stored_sized_word _ _ _ _ _ _ _ _ _ d.before.if-z-eq0.false d.if-z-eq1.true g.store_word.ensures

store_long_requires : tie.Need-store_long-requires
store_long_requires c κs =
    let d = c.before.before in
    let s = d.before.before.before.before in
    (s.requires.0, rw (size_long {A = ℕ} s.args.z 1 2 4 d.before.if-z-eq0.false d.if-z-eq1.false) at s.requires.1)

returns_3 : tie.Need-returns
returns_3 c =
    let g = c.before.before.before.before in
    let d = g.before.before.before in
    stored_sized_long _ _ _ _ _ _ _ _ _ d.before.if-z-eq0.false d.if-z-eq1.false g.store_long.ensures

pub store_sized_spec : {M : Type 1} → statement M
store_sized_spec =
    tie.close
    (tie.spec
    store_byte_requires
    (λ c. search rules)
    (λ c. search rules)
    returns
    store_word_requires
    (λ c. search rules)
    (λ c. search rules)
    returns_2
    store_long_requires
    (λ c. search rules)
    (λ c. search rules)
    returns_3)
