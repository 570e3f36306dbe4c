use mathlib.Core.Path.{refl}
use native.Mathlib.Omega.{arith}
use Rattle.full.proofs.FullLaws.{full_torn}
use Rattle.held.proofs.KeepLaws.{known_when_noted}
use borrow.Author.Rules.{rules}
use Rattle.full.proofs.running_full.Statement.{statement}
use Rattle.full.proofs.running_full.Tie as tie

note_posts_requires : tie.Need-note_posts-whole-requires
note_posts_requires c κs = let z = c.before.before.before.before.before in (z.requires.0.1, omega arith, omega arith)

running_known_requires : tie.Need-running_known-requires
running_known_requires c κs =
    let t = c.before.before.before.before.before.before in
    let d = t.before in
    let z = c.before.before.before.before.before.before.before.before.before.before.before.before.before.before.before in
    let p = z.requires.0 in
    let q = z.requires.1.0 in
    let k = z.requires.1.1 in
    (p, ((q.0, omega (arith, k.0), q.1), (t.turnable-h.ensures, omega arith, omega arith, omega arith, known_when_noted _ _ _ _ _ _ d.before.before.note_posts-whole.ensures d.if-whole.true)))

torn : tie.Need-returns
torn c =
    let z = c.before.before.before.before.before.before.before.before in
    let k = z.requires.1.1 in
    full_torn _ _ _ _ _ c.before.before.note_posts-whole.ensures c.if-whole.false _ _ _ _ _ _ _ refl k.0 k.1 k.2 z.requires.0.4 k.3

pub running_full_spec : {M : Type 1} → statement M
running_full_spec =
    tie.close
    (tie.spec
    (λ c. search rules)
    (λ c. search rules)
    note_posts_requires
    (λ c κs. search rules)
    (λ c. search rules)
    (λ c. search rules)
    running_known_requires
    (λ c. search rules)
    (λ c. search rules)
    (λ c. search rules)
    (λ c. search rules)
    (λ c. search rules)
    torn)
