use borrow.Author.Tests.{ltb-true}
use Rattle.full.proofs.MadeLaws.{made_there, made_short}
use borrow.Author.Rules.{rules}
use Rattle.full.proofs.room_known.Statement.{statement}
use Rattle.full.proofs.room_known.Tie as tie

room_held_requires : tie.Need-room_held-r-requires
room_held_requires c κs =
    let d = c.before.before in
    let z = d.before.before.before.before in
    let p = z.requires.0 in
    let q = z.requires.1 in
    ((p.0, p.4.low, p.1, p.2, p.3), ((ltb-true _ _ d.if-short.true-raw, q.0), (q.1, q.2, q.3, q.4)))

made : tie.Need-returns-then-short
made c =
    let o = c.before.before.before.before in
    let d = o.before.before.before in
    let z = d.before.before.before.before in
    let p = z.requires.0 in
    let q = z.requires.1 in
    made_short _ _ _ _ _ _ _ _ _ p.0 p.1 p.4 q.4 q.0 d.if-short.true-raw _ _ _ o.room_held-r.ensures

as_it_is : tie.Need-returns
as_it_is c =
    let z = c.before.before.before.before in
    let p = z.requires.0 in
    made_there _ _ _ _ _ _ _ _ _ p.0 p.1 p.4 z.requires.1.4 c.if-short.false-raw

pub room_known_spec : {M : Type 1} → statement M
room_known_spec =
    tie.close (tie.spec (λ c. search rules) room_held_requires (λ c. search rules) (λ c. search rules) made as_it_is)
