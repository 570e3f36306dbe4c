-- store_byte: inside memory a noted write, outside nothing.
use Rattle.store.proofs.StoreLaws.{stored_outside}
use Rattle.std.proofs.Common.{rules}
use Rattle.store.proofs.store_byte.Statement.{statement}
use Rattle.store.proofs.store_byte.Tie as tie

returns_2 : tie.Need-returns
returns_2 c =
    let s = c.before.before.before in
    stored_outside s.args.memory.now s.args.log.now s.args.n s.args.a s.args.v s.requires.0 c.if-p-memory.false

pub store_byte_spec : {M : Type 1} → statement M
store_byte_spec =
    tie.close
    (tie.spec
    (λ c. search rules)
    (λ c. search rules)
    (λ c κs. search rules)
    (λ c. search rules)
    (λ c. search rules)
    (λ c. search rules)
    returns_2)
