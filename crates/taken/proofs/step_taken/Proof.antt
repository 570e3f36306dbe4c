use Rattle.taken.proofs.TakenLaws.{valid_lent, log_ready, log_done, record_fits, taken}
use Rattle.calls.proofs.ValidLaws.{Valid}
use borrow.Author.Rules.{rules}
use Rattle.taken.proofs.step_taken.Statement.{statement}
use Rattle.taken.proofs.step_taken.Tie as tie

-- what is known after the step of what was lent
module _ (o : tie.After-one_step-e) where
  abbrev z : tie.Start
  z = o.before.before.before.before.before.before.before.before.before.before.before.before

  valid : Valid z.args.slots.now z.args.memory.now
  valid =
      let b = o.before.before.before.before.before.before in
      let t = b.before.twenty-size.ensures in
      valid_lent _ _ t.0 t.1 b.bytes-long.ensures.1 z.requires.0 z.requires.3

one_step_requires : tie.Need-one_step-e-requires
one_step_requires c κs =
    let z = c.before.before.before.before.before.before.before.before.before.before.before in
    (log_ready _ _ z.requires.0 z.requires.2, search rules)

put_record_requires : tie.Need-put_record-next-requires
put_record_requires c κs =
    let o = c.before.before.before.before.before.before in
    let e = o.one_step-e.ensures in
    (log_done _ _ _ _ _ e.1.1.1.0, record_fits _ _ _ (z o).args.journal.now _ _ _ _ (valid o) (z o).requires.1 _ _ _ _ _ _ e)

returns : tie.Need-returns
returns c =
    let o = c.before.before.before.before.before.before.before.before.before in
    taken _ _ _ _ _ _ _ _ (valid o) (z o).requires.1 _ _ _ _ _ _ o.one_step-e.ensures _ _ c.before.before.put_record-next.ensures

pub step_taken_spec : {M : Type 1} → statement M
step_taken_spec =
    tie.close
    (tie.spec
    (λ c κs. search rules)
    (λ c κs. search rules)
    one_step_requires
    put_record_requires
    (λ c. search rules)
    (λ c. search rules)
    (λ c. search rules)
    returns)
