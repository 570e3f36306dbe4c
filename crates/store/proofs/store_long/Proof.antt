-- store_long: a noted put above all that are noted, or two of words, one after the other.
use Rattle.std.proofs.Common.{◌+◌, ◌<◌, ltb, length, rules, ltb-true}
use Rattle.bits.proofs.BitsLaws.{and_left, and_right}
use Rattle.bus.specs.Bus.{pins}
use Rattle.touch.specs.Touch.{AllBelow}
use Rattle.touch.proofs.TouchLaws.{log_order}
use Rattle.store.proofs.StoreLaws.{stored_long, stored_above}
use Rattle.store.proofs.store_long.Statement.{statement}
use Rattle.store.proofs.store_long.Tie as tie

-- what is known where the place is inside memory and above all that are noted
module _ (c : tie.Then-p-memory) where
  abbrev s : tie.Start
  s = c.before.before.before.before

  test : (pins s.args.a + 3 < length s.args.memory.now) × AllBelow s.args.log.now s.args.n (pins s.args.a)
  test =
      let a = ltb (pins s.args.a + 3) (length s.args.memory.now) in
      let b = c.before.above in
      (ltb-true _ _ (and_left a b.result c.if-p-memory.true), b.ensures (and_right a b.result c.if-p-memory.true))

long_above_requires : tie.Need-long_above-requires
long_above_requires c κs =
    let b = c.before.before in
    ((test b).0, (s b).requires.1, (s b).requires.0, (test b).1)

returns : tie.Need-returns-then-p-memory
returns c = stored_above _ _ _ _ _ _ _ c.before.before.before.before.long_above.ensures

returns_2 : tie.Need-returns
returns_2 c =
    let g = c.before.before.before.before.before.before.before.before.before.before.before.before.store_word-m in
    let w = c.before.before.before.before.before.wrapping_add_u32 in
    let h = c.before.before.before.before.store_word in
    stored_long _ _ _ _ _ _ _ g.result w.result _ _ h.result g.ensures w.ensures h.ensures

pub store_long_spec : {M : Type 1} → statement M
store_long_spec =
    tie.close
    (tie.spec
    (λ c. search rules)
    (λ c. search rules)
    (λ c κs. search (rules, log_order))
    long_above_requires
    (λ c. search rules)
    (λ c. search rules)
    (λ c. search rules)
    returns
    (λ c κs. search rules)
    (λ c κs. search rules)
    (λ c κs. search rules)
    (λ c. search rules)
    (λ c. search rules)
    returns_2)
