-- store_word: two noted puts, one after the other.
use Rattle.store.proofs.StoreLaws.{stored_word}
use Rattle.std.proofs.Common.{rules}
use Rattle.store.proofs.store_word.Statement.{statement}
use Rattle.store.proofs.store_word.Tie as tie

returns : tie.Need-returns
returns c =
    let g = c.before.before.before.before.before.before.before.before.before.before.before.before.store_byte-m in
    let w = c.before.before.before.before.before.wrapping_add_u32 in
    let h = c.before.before.before.before.store_byte in
    stored_word _ _ _ _ _ _ _ g.result w.result _ _ h.result g.ensures w.ensures h.ensures

pub store_word_spec : {M : Type 1} → statement M
store_word_spec =
    tie.close
    (tie.spec
    (λ c κs. search rules)
    (λ c κs. search rules)
    (λ c κs. search rules)
    (λ c. search rules)
    (λ c. search rules)
    returns)
