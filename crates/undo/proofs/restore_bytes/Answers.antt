-- Answers.antt - restore_bytes: restore, for what is its own number.
use Rattle.std.proofs.Common.{ℕ, sym, ap, ◌∙◌, rules}
use Rattle.std.proofs.lemmas.List.{map-id}
use Rattle.record.specs.Change.{restore, changes}
use Rattle.undo.proofs.JudgeLaws.{low_byte}
use Rattle.undo.proofs.restore_bytes.Goals as goal

pub returns : goal.returns
returns c =
    let pre = c.requires in
    let put = c.restore.ensures (λ (x : ℕ). x) (λ i x low q. low_byte _ _ i pre.0 pre.2 low x (search rules)) in
    sym (map-id c.restore.new.held) ∙ put ∙ ap (restore (changes c.args.log.now c.args.n)) (map-id c.args.memory.now)
