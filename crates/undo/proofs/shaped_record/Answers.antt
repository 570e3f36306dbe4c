-- Answers.antt - shaped_record: what was read, then the two tests; a law for each return.
use Rattle.std.proofs.Common.{sym}
use Rattle.undo.proofs.JudgeLaws.{shaped_none, shaped_slots, shaped_bytes, shaped_found}
use Rattle.undo.proofs.shaped_record.Goals.{then-not-all_valid-via-then-not-all_valid, then-not-all_valid-via-else-not-all_valid+then-not-all_valid-2}
use Rattle.undo.proofs.shaped_record.Goals as goal

pub returns-in_err-last : goal.returns-in_err-last
returns-in_err-last c = rw c.from_residual.ensures (shaped_none _ _ c.in_err-last.ensures)

pub returns-then-not-all_valid : goal.returns-then-not-all_valid
returns-then-not-all_valid c =
    let read = c.in_ok-last.ensures.0 in
    elim c.then-not-all_valid.branch [
      | then-not-all_valid-via-then-not-all_valid w ↦ shaped_slots _ _ _ _ _ read (sym w.if-not-all_valid.ensures)
      | then-not-all_valid-via-else-not-all_valid+then-not-all_valid-2 w ↦ shaped_bytes _ _ _ _ _ read (sym w.if-not-all_valid.ensures) (sym w.if-not-all_valid-2.ensures)
    ]

pub returns : goal.returns
returns c =
    let t = c.in_ok-last.ensures in
    (shaped_found _ _ _ _ _ t.0 (sym c.if-not-all_valid.ensures) (sym c.if-not-all_valid-2.ensures), t.1, t.2, t.3, t.4, t.5)
