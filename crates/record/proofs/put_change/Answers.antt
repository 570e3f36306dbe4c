-- One number after the other.
use Rattle.record.proofs.ChangeLaws.{wrote_both}
use Rattle.record.proofs.put_change.Goals as goal

pub returns-clause-bytes : goal.returns-clause-bytes
returns-clause-bytes c =
    let g = c.put_place-p.ensures in
    let h = c.put_byte.ensures in
    (wrote_both _ _ _ _ c.requires.1 _ _ g.next g.bytes _ _ h.next h.bytes).1
