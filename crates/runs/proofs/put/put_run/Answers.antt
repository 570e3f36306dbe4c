-- Answers.antt - put_run: the old bytes, the first address and the length, one after the other.
use Rattle.std.proofs.Common.{◌/◌, ◌^◌, [], map, length, get_or}
use Rattle.numbers.specs.Number.{number_bytes}
use Rattle.record.specs.Change.{unpack}
use Rattle.runs.specs.Runs.{numbers_bytes}
use Rattle.runs.specs.Answers.{olds}
use Rattle.runs.proofs.PutLaws.{put_none, FourFit, all_put, run_parts}
use Rattle.runs.proofs.put.put_run.Goals as goal

pub returns : goal.returns
returns c =
    let log = c.args.log.now in
    let f = get_or log 0 0 / 2 ^ 32 in
    let parts = run_parts log f in
    let fits : FourFit c.args.out.now c.args.at [] (numbers_bytes (olds (map unpack log))) (number_bytes f) (number_bytes (length log)) =
    record { room = rw parts at c.requires.2 } in
    let x = c.put_number-q.ensures in
    let y = c.put_number.ensures in
    rw parts (all_put _ _ _ _ _ _ fits _ _ (put_none c.args.out.now c.args.at) _ _ c.put_olds-p.ensures
    _ _ (record { place = x.next; bytes = x.bytes })
    _ _ (record { place = y.next; bytes = y.bytes }))
