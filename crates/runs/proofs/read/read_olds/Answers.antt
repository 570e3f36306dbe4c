-- Answers.antt - read_olds: one old byte read.
use Rattle.std.proofs.Common.{◌+◌, ◌-◌, ap, sym, ◌∙◌, arith}
use Rattle.numbers.specs.Number.{back}
use Rattle.record.specs.Limits.{byte_limit}
use Rattle.runs.specs.Runs.{read_olds}
use Rattle.runs.proofs.StepLaws.{old_read, filled_at}
use Rattle.runs.proofs.read.read_olds.Goals as goal

pub loop-k-preserved : goal.loop-k-preserved
loop-k-preserved c =
    let q = c.loop-k in
    let o = c.in_ok-old in
    let g = o.ensures in
    let a = c.args.first in
    let more = c.loop-k-test.true in
    let new = filled_at q.out c.args.at q.k byte_limit (a + (q.k - 1)) o.old more (omega arith) (omega arith) g.2 in
    record {
      before = omega (arith, g.1);
      rest =
          q.invariant.rest
          ∙ old_read q.k a _ _ more o.old _ g.0 c.if-old-ge256.false
          ∙ ap (read_olds (q.k - 1) a (back c.args.journal.now o.s)) (sym new);
    }
