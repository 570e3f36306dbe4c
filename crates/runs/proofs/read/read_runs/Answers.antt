-- Answers.antt - read_runs: no run read yet, one run read, one that is none, and the end.
use Rattle.std.proofs.Common.{◌≡◌, suc, ◌+◌, ◌-◌, ap, sym, ◌∙◌, arith}
use Rattle.codes.specs.Codes.{Addresses}
use Rattle.numbers.specs.Number.{back}
use Rattle.record.specs.Limits.{byte_limit}
use Rattle.undo.proofs.ReadLaws.{between_none}
use Rattle.runs.specs.Runs.{read_runs}
use Rattle.runs.proofs.StepLaws.{runs_none, runs_next}
use Rattle.runs.proofs.read.read_runs.Goals as goal

pub loop-init : goal.loop-init
loop-init c =
    let a = c.args in
    let all_left : a.n - 0 ≡ a.n = omega arith in
    record {
      before = omega arith;
      low = omega arith;
      room = omega arith;
      rest = rw all_left (ap (read_runs a.n (suc Addresses) byte_limit (back a.journal.now a.end)) (sym (between_none a.out.now byte_limit)));
    }

pub returns-in_err-next : goal.returns-in_err-next
returns-in_err-next c =
    rw c.from_residual.ensures (c.loop.invariant.rest ∙ runs_none _ _ _ _ _ (omega arith) c.in_err-next.ensures.0)

pub loop-preserved : goal.loop-preserved
loop-preserved c =
    let q = c.loop in
    let g = c.in_ok-next.ensures in
    let one_less : c.args.n - (q.counter + 1) ≡ c.args.n - q.counter - 1 = omega arith in
    record {
      before = omega (arith, g.1, q.invariant.before);
      low = omega (arith, g.3);
      room = omega (arith, g.2, q.invariant.room);
      rest = rw one_less (q.invariant.rest ∙ runs_next _ _ _ _ _ _ _ _ _ (omega arith) g.0);
    }

pub returns : goal.returns
returns c =
    let none_left : c.args.n - c.loop.counter ≡ 0 = omega arith in
    (rw none_left at c.loop.invariant.rest, c.loop.invariant.before, c.loop.invariant.room)
