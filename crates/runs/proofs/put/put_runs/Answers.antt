-- Answers.antt - put_runs: no run written yet, and one run written.
use Rattle.std.proofs.Common.{◌≡◌, ◌-◌, ◌/◌, ◌^◌, ◌∷◌, ap, ◌∙◌, arith, rules, length, get_or, map, take, drop, length-append, length-take}
use Rattle.std.proofs.lemmas.List.Sorted.{answers_always}
use Rattle.std.proofs.lemmas.Slice.{between_is}
use Rattle.std.specs.Slice.Iter.{chunk_by_rest}
use Rattle.record.specs.Change.{unpack, between}
use Rattle.runs.specs.Runs.{runs, runs_bytes}
use Rattle.runs.specs.Answers.{olds, follows}
use Rattle.runs.proofs.PutLaws.{left_start, left_room, left_put, run_of_prefix}
use Rattle.runs.proofs.put.put_runs.Goals as goal
use Rattle.runs.proofs.put.put_runs.Goals.{In-Some}

-- the entries that are left begin with the run that is written
first : (c : In-Some) → let run = c.in-Some.run'.now in
    runs (map unpack (chunk_by_rest c.loop-run.run-iterator))
    ≡ record { first = get_or run 0 0 / 2 ^ 32; olds = olds (map unpack run) } ∷ runs (map unpack (chunk_by_rest c.next.new.self))
first c =
    let s = c.in-Some.ensures.steps in
    run_of_prefix _ _ _ s.0 s.1 (s.2 follows (answers_always _ _ _ (λ f a r f' k. search rules))).1

pub loop-run-init : goal.loop-run-init
loop-run-init c =
    let log = c.args.log.now in
    let part : chunk_by_rest c.into_iter-run-iterator.result ≡ take (c.args.n - c.args.i) (drop c.args.i log) =
    ap chunk_by_rest c.into_iter-run-iterator.ensures.into_iter_gives ∙ c.chunk_by-run-items.ensures.rest in
    let all : map unpack (chunk_by_rest c.into_iter-run-iterator.result) ≡ between c.args.i c.args.n log =
    ap (map unpack) (part ∙ between_is log c.args.i c.args.n) in
    record {
      few = omega (arith, ap length part, length-take (c.args.n - c.args.i) (drop c.args.i log), c.requires.2);
      left = left_start _ _ _ _ (ap (λ cs. runs_bytes (runs cs)) all);
      counted = omega (arith, ap (λ cs. length (runs cs)) all);
    }

pub put_run-p-requires : goal.put_run-p-requires
put_run-p-requires c =
    let s = c.in-Some.ensures.steps in
    let one = first (goal.at.put_run-p-requires c).In-Some in (
      s.1,
      omega (arith, ap length s.0, length-append c.in-Some.run'.now (chunk_by_rest c.next.new.self), c.loop-run.invariant.few),
      left_room _ _ _ c.requires.3 _ _ _ _ _ (ap runs_bytes one) c.loop-run.invariant.left,
    )

pub loop-run-preserved : goal.loop-run-preserved
loop-run-preserved c =
    let s = c.in-Some.ensures.steps in
    let q = c.loop-run.invariant in
    let one = first (goal.at.loop-run-preserved c).In-Some in
    record {
      few = omega (arith, ap length s.0, length-append c.in-Some.run'.now (chunk_by_rest c.next.new.self), q.few);
      left = left_put _ _ _ c.requires.3 _ _ _ _ _ (ap runs_bytes one) q.left _ _ c.put_run-p.ensures;
      counted = omega (arith, q.counted, ap length one);
    }
