-- BlockTriedLaws.antt - K7's third theorem for a C program.
-- * ibz_all_taken_back: after any ibz_try, ibz_take_back leaves block, memory and mark, byte for byte, and gives the old window.
-- Source: [K1], [K7].
use Prim.Native.Nat.{ℕ, ◌*◌}
use mathlib.Core.Path.{◌≡◌, sym, ap, ◌∙◌}
use mathlib.Core.List.{List}
use lib.ListN.{length}
use Rattle.record.specs.Limits.{slot_limit}
use Rattle.bus.specs.declared.Window.{Window}
use Rattle.tries.specs.declared.TryAnswer.{TryAnswer}
use Rattle.tries.specs.declared.BackAnswer.{BackAnswer}
use Rattle.tries.specs.Tries.{TryCall, BackCall, back_call}
use Rattle.calls.specs.History.{Machine}
use Rattle.fence.specs.Rows.{Fit}
use Rattle.tried.specs.Tried.{plains, try_on, taken_back}
use Rattle.tried.proofs.CourseLaws.{row_fit}
use Rattle.tried.proofs.TriedLaws.{try_is_its_steps, take_back}
use Rattle.block.specs.Block.{block_length, slots_in, block_of}
use Rattle.block.proofs.BlockLaws.{length_of_block, slots_in_block, block_of_slots_in}
use Rattle.block_calls.specs.Calls.{OnBlock}
use Rattle.block_calls.specs.History.{Box, machine_in}
use Rattle.block_calls.specs.Tries.{try_refusal, back_refusal, ibz_try, ibz_back}
use Rattle.block_calls.proofs.CallLaws.{on_block_held}
use Rattle.block_calls.proofs.GoingBack.{Lends, lent_in, held}
use Rattle.block_tried.specs.BlockTried.{ibz_trying, ibz_backing, ibz_taken_back}

module _ (old : Window) (count : ℕ) (x : Box) (l : Lends x) where
  abbrev y : Machine
  y = machine_in x

  abbrev c : TryCall
  c = try_on count y

  fit : Fit y
  fit = lent_in x l

  tried_held : ibz_trying count x ≡ held c.s c.m c.j c.a
  unfolding ibz_try
  tried_held = on_block_held x.block x.memory x.journal (try_refusal x.mark) _ _ _ _ l.fits

  -- a try leaves twenty slots
  twenty : length c.s ≡ slot_limit
  twenty = ap (λ (z : Machine). length z.slots) (try_is_its_steps count y).machine ∙ (row_fit (plains c.a.steps) y fit).slots

  fits_again : length (block_of c.s) ≡ block_length
  fits_again = length_of_block c.s ∙ ap (λ (n : ℕ). 4 * n) twenty

  abbrev backed : List ℕ → BackCall
  backed s = back_call x.board old s c.m c.j c.a.mark c.a.steps

  back_is : backed (slots_in (block_of c.s)) ≡ taken_back old count y
  back_is = ap backed (slots_in_block c.s twenty) ∙ take_back old count y fit

  back_held : ibz_back (block_of c.s) x.board c.m c.j c.a.mark c.a.steps old
      ≡ (let d = backed (slots_in (block_of c.s)) in held d.s d.m c.j d.a)
  unfolding ibz_back
  back_held = on_block_held (block_of c.s) c.m c.j (back_refusal x.board.window c.a.mark) _ _ _ _ fits_again

  same_block : block_of (slots_in x.block) ≡ x.block
  same_block = block_of_slots_in x.block l.fits l.block_bytes

  pub ibz_all_taken_back : ibz_backing old count x ≡ ibz_taken_back old count x
  ibz_all_taken_back =
      ap (λ (t : OnBlock TryAnswer). ibz_back t.b x.board t.m t.j t.a.mark t.a.steps old) tried_held
      ∙ back_held
      ∙ ap (λ (d : BackCall). held d.s d.m c.j d.a) back_is
      ∙ ap (λ (b : List ℕ). ended b c.j c.a.steps) same_block
      ∙ ap (λ (t : OnBlock TryAnswer). ended x.block t.j t.a.steps) (sym tried_held)
    where
      ended : List ℕ → List ℕ → ℕ → OnBlock BackAnswer
      ended b j n = record { b = b; m = x.memory; j = j; a = record { number = 0; undone = n; mark = x.mark; lo = old.lo; hi = old.hi } }
