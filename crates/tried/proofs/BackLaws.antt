-- BackLaws.antt - a row of accepted steps that keeps all records is taken back by as many undos, each accepted, over the journal that it left.
-- row_journal: such a row leaves the journal below its first mark, and its length; back_one: one undo; back_row: all of them.
-- Uses: numbers, undo, calls, tries, fence.  Source: [K7], [01 The journal].
use Prim.Native.Nat.{ℕ, suc, ◌+◌, ◌≤◌}
use native.Mathlib.Omega.{arith}
use mathlib.Core.Path.{◌≡◌, refl, sym, ap, ◌∙◌, subst}
use mathlib.Core.List.{List, [], ◌∷◌, ◌++◌, reverse}
use lib.ListN.{length}
use Rattle.bus.specs.declared.Window.{Window}
use Rattle.bus.specs.Bus.{Board}
use Rattle.numbers.specs.Number.{back, written}
use Rattle.numbers.proofs.WrittenLaws.{back_written, length_written}
use Rattle.undo.proofs.UndoLaws.{back_below}
use Rattle.calls.specs.declared.Manner.TheVariants.{Keeping}
use Rattle.calls.specs.Calls.{undo_call}
use Rattle.calls.specs.History.{Machine, Request, seen, record_after, one_more}
use Rattle.calls.proofs.ActLaws.{machine_at, act_step, step_valid, step_board, step_room}
use Rattle.calls.proofs.BackLaws.{mark_after, undoing_to}
use Rattle.tries.specs.Tries.{BackCall, backing}
use Rattle.fence.specs.Rows.{Fit, answer_to, next, after_row}
use Rattle.fence.proofs.FenceLaws.{fit_next}
use Rattle.tried.specs.Tried.{AllAccepted}

-- ---- one accepted step
module _ (q : Request) (x : Machine) (f : Fit x) (h : (answer_to Keeping q x).number ≡ 0) where
  abbrev b : List ℕ
  b = record_after q (seen x)

  abbrev taken : Machine
  taken = machine_at (one_more q (seen x)) (written x.journal x.mark b)

  taken_is : next Keeping q x ≡ taken
  taken_is = act_step Keeping q x h

  roomy : x.mark + length b ≤ length x.journal
  roomy = step_room Keeping q x f tt h

-- ---- a row of them
-- the journal below the first mark, and its length
pub record Stays (x z : Machine) : Type 0 where
  pub long : length z.journal ≡ length x.journal
  pub below : (e : ℕ) → e ≤ x.mark → back z.journal e ≡ back x.journal e

stays_one : (q : Request) (x : Machine) (f : Fit x) (h : (answer_to Keeping q x).number ≡ 0) → Stays x (taken q x f h)
stays_one q x f h =
    record {
      long = length_written x.journal x.mark (b q x f h) (roomy q x f h);
      below = λ e l. back_below x.journal x.mark (b q x f h) e l (omega (arith, roomy q x f h));
    }

row_journal : (qs : List Request) (x : Machine) → Fit x → AllAccepted qs x → Stays x (after_row Keeping qs x)
row_journal [] x f h = record { long = refl; below = λ e l. refl }
row_journal (q ∷ qs) x f h =
    let y = next Keeping q x in
    let a = subst (Stays x) (sym (taken_is q x f h.0)) (stays_one q x f h.0) in
    let r = row_journal qs y (fit_next Keeping q x f) h.1 in
    let g : y.mark ≡ x.mark + length (b q x f h.0) = ap (λ (z : Machine). z.mark) (taken_is q x f h.0) ∙ mark_after q (seen x) in
    record {
      long = r.long ∙ a.long;
      below = λ e l. r.below e (omega (arith, l, g)) ∙ a.below e l;
    }

-- what is left of taking back, over a journal
abbrev pub backing_on : Window → ℕ → ℕ → List ℕ → Machine → BackCall
backing_on old k n j x = backing x.board old k n x.slots x.memory j x.mark

module _ (old : Window) where
  back_turn : (board : Board) (r n : ℕ) (s m j : List ℕ) (mark : ℕ) (t k : List ℕ) (start : ℕ)
      → undo_call board s m j mark ≡ record { s = t; m = k; a = record { number = 0; mark = start } }
      → backing board old (suc r) n s m j mark ≡ backing board old r (n + 1) t k j start
  unfolding backing
  back_turn board r n s m j mark t k start e = rw e

  -- one undo, over any journal that has the same below the mark
  back_one : (q : Request) (x : Machine) (f : Fit x) (h : (answer_to Keeping q x).number ≡ 0) (z : Machine) → Stays (taken q x f h) z
      → (r n : ℕ) → backing_on old (suc r) n z.journal (taken q x f h) ≡ backing_on old r (n + 1) z.journal x
  unfolding one_more
  back_one q x f h z s r n =
      let j = z.journal in
      let y = taken q x f h in
      let bs = b q x f h in
      let room = roomy q x f h in
      let long = length_written x.journal x.mark bs room in
      let last : back j y.mark ≡ reverse bs ++ back j x.mark =
      s.below y.mark (omega arith) ∙ back_written x.journal x.mark bs room
      ∙ ap (λ (l : List ℕ). reverse bs ++ l)
      (sym (s.below x.mark (omega arith) ∙ back_below x.journal x.mark bs x.mark (omega arith) (omega (arith, room)))) in
      back_turn x.board r n y.slots y.memory j y.mark x.slots x.memory x.mark
      (undoing_to q (seen x) (step_valid Keeping q.level q.vector x f h) (step_board Keeping q.level q.vector x h) j
      (omega (arith, s.long, long, room)) last)

  pub back_row : (qs : List Request) (x : Machine) → Fit x → AllAccepted qs x → (r n : ℕ)
      → backing_on old (length qs + r) n (after_row Keeping qs x).journal (after_row Keeping qs x)
      ≡ backing_on old r (n + length qs) (after_row Keeping qs x).journal x
  back_row [] x f h r n =
      let p : 0 + r ≡ r = omega arith in
      let q : n ≡ n + 0 = omega arith in
      ap (λ (k : ℕ). backing_on old k n x.journal x) p ∙ ap (λ (k : ℕ). backing_on old r k x.journal x) q
  back_row (q ∷ qs) x f h r n =
      let y = next Keeping q x in
      let z = after_row Keeping qs y in
      let g = taken_is q x f h.0 in
      let s = row_journal qs y (fit_next Keeping q x f) h.1 in
      let p : suc (length qs) + r ≡ length qs + suc r = omega arith in
      let u : n + length qs + 1 ≡ n + suc (length qs) = omega arith in
      ap (λ (k : ℕ). backing_on old k n z.journal z) p
      ∙ back_row qs y (fit_next Keeping q x f) h.1 (suc r) n
      ∙ ap (λ (y : Machine). backing_on old (suc r) (n + length qs) z.journal y) g
      ∙ back_one q x f h.0 z (subst (λ (y : Machine). Stays y z) g s) r (n + length qs)
      ∙ ap (λ (k : ℕ). backing_on old r k z.journal x) u
