-- GoingBackDropping.antt - demand 3 where the oldest records are dropped, as one theorem: `going_back_dropping`. Clause by clause; those of
-- 00 that are not named here stand as in GoingBack.antt, with machine-calls Dropping:
--   "Take any valid state, any journal mark"              any Machine x with Lent slots and memory, a journal of bytes and the mark in it
--   "state, memory and mark end exactly as", of state     KeptRecords .slots, .memory: those of taken_alone (standing ..), of all the steps not
--     and memory                                          undone, whether their records are kept or not
--   "once any are dropped"                                until then of the mark too: going_back_none_dropped. What goes first is what was
--                                                         there before the start (.oldest_first), and of that the oldest (.left-over)
--   ("speaks of at most the records kept").kept, at most as many as steps stand (.few): undo_when_kept, undo_when_none_kept
--   ("its mark the joint length of those not undone").mark_is: length (records_alone kept ..); .bytes says that they are those records
--   "and those kept from before the start"                .. and length rest, which is LeftOver of the bytes below the start's mark
-- * undo_when_kept: as long as one is kept, an undo is accepted and takes exactly the last step away, and then one fewer is kept.
-- * undo_when_none_kept: where a step stands and none is kept, an undo is refused by 7.
-- * kept_unique, rest_unique: what is kept is told by the machine, and is no choice.   * nothing_dropped: where all is kept, the mark too.
-- * refused_past_end: a mark past the journal's end, which the theorem leaves out: every call is refused.
-- Source: [00 demand 3], [K5].
use Prim.Native.Nat.{ℕ, zero, suc, ◌+◌, ◌-◌, ◌≤◌, ◌<◌}
use mathlib.Core.Path.{◌≡◌, refl, sym, ap, ◌∙◌, subst}
use mathlib.Core.Bool.{Bool, true, false}
use mathlib.Core.List.{List, [], ◌∷◌, append-nil}
use native.Mathlib.Omega.{arith}
use lib.ListN.{length, take, length-append}
use lib.Seq.{take_at, length-take-le}
use lib.Dec.{ltb}
use borrow.Author.Tests.{ltb-true, ltb-false}
use Rattle.bits.specs.Bits.{iter}
use Rattle.record.specs.Limits.{ValidBytes}
use Rattle.oldest.proofs.OctetLaws.{bytes_when_valid, bytes_of_back}
use Rattle.calls.specs.declared.Manner.{Manner}
use Rattle.calls.specs.declared.Manner.TheVariants.{Dropping}
use Rattle.calls.specs.Calls.{StepCall, UndoCall, step_with_room}
use Rattle.calls.specs.History.{Machine, Request, Call, step_of, run_of, undo_once, stepping, running_on, undoing, act, machine_calls, after}
use Rattle.calls.specs.History.{NeverAhead, standing, Seen, seen, record_after, one_more, taken_alone}
use Rattle.calls.specs.Kept.{records_alone, all_of_it, KeptRecords, EachCall, DropsNone}
use Rattle.calls.proofs.ValidLaws.{Lent}
use Rattle.calls.proofs.RefusalLaws.{step_verdict, run_verdict, undo_verdict, step_accepted}
use Rattle.calls.proofs.ActLaws.{room_at, seen_at, act_step, act_step_refused, act_run_refused, act_undo_refused}
use Rattle.calls.proofs.RunLaws.{one, dropped_in, AsSteps}
use Rattle.calls.proofs.BackLaws.{mark_after, any_calls, history_at}
use Rattle.calls.proofs.KeptLaws.{records_length, records_longer, mark_when_none_dropped}
use Rattle.calls.proofs.HoldLaws.{At, under, tall, undoing_kept, undo_kept, undoing_none, lent_here, step_kept}

-- ---- a run that drops none: none of its steps does
none_in : (n : ℕ) (x : Machine) → dropped_in Dropping n x ≡ 0 → (i : ℕ) → i < n → (stepping Dropping 0 0 (iter (one Dropping) i x)).a.dropped ≡ 0
unfolding iter
none_in zero x z i l = absurd (omega arith)
none_in (suc n) x z zero l = omega arith
none_in (suc n) x z (suc i) l = none_in n (one Dropping x) (omega arith) i (omega arith)

run_drops_none : (budget stop : ℕ) (x : Machine) → AsSteps Dropping budget stop x (running_on Dropping budget stop x).a.steps
    → DropsNone (run_of budget stop) x → (i : ℕ) → i < (running_on Dropping budget stop x).a.steps → DropsNone (step_of 0 0) (iter (one Dropping) i x)
run_drops_none budget stop x s z i l = none_in (running_on Dropping budget stop x).a.steps x (sym s.dropped ∙ z) i l

-- ---- a history from one start
module _ (x₀ : Machine) (lent : Lent x₀.slots x₀.memory) (octets : ValidBytes x₀.journal) (inside : x₀.mark ≤ length x₀.journal) where
  abbrev alone : List Request → Seen
  alone rs = taken_alone rs (seen x₀)

  -- ---- the same at any machine
  lent_at : (x : Machine) (rs : List Request) → At x₀ x rs → Lent x.slots x.memory × ValidBytes x.journal
  lent_at x rs a = rw a.is (lent_here x₀ lent octets inside a.journal a.mark rs a.holds, a.holds.lent_journal)

  step_at : (x : Machine) (rs : List Request) → At x₀ x rs → (r : Request) → (stepping Dropping r.level r.vector x).a.number ≡ 0
      → At x₀ (act Dropping (step_of r.level r.vector) x) (r ∷ rs)
  step_at x rs a r ok =
      subst (λ (y : Machine). At x₀ (act Dropping (step_of r.level r.vector) y) (r ∷ rs)) (sym a.is)
      (step_kept x₀ lent octets inside a.journal a.mark rs a.holds r (rw a.is at ok))

  module _ (x : Machine) (r : Request) (rs : List Request) (a : At x₀ x (r ∷ rs)) where
    undoing_at : (k : ℕ) (some : a.holds.kept ≡ suc k)
        → let start = length (under x₀ a.journal a.mark r rs a.holds k some) in
        undoing x ≡ record { s = (alone rs).slots; m = (alone rs).memory; a = record { number = 0; mark = start } }
    undoing_at k some = ap undoing a.is ∙ undoing_kept x₀ a.journal a.mark r rs a.holds k some

    undo_at_kept : (k : ℕ) (some : a.holds.kept ≡ suc k) → At x₀ (act Dropping undo_once x) rs
    unfolding act one_more
    undo_at_kept k some =
        record {
          journal = a.journal;
          mark = length (under x₀ a.journal a.mark r rs a.holds k some);
          is = λ i. let c = undoing_at k some i in record { board = (a.is i).board; slots = c.s; memory = c.m; journal = (a.is i).journal; mark = c.a.mark };
          holds = undo_kept x₀ a.journal a.mark r rs a.holds k some;
        }

    undoing_at_none : a.holds.kept ≡ 0 → (undoing x).a.number ≡ 7
    undoing_at_none z = ap (λ (y : Machine). (undoing y).a.number) a.is ∙ undoing_none x₀ a.journal a.mark r rs a.holds z

    undo_at : (undoing x).a.number ≡ 0 → At x₀ (act Dropping undo_once x) rs
    undo_at ok = go a.holds.kept refl
      where
        go : (k : ℕ) → a.holds.kept ≡ k → At x₀ (act Dropping undo_once x) rs
        go zero q = absurd (let z = undoing_at_none q in omega arith)
        go (suc k) q = undo_at_kept k q

  -- ---- all of a history
  at_start : At x₀ x₀ []
  at_start =
      record {
        journal = x₀.journal;
        mark = x₀.mark;
        is = refl;
        holds = record {
          valid = tt;
          kept = 0;
          rest = take x₀.mark x₀.journal;
          few = omega arith;
          oldest_first = λ l. absurd (omega arith);
          left_over = all_of_it refl;
          bytes = sym (append-nil (take x₀.mark x₀.journal));
          below = inside;
          lent_journal = octets;
        };
      }

  at_end : (cs : List Call) → NeverAhead (machine_calls Dropping) cs x₀ 0 0
      → At x₀ (after (machine_calls Dropping) cs x₀) (standing (machine_calls Dropping) cs x₀ [])
  at_end cs h =
      history_at Dropping (λ c x. Unit {0}) (At x₀) lent_at (λ x rs a r ok p. step_at x rs a r ok) (λ budget stop x s p i l. tt) undo_at
      cs x₀ [] 0 0 at_start (omega arith) h (any_calls Dropping cs x₀)

  -- ---- where no call drops a record, the mark too is that of the steps taken alone
  record Whole (x : Machine) (rs : List Request) : Type 0 where
    at : At x₀ x rs
    marks : x.mark ≡ (alone rs).mark

  step_whole : (x : Machine) (rs : List Request) → Whole x rs → (r : Request) → (stepping Dropping r.level r.vector x).a.number ≡ 0
      → (stepping Dropping r.level r.vector x).a.dropped ≡ 0 → Whole (act Dropping (step_of r.level r.vector) x) (r ∷ rs)
  unfolding step_with_room record_after
  step_whole x rs w r ok none_gone =
      let c = room_at Dropping x in
      let below : x.mark ≤ length x.journal = rw w.at.is w.at.holds.below in
      let octets_below = bytes_of_back x.journal x.mark (bytes_when_valid x.journal (lent_at x rs w.at).1) below in
      let told =
      ap (λ (o : StepCall). o.a.dropped) (step_accepted Dropping x.board x.slots x.memory r.level x.journal x.mark r.vector ok) in
      let stays = mark_when_none_dropped (length x.memory) x.journal x.mark below octets_below (sym told ∙ none_gone) in
      let same : record_after r (seen_at Dropping x) ≡ record_after r (alone rs) =
      λ i. record_after r (record { board = (w.at.is i).board; slots = (w.at.is i).slots; memory = (w.at.is i).memory; mark = c.a.mark }) in
      record {
        at = step_at x rs w.at r ok;
        marks =
            ap (λ (y : Machine). y.mark) (act_step Dropping r x ok)
            ∙ omega (arith, mark_after r (seen_at Dropping x), mark_after r (alone rs), stays, w.marks, ap length same);
      }

  undo_whole : (x : Machine) (r : Request) (rs : List Request) → Whole x (r ∷ rs) → (undoing x).a.number ≡ 0 → Whole (act Dropping undo_once x) rs
  unfolding act
  undo_whole x r rs w ok = record { at = undo_at x r rs w.at ok; marks = go w.at.holds.kept refl }
    where
      go : (k : ℕ) → w.at.holds.kept ≡ k → (undoing x).a.mark ≡ (alone rs).mark
      go zero q = absurd (let z = undoing_at_none x r rs w.at q in omega arith)
      go (suc k) q =
          let h = w.at.holds in
          let start = ap (λ (c : UndoCall). c.a.mark) (undoing_at x r rs w.at k q) in
          let end = ap (λ (y : Machine). y.mark) w.at.is in
          omega (arith, start, end, tall x₀ w.at.journal w.at.mark r rs h k q, w.marks, mark_after r (alone rs))

  -- what the invariant says of the records kept, and back
  abbrev kept_of : (x : Machine) (rs : List Request) → At x₀ x rs → KeptRecords x₀ x rs
  kept_of x rs a =
      let h = a.holds in
      let same-mark = ap (λ (y : Machine). y.mark) a.is in
      let joint = length-append h.rest (records_alone h.kept rs (seen x₀)) in
      record {
        board = ap (λ (y : Machine). y.board) a.is;
        slots = ap (λ (y : Machine). y.slots) a.is;
        memory = ap (λ (y : Machine). y.memory) a.is;
        kept = h.kept;
        rest = h.rest;
        few = h.few;
        oldest_first = h.oldest_first;
        left_over = h.left_over;
        bytes = ap (λ (y : Machine). take y.mark y.journal) a.is ∙ h.bytes;
        mark_is = omega (arith, same-mark, ap length h.bytes, joint, length-take-le a.mark a.journal h.below);
      }

  abbrev at_kept : (x : Machine) (rs : List Request) → At x₀ x rs → KeptRecords x₀ x rs → At x₀ x rs
  at_kept x rs a k =
      record {
        journal = x.journal;
        mark = x.mark;
        is = λ i. record { board = k.board i; slots = k.slots i; memory = k.memory i; journal = x.journal; mark = x.mark };
        holds = record {
          valid = a.holds.valid;
          kept = k.kept;
          rest = k.rest;
          few = k.few;
          oldest_first = k.oldest_first;
          left_over = k.left_over;
          bytes = k.bytes;
          below = rw a.is a.holds.below;
          lent_journal = rw a.is a.holds.lent_journal;
        };
      }

  -- ---- demand 3, where records are dropped
  module _ (cs : List Call) (h : NeverAhead (machine_calls Dropping) cs x₀ 0 0) where
    abbrev end : Machine
    end = after (machine_calls Dropping) cs x₀

    pub going_back_dropping : KeptRecords x₀ (after (machine_calls Dropping) cs x₀) (standing (machine_calls Dropping) cs x₀ [])
    going_back_dropping = kept_of end (standing (machine_calls Dropping) cs x₀ []) (at_end cs h)

    -- as long as no call drops a record, state, memory and mark are exactly those of the steps not undone, taken alone
    pub going_back_none_dropped : EachCall Dropping DropsNone cs x₀
        → seen (after (machine_calls Dropping) cs x₀) ≡ taken_alone (standing (machine_calls Dropping) cs x₀ []) (seen x₀)
    going_back_none_dropped none_gone =
        let w = history_at Dropping DropsNone Whole (λ x rs w. lent_at x rs w.at) step_whole run_drops_none undo_whole
        cs x₀ [] 0 0 (record { at = at_start; marks = refl }) (omega arith) h none_gone in
        λ i. record { board = (w.at.is i).board; slots = (w.at.is i).slots; memory = (w.at.is i).memory; mark = w.marks i }

    module _ (r : Request) (rs : List Request) (stands : standing (machine_calls Dropping) cs x₀ [] ≡ r ∷ rs)
        (k : KeptRecords x₀ (after (machine_calls Dropping) cs x₀) (r ∷ rs)) where
      abbrev at_stand : At x₀ end (r ∷ rs)
      at_stand = at_kept end (r ∷ rs) (subst (At x₀ end) stands (at_end cs h)) k

      -- as long as one is kept, an undo is accepted and takes exactly the last step away; then one fewer is kept, and as much from before
      pub undo_when_kept : 0 < k.kept
          → ((undoing (after (machine_calls Dropping) cs x₀)).a.number ≡ 0)
          × (l : KeptRecords x₀ (act Dropping undo_once (after (machine_calls Dropping) cs x₀)) rs)
          × (l.kept + 1 ≡ k.kept)
          × (l.rest ≡ k.rest)
      unfolding undo_at_kept
      undo_when_kept some = go (k.kept - 1) (omega arith)
        where
          go : (n : ℕ) → k.kept ≡ suc n
              → ((undoing end).a.number ≡ 0) × (l : KeptRecords x₀ (act Dropping undo_once end) rs) × (l.kept + 1 ≡ k.kept) × (l.rest ≡ k.rest)
          go n q = (
            ap (λ (c : UndoCall). c.a.number) (undoing_at end r rs at_stand n q),
            kept_of (act Dropping undo_once end) rs (undo_at_kept end r rs at_stand n q),
            (let one_fewer : n + 1 ≡ k.kept = omega arith in one_fewer),
            refl,
          )

      -- where none is kept though a step stands, an undo is refused by 7, and the machine stays as it was
      pub undo_when_none_kept : k.kept ≡ 0
          → ((undoing (after (machine_calls Dropping) cs x₀)).a.number ≡ 7)
          × (act Dropping undo_once (after (machine_calls Dropping) cs x₀) ≡ after (machine_calls Dropping) cs x₀)
      undo_when_none_kept z =
          let seven = undoing_at_none end r rs at_stand z in
          (seven, act_undo_refused Dropping end (λ e. omega arith))

-- ---- where nothing is dropped
module _ (x₀ x : Machine) (rs : List Request) where
  pub nothing_dropped : x₀.mark ≤ length x₀.journal → (k : KeptRecords x₀ x rs) → k.kept ≡ length rs → k.rest ≡ take x₀.mark x₀.journal
      → seen x ≡ taken_alone rs (seen x₀)
  nothing_dropped inside k all whole =
      let joint = ap (λ (n : ℕ). length (records_alone n rs (seen x₀))) all in
      let before = ap length whole ∙ length-take-le x₀.mark x₀.journal inside in
      let same : x.mark ≡ (taken_alone rs (seen x₀)).mark = omega (arith, k.mark_is, before, joint, records_length rs (seen x₀)) in
      λ i. record { board = k.board i; slots = k.slots i; memory = k.memory i; mark = same i }

  -- how many are kept is told by the mark: fewer would be fewer bytes
  kept_low : (k l : KeptRecords x₀ x rs) → k.kept ≤ l.kept
  kept_low k l = go (ltb l.kept k.kept) refl
    where
      go : (b : Bool) → ltb l.kept k.kept ≡ b → k.kept ≤ l.kept
      go false q = ltb-false l.kept k.kept q
      go true q =
          let less = ltb-true l.kept k.kept q in
          let gone = ap length (l.oldest_first (omega (arith, k.few))) in
          absurd (omega (arith, k.mark_is, l.mark_is, gone, records_longer l.kept k.kept rs (seen x₀) less k.few))

  pub kept_unique : (k l : KeptRecords x₀ x rs) → k.kept ≡ l.kept
  kept_unique k l = omega (arith, kept_low k l, kept_low l k)

  -- and so are the bytes from before the start
  pub rest_unique : (k l : KeptRecords x₀ x rs) → k.rest ≡ l.rest
  rest_unique k l =
      let joint = ap (λ (n : ℕ). length (records_alone n rs (seen x₀))) (kept_unique k l) in
      let long : length k.rest ≡ length l.rest = omega (arith, k.mark_is, l.mark_is, joint) in
      sym (take_at k.rest (records_alone k.kept rs (seen x₀)) (length k.rest) refl)
      ∙ ap (take (length k.rest)) (sym k.bytes ∙ l.bytes)
      ∙ take_at l.rest (records_alone l.kept rs (seen x₀)) (length k.rest) (sym long)

-- ---- a mark past the journal's end
module _ (w : Manner) (x : Machine) (past : length x.journal < x.mark) where
  act_past_end : (c : Call) → act w c x ≡ x
  act_past_end (step_of level vector) =
      act_step_refused w level vector x (λ e. ((step_verdict w x.board x.slots x.memory level x.journal x.mark vector).done.0 e).1.1.1.1.1.0 past)
  act_past_end (run_of budget stop) =
      act_run_refused w budget stop x (λ e. ((run_verdict x.board x.slots x.memory budget x.journal x.mark w stop).done.0 e).1.1.1.1.1.0 past)
  act_past_end undo_once = act_undo_refused w x (λ e. ((undo_verdict x.board x.slots x.memory x.journal x.mark).done.0 e).1.1.1.1.0 past)

  pub refused_past_end : (cs : List Call) → after (machine_calls w) cs x ≡ x
  refused_past_end [] = refl
  refused_past_end (c ∷ cs) = ap (after (machine_calls w) cs) (act_past_end c) ∙ refused_past_end cs
