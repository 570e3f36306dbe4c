-- GoingBackDropping.antt - demand 3 for a C program whose calls drop the oldest records. What the program sees, clause by clause:
--   block, window, memory, journal and mark, kept between calls   x : Box, with LendsAll x: as Lends, bytes in the journal too, and the mark in it
--   any calls of ibz_step, ibz_run and ibz_undo in any order,
--     each given what the last left and returned                  cs : List Call, and after (ibz-calls Dropping) cs x
--   never more steps undone than accepted, by the answers         NeverAhead (ibz-calls Dropping) cs x 0 0
--   the bytes of block and memory end exactly as the steps not
--     undone, taken alone from the start by the definition        block and memory of IbzKept, at standing (ibz-calls Dropping) cs x []
--   once any are dropped, at most the records kept, the mark the
--     joint length of those not undone and those from before      kept of IbzKept: KeptRecords of the crate calls, of the machine in the box
-- * ibz_going_back_dropping: the theorem.
-- * ibz_undo_when_kept: while a step's record is kept, an undo is accepted and takes exactly the last step away; ibz_undo_when_none_kept: else 7.
-- Source: [K1], [K5], [00 demand 3].
use Prim.Native.Nat.{◌+◌, ◌≤◌, ◌<◌}
use mathlib.Core.Path.{◌≡◌, refl, sym, ap, subst, ◌∙◌}
use mathlib.Core.List.{List, [], ◌∷◌}
use native.Mathlib.Omega.{arith}
use lib.ListN.{length}
use Rattle.record.specs.Limits.{ValidBytes}
use Rattle.calls.specs.declared.Manner.TheVariants.{Dropping}
use Rattle.calls.specs.History.{Machine, Request, Call, undo_once, act, machine_calls, after, NeverAhead, standing, seen, taken_alone}
use Rattle.calls.specs.Kept.{KeptRecords}
use Rattle.calls.proofs.HistoryLaws.{good_along}
use Rattle.calls.proofs.GoingBackDropping.{going_back_dropping, undo_when_kept, undo_when_none_kept}
use Rattle.block.specs.Block.{slots_in, block_of}
use Rattle.block_calls.specs.History.{Box, ibz_undoing, ibz_act, ibz_calls, ibz_seen, machine_in, in_block}
use Rattle.block_calls.proofs.GoingBack.{Lends, Fits, held_as_machine, carried, carried_one, same_standing, same_ahead, settled_along, settled_after, settled_start, lent_in}
use Rattle.block_calls.proofs.GoingBack.{seen_after, undone_after, undo_number_after}

-- what a C program lends to calls that read the journal back
pub record LendsAll (x : Box) : Type 0 where
  pub lends : Lends x
  pub journal_bytes : ValidBytes x.journal
  pub inside : x.mark ≤ length x.journal

-- the box z after calls from the box x, where the steps rs stand: block and memory byte for byte, and the records that are kept
pub record IbzKept (x z : Box) (rs : List Request) : Type 0 where
  pub block : z.block ≡ block_of (taken_alone rs (seen (machine_in x))).slots
  pub memory : z.memory ≡ (taken_alone rs (seen (machine_in x))).memory
  pub kept : KeptRecords (machine_in x) (machine_in z) rs

-- a box whose block is that of the slots it holds
abbrev kept_in_block : (x z : Box) (rs : List Request) → block_of (slots_in z.block) ≡ z.block → KeptRecords (machine_in x) (machine_in z) rs → IbzKept x z rs
kept_in_block x z rs settled k = record { block = sym settled ∙ ap block_of k.slots; memory = k.memory; kept = k }

-- the same machine keeps the same
kept_along : (a y q : Machine) (rs : List Request) → y ≡ q → (k : KeptRecords a y rs) → (i : KeptRecords a q rs) × (i.kept ≡ k.kept)
kept_along a y q rs p k = subst (λ (q : Machine). (i : KeptRecords a q rs) × (i.kept ≡ k.kept)) p (k, refl)

module _ (x : Box) (l : LendsAll x) (cs : List Call) (h : NeverAhead (ibz_calls Dropping) cs x 0 0) where
  abbrev z : Box
  z = after (ibz_calls Dropping) cs x

  fits : Fits x
  fits = l.lends.fits

  fits_then : Fits z
  fits_then = good_along (ibz_calls Dropping) (machine_calls Dropping) machine_in Fits (held_as_machine Dropping) cs x fits

  ahead : NeverAhead (machine_calls Dropping) cs (machine_in x) 0 0
  ahead = same_ahead Dropping cs x fits h

  -- the machine's records, of the machine in the box
  carried_kept : KeptRecords (machine_in x) (machine_in z) (standing (ibz_calls Dropping) cs x [])
  carried_kept =
      let k = going_back_dropping (machine_in x) (lent_in x l.lends) l.journal_bytes l.inside cs ahead in
      subst (λ (rs : List Request). KeptRecords (machine_in x) (machine_in z) rs) (sym (same_standing Dropping cs x fits))
      (subst (λ (y : Machine). KeptRecords (machine_in x) y (standing (machine_calls Dropping) cs (machine_in x) [])) (sym (carried Dropping cs x fits)) k)

  pub ibz_going_back_dropping : IbzKept x z (standing (ibz_calls Dropping) cs x [])
  ibz_going_back_dropping = kept_in_block x z (standing (ibz_calls Dropping) cs x []) (settled_along Dropping cs x fits (settled_start x l.lends)) carried_kept

  -- ---- an undo then
  module _ (r : Request) (rs : List Request) (e : standing (ibz_calls Dropping) cs x [] ≡ r ∷ rs) (k : KeptRecords (machine_in x) (machine_in z) (r ∷ rs)) where
    stands : standing (machine_calls Dropping) cs (machine_in x) [] ≡ r ∷ rs
    stands = sym (same_standing Dropping cs x fits) ∙ e

    machine_then : machine_in z ≡ after (machine_calls Dropping) cs (machine_in x)
    machine_then = carried Dropping cs x fits

    -- the machine in the box after the undo
    undone_then : machine_in (ibz_act Dropping undo_once z) ≡ act Dropping undo_once (after (machine_calls Dropping) cs (machine_in x))
    undone_then = carried_one Dropping z fits_then undo_once ∙ ap (act Dropping undo_once) machine_then

    -- an undo is accepted and takes exactly the last step away; one record fewer is kept
    pub ibz_undo_when_kept : 0 < k.kept
        → ((ibz_undoing z).a.number ≡ 0) × (i : IbzKept x (ibz_act Dropping undo_once z) rs) × (i.kept.kept + 1 ≡ k.kept)
    ibz_undo_when_kept some =
        let w = kept_along (machine_in x) (machine_in z) (after (machine_calls Dropping) cs (machine_in x)) (r ∷ rs) machine_then k in
        let u = undo_when_kept (machine_in x) (lent_in x l.lends) l.journal_bytes l.inside cs ahead r rs stands w.0 (omega (arith, w.1)) in
        let v = kept_along (machine_in x) (act Dropping undo_once (after (machine_calls Dropping) cs (machine_in x))) (machine_in (ibz_act Dropping undo_once z)) rs (sym undone_then) u.1 in
        let i = kept_in_block x (ibz_act Dropping undo_once z) rs (settled_after Dropping z fits_then undo_once) v.0 in
        let fewer : v.0.kept + 1 ≡ k.kept = omega (arith, v.1, u.2, w.1) in
        (undo_number_after x l.lends Dropping cs ∙ u.0, i, fewer)

    -- where none is kept it is refused with 7, and block, memory and mark stay
    pub ibz_undo_when_none_kept : k.kept ≡ 0 → ((ibz_undoing z).a.number ≡ 7) × (ibz_seen (ibz_act Dropping undo_once z) ≡ ibz_seen z)
    ibz_undo_when_none_kept none_kept =
        let w = kept_along (machine_in x) (machine_in z) (after (machine_calls Dropping) cs (machine_in x)) (r ∷ rs) machine_then k in
        let u = undo_when_none_kept (machine_in x) (lent_in x l.lends) l.journal_bytes l.inside cs ahead r rs stands w.0 (w.1 ∙ none_kept) in (
          undo_number_after x l.lends Dropping cs ∙ u.0,
          undone_after x l.lends Dropping cs ∙ ap (λ (y : Machine). in_block (seen y)) u.1 ∙ sym (seen_after x l.lends Dropping cs),
        )
