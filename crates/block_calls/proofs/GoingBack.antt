-- GoingBack.antt - demand 3 for a C program that keeps all records. What the program sees, clause by clause:
--   block, window, memory, journal and mark, kept between calls   x : Box, with Lends x: a block of 80 bytes, bytes in block and memory
--   any calls of ibz_step_keeping, ibz_run_keeping and ibz_undo
--     in any order, each given what the last left and returned    cs : List Call, and after (ibz-calls Keeping) cs x
--   never more steps undone than accepted, by the answers         NeverAhead (ibz-calls Keeping) cs x 0 0
--   the bytes of block and memory, and the mark, end exactly as   ibz_seen (after (ibz-calls Keeping) cs x) ≡
--   the steps not undone, with their requests                     standing (ibz-calls Keeping) cs x [], the last first
--   taken alone from the start by the definition of a step        in_block (taken_alone .. (seen (machine_in x)))
-- * carried: any list of calls from C on a block, of either manner, is the list of the machine's calls on the slots that it holds.
-- * ibz_going_back: the theorem. ibz_all_undone: where no step stands, block, memory and mark are those of the start, byte for byte.
-- * ibz_undo_when_standing: where a step stands, an undo is accepted and takes exactly the last one away.
-- Source: [K1], [K5], [00 demand 3].
use Prim.Native.Nat.{ℕ, ◌*◌}
use mathlib.Core.Path.{◌≡◌, refl, sym, ap, ◌∙◌}
use mathlib.Core.List.{List, [], ◌∷◌}
use lib.ListN.{length}
use Rattle.record.specs.Limits.{slot_limit, ValidBytes}
use Rattle.calls.specs.declared.Manner.{Manner}
use Rattle.calls.specs.declared.Manner.TheVariants.{Keeping}
use Rattle.calls.specs.History.{Machine, Request, Call, step_of, run_of, undo_once, stepping, running_on, undoing, act, number_told, steps_told}
use Rattle.calls.specs.History.{machine_calls, after, NeverAhead, standing, seen, taken_alone}
use Rattle.calls.proofs.ValidLaws.{Lent}
use Rattle.calls.proofs.SlotsLaws.{twenty_of_act}
use Rattle.calls.proofs.HistoryLaws.{Carries, good_along, after_carried, standing_carried, ahead_carried}
use Rattle.calls.proofs.GoingBack.{going_back, undo_when_standing}
use Rattle.block.specs.Block.{block_length, slots_in, block_of}
use Rattle.block.proofs.BlockLaws.{length_of_slots, length_of_block, words_of_slots, slots_in_block, block_of_slots_in}
use Rattle.block_calls.specs.Calls.{OnBlock, step_refusal, run_refusal, undo_refusal, ibz_step, ibz_run, ibz_undo}
use Rattle.block_calls.specs.History.{Box, ibz_stepping, ibz_running, ibz_undoing, box_left, ibz_act, ibz_number, ibz_steps, ibz_calls}
use Rattle.block_calls.specs.History.{BoxSeen, ibz_seen, machine_in, in_block}
use Rattle.block_calls.proofs.CallLaws.{on_block_held}

-- the box of a machine: the block that holds its slots
abbrev pub box_of : Machine → Box
box_of y = record { block = block_of y.slots; board = y.board; memory = y.memory; journal = y.journal; mark = y.mark }

-- ---- one call on a block of 80 bytes
-- its answer is that of the machine's call, and the block that it leaves holds the slots that the machine's call leaves
abbrev pub held : {A : Type 0} → List ℕ → List ℕ → List ℕ → A → OnBlock A
held s m j a = record { b = block_of s; m = m; j = j; a = a }

pub ibz_undoing_held : (x : Box) → length x.block ≡ block_length
    → ibz_undoing x ≡ (let c = undoing (machine_in x) in held c.s c.m x.journal c.a)
unfolding ibz_undo
ibz_undoing_held x e = on_block_held x.block x.memory x.journal (undo_refusal x.mark) _ _ _ _ e

module _ (w : Manner) (x : Box) (e : length x.block ≡ block_length) where
  pub ibz_stepping_held : (level vector : ℕ)
      → ibz_stepping w level vector x ≡ (let c = stepping w level vector (machine_in x) in held c.s c.m c.j c.a)
  unfolding ibz_step
  ibz_stepping_held level vector = on_block_held x.block x.memory x.journal (step_refusal x.mark) _ _ _ _ e

  pub ibz_running_held : (budget stop : ℕ)
      → ibz_running w budget stop x ≡ (let c = running_on w budget stop (machine_in x) in held c.s c.m c.j c.a)
  unfolding ibz_run
  ibz_running_held budget stop = on_block_held x.block x.memory x.journal (run_refusal x.mark) _ _ _ _ e

  -- so the box after it is that of the machine after the machine's call, and the answers tell the same
  ibz_act_held : (c : Call) → ibz_act w c x ≡ box_of (act w c (machine_in x))
  unfolding act ibz_act
  ibz_act_held (step_of level vector) = ap (box_left (λ a. a.mark) x.board) (ibz_stepping_held level vector)
  ibz_act_held (run_of budget stop) = ap (box_left (λ a. a.mark) x.board) (ibz_running_held budget stop)
  ibz_act_held undo_once = ap (box_left (λ a. a.mark) x.board) (ibz_undoing_held x e)

  number_held : (c : Call) → ibz_number w c x ≡ number_told w c (machine_in x)
  number_held (step_of level vector) = ap (λ c. c.a.number) (ibz_stepping_held level vector)
  number_held (run_of budget stop) = ap (λ c. c.a.number) (ibz_running_held budget stop)
  number_held undo_once = ap (λ c. c.a.number) (ibz_undoing_held x e)

  steps_held : (c : Call) → ibz_steps w c x ≡ steps_told w c (machine_in x)
  steps_held (step_of level vector) = refl
  steps_held (run_of budget stop) = ap (λ c. c.a.steps) (ibz_running_held budget stop)
  steps_held undo_once = refl

  twenty_after : (c : Call) → length (act w c (machine_in x)).slots ≡ slot_limit
  twenty_after c = twenty_of_act w c (machine_in x) (length_of_slots slot_limit x.block)

  pub carried_one : (c : Call) → machine_in (ibz_act w c x) ≡ act w c (machine_in x)
  carried_one c =
      let y = act w c (machine_in x) in
      ap machine_in (ibz_act_held c)
      ∙ ap {B = Machine} (λ (s : List ℕ). record { board = y.board; slots = s; memory = y.memory; journal = y.journal; mark = y.mark })
      (slots_in_block y.slots (twenty_after c))

  fits_after : (c : Call) → length (ibz_act w c x).block ≡ block_length
  fits_after c =
      ap (λ (z : Box). length z.block) (ibz_act_held c) ∙ length_of_block (act w c (machine_in x)).slots ∙ ap (λ (n : ℕ). 4 * n) (twenty_after c)

  -- the block after a call is that of the slots that it holds
  pub settled_after : (c : Call) → block_of (slots_in (ibz_act w c x).block) ≡ (ibz_act w c x).block
  settled_after c =
      let s = (act w c (machine_in x)).slots in
      let q : (ibz_act w c x).block ≡ block_of s = ap (λ (z : Box). z.block) (ibz_act_held c) in
      ap (λ (b : List ℕ). block_of (slots_in b)) q ∙ ap block_of (slots_in_block s (twenty_after c)) ∙ sym q

-- ---- any list of calls on a block of 80 bytes
abbrev pub Fits : Box → Type 0
Fits x = length x.block ≡ block_length

module _ (w : Manner) where
  pub held_as_machine : Carries (ibz_calls w) (machine_calls w) machine_in Fits
  held_as_machine =
      record {
        good = λ c x e. fits_after w x e c;
        next = λ c x e. carried_one w x e c;
        number = λ c x e. number_held w x e c;
        steps = λ c x e. steps_held w x e c;
      }

  pub carried : (cs : List Call) (x : Box) → length x.block ≡ block_length
      → machine_in (after (ibz_calls w) cs x) ≡ after (machine_calls w) cs (machine_in x)
  carried = after_carried (ibz_calls w) (machine_calls w) machine_in Fits held_as_machine

  pub same_standing : (cs : List Call) (x : Box) → length x.block ≡ block_length
      → standing (ibz_calls w) cs x [] ≡ standing (machine_calls w) cs (machine_in x) []
  same_standing cs x e = standing_carried (ibz_calls w) (machine_calls w) machine_in Fits held_as_machine cs x [] e

  pub same_ahead : (cs : List Call) (x : Box) → length x.block ≡ block_length → NeverAhead (ibz_calls w) cs x 0 0
      → NeverAhead (machine_calls w) cs (machine_in x) 0 0
  same_ahead cs x e h = ahead_carried (ibz_calls w) (machine_calls w) machine_in Fits held_as_machine cs x 0 0 e h

  pub settled_along : (cs : List Call) (x : Box) → length x.block ≡ block_length → block_of (slots_in x.block) ≡ x.block
      → block_of (slots_in (after (ibz_calls w) cs x).block) ≡ (after (ibz_calls w) cs x).block
  settled_along [] x e q = q
  settled_along (c ∷ cs) x e q = settled_along cs (ibz_act w c x) (fits_after w x e c) (settled_after w x e c)

-- ---- what is seen of a box, in either manner
-- what any C program lends: a block of 80 bytes, and bytes in block and memory. The journal and the mark may be anything
pub record Lends (x : Box) : Type 0 where
  pub fits : length x.block ≡ block_length
  pub block_bytes : ValidBytes x.block
  pub memory_bytes : ValidBytes x.memory

-- what is seen of the box is the block of what is seen of the machine in it
seen_in_block : (z : Box) → block_of (slots_in z.block) ≡ z.block → ibz_seen z ≡ in_block (seen (machine_in z))
seen_in_block z q = ap {B = BoxSeen} (λ (b : List ℕ). record { block = b; board = z.board; memory = z.memory; mark = z.mark }) (sym q)

module _ (x : Box) (l : Lends x) where
  pub lent_in : Lent (machine_in x).slots (machine_in x).memory
  lent_in =
      record {
        slots = length_of_slots slot_limit x.block;
        words = words_of_slots slot_limit 0 0 x.block l.fits l.block_bytes;
        bytes = l.memory_bytes;
      }

  pub settled_start : block_of (slots_in x.block) ≡ x.block
  settled_start = block_of_slots_in x.block l.fits l.block_bytes

  -- after any calls it is the block of what is seen of the machine after the machine's calls
  pub seen_after : (w : Manner) (cs : List Call) → ibz_seen (after (ibz_calls w) cs x) ≡ in_block (seen (after (machine_calls w) cs (machine_in x)))
  seen_after w cs =
      seen_in_block (after (ibz_calls w) cs x) (settled_along w cs x l.fits settled_start)
      ∙ ap (λ (y : Machine). in_block (seen y)) (carried w cs x l.fits)

  -- the same of one more undo, and of its number
  module _ (w : Manner) (cs : List Call) where
    pub undone_after : ibz_seen (ibz_act w undo_once (after (ibz_calls w) cs x))
        ≡ in_block (seen (act w undo_once (after (machine_calls w) cs (machine_in x))))
    undone_after =
        let z = after (ibz_calls w) cs x in
        let fits = good_along (ibz_calls w) (machine_calls w) machine_in Fits (held_as_machine w) cs x l.fits in
        seen_in_block (ibz_act w undo_once z) (settled_after w z fits undo_once)
        ∙ ap (λ (y : Machine). in_block (seen y)) (carried_one w z fits undo_once ∙ ap (act w undo_once) (carried w cs x l.fits))

    pub undo_number_after : (ibz_undoing (after (ibz_calls w) cs x)).a.number ≡ (undoing (after (machine_calls w) cs (machine_in x))).a.number
    undo_number_after =
        let z = after (ibz_calls w) cs x in
        let fits = good_along (ibz_calls w) (machine_calls w) machine_in Fits (held_as_machine w) cs x l.fits in
        ap (λ c. c.a.number) (ibz_undoing_held z fits) ∙ ap (λ (y : Machine). (undoing y).a.number) (carried w cs x l.fits)

  -- ---- demand 3, where all records are kept
  module _ (cs : List Call) (h : NeverAhead (ibz_calls Keeping) cs x 0 0) where
    ahead : NeverAhead (machine_calls Keeping) cs (machine_in x) 0 0
    ahead = same_ahead Keeping cs x l.fits h

    pub ibz_going_back : ibz_seen (after (ibz_calls Keeping) cs x)
        ≡ in_block (taken_alone (standing (ibz_calls Keeping) cs x []) (seen (machine_in x)))
    ibz_going_back =
        seen_after Keeping cs
        ∙ ap in_block (going_back (machine_in x) lent_in cs ahead)
        ∙ ap (λ (rs : List Request). in_block (taken_alone rs (seen (machine_in x)))) (sym (same_standing Keeping cs x l.fits))

    -- try it, take all back, and the bytes are those of the start
    pub ibz_all_undone : standing (ibz_calls Keeping) cs x [] ≡ [] → ibz_seen (after (ibz_calls Keeping) cs x) ≡ ibz_seen x
    ibz_all_undone none =
        ibz_going_back
        ∙ ap (λ (rs : List Request). in_block (taken_alone rs (seen (machine_in x)))) none
        ∙ sym (seen_in_block x settled_start)

    pub ibz_undo_when_standing : (r : Request) (rs : List Request) → standing (ibz_calls Keeping) cs x [] ≡ r ∷ rs
        → ((ibz_undoing (after (ibz_calls Keeping) cs x)).a.number ≡ 0)
        × (ibz_seen (ibz_act Keeping undo_once (after (ibz_calls Keeping) cs x)) ≡ in_block (taken_alone rs (seen (machine_in x))))
    ibz_undo_when_standing r rs e =
        let u = undo_when_standing (machine_in x) lent_in cs ahead r rs (sym (same_standing Keeping cs x l.fits) ∙ e) in
        (undo_number_after Keeping cs ∙ u.0, undone_after Keeping cs ∙ ap in_block u.1)
