-- FrameLaws.antt - demand 1: what an accepted call alters of the journal and of memory, and that it alters nothing else.
-- * step_frame, where all records are kept: below the mark given and from the mark returned on the journal is as it was; between them stands the step's record.
-- * step_memory: a byte of memory that is not in the step's record is as it was; at most byte_limit bytes are in it.
-- * undo_memory: an undo alters no byte of memory that is not in the record that it undoes. (The journal is lent to it to be read only.)
-- * framed_refl, framed_trans: the frame of steps in a row, which is a run's (run_frame of RunLaws).
-- Source: [01 The journal], [00 demand 1], [K5].
use Prim.Native.Nat.{ℕ, zero, suc, ◌+◌, ◌-◌, ◌≤◌}
use mathlib.Core.Path.{◌≡◌, refl, sym, ap, ◌∙◌}
use mathlib.Core.Bool.{Bool, true, false}
use mathlib.Core.List.{List, [], ◌∷◌, ◌++◌, append_assoc}
use native.Mathlib.Nat.{zero-add}
use native.Mathlib.Omega.{arith}
use lib.ListN.{length, take, drop, get_or, set, length-append}
use lib.Seq.{length-take-le, take-append-le, take-take, take-append_seam, drop_at, drop-drop, get_or-set_other}
use lib.Dec.{eqb}
use Rattle.bus.specs.Bus.{Board}
use Rattle.numbers.specs.Number.{written}
use Rattle.numbers.proofs.WrittenLaws.{length_written}
use Rattle.record.specs.Limits.{byte_limit}
use Rattle.record.specs.Change.{Change, diffs, restore, step_record}
use Rattle.record.proofs.ChangeLaws.{changed_cases}
use Rattle.step.proofs.KeepLaws.{Kept}
use Rattle.undo.specs.Undo.{found, well_formed}
use Rattle.undo.proofs.UndoLaws.{undo_when_found}
use Rattle.calls.specs.declared.Manner.{Manner}
use Rattle.calls.specs.declared.Manner.TheVariants.{Keeping}
use Rattle.calls.specs.Calls.{undo_number, undo_call}
use Rattle.calls.specs.History.{Machine, Request, step_of, stepping, act, seen, record_after, one_more}
use Rattle.calls.proofs.ValidLaws.{Lent, kept_by}
use Rattle.calls.proofs.ActLaws.{act_step, step_room, step_valid}

-- ---- bytes written into a list
module _ (l : List ℕ) (at : ℕ) (bs : List ℕ) (inside : at ≤ length l) where
  pub written_below : (e : ℕ) → e ≤ at → take e (written l at bs) ≡ take e l
  written_below e h =
      ap (take e) (append_assoc (take at l) bs (drop (at + length bs) l))
      ∙ take-append-le e (take at l) (bs ++ drop (at + length bs) l) (omega (arith, length-take-le at l inside))
      ∙ take-take e at l h

  pub written_at : take (length bs) (drop at (written l at bs)) ≡ bs
  written_at =
      ap (λ (x : List ℕ). take (length bs) (drop at x)) (append_assoc (take at l) bs (drop (at + length bs) l))
      ∙ ap (take (length bs)) (drop_at (take at l) (bs ++ drop (at + length bs) l) at (length-take-le at l inside))
      ∙ take-append_seam bs (drop (at + length bs) l)

  pub written_beyond : drop (at + length bs) (written l at bs) ≡ drop (at + length bs) l
  written_beyond = drop_at (take at l ++ bs) (drop (at + length bs) l) (at + length bs) (omega (arith, length-append (take at l) bs, length-take-le at l inside))

-- ---- the frame between two machines: the journal below the first mark, and from the second on
pub record Framed (x y : Machine) : Type 0 where
  pub grown : x.mark ≤ y.mark
  pub inside : y.mark ≤ length x.journal
  pub same_length : length y.journal ≡ length x.journal
  pub below : take x.mark y.journal ≡ take x.mark x.journal
  pub beyond : drop y.mark y.journal ≡ drop y.mark x.journal

pub framed_refl : (x : Machine) → x.mark ≤ length x.journal → Framed x x
framed_refl x h = record { grown = omega arith; inside = h; same_length = refl; below = refl; beyond = refl }

-- what is the same from a on is the same from a later place on
beyond_later : (l r : List ℕ) (a b : ℕ) → a ≤ b → drop a l ≡ drop a r → drop b l ≡ drop b r
beyond_later l r a b h e =
    let q : b ≡ a + (b - a) = omega arith in
    ap (λ (n : ℕ). drop n l) q ∙ sym (drop-drop (b - a) a l) ∙ ap (drop (b - a)) e ∙ drop-drop (b - a) a r ∙ ap (λ (n : ℕ). drop n r) (sym q)

below_earlier : (l r : List ℕ) (a b : ℕ) → a ≤ b → take b l ≡ take b r → take a l ≡ take a r
below_earlier l r a b h e = sym (take-take a b l h) ∙ ap (take a) e ∙ take-take a b r h

pub framed_trans : (x y z : Machine) → Framed x y → Framed y z → Framed x z
framed_trans x y z f g =
    record {
      grown = omega (arith, f.grown, g.grown);
      inside = omega (arith, g.inside, f.same_length);
      same_length = g.same_length ∙ f.same_length;
      below = below_earlier z.journal y.journal x.mark y.mark f.grown g.below ∙ f.below;
      beyond = g.beyond ∙ beyond_later y.journal x.journal y.mark z.mark g.grown f.beyond;
    }

-- ---- the places of changes
abbrev pub NotAmong : ℕ → List Change → Type 0
NotAmong i [] = Unit {0}
NotAmong i (c ∷ cs) = (i ≡ c.place → ⊥) × NotAmong i cs

-- a place that is not among those that differ
pub same_outside : (k lo : ℕ) (os ns : List ℕ) → length os ≡ length ns → NotAmong (lo + k) (diffs lo os ns) → get_or ns k 0 ≡ get_or os k 0
same_outside k lo [] [] e h = refl
same_outside k lo [] (n ∷ ns) e h = absurd (omega arith)
same_outside k lo (o ∷ os) [] e h = absurd (omega arith)
same_outside zero lo (o ∷ os) (n ∷ ns) e h =
    changed_cases (λ (cs : List Change). NotAmong (lo + 0) (cs ++ diffs (suc lo) os ns) → n ≡ o) lo o n (λ q g. sym q) (λ q g. absurd (g.0 (omega arith))) h
same_outside (suc k) lo (o ∷ os) (n ∷ ns) e h =
    let q : lo + suc k ≡ suc lo + k = omega arith in
    let rest : NotAmong (lo + suc k) (diffs (suc lo) os ns) =
    changed_cases (λ (cs : List Change). NotAmong (lo + suc k) (cs ++ diffs (suc lo) os ns) → NotAmong (lo + suc k) (diffs (suc lo) os ns)) lo o n (λ r g. g) (λ r g. g.1) h in
    same_outside k (suc lo) os ns (omega arith) (rw q at rest)

-- a place that no change is put back to
pub restored_outside : (i : ℕ) (cs : List Change) (m : List ℕ) → NotAmong i cs → get_or (restore cs m) i 0 ≡ get_or m i 0
restored_outside i [] m h = refl
restored_outside i (c ∷ cs) m h = restored_outside i cs (set m c.place c.old) h.1 ∙ get_or-set_other m c.place i c.old 0 h.0

-- ---- an accepted step
module _ (r : Request) (x : Machine) (lent : Lent x.slots x.memory) (ok : (stepping Keeping r.level r.vector x).a.number ≡ 0) where
  abbrev y : Machine
  y = act Keeping (step_of r.level r.vector) x

  -- the record that the slots and the memory before and after determine
  abbrev pub recorded : List ℕ
  recorded = step_record x.slots y.slots x.memory y.memory

  recorded_is : recorded ≡ record_after r (seen x)
  unfolding record_after one_more
  recorded_is = rw (act_step Keeping r x ok)

  inside : x.mark ≤ length x.journal
  inside = omega (arith, step_room Keeping r x lent tt ok)

  pub step_frame : Framed x y × (y.mark ≡ x.mark + length recorded) × (take (length recorded) (drop x.mark y.journal) ≡ recorded)
  unfolding one_more
  step_frame =
      let b = record_after r (seen x) in
      let j = x.journal in
      rw (recorded_is, act_step Keeping r x ok) (
        record {
          grown = omega arith;
          inside = step_room Keeping r x lent tt ok;
          same_length = length_written j x.mark b (step_room Keeping r x lent tt ok);
          below = written_below j x.mark b inside x.mark (omega arith);
          beyond = written_beyond j x.mark b inside;
        },
        refl,
        written_at j x.mark b inside,
      )

-- what it alters of memory, in either manner
module _ (w : Manner) (r : Request) (x : Machine) (lent : Lent x.slots x.memory) (ok : (stepping w r.level r.vector x).a.number ≡ 0) where
  abbrev z : Machine
  z = act w (step_of r.level r.vector) x

  kept_now : Kept x.slots x.memory z.slots z.memory
  unfolding one_more
  kept_now = rw (act_step w r x ok) (kept_by x.board x.slots x.memory r.level r.vector (step_valid w r.level r.vector x lent ok))

  pub step_memory : (length z.memory ≡ length x.memory)
      × (length (diffs 0 x.memory z.memory) ≤ byte_limit)
      × ((i : ℕ) → NotAmong i (diffs 0 x.memory z.memory) → get_or z.memory i 0 ≡ get_or x.memory i 0)
  step_memory =
      (kept_now.memory, kept_now.few, λ i h. same_outside i 0 x.memory z.memory (sym kept_now.memory) (rw zero-add h))

-- ---- an accepted undo
pub undo_memory : (board : Board) (s m j : List ℕ) (mark : ℕ) (ss bs : List Change) (p : List ℕ) → well_formed s m j mark ≡ found ss bs p → (i : ℕ) → NotAmong i bs → get_or (undo_call board s m j mark).m i 0 ≡ get_or m i 0
unfolding undo_call
undo_memory board s m j mark ss bs p e i h = go (eqb (undo_number board s m j mark) 0) refl
  where
    go : (b : Bool) → eqb (undo_number board s m j mark) 0 ≡ b → get_or (undo_call board s m j mark).m i 0 ≡ get_or m i 0
    go true q = rw (q, undo_when_found s m j mark ss bs p e) (restored_outside i bs m h)
    go false q = rw q
