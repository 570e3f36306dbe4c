-- Kept.antt - what a journal holds after a mix of calls in the manner that drops: the records of the last steps that stand, after what is
-- left from before the start. Not here: what stands (History.antt), when records are dropped and which (make_room of the crate oldest).
-- Laws: proofs/KeptLaws.antt, HoldLaws.antt, GoingBackDropping.antt.  Source: [00 demand 3], [01 The journal], [K5], [K7].
use Rattle.std.specs.Prelude.{ℕ, zero, suc, ◌+◌, ◌≤◌, ◌<◌, ◌≡◌, List, [], ◌∷◌, ◌++◌, length, take, drop}
use Rattle.oldest.specs.Room.{Row, rows_bytes, rows, rows_of}
use Rattle.calls.specs.declared.Manner.{Manner}
use Rattle.calls.specs.declared.Manner.TheVariants.{Dropping}
use Rattle.calls.specs.History.{Machine, Request, Call, step_of, run_of, undo_once, stepping, running_on, act, Seen, seen, record_after, taken_alone}

-- the records of the last k steps of a list, which has the last step first, taken alone from a; the oldest record first  [00 demand 3] [K5]
abbrev pub records_alone : ℕ → List Request → Seen → List ℕ
records_alone zero rs a = []
records_alone (suc k) [] a = []
records_alone (suc k) (r ∷ rs) a = records_alone k rs a ++ record_after r (taken_alone rs a)

-- what is left of the bytes below the mark of x: all of them; or, where they are records, those without the oldest k of them  [K5]
pub data LeftOver (x : Machine) (rest : List ℕ) : Type 0 where
  all_of_it : rest ≡ take x.mark x.journal → LeftOver x rest
  but_the_oldest : (olds : List Row) (k : ℕ) → rows_of (length x.memory) x.journal x.mark ≡ rows olds
      → rest ≡ rows_bytes (drop k olds) → LeftOver x rest

-- From x₀, where the steps rs stand: x has the board, the state and the memory of these steps taken alone; below its mark are, after what
-- is left from before the start, the records of the last `kept` of them; and nothing is left from before once one of theirs is dropped.
-- [00 demand 3] [K5] [K7]
pub record KeptRecords (x₀ x : Machine) (rs : List Request) : Type 0 where
  pub board : x.board ≡ (taken_alone rs (seen x₀)).board
  pub slots : x.slots ≡ (taken_alone rs (seen x₀)).slots
  pub memory : x.memory ≡ (taken_alone rs (seen x₀)).memory
  pub kept : ℕ
  pub rest : List ℕ
  pub few : kept ≤ length rs
  pub oldest_first : kept < length rs → rest ≡ []
  pub left_over : LeftOver x₀ rest
  pub bytes : take x.mark x.journal ≡ rest ++ records_alone kept rs (seen x₀)
  pub mark_is : x.mark ≡ length rest + length (records_alone kept rs (seen x₀))

-- ---- where none is dropped

-- P holds of each call and the machine that it is given  [ours]
abbrev pub EachCall : Manner → (Call → Machine → Type 0) → List Call → Machine → Type 0
EachCall w P [] x = Unit {0}
EachCall w P (c ∷ cs) x = P c x × EachCall w P cs (act w c x)

-- a call whose answer tells no record dropped  [K5]
abbrev pub DropsNone : Call → Machine → Type 0
DropsNone (step_of level vector) x = (stepping Dropping level vector x).a.dropped ≡ 0
DropsNone (run_of budget stop) x = (running_on Dropping budget stop x).a.dropped ≡ 0
DropsNone undo_once x = Unit {0}
