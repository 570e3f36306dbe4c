-- Rows.antt - rows of step calls, each given what the last one returned: their answers, their records, and that none takes an exception.
-- Not here: what a step call is (Calls.antt and History.antt of the crate calls).
-- Laws: proofs/FenceLaws.antt.  Source: [K7], [K5], [K10].
use Rattle.std.specs.Prelude.{ℕ, ◌≡◌, List, [], ◌∷◌, length}
use Rattle.std.proofs.Math.Seq.{slice}
use Rattle.codes.specs.Codes.{NoEvent}
use Rattle.calls.specs.declared.Manner.{Manner}
use Rattle.calls.specs.declared.StepAnswer.{StepAnswer}
use Rattle.calls.specs.History.{Machine, Request, step_of, stepping, act}
use Rattle.calls.proofs.ValidLaws.{Lent}
use Rattle.fence.specs.Fence.{Alike, Left}

-- what every machine that is lent is by its types: twenty slots of 32 bits, and bytes  [01 State] [01 Memory]
abbrev pub Fit : Machine → Type 0
Fit x = Lent x.slots x.memory

-- two machines that agree on all slots but SSP, lo, hi, the bytes of memory and of the ROM in the window, memory's length and the ROM's, journal
-- length and mark, in user state  [K7] [K10]
pub record AlikeMachines (x y : Machine) : Type 0 where
  pub states : Alike x.board y.board x.slots y.slots x.memory y.memory
  pub journal : length x.journal ≡ length y.journal
  pub mark : x.mark ≡ y.mark

-- machine y after machine x: T, S, mask, SSP and every byte outside the window are as they were  [K7]
abbrev pub LeftMachine : Machine → Machine → Type 0
LeftMachine x y = Left x.board.window x.slots x.memory y.slots y.memory

module _ (w : Manner) where
  -- the answer of a step call with a request  [01 Calls]
  abbrev pub answer_to : Request → Machine → StepAnswer
  answer_to q x = (stepping w q.level q.vector x).a

  -- the machine after it  [01 Calls]
  abbrev pub next : Request → Machine → Machine
  next q x = act w (step_of q.level q.vector) x

  -- what it wrote into the journal: the bytes from the old mark up to the new one  [01 The journal]
  abbrev pub record_left : Request → Machine → List ℕ
  record_left q x = slice x.mark (next q x).mark (next q x).journal

  -- the same for a row of them, the first first  [K7]
  abbrev pub answers : List Request → Machine → List StepAnswer
  answers [] x = []
  answers (q ∷ qs) x = answer_to q x ∷ answers qs (next q x)

  -- the machine after the row  [K7]
  abbrev pub after_row : List Request → Machine → Machine
  after_row [] x = x
  after_row (q ∷ qs) x = after_row qs (next q x)

  -- what each of the row wrote  [K7]
  abbrev pub records : List Request → Machine → List (List ℕ)
  records [] x = []
  records (q ∷ qs) x = record_left q x ∷ records qs (next q x)

  -- none of the row takes an exception or halts  [K7]
  abbrev pub AllCalm : List Request → Machine → Type 0
  AllCalm [] x = Unit {0}
  AllCalm (q ∷ qs) x = ((answer_to q x).event ≡ NoEvent) × AllCalm qs (next q x)

  -- none of the row drops records  [K5] [K7]
  abbrev pub NoneDropped : List Request → Machine → Type 0
  NoneDropped [] x = Unit {0}
  NoneDropped (q ∷ qs) x = ((answer_to q x).dropped ≡ 0) × NoneDropped qs (next q x)

  -- the row gives two machines the same answers and records, takes no exception on the other either, and leaves them alike  [K7]
  pub record SameRow (qs : List Request) (x y : Machine) : Type 0 where
    pub answer : answers qs x ≡ answers qs y
    pub written : records qs x ≡ records qs y
    pub calm : AllCalm qs y
    pub alike : AlikeMachines (after_row qs x) (after_row qs y)
