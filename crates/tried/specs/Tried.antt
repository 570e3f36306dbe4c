-- Tried.antt - a try beside its steps, and what two tries share.
-- Not here: what a try and taking back are (Tries.antt of the crate tries); rows of step calls (Rows.antt of the crate fence).
-- Laws: proofs/TriedLaws.antt.  Source: [K7].
use Rattle.std.specs.Prelude.{ℕ, zero, suc, ◌-◌, ◌≡◌, Bool, ◌||◌, List, [], ◌∷◌, eqb}
use Rattle.bits.specs.Bits.{pick}
use Rattle.bus.specs.declared.Window.{Window}
use Rattle.calls.specs.declared.Manner.TheVariants.{Keeping}
use Rattle.calls.specs.History.{Machine, Request}
use Rattle.tries.specs.declared.TryAnswer.{TryAnswer}
use Rattle.tries.specs.Tries.{taken_exception, halt, TryCall, try_call, BackCall, back_call}
use Rattle.fence.specs.Rows.{answer_to, next, after_row, AllCalm, SameRow}

-- a step with level 0  [K7]
abbrev pub plain : Request
plain = record { level = 0; vector = 0 }

-- so many of them  [K7]
abbrev pub plains : ℕ → List Request
plains zero = []
plains (suc n) = plain ∷ plains n

-- no call of a row is refused  [01 Calls]
abbrev pub AllAccepted : List Request → Machine → Type 0
AllAccepted [] x = Unit {0}
AllAccepted (q ∷ qs) x = ((answer_to Keeping q x).number ≡ 0) × AllAccepted qs (next Keeping q x)

-- a try of a machine whose window is set, of so many steps at most  [K7]
abbrev pub try_on : ℕ → Machine → TryCall
try_on count x = try_call x.board x.slots x.memory count x.journal x.mark

-- the machine after it  [K7]
abbrev pub after_try : ℕ → Machine → Machine
after_try count x =
    let t = try_on count x in record { board = x.board; slots = t.s; memory = t.m; journal = t.j; mark = t.a.mark }

-- so many steps taken back from a machine, whose window becomes the old one  [K7]
abbrev pub back_on : Window → ℕ → Machine → BackCall
back_on old steps x = back_call x.board old x.slots x.memory x.journal x.mark steps

-- whether the last step of a try took an exception or halted  [K7]
abbrev pub exceptional : TryAnswer → Bool
exceptional a = eqb a.end taken_exception || eqb a.end halt

-- how many steps of a try take no exception and do not halt: all of them, or all but the last  [K7]
abbrev pub calm_steps : TryAnswer → ℕ
calm_steps a = pick (exceptional a) (a.steps - 1) a.steps

-- the machine once those are taken: the one before the last step where that takes an exception or halts, else the one after the try  [K7]
abbrev pub once_calm : ℕ → Machine → Machine
once_calm count x = after_row Keeping (plains (calm_steps (try_on count x).a)) x

-- all of a try taken back: slots, memory and mark as before it, as many steps undone as it took, and the old window  [K7]
abbrev pub taken_back : Window → ℕ → Machine → BackCall
taken_back old count x =
    record { s = x.slots; m = x.memory; a = record { number = 0; undone = (try_on count x).a.steps; mark = x.mark; lo = old.lo; hi = old.hi } }

-- a try is as many step calls with level 0 as it tells steps: none is refused, those before the last are calm, and they leave what it leaves  [K7]
pub record TryIs (count : ℕ) (x : Machine) : Type 0 where
  pub accepted : AllAccepted (plains (try_on count x).a.steps) x
  pub calm : AllCalm Keeping (plains (calm_steps (try_on count x).a)) x
  pub machine : after_try count x ≡ after_row Keeping (plains (try_on count x).a.steps) x

-- two ends: the same, with the same vector; or the one halts where the other takes an exception  [K7]
pub data SameEnd (a b : TryAnswer) : Type 0 where
  same_end : a.end ≡ b.end → a.vector ≡ b.vector → SameEnd a b
  first_halts : a.end ≡ halt → b.end ≡ taken_exception → SameEnd a b
  second_halts : a.end ≡ taken_exception → b.end ≡ halt → SameEnd a b

-- two tries: as many steps, the same end, refusal and vector; and the calm steps give the same answers and records, and leave alike machines  [K7]
pub record SameTry (count : ℕ) (x y : Machine) : Type 0 where
  pub steps : (try_on count x).a.steps ≡ (try_on count y).a.steps
  pub number : (try_on count x).a.number ≡ (try_on count y).a.number
  pub end : SameEnd (try_on count x).a (try_on count y).a
  pub calm : SameRow Keeping (plains (calm_steps (try_on count x).a)) x y
