-- CourseLaws.antt - the course of a try: calm steps, and then its end.
-- Course, course_of: how the steps of a try go; through: calm steps that are accepted are passed one by one; turn-..: the last turn;
-- goes-..: a whole try. Result, Went, went: how a whole try went. row-..: the machine after a row of calls.
-- Uses: bits, calls, tries, fence.  Source: [K7].
use Prim.Native.Nat.{ℕ, zero, suc, ◌+◌, ◌-◌}
use native.Mathlib.Omega.{arith}
use mathlib.Core.Path.{◌≡◌, refl, ap, ◌∙◌, sym, subst}
use mathlib.Core.Bool.{Bool, true, false, ◌||◌}
use lib.Dec.{eqb}
use borrow.Author.Tests.{eqb-true, eq-eqb}
use Rattle.codes.specs.Codes.{NoEvent}
use Rattle.bank.specs.Bank.{sr_of, supervisor}
use Rattle.calls.specs.declared.Manner.TheVariants.{Keeping}
use Rattle.calls.specs.History.{Machine, act, Request}
use Rattle.tries.specs.Tries.{spent, supervised, refused, TryCall, ended, ended_by, trying, try_number, try_call, taken_exception, halt}
use Rattle.fence.specs.Rows.{answer_to, next, after_row, AllCalm, Fit, LeftMachine}
use mathlib.Core.List.{List, [], ◌∷◌}
use lib.ListN.{length}
use Rattle.fence.proofs.OneLaws.{left_none}
use Rattle.fence.proofs.FenceLaws.{board_stays, fit_next, user_calls_leave}
use Rattle.tried.specs.Tried.{plain, plains, AllAccepted, try_on}

-- what is left of a try of a machine
abbrev pub trying_on : ℕ → ℕ → Machine → TryCall
trying_on k n x = trying x.board k n x.slots x.memory x.journal x.mark

-- a try that ends here, and one that its last step ends
abbrev pub ended_at : ℕ → ℕ → ℕ → Machine → TryCall
ended_at end number n x = ended end number 0 n x.slots x.memory x.journal x.mark

abbrev pub ended_after : ℕ → ℕ → Machine → TryCall
ended_after event n x = ended_by event n x.slots x.memory x.journal x.mark

-- the test of a step's number, and of its event
abbrev pub takes : Machine → Bool
takes x = eqb (answer_to Keeping plain x).number 0

abbrev pub quiet : Machine → Bool
quiet x = eqb (answer_to Keeping plain x).event NoEvent

-- ---- one turn
module _ (k n : ℕ) (x : Machine) where
  turn_on : takes x ≡ true → quiet x ≡ true → trying_on (suc k) n x ≡ trying_on k (n + 1) (next Keeping plain x)
  unfolding trying act
  turn_on h e = cc

  pub turn_ends : takes x ≡ true → quiet x ≡ false
      → trying_on (suc k) n x ≡ ended_after (answer_to Keeping plain x).event (n + 1) (next Keeping plain x)
  unfolding trying act
  turn_ends h e = cc

  pub turn_refused : takes x ≡ false → trying_on (suc k) n x ≡ ended_at refused (answer_to Keeping plain x).number n x
  unfolding trying
  turn_refused h = cc

pub turn_spent : (n : ℕ) (x : Machine) → trying_on zero n x ≡ ended_at spent 0 n x
unfolding trying
turn_spent n x = refl

-- ---- calm steps
pub through : (c rest n : ℕ) (x : Machine) → AllAccepted (plains c) x → AllCalm Keeping (plains c) x
    → trying_on (c + rest) n x ≡ trying_on rest (n + c) (after_row Keeping (plains c) x)
through zero rest n x a e =
    let p : zero + rest ≡ rest = omega arith in
    let q : n ≡ n + 0 = omega arith in
    ap (λ (k : ℕ). trying_on k n x) p ∙ ap (λ (k : ℕ). trying_on rest k x) q
through (suc c) rest n x a e =
    let y = next Keeping plain x in
    let p : suc c + rest ≡ suc (c + rest) = omega arith in
    let q : n + 1 + c ≡ n + suc c = omega arith in
    ap (λ (k : ℕ). trying_on k n x) p
    ∙ turn_on (c + rest) n x (eq-eqb (answer_to Keeping plain x).number 0 a.0) (eq-eqb (answer_to Keeping plain x).event NoEvent e.0)
    ∙ through c rest (n + 1) y a.1 e.1
    ∙ ap (λ (k : ℕ). trying_on rest k (after_row Keeping (plains c) y)) q

-- why the calm steps end: none is left of the count; the next one is refused; it takes an exception or halts
pub data Ends (rest : ℕ) (z : Machine) : Type 0 where
  done : rest ≡ 0 → Ends rest z
  refuses : (k : ℕ) → rest ≡ suc k → takes z ≡ false → Ends rest z
  excepts : (k : ℕ) → rest ≡ suc k → takes z ≡ true → quiet z ≡ false → Ends rest z

pub record Course (count : ℕ) (x : Machine) : Type 0 where
  pub calm : ℕ
  pub rest : ℕ
  pub whole : count ≡ calm + rest
  pub accepted : AllAccepted (plains calm) x
  pub quiet : AllCalm Keeping (plains calm) x
  pub ends : Ends rest (after_row Keeping (plains calm) x)

at_once : (count : ℕ) (x : Machine) → Ends count x → Course count x
at_once count x e = record { calm = 0; rest = count; whole = (let p : count ≡ 0 + count = omega arith in p); accepted = tt; quiet = tt; ends = e }

one_more : (k : ℕ) (x : Machine) → takes x ≡ true → quiet x ≡ true → Course k (next Keeping plain x) → Course (suc k) x
one_more k x h e c =
    record {
      calm = suc c.calm;
      rest = c.rest;
      whole = omega (arith, c.whole);
      accepted = (eqb-true (answer_to Keeping plain x).number 0 h, c.accepted);
      quiet = (eqb-true (answer_to Keeping plain x).event NoEvent e, c.quiet);
      ends = c.ends;
    }

course_turn : (k : ℕ) (x : Machine) (b c : Bool) → takes x ≡ b → quiet x ≡ c → Course k (next Keeping plain x) → Course (suc k) x
course_turn k x true true h e r = one_more k x h e r
course_turn k x true false h e r = at_once (suc k) x (excepts k refl h e)
course_turn k x false c h e r = at_once (suc k) x (refuses k refl h)

pub course_of : (count : ℕ) (x : Machine) → Course count x
course_of zero x = at_once zero x (done refl)
course_of (suc k) x = course_turn k x (takes x) (quiet x) refl refl (course_of k (next Keeping plain x))

-- ---- a whole try
abbrev pub first_number : ℕ → Machine → ℕ
first_number count x = try_number x.board x.slots x.memory count x.journal x.mark

module _ (count : ℕ) (x : Machine) where
  pub goes_refused : eqb (first_number count x) 0 ≡ false → try_on count x ≡ ended_at refused (first_number count x) 0 x
  unfolding try_call
  goes_refused h = cc

  pub goes_supervised : eqb (first_number count x) 0 ≡ true → supervisor (sr_of x.slots) ≡ true → try_on count x ≡ ended_at supervised 0 0 x
  unfolding try_call
  goes_supervised h u = cc

  pub goes_on : eqb (first_number count x) 0 ≡ true → supervisor (sr_of x.slots) ≡ false → try_on count x ≡ trying_on count 0 x
  unfolding try_call
  goes_on h u = cc

-- ---- rows
pub row_board : (qs : List Request) (x : Machine) → (after_row Keeping qs x).board ≡ x.board
row_board [] x = refl
row_board (q ∷ qs) x = row_board qs (next Keeping q x) ∙ board_stays Keeping q x

pub row_fit : (qs : List Request) (x : Machine) → Fit x → Fit (after_row Keeping qs x)
row_fit [] x f = f
row_fit (q ∷ qs) x f = row_fit qs (next Keeping q x) (fit_next Keeping q x f)

pub plains_length : (n : ℕ) → length (plains n) ≡ n
plains_length zero = refl
plains_length (suc n) = ap suc (plains_length n)

-- one step more
pub row_more : (c : ℕ) (x : Machine) → after_row Keeping (plains (suc c)) x ≡ next Keeping plain (after_row Keeping (plains c) x)
row_more zero x = refl
row_more (suc c) x = row_more c (next Keeping plain x)

pub accepted_more : (c : ℕ) (x : Machine) → AllAccepted (plains c) x → (answer_to Keeping plain (after_row Keeping (plains c) x)).number ≡ 0
    → AllAccepted (plains (suc c)) x
accepted_more zero x h e = (e, tt)
accepted_more (suc c) x h e = (h.0, accepted_more c (next Keeping plain x) h.1 e)

-- ---- the course of a whole try
-- a try that ends at z after so many calm steps, or by the event of the step after them
pub data Result (c : ℕ) (z : Machine) (t : TryCall) : Type 0 where
  at_rest : (end number : ℕ) → (eqb end taken_exception || eqb end halt) ≡ false → t ≡ ended_at end number c z → Result c z t
  by_event : takes z ≡ true → quiet z ≡ false → t ≡ ended_after (answer_to Keeping plain z).event (c + 1) (next Keeping plain z) → Result c z t

result_of : (rest c : ℕ) (z : Machine) → Ends rest z → Result c z (trying_on rest c z)
result_of rest c z (done e) = at_rest spent 0 refl (ap (λ (k : ℕ). trying_on k c z) e ∙ turn_spent c z)
result_of rest c z (refuses k e h) =
    at_rest refused (answer_to Keeping plain z).number refl (ap (λ (k : ℕ). trying_on k c z) e ∙ turn_refused k c z h)
result_of rest c z (excepts k e h l) = by_event h l (ap (λ (k : ℕ). trying_on k c z) e ∙ turn_ends k c z h l)

pub record Went (count : ℕ) (x : Machine) : Type 0 where
  pub calm : ℕ
  pub accepted : AllAccepted (plains calm) x
  pub quiet : AllCalm Keeping (plains calm) x
  pub left : Fit x → LeftMachine x (after_row Keeping (plains calm) x)
  pub result : Result calm (after_row Keeping (plains calm) x) (try_on count x)

module _ (count : ℕ) (x : Machine) where
  went_nowhere : (end number : ℕ) → (eqb end taken_exception || eqb end halt) ≡ false → try_on count x ≡ ended_at end number 0 x → Went count x
  went_nowhere end number k e =
      record { calm = 0; accepted = tt; quiet = tt; left = λ f. left_none x.board.window x.slots x.memory; result = at_rest end number k e }

  -- a try of calm steps and what follows them
  pub passed : (c : Course count x) → trying_on count 0 x ≡ trying_on c.rest c.calm (after_row Keeping (plains c.calm) x)
  passed c =
      let p : 0 + c.calm ≡ c.calm = omega arith in
      ap (λ (k : ℕ). trying_on k 0 x) c.whole
      ∙ through c.calm c.rest 0 x c.accepted c.quiet
      ∙ ap (λ (k : ℕ). trying_on c.rest k (after_row Keeping (plains c.calm) x)) p

  went_on : supervisor (sr_of x.slots) ≡ false → try_on count x ≡ trying_on count 0 x → Course count x → Went count x
  went_on u e c =
      let z = after_row Keeping (plains c.calm) x in
      record {
        calm = c.calm;
        accepted = c.accepted;
        quiet = c.quiet;
        left = λ f. user_calls_leave Keeping (plains c.calm) x f u c.quiet;
        result = subst (Result c.calm z) (sym (e ∙ passed c)) (result_of c.rest c.calm z c.ends);
      }

  pub went : Went count x
  went = go (eqb (first_number count x) 0) refl (supervisor (sr_of x.slots)) refl
    where
      go : (a : Bool) → eqb (first_number count x) 0 ≡ a → (b : Bool) → supervisor (sr_of x.slots) ≡ b → Went count x
      go false h b u = went_nowhere refused (first_number count x) refl (goes_refused count x h)
      go true h true u = went_nowhere supervised 0 refl (goes_supervised count x h u)
      go true h false u = went_on u (goes_on count x h u) (course_of count x)
