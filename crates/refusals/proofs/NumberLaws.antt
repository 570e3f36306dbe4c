-- NumberLaws.antt - a refusal's number is never 0, by which a call that is done is told from one that is refused; and no two have the same one.
-- refusal_some; refusal_once, given_once: the number of a judgment tells all of it.
use Prim.Native.Nat.{ℕ}
use mathlib.Core.Path.{◌≡◌, refl, sym, ap, ◌∙◌}
use lib.Dec.{eqb}
use Rattle.std.specs.Prelude.{Result, Ok, Err, if◌then◌else◌}
use Rattle.refusals.specs.declared.Refusal.{Refusal}
use Rattle.refusals.specs.declared.Refusal.TheVariants.{Memory, State, TooHigh, Mark, NoRoom, Halted, NothingToUndo, Torn, Block, Window, ShortTarget, Rom, NoPart}
use Rattle.refusals.specs.Refusals.{refusal_number, number_given}

pub refusal_some : (e : Refusal) → refusal_number e ≡ 0 → ⊥
refusal_some Memory z = cc
refusal_some State z = cc
refusal_some TooHigh z = cc
refusal_some Mark z = cc
refusal_some NoRoom z = cc
refusal_some Halted z = cc
refusal_some NothingToUndo z = cc
refusal_some Torn z = cc
refusal_some Block z = cc
refusal_some Window z = cc
refusal_some ShortTarget z = cc
refusal_some Rom z = cc
refusal_some NoPart z = cc

-- the refusal that has a number
abbrev named : ℕ → Refusal
named n =
    if eqb n 1 then Memory else
    if eqb n 2 then State else
    if eqb n 3 then TooHigh else
    if eqb n 4 then Mark else
    if eqb n 5 then NoRoom else
    if eqb n 6 then Halted else
    if eqb n 7 then NothingToUndo else
    if eqb n 8 then Torn else
    if eqb n 9 then Block else
    if eqb n 10 then Window else
    if eqb n 11 then ShortTarget else
    if eqb n 12 then Rom else
    NoPart

named_is : (e : Refusal) → named (refusal_number e) ≡ e
named_is Memory = refl
named_is State = refl
named_is TooHigh = refl
named_is Mark = refl
named_is NoRoom = refl
named_is Halted = refl
named_is NothingToUndo = refl
named_is Torn = refl
named_is Block = refl
named_is Window = refl
named_is ShortTarget = refl
named_is Rom = refl
named_is NoPart = refl

pub refusal_once : (d e : Refusal) → refusal_number d ≡ refusal_number e → d ≡ e
refusal_once d e h = sym (named_is d) ∙ ap named h ∙ named_is e

pub given_once : (x y : Result (Unit {0}) Refusal) → number_given x ≡ number_given y → x ≡ y
given_once (Ok a) (Ok b) h = refl
given_once (Ok a) (Err e) h = absurd (refusal_some e (sym h))
given_once (Err d) (Ok b) h = absurd (refusal_some d h)
given_once (Err d) (Err e) h = ap Err (refusal_once d e h)
