-- Refusals.antt - the table of a try's first step: the numbers that it can give, in order, and when each applies.
-- Not here: what a try gives back (Tries.antt), the lines that the calls share (Refusals.antt of the crate calls).
-- Laws: proofs/RefusalLaws.antt.  Source: [K7], [K10], [01 Calls and what they give back].
use Rattle.std.specs.Prelude.{ℕ, ◌<◌, ◌≡◌, List, [], ◌∷◌}
use Rattle.codes.specs.Codes.{Halted, MostSteps}
use Rattle.bus.specs.Bus.{Board}
use Rattle.bank.specs.Bank.{mode_of}
use Rattle.calls.specs.declared.Manner.TheVariants.{Keeping}
use Rattle.calls.specs.Refusals.{Line, first_lines, mark_line, NoRoom}

-- 1, 12, 2, 10 and 3 to 6; 3 is a count above a run's  [K7] [K10] [01 Calls, table]
abbrev pub try_table : Board → List ℕ → List ℕ → ℕ → List ℕ → ℕ → List Line
try_table board s m count j mark =
    first_lines board s m
    (record { number = 3; applies = MostSteps < count }
    ∷ mark_line j mark
    ∷ record { number = 5; applies = NoRoom Keeping j mark }
    ∷ record { number = 6; applies = mode_of s ≡ Halted }
    ∷ [])
