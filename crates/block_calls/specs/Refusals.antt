-- Refusals.antt - the tables of refusals of the calls from C: 9 before the lines of 01's tables, at the slots that the block holds.
-- Not here: what a call gives back (Calls.antt), 01's tables (Refusals.antt of the crate calls).
-- Laws: proofs/RefusalLaws.antt.  Source: [K1], [K5], [K7], [K10].
use Rattle.std.specs.Prelude.{ℕ, ◌≡◌, List, ◌∷◌, length}
use Rattle.bus.specs.Bus.{Board}
use Rattle.calls.specs.declared.Manner.{Manner}
use Rattle.calls.specs.Refusals.{Line, reset_table, step_table, run_table, undo_table}
use Rattle.block.specs.Block.{block_length, slots_in}
use Rattle.block_calls.specs.Calls.{no_block}

-- the block is not 80 bytes long  [K1]
abbrev pub block_line : List ℕ → Line
block_line b = record { number = no_block; applies = length b ≡ block_length → ⊥ }

-- reset gives 9, 1 and 12  [K1] [K10]
abbrev pub ibz_reset_table : List ℕ → List ℕ → List ℕ → List Line
ibz_reset_table b m rom = block_line b ∷ reset_table m rom

-- step gives 9, 1, 12, 2, 10, 3 to 6, and 8 where it may drop records  [K1] [K5] [K7] [K10]
abbrev pub ibz_step_table : Manner → List ℕ → Board → List ℕ → ℕ → List ℕ → ℕ → List Line
ibz_step_table w b board m level j mark = block_line b ∷ step_table w board (slots_in b) m level j mark

-- run gives 9, 1, 12, 2, 10, 3 and 4, in either manner  [K1] [K7] [K10]
abbrev pub ibz_run_table : List ℕ → Board → List ℕ → ℕ → List ℕ → ℕ → List Line
ibz_run_table b board m budget j mark = block_line b ∷ run_table board (slots_in b) m budget j mark

-- undo gives 9, 1, 12, 2, 10, 4, 7 and 8  [K1] [K7] [K10]
abbrev pub ibz_undo_table : List ℕ → Board → List ℕ → List ℕ → ℕ → List Line
ibz_undo_table b board m j mark = block_line b ∷ undo_table board (slots_in b) m j mark
