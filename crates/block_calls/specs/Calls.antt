-- Calls.antt - reset, step, run and undo from C: the machine's calls on the slots that the block holds, and refusal 9 before all others.
-- After a call the block holds the returned state; at 9 nothing is read, judged or altered. Step and run go by a manner, as the machine's.
-- Uses: bits, block, calls.  Laws: proofs/.  Source: [K1], [K2], [K5], [K7], [K10].
use Rattle.std.specs.Prelude.{ℕ, Bool, List, length, eqb}
use Rattle.bits.specs.Bits.{pick}
use Rattle.bus.specs.Bus.{Board}
use Rattle.calls.specs.declared.Manner.{Manner}
use Rattle.calls.specs.declared.ResetAnswer.{ResetAnswer}
use Rattle.calls.specs.declared.StepAnswer.{StepAnswer}
use Rattle.calls.specs.declared.RunAnswer.{RunAnswer}
use Rattle.calls.specs.declared.UndoAnswer.{UndoAnswer}
use Rattle.calls.specs.Calls.{reset_call, reset_answer, step_call, run_call, undo_call}
use Rattle.block.specs.Block.{block_length, slots_in, block_of}

-- the refusal of a block of another length  [K1]
abbrev pub no_block : ℕ
no_block = 9

-- refusal 9 is given exactly when this does not hold  [K1]
abbrev pub block_fits : List ℕ → Bool
block_fits b = eqb (length b) block_length

-- ---- reset

-- the block after a reset, and its answer; memory and ROM are only read  [ours]
pub record IbzReset : Type 0 where
  pub b : List ℕ
  pub a : ResetAnswer

-- the machine's reset, its slots put into the block; at 9 the block stays, and the window is none  [K1] [K7] [K10]
unfoldable pub ibz_reset : List ℕ → List ℕ → List ℕ → IbzReset
ibz_reset b m rom =
    pick (block_fits b)
    (record { b = block_of (reset_call m rom); a = reset_answer m rom })
    (record { b = b; a = record { number = no_block; lo = 0; hi = 0 } })

-- ---- step, run and undo

-- block, memory and journal after a call, and its answer  [ours]
pub record OnBlock (A : Type 0) : Type 0 where
  pub b : List ℕ
  pub m : List ℕ
  pub j : List ℕ
  pub a : A

-- a call on block b, memory m and journal j that leaves slots s₁, memory m₁, journal j₁ and gives a; at 9 all stays  [K1]
abbrev pub on_block : {A : Type 0} → List ℕ → List ℕ → List ℕ → (ℕ → A) → List ℕ → List ℕ → List ℕ → A → OnBlock A
on_block b m j refusal s₁ m₁ j₁ a =
    pick (block_fits b)
    (record { b = block_of s₁; m = m₁; j = j₁; a = a })
    (record { b = b; m = m; j = j; a = refusal no_block })

-- the answer of a refused step: its number, the mark as given, 0 for the rest  [01 Calls, table] [K2] [K5]
abbrev pub step_refusal : ℕ → ℕ → StepAnswer
step_refusal mark n = record { number = n; event = 0; mark = mark; clocks = 0; moved = 0; dropped = 0 }

-- the answer of a refused run: likewise  [01 Calls, table] [K2] [K5]
abbrev pub run_refusal : ℕ → ℕ → RunAnswer
run_refusal mark n = record { number = n; reason = 0; mark = mark; steps = 0; clocks = 0; moved = 0; dropped = 0 }

-- the answer of a refused undo: likewise  [01 Calls, table]
abbrev pub undo_refusal : ℕ → ℕ → UndoAnswer
undo_refusal mark n = record { number = n; mark = mark }

-- the machine's step on the slots that the block holds, in either manner  [K1] [K5] [K7]
unfoldable pub ibz_step : Manner → List ℕ → Board → List ℕ → ℕ → ℕ → List ℕ → ℕ → OnBlock StepAnswer
ibz_step w b board m level vector j mark =
    let c = step_call w board (slots_in b) m level vector j mark in on_block b m j (step_refusal mark) c.s c.m c.j c.a

-- the machine's run on them, in either manner  [K1] [K5] [K7]
unfoldable pub ibz_run : Manner → List ℕ → Board → List ℕ → ℕ → ℕ → List ℕ → ℕ → OnBlock RunAnswer
ibz_run w b board m budget stop j mark =
    let c = run_call w board (slots_in b) m budget stop j mark in on_block b m j (run_refusal mark) c.s c.m c.j c.a

-- the machine's undo on them; it only reads the journal  [K1] [K7]
unfoldable pub ibz_undo : List ℕ → Board → List ℕ → List ℕ → ℕ → OnBlock UndoAnswer
ibz_undo b board m j mark =
    let c = undo_call board (slots_in b) m j mark in on_block b m j (undo_refusal mark) c.s c.m j c.a
