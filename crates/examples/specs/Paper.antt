-- Paper.antt - 01's examples marked P: what the definitions give, beside what 01 says.
-- The machine of the examples has 1,024 bytes of memory, the word at $200, PC $200 and SSP $400; 01 leaves these open [A59].
-- Held by: examples_hold of proofs/PaperLaws.antt.  Source: [01 Set down and proved].
use Rattle.std.specs.Prelude.{ℕ, ◌/◌, ◌%◌, ◌≡◌, List, [], ◌∷◌, ◌++◌, map, length, set, replicate, drop}
use Rattle.flags.specs.declared.Flagged.{Flagged}
use Rattle.bus.specs.Bus.{Board}
use Rattle.numbers.specs.Number.{number_bytes}
use Rattle.numbers.specs.Examples.{NumberRow, number_rows}
use Rattle.record.specs.Change.{step_record}
use Rattle.decimal.specs.Examples.{decimal_examples}
use Rattle.multiply_divide.specs.Examples.{signed_examples}
use Rattle.exception.specs.Exceptions.{Stepped}
use Rattle.step.specs.Steps.{one_step}

-- twenty slots: D0, A0 and SR as given, PC $200, SSP $400, all else 0  [ours]
abbrev pub slots : ℕ → ℕ → ℕ → ℕ → List ℕ
slots d0 a0 pc sr = d0 ∷ 0 ∷ 0 ∷ 0 ∷ 0 ∷ 0 ∷ 0 ∷ 0 ∷ a0 ∷ 0 ∷ 0 ∷ 0 ∷ 0 ∷ 0 ∷ 0 ∷ 0 ∷ 0x400 ∷ pc ∷ sr ∷ 0 ∷ []

-- 1,024 bytes with a word at $200  [ours]
abbrev pub memory : ℕ → List ℕ
memory w = set (set (replicate 1024 0) 0x200 (w / 256)) 0x201 (w % 256)

-- no ROM, and the window that hides nothing of a memory  [K7] [K10]
abbrev pub everything : List ℕ → Board
everything m = record { window = record { lo = 0; hi = length m }; rom = [] }

-- an example: a number and its bytes; a result; a byte with its flags; one step from slots over a word, with the slots after and its
-- record; one step that takes an exception, with its event and the frame on the stack  [ours]
pub data Example : Type 0 where
  number : ℕ → List ℕ → Example
  result : ℕ → ℕ → Example
  flagged : Flagged → Flagged → Example
  step : List ℕ → ℕ → List ℕ → List ℕ → Example
  taken : List ℕ → ℕ → ℕ → List ℕ → Example

-- one step over a word, without a request  [ours]
abbrev pub stepped : List ℕ → ℕ → Stepped
stepped s w = one_step (everything (memory w)) s (memory w) 0 0

-- what an example says  [ours]
abbrev pub says : Example → Type 0
says (number n bytes) = number_bytes n ≡ bytes
says (result got said) = got ≡ said
says (flagged got said) = got ≡ said
says (step s w after bytes) = ((stepped s w).s ≡ after) × (step_record s (stepped s w).s (memory w) (stepped s w).m ≡ bytes)
says (taken s w event frame) = ((stepped s w).event ≡ event) × (drop 0x3FA (stepped s w).m ≡ frame)

-- all of them  [ours]
abbrev pub Hold : List Example → Type 0
Hold [] = Unit {0}
Hold (e ∷ es) = says e × Hold es

-- steps: $7001, $60FE, $1080  [01 Set down and proved]
abbrev pub steps : List Example
steps =
    step (slots 0 0 0x200 0) 0x7001 (slots 1 0 0x202 0) (0x00 ∷ 0x00 ∷ 0x11 ∷ 0x04 ∷ 0x80 ∷ 0x02 ∷ 0x00 ∷ [])
    ∷ step (slots 0 0 0x200 0) 0x60FE (slots 0 0 0x200 0) (0x00 ∷ 0x00 ∷ [])
    ∷ step (slots 0xFF 0x300 0x200 0) 0x1080 (slots 0xFF 0x300 0x202 0x0008) (0x11 ∷ 0x04 ∷ 0x80 ∷ 0x12 ∷ 0x00 ∷ 0x06 ∷ 0x80 ∷ 0x00 ∷ 0x02 ∷ 0x01 ∷ [])
    ∷ []

-- $46FC in user state: vector 8, so event 9, and a frame with SR 0 and the instruction's own address  [01 Set down and proved]
abbrev pub exceptions : List Example
exceptions = taken (slots 0 0 0x200 0) 0x46FC 9 (0x00 ∷ 0x00 ∷ 0x00 ∷ 0x00 ∷ 0x02 ∷ 0x00 ∷ []) ∷ []

-- the one table: numbers, steps, DIVS and MULS, decimal, the exception; each part's data stand with their definitions
-- [01 The journal] [01 Set down and proved]
abbrev pub examples : List Example
examples =
    map (λ (r : NumberRow). number r.number r.bytes) number_rows
    ++ steps
    ++ map (λ (p : ℕ × ℕ). result p.0 p.1) signed_examples
    ++ map (λ (p : Flagged × Flagged). flagged p.0 p.1) decimal_examples
    ++ exceptions
