-- Examples.antt - 01's examples of DIVS and MULS as data: what the definition gives, beside what 01 says. Flags before are all 0.
-- Held by: examples_hold of proofs/ResultLaws.antt.
-- Source: [01 Set down and proved].
use Rattle.std.specs.Prelude.{ℕ, List, [], ◌∷◌}
use Rattle.multiply_divide.specs.MultiplyDivide.{divide_signed, multiply_signed}

-- DIVS -7 by 2; MULS $8000 by $8000  [01 Set down and proved]
abbrev pub signed_examples : List (ℕ × ℕ)
signed_examples =
    ((divide_signed 0xFFFFFFF9 0x0002 0).value, 0xFFFFFFFD) ∷ ((multiply_signed 0x8000 0x8000 0).value, 0x40000000) ∷ []
