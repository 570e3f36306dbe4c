-- Same.antt - what a comparison of two lists has to tell.
-- Met by: src/lib.rt.
-- Source: [ours].
use Rattle.std.specs.Prelude.{ℕ, ◌≡◌, List, Bool, true}

-- An answer that is true exactly where two lists are equal. [ours]
abbrev pub TellsSame : Bool → List ℕ → List ℕ → Type 0
TellsSame r a b = (r ≡ true → a ≡ b) × (a ≡ b → r ≡ true)
