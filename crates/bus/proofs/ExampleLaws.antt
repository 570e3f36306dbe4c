-- ExampleLaws.antt - the window's edges and the ROM's, held by computing.
-- examples_hold, rom_examples_hold.
-- Source: [K7], [K10].
use Rattle.std.proofs.Common.{◌≡◌, ℕ, List, map, refl}
use Rattle.bus.specs.Bus.{all_of, seen_by}
use Rattle.bus.specs.Examples.{window_examples, rom_examples}

pub examples_hold : map (λ (e : List ℕ × List ℕ). e.0) window_examples ≡ map (λ (e : List ℕ × List ℕ). e.1) window_examples
unfolding all_of seen_by
examples_hold = refl

pub rom_examples_hold : map (λ (e : List ℕ × List ℕ). e.0) rom_examples ≡ map (λ (e : List ℕ × List ℕ). e.1) rom_examples
unfolding all_of seen_by
rom_examples_hold = refl
