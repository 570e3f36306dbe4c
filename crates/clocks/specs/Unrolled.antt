-- Unrolled.antt - the times of a byte's or word's MOVE, by the six bits of the operation word that name its source, and its destination.
-- For speed alone: one look each, and no row has to be worked out first. A row here is a mode (source) or a register number (destination).
-- Held by: sources_are, destinations_are of proofs/UnrolledLaws.antt, which say that these are D-1's and D-2's.  Source: [003 D-1], [003 D-2].
use Rattle.std.specs.Prelude.{ℕ, List, [], ◌∷◌}

-- mode times 8, and the register  [003 D-1] [D59]
abbrev pub source_rows : List ℕ
source_rows =
    0 ∷ 0 ∷ 0 ∷ 0 ∷ 0 ∷ 0 ∷ 0 ∷ 0
    ∷ 0 ∷ 0 ∷ 0 ∷ 0 ∷ 0 ∷ 0 ∷ 0 ∷ 0
    ∷ 4 ∷ 4 ∷ 4 ∷ 4 ∷ 4 ∷ 4 ∷ 4 ∷ 4
    ∷ 4 ∷ 4 ∷ 4 ∷ 4 ∷ 4 ∷ 4 ∷ 4 ∷ 4
    ∷ 6 ∷ 6 ∷ 6 ∷ 6 ∷ 6 ∷ 6 ∷ 6 ∷ 6
    ∷ 8 ∷ 8 ∷ 8 ∷ 8 ∷ 8 ∷ 8 ∷ 8 ∷ 8
    ∷ 10 ∷ 10 ∷ 10 ∷ 10 ∷ 10 ∷ 10 ∷ 10 ∷ 10
    ∷ 8 ∷ 12 ∷ 8 ∷ 10 ∷ 4 ∷ 0 ∷ 0 ∷ 0
    ∷ []

-- register times 8, and the mode  [003 D-2] [D59]
abbrev pub destination_rows : List ℕ
destination_rows =
    4 ∷ 4 ∷ 8 ∷ 8 ∷ 8 ∷ 12 ∷ 14 ∷ 12
    ∷ 4 ∷ 4 ∷ 8 ∷ 8 ∷ 8 ∷ 12 ∷ 14 ∷ 16
    ∷ 4 ∷ 4 ∷ 8 ∷ 8 ∷ 8 ∷ 12 ∷ 14 ∷ 0
    ∷ 4 ∷ 4 ∷ 8 ∷ 8 ∷ 8 ∷ 12 ∷ 14 ∷ 0
    ∷ 4 ∷ 4 ∷ 8 ∷ 8 ∷ 8 ∷ 12 ∷ 14 ∷ 0
    ∷ 4 ∷ 4 ∷ 8 ∷ 8 ∷ 8 ∷ 12 ∷ 14 ∷ 0
    ∷ 4 ∷ 4 ∷ 8 ∷ 8 ∷ 8 ∷ 12 ∷ 14 ∷ 0
    ∷ 4 ∷ 4 ∷ 8 ∷ 8 ∷ 8 ∷ 12 ∷ 14 ∷ 0
    ∷ []
