-- PrintedLaws.antt - the printed tables of Appendix D held against ours: the 216 cells of D-2 and D-3, and the rows of D-10 that are not data here.
-- move_cells_short, move_cells_long; jsr_row, pea_row; lines_whole: every kind stands in its place.
-- Uses: decode.
use Prim.Native.Nat.{ℕ, ◌+◌, ◌*◌}
use mathlib.Core.Path.{◌≡◌, refl}
use mathlib.Core.List.{List, [], ◌∷◌, map}
use lib.ListN.{get_or}
use Rattle.clocks.specs.Tables.{operand_table, destination_table, lea_table, jmp_table}
use Rattle.clocks.specs.Lines.{Line, lines, last_line}

-- MOVE from row i to row j: z is 0 for a byte or word, 1 for a long
pub cell : ℕ → ℕ → ℕ → ℕ
cell z i j = get_or operand_table (i * 2 + z) 0 + get_or destination_table (j * 2 + z) 0

pub cells : ℕ → ℕ → List ℕ
cells z i = cell z i 0 ∷ cell z i 1 ∷ cell z i 2 ∷ cell z i 3 ∷ cell z i 4 ∷ cell z i 5 ∷ cell z i 6 ∷ cell z i 7 ∷ cell z i 8 ∷ []

pub table : ℕ → List (List ℕ)
table z =
    cells z 0 ∷ cells z 1 ∷ cells z 2 ∷ cells z 3 ∷ cells z 4 ∷ cells z 5 ∷ cells z 6 ∷ cells z 7 ∷ cells z 8 ∷ cells z 9 ∷ cells z 10 ∷ cells z 11 ∷ []

-- destinations Dn, An, (An), (An)+, -(An), d(An), d(An,ix), xxx.W, xxx.L  [003 D-2]
pub move_cells_short : table 0 ≡
    ((4 ∷ 4 ∷ 8 ∷ 8 ∷ 8 ∷ 12 ∷ 14 ∷ 12 ∷ 16 ∷ [])  -- from Dn
    ∷ (4 ∷ 4 ∷ 8 ∷ 8 ∷ 8 ∷ 12 ∷ 14 ∷ 12 ∷ 16 ∷ [])  -- from An
    ∷ (8 ∷ 8 ∷ 12 ∷ 12 ∷ 12 ∷ 16 ∷ 18 ∷ 16 ∷ 20 ∷ [])  -- from (An)
    ∷ (8 ∷ 8 ∷ 12 ∷ 12 ∷ 12 ∷ 16 ∷ 18 ∷ 16 ∷ 20 ∷ [])  -- from (An)+
    ∷ (10 ∷ 10 ∷ 14 ∷ 14 ∷ 14 ∷ 18 ∷ 20 ∷ 18 ∷ 22 ∷ [])  -- from -(An)
    ∷ (12 ∷ 12 ∷ 16 ∷ 16 ∷ 16 ∷ 20 ∷ 22 ∷ 20 ∷ 24 ∷ [])  -- from d(An)
    ∷ (14 ∷ 14 ∷ 18 ∷ 18 ∷ 18 ∷ 22 ∷ 24 ∷ 22 ∷ 26 ∷ [])  -- from d(An,ix)
    ∷ (12 ∷ 12 ∷ 16 ∷ 16 ∷ 16 ∷ 20 ∷ 22 ∷ 20 ∷ 24 ∷ [])  -- from xxx.W
    ∷ (16 ∷ 16 ∷ 20 ∷ 20 ∷ 20 ∷ 24 ∷ 26 ∷ 24 ∷ 28 ∷ [])  -- from xxx.L
    ∷ (12 ∷ 12 ∷ 16 ∷ 16 ∷ 16 ∷ 20 ∷ 22 ∷ 20 ∷ 24 ∷ [])  -- from d(PC)
    ∷ (14 ∷ 14 ∷ 18 ∷ 18 ∷ 18 ∷ 22 ∷ 24 ∷ 22 ∷ 26 ∷ [])  -- from d(PC,ix)
    ∷ (8 ∷ 8 ∷ 12 ∷ 12 ∷ 12 ∷ 16 ∷ 18 ∷ 16 ∷ 20 ∷ [])  -- from #
    ∷ [])
unfolding table cells cell
move_cells_short = refl

-- destinations Dn, An, (An), (An)+, -(An), d(An), d(An,ix), xxx.W, xxx.L  [003 D-3]
pub move_cells_long : table 1 ≡
    ((4 ∷ 4 ∷ 12 ∷ 12 ∷ 12 ∷ 16 ∷ 18 ∷ 16 ∷ 20 ∷ [])  -- from Dn
    ∷ (4 ∷ 4 ∷ 12 ∷ 12 ∷ 12 ∷ 16 ∷ 18 ∷ 16 ∷ 20 ∷ [])  -- from An
    ∷ (12 ∷ 12 ∷ 20 ∷ 20 ∷ 20 ∷ 24 ∷ 26 ∷ 24 ∷ 28 ∷ [])  -- from (An)
    ∷ (12 ∷ 12 ∷ 20 ∷ 20 ∷ 20 ∷ 24 ∷ 26 ∷ 24 ∷ 28 ∷ [])  -- from (An)+
    ∷ (14 ∷ 14 ∷ 22 ∷ 22 ∷ 22 ∷ 26 ∷ 28 ∷ 26 ∷ 30 ∷ [])  -- from -(An)
    ∷ (16 ∷ 16 ∷ 24 ∷ 24 ∷ 24 ∷ 28 ∷ 30 ∷ 28 ∷ 32 ∷ [])  -- from d(An)
    ∷ (18 ∷ 18 ∷ 26 ∷ 26 ∷ 26 ∷ 30 ∷ 32 ∷ 30 ∷ 34 ∷ [])  -- from d(An,ix)
    ∷ (16 ∷ 16 ∷ 24 ∷ 24 ∷ 24 ∷ 28 ∷ 30 ∷ 28 ∷ 32 ∷ [])  -- from xxx.W
    ∷ (20 ∷ 20 ∷ 28 ∷ 28 ∷ 28 ∷ 32 ∷ 34 ∷ 32 ∷ 36 ∷ [])  -- from xxx.L
    ∷ (16 ∷ 16 ∷ 24 ∷ 24 ∷ 24 ∷ 28 ∷ 30 ∷ 28 ∷ 32 ∷ [])  -- from d(PC)
    ∷ (18 ∷ 18 ∷ 26 ∷ 26 ∷ 26 ∷ 30 ∷ 32 ∷ 30 ∷ 34 ∷ [])  -- from d(PC,ix)
    ∷ (12 ∷ 12 ∷ 20 ∷ 20 ∷ 20 ∷ 24 ∷ 26 ∷ 24 ∷ 28 ∷ [])  -- from #
    ∷ [])
unfolding table cells cell
move_cells_long = refl

pub eight_more : List ℕ → List ℕ
eight_more [] = []
eight_more (x ∷ xs) = (x + 8) ∷ eight_more xs

-- JSR and PEA, where they are printed: (An), d(An), d(An,ix), xxx.W, xxx.L, d(PC), d(PC,ix)  [003 D-10]
pub printed : List ℕ → List ℕ
printed t = get_or t 2 0 ∷ get_or t 5 0 ∷ get_or t 6 0 ∷ get_or t 7 0 ∷ get_or t 8 0 ∷ get_or t 9 0 ∷ get_or t 10 0 ∷ []

pub jsr_row : eight_more (printed jmp_table) ≡ 16 ∷ 18 ∷ 22 ∷ 18 ∷ 20 ∷ 18 ∷ 22 ∷ []
unfolding eight_more printed
jsr_row = refl

pub pea_row : eight_more (printed lea_table) ≡ 12 ∷ 16 ∷ 20 ∷ 16 ∷ 20 ∷ 16 ∷ 20 ∷ []
unfolding eight_more printed
pea_row = refl

-- the kinds in their order, CHK the last
pub lines_whole : map (λ (e : ℕ × Line). e.0) lines ≡
    0 ∷ 1 ∷ 2 ∷ 3 ∷ 4 ∷ 5 ∷ 6 ∷ 7 ∷ 8 ∷ 9 ∷ 10 ∷ 11 ∷ 12 ∷ 13 ∷ 14 ∷ 15 ∷ 16 ∷ 17 ∷ 18 ∷ 19 ∷ 20 ∷ 21 ∷ 22 ∷ 23 ∷ 24 ∷ 25 ∷ 26 ∷ 27 ∷ 28 ∷ 29
    ∷ 30 ∷ 31 ∷ 32 ∷ 33 ∷ 34 ∷ 35 ∷ 36 ∷ 37 ∷ 38 ∷ 39 ∷ 40 ∷ 41 ∷ 42 ∷ 43 ∷ 44 ∷ 45 ∷ 46 ∷ 47 ∷ 48 ∷ 49 ∷ 50 ∷ 51 ∷ 52 ∷ 53 ∷ 54 ∷ 55 ∷ 56 ∷
    57 ∷ 58 ∷ 59 ∷ 60 ∷ 61 ∷ 62 ∷ 63 ∷ 64 ∷ 65 ∷ 66 ∷ 67 ∷ 68 ∷ 69 ∷ 70 ∷ 71 ∷ 72 ∷ 73 ∷ 74 ∷ 75 ∷ 76 ∷ 77 ∷ 78 ∷ 79 ∷ 80 ∷ 81 ∷ 82 ∷ 83 ∷ 84
    ∷ 85 ∷ 86 ∷ 87 ∷ []
lines_whole = refl

pub last_kind : last_line.0 ≡ 88
last_kind = refl
