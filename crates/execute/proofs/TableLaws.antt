-- TableLaws.antt - the table of specs/Table.antt holds of `dispatch`, and has every kind in its place; both by computing.
-- table_holds, table_whole.
-- Uses: decode.
use Rattle.std.proofs.Common.{◌≡◌, ℕ, [], ◌∷◌, map, refl}
use Rattle.execute.specs.Dispatch.{Instruction, refused_kind, movement_kind, integer_kind, logical_kind, control_kind, system_kind, dispatch}
use Rattle.execute.specs.Table.{table}

pub table_holds : map (λ (e : ℕ × Instruction). dispatch e.0) table ≡ map (λ (e : ℕ × Instruction). e.1) table
unfolding dispatch refused_kind movement_kind integer_kind logical_kind control_kind system_kind
table_holds = refl

pub table_whole : map (λ (e : ℕ × Instruction). e.0) table ≡
    0 ∷ 1 ∷ 2 ∷ 3 ∷ 4 ∷ 5 ∷ 6 ∷ 7 ∷ 8 ∷ 9 ∷ 10 ∷ 11 ∷ 12 ∷ 13 ∷ 14 ∷ 15 ∷ 16 ∷ 17 ∷ 18 ∷ 19 ∷ 20 ∷ 21 ∷ 22 ∷ 23 ∷ 24 ∷ 25 ∷ 26 ∷ 27 ∷ 28 ∷ 29 ∷
    30 ∷ 31 ∷ 32 ∷ 33 ∷ 34 ∷ 35 ∷ 36 ∷ 37 ∷ 38 ∷ 39 ∷ 40 ∷ 41 ∷ 42 ∷ 43 ∷ 44 ∷ 45 ∷ 46 ∷ 47 ∷ 48 ∷ 49 ∷ 50 ∷ 51 ∷ 52 ∷ 53 ∷ 54 ∷ 55 ∷ 56 ∷ 57 ∷
    58 ∷ 59 ∷ 60 ∷ 61 ∷ 62 ∷ 63 ∷ 64 ∷ 65 ∷ 66 ∷ 67 ∷ 68 ∷ 69 ∷ 70 ∷ 71 ∷ 72 ∷ 73 ∷ 74 ∷ 75 ∷ 76 ∷ 77 ∷ 78 ∷ 79 ∷ 80 ∷ 81 ∷ 82 ∷ 83 ∷ 84 ∷ 85 ∷
    86 ∷ 87 ∷ 88 ∷ []
table_whole = refl
