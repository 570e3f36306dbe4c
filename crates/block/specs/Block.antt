-- Block.antt - the state as a block of bytes: twenty slots in order, four bytes each, high byte first.
-- Met by: src/lib.rt.  Laws: proofs/BlockLaws.antt.
-- Uses: record.  Source: [K1].
use Rattle.std.specs.Prelude.{ℕ, zero, suc, ◌+◌, ◌*◌, ◌/◌, ◌%◌, List, [], ◌∷◌, ◌++◌, get_or, drop}
use Rattle.codes.specs.Codes.{Slots}
use Rattle.record.specs.Limits.{slot_limit}

-- the bytes of a block  [K1]
abbrev pub block_length : ℕ
block_length = 4 * Slots

-- the slot of four bytes, high byte first  [K1]
abbrev pub slot_of : ℕ → ℕ → ℕ → ℕ → ℕ
slot_of a b c d = a * 0x1000000 + b * 0x10000 + c * 0x100 + d

-- the four bytes of a slot, high byte first  [K1]
abbrev pub slot_bytes : ℕ → List ℕ
slot_bytes v = v / 0x1000000 ∷ v / 0x10000 % 0x100 ∷ v / 0x100 % 0x100 ∷ v % 0x100 ∷ []

-- the slot of the four bytes from a place on  [ours]
abbrev pub slot_at : List ℕ → ℕ → ℕ
slot_at b at = slot_of (get_or b at 0) (get_or b (at + 1) 0) (get_or b (at + 2) 0) (get_or b (at + 3) 0)

-- the first n slots, in order  [K1]
unfoldable pub slots_from : ℕ → List ℕ → List ℕ
slots_from zero b = []
slots_from (suc n) b = slot_at b 0 ∷ slots_from n (drop 4 b)

-- the twenty slots that a block holds  [K1]
abbrev pub slots_in : List ℕ → List ℕ
slots_in b = slots_from slot_limit b

-- the block that holds these slots, in order  [K1]
unfoldable pub block_of : List ℕ → List ℕ
block_of [] = []
block_of (v ∷ vs) = slot_bytes v ++ block_of vs
