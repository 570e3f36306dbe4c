-- Part.antt - the part of memory or of ROM that holds an address and a length, for the fault page: where it is, its number, all that is promised.
-- Not here: refusals 1 and 12, which are a reset's (Calls.antt of the crate calls). The window plays no role.
-- Laws: proofs/PartLaws.antt.  Source: [K10], [01 How much each promise says].
use Rattle.std.specs.Prelude.{ℕ, ◌+◌, ◌-◌, ◌≤◌, ◌≡◌, Bool, ◌&&◌, List, [], ◌∷◌, length, take, drop, leb, eqb, Result, Ok, Err}
use Rattle.std.specs.Borrow.{Bor}
use Rattle.codes.specs.Codes.{RomStart}
use Rattle.bits.specs.Bits.{pick}
use Rattle.refusals.specs.declared.Refusal.{Refusal}
use Rattle.refusals.specs.Refusals.{refusal_number}
use Rattle.calls.specs.Calls.{reset_number}
use Rattle.calls.specs.Refusals.{Line, memory_line, rom_line}

-- so many bytes from a place on lie within n, none at the end included  [K10]
abbrev pub lies : ℕ → ℕ → ℕ → Bool
lies n place many = leb (place + many) n

-- where the part is: at a place of memory, at a place of the ROM, or refused  [K10]
pub data Where : Type 0 where
  in_memory : ℕ → Where
  in_rom : ℕ → Where
  refused : ℕ → Where

-- refusals 1 and 12 first, then memory, then the ROM, 13 where the part fits neither; the address is not cut  [K10]
unfoldable pub where_is : List ℕ → List ℕ → ℕ → ℕ → Where
where_is m rom address many =
    pick (eqb (reset_number m rom) 0)
    (pick (lies (length m) address many) (in_memory address)
    (pick (leb RomStart address && lies (length rom) (address - RomStart) many) (in_rom (address - RomStart)) (refused 13)))
    (refused (reset_number m rom))

-- the number of the refusal, or 0  [K10]
abbrev pub number_of : Where → ℕ
number_of (in_memory place) = 0
number_of (in_rom place) = 0
number_of (refused n) = n

-- the very part of a lent slice: it points into it, at that place, and shows that many of its bytes from there  [K10]
pub record PartOf (s : Bor (List ℕ)) (place many : ℕ) (r : Bor (List ℕ)) : Type 0 where
  pub block : r.ref_ptr.0 ≡ s.ref_ptr.0
  pub offset : r.ref_ptr.1 ≡ s.ref_ptr.1 + place
  pub bytes : r.now ≡ take many (drop place s.now)

-- of memory or of the ROM; a refused part is empty, at memory's start  [K10]
abbrev pub Placed : Where → Bor (List ℕ) → Bor (List ℕ) → ℕ → Bor (List ℕ) → Type 0
Placed (in_memory place) m rom many r = PartOf m place many r
Placed (in_rom place) m rom many r = PartOf rom place many r
Placed (refused n) m rom many r = PartOf m 0 0 r

-- what is found: the part, where it is said to be, or the refusal that is given  [K10]
abbrev pub Found : Where → Bor (List ℕ) → Bor (List ℕ) → ℕ → Result (Bor (List ℕ)) Refusal → Type 0
Found w m rom many (Ok r) = (number_of w ≡ 0) × Placed w m rom many r
Found w m rom many (Err refusal) = w ≡ refused (refusal_number refusal)

-- all that the call promises: its number, and the very part  [K10] [01 How much each promise says]
pub record PartPromise (m rom : Bor (List ℕ)) (address many number : ℕ) (r : Bor (List ℕ)) : Type 0 where
  pub number_is : number ≡ number_of (where_is m.now rom.now address many)
  pub part_is : Placed (where_is m.now rom.now address many) m rom many r

-- ---- its refusals

-- a part fits a slice of n bytes that begins at an address: it begins there or later, and ends within, the slice's end included  [K10]
pub record Fits (start n address many : ℕ) : Type 0 where
  pub from : start ≤ address
  pub to : address + many ≤ start + n

-- part gives 1, 12, and last 13 where the part fits neither  [K10]
abbrev pub part_table : List ℕ → List ℕ → ℕ → ℕ → List Line
part_table m rom address many =
    memory_line m
    ∷ rom_line rom m
    ∷ record { number = 13; applies = (Fits 0 (length m) address many → ⊥) × (Fits RomStart (length rom) address many → ⊥) }
    ∷ []

-- ---- what two answers share

-- two parts that are the same: block, offset and bytes  [K10]
pub record SamePart (r t : Bor (List ℕ)) : Type 0 where
  pub block : r.ref_ptr.0 ≡ t.ref_ptr.0
  pub offset : r.ref_ptr.1 ≡ t.ref_ptr.1
  pub bytes : r.now ≡ t.now
