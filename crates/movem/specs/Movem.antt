-- Movem.antt - MOVEM as walks along a list of 16 bits, lowest bit first: registers loaded, room asked, registers stored; and MOVEP's store.
-- Choices: nothing past a list is read, and an empty list touches no operand [01 Operands]; a block that cannot be written faults at the
-- first of its writes in the manual's order, downward from A7 for -(An): specs/Order.antt has that order.
-- Laws: proofs/MovemLaws.antt, proofs/BlockLaws.antt.  Beside it: specs/Whole.antt, by which a block that lies in memory as a whole is told and stored.
-- Source: [003 B MOVEM], [003 B MOVEP], [01 step 6], [01 Operands], [K6].
use Rattle.std.specs.Prelude.{ℕ, ◌+◌, ◌-◌, ◌*◌, ◌/◌, ◌%◌, Bool, List, [], ◌∷◌, ◌==◌, nat_le, slice_index_or}
use Rattle.std.specs.Int.Count.{ones_in}
use Rattle.codes.specs.Codes.{Byte, A0, NoRegister, BlockUp, BlockDown, EveryOther, Upward, Downward, Predecrement}
use Rattle.codes.specs.Fields.{ea_mode, ea_register, long_bit, long_or_word}
use Rattle.bits.specs.Bits.{pick, iter, plus, minus, sign_extended}
use Rattle.bus.specs.declared.Flow.{Flow}
use Rattle.bus.specs.Bus.{View, read_sized, next_word, room, put_sized}
use Rattle.operand.specs.Operands.{get, put, locate}
use Rattle.plan.specs.declared.Plan.{Plan}
use Rattle.plan.specs.Plans.{Done, nothing, writing}
use Rattle.movem.specs.declared.Way.{Way}
use Rattle.movem.specs.declared.Spot.{Spot}

-- whether the list has the part at which a walk stands  [003 B MOVEM]
abbrev pub listed : Spot → Bool
listed d = d.list % 2 == 1

-- where a walk begins  [ours]
abbrev pub first_spot : Way → Flow → Spot
first_spot w f = record { list = w.list; index = 0; at = w.start; flow = f }

-- where it stands after one bit of its list  [ours]
unfoldable pub next_spot : Way → Spot → Flow → Spot
next_spot w d f = record { list = d.list / 2; index = plus d.index 1; at = pick (listed d) (plus d.at w.step) d.at; flow = f }

-- what a walk changes, registers or memory, and where it stands  [ours]
pub record Walk : Type 0 where
  pub held : List ℕ
  pub spot : Spot

-- one register, if the list has it: bit 0 is D0, bit 8 A0; a word is carried on to 32 bits  [003 B MOVEM] [01 Operands]
unfoldable pub load_one : View → ℕ → Way → Walk → Walk
load_one v k w t =
    let d = t.spot in
    let y = read_sized v d.at w.size k d.flow in
    pick (listed d) (record { held = put t.held d.index (sign_extended y.value w.size); spot = next_spot w d y.flow })
    (record { held = t.held; spot = next_spot w d d.flow })

-- all sixteen  [003 B MOVEM]
abbrev pub load_list : List ℕ → View → ℕ → Way → Flow → Walk
load_list r v k w f = iter (load_one v k w) 16 (record { held = r; spot = first_spot w f })

-- MOVEM to registers: the list's word, then the mode's words; (An)+ leaves An at the final address even if An was listed
-- [003 B MOVEM] [01 Operands]
unfoldable pub movem_to_registers : List ℕ → View → ℕ → Flow → Done
movem_to_registers r v op f =
    let z = long_or_word op in
    let l = next_word v f in
    let q = locate r v (ea_mode op) (ea_register op) z l.flow in
    let t = load_list r v q.access (record { size = z; list = l.value; start = q.at; step = 2 * z }) q.flow in
    record { r = put t.held q.reg t.spot.at; p = nothing t.spot.flow }

-- MOVEM to -(An): An falls by the size for each one of the list, and its first value goes into the plan  [003 B MOVEM] [01 Operands]
unfoldable pub movem_down : List ℕ → ℕ → ℕ → Flow → Done
movem_down r list op f =
    let i = A0 + ea_register op in
    let a = get r i in
    record { r = put r i (minus a (ones_in 16 list * 2 * (long_or_word op))); p = writing (BlockDown + long_bit op) a (list % 65536 + 65536 * i) f }

-- MOVEM to memory: the list's word, then the mode's words  [003 B MOVEM]
unfoldable pub movem_to_memory : List ℕ → View → ℕ → Flow → Done
movem_to_memory r v op f =
    let l = next_word v f in
    let q = locate r v (ea_mode op) (ea_register op) (long_or_word op) l.flow in
    pick (ea_mode op == Predecrement)
    (movem_down r l.value op l.flow)
    (record { r = r; p = writing (BlockUp + long_bit op) q.at (l.value + 65536 * NoRegister) q.flow })

-- a plan's block as its room is asked: upward, downward from A7, else every other byte  [003 B MOVEM] [003 B MOVEP]
unfoldable pub room_way : Plan → Way
room_way p =
    let z = 1 + p.write % 2 in
    pick (p.write / 2 == Upward) (record { size = z; list = p.value % 65536; start = p.at; step = 2 * z })
    (pick (p.write / 2 == Downward) (record { size = z; list = p.value % 65536; start = minus p.at (2 * z); step = minus 0 (2 * z) })
    (record { size = Byte; list = 3 + p.write % 2 * 12; start = p.at; step = 2 }))

-- one part of a block, if the list has it: is there room  [01 step 6]
unfoldable pub room_one : View → Way → Spot → Spot
room_one v w d = next_spot w d (pick (listed d) (room v d.at w.size d.flow) d.flow)

-- all of a block  [01 step 6]
abbrev pub room_list : View → Way → Flow → Spot
room_list v w f = iter (room_one v w) 16 (first_spot w f)

-- the flow with the fault that a block's writes meet first, if any  [01 step 6] [003 B MOVEM]
unfoldable pub block_room : View → Plan → Flow
block_room v p = (room_list v (room_way p) p.flow).flow

-- eight bits in the other order  [003 B MOVEM]
abbrev pub mirrored_byte : ℕ → ℕ
mirrored_byte x = x % 2 * 128 + x / 2 % 2 * 64 + x / 4 % 2 * 32 + x / 8 % 2 * 16 + x / 16 % 2 * 8 + x / 32 % 2 * 4 + x / 64 % 2 * 2 + x / 128 % 2

-- the low sixteen bits in the other order: the list of -(An) begins with A7  [003 B MOVEM]
unfoldable pub mirrored : ℕ → ℕ
mirrored x = mirrored_byte x * 256 + mirrored_byte (x / 256)

-- a plan's block as it is stored, its start from the count of the list's ones. That of -(An) goes upward too, from where An ended: no two of
-- its parts meet, so that memory is the same as after 003's order, block_put_down of specs/Order.antt  [003 B MOVEM] [01 Operands] [K6]
unfoldable pub put_way : Plan → Way
put_way p =
    let z = 1 + p.write % 2 in
    pick (p.write / 2 == Downward)
    (record { size = z; list = mirrored p.value; start = minus p.at (ones_in 16 p.value * 2 * z); step = 2 * z })
    (room_way p)

-- register i as MOVEM stores it: the one that -(An) lowered, `own`, by its first value  [01 Operands]
unfoldable pub stored : List ℕ → ℕ → ℕ → ℕ → ℕ
stored r first own i = pick (i == own) first (get r i)

-- the bytes of a long, high byte first, each as the low byte of a number  [003 B MOVEP]
unfoldable pub byte_of : ℕ → ℕ → ℕ
byte_of v j = slice_index_or (v / 16777216 ∷ v / 65536 ∷ v / 256 ∷ []) j v

-- what a block has at place k of its list: MOVEM's register k, MOVEP's byte k, of which a word has only the last two  [003 B MOVEM] [003 B MOVEP]
unfoldable pub part_of : List ℕ → Plan → ℕ → ℕ
part_of r p k = pick (nat_le EveryOther p.write) (byte_of p.value (k % 16 + 2 - p.write % 2 * 2)) (stored r p.at (p.value / 65536) k)

-- memory after one part of a block, if the list has it  [003 B MOVEM] [003 B MOVEP]
unfoldable pub put_part : List ℕ → Plan → Way → Spot → List ℕ → List ℕ
put_part r p w d m = pick (listed d) (put_sized m d.at w.size (part_of r p d.index)) m

-- one bit of the list: memory, and where the walk stands  [ours]
unfoldable pub put_one : List ℕ → Plan → Way → Walk → Walk
put_one r p w t = record { held = put_part r p w t.spot t.held; spot = next_spot w t.spot p.flow }

-- memory after a block's writes  [003 B MOVEM] [003 B MOVEP]
unfoldable pub block_put : List ℕ → List ℕ → Plan → List ℕ
block_put m r p = let w = put_way p in (iter (put_one r p w) 16 (record { held = m; spot = first_spot w p.flow })).held
