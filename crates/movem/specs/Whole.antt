-- Whole.antt - a block that lies in memory as a whole: what tells it, and how its list is walked from one to the next. No public promise speaks of
-- it: laws say that room and memory are those of specs/Movem.antt.
-- Laws: proofs/FitsLaws.antt; WholeLaws, ValueLaws of the crate blocks.  Source: [K6], [K7], [003 B MOVEM].
use Rattle.std.specs.Prelude.{◌≡◌, ℕ, ◌+◌, ◌*◌, ◌/◌, ◌%◌, ◌^◌, ◌<◌, ◌≤◌, Bool, ◌&&◌, List, ◌==◌, nat_le, nat_lt, slice_index}
use Rattle.std.specs.Int.Count.{ones_in, count_trailing_zeros}
use Rattle.codes.specs.Codes.{Addresses, BlockUp, EveryOther}
use Rattle.bits.specs.Bits.{pick, iter, plus}
use Rattle.bus.specs.declared.Flow.{Flow}
use Rattle.bus.specs.Bus.{pins, put_sized}
use Rattle.plan.specs.declared.Plan.{Plan}
use Rattle.movem.specs.declared.Way.{Way}
use Rattle.movem.specs.declared.Spot.{Spot}
use Rattle.movem.specs.Movem.{listed, first_spot, next_spot, Walk, put_way}

-- whether a block of words lies as a whole from one address to below another, by its start and its count alone, and not round the top of
-- the addresses. block_room_when_fits of proofs/FitsLaws.antt says that then none of its writes meets a fault  [K6] [K7]
unfoldable pub fits : ℕ → ℕ → Plan → Bool
fits lo hi p =
    let w = put_way p in
    let end = pins w.start + ones_in 16 p.value * w.step in
    ((((nat_le BlockUp p.write && nat_lt p.write EveryOther) && w.start % 2 == 0) && nat_le lo (pins w.start)) && nat_le end hi) && nat_le end Addresses

-- where a walk stands at the next one of a list that has one  [ours]
unfoldable pub skipped : Spot → Spot
skipped d = let z = count_trailing_zeros 32 d.list in record { list = d.list / 2 ^ z; index = plus d.index z; at = d.at; flow = d.flow }

-- where it stands after a one of its list  [ours]
unfoldable pub passed : Way → Spot → Spot
passed w d = record { list = d.list / 2; index = plus d.index 1; at = plus d.at w.step; flow = d.flow }

-- a way whose words lie as a whole in a memory of that length  [K6]
pub record Inside (len : ℕ) (w : Way) : Type 0 where
  pub part : (1 ≤ w.size) × (w.size ≤ 2)
  pub close : w.step ≡ 2 * w.size
  pub short : w.list < 65536
  pub within : pins w.start + ones_in 16 w.list * w.step ≤ len

-- one bit of a list: the value of its place is put, if the list has it  [ours]
unfoldable pub put_value : List ℕ → Way → Flow → Walk → Walk
put_value t w f y =
    let d = y.spot in
    record { held = pick (listed d) (put_sized y.held d.at w.size (slice_index t d.index)) y.held; spot = next_spot w d f }

-- memory after all sixteen  [ours]
unfoldable pub put_values : List ℕ → Way → Flow → List ℕ → List ℕ
put_values t w f m = (iter (put_value t w f) 16 (record { held = m; spot = first_spot w f })).held
