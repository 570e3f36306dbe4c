-- Order.antt - MOVEM to memory in 003's own order: the words that it writes, one after the other, and memory after them. Nothing runs it:
-- laws say that what runs reports the first failing word of that order, and leaves what that order leaves.
-- Laws: proofs/OrderLaws.antt, proofs/DownLaws.antt.  Source: [003 B MOVEM], [003 4.4.9], [003 4.4.10], [01 step 6], [01 step 7], [K6].
use Rattle.std.specs.Prelude.{ℕ, zero, suc, ◌-◌, ◌/◌, ◌%◌, Bool, true, ◌&&◌, List, [], ◌∷◌, ◌++◌, ◌==◌}
use Rattle.std.specs.Int.Count.{ones_in}
use Rattle.codes.specs.Codes.{Word, BusError, AddressError, DataWrite}
use Rattle.bits.specs.Bits.{pick, iter, plus}
use Rattle.bus.specs.declared.Flow.{Flow}
use Rattle.bus.specs.Bus.{View, pins, failed, put_sized}
use Rattle.plan.specs.declared.Plan.{Plan}
use Rattle.movem.specs.declared.Way.{Way}
use Rattle.movem.specs.Movem.{listed, first_spot, next_spot, Walk, room_way, stored}

-- the words of one register, the upper first  [01 step 6]
abbrev pub part_words : ℕ → ℕ → List ℕ
part_words z a = pick (z == Word) (a ∷ []) (a ∷ plus a 2 ∷ [])

-- the words of n registers, the first at a, each of the others by that much further than the one before it  [003 B MOVEM]
abbrev pub words_along : ℕ → ℕ → ℕ → ℕ → List ℕ
words_along z by a zero = []
words_along z by a (suc n) = part_words z a ++ words_along z by (plus a by) n

-- the addresses of the words that MOVEM writes, in 003's order: upward; for -(An) from An downward, A7 first  [003 B MOVEM]
unfoldable pub block_words : Plan → List ℕ
block_words p = let w = room_way p in words_along w.size w.step w.start (ones_in 16 w.list)

-- whether a word can be written: its address is even, and it is wholly there  [003 4.4.10] [003 4.4.9] [01 step 6]
abbrev pub writable : View → ℕ → Bool
writable v a = pins a % 2 == 0 && v.word_free (pins a)

-- whether each of them can  [01 step 6]
abbrev pub all_writable : View → List ℕ → Bool
all_writable v [] = true
all_writable v (a ∷ us) = writable v a && all_writable v us

-- the fault of a word that cannot be written: odd is asked first  [003 4.4.10] [003 4.4.9] [01 step 6] [01 step 7]
abbrev pub unwritten : Flow → ℕ → Flow
unwritten f a = failed f (pick (pins a % 2 == 1) AddressError BusError) (pins a) DataWrite

-- one bit of the list of -(An), downward from A7 as the room was asked: bit k of the list is register 15 - k  [003 B MOVEM]
unfoldable pub down_one : List ℕ → Plan → Way → Walk → Walk
down_one r p w t =
    let d = t.spot in
    let v = stored r p.at (p.value / 65536) (15 - d.index) in
    record { held = pick (listed d) (put_sized t.held d.at w.size v) t.held; spot = next_spot w d p.flow }

-- memory after the writes of -(An) in 003's order: block_put_is_down says that block_put leaves the same  [003 B MOVEM]
unfoldable pub block_put_down : List ℕ → List ℕ → Plan → List ℕ
block_put_down m r p = let w = room_way p in (iter (down_one r p w) 16 (record { held = m; spot = first_spot w p.flow })).held
