-- ExceptionLaws.antt - one law for each return of the functions of exception.
-- small_room_is, small_ready_is, enter_is, exception-.. (slots, memory, event), exception-halts-.., and the same of faults.
-- Uses: bits, bus, touch, bank, frames.
use Rattle.std.proofs.Common.{◌≡◌, ℕ, ◌+◌, ◌*◌, ◌%◌, ◌^◌, ◌<◌, Bool, true, false, ◌&&◌, eqb, List, set, arith}
use Rattle.bits.specs.Bits.{plus, minus}
use Rattle.bank.specs.Bank.{long, ssp_of, pc_of, sr_of}
use Rattle.bus.specs.declared.Flow.{Flow}
use Rattle.bus.specs.declared.Fetched.{Fetched}
use Rattle.bus.specs.Bus.{View, all_of, read_long, room}
use Rattle.frames.specs.Frames.{small_frame, big_frame}
use Rattle.exception.specs.Exceptions.{fresh, supervisor_sr, small_room, big_room, handler, can_enter, small_ready, big_ready, enter, exception, fault_taken, fault}

module _ (v : View) (a : ℕ) where
  pub small_room_is : (e g h : Flow) (b : ℕ) → e ≡ fresh 0 0 → g ≡ room v a 1 e → b ≡ plus a 2 → h ≡ room v b 2 g → eqb h.bad 0 ≡ small_room v a
  unfolding small_room
  small_room_is e g h b e0 e1 e2 e3 = cc

  pub big_room_is : (e g h i j : Flow) (b c d : ℕ) → e ≡ fresh 0 0 → g ≡ room v a 2 e → b ≡ plus a 4 → h ≡ room v b 2 g → c ≡ plus a 8 → i ≡ room v c 2 h → d ≡ plus a 12 → j ≡ room v d 1 i → eqb j.bad 0 ≡ big_room v a
  unfolding big_room
  big_room_is e g h i j b c d e0 e1 e2 e3 e4 e5 e6 e7 = cc

-- whether an exception can be taken
module _ (s m : List ℕ) (a pc : ℕ) (x y : Bool) where
  pub small_ready_is : (vec : ℕ) → a ≡ minus (ssp_of s) 6 → x ≡ small_room (all_of m) a
      → y ≡ can_enter (all_of (small_frame m a (sr_of s) (pc_of s))) vec → (x && y) ≡ small_ready s m vec
  unfolding small_ready
  small_ready_is vec e1 e2 e3 = cc

  pub big_ready_is : (bad op : ℕ) → a ≡ minus (ssp_of s) 14 → pc ≡ plus (pc_of s) 2 → x ≡ big_room (all_of m) a
      → y ≡ can_enter (all_of (big_frame m a bad op (sr_of s) pc)) (bad % 4) → (x && y) ≡ big_ready s m bad op
  unfolding big_ready
  big_ready_is bad op e1 e2 e3 e4 = cc

-- the vector's long fits, as every slot does
pub enter_is : (s : List ℕ) (v : View) (a vec sr : ℕ) (e : Flow) (w : Fetched) → e ≡ fresh 0 0 → w ≡ read_long v (vec % 256 * 4) 17 e → w.value < 2 ^ 32 → set (set (set (set s 16 a) 17 w.value) 18 sr) 19 0 ≡ enter s v a vec sr
unfolding enter handler
enter_is s v a vec sr e w e1 e2 h = let l : w.value ≡ long w.value = omega arith in cc

-- an exception: b says whether it can be taken
module _ (s m : List ℕ) (vec sr : ℕ) (b : Bool) (e1 : b ≡ small_ready s m vec) where
  module _ (y : b ≡ true) where
    module _ (n : List ℕ) (a : ℕ) (e2 : a ≡ minus (ssp_of s) 6) (e3 : n ≡ small_frame m a (sr_of s) (pc_of s)) where
      pub exception_slots : (t : List ℕ) → t ≡ enter s (all_of n) a vec sr → t ≡ (exception s m vec sr).s
      unfolding exception
      exception_slots t e = cc

      pub exception_memory : n ≡ (exception s m vec sr).m
      unfolding exception
      exception_memory = cc

    pub exception_event : vec % 256 + 1 ≡ (exception s m vec sr).event
    unfolding exception
    exception_event = cc

  module _ (y : b ≡ false) where
    pub exception_halts_slots : set s 19 2 ≡ (exception s m vec sr).s
    unfolding exception
    exception_halts_slots = cc

    pub exception_halts_memory : m ≡ (exception s m vec sr).m
    unfolding exception
    exception_halts_memory = cc

    pub exception_halts_event : 257 ≡ (exception s m vec sr).event
    unfolding exception
    exception_halts_event = cc

-- a fault that can be taken
module _ (s m : List ℕ) (bad op : ℕ) where
  module _ (n : List ℕ) (a pc : ℕ) (e1 : a ≡ minus (ssp_of s) 14) (e2 : pc ≡ plus (pc_of s) 2) (e3 : n ≡ big_frame m a bad op (sr_of s) pc) where
    pub fault_taken_slots : (t : List ℕ) (sr : ℕ) → sr ≡ supervisor_sr (sr_of s) → t ≡ enter s (all_of n) a (bad % 4) sr → t ≡ (fault_taken s m bad op).s
    unfolding fault_taken
    fault_taken_slots t sr d h = cc

    pub fault_taken_memory : n ≡ (fault_taken s m bad op).m
    unfolding fault_taken
    fault_taken_memory = cc

  pub fault_taken_event : bad % 4 + 1 ≡ (fault_taken s m bad op).event
  unfolding fault_taken
  fault_taken_event = cc

  -- a fault: b says whether it can be taken
  module _ (b : Bool) (e1 : b ≡ big_ready s m bad op) where
    module _ (y : b ≡ true) where
      pub fault_slots : (t : List ℕ) → t ≡ (fault_taken s m bad op).s → t ≡ (fault s m bad op).s
      unfolding fault
      fault_slots t e = cc

      pub fault_memory : (n : List ℕ) → n ≡ (fault_taken s m bad op).m → n ≡ (fault s m bad op).m
      unfolding fault
      fault_memory n e = cc

      pub fault_event : (x : ℕ) → x ≡ (fault_taken s m bad op).event → x ≡ (fault s m bad op).event
      unfolding fault
      fault_event x e = cc

    module _ (y : b ≡ false) where
      pub fault_halts_slots : set s 19 2 ≡ (fault s m bad op).s
      unfolding fault
      fault_halts_slots = cc

      pub fault_halts_memory : m ≡ (fault s m bad op).m
      unfolding fault
      fault_halts_memory = cc

      pub fault_halts_event : 257 ≡ (fault s m bad op).event
      unfolding fault
      fault_halts_event = cc
