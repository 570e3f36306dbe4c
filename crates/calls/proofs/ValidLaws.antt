-- ValidLaws.antt - Lent: what is so of anything that is lent. Valid: what is so of it once a call accepts it. A step keeps it.
-- * valid_when_accepted, lent_when_valid, state_fits_when, fits_inv, rom_inv, state_inv, window_inv: how each follows from the other.
-- * valid_after_step, board_after_step, record_room: after a step from a valid state the state is valid, a board that fits does so still,
--   and the step's record is short enough.
-- Source: [01 State], [01 The journal], [00 demand 3], [K7], [K10].
use Prim.Native.Nat.{ℕ, ◌%◌, ◌^◌, ◌≤◌, ◌<◌}
use mathlib.Core.Path.{◌≡◌, refl}
use mathlib.Core.Bool.{Bool, true, false, ◌&&◌, ◌||◌}
use mathlib.Core.List.{List}
use native.Mathlib.Nat.{zero-add}
use native.Mathlib.Omega.{arith}
use lib.ListN.{length, get_or, get_or-eq_default}
use lib.Dec.{ltb, leb, eqb}
use borrow.Author.Tests.{le-leb, leb-true, eqb-true, ltb-true, ltb-false}
use Rattle.codes.specs.Codes.{RomStart, MostRom, Sr, Mode}
use Rattle.bits.proofs.BitsLaws.{and_left, and_right, or_cases}
use Rattle.bus.specs.Bus.{Board}
use Rattle.bank.specs.Bank.{sr_of, mode_of}
use Rattle.record.specs.Limits.{slot_limit, longest_record, valid_status, valid_value, Each, ValidSlots, ValidBytes}
use Rattle.record.specs.Change.{step_record}
use Rattle.record.proofs.DiffLaws.{each_implies}
use Rattle.record.proofs.SizeLaws.{record_length, valid_slots_from}
use Rattle.step.specs.Steps.{one_step}
use Rattle.step.proofs.PlacesLaws.{each_at}
use Rattle.step.proofs.KeepLaws.{Kept, one_step_keeps}
use Rattle.calls.specs.Calls.{memory_fits, rom_fits, state_fits, window_end, window_fits}

-- anything that is lent: twenty slots of 32 bits, and bytes
pub record Lent (s m : List ℕ) : Type 0 where
  pub slots : length s ≡ slot_limit
  pub words : Each (λ k v. v < 2 ^ 32) 0 s
  pub bytes : ValidBytes m

-- a valid state over a memory that fits
pub record Valid (s m : List ℕ) : Type 0 where
  pub slots : length s ≡ slot_limit
  pub values : ValidSlots s
  pub bytes : ValidBytes m
  pub fits : memory_fits m ≡ true

-- ---- the tests of the calls
-- a memory that fits
pub fits_inv : (m : List ℕ) → memory_fits m ≡ true → (length m % 2 ≡ 0) × (1024 ≤ length m) × (length m ≤ 16777216)
fits_inv m e =
    let a = eqb (length m % 2) 0 in
    let b = leb 1024 (length m) in
    let c = leb (length m) 16777216 in
    let ab = and_left (a && b) c e in
    (eqb-true (length m % 2) 0 (and_left a b ab), leb-true 1024 (length m) (and_right a b ab), leb-true (length m) 16777216 (and_right (a && b) c e))

-- a state that fits
pub state_inv : (s : List ℕ) → state_fits s ≡ true → (valid_status (sr_of s) ≡ true) × (mode_of s ≤ 2)
state_inv s e =
    let a = valid_status (sr_of s) in
    let b = leb (mode_of s) 2 in
    (and_left a b e, leb-true (mode_of s) 2 (and_right a b e))

-- a ROM that fits
pub rom_inv : (rom m : List ℕ) → rom_fits rom m ≡ true → (length rom % 2 ≡ 0) × (length rom ≤ MostRom) × (0 < length rom → length m ≤ RomStart)
rom_inv rom m e =
    let a = eqb (length rom % 2) 0 in
    let b = leb (length rom) MostRom in
    let c = eqb (length rom) 0 || leb (length m) RomStart in
    let ab = and_left (a && b) c e in (
      eqb-true (length rom % 2) 0 (and_left a b ab),
      leb-true (length rom) MostRom (and_right a b ab),
      λ some. or_cases (eqb (length rom) 0) (leb (length m) RomStart) (and_right (a && b) c e)
          (λ h. let z = eqb-true (length rom) 0 h in omega arith) (λ h. leb-true (length m) RomStart h),
    )

-- a window that fits
pub window_inv : (board : Board) (m : List ℕ) → window_fits board m ≡ true
    → (board.window.lo ≤ board.window.hi) × (board.window.hi ≤ window_end board.rom m)
window_inv board m e =
    let a = leb board.window.lo board.window.hi in
    let b = leb board.window.hi (window_end board.rom m) in
    (leb-true board.window.lo board.window.hi (and_left a b e), leb-true board.window.hi (window_end board.rom m) (and_right a b e))

-- a board that fits: its ROM and its window
abbrev pub BoardFits : Board → List ℕ → Type 0
BoardFits board m = (rom_fits board.rom m ≡ true) × (window_fits board m ≡ true)

-- ---- what is lent, once it is accepted, is valid
lent_word : (s : List ℕ) → Each (λ k v. v < 2 ^ 32) 0 s → (k : ℕ) → get_or s k 0 < 2 ^ 32
lent_word s e k = go (ltb k (length s)) refl
  where
    go : (b : Bool) → ltb k (length s) ≡ b → get_or s k 0 < 2 ^ 32
    go true q = each_at (λ i v. v < 2 ^ 32) 0 s k e (ltb-true k (length s) q)
    go false q = rw (get_or-eq_default s 0 (ltb-false k (length s) q)) (omega arith)

pub valid_when_accepted : (s m : List ℕ) → Lent s m → memory_fits m ≡ true → state_fits s ≡ true → Valid s m
valid_when_accepted s m l f g =
    let q = state_inv s g in
    record {
      slots = l.slots;
      values = valid_slots_from s q.0 (omega (arith, q.1)) (lent_word s l.words);
      bytes = l.bytes;
      fits = f;
    }

-- a valid state is a lent one
pub lent_when_valid : (s m : List ℕ) → Valid s m → Lent s m
lent_when_valid s m v =
    record {
      slots = v.slots;
      words = each_implies (λ k v. (valid_value k v ≡ true) × (v < 2 ^ 32)) (λ k v. v < 2 ^ 32) (λ k v h. h.1) 0 s v.values;
      bytes = v.bytes;
    }

module _ (s m : List ℕ) (v : Valid s m) where
  value_at : (k : ℕ) → k < slot_limit → (valid_value k (get_or s k 0) ≡ true) × (get_or s k 0 < 2 ^ 32)
  value_at k h = rw zero-add at (each_at (λ i x. (valid_value i x ≡ true) × (x < 2 ^ 32)) 0 s k v.values (omega (arith, v.slots)))

  -- and a valid state fits
  pub state_fits_when : state_fits s ≡ true
  unfolding valid_value
  state_fits_when =
      let status : valid_status (sr_of s) ≡ true = (value_at Sr (omega arith)).0 in
      let mode : ltb (mode_of s) 3 ≡ true = (value_at Mode (omega arith)).0 in
      rw (status, le-leb (mode_of s) 2 (omega (arith, ltb-true (mode_of s) 3 mode)))

  pub small_enough : length m ≤ 2 ^ 24
  small_enough = (fits_inv m v.fits).2

-- ---- after a step
module _ (board : Board) (s m : List ℕ) (level vector : ℕ) (v : Valid s m) where
  abbrev pub kept_by : Kept s m (one_step board s m level vector).s (one_step board s m level vector).m
  kept_by = one_step_keeps board s m level vector v.slots v.values v.bytes

  pub valid_after_step : Valid (one_step board s m level vector).s (one_step board s m level vector).m
  valid_after_step =
      record {
        slots = omega (arith, kept_by.slots, v.slots);
        values = kept_by.values;
        bytes = kept_by.bytes;
        fits = rw kept_by.memory v.fits;
      }

  -- and a window that fits does so still
  pub board_after_step : BoardFits board m → BoardFits board (one_step board s m level vector).m
  board_after_step e = rw kept_by.memory e

  -- its record is at most longest_record bytes long
  pub record_room : length (step_record s (one_step board s m level vector).s m (one_step board s m level vector).m) ≤ longest_record
  record_room =
      record_length s (one_step board s m level vector).s m (one_step board s m level vector).m v.slots (small_enough s m v) kept_by.few v.values v.bytes
