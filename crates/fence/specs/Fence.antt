-- Fence.antt - what two machines share that a user program can tell apart by nothing, and what such a program leaves as it was.
-- Not here: what a user state may touch of memory (`seen_by` of the crate bus); rows of calls (Rows.antt).
-- Laws: proofs/OneLaws.antt, proofs/RecordLaws.antt.  Source: [K7], [K10].
use Rattle.std.specs.Prelude.{ℕ, ◌+◌, ◌/◌, ◌%◌, ◌<◌, ◌≤◌, ◌≡◌, false, List, length, get_or, set}
use Rattle.codes.specs.Codes.{RomStart, Ssp, Mask, Supervisor, Trace}
use Rattle.bus.specs.declared.Window.{Window}
use Rattle.bus.specs.Bus.{Board}
use Rattle.bank.specs.Bank.{ssp_of, sr_of, supervisor}

-- two memories, or ROMs, that stand from an address on, are of one length and hold the same in the window  [K7] [K10]
pub record Same (win : Window) (start : ℕ) (m n : List ℕ) : Type 0 where
  pub long : length m ≡ length n
  pub bytes : (a : ℕ) → win.lo ≤ start + a → start + a < win.hi → get_or m a 0 ≡ get_or n a 0

-- two boards with one window, and ROMs of one length that hold the same in it  [K7] [K10]
pub record SameBoard (b c : Board) : Type 0 where
  pub window : b.window ≡ c.window
  pub rom : Same b.window RomStart b.rom c.rom

-- two machines in user state that agree on all slots but SSP, on the window, on memory's length and the ROM's and on what lies in the window
-- [K7] [K10]
pub record Alike (b c : Board) (s t m n : List ℕ) : Type 0 where
  pub user : supervisor (sr_of s) ≡ false
  pub slots : set s Ssp 0 ≡ set t Ssp 0
  pub boards : SameBoard b c
  pub memory : Same b.window 0 m n

-- a status register with the same T, S and mask  [003 1.2] [K7]
pub record SameSystem (sr new : ℕ) : Type 0 where
  pub trace : new / Trace % 2 ≡ sr / Trace % 2
  pub super : new / Supervisor % 2 ≡ sr / Supervisor % 2
  pub mask : new / Mask % 8 ≡ sr / Mask % 8

-- slots t and memory n after s and m: T, S, mask, SSP, memory's length and every byte outside the window are as they were  [K7]
pub record Left (win : Window) (s m t n : List ℕ) : Type 0 where
  pub system : SameSystem (sr_of s) (sr_of t)
  pub ssp : ssp_of t ≡ ssp_of s
  pub long : length n ≡ length m
  pub outside : (a : ℕ) → (win.lo ≤ a → a < win.hi → ⊥) → get_or n a 0 ≡ get_or m a 0
