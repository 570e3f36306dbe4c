-- OddJumps.antt - what K3 says of a step: the nine jumps, where each leads, and what the step leaves if that is an odd address.
-- `Blamed` is in K3's words: event, information word, access address, operation word and saved PC of the frame; all else stays.
-- Held by: odd-jumps of proofs/OddJumpLaws.antt.  Source: [003 4.4.9.1], [003 4.4.10], [003 B], [003 D-14], [01 step 7], [K3], [K7].
use Rattle.std.specs.Prelude.{ℕ, ◌%◌, ◌/◌, ◌<◌, ◌≡◌, Bool, true, false, ◌&&◌, ◌||◌, not, List, get_or, set, ltb, eqb}
use Rattle.codes.specs.Codes.{Word, Long, Postincrement, StackPointer, Ssp, Pc, Sr, Mode, Running, Mask, Supervisor, TopLevel, Addresses, AddressError}
use Rattle.codes.specs.Codes.{event_of, ProgramRead}
use Rattle.codes.specs.Fields.{ea_mode, ea_register, condition_field}
use Rattle.bits.specs.Bits.{plus, minus, sign_word}
use Rattle.flags.specs.Flags.{condition}
use Rattle.bus.specs.declared.Flow.{Flow}
use Rattle.bus.specs.declared.Fetched.{Fetched}
use Rattle.bus.specs.Bus.{Board}
use Rattle.bus.specs.Bus.{View, all_of, next_word, information, put_word, put_long}
use Rattle.operand.specs.declared.Operand.{Operand}
use Rattle.operand.specs.Operands.{locate, source}
use Rattle.decode.specs.Kinds as k
use Rattle.decode.specs.Rows.{kind_of, privileged}
use Rattle.control.specs.Control.{displacement, counted}
use Rattle.bank.specs.Bank.{ssp_of, pc_of, sr_of, mode_of, bank}
use Rattle.exception.specs.Exceptions.{Stepped, fresh, supervisor_sr, handler, big_room, halted}
use Rattle.step.specs.Steps.{sight}

-- the nine jumps, in K3's order  [K3]
pub data Nine : Type 0 where
  bcc : Nine
  bra : Nine
  bsr : Nine
  dbcc : Nine
  jmp : Nine
  jsr : Nine
  rts : Nine
  rtr : Nine
  rte : Nine

-- the kind of operation words that each has  [003 3.8] [003 3.9]
abbrev pub kind : Nine → ℕ
kind bcc = k.Bcc
kind bra = k.Bra
kind bsr = k.Bsr
kind dbcc = k.DBcc
kind jmp = k.Jmp
kind jsr = k.Jsr
kind rts = k.Rts
kind rtr = k.Rtr
kind rte = k.Rte

-- where a jump leads: whether it is made, its target, and the flow once all that comes before is read  [ours]
pub record Leads : Type 0 where
  pub made : Bool
  pub target : ℕ
  pub flow : Flow

-- by a displacement from the instruction's address plus 2, which `f.pc` is  [003 B Bcc BRA BSR]
abbrev pub displaced : Bool → Flow → ℕ → Flow → Leads
displaced made f d g = record { made = made; target = plus f.pc d; flow = g }

-- to an operand's address  [003 B JMP JSR]
abbrev pub addressed : Operand → Leads
addressed q = record { made = true; target = q.at; flow = q.flow }

-- to the long that the stack has  [003 B RTS]
abbrev pub pulled : Fetched → Leads
pulled w = record { made = true; target = w.value; flow = w.flow }

-- to the long above the word that the stack has  [003 B RTR RTE]
abbrev pub pulled_second : List ℕ → View → Flow → Leads
pulled_second r v f =
    let c = source r v Postincrement StackPointer Word f in
    pulled (source c.r v Postincrement StackPointer Long c.w.flow).w

-- each of the nine, from registers, view, operation word and the flow behind it; BRA's condition is T (bra_made)  [003 B] [K3]
abbrev pub leads : Nine → List ℕ → View → ℕ → Flow → Leads
leads bcc r v op f = displaced (condition f.sr (condition_field op)) f (displacement v op f).value (displacement v op f).flow
leads bra r v op f = displaced (condition f.sr (condition_field op)) f (displacement v op f).value (displacement v op f).flow
leads bsr r v op f = displaced true f (displacement v op f).value (displacement v op f).flow
leads dbcc r v op f =
    let made = not (condition f.sr (condition_field op)) && not (eqb (counted r (ea_register op)) 0xFFFF) in
    displaced made f (sign_word (next_word v f).value) (next_word v f).flow
leads jmp r v op f = addressed (locate r v (ea_mode op) (ea_register op) Long f)
leads jsr r v op f = addressed (locate r v (ea_mode op) (ea_register op) Long f)
leads rts r v op f = pulled (source r v Postincrement StackPointer Long f).w
leads rtr r v op f = pulled_second r v f
leads rte r v op f = pulled_second r v f

-- the operation word at PC, and the flow behind it: what is read on the way is read through the window  [01 step 6] [K7]
abbrev pub word_at_pc : Board → List ℕ → List ℕ → Fetched
word_at_pc board s m = next_word (sight board s m) (fresh (pc_of s) (sr_of s))

-- where the jump at PC leads  [ours]
abbrev pub leads_from : Nine → Board → List ℕ → List ℕ → Leads
leads_from j board s m = leads j (bank s) (sight board s m) (word_at_pc board s m).value (word_at_pc board s m).flow

-- a step that makes a jump to an odd address: no interrupt is taken, the machine runs, one of the nine is at PC and is not refused, its jump is
-- made, nothing failed on the way to its target, and that is odd, inside the window or not  [K3] [K7]
pub record OddJump (j : Nine) (board : Board) (s m : List ℕ) (level : ℕ) : Type 0 where
  pub quiet : (eqb level TopLevel || ltb (sr_of s / Mask % 8) level) ≡ false
  pub running : mode_of s ≡ Running
  pub found : kind_of (word_at_pc board s m).value ≡ kind j
  pub allowed : (privileged (kind j) && eqb (sr_of s / Supervisor % 2) 0) ≡ false
  pub made : (leads_from j board s m).made ≡ true
  pub clean : (leads_from j board s m).flow.bad ≡ 0
  pub odd : (leads_from j board s m).target % 2 ≡ 1

-- memory with the frame: from the lowest address the information word of a program read in the state before the jump, the target, the jump's
-- operation word, SR as it was, and the jump's address plus 2  [003 4.4.9.1] [01 step 7] [K3]
abbrev pub blaming : List ℕ → List ℕ → ℕ → ℕ → List ℕ
blaming s m op to =
    let a = minus (ssp_of s) 14 in
    let access = put_long (put_word m a (information ProgramRead (sr_of s))) (plus a 2) (to % Addresses) in
    put_long (put_word (put_word access (plus a 6) op) (plus a 8) (sr_of s)) (plus a 10) (plus (pc_of s) 2)

-- the step took the address error, and its clocks are those of the address error alone; n is memory with the frame, t what the step left
-- [003 D-14] [K3]
pub record Blamed (s n : List ℕ) (t : Stepped) (clocks : ℕ) : Type 0 where
  pub event : t.event ≡ event_of AddressError
  pub memory : t.m ≡ n
  pub stays : (i : ℕ) → i < Ssp → get_or t.s i 0 ≡ get_or s i 0
  pub slots : t.s ≡ set (set (set (set s Ssp (minus (ssp_of s) 14)) Pc (handler (all_of n) AddressError)) Sr (supervisor_sr (sr_of s))) Mode Running
  pub alone : clocks ≡ 50

-- the step halted: mode 2 alone  [01 step 8] [K3]
pub record Halts (s m : List ℕ) (t : Stepped) (clocks : ℕ) : Type 0 where
  pub ended : t ≡ halted s m
  pub none : clocks ≡ 0

-- what K3 says of an odd jump: blamed, where its frame can be written and vector 3 is then even; else it halts  [K3]
pub record AsAsked (s m n : List ℕ) (t : Stepped) (clocks : ℕ) : Type 0 where
  pub taken : big_room (all_of m) (minus (ssp_of s) 14) ≡ true → handler (all_of n) AddressError % 2 ≡ 0 → Blamed s n t clocks
  pub unwritable : big_room (all_of m) (minus (ssp_of s) 14) ≡ false → Halts s m t clocks
  pub odd_handler : handler (all_of n) AddressError % 2 ≡ 1 → Halts s m t clocks
