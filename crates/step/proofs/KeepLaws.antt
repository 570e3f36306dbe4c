-- KeepLaws.antt - what every step keeps: twenty slots of a valid state, the length of memory, its bytes; and how few bytes it alters.
-- Speaks of: settle of bank, exception and fault of exception, specs/Steps.antt. No instruction is looked at: `execute` stays shut.
-- Uses: bits, flags, bus, plan, bank, record, exception, proofs/PlacesLaws.antt.  Source: [01 State], [01 The journal], [01 One step].
-- * Status sr: a value that the slot of SR may have. status_of_parts, parts_of_status: it is one with flags, mask, S, T and no other bit.
-- * status_of_supervisor, -interrupt, -write: the status registers that an exception, an interrupt and an instruction leave are such values.
-- * Sound s: twenty slots with values of a valid state. sound_keeps: the parts of a step keep it (Keeps of SlotsLaws).
-- * touches_of_exception 6, -fault 14, -take-trap 6, -both 12, -carry-out 70, -one-step 70: so many places of memory at most.
-- * one_step_keeps: both, of a step.
use Prim.Native.Nat.{ℕ, ◌+◌, ◌*◌, ◌/◌, ◌%◌, ◌^◌, ◌≤◌, ◌<◌}
use native.Mathlib.Omega.{arith}
use native.Mathlib.Nat.{div-add-mod', div-div-eq-div-mul}
use mathlib.Core.Path.{◌≡◌, refl, sym, ◌∙◌, subst}
use mathlib.Core.Bool.{Bool, true, ◌&&◌, ◌||◌, not}
use mathlib.Core.List.{List}
use lib.ListN.{length, set, length-set}
use lib.Dec.{ltb, eqb}
use borrow.Author.Tests.{eq-eqb, eqb-true, lt-ltb}
use Rattle.codes.specs.Codes.{Ssp, Pc, Sr, Mode, Running, Halted, Mask, TopLevel, TraceVector, NoVector, StopCode, NoWrite}
use Rattle.bits.specs.Bits.{pick, plus, minus}
use Rattle.bits.proofs.BitsLaws.{bit_bound, pick_cases}
use Rattle.flags.specs.Flags.{sr_bits, with_ccr}
use Rattle.bus.specs.Bus.{Board}
use Rattle.bus.specs.Bus.{View}
use Rattle.record.specs.Limits.{slot_limit, byte_limit, valid_status, valid_value, ValidSlots, ValidBytes}
use Rattle.record.specs.Change.{diffs}
use Rattle.plan.specs.declared.Plan.{Plan}
use Rattle.bank.specs.Bank.{ssp_of, pc_of, sr_of, mode_of, supervisor, tracing, long, bank, sr_after, mode_after, settle}
use Rattle.exception.specs.Exceptions.{Stepped, fresh, supervisor_sr, handler, enter, small_ready, exception, big_ready, fault_taken, fault}
use Rattle.step.specs.declared.Tried.{Tried}
use Rattle.step.specs.Steps.{sight, conclude, attempt, commit, trap_of, take_trap, traced, both, carry_out, instruction, interrupt_sr, interrupt}
use Rattle.step.specs.Steps.{one_step}
use Rattle.step.proofs.PlacesLaws.{each_at, each_set, Touches, touches_none, touches_then, touches_most, writes_of_small_frame}
use Rattle.step.proofs.PlacesLaws.{writes_of_big_frame, writes_of_commit}
use Rattle.step.proofs.SlotsLaws.{Keeps, kept_by_one_step}

-- ---- status registers
-- what slot 18 may hold
abbrev pub Status : ℕ → Type 0
Status sr = (valid_status sr ≡ true) × (sr < 2 ^ 32)

-- a number of flags, mask, S and T
pub record Parts (sr : ℕ) : Type 0 where
  pub flags : ℕ
  pub mask : ℕ
  pub super : ℕ
  pub trace : ℕ
  pub whole : sr ≡ flags + mask * 256 + super * 8192 + trace * 32768
  pub five : flags < 32
  pub three : mask < 8
  pub one : super < 2
  pub top : trace < 2

pub status_of_parts : (sr : ℕ) → Parts sr → Status sr
status_of_parts sr p =
    let a : sr / 32 ≡ 8 * (p.mask + 32 * p.super + 128 * p.trace) = omega arith in
    let b : sr / 2048 ≡ 4 * (p.super + 4 * p.trace) = omega arith in
    let d : sr / 16384 ≡ 2 * p.trace = omega arith in
    let e : sr / 65536 ≡ 0 = omega arith in
    (eq-eqb (sr / 32 % 8 + sr / 2048 % 4 + sr / 16384 % 2 + sr / 65536) 0 (rw (a, b, d, e) (omega arith)), omega arith)

-- one digit
digit : (x a b : ℕ) → x / (a * b) * b + x / a % b ≡ x / a
digit x a b = rw (← div-div-eq-div-mul x a b) (div-add-mod' (x / a) b)

digits : (sr u w y g j l f c a k b s d t : ℕ) → u * 32 + c ≡ sr → w * 8 + a ≡ u → y * 8 + k ≡ w → g * 4 + b ≡ y → j * 2 + s ≡ g → l * 2 + d ≡ j → f * 2 + t ≡ l
    → a + b + d + f ≡ 0 → sr ≡ c + k * 256 + s * 8192 + t * 32768
digits sr u w y g j l f c a k b s d t e0 e1 e2 e3 e4 e5 e6 z = omega arith

pub parts_of_status : (sr : ℕ) → Status sr → Parts sr
parts_of_status sr h =
    record {
      flags = sr % 32;
      mask = sr / 256 % 8;
      super = sr / 8192 % 2;
      trace = sr / 32768 % 2;
      whole =
          digits sr (sr / 32) (sr / 256) (sr / 2048) (sr / 8192) (sr / 16384) (sr / 32768) (sr / 65536)
          (sr % 32) (sr / 32 % 8) (sr / 256 % 8) (sr / 2048 % 4) (sr / 8192 % 2) (sr / 16384 % 2) (sr / 32768 % 2)
          (div-add-mod' sr 32) (digit sr 32 8) (digit sr 256 8) (digit sr 2048 4) (digit sr 8192 2) (digit sr 16384 2) (digit sr 32768 2)
          (eqb-true (sr / 32 % 8 + sr / 2048 % 4 + sr / 16384 % 2 + sr / 65536) 0 h.0);
      five = omega arith;
      three = omega arith;
      one = omega arith;
      top = omega arith;
    }

module _ (sr : ℕ) (p : Parts sr) where
  supervisor_whole : supervisor_sr sr ≡ p.flags + p.mask * 256 + 1 * 8192 + 0 * 32768
  supervisor_whole = omega arith

  interrupt_whole : (level : ℕ) → interrupt_sr sr level ≡ p.flags + level % 8 * 256 + 1 * 8192 + 0 * 32768
  interrupt_whole level = let e : sr % 256 ≡ p.flags = omega arith in omega arith

  ccr_whole : (c : ℕ) → with_ccr sr c ≡ c % 32 + p.mask * 256 + p.super * 8192 + p.trace * 32768
  ccr_whole c = let e : sr % 32 ≡ p.flags = omega arith in let b : c % 32 < 32 = omega arith in rw e (omega arith)

module _ (sr : ℕ) (h : Status sr) where
  abbrev parts : Parts sr
  parts = parts_of_status sr h

  pub status_of_supervisor : Status (supervisor_sr sr)
  status_of_supervisor =
      status_of_parts (supervisor_sr sr)
      (record { flags = parts.flags; mask = parts.mask; super = 1; trace = 0; whole = supervisor_whole sr parts; five = parts.five; three = parts.three; one = omega arith; top = omega arith })

  pub status_of_interrupt : (level : ℕ) → Status (interrupt_sr sr level)
  status_of_interrupt level =
      status_of_parts (interrupt_sr sr level)
      (record { flags = parts.flags; mask = level % 8; super = 1; trace = 0; whole = interrupt_whole sr parts level; five = parts.five; three = omega arith; one = omega arith; top = omega arith })

  -- a user's instruction changes the flags alone, a supervisor's all
  pub status_of_write : (new : ℕ) → Status (sr_after sr new)
  unfolding sr_after
  status_of_write new =
      let five : new % 32 < 32 = omega arith in
      pick_cases Status (supervisor sr)
      (status_of_parts (sr_bits new)
      (record { flags = new % 32; mask = new / 256 % 8; super = new / 8192 % 2; trace = new / 32768 % 2; whole = refl; five = five; three = omega arith; one = omega arith; top = omega arith }))
      (status_of_parts (with_ccr sr new)
      (record { flags = new % 32; mask = parts.mask; super = parts.super; trace = parts.trace; whole = ccr_whole sr parts new; five = five; three = parts.three; one = parts.one; top = parts.top }))

-- ---- slots
pub record Sound (s : List ℕ) : Type 0 where
  pub slots : length s ≡ slot_limit
  pub values : ValidSlots s

pub status_of_sound : (s : List ℕ) → Sound s → Status (sr_of s)
unfolding valid_value
status_of_sound s h = each_at (λ k v. (valid_value k v ≡ true) × (v < 2 ^ 32)) 0 s Sr h.values (omega arith)

pub sound_set : (s : List ℕ) (k v : ℕ) → Sound s → (valid_value k v ≡ true) × (v < 2 ^ 32) → Sound (set s k v)
sound_set s k v h ok =
    record {
      slots = length-set s k v ∙ h.slots;
      values =
          each_set (λ i x. (valid_value i x ≡ true) × (x < 2 ^ 32)) 0 s k v h.values
          (λ j q. let e : j ≡ k = omega arith in subst (λ (n : ℕ). (valid_value n v ≡ true) × (v < 2 ^ 32)) (sym e) ok);
    }

pub sound_of_enter : (s : List ℕ) (v : View) (a vec sr : ℕ) → Sound s → a < 2 ^ 32 → Status sr → Sound (enter s v a vec sr)
unfolding enter handler valid_value
sound_of_enter s v a vec sr h ha hs =
    let pc = handler v vec in
    let s₁ = set s Ssp a in
    let s₂ = set s₁ Pc pc in
    let h₂ = sound_set s₁ Pc pc (sound_set s Ssp a h (refl, ha)) (refl, omega arith) in
    sound_set (set s₂ Sr sr) Mode Running (sound_set s₂ Sr sr h₂ hs) (refl, omega arith)

mode_bound : (sr vec : ℕ) → mode_after sr vec ≤ 1
unfolding mode_after
mode_bound sr vec = bit_bound (eqb vec StopCode && supervisor sr && not (tracing sr))

pub sound_of_settle : (s r : List ℕ) (p : Plan) → Sound s → Sound (settle s r p)
unfolding settle valid_value
sound_of_settle s r p h =
    let w : (x : ℕ) → (◌≡◌ {A = Bool} true true) × (long x < 2 ^ 32) = λ x. (refl, omega arith) in
    let sr = status_of_write (sr_of s) (status_of_sound s h) p.flow.sr in
    let mode = mode_bound (sr_of s) p.vector in
    record {
      slots = refl;
      values =
          (w _, (w _, (w _, (w _, (w _, (w _, (w _, (w _, (w _, (w _, (w _, (w _, (w _, (w _, (w _, (w _, (w _, (w _, (sr, ((lt-ltb (mode_after (sr_of s) p.vector) 3 (omega arith), omega arith), tt))))))))))))))))))));
    }

sound_of_halted : (s : List ℕ) → Sound s → Sound (set s Mode Halted)
unfolding valid_value
sound_of_halted s h = sound_set s Mode Halted h (refl, omega arith)

sound_keeps : Keeps Sound
sound_keeps =
    record {
      halting = sound_of_halted;
      trapping =
          λ s v b vec h.
          sound_of_enter s v (minus (ssp_of s) b) vec (supervisor_sr (sr_of s)) h (omega arith) (status_of_supervisor (sr_of s) (status_of_sound s h));
      interrupting =
          λ s v b vec level h.
          sound_of_enter s v (minus (ssp_of s) b) vec (interrupt_sr (sr_of s) level) h (omega arith) (status_of_interrupt (sr_of s) (status_of_sound s h) level);
      settling = sound_of_settle;
    }

-- ---- memory
module _ (s m : List ℕ) (h : ValidBytes m) where
  touches_of_exception : (vec sr : ℕ) → Touches 6 m (exception s m vec sr).m
  unfolding exception
  touches_of_exception vec sr =
      pick_cases (λ (t : Stepped). Touches 6 m t.m) (small_ready s m vec)
      ((writes_of_small_frame (minus (ssp_of s) 6) (sr_of s) (pc_of s)).touch m h)
      (touches_none 6 m h)

  touches_of_fault : (bad op : ℕ) → Touches 14 m (fault s m bad op).m
  unfolding fault fault_taken
  touches_of_fault bad op =
      pick_cases (λ (t : Stepped). Touches 14 m t.m) (big_ready s m bad op)
      ((writes_of_big_frame (minus (ssp_of s) 14) bad op (sr_of s) (plus (pc_of s) 2)).touch m h)
      (touches_none 14 m h)

  touches_of_take_trap : (vec : ℕ) → Touches 6 m (take_trap s m vec).m
  unfolding take_trap
  touches_of_take_trap vec =
      pick_cases (λ (t : Stepped). Touches 6 m t.m) (ltb NoVector vec) (touches_of_exception vec (supervisor_sr (sr_of s))) (touches_none 6 m h)

module _ (s m : List ℕ) (h : ValidBytes m) where
  touches_of_both : (vec : ℕ) (trace : Bool) → Touches 12 m (both s m vec trace).m
  unfolding both
  touches_of_both vec trace =
      let a = take_trap s m vec in
      let x = touches_of_take_trap s m h vec in
      touches_then x (touches_of_take_trap a.s a.m x.bytes (traced vec trace a.event))

  touches_of_carry_out : (r : List ℕ) (p : Plan) (trace : Bool) → Touches 70 m (carry_out s m r p trace).m
  unfolding carry_out
  touches_of_carry_out r p trace =
      let w = (writes_of_commit r p).touch m h in
      pick_cases (λ (t : Stepped). Touches 70 m t.m) (eqb p.write NoWrite)
      (touches_most (touches_of_both (trap_of p) trace) (omega arith))
      (touches_then w (touches_of_take_trap s (commit m r p) w.bytes (pick trace TraceVector NoVector)))

module _ (s m : List ℕ) (h : ValidBytes m) where
  touches_of_conclude : (r : List ℕ) (t : Tried) → Touches 70 m (conclude s m r t).m
  unfolding conclude
  touches_of_conclude r t =
      let p = t.p in
      pick_cases (λ (t : Stepped). Touches 70 m t.m) (eqb p.flow.bad 0)
      (touches_of_carry_out (settle s r p) m h r p (tracing (sr_of s)))
      (touches_most (touches_of_fault s m h p.flow.bad t.op) (omega arith))

  touches_of_instruction : (board : Board) → Touches 70 m (instruction board s m).m
  unfolding instruction
  touches_of_instruction board =
      let a = attempt (bank s) (sight board s m) (fresh (pc_of s) (sr_of s)) in touches_of_conclude a.r a.t

  touches_of_one_step : (board : Board) (level vector : ℕ) → Touches 70 m (one_step board s m level vector).m
  unfolding one_step interrupt
  touches_of_one_step board level vector =
      pick_cases (λ (t : Stepped). Touches 70 m t.m) (eqb level TopLevel || ltb (sr_of s / Mask % 8) level)
      (touches_most (touches_of_exception s m h vector (interrupt_sr (sr_of s) level)) (omega arith))
      (pick_cases (λ (t : Stepped). Touches 70 m t.m) (eqb (mode_of s) Running) (touches_of_instruction board) (touches_none 70 m h))

-- ---- the theorem
-- what a step keeps: lengths, the values of a valid state, bytes; and at most byte_limit bytes differ
pub record Kept (s m t n : List ℕ) : Type 0 where
  pub slots : length t ≡ length s
  pub memory : length n ≡ length m
  pub values : ValidSlots t
  pub bytes : ValidBytes n
  pub few : length (diffs 0 m n) ≤ byte_limit

module _ (board : Board) (s m : List ℕ) (level vector : ℕ) (slots : length s ≡ slot_limit) (values : ValidSlots s) (bytes : ValidBytes m) where
  reached : Touches 70 m (one_step board s m level vector).m
  reached = touches_of_one_step s m bytes board level vector

  pub one_step_keeps : Kept s m (one_step board s m level vector).s (one_step board s m level vector).m
  one_step_keeps =
      let after = kept_by_one_step Sound sound_keeps board s m (record { slots = slots; values = values }) level vector in
      record { slots = after.slots ∙ sym slots; memory = reached.same; values = after.values; bytes = reached.bytes; few = reached.few }
