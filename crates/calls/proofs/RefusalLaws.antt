-- RefusalLaws.antt - demand 1: the numbered refusals are given exactly when the tables say, and a refused call alters nothing.
-- * reset_verdict, step_verdict, run_verdict, undo_verdict: the number is n if and only if n is that of the first line of the call's table
--   that applies (exactly); it is 0 if and only if no line applies (done). The numbers do not rise along a table: 12 stands second, 10 fourth.
-- * given_unique: a table gives one number.
-- * step_refused, run_refused, undo_refused: a call whose number is not 0 gives back slots, memory, journal and mark as given, and 0 for the rest.
-- * reset_refused: a refused reset gives the fixed state.
-- * step_accepted, run_accepted, undo_accepted: a call whose number is 0 is the step, the run, the undo of the definitions.
-- * first_passed, first_stopped, first_inv, first_when: the tests that step, run and undo have in common, apart from what is last.
-- Source: [01 Calls and what they give back], [K5], [K7], [K10].
use Prim.Native.Nat.{ℕ, zero, suc, ◌+◌, ◌-◌, ◌%◌, ◌≤◌, ◌<◌}
use mathlib.Core.Path.{◌≡◌, refl, sym, ap, ◌∙◌}
use mathlib.Core.Logic.{◌↔◌}
use mathlib.Core.Bool.{Bool, true, false, not}
use mathlib.Core.List.{List, [], ◌∷◌}
use native.Mathlib.Omega.{arith}
use lib.ListN.{length}
use lib.Dec.{ltb, leb, eqb}
use borrow.Author.Tests.{ltb-true, ltb-false, leb-false, eqb-true, eqb-false, lt-ltb, le-ltb, eq-eqb, ne_eqb, not-true, not-false}
use Rattle.codes.specs.Codes.{RomStart, MostRom}
use Rattle.bits.specs.Bits.{pick}
use Rattle.bits.proofs.BitsLaws.{pick_cases, and_left, and_right}
use Rattle.bus.specs.Bus.{Board}
use Rattle.bank.specs.Bank.{pc_of, sr_of, mode_of}
use Rattle.record.specs.Limits.{longest_record, valid_status}
use Rattle.std.specs.Prelude.{Option, Some, None}
use Rattle.undo.specs.Undo.{Outcome, none, well_formed, undo_of}
use Rattle.undo.proofs.UndoLaws.{undo_when_none, none_when_refused}
use Rattle.oldest.specs.Room.{Way, rows, torn, rows_of}
use Rattle.calls.specs.declared.Manner.{Manner}
use Rattle.calls.specs.declared.Manner.TheVariants.{Dropping, Keeping}
use Rattle.calls.specs.Calls.{StepCall, RunCall, memory_fits, rom_fits, state_fits, window_end, window_fits, first_tests, reset_number, reset_call, refused_slots, no_room, is_torn, torn_way}
use Rattle.calls.specs.Calls.{step_tests, step_number, step_taken, step_with_room, step_call}
use Rattle.calls.specs.Calls.{run_number, running, run_call, undo_number, undo_answer, undo_call}
use Rattle.calls.specs.Refusals.{Line, Given, zero_at_end, this, later, NoneApplies, BadMemory, odd, short, long, BadState, stray_bit}
use Rattle.calls.specs.Refusals.{no_mode, BadRom, odd_rom, long_rom, no_place, BadWindow, turned_round, past_end, memory_line, rom_line, state_line, window_line, first_lines, NoRoom}
use Rattle.calls.specs.Refusals.{TornWay, when_dropping, reset_table, step_table, run_table, undo_table}
use Rattle.calls.proofs.ValidLaws.{BoardFits, fits_inv, rom_inv, state_inv, window_inv}

-- ---- a table gives one number
pub given_unique : (t : List Line) (n k : ℕ) → Given t n → Given t k → n ≡ k
given_unique t n k zero_at_end zero_at_end = refl
given_unique t n k (this a e) (this b f) = omega arith
given_unique t n k (this a e) (later b f) = absurd (b a)
given_unique t n k (later a e) (this b f) = absurd (a b)
given_unique t n k (later {ls = ls} a e) (later b f) = given_unique ls n k e f

-- a line that is passed by does not apply, and the number is one of the lines after it
pub not_this : {l : Line} {ls : List Line} {n : ℕ} → (n ≡ l.number → ⊥) → Given (l ∷ ls) n → l.applies → ⊥
not_this h (this a e) = absurd (h e)
not_this h (later a g) = a

pub from_later : {l : Line} {ls : List Line} {n : ℕ} → (n ≡ l.number → ⊥) → Given (l ∷ ls) n → Given ls n
from_later h (this a e) = absurd (h e)
from_later h (later a g) = g

-- no number of a table is 0
abbrev pub Positive : List Line → Type 0
Positive [] = Unit {0}
Positive (l ∷ ls) = (0 < l.number) × Positive ls

none_when_zero : (t : List Line) (n : ℕ) → n ≡ 0 → Positive t → Given t n → NoneApplies t
none_when_zero t n z r zero_at_end = tt
none_when_zero t n z r (this a e) = absurd (omega (arith, r.0))
none_when_zero t n z r (later {ls = ls} a e) = (a, none_when_zero ls n z r.1 e)

zero_when_none : (t : List Line) → NoneApplies t → Given t 0
zero_when_none [] h = zero_at_end
zero_when_none (l ∷ ls) h = later h.0 (zero_when_none ls h.1)

-- ---- what is proved of a call's number c and its table t
pub record Verdict (t : List Line) (c : ℕ) : Type 1 where
  pub exactly : (n : ℕ) → ((c ≡ n) ↔ Given t n)
  pub done : (c ≡ 0) ↔ NoneApplies t

pub verdict : (t : List Line) (c : ℕ) → Positive t → Given t c → Verdict t c
verdict t c r g =
    record {
      exactly = λ n. (λ e. rw e at g, λ h. given_unique t c n g h);
      done = (λ e. none_when_zero t c e r g, λ h. given_unique t c 0 g (zero_when_none t h));
    }

-- ---- a choice by a test is a line of a table
pub given_pick : {k : ℕ} {ls : List Line} (b : Bool) (n : ℕ) (A : Type 0) → (b ≡ true → A) → (b ≡ false → A → ⊥) → Given ls k → Given (record { number = n; applies = A } ∷ ls) (pick b n k)
given_pick true n A f g rest = this (f refl) refl
given_pick false n A f g rest = later (g refl) rest

-- a choice by a test that gives 0 was not taken
pub pick_zero : (b : Bool) (n k : ℕ) → pick b (suc n) k ≡ 0 → (b ≡ false) × (k ≡ 0)
pick_zero true n k e = absurd (omega arith)
pick_zero false n k e = (refl, e)

-- ---- the lines: each test holds exactly when its line applies
pub bad_memory_when : (m : List ℕ) → memory_fits m ≡ false → BadMemory m
bad_memory_when m e = go (eqb (length m % 2) 0) refl (leb 1024 (length m)) refl (leb (length m) 16777216) refl
  where
    go : (a : Bool) → eqb (length m % 2) 0 ≡ a → (b : Bool) → leb 1024 (length m) ≡ b → (c : Bool) → leb (length m) 16777216 ≡ c → BadMemory m
    go false p b q c r = odd (let h = eqb-false (length m % 2) 0 p in omega arith)
    go true p false q c r = short (leb-false 1024 (length m) q)
    go true p true q false r = long (leb-false (length m) 16777216 r)
    go true p true q true r = let no_way : true ≡ false = rw (p, q, r) at e in absurd (let z : ◌≡◌ {A = ℕ} 0 1 = cc in omega arith)

pub no_bad_memory : (m : List ℕ) → memory_fits m ≡ true → BadMemory m → ⊥
no_bad_memory m e (odd h) = let f = fits_inv m e in omega arith
no_bad_memory m e (short h) = let f = fits_inv m e in omega arith
no_bad_memory m e (long h) = let f = fits_inv m e in omega arith

pub bad_state_when : (s : List ℕ) → state_fits s ≡ false → BadState s
bad_state_when s e = go (valid_status (sr_of s)) refl (leb (mode_of s) 2) refl
  where
    go : (a : Bool) → valid_status (sr_of s) ≡ a → (b : Bool) → leb (mode_of s) 2 ≡ b → BadState s
    go false p b q = stray_bit p
    go true p false q = no_mode (leb-false (mode_of s) 2 q)
    go true p true q = let no_way : true ≡ false = rw (p, q) at e in absurd (let z : ◌≡◌ {A = ℕ} 0 1 = cc in omega arith)

pub no_bad_state : (s : List ℕ) → state_fits s ≡ true → BadState s → ⊥
no_bad_state s e (stray_bit h) = let f = (state_inv s e).0 in absurd (let z : ◌≡◌ {A = ℕ} 0 1 = cc in omega arith)
no_bad_state s e (no_mode h) = let f = (state_inv s e).1 in omega arith

pub bad_rom_when : (rom m : List ℕ) → rom_fits rom m ≡ false → BadRom rom m
bad_rom_when rom m e = go (eqb (length rom % 2) 0) refl (leb (length rom) MostRom) refl (eqb (length rom) 0) refl (leb (length m) RomStart) refl
  where
    go : (a : Bool) → eqb (length rom % 2) 0 ≡ a → (b : Bool) → leb (length rom) MostRom ≡ b → (c : Bool) → eqb (length rom) 0 ≡ c
        → (d : Bool) → leb (length m) RomStart ≡ d → BadRom rom m
    go false p b q c r d u = odd_rom (let h = eqb-false (length rom % 2) 0 p in omega arith)
    go true p false q c r d u = long_rom (leb-false (length rom) MostRom q)
    go true p true q false r false u = no_place (let h = eqb-false (length rom) 0 r in omega arith) (leb-false (length m) RomStart u)
    go true p true q true r d u = let no_way : true ≡ false = rw (p, q, r) at e in absurd (let z : ◌≡◌ {A = ℕ} 0 1 = cc in omega arith)
    go true p true q false r true u = let no_way : true ≡ false = rw (p, q, r, u) at e in absurd (let z : ◌≡◌ {A = ℕ} 0 1 = cc in omega arith)

pub no_bad_rom : (rom m : List ℕ) → rom_fits rom m ≡ true → BadRom rom m → ⊥
no_bad_rom rom m e (odd_rom h) = let f = (rom_inv rom m e).0 in omega arith
no_bad_rom rom m e (long_rom h) = let f = (rom_inv rom m e).1 in omega arith
no_bad_rom rom m e (no_place h k) = let f = (rom_inv rom m e).2 h in omega arith

pub bad_window_when : (board : Board) (m : List ℕ) → window_fits board m ≡ false → BadWindow board m
bad_window_when board m e = go (leb board.window.lo board.window.hi) refl (leb board.window.hi (window_end board.rom m)) refl
  where
    go : (a : Bool) → leb board.window.lo board.window.hi ≡ a → (b : Bool) → leb board.window.hi (window_end board.rom m) ≡ b → BadWindow board m
    go false p b q = turned_round (leb-false board.window.lo board.window.hi p)
    go true p false q = past_end (leb-false board.window.hi (window_end board.rom m) q)
    go true p true q = let no_way : true ≡ false = rw (p, q) at e in absurd (let z : ◌≡◌ {A = ℕ} 0 1 = cc in omega arith)

pub no_bad_window : (board : Board) (m : List ℕ) → window_fits board m ≡ true → BadWindow board m → ⊥
no_bad_window board m e (turned_round h) = let f = (window_inv board m e).0 in omega arith
no_bad_window board m e (past_end h) = let f = (window_inv board m e).1 in omega arith

module _ {k : ℕ} {ls : List Line} (rest : Given ls k) where
  pub memory_given : (m : List ℕ) → Given (memory_line m ∷ ls) (pick (not (memory_fits m)) 1 k)
  memory_given m = given_pick (not (memory_fits m)) 1 (BadMemory m) (λ e. bad_memory_when m (not-true (memory_fits m) e)) (λ e. no_bad_memory m (not-false (memory_fits m) e)) rest

  pub rom_given : (rom m : List ℕ) → Given (rom_line rom m ∷ ls) (pick (not (rom_fits rom m)) 12 k)
  rom_given rom m =
      given_pick (not (rom_fits rom m)) 12 (BadRom rom m) (λ e. bad_rom_when rom m (not-true (rom_fits rom m) e))
      (λ e. no_bad_rom rom m (not-false (rom_fits rom m) e)) rest

  state_given : (s : List ℕ) → Given (state_line s ∷ ls) (pick (not (state_fits s)) 2 k)
  state_given s = given_pick (not (state_fits s)) 2 (BadState s) (λ e. bad_state_when s (not-true (state_fits s) e)) (λ e. no_bad_state s (not-false (state_fits s) e)) rest

  window_given : (board : Board) (m : List ℕ) → Given (window_line board m ∷ ls) (pick (not (window_fits board m)) 10 k)
  window_given board m =
      given_pick (not (window_fits board m)) 10 (BadWindow board m) (λ e. bad_window_when board m (not-true (window_fits board m) e))
      (λ e. no_bad_window board m (not-false (window_fits board m) e)) rest

  pub below_given : (n a b : ℕ) → Given (record { number = n; applies = a < b } ∷ ls) (pick (ltb a b) n k)
  below_given n a b = given_pick (ltb a b) n (a < b) (ltb-true a b) (λ e h. let g = ltb-false a b e in omega arith) rest

  pub equal_given : (n a b : ℕ) → Given (record { number = n; applies = a ≡ b } ∷ ls) (pick (eqb a b) n k)
  equal_given n a b = given_pick (eqb a b) n (a ≡ b) (eqb-true a b) (eqb-false a b) rest

-- ---- tests in a row: passed, so that what is last is given, or stopped at a number, whatever is last
data Settled (f : ℕ → ℕ) : Type 0 where
  passed : ((last : ℕ) → f last ≡ last) → Settled f
  stopped : (n : ℕ) → (n ≡ 0 → ⊥) → ((last : ℕ) → f last ≡ n) → Settled f

settled_pick : (f : ℕ → ℕ) (b : Bool) (n : ℕ) → Settled f → Settled (λ last. pick b (suc n) (f last))
settled_pick f true n s = stopped (suc n) (λ q. omega arith) (λ last. refl)
settled_pick f false n s = s

settled_then : (f g : ℕ → ℕ) → Settled f → Settled g → Settled (λ last. f (g last))
settled_then f g (stopped n z p) s = stopped n z (λ last. p (g last))
settled_then f g (passed p) (passed q) = passed (λ last. p (g last) ∙ q last)
settled_then f g (passed p) (stopped n z q) = stopped n z (λ last. p (g last) ∙ q last)

-- so with 0 for what is last they tell whether that is asked
when_passed : (f : ℕ → ℕ) → Settled f → (last : ℕ) → f 0 ≡ 0 → f last ≡ last
when_passed f (passed p) last e = p last
when_passed f (stopped n z p) last e = absurd (z (sym (p 0) ∙ e))

when_stopped : (f : ℕ → ℕ) → Settled f → (last : ℕ) → (f 0 ≡ 0 → ⊥) → f last ≡ f 0
when_stopped f (passed p) last h = absurd (h (p 0))
when_stopped f (stopped n z p) last h = p last ∙ sym (p 0)

-- ---- the tests that come first: 1, 12, 2 and 10
module _ (board : Board) (s m : List ℕ) where
  pub first_given : {k : ℕ} {ls : List Line} → Given ls k → Given (first_lines board s m ls) (first_tests board s m k)
  unfolding first_tests
  first_given rest = memory_given (rom_given (state_given (window_given rest board m) s) board.rom m) m

  first_settled : Settled (first_tests board s m)
  unfolding first_tests
  first_settled =
      settled_pick (λ last. pick (not (rom_fits board.rom m)) 12 (pick (not (state_fits s)) 2 (pick (not (window_fits board m)) 10 last))) (not (memory_fits m)) 0
      (settled_pick (λ last. pick (not (state_fits s)) 2 (pick (not (window_fits board m)) 10 last)) (not (rom_fits board.rom m)) 11
      (settled_pick (λ last. pick (not (window_fits board m)) 10 last) (not (state_fits s)) 1
      (settled_pick (λ last. last) (not (window_fits board m)) 9 (passed (λ last. refl)))))

  pub first_passed : (last : ℕ) → first_tests board s m 0 ≡ 0 → first_tests board s m last ≡ last
  first_passed last e = when_passed (first_tests board s m) first_settled last e

  pub first_stopped : (last : ℕ) → (first_tests board s m 0 ≡ 0 → ⊥) → first_tests board s m last ≡ first_tests board s m 0
  first_stopped last h = when_stopped (first_tests board s m) first_settled last h

  pub first_inv : (last : ℕ) → first_tests board s m last ≡ 0 → (memory_fits m ≡ true) × (state_fits s ≡ true) × BoardFits board m × (last ≡ 0)
  unfolding first_tests
  first_inv last e =
      let e₁ = pick_zero (not (memory_fits m)) 0 _ e in
      let e₂ = pick_zero (not (rom_fits board.rom m)) 11 _ e₁.1 in
      let e₃ = pick_zero (not (state_fits s)) 1 _ e₂.1 in
      let e₄ = pick_zero (not (window_fits board m)) 9 _ e₃.1 in (
        not-false (memory_fits m) e₁.0,
        not-false (state_fits s) e₃.0,
        (not-false (rom_fits board.rom m) e₂.0, not-false (window_fits board m) e₄.0),
        e₄.1,
      )

  pub first_when : (last : ℕ) → memory_fits m ≡ true → state_fits s ≡ true → BoardFits board m → first_tests board s m last ≡ last
  unfolding first_tests
  first_when last f g h = rw (f, h.0, g, h.1)

-- ---- reset
pub reset_given : (m rom : List ℕ) → Given (reset_table m rom) (reset_number m rom)
unfolding reset_number
reset_given m rom = memory_given (rom_given zero_at_end rom m) m

pub reset_verdict : (m rom : List ℕ) → Verdict (reset_table m rom) (reset_number m rom)
reset_verdict m rom = verdict (reset_table m rom) (reset_number m rom) (omega arith) (reset_given m rom)

pub reset_refused : (m rom : List ℕ) → (reset_number m rom ≡ 0 → ⊥) → reset_call m rom ≡ refused_slots
unfolding reset_call
reset_refused m rom h = rw (ne_eqb (reset_number m rom) 0 h)

-- the number n of a call: it is taken where n is 0, and else refused with n
call_number : {A : Type 0} (f : A → ℕ) (n : ℕ) (t r : A) → f t ≡ 0 → f r ≡ n → f (pick (eqb n 0) t r) ≡ n
call_number f n t r taken refused = go (eqb n 0) refl
  where
    go : (b : Bool) → eqb n 0 ≡ b → f (pick b t r) ≡ n
    go true e = taken ∙ sym (eqb-true n 0 e)
    go false e = refused

-- ---- room
pub torn_way_when : (len : ℕ) (j : List ℕ) (mark : ℕ) → torn_way Dropping len j mark ≡ true → TornWay len j mark
torn_way_when len j mark e =
    let a = ltb (length j - mark) longest_record in
    let b = is_torn (rows_of len j mark) in
    (ltb-true (length j - mark) longest_record (and_left a b e), go (rows_of len j mark) (and_right a b e))
  where
    go : (q : Way) → is_torn q ≡ true → q ≡ torn
    go torn f = refl
    go (rows rs) f = absurd (let z : ◌≡◌ {A = ℕ} 0 1 = cc in omega arith)

pub no_torn_way : (len : ℕ) (j : List ℕ) (mark : ℕ) → torn_way Dropping len j mark ≡ false → TornWay len j mark → ⊥
no_torn_way len j mark e t =
    let no_way : true ≡ false = rw (lt-ltb (length j - mark) longest_record t.0, t.1) at e in
    let z : ◌≡◌ {A = ℕ} 0 1 = cc in omega arith

module _ {k : ℕ} {ls : List Line} (rest : Given ls k) (n : ℕ) where
  pub room_given : (w : Manner) (j : List ℕ) (mark : ℕ) → Given (record { number = n; applies = NoRoom w j mark } ∷ ls) (pick (no_room w j mark) n k)
  room_given Dropping j mark = below_given rest n (length j) longest_record
  room_given Keeping j mark = below_given rest n (length j - mark) longest_record

  way_given : (w : Manner) (len : ℕ) (j : List ℕ) (mark : ℕ) → Given (when_dropping w (record { number = n; applies = TornWay len j mark }) ls) (pick (torn_way w len j mark) n k)
  way_given Keeping len j mark = rest
  way_given Dropping len j mark = given_pick (torn_way Dropping len j mark) n (TornWay len j mark) (torn_way_when len j mark) (no_torn_way len j mark) rest

-- ---- step
module _ (w : Manner) (board : Board) (s m : List ℕ) (level : ℕ) (j : List ℕ) (mark : ℕ) where
  step_given : Given (step_table w board s m level j mark) (step_number w board s m level j mark)
  unfolding step_number step_tests
  step_given =
      let last = room_given (equal_given (way_given zero_at_end 8 w (length m) j mark) 6 (mode_of s) 2) 5 w j mark in
      first_given board s m (below_given (below_given last 4 (length j) mark) 3 7 level)

  module _ (vector : ℕ) where
    pub step_call_number : (step_call w board s m level vector j mark).a.number ≡ step_number w board s m level j mark
    unfolding step_call step_with_room step_taken
    step_call_number = call_number (λ (c : StepCall). c.a.number) (step_number w board s m level j mark) _ _ refl refl

    pub step_verdict : Verdict (step_table w board s m level j mark) (step_call w board s m level vector j mark).a.number
    step_verdict = verdict (step_table w board s m level j mark) (step_call w board s m level vector j mark).a.number (step_positive w) (rw step_call_number step_given)
      where
        step_positive : (w : Manner) → Positive (step_table w board s m level j mark)
        step_positive Dropping = omega arith
        step_positive Keeping = omega arith

    pub step_accepted : (step_call w board s m level vector j mark).a.number ≡ 0 → step_call w board s m level vector j mark ≡ step_with_room w board s m level vector j mark
    unfolding step_call
    step_accepted e = rw (eq-eqb (step_number w board s m level j mark) 0 (sym step_call_number ∙ e))

    pub step_refused : ((step_call w board s m level vector j mark).a.number ≡ 0 → ⊥)
        → step_call w board s m level vector j mark ≡ record { s = s; m = m; j = j; a = record { number = (step_call w board s m level vector j mark).a.number; event = 0; mark = mark; clocks = 0; moved = 0; dropped = 0 } }
    unfolding step_call
    step_refused h = rw (ne_eqb (step_number w board s m level j mark) 0 (λ e. h (step_call_number ∙ e)))

  -- the tests after the first
  abbrev further : ℕ → ℕ
  further last = pick (ltb 7 level) 3 (pick (ltb (length j) mark) 4 (pick (no_room w j mark) 5 (pick (eqb (mode_of s) 2) 6 last)))

  tested : Settled (step_tests w board s m level j mark)
  unfolding step_tests
  tested =
      settled_then (first_tests board s m) further (first_settled board s m)
      (settled_pick (λ last. pick (ltb (length j) mark) 4 (pick (no_room w j mark) 5 (pick (eqb (mode_of s) 2) 6 last))) (ltb 7 level) 2
      (settled_pick (λ last. pick (no_room w j mark) 5 (pick (eqb (mode_of s) 2) 6 last)) (ltb (length j) mark) 3
      (settled_pick (λ last. pick (eqb (mode_of s) 2) 6 last) (no_room w j mark) 4
      (settled_pick (λ last. last) (eqb (mode_of s) 2) 5 (passed (λ last. refl))))))

  -- the tests alone tell whether what is last is asked
  pub tests_passed : (last : ℕ) → step_tests w board s m level j mark 0 ≡ 0 → step_tests w board s m level j mark last ≡ last
  tests_passed last e = when_passed (step_tests w board s m level j mark) tested last e

  pub tests_stopped : (last : ℕ) → (step_tests w board s m level j mark 0 ≡ 0 → ⊥) → step_tests w board s m level j mark last ≡ step_tests w board s m level j mark 0
  tests_stopped last h = when_stopped (step_tests w board s m level j mark) tested last h

  -- what a step that passes the tests may rest on
  pub tests_inv : (last : ℕ) → step_tests w board s m level j mark last ≡ 0
      → (memory_fits m ≡ true) × (state_fits s ≡ true) × (level ≤ 7) × (mark ≤ length j) × (no_room w j mark ≡ false) × (mode_of s ≡ 2 → ⊥) × (last ≡ 0) × (BoardFits board m)
  unfolding step_tests
  tests_inv last e =
      let i = first_inv board s m (further last) e in
      let e₃ = pick_zero (ltb 7 level) 2 _ i.3 in
      let e₄ = pick_zero (ltb (length j) mark) 3 _ e₃.1 in
      let e₅ = pick_zero (no_room w j mark) 4 _ e₄.1 in
      let e₆ = pick_zero (eqb (mode_of s) 2) 5 _ e₅.1 in (
        i.0,
        i.1,
        ltb-false 7 level e₃.0,
        ltb-false (length j) mark e₄.0,
        e₅.0,
        eqb-false (mode_of s) 2 e₆.0,
        e₆.1,
        i.2,
      )

  -- what an accepted step may rest on
  pub step_inv : step_number w board s m level j mark ≡ 0
      → (memory_fits m ≡ true) × (state_fits s ≡ true) × (level ≤ 7) × (mark ≤ length j) × (no_room w j mark ≡ false) × (mode_of s ≡ 2 → ⊥) × (torn_way w (length m) j mark ≡ false) × (BoardFits board m)
  unfolding step_number
  step_inv e =
      let i = tests_inv (pick (torn_way w (length m) j mark) 8 0) e in
      (i.0, i.1, i.2, i.3, i.4, i.5, (pick_zero (torn_way w (length m) j mark) 7 0 i.6).0, i.7)

  pub step_number_when : memory_fits m ≡ true → state_fits s ≡ true → BoardFits board m → level ≤ 7 → mark ≤ length j → no_room w j mark ≡ false → (mode_of s ≡ 2 → ⊥) → torn_way w (length m) j mark ≡ false
      → step_number w board s m level j mark ≡ 0
  unfolding step_number step_tests
  step_number_when f g o h i k r t =
      first_when board s m (further (pick (torn_way w (length m) j mark) 8 0)) f g o
      ∙ rw (le-ltb 7 level h, le-ltb (length j) mark i, k, ne_eqb (mode_of s) 2 r, t)

-- ---- run
abbrev NoNumber : RunCall → Type 0
NoNumber c = c.a.number ≡ 0

running_number : (w : Manner) (board : Board) (k n c v u stop : ℕ) (s m j : List ℕ) (mark : ℕ) → (running w board k n c v u stop s m j mark).a.number ≡ 0
unfolding running
running_number w board zero n c v u stop s m j mark = refl
running_number w board (suc k) n c v u stop s m j mark =
    pick_cases NoNumber (eqb (mode_of s) 2) refl
    (pick_cases NoNumber (eqb (mode_of s) 1) refl
    (pick_cases NoNumber (no_room w j mark) refl
    (pick_cases NoNumber (torn_way w (length m) j mark) refl
    (pick_cases NoNumber (eqb (pc_of s) stop) refl (running_number w board k (n + 1) _ _ _ stop _ _ _ _)))))

module _ (board : Board) (s m : List ℕ) (budget : ℕ) (j : List ℕ) (mark : ℕ) where
  run_given : Given (run_table board s m budget j mark) (run_number board s m budget j mark)
  unfolding run_number
  run_given = first_given board s m (below_given (below_given zero_at_end 4 (length j) mark) 3 1000000 budget)

  pub run_inv : run_number board s m budget j mark ≡ 0 → (memory_fits m ≡ true) × (state_fits s ≡ true) × (budget ≤ 1000000) × (mark ≤ length j) × (BoardFits board m)
  unfolding run_number
  run_inv e =
      let i = first_inv board s m _ e in
      let e₃ = pick_zero (ltb 1000000 budget) 2 _ i.3 in
      let e₄ = pick_zero (ltb (length j) mark) 3 _ e₃.1 in
      (i.0, i.1, ltb-false 1000000 budget e₃.0, ltb-false (length j) mark e₄.0, i.2)

  module _ (w : Manner) (stop : ℕ) where
    pub run_call_number : (run_call w board s m budget stop j mark).a.number ≡ run_number board s m budget j mark
    unfolding run_call
    run_call_number = call_number (λ (c : RunCall). c.a.number) (run_number board s m budget j mark) _ _ (running_number w board budget 0 0 0 0 stop s m j mark) refl

    pub run_verdict : Verdict (run_table board s m budget j mark) (run_call w board s m budget stop j mark).a.number
    run_verdict = verdict (run_table board s m budget j mark) (run_call w board s m budget stop j mark).a.number (omega arith) (rw run_call_number run_given)

    pub run_accepted : (run_call w board s m budget stop j mark).a.number ≡ 0 → run_call w board s m budget stop j mark ≡ running w board budget 0 0 0 0 stop s m j mark
    unfolding run_call
    run_accepted e = rw (eq-eqb (run_number board s m budget j mark) 0 (sym run_call_number ∙ e))

    pub run_refused : ((run_call w board s m budget stop j mark).a.number ≡ 0 → ⊥)
        → run_call w board s m budget stop j mark ≡ record { s = s; m = m; j = j; a = record { number = (run_call w board s m budget stop j mark).a.number; reason = 0; mark = mark; steps = 0; clocks = 0; moved = 0; dropped = 0 } }
    unfolding run_call
    run_refused h = rw (ne_eqb (run_number board s m budget j mark) 0 (λ e. h (run_call_number ∙ e)))

-- ---- undo
module _ (board : Board) (s m j : List ℕ) (mark : ℕ) where
  record_given : Given (record { number = 8; applies = well_formed s m j mark ≡ none } ∷ []) (undo_answer mark (undo_of s m j mark).answer).number
  record_given = go (undo_of s m j mark).answer refl
    where
      go : (a : Option ℕ) → (undo_of s m j mark).answer ≡ a → Given (record { number = 8; applies = well_formed s m j mark ≡ none } ∷ []) (undo_answer mark a).number
      go (Some start) e = later (λ q. let r : Some start ≡ None = sym e ∙ ap (λ (o : Outcome). o.answer) (undo_when_none s m j mark q) in absurd (let z : ◌≡◌ {A = ℕ} 0 1 = cc in omega arith)) zero_at_end
      go None e = this (none_when_refused s m j mark e) refl

  -- the tests, and then the record
  abbrev undo_choice : ℕ → ℕ
  undo_choice last = first_tests board s m (pick (ltb (length j) mark) 4 (pick (eqb mark 0) 7 last))

  undo_given : Given (undo_table board s m j mark) (undo_choice (undo_answer mark (undo_of s m j mark).answer).number)
  undo_given = first_given board s m (below_given (equal_given record_given 7 mark 0) 4 (length j) mark)

  undo_settled : Settled undo_choice
  undo_settled =
      settled_then (first_tests board s m) (λ last. pick (ltb (length j) mark) 4 (pick (eqb mark 0) 7 last)) (first_settled board s m)
      (settled_pick (λ last. pick (eqb mark 0) 7 last) (ltb (length j) mark) 3 (settled_pick (λ last. last) (eqb mark 0) 6 (passed (λ last. refl))))

  undo_call_number : (undo_call board s m j mark).a.number ≡ undo_choice (undo_answer mark (undo_of s m j mark).answer).number
  unfolding undo_call undo_number
  undo_call_number = go (eqb (undo_choice 0) 0) refl
    where
      go : (b : Bool) → eqb (undo_choice 0) 0 ≡ b → (undo_call board s m j mark).a.number ≡ undo_choice (undo_answer mark (undo_of s m j mark).answer).number
      go true e = rw e (sym (when_passed undo_choice undo_settled (undo_answer mark (undo_of s m j mark).answer).number (eqb-true (undo_choice 0) 0 e)))
      go false e = rw e (sym (when_stopped undo_choice undo_settled (undo_answer mark (undo_of s m j mark).answer).number (eqb-false (undo_choice 0) 0 e)))

  pub undo_verdict : Verdict (undo_table board s m j mark) (undo_call board s m j mark).a.number
  undo_verdict = verdict (undo_table board s m j mark) (undo_call board s m j mark).a.number (omega arith) (rw undo_call_number undo_given)

  -- undo accepted by its tests and its record: the old values put back, and the mark at the record's start
  pub undo_accepted : (start : ℕ) (t n : List ℕ) → undo_number board s m j mark ≡ 0 → undo_of s m j mark ≡ record { slots = t; memory = n; answer = Some start }
      → undo_call board s m j mark ≡ record { s = t; m = n; a = record { number = 0; mark = start } }
  unfolding undo_call
  undo_accepted start t n e f = rw (e, f)

  pub undo_refused : ((undo_call board s m j mark).a.number ≡ 0 → ⊥)
      → undo_call board s m j mark ≡ record { s = s; m = m; a = record { number = (undo_call board s m j mark).a.number; mark = mark } }
  unfolding undo_call
  undo_refused h = go (eqb (undo_number board s m j mark) 0) refl (undo_of s m j mark).answer refl
    where
      go : (b : Bool) → eqb (undo_number board s m j mark) 0 ≡ b → (a : Option ℕ) → (undo_of s m j mark).answer ≡ a
          → undo_call board s m j mark ≡ record { s = s; m = m; a = record { number = (undo_call board s m j mark).a.number; mark = mark } }
      go false e a f = rw e
      go true e (Some start) f = absurd (h (rw (e, f)))
      go true e None f = let u = undo_when_none s m j mark (none_when_refused s m j mark f) in rw (e, u)

  pub undo_number_when : memory_fits m ≡ true → state_fits s ≡ true → BoardFits board m → mark ≤ length j → (mark ≡ 0 → ⊥) → undo_number board s m j mark ≡ 0
  unfolding undo_number
  undo_number_when f g o h i = first_when board s m _ f g o ∙ rw (le-ltb (length j) mark h, ne_eqb mark 0 i)
