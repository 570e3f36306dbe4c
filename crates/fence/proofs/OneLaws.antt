-- OneLaws.antt - the theorems of K7 for one step, with the ROM of K10.
-- left_after: from user state a step that takes no exception leaves T, S, mask, SSP and all outside the window; same_step_vector: machines that
-- are alike take the same exception first, unless one halts; same_event, same_clocks, alike_next: what is the same of a step that takes none.
-- No instruction is looked at: `execute` stays shut.  Uses: bits, flags, bus, plan, bank, exception, execute, step.  Source: [K7], [K10].
use Prim.Native.Nat.{ℕ, ◌%◌, ◌/◌, ◌<◌, ◌≤◌, ◌^◌}
use native.Mathlib.Omega.{arith}
use mathlib.Core.Path.{◌≡◌, refl, sym, ap, ◌∙◌, subst, subst₂}
use mathlib.Core.Bool.{Bool, true, false}
use mathlib.Core.List.{List}
use lib.ListN.{length, get_or, set}
use lib.Seq.{get_or-set_other}
use lib.Dec.{eqb}
use Rattle.codes.specs.Codes.{Ssp, Pc, Sr, Mode, Usp, Trace, Supervisor, Mask, NoEvent, HaltEvent}
use Rattle.flags.specs.Flags.{with_ccr}
use Rattle.bus.specs.declared.Flow.{Flow}
use Rattle.bus.specs.declared.Window.{Window}
use Rattle.bus.specs.Bus.{View, Board, seen_by, next_word}
use Rattle.plan.specs.declared.Plan.{Plan}
use Rattle.bank.specs.Bank.{ssp_of, pc_of, sr_of, mode_of, supervisor, long, bank, usp_after, ssp_after, sr_after, settle}
use Rattle.exception.specs.Exceptions.{Stepped, fresh}
use Rattle.execute.specs.Dispatch.{execute}
use Rattle.step.specs.Steps.{sight, Attempt, attempt, one_step, step_clocks}
use Rattle.fence.specs.Fence.{Alike, SameSystem, Left}
use Rattle.fence.proofs.ViewLaws.{same_view}
use Rattle.fence.proofs.NameLaws.{still, Or, this, halts, tried, step_event, step_names, step_stands}
use Rattle.fence.proofs.QuietLaws.{written_by, Quiet, stands, works, quiet_of, names_none, works_is, quiet_event, quiet_clocks}
use Rattle.fence.proofs.WriteLaws.{same_written, plan_out}

-- ---- what a user's instruction leaves of the slots
module _ (s r : List ℕ) (p : Plan) (u : supervisor (sr_of s) ≡ false) where
  settled_sr : sr_of (settle s r p) ≡ with_ccr (sr_of s) p.flow.sr
  unfolding settle sr_after
  settled_sr = cc

  settled_ssp : ssp_of (settle s r p) ≡ long (ssp_of s)
  unfolding settle ssp_after
  settled_ssp = cc

kept_super : (a b : ℕ) → with_ccr a b / Supervisor % 2 ≡ a / Supervisor % 2
kept_super a b = omega arith

kept_system : (a b c : ℕ) → c ≡ with_ccr a b → SameSystem a c
kept_system a b c e =
    let t : with_ccr a b / Trace % 2 ≡ a / Trace % 2 = omega arith in
    let m : with_ccr a b / Mask % 8 ≡ a / Mask % 8 = omega arith in
    record {
      trace = ap (λ (x : ℕ). x / Trace % 2) e ∙ t;
      super = ap (λ (x : ℕ). x / Supervisor % 2) e ∙ kept_super a b;
      mask = ap (λ (x : ℕ). x / Mask % 8) e ∙ m;
    }

-- nothing changed
pub left_none : (win : Window) (s m : List ℕ) → Left win s m s m
left_none win s m = record { system = record { trace = refl; super = refl; mask = refl }; ssp = refl; long = refl; outside = λ a out. refl }

-- ---- what it leaves of memory
attempt_out : (board : Board) (m : List ℕ) (j : ℕ) (out : board.window.lo ≤ j → j < board.window.hi → ⊥) (r : List ℕ) (f : Flow)
    → eqb (attempt r (seen_by false board m) f).t.p.flow.bad 0 ≡ true
    → get_or (written_by m (attempt r (seen_by false board m) f).r (attempt r (seen_by false board m) f).t.p) j 0 ≡ get_or m j 0
unfolding attempt
attempt_out board m j out r f h =
    let v = seen_by false board m in
    let o = next_word v f in
    let d = execute r v o.value o.flow in
    plan_out board m j out d.r d.p h

module _ (board : Board) (s m : List ℕ) (u : supervisor (sr_of s) ≡ false) where
  user_view : sight board s m ≡ seen_by false board m
  user_view = ap (λ (b : Bool). seen_by b board m) u

  tried_out : (j : ℕ) (out : board.window.lo ≤ j → j < board.window.hi → ⊥) → eqb (tried board s m).t.p.flow.bad 0 ≡ true
      → get_or (written_by m (tried board s m).r (tried board s m).t.p) j 0 ≡ get_or m j 0
  tried_out j out h =
      let f = fresh (pc_of s) (sr_of s) in
      subst (λ (v : View). eqb (attempt (bank s) v f).t.p.flow.bad 0 ≡ true
      → get_or (written_by m (attempt (bank s) v f).r (attempt (bank s) v f).t.p) j 0 ≡ get_or m j 0)
      (sym user_view) (attempt_out board m j out (bank s) f) h

-- ---- theorem 1, one step
module _ (board : Board) (s m : List ℕ) (level vector : ℕ) (u : supervisor (sr_of s) ≡ false) (fits : ssp_of s < 2 ^ 32)
    (same : length (one_step board s m level vector).m ≡ length m) where
  abbrev LeftAfter : Stepped → Type 0
  LeftAfter t = length t.m ≡ length m → Left board.window s m t.s t.m

  left_works : eqb (tried board s m).t.p.flow.bad 0 ≡ true
      → LeftAfter (still (settle s (tried board s m).r (tried board s m).t.p) (written_by m (tried board s m).r (tried board s m).t.p))
  left_works b l =
      let r = (tried board s m).r in
      let p = (tried board s m).t.p in
      let e : long (ssp_of s) ≡ ssp_of s = omega (arith, fits) in
      record {
        system = kept_system (sr_of s) p.flow.sr (sr_of (settle s r p)) (settled_sr s r p u);
        ssp = settled_ssp s r p u ∙ e;
        long = l;
        outside = λ a out. tried_out board s m u a out b;
      }

  left_by : Quiet board s m level → LeftAfter (one_step board s m level vector)
  left_by (stands h k) = subst LeftAfter (sym (step_stands board s m level vector h k)) (λ l. left_none board.window s m)
  left_by (works h k b c) = subst LeftAfter (sym (works_is board s m level vector h k b c)) (left_works b)

  pub left_after : (one_step board s m level vector).event ≡ NoEvent
      → Left board.window s m (one_step board s m level vector).s (one_step board s m level vector).m
  left_after e = left_by (quiet_of board s m level vector (names_none board s m level vector e)) same

-- ---- theorem 2, one step
module _ (b c : Board) (s t m n : List ℕ) (h : Alike b c s t m n) where
  pub slot : (i : ℕ) → (i ≡ Ssp → ⊥) → get_or s i 0 ≡ get_or t i 0
  slot i k = sym (get_or-set_other s Ssp i 0 0 k) ∙ ap (λ (l : List ℕ). get_or l i 0) h.slots ∙ get_or-set_other t Ssp i 0 0 k

  same_pc : pc_of s ≡ pc_of t
  same_pc = slot Pc (λ e. omega (arith, e))

  pub same_sr : sr_of s ≡ sr_of t
  same_sr = slot Sr (λ e. omega (arith, e))

  pub same_mode : mode_of s ≡ mode_of t
  same_mode = slot Mode (λ e. omega (arith, e))

  pub user_too : supervisor (sr_of t) ≡ false
  user_too = ap supervisor (sym same_sr) ∙ h.user

  same_bank : bank s ≡ bank t
  unfolding bank
  same_bank =
      cc (
        h.user,
        user_too,
        same_pc,
        same_sr,
        same_mode,
        slot Usp (λ e. omega (arith, e)),
        slot 0 (λ e. omega (arith, e)),
        slot 1 (λ e. omega (arith, e)),
        slot 2 (λ e. omega (arith, e)),
        slot 3 (λ e. omega (arith, e)),
        slot 4 (λ e. omega (arith, e)),
        slot 5 (λ e. omega (arith, e)),
        slot 6 (λ e. omega (arith, e)),
        slot 7 (λ e. omega (arith, e)),
        slot 8 (λ e. omega (arith, e)),
        slot 9 (λ e. omega (arith, e)),
        slot 10 (λ e. omega (arith, e)),
        slot 11 (λ e. omega (arith, e)),
        slot 12 (λ e. omega (arith, e)),
        slot 13 (λ e. omega (arith, e)),
        slot 14 (λ e. omega (arith, e)),
      )

  same_sight : sight b s m ≡ sight c t n
  same_sight = user_view b s m h.user ∙ same_view b c m n h.boards h.memory ∙ sym (user_view c t n user_too)

  -- an instruction does the same up to its write: operation word, registers, plan with PC, SR, trap and fault, clocks
  same_tried : tried b s m ≡ tried c t n
  same_tried = cc (same_bank, same_sight, same_pc, same_sr)

  module _ (level vector : ℕ) where
    same_name : step_event b s m level vector ≡ step_event c t n level vector
    same_name = cc (same_tried, same_sr, same_mode)

    -- the same exception, unless one of the two halts
    pub same_step_vector : ((one_step b s m level vector).event ≡ HaltEvent → ⊥) → ((one_step c t n level vector).event ≡ HaltEvent → ⊥)
        → (one_step b s m level vector).event ≡ (one_step c t n level vector).event
    same_step_vector p q = joined (step_names b s m level vector) (step_names c t n level vector)
      where
        joined : Or (step_event b s m level vector) (one_step b s m level vector).event
            → Or (step_event c t n level vector) (one_step c t n level vector).event
            → (one_step b s m level vector).event ≡ (one_step c t n level vector).event
        joined (this x) (this y) = x ∙ same_name ∙ sym y
        joined (halts x) y = absurd (p x)
        joined (this x) (halts y) = absurd (q y)

    module _ (e : (one_step b s m level vector).event ≡ NoEvent) where
      quiet : Quiet b s m level
      quiet = quiet_of b s m level vector (names_none b s m level vector e)

      quiet_too : Quiet c t n level
      quiet_too = quiet_of c t n level vector (sym same_name ∙ names_none b s m level vector e)

      -- the other takes no exception either
      pub same_event : (one_step c t n level vector).event ≡ NoEvent
      same_event = quiet_event c t n level vector quiet_too

      pub same_clocks : step_clocks b s m level vector ≡ step_clocks c t n level vector
      same_clocks = cc (quiet_clocks b s m level vector quiet, quiet_clocks c t n level vector quiet_too, same_tried, same_mode)

  settled : (r : List ℕ) (p : Plan) → set (settle s r p) Ssp 0 ≡ set (settle t r p) Ssp 0
  unfolding settle usp_after sr_after
  settled r p = cc (h.user, user_too, same_sr)

  settled_user : (r : List ℕ) (p : Plan) → supervisor (sr_of (settle s r p)) ≡ false
  settled_user r p =
      ap (λ (x : ℕ). eqb x 1) (ap (λ (x : ℕ). x / Supervisor % 2) (settled_sr s r p h.user) ∙ kept_super (sr_of s) p.flow.sr) ∙ h.user

  abbrev AlikeAfter : Stepped → Stepped → Type 0
  AlikeAfter x y = Alike b c x.s y.s x.m y.m

  abbrev worked : List ℕ → List ℕ → Attempt → Stepped
  worked s m a = still (settle s a.r a.t.p) (written_by m a.r a.t.p)

  alike_worked : (a y : Attempt) → a ≡ y → AlikeAfter (worked s m a) (worked t n y)
  alike_worked a y e =
      subst (λ (y : Attempt). AlikeAfter (worked s m a) (worked t n y)) e
      (record {
        user = settled_user a.r a.t.p;
        slots = settled a.r a.t.p;
        boards = h.boards;
        memory = same_written b.window 0 a.r a.t.p m n h.memory;
      })

  module _ (level vector : ℕ) where
    alike_by : Quiet b s m level → Quiet c t n level → AlikeAfter (one_step b s m level vector) (one_step c t n level vector)
    alike_by (stands o k) (stands p l) =
        subst₂ AlikeAfter (sym (step_stands b s m level vector o k)) (sym (step_stands c t n level vector p l)) h
    alike_by (stands o k) (works p l e f) = absurd (let z : ◌≡◌ {A = ℕ} 0 1 = cc (same_mode, k, l) in omega (arith, z))
    alike_by (works o k d f) (stands p l) = absurd (let z : ◌≡◌ {A = ℕ} 0 1 = cc (same_mode, k, l) in omega (arith, z))
    alike_by (works o k d f) (works p l g i) =
        subst₂ AlikeAfter (sym (works_is b s m level vector o k d f)) (sym (works_is c t n level vector p l g i))
        (alike_worked (tried b s m) (tried c t n) same_tried)

    -- and after the step the two are alike again
    pub alike_next : (one_step b s m level vector).event ≡ NoEvent → AlikeAfter (one_step b s m level vector) (one_step c t n level vector)
    alike_next e = alike_by (quiet level vector e) (quiet_too level vector e)
