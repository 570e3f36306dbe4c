-- ClockLaws.antt - an instruction beside its clocks: one arm of a `match` and its `_`, the families by their first kinds, the kinds asked first.
-- arm_plan, last_plan, arm_clocks, last_clocks, past_clocks; family_clocks, first_clocks; taken_refused, user-..; own-..; after-.., branch_away; counted-..
-- Uses: bits, flags, bus, operand, plan, clocks, decode, control.
use Rattle.std.proofs.Common.{◌≡◌, ℕ, ◌+◌, ◌-◌, ◌*◌, ◌/◌, ◌%◌, ◌<◌, ◌≤◌, Bool, true, false, not, ◌||◌, eqb, ltb, List, length, get_or, set, sym, refl, ap, ◌∙◌, arith, get_or-set_same, ltb-false, lt-ltb, eq-eqb, ne_eqb, eqb-true}
use lib.ListN.{get_or-eq_default}
use borrow.Author.Tests.{eqb-false}
use Rattle.bits.specs.Bits.{pick, by_size, plus, low, joined, sign_word}
use Rattle.bits.proofs.BitsLaws.{NoneBelow, none_below_past, case_past}
use Rattle.flags.specs.Flags.{condition}
use Rattle.bus.specs.declared.Flow.{Flow}
use Rattle.bus.specs.declared.Fetched.{Fetched}
use Rattle.bus.specs.Bus.{View, next_word}
use Rattle.operand.specs.Operands.{get, put, put_low}
use Rattle.plan.specs.declared.Plan.{Plan}
use Rattle.plan.specs.Plans.{Done, nothing}
use Rattle.decode.specs.Kinds as kinds
use Rattle.decode.specs.Rows.{kind_of, privileged}
use Rattle.clocks.specs.Clocks.{moved, branched, counted_by, counted}
use Rattle.clocks.specs.Lines.{Line, time, lines, last_line, clocks}
use Rattle.control.specs.Control as control
use Rattle.execute.specs.declared.Timed.{Timed}
use Rattle.execute.specs.Dispatch.{Instruction, refused_plan, as_user, user_clocks, own_clocks, after_branch}
use Rattle.execute.proofs.DispatchLaws.{same}

-- what is taken with its clocks: t is both
module _ (t : Timed) (p : Plan) (c : ℕ) (e : t ≡ record { plan = p; clocks = c }) where
  plan_of : t.plan ≡ p
  plan_of = ap (λ (q : Timed). q.plan) e

  clocks_of : t.clocks ≡ c
  clocks_of = ap (λ (q : Timed). q.clocks) e

  module _ (r : List ℕ) (v : View) (op : ℕ) (f : Flow) (j : ℕ) where
    -- entry i of a table of instructions, and what stands past its end; s are the registers then
    module _ (xs : List Instruction) (d : Instruction) (s : List ℕ) where
      pub arm_plan : (i : ℕ) → j ≡ i → record { r = s; p = p } ≡ get_or xs i d r v op f → record { r = s; p = t.plan } ≡ get_or xs j d r v op f
      arm_plan i h q = let z = plan_of in cc

      pub last_plan : NoneBelow (length xs) j → record { r = s; p = p } ≡ d r v op f → record { r = s; p = t.plan } ≡ get_or xs j d r v op f
      last_plan h q =
          let z = plan_of in
          let y : get_or xs j d r v op f ≡ d r v op f = sym (ap (λ (g : Instruction). g r v op f) (case_past xs d d j h refl)) in cc

    -- the same of the clocks, of a family whose first kind is b
    pub arm_clocks : (b i : ℕ) → j ≡ i → c ≡ clocks (b + i) r v op f → t.clocks ≡ clocks (b + j) r v op f
    arm_clocks b i h q = let z = clocks_of in cc

    -- in user state
    pub taken_refused : (h : Bool) → h ≡ privileged j → h ≡ true → p ≡ refused_plan 8 f → record { r = r; p = t.plan } ≡ as_user j r v op f
    unfolding as_user
    taken_refused h e1 e2 e3 = let z = plan_of in cc

    pub user_none : (h : Bool) → h ≡ privileged j → h ≡ true → c ≡ 0 → t.clocks ≡ user_clocks j r v op f
    unfolding user_clocks
    user_none h e1 e2 e3 = let z = clocks_of in cc

-- the last of n + 1 kinds
pub last_clocks : (n : ℕ) (t : Timed) (p : Plan) (c : ℕ) → t ≡ record { plan = p; clocks = c } → (r : List ℕ) (v : View) (op : ℕ) (f : Flow) (j b : ℕ)
    → NoneBelow n j → j < n + 1 → c ≡ clocks (b + n) r v op f → t.clocks ≡ clocks (b + j) r v op f
last_clocks n t p c e r v op f j b h l q =
    let z = clocks_of t p c e in let y : j ≡ n = omega (arith, none_below_past n j h, l) in cc

-- past the last table: every kind has its line
pub past_clocks : (t : Timed) (p : Plan) (c : ℕ) → t ≡ record { plan = p; clocks = c } → (r : List ℕ) (v : View) (op : ℕ) (f : Flow) (j : ℕ)
    → NoneBelow 16 j → c ≡ clocks 88 r v op f → t.clocks ≡ clocks (72 + j) r v op f
unfolding clocks
past_clocks t p c e r v op f j h q =
    clocks_of t p c e ∙ q
    ∙ ap (λ (l : ℕ × Line). time l.1 r v op f) (sym (get_or-eq_default lines last_line {n = 72 + j} (omega (arith, none_below_past 16 j h))))

-- the families by their first kinds
module _ (b k : ℕ) (g : ltb k b ≡ false) where
  pub family_clocks : (r : List ℕ) (v : View) (op c : ℕ) (f : Flow) → c ≡ clocks (b + (k - b)) r v op f → c ≡ clocks k r v op f
  family_clocks r v op c f q =
      let z : b + (k - b) ≡ k = omega (arith, ltb-false k b g) in q ∙ ap (λ (x : ℕ). clocks x r v op f) z

-- the first family begins at 0
pub first_clocks : (k : ℕ) (r : List ℕ) (v : View) (op c : ℕ) (f : Flow) → c ≡ clocks (0 + k) r v op f → c ≡ clocks k r v op f
first_clocks k r v op c f q = let z : 0 + k ≡ k = omega arith in q ∙ ap (λ (x : ℕ). clocks x r v op f) z

-- user or supervisor state
module _ (r : List ℕ) (v : View) (op k c : ℕ) (f : Flow) where
  pub user_own : (h : Bool) → h ≡ privileged k → h ≡ false → c ≡ clocks k r v op f → c ≡ user_clocks k r v op f
  unfolding user_clocks
  user_own h e1 e2 e3 = cc

  module _ (e : k ≡ kind_of op) where
    pub own_user : eqb (f.sr / 8192 % 2) 0 ≡ true → c ≡ user_clocks k r v op f → c ≡ own_clocks r v op f
    unfolding own_clocks
    own_user h q = cc

    pub own_supervisor : eqb (f.sr / 8192 % 2) 0 ≡ false → c ≡ clocks k r v op f → c ≡ own_clocks r v op f
    unfolding own_clocks
    own_supervisor h q = cc

-- a kind that is not privileged: the state does not matter
module _ (r : List ℕ) (v : View) (op n : ℕ) (f : Flow) (e : n ≡ kind_of op) where
  own_at : (i c : ℕ) → n ≡ i → privileged i ≡ false → c ≡ clocks i r v op f → c ≡ own_clocks r v op f
  unfolding own_clocks user_clocks
  own_at i c h u d = cc (same (eqb (f.sr / 8192 % 2) 0) (clocks i r v op f))

  branch_by : (b : Bool) (c : ℕ) → eqb n kinds.Bcc ≡ b → (b || eqb n kinds.Bra) ≡ true → c ≡ branched 10 8 12 op f → c ≡ own_clocks r v op f
  unfolding clocks time privileged
  branch_by true c h u d = own_at kinds.Bcc c (eqb-true n kinds.Bcc h) refl d
  branch_by false c h u d = own_at kinds.Bra c (eqb-true n kinds.Bra u) refl d

  pub own_branch : (c : ℕ) → (eqb n kinds.Bcc || eqb n kinds.Bra) ≡ true → c ≡ branched 10 8 12 op f → c ≡ own_clocks r v op f
  own_branch c u d = branch_by (eqb n kinds.Bcc) c refl u d

  pub own_counted : (c : ℕ) → eqb n kinds.DBcc ≡ true → c ≡ counted 12 10 14 r op f → c ≡ own_clocks r v op f
  unfolding clocks time privileged
  own_counted c h d = own_at kinds.DBcc c (eqb-true n kinds.DBcc h) refl d

  pub own_moved : (c : ℕ) → eqb n kinds.Move ≡ true → c ≡ moved op → c ≡ own_clocks r v op f
  unfolding clocks time privileged
  own_moved c h d = own_at kinds.Move c (eqb-true n kinds.Move h) refl d

-- ---- a branch that left PC at another place was taken

pick_pc : (b : Bool) (x y : Fetched) → (pick b x y).flow.pc ≡ pick b x.flow.pc y.flow.pc
pick_pc true x y = refl
pick_pc false x y = refl

module _ (op pc n : ℕ) where
  pub after_word : eqb (op % 256) 0 ≡ true → n ≡ plus pc 2 → n ≡ after_branch op pc
  after_word h e = cc

  pub after_byte : eqb (op % 256) 0 ≡ false → n ≡ pc → n ≡ after_branch op pc
  after_byte h e = cc

-- an equation that a test denies
denied : (a b : ℕ) → a ≡ b → eqb a b ≡ false → (x y : ℕ) → x ≡ y
denied a b e h x y = absurd (eqb-false a b h e)

module _ (v : View) (op : ℕ) (f : Flow) where
  displaced : (control.displacement v op f).flow.pc ≡ after_branch op f.pc
  unfolding control.displacement next_word
  displaced = pick_pc (eqb (op % 256) 0) (record { value = sign_word (next_word v f).value; flow = (next_word v f).flow }) (record { value = _; flow = f })

  away : (b : Bool) (p : Plan) (n : ℕ) → condition f.sr (op / 256) ≡ b → p ≡ control.branch_plan v op f → n ≡ after_branch op f.pc
      → eqb p.flow.pc n ≡ false → 10 ≡ branched 10 8 12 op f
  unfolding branched control.branch_plan control.jump_when
  away true p n h e1 e2 g = cc
  away false p n h e1 e2 g =
      let q : p ≡ nothing (control.displacement v op f).flow = cc in
      denied p.flow.pc n (ap (λ (x : Plan). x.flow.pc) q ∙ displaced ∙ sym e2) g 10 (branched 10 8 12 op f)

  pub branch_away : (p : Plan) (n : ℕ) → p ≡ control.branch_plan v op f → n ≡ after_branch op f.pc → eqb p.flow.pc n ≡ false
      → 10 ≡ branched 10 8 12 op f
  branch_away p n e1 e2 g = away (condition f.sr (op / 256)) p n refl e1 e2 g

-- ---- DBcc: its count before and after

cut_low : (y c : ℕ) → c < 65536 → (y * 65536 + c) % 4294967296 % 65536 ≡ c
cut_low y c h = omega (arith, h)

joined_low : (x c : ℕ) → c < 65536 → joined x (low x 1) (low c 1) % 65536 ≡ c
unfolding by_size
joined_low x c h =
    let e : x + 4294967296 - x % 65536 + c % 65536 ≡ (x / 65536 + 65536) * 65536 + c = omega (arith, h) in
    ap (λ (k : ℕ). k % 4294967296 % 65536) e ∙ cut_low (x / 65536 + 65536) c h

module _ (r : List ℕ) (op : ℕ) where
  spent_by : (b : Bool) → eqb (get r (op % 8) % 65536) 0 ≡ b → eqb (control.counted r (op % 8)) 0xFFFF ≡ b
  unfolding control.counted by_size
  spent_by true h = let z = eqb-true (get r (op % 8) % 65536) 0 h in eq-eqb (control.counted r (op % 8)) 0xFFFF (omega (arith, z))
  spent_by false h = let z = eqb-false (get r (op % 8) % 65536) 0 h in ne_eqb (control.counted r (op % 8)) 0xFFFF (λ e. z (omega (arith, e)))

  -- the count was 0 exactly where it is -1 then
  spent_is : eqb (control.counted r (op % 8)) 0xFFFF ≡ eqb (get r (op % 8) % 65536) 0
  spent_is = spent_by (eqb (get r (op % 8) % 65536) 0) refl

  -- the register holds the count
  held : 8 ≤ length r → get (put_low r (op % 8) 1 (control.counted r (op % 8))) (op % 8) % 65536 ≡ control.counted r (op % 8)
  unfolding get put put_low control.counted by_size
  held l =
      let n = op % 8 in
      let x = get r n in
      let c = control.counted r n in
      let b : ltb n 17 ≡ true = lt-ltb n 17 (omega arith) in
      let y = joined x (low x 1) (low c 1) in
      let e1 : put_low r n 1 c ≡ set r n y = cc in
      let e2 : get (set r n y) n ≡ get_or (set r n y) n 0 = cc in
      let e3 : get_or (set r n y) n 0 ≡ y = get_or-set_same r n y 0 (omega (arith, l)) in
      let e4 : get (put_low r n 1 c) n ≡ y = cc in
      ap (λ (k : ℕ). k % 65536) e4 ∙ joined_low x c (omega arith)

  -- what DBcc leaves, by its condition
  module _ (v : View) (f : Flow) where
    ended : condition f.sr (op / 256) ≡ true → (control.decrement_branch r v op f).p ≡ nothing (next_word v f).flow
    unfolding control.decrement_branch
    ended h = rw h

    goes_on : condition f.sr (op / 256) ≡ false → control.decrement_branch r v op f ≡ record {
      r = put_low r (op % 8) 1 (control.counted r (op % 8));
      p = control.jump_when (not (eqb (control.counted r (op % 8)) 0xFFFF)) (next_word v f).flow (plus f.pc (sign_word (next_word v f).value));
    }
    unfolding control.decrement_branch
    goes_on h = rw h

  module _ (v : View) (f : Flow) (p : Plan) (s : List ℕ) (e : record { r = s; p = p } ≡ control.decrement_branch r v op f) where
    on_by : (b : Bool) (x c : ℕ) → condition f.sr (op / 256) ≡ b → 8 ≤ length r → x ≡ get s (op % 8)
        → c ≡ counted_by 12 10 14 (eqb (x % 65536) 0xFFFF) op f → c ≡ counted 12 10 14 r op f
    unfolding counted counted_by control.decrement_branch
    on_by true x c h l e1 e2 = cc
    on_by false x c h l e1 e2 =
        let q : s ≡ put_low r (op % 8) 1 (control.counted r (op % 8)) = ap (λ (d : Done). d.r) (e ∙ goes_on v f h) in
        let k = held l in let z = spent_is in cc

    pub counted_on : (x c : ℕ) → 8 ≤ length r → x ≡ get s (op % 8) → c ≡ counted_by 12 10 14 (eqb (x % 65536) 0xFFFF) op f → c ≡ counted 12 10 14 r op f
    counted_on x c l e1 e2 = on_by (condition f.sr (op / 256)) x c refl l e1 e2

    -- it jumped: so its condition did not hold, and its count was not spent
    away_spent : (b : Bool) (n : ℕ) → condition f.sr (op / 256) ≡ false → eqb (control.counted r (op % 8)) 0xFFFF ≡ b → n ≡ plus f.pc 2
        → eqb p.flow.pc n ≡ false → 10 ≡ counted 12 10 14 r op f
    unfolding counted counted_by control.decrement_branch control.jump_when next_word
    away_spent true n h k e2 g =
        let q : p ≡ nothing (next_word v f).flow = ap (λ (d : Done). d.p) (e ∙ goes_on v f h) ∙ rw k in
        denied p.flow.pc n (ap (λ (x : Plan). x.flow.pc) q ∙ sym e2) g 10 (counted 12 10 14 r op f)
    away_spent false n h k e2 g = let z = spent_is in cc

    away_by : (b : Bool) (n : ℕ) → condition f.sr (op / 256) ≡ b → n ≡ plus f.pc 2 → eqb p.flow.pc n ≡ false → 10 ≡ counted 12 10 14 r op f
    unfolding control.decrement_branch next_word
    away_by true n h e2 g =
        let q : p ≡ nothing (next_word v f).flow = ap (λ (d : Done). d.p) e ∙ ended v f h in
        denied p.flow.pc n (ap (λ (x : Plan). x.flow.pc) q ∙ sym e2) g 10 (counted 12 10 14 r op f)
    away_by false n h e2 g = away_spent (eqb (control.counted r (op % 8)) 0xFFFF) n h refl e2 g

    pub counted_away : (n : ℕ) → n ≡ plus f.pc 2 → eqb p.flow.pc n ≡ false → 10 ≡ counted 12 10 14 r op f
    counted_away n e2 g = away_by (condition f.sr (op / 256)) n refl e2 g
