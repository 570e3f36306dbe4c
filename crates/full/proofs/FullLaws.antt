-- FullLaws.antt - the loop of a run on a full journal: what is left of it, done now, gives the whole run's answer, and its sums fit.
-- full_torn; taken-..; Going, going_start, going_again; going_spent and the three other reasons; going_room, going_step.
-- Uses: bits, bus, bank, record, oldest, turned, starts, held, step, calls.
use Prim.Native.Nat.{ℕ, suc, ◌+◌, ◌-◌, ◌*◌, ◌≤◌, ◌<◌, ◌^◌}
use native.Mathlib.Omega.{arith}
use mathlib.Core.Path.{◌≡◌, refl, sym, ap, subst, ◌∙◌}
use mathlib.Core.Bool.{Bool, true, false, ◌&&◌}
use mathlib.Core.Logic.{◌⊎◌, inl, inr}
use mathlib.Core.List.{List}
use lib.ListN.{length, set, length-set}
use lib.Dec.{ltb, leb, eqb}
use borrow.Author.Tests.{leb-true, leb-false, le-ltb, lt-ltb}
use Rattle.codes.specs.Codes.{MostSteps}
use Rattle.bus.specs.Bus.{Board}
use Rattle.bank.specs.Bank.{pc_of, mode_of}
use Rattle.numbers.proofs.WrittenLaws.{length_written}
use Rattle.record.specs.Limits.{byte_limit, longest_record}
use Rattle.record.specs.Change.{step_record}
use Rattle.step.specs.Steps.{most_clocks, one_step, step_clocks}
use Rattle.step.proofs.LargestLaws.{largest_step}
use Rattle.oldest.specs.declared.Room.{Room}
use Rattle.oldest.specs.Room.{Way, rows, torn, rows_of, row_bytes, make_room, capped}
use Rattle.oldest.proofs.SumLaws.{capped_sum}
use Rattle.turned.specs.Turned.{turned}
use Rattle.turned.proofs.TurnLaws.{turned_none, length_turned}
use Rattle.starts.specs.Starts.{Known, NotedIs}
use Rattle.held.specs.Held.{Turn}
use Rattle.held.proofs.KeepLaws.{turn_none, turn_after_step, written_turned, held_after_step, torn_when_not_noted}
use Rattle.calls.specs.declared.Manner.TheVariants.{Dropping}
use Rattle.calls.specs.declared.StepAnswer.{StepAnswer}
use Rattle.calls.specs.Calls.{memory_fits, state_fits, no_room, torn_way, is_torn, step_taken, step_with_room, StepCall, RunCall, ended, running}
use Rattle.calls.specs.History.{Seen}
use Rattle.calls.proofs.ValidLaws.{Valid, state_fits_when, valid_after_step, record_room, kept_by, small_enough}
use Rattle.calls.proofs.JournalLaws.{row_after, row_after_good}
use Rattle.calls.proofs.RunLaws.{plain}
use Rattle.full.specs.declared.Made.{Made}
use Rattle.full.specs.Full.{MadeIs}

-- a journal whose records were read is not torn
pub not_torn : (len : ℕ) (j : List ℕ) (mark : ℕ) (rs : Way) → rows_of len j mark ≡ rs → is_torn rs ≡ false → torn_way Dropping len j mark ≡ false
not_torn len j mark rs e f = go (ltb (length j - mark) longest_record)
  where
    go : (b : Bool) → (b && is_torn (rows_of len j mark)) ≡ false
    go true = rw e f
    go false = refl

-- ---- the way back judged
module _ (len : ℕ) (j : List ℕ) (mark : ℕ) (posts : List ℕ) (r : Bool) (is : NotedIs len j mark posts r) where
  -- torn: reason 6, where none before it holds
  pub full_torn : r ≡ false → (board : Board) (budget n c stop : ℕ) (s m : List ℕ) → len ≡ length m → n < budget → eqb (mode_of s) 2 ≡ false → eqb (mode_of s) 1 ≡ false → longest_record ≤ length j → length j - mark < longest_record
      → let o = running Dropping board (budget - n) n c 0 0 stop s m j mark in
      (s ≡ o.s) × ((m ≡ o.m) × ((j ≡ o.j) × (record { number = 0; reason = 6; mark = mark; steps = n; clocks = c; moved = 0; dropped = 0 } ≡ o.a)))
  unfolding running
  full_torn e board budget n c stop s m same low h₂ h₃ long short =
      let more : budget - n ≡ suc (budget - (n + 1)) = omega arith in
      let way : rows_of (length m) j mark ≡ torn = subst (λ (k : ℕ). rows_of k j mark ≡ torn) same (torn_when_not_noted len j mark posts r is e) in
      let h₆ : torn_way Dropping (length m) j mark ≡ true = rw (lt-ltb (length j - mark) longest_record short, way) in
      let is : ended 6 n c 0 0 s m j mark ≡ running Dropping board (budget - n) n c 0 0 stop s m j mark = rw (more, h₂, h₃, le-ltb (length j) longest_record long, h₆) in
      (ap (λ (o : RunCall). o.s) is, (ap (λ (o : RunCall). o.m) is, (ap (λ (o : RunCall). o.j) is, ap (λ (o : RunCall). o.a) is)))

-- ---- a step on a turned journal
-- m the memory, p the journal that is turned by b in its first h bytes, mark where the record goes
module _ (board : Board) (s m p : List ℕ) (b h mark : ℕ) (valid : Valid s m) (turn : Turn b h mark) (top : h ≤ length p) (room : mark + longest_record ≤ length p) where
  abbrev here : Seen
  here = record { board = board; slots = s; memory = m; mark = mark }

  abbrev logged : List ℕ
  logged = step_record s (one_step board s m 0 0).s m (one_step board s m 0 0).m

  logged_is : logged ≡ row_bytes (row_after plain here)
  logged_is = refl

  short : length logged ≤ longest_record
  short = record_room board s m 0 0 valid

  fits : mark + length logged ≤ length p
  fits = omega (arith, short)

  -- state and memory do not depend on the journal, and the record stands as it would on the journal that is not turned
  pub taken_turned : (step_taken board s m 0 0 (turned b h p) mark).j ≡ turned b h (step_taken board s m 0 0 p mark).j
  unfolding step_taken
  taken_turned = written_turned b h p mark logged turn top fits

  pub taken_state : (step_taken board s m 0 0 (turned b h p) mark).s ≡ (step_taken board s m 0 0 p mark).s
  unfolding step_taken
  taken_state = refl

  pub taken_memory : (step_taken board s m 0 0 (turned b h p) mark).m ≡ (step_taken board s m 0 0 p mark).m
  unfolding step_taken
  taken_memory = refl

  pub taken_answer : (step_taken board s m 0 0 (turned b h p) mark).a ≡ (step_taken board s m 0 0 p mark).a
  unfolding step_taken
  taken_answer = refl

  -- what goes on
  pub taken_valid : Valid (step_taken board s m 0 0 p mark).s (step_taken board s m 0 0 p mark).m
  unfolding step_taken
  taken_valid = valid_after_step board s m 0 0 valid

  pub taken_size : length (step_taken board s m 0 0 p mark).m ≡ length m
  unfolding step_taken
  taken_size = (kept_by board s m 0 0 valid).memory

  pub taken_length : length (step_taken board s m 0 0 p mark).j ≡ length p
  unfolding step_taken
  taken_length = length_written p mark logged fits

  pub taken_mark : (mark ≤ (step_taken board s m 0 0 p mark).a.mark) × ((step_taken board s m 0 0 p mark).a.mark ≤ mark + longest_record)
  unfolding step_taken
  taken_mark = (omega arith, omega (arith, short))

  pub taken_known : (posts near : List ℕ) (i base k : ℕ) → Known (length m) (turned b h p) mark posts near i base
      → Known (length m) (turned b h (step_taken board s m 0 0 p mark).j) (step_taken board s m 0 0 p mark).a.mark (set posts k (base + mark)) near i base
  unfolding step_taken
  taken_known posts near i base k x =
      held_after_step (length m) b h p mark posts near i base (row_after plain here) x (let q = small_enough s m valid in omega arith) turn top fits (row_after_good plain here valid) k

-- one of two
pub either_of : {A B C : Type 0} → A ⊎ B → (A → C) → (B → C) → C
either_of (inl x) f k = f x
either_of (inr y) f k = k y

-- ---- the loop
-- At its head, n steps of c clocks done, v bytes moved (cut at 64 bits) and u records dropped: what is left of the run gives its answer o, and a
-- step can be taken. The journal is p, turned by b in its first h bytes; base bytes are dropped. [ours]
pub record Going (board : Board) (budget stop : ℕ) (o : RunCall) (h first : ℕ) (m₀ p₀ l₀ posts₀ near₀ s m p l posts near : List ℕ) (n c mark b i base v u : ℕ) : Type 0 where
  pub le : n ≤ budget
  pub few : budget ≤ MostSteps
  pub sum : c ≤ most_clocks * n
  pub exact : ℕ
  pub cut : v ≡ capped exact
  pub rest : running Dropping board (budget - n) n c exact u stop s m (turned b h p) mark ≡ o
  pub valid : Valid s m
  pub same_memory : length m ≡ length m₀
  pub same_journal : length p ≡ length p₀
  pub same_log : length l ≡ length l₀
  pub same_posts : length posts ≡ length posts₀
  pub same_near : length near ≡ length near₀
  pub room : byte_limit ≤ length l
  pub long : longest_record ≤ length p
  pub top : h ≤ length p
  pub inside : mark ≤ length p
  pub turn : Turn b h mark
  pub known : Known (length m) (turned b h p) mark posts near i base
  pub bound : base + mark ≤ first + longest_record * n
  pub weighs : u ≤ base

pub going_start : (board : Board) (budget stop done clocks h : ℕ) (s m p l posts near : List ℕ) (mark : ℕ) → Valid s m → mark ≤ length p → byte_limit ≤ length l → longest_record ≤ length p → budget ≤ MostSteps → done ≤ budget
    → clocks ≤ most_clocks * done → h ≤ length p → Known (length m) p mark posts near (length near) 0
    → Going board budget stop (running Dropping board (budget - done) done clocks 0 0 stop s m p mark) h mark m p l posts near s m p l posts near done clocks mark 0 (length near) 0 0 0
going_start board budget stop done clocks h s m p l posts near mark valid inside log long few low sum top known =
    let same = turned_none h p in
    record {
      le = low;
      few = few;
      sum = sum;
      exact = 0;
      cut = refl;
      rest = ap (λ (j : List ℕ). running Dropping board (budget - done) done clocks 0 0 stop s m j mark) same;
      valid = valid;
      same_memory = refl;
      same_journal = refl;
      same_log = refl;
      same_posts = refl;
      same_near = refl;
      room = log;
      long = long;
      top = top;
      inside = inside;
      turn = turn_none h mark;
      known = subst (λ (j : List ℕ). Known (length m) j mark posts near (length near) 0) (sym same) known;
      bound = omega arith;
      weighs = omega arith;
    }

module _ {board : Board} {budget stop : ℕ} {o : RunCall} {h first : ℕ} {m₀ p₀ l₀ posts₀ near₀ s m p l posts near : List ℕ} {n c mark b i base v u : ℕ}
    (g : Going board budget stop o h first m₀ p₀ l₀ posts₀ near₀ s m p l posts near n c mark b i base v u) where
  -- the run gives what is there now, once the journal is turned back, and reason k
  abbrev pub Gives : ℕ → Type 0
  Gives k =
      (p₁ : List ℕ) → p₁ ≡ turned b h p
      → (s ≡ o.s) × ((m ≡ o.m) × ((p₁ ≡ o.j) × (record { number = 0; reason = k; mark = mark; steps = n; clocks = c; moved = v; dropped = u } ≡ o.a)))

  gives : (k : ℕ) → ended k n c g.exact u s m (turned b h p) mark ≡ o → Gives k
  gives k e p₁ q =
      let a = ap (λ (o : RunCall). o.a) e in (
        ap (λ (o : RunCall). o.s) e,
        (
          ap (λ (o : RunCall). o.m) e,
          (
            q ∙ ap (λ (o : RunCall). o.j) e,
            ap (λ (w : ℕ). record { number = 0; reason = k; mark = mark; steps = n; clocks = c; moved = w; dropped = u }) g.cut ∙ a,
          ),
        ),
      )

  pub at_reason : (k reason : ℕ) → reason ≡ k → Gives k → Gives reason
  at_reason k reason e x = rw e x

  pub going_spent : leb budget n ≡ true → Gives 1
  unfolding running
  going_spent e = let z : budget - n ≡ 0 = (let q : budget ≤ n = leb-true budget n e in omega arith) in gives 1 (rw z at g.rest)

  pub going_one : leb budget n ≡ false → n + 1 < 2 ^ 32
  going_one e = let q : n < budget = leb-false budget n e in omega (arith, g.few)

  pub going_less : leb budget n ≡ false → budget - (n + 1) < budget - n
  going_less e = let q : n < budget = leb-false budget n e in omega arith

  -- the journal is long enough, and its records are well shaped
  size : length (turned b h p) ≡ length p
  size = length_turned b h p g.turn.low g.top

  room_here : no_room Dropping (turned b h p) mark ≡ false
  room_here = le-ltb (length (turned b h p)) longest_record (let q = g.long in omega (arith, size))

  whole_here : torn_way Dropping (length m) (turned b h p) mark ≡ false
  whole_here = not_torn (length m) (turned b h p) mark (rows g.known.index.all) g.known.index.read refl

  module _ (e₁ : leb budget n ≡ false) where
    more : budget - n ≡ suc (budget - (n + 1))
    more = let q : n < budget = leb-false budget n e₁ in omega arith

    now_left : running Dropping board (suc (budget - (n + 1))) n c g.exact u stop s m (turned b h p) mark ≡ o
    now_left = rw more at g.rest

    pub going_halted : eqb (mode_of s) 2 ≡ true → Gives 2
    unfolding running
    going_halted e = gives 2 (rw e at now_left)

    module _ (e₂ : eqb (mode_of s) 2 ≡ false) where
      pub going_stopped : eqb (mode_of s) 1 ≡ true → Gives 3
      unfolding running
      going_stopped e = gives 3 (rw (e₂, e) at now_left)

      module _ (e₃ : eqb (mode_of s) 1 ≡ false) where
        pub going_there : eqb (pc_of s) stop ≡ true → Gives 5
        unfolding running
        going_there e = gives 5 (rw (e₂, e₃, room_here, whole_here, e) at now_left)

        module _ (e₅ : eqb (pc_of s) stop ≡ false) where
          stepped_left : (let t = step_with_room Dropping board s m 0 0 (turned b h p) mark in
              running Dropping board (budget - (n + 1)) (n + 1) (c + t.a.clocks) (g.exact + t.a.moved) (u + t.a.dropped) stop t.s t.m t.j t.a.mark) ≡ o
          unfolding running
          stepped_left = rw (e₂, e₃, room_here, whole_here, e₅) at now_left

  -- what making room asks
  pub going_room : (spread : ℕ) → 0 < spread → 0 < length posts₀ → 0 < length near₀ → first < 2 ^ 63
      → ((mark ≤ length p) × (h ≤ length p) × (length m₀ ≤ 2 ^ 32) × (base + mark < 2 ^ 64) × Turn b h mark)
      × ((longest_record ≤ length p) × (0 < spread) × (0 < length posts) × (0 < length near) × Known (length m₀) (turned b h p) mark posts near i base)
  going_room spread some posts-some near-some low =
      let small = small_enough s m g.valid in
      let known = subst (λ (k : ℕ). Known k (turned b h p) mark posts near i base) g.same_memory g.known in
      ((g.inside, g.top, (let q = g.same_memory in omega arith), below, g.turn), (g.long, some, (let q = g.same_posts in omega arith), (let q = g.same_near in omega arith), known))
    where
      below : base + mark < 2 ^ 64
      below = let q = g.bound in let r = g.le in let t = g.few in omega arith

  -- ---- with the room r, whose journal is p₁
  module _ (p₁ near₁ : List ℕ) (r : Made) (made : MadeIs (length m₀) (turned b h p) mark h base p₁ posts near₁ r) (same₁ : length p₁ ≡ length p) where
    is : MadeIs (length m) (turned b h p) mark h base p₁ posts near₁ r
    is = subst (λ (k : ℕ). MadeIs k (turned b h p) mark h base p₁ posts near₁ r) (sym g.same_memory) made

    abbrev t : StepCall
    t = step_taken board s m 0 0 p₁ r.mark

    top₁ : h ≤ length p₁
    top₁ = let q = g.top in omega arith

    room₁ : r.mark + longest_record ≤ length p₁
    room₁ = let q = is.inside in omega (arith, size)

    -- what a step asks
    pub going_step : (memory_fits m ≡ true) × (r.mark + longest_record ≤ length p₁) × (byte_limit ≤ length l) × (state_fits s ≡ true)
    going_step = (g.valid.fits, room₁, g.room, state_fits_when s m g.valid)

    -- sums that fit
    pub going_post : first < 2 ^ 63 → r.base + r.mark < 2 ^ 64
    going_post low = let q = g.bound in let w = g.le in let k = g.few in omega (arith, is.sum)

    pub going_dropped : first < 2 ^ 63 → u + r.dropped < 2 ^ 64
    going_dropped low = let q = g.weighs in omega (arith, is.weighs, going_post low)

    summed : (a : StepAnswer) → a ≡ t.a → c + a.clocks ≤ most_clocks * (n + 1)
    unfolding step_taken
    summed a e =
        let q : a.clocks ≡ step_clocks board s m 0 0 = ap (λ (a : StepAnswer). a.clocks) e in
        omega (arith, q, g.sum, largest_step board s m 0 0)

    pub going_sum : leb budget n ≡ false → (a : StepAnswer) → a ≡ t.a → c + a.clocks < 2 ^ 32
    going_sum e a q = let z : n < budget = leb-false budget n e in omega (arith, summed a q, g.few)

    -- the step of the definition is the one that is taken
    abbrev w : StepCall
    w = step_with_room Dropping board s m 0 0 (turned b h p) mark

    room_is : step_taken board s m 0 0 (make_room (length m) (turned b h p) mark).j (make_room (length m) (turned b h p) mark).a.mark ≡ step_taken board s m 0 0 (turned r.b h p₁) r.mark
    room_is =
        ap (λ (j : List ℕ). step_taken board s m 0 0 j (make_room (length m) (turned b h p) mark).a.mark) (sym is.journal)
        ∙ ap (λ (a : Room). step_taken board s m 0 0 (turned r.b h p₁) a.mark) is.answer

    slots_are : w.s ≡ t.s
    unfolding step_with_room
    slots_are = ap (λ (c : StepCall). c.s) room_is ∙ taken_state board s m p₁ r.b h r.mark g.valid is.turn top₁ room₁

    memory_is : w.m ≡ t.m
    unfolding step_with_room
    memory_is = ap (λ (c : StepCall). c.m) room_is ∙ taken_memory board s m p₁ r.b h r.mark g.valid is.turn top₁ room₁

    journal_is : w.j ≡ turned r.b h t.j
    unfolding step_with_room
    journal_is = ap (λ (c : StepCall). c.j) room_is ∙ taken_turned board s m p₁ r.b h r.mark g.valid is.turn top₁ room₁

    answer_is : w.a ≡ record { number = t.a.number; event = t.a.event; mark = t.a.mark; clocks = t.a.clocks; moved = r.moved; dropped = r.dropped }
    unfolding step_with_room
    answer_is =
        let told = ap (λ (c : StepCall). c.a) room_is ∙ taken_answer board s m p₁ r.b h r.mark g.valid is.turn top₁ room₁ in
        ap (λ (a : StepAnswer). record { number = a.number; event = a.event; mark = a.mark; clocks = a.clocks; moved = (make_room (length m) (turned b h p) mark).a.moved; dropped = (make_room (length m) (turned b h p) mark).a.dropped }) told
        ∙ ap (λ (q : Room). record { number = t.a.number; event = t.a.event; mark = t.a.mark; clocks = t.a.clocks; moved = q.moved; dropped = q.dropped }) is.answer

    module _ (e₁ : leb budget n ≡ false) (e₂ : eqb (mode_of s) 2 ≡ false) (e₃ : eqb (mode_of s) 1 ≡ false) (e₅ : eqb (pc_of s) stop ≡ false)
        (s₂ m₂ p₂ l₂ : List ℕ) (a : StepAnswer) (d₁ : s₂ ≡ t.s) (d₂ : m₂ ≡ t.m) (d₃ : p₂ ≡ t.j) (d₄ : a ≡ t.a) (v₂ : ℕ) (d₅ : v₂ ≡ capped (v + r.moved)) where
      left_then : running Dropping board (budget - (n + 1)) (n + 1) (c + a.clocks) (g.exact + r.moved) (u + r.dropped) stop s₂ m₂ (turned r.b h p₂) a.mark ≡ o
      left_then =
          let q = stepped_left e₁ e₂ e₃ e₅ in
          let z = rw (slots_are, memory_is, journal_is, answer_is) at q in
          rw (d₁, d₂, d₃, d₄) z

      pub going_again : (k : ℕ) (posts₂ : List ℕ) → posts₂ ≡ set posts k (r.base + r.mark) → length near₁ ≡ length near → length l₂ ≡ length l
          → Going board budget stop o h first m₀ p₀ l₀ posts₀ near₀ s₂ m₂ p₂ l₂ posts₂ near₁ (n + 1) (c + a.clocks) a.mark r.b r.i r.base v₂ (u + r.dropped)
      going_again k posts₂ noted same_near same_log =
          let mark_told : a.mark ≡ t.a.mark = ap (λ (a : StepAnswer). a.mark) d₄ in
          let grown = taken_mark board s m p₁ r.b h r.mark g.valid is.turn top₁ room₁ in
          let length₂ : length p₂ ≡ length p₁ = ap length d₃ ∙ taken_length board s m p₁ r.b h r.mark g.valid is.turn top₁ room₁ in
          let size₂ : length m₂ ≡ length m = ap length d₂ ∙ taken_size board s m p₁ r.b h r.mark g.valid is.turn top₁ room₁ in
          let posts_same : length posts₂ ≡ length posts = ap length noted ∙ length-set posts k (r.base + r.mark) in
          let known₂ = taken_known board s m p₁ r.b h r.mark g.valid is.turn top₁ room₁ posts near₁ r.i r.base k is.known in
          record {
            le = (let q : n < budget = leb-false budget n e₁ in omega arith);
            few = g.few;
            sum = summed a d₄;
            exact = g.exact + r.moved;
            cut = d₅ ∙ ap (λ (x : ℕ). capped (x + r.moved)) g.cut ∙ capped_sum g.exact r.moved;
            rest = left_then;
            valid = rw (d₁, d₂) (taken_valid board s m p₁ r.b h r.mark g.valid is.turn top₁ room₁);
            same_memory = size₂ ∙ g.same_memory;
            same_journal = length₂ ∙ same₁ ∙ g.same_journal;
            same_log = same_log ∙ g.same_log;
            same_posts = posts_same ∙ g.same_posts;
            same_near = same_near ∙ g.same_near;
            room = (let q = g.room in omega arith);
            long = (let q = g.long in omega arith);
            top = (let q = g.top in omega arith);
            inside = omega (arith, grown, mark_told, room₁, length₂);
            turn = turn_after_step r.b h r.mark a.mark is.turn (omega (arith, grown, mark_told));
            known = rw (noted, size₂, d₃, mark_told) known₂;
            bound = (let q = g.bound in omega (arith, is.sum, grown, mark_told));
            weighs = (let q = g.weighs in omega (arith, is.weighs));
          }
