-- Tries.antt - the pattern tryer from C: its two calls on the slots that the block holds, and refusal 9 before all others; all that they promise.
-- After a call the block holds the returned state; at 9 nothing is read, judged or altered, and the window stays.
-- Uses: bus, block, tries.  Laws: proofs/TryLaws.antt.  Source: [K1], [K7], [01 How much each promise says].
use Rattle.std.specs.Prelude.{ℕ, ◌≡◌, List}
use Rattle.bus.specs.declared.Window.{Window}
use Rattle.bus.specs.Bus.{Board}
use Rattle.tries.specs.declared.TryAnswer.{TryAnswer}
use Rattle.tries.specs.declared.BackAnswer.{BackAnswer}
use Rattle.tries.specs.Tries.{refused, try_call, back_call}
use Rattle.block.specs.Block.{slots_in}
use Rattle.block_calls.specs.Calls.{OnBlock, on_block}

-- the answer of a refused try: its number, the mark as given, 0 for the rest  [K7]
abbrev pub try_refusal : ℕ → ℕ → TryAnswer
try_refusal mark n = record { end = refused; number = n; vector = 0; steps = 0; mark = mark }

-- the answer where nothing is taken back: its number, the mark and the window as given  [K7]
abbrev pub back_refusal : Window → ℕ → ℕ → BackAnswer
back_refusal win mark n = record { number = n; undone = 0; mark = mark; lo = win.lo; hi = win.hi }

-- a try on the slots that the block holds  [K1] [K7]
unfoldable pub ibz_try : List ℕ → Board → List ℕ → ℕ → List ℕ → ℕ → OnBlock TryAnswer
ibz_try b board m count j mark =
    let c = try_call board (slots_in b) m count j mark in on_block b m j (try_refusal mark) c.s c.m c.j c.a

-- taking back on them; it only reads the journal  [K1] [K7]
unfoldable pub ibz_back : List ℕ → Board → List ℕ → List ℕ → ℕ → ℕ → Window → OnBlock BackAnswer
ibz_back b board m j mark steps old =
    let c = back_call board old (slots_in b) m j mark steps in on_block b m j (back_refusal board.window mark) c.s c.m j c.a

-- ---- what they promise

-- a try  [K1] [K7]
pub record IbzTryPromise (b : List ℕ) (board : Board) (m : List ℕ) (count : ℕ) (j : List ℕ) (mark : ℕ) (b' m' j' : List ℕ) (a : TryAnswer) : Type 0 where
  pub block : b' ≡ (ibz_try b board m count j mark).b
  pub memory : m' ≡ (ibz_try b board m count j mark).m
  pub journal : j' ≡ (ibz_try b board m count j mark).j
  pub answer : a ≡ (ibz_try b board m count j mark).a

-- taking back: the journal is lent to be read only  [K1] [K7]
pub record IbzBackPromise (b : List ℕ) (board : Board) (m j : List ℕ) (mark steps : ℕ) (old : Window) (b' m' : List ℕ) (a : BackAnswer) : Type 0 where
  pub block : b' ≡ (ibz_back b board m j mark steps old).b
  pub memory : m' ≡ (ibz_back b board m j mark steps old).m
  pub answer : a ≡ (ibz_back b board m j mark steps old).a
