-- Promises.antt - all that the tryer's two calls promise: their answers, and slots, memory and journal afterwards, for every input.
-- Not here: the definitions that they name (Tries.antt).
-- Laws: proofs/PromiseLaws.antt.  Source: [K7], [01 How much each promise says].
use Rattle.std.specs.Prelude.{ℕ, ◌≡◌, List}
use Rattle.bus.specs.declared.Window.{Window}
use Rattle.bus.specs.Bus.{Board}
use Rattle.tries.specs.declared.TryAnswer.{TryAnswer}
use Rattle.tries.specs.declared.BackAnswer.{BackAnswer}
use Rattle.tries.specs.Tries.{try_call, back_call}

-- a try  [K7]
pub record TryPromise (board : Board) (s m : List ℕ) (count : ℕ) (j : List ℕ) (mark : ℕ) (s' m' j' : List ℕ) (a : TryAnswer) : Type 0 where
  pub slots : s' ≡ (try_call board s m count j mark).s
  pub memory : m' ≡ (try_call board s m count j mark).m
  pub journal : j' ≡ (try_call board s m count j mark).j
  pub answer : a ≡ (try_call board s m count j mark).a

-- taking back: the journal is lent to be read only  [K7]
pub record BackPromise (board : Board) (old : Window) (s m j : List ℕ) (mark steps : ℕ) (s' m' : List ℕ) (a : BackAnswer) : Type 0 where
  pub slots : s' ≡ (back_call board old s m j mark steps).s
  pub memory : m' ≡ (back_call board old s m j mark steps).m
  pub answer : a ≡ (back_call board old s m j mark steps).a
