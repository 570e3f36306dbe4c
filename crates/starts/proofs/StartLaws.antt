-- StartLaws.antt - the fewest oldest records that make room, by a list of the starts of the oldest.
-- * dropped_by_starts: the first start that is not below need is where what is kept begins.   * entry_is, entry_low: an entry of the list.
-- Speaks of: starts_of and Indexed of specs/Starts.antt, dropped of oldest.
-- Assumes nothing.  Source: [K5], [ours].
use Prim.Native.Nat.{ℕ, zero, suc, ◌+◌, ◌-◌, ◌≤◌, ◌<◌}
use mathlib.Core.Path.{◌≡◌, refl, sym, ap, ◌∙◌}
use mathlib.Core.List.{List, [], ◌∷◌, ◌++◌}
use native.Mathlib.Omega.{arith}
use lib.ListN.{length, get_or, take, drop, length-append}
use lib.Seq.{get_or-take, get_or-drop}
use borrow.Author.Tests.{lt-ltb, le-ltb}
use Rattle.oldest.specs.Room.{Row, row_bytes, rows_bytes, dropped}
use Rattle.starts.specs.Starts.{starts_of, Indexed}

-- ---- the starts of records
pub start_at : (at : ℕ) (rs : List Row) (k : ℕ) → k < length rs → get_or (starts_of at rs) k 0 ≡ at + length (rows_bytes (take k rs))
start_at at [] k h = absurd (omega arith)
start_at at (r ∷ rs) zero h = omega arith
start_at at (r ∷ rs) (suc k) h =
    omega (arith, start_at (at + length (row_bytes r)) rs k (omega arith), length-append (row_bytes r) (rows_bytes (take k rs)))

pub drop_starts : (at : ℕ) (rs : List Row) (k : ℕ) → drop k (starts_of at rs) ≡ starts_of (at + length (rows_bytes (take k rs))) (drop k rs)
drop_starts at rs zero = let e : at ≡ at + 0 = omega arith in ap (λ (n : ℕ). starts_of n rs) e
drop_starts at [] (suc k) = refl
drop_starts at (r ∷ rs) (suc k) =
    let e : at + length (row_bytes r) + length (rows_bytes (take k rs)) ≡ at + length (rows_bytes (take (suc k) (r ∷ rs))) = omega (arith, length-append (row_bytes r) (rows_bytes (take k rs))) in
    drop_starts (at + length (row_bytes r)) rs k ∙ ap (λ (n : ℕ). starts_of n (drop k rs)) e

pub take_starts : (at m : ℕ) (rs : List Row) (r : Row) → m ≤ length rs → take m (starts_of at (rs ++ r ∷ [])) ≡ take m (starts_of at rs)
take_starts at zero rs r h = refl
take_starts at (suc m) [] r h = absurd (omega arith)
take_starts at (suc m) (s ∷ rs) r h = ap (λ (l : List ℕ). at ∷ l) (take_starts (at + length (row_bytes s)) m rs r (omega arith))

-- ---- the first start that is not below need
pub dropped_by_starts : (need at : ℕ) (rs : List Row) (k : ℕ) → k < length rs
    → ((q : ℕ) → q < k → at + length (rows_bytes (take q rs)) < need) → need ≤ at + length (rows_bytes (take k rs)) → dropped need at rs ≡ k
dropped_by_starts need at [] k h low high = absurd (omega arith)
dropped_by_starts need at (r ∷ rs) zero h low high = rw (le-ltb at need (omega arith))
dropped_by_starts need at (r ∷ rs) (suc k) h low high =
    let first : at < need = (let z = low 0 (omega arith) in omega arith) in
    rw (lt-ltb at need first)
    (ap suc (dropped_by_starts need (at + length (row_bytes r)) rs k (omega arith)
    (λ q l. omega (arith, low (suc q) (omega arith), length-append (row_bytes r) (rows_bytes (take q rs))))
    (omega (arith, high, length-append (row_bytes r) (rows_bytes (take k rs))))))

-- ---- an entry of the index
module _ (len : ℕ) (j : List ℕ) (mark : ℕ) (index : List ℕ) (i n base : ℕ) (order : i ≤ n) (inside : n ≤ length index) (x : Indexed len j mark index i n base) where
  abbrev before_row : ℕ → ℕ
  before_row q = length (rows_bytes (take q x.all))

  pub entry_is : (q : ℕ) → q < n - i → get_or index (i + q) 0 ≡ base + before_row q
  entry_is q h =
      let within : i + q < n = omega arith in
      sym (get_or-take n index (i + q) 0 within)
      ∙ sym (get_or-drop i (take n index) q 0)
      ∙ ap (λ (l : List ℕ). get_or l q 0) x.known
      ∙ get_or-take (n - i) (starts_of base x.all) q 0 h
      ∙ start_at base x.all q (omega (arith, x.few))

  pub entry_low : (k : ℕ) → i ≤ k → k < n → base ≤ get_or index k 0
  entry_low k l h =
      let e : i + (k - i) ≡ k = omega arith in
      let z : get_or index k 0 ≡ base + before_row (k - i) = ap (λ (m : ℕ). get_or index m 0) (sym e) ∙ entry_is (k - i) (omega arith) in
      omega arith
