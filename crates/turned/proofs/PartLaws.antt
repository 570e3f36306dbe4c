-- PartLaws.antt - the laws of parts of a list: joined, read from what was written elsewhere, and what the slice methods leave.
-- Speaks of: slice, written of numbers.
-- Assumes nothing.  Source: [ours].
use Prim.Native.Nat.{ℕ, ◌+◌, ◌-◌, ◌≤◌}
use mathlib.Core.Path.{◌≡◌, sym, ap, ◌∙◌}
use mathlib.Core.List.{List, ◌++◌, append_assoc, reverse}
use native.Mathlib.Omega.{arith}
use lib.ListN.{length, take, drop, length-reverse, take-append-drop}
use borrow.Rule.Slice.PartMut.{put_mid}
use lib.Seq.{slice, paste, take-take, take-append-le, drop-append-le, drop-drop, length-slice, length-take-le}
use Rattle.std.proofs.lemmas.Slice.{between_is}
use Rattle.numbers.specs.Number.{written}
use Rattle.numbers.proofs.WrittenLaws.{drop_written}

-- ---- parts
pub slice_join : (l : List ℕ) (s e t : ℕ) → s ≤ e → e ≤ t → t ≤ length l → slice s t l ≡ slice s e l ++ slice e t l
slice_join l s e t h k m =
    let short : s ≤ length (take e l) = omega (arith, length-take-le e l (omega arith)) in
    ap (drop s) (sym (take-append-drop e (take t l)) ∙ ap (λ (x : List ℕ). x ++ slice e t l) (take-take e t l k))
    ∙ drop-append-le s (take e l) (slice e t l) short

-- ---- what a write leaves: below its place, and from its end on
module _ (l : List ℕ) (at : ℕ) (bs : List ℕ) (fits : at + length bs ≤ length l) where
  pub take_below : (n : ℕ) → n ≤ at → take n (written l at bs) ≡ take n l
  take_below n h =
      let short : n ≤ length (take at l) = omega (arith, length-take-le at l (omega arith)) in
      ap (take n) (append_assoc (take at l) bs (drop (at + length bs) l)) ∙ take-append-le n (take at l) (bs ++ drop (at + length bs) l) short ∙ take-take n at l h

  pub drop_above : (n : ℕ) → at + length bs ≤ n → drop n (written l at bs) ≡ drop n l
  drop_above n h =
      let m = n - (at + length bs) in
      let e : n ≡ at + length bs + m = omega arith in
      ap (λ (k : ℕ). drop k (written l at bs)) e ∙ drop_written l at bs fits m ∙ ap (λ (k : ℕ). drop k l) (sym e)

  pub slice_above : (s t : ℕ) → at + length bs ≤ s → slice s t (written l at bs) ≡ slice s t l
  slice_above s t h = sym (between_is (written l at bs) s t) ∙ ap (take (t - s)) (drop_above s h) ∙ between_is l s t

  pub slice_below : (s t : ℕ) → t ≤ at → slice s t (written l at bs) ≡ slice s t l
  slice_below s t h = ap (drop s) (take_below t h)

-- ---- the slice methods
module _ (l : List ℕ) (s e : ℕ) (order : s ≤ e) (inside : e ≤ length l) where
  -- a copy within the list
  pub written_of_copy : (to : ℕ) → paste l to (drop s l) (e - s) ≡ written l to (slice s e l)
  written_of_copy to =
      let size : to + (e - s) ≡ to + length (slice s e l) = omega (arith, length-slice s e l inside) in
      ap (λ (x : List ℕ). take to l ++ x ++ drop (to + (e - s)) l) (between_is l s e) ∙ ap (λ (n : ℕ). take to l ++ slice s e l ++ drop n l) size

  -- a part, turned round, put back in its place
  pub written_of_reverse : (ys : List ℕ) → ys ≡ reverse (take (e - s) (drop s l)) → put_mid s (e - s) l ys ≡ written l s (reverse (slice s e l))
  written_of_reverse ys is =
      let turned : ys ≡ reverse (slice s e l) = is ∙ ap reverse (between_is l s e) in
      let size : s + (e - s) ≡ s + length (reverse (slice s e l)) = omega (arith, length-reverse (slice s e l), length-slice s e l inside) in
      sym (append_assoc (take s l) ys (drop (e - s) (drop s l)))
      ∙ ap (λ (x : List ℕ). take s l ++ x ++ drop (e - s) (drop s l)) turned
      ∙ ap (λ (x : List ℕ). take s l ++ reverse (slice s e l) ++ x) (drop-drop (e - s) s l ∙ ap (λ (n : ℕ). drop n l) size)
