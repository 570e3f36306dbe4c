-- TurnLaws.antt - a turned journal: dropping from it, writing above the turned part, and turning it back.
-- * turned_none: by 0 it is itself.   * turned_written: a record written above the turned part.   * turned_drop: what drop_turned does.
-- * turned_back: three reversals turn it back.
-- Speaks of: turned of specs/Turned.antt.
-- Assumes nothing.  Source: [ours].
use Prim.Native.Nat.{ℕ, ◌+◌, ◌-◌, ◌≤◌}
use mathlib.Core.Path.{◌≡◌, sym, ap, ◌∙◌}
use mathlib.Core.List.{List, ◌++◌, append_assoc, append-nil, reverse, reverse-append, reverse-reverse}
use native.Mathlib.Omega.{arith}
use lib.ListN.{length, take, drop, length-append, length-drop, length-reverse, take-append-drop}
use lib.Seq.{slice, take-append-add, drop-append-le, drop-append-add, drop-drop, drop_at, length-slice, length-take-le}
use Rattle.std.proofs.lemmas.Slice.{between_is}
use Rattle.numbers.specs.Number.{written}
use Rattle.numbers.proofs.WrittenLaws.{take_written, length_written}
use Rattle.turned.specs.Turned.{turned}
use Rattle.turned.proofs.PartLaws.{slice_join, take_below, drop_above, slice_above, slice_below}

pub turned_none : (h : ℕ) (p : List ℕ) → turned 0 h p ≡ p
turned_none h p = ap (λ (l : List ℕ). l ++ drop h p) (append-nil (take h p)) ∙ take-append-drop h p

module _ (b h : ℕ) (p : List ℕ) (low : b ≤ h) (inside : h ≤ length p) where
  front_length : length (slice b h p ++ take b p) ≡ h
  front_length = omega (arith, length-append (slice b h p) (take b p), length-slice b h p inside, length-take-le b p (omega arith))

  pub length_turned : length (turned b h p) ≡ length p
  length_turned = omega (arith, length-append (slice b h p ++ take b p) (drop h p), front_length, length-drop h p)

  -- above the turned part nothing is turned
  pub drop_turned_above : (n : ℕ) → h ≤ n → drop n (turned b h p) ≡ drop n p
  drop_turned_above n k =
      let m = n - h in
      let e : n ≡ length (slice b h p ++ take b p) + m = omega (arith, front_length) in
      let f : h + m ≡ n = omega arith in
      ap (λ (i : ℕ). drop i (turned b h p)) e ∙ drop-append-add (slice b h p ++ take b p) (drop h p) m ∙ drop-drop m h p ∙ ap (λ (i : ℕ). drop i p) f

  pub take_turned : (n : ℕ) → h ≤ n → take n (turned b h p) ≡ slice b h p ++ take b p ++ slice h n p
  take_turned n k =
      let m = n - h in
      let e : n ≡ length (slice b h p ++ take b p) + m = omega (arith, front_length) in
      ap (λ (i : ℕ). take i (turned b h p)) e
      ∙ take-append-add (slice b h p ++ take b p) (drop h p) m
      ∙ ap (λ (l : List ℕ). slice b h p ++ take b p ++ l) (between_is p h n)

  -- a record written above the turned part
  pub turned_written : (at : ℕ) (bs : List ℕ) → h ≤ at → at + length bs ≤ length p → turned b h (written p at bs) ≡ written (turned b h p) at bs
  turned_written at bs k fits =
      let new = written p at bs in
      let above : drop h new ≡ slice h at p ++ (bs ++ drop (at + length bs) p) =
      ap (drop h) (append_assoc (take at p) bs (drop (at + length bs) p)) ∙ drop-append-le h (take at p) (bs ++ drop (at + length bs) p) (omega (arith, length-take-le at p (omega arith))) in
      ap (λ (l : List ℕ). l ++ take b new ++ drop h new) (slice_below p at bs fits b h k)
      ∙ ap (λ (l : List ℕ). slice b h p ++ l ++ drop h new) (take_below p at bs fits b (omega arith))
      ∙ ap (λ (l : List ℕ). slice b h p ++ take b p ++ l) above
      ∙ sym (append_assoc (slice b h p ++ take b p) (slice h at p) (bs ++ drop (at + length bs) p))
      ∙ sym (append_assoc (slice b h p ++ take b p ++ slice h at p) bs (drop (at + length bs) p))
      ∙ ap (λ (l : List ℕ). l ++ bs ++ drop (at + length bs) p) (sym (take_turned at k))
      ∙ ap (λ (l : List ℕ). take at (turned b h p) ++ bs ++ l) (sym (drop_turned_above (at + length bs) (omega arith)))

-- ---- the oldest c bytes dropped
module _ (b h c mark : ℕ) (p : List ℕ) (room : b + c ≤ h) (above : h + c ≤ mark) (inside : mark ≤ length p) where
  abbrev crossing : List ℕ
  crossing = slice h (h + c) p

  abbrev p₁ : List ℕ
  p₁ = written p b crossing

  crossing_length : length crossing ≡ c
  crossing_length = omega (arith, length-slice h (h + c) p (omega arith))

  first_fits : b + length crossing ≤ length p
  first_fits = omega (arith, crossing_length)

  same_length : length p₁ ≡ length p
  same_length = length_written p b crossing first_fits

  abbrev moving : List ℕ
  moving = slice (h + c) mark p₁

  moving_is : moving ≡ slice (h + c) mark p
  moving_is = slice_above p b crossing first_fits (h + c) mark (omega (arith, crossing_length))

  moving_length : h + length moving ≡ mark - c
  moving_length = omega (arith, length-slice (h + c) mark p₁ (omega (arith, same_length)))

  second_fits : h + length moving ≤ length p₁
  second_fits = omega (arith, moving_length, same_length)

  abbrev p₂ : List ℕ
  p₂ = written p₁ h moving

  left_front : slice (b + c) h p₂ ≡ slice (b + c) h p
  left_front = slice_below p₁ h moving second_fits (b + c) h (omega arith) ∙ slice_above p b crossing first_fits (b + c) h (omega (arith, crossing_length))

  left_back : take (b + c) p₂ ≡ take b p ++ crossing
  left_back =
      let e : b + c ≡ b + length crossing = omega (arith, crossing_length) in
      take_below p₁ h moving second_fits (b + c) room ∙ ap (λ (n : ℕ). take n p₁) e ∙ take_written p b crossing first_fits

  left_rest : drop h p₂ ≡ moving ++ drop (mark - c) p
  left_rest =
      ap (drop h) (append_assoc (take h p₁) moving (drop (h + length moving) p₁))
      ∙ drop_at (take h p₁) (moving ++ drop (h + length moving) p₁) h (length-take-le h p₁ (omega (arith, same_length)))
      ∙ ap (λ (n : ℕ). moving ++ drop n p₁) moving_length
      ∙ ap (λ (l : List ℕ). moving ++ l) (drop_above p b crossing first_fits (mark - c) (omega (arith, crossing_length)))

  old_kept : slice c mark (turned b h p) ≡ slice (b + c) h p ++ take b p ++ slice h mark p
  old_kept =
      let short : c ≤ length (slice b h p) = omega (arith, length-slice b h p (omega arith)) in
      ap (drop c) (take_turned b h p (omega arith) (omega arith) mark (omega arith) ∙ append_assoc (slice b h p) (take b p) (slice h mark p))
      ∙ drop-append-le c (slice b h p) (take b p ++ slice h mark p) short
      ∙ ap (λ (l : List ℕ). l ++ (take b p ++ slice h mark p)) (drop-drop c b (take h p))
      ∙ sym (append_assoc (slice (b + c) h p) (take b p) (slice h mark p))

  pub turned_drop : turned (b + c) h p₂ ≡ written (turned b h p) 0 (slice c mark (turned b h p))
  turned_drop =
      let t = turned b h p in
      let size : 0 + length (slice c mark t) ≡ mark - c = omega (arith, length-slice c mark t (omega (arith, length_turned b h p (omega arith) (omega arith)))) in
      let front = slice (b + c) h p in
      let joined : slice h mark p ≡ crossing ++ slice (h + c) mark p = slice_join p h (h + c) mark (omega arith) (omega arith) inside in
      let left : turned (b + c) h p₂ ≡ front ++ (take b p ++ crossing) ++ (slice (h + c) mark p ++ drop (mark - c) p) =
      ap (λ (l : List ℕ). l ++ take (b + c) p₂ ++ drop h p₂) left_front
      ∙ ap (λ (l : List ℕ). front ++ l ++ drop h p₂) left_back
      ∙ ap (λ (l : List ℕ). front ++ (take b p ++ crossing) ++ l) (left_rest ∙ ap (λ (l : List ℕ). l ++ drop (mark - c) p) moving_is) in
      let right : written t 0 (slice c mark t) ≡ front ++ take b p ++ (crossing ++ slice (h + c) mark p) ++ drop (mark - c) p =
      ap (λ (n : ℕ). slice c mark t ++ drop n t) size
      ∙ ap (λ (l : List ℕ). slice c mark t ++ l) (drop_turned_above b h p (omega arith) (omega arith) (mark - c) (omega arith))
      ∙ ap (λ (l : List ℕ). l ++ drop (mark - c) p) (old_kept ∙ ap (λ (l : List ℕ). front ++ take b p ++ l) joined) in
      left ∙ regroup front (take b p) crossing (slice (h + c) mark p) (drop (mark - c) p) ∙ sym right
    where
      regroup : (a b c d e : List ℕ) → a ++ (b ++ c) ++ (d ++ e) ≡ a ++ b ++ (c ++ d) ++ e
      regroup a b c d e = simp append_assoc

-- ---- turned back by three reversals
module _ (b h : ℕ) (p : List ℕ) (low : b ≤ h) (inside : h ≤ length p) where
  abbrev q₁ : List ℕ
  q₁ = written p 0 (reverse (slice 0 b p))

  abbrev q₂ : List ℕ
  q₂ = written q₁ b (reverse (slice b h q₁))

  len₁ : length (reverse (slice 0 b p)) ≡ b
  len₁ = omega (arith, length-reverse (slice 0 b p), length-slice 0 b p (omega arith))

  fits₁ : 0 + length (reverse (slice 0 b p)) ≤ length p
  fits₁ = omega (arith, len₁)

  size₁ : length q₁ ≡ length p
  size₁ = length_written p 0 (reverse (slice 0 b p)) fits₁

  len₂ : b + length (reverse (slice b h q₁)) ≡ h
  len₂ = omega (arith, length-reverse (slice b h q₁), length-slice b h q₁ (omega (arith, size₁)))

  fits₂ : b + length (reverse (slice b h q₁)) ≤ length q₁
  fits₂ = omega (arith, len₂, size₁)

  first_part : take h q₂ ≡ reverse (take b p) ++ reverse (slice b h p)
  first_part =
      let e : 0 + length (reverse (slice 0 b p)) ≡ b = omega (arith, len₁) in
      ap (λ (n : ℕ). take n q₂) (sym len₂)
      ∙ take_written q₁ b (reverse (slice b h q₁)) fits₂
      ∙ ap (λ (l : List ℕ). l ++ reverse (slice b h q₁)) (ap (λ (n : ℕ). take n q₁) (sym e) ∙ take_written p 0 (reverse (slice 0 b p)) fits₁)
      ∙ ap (λ (l : List ℕ). reverse (take b p) ++ reverse l) (slice_above p 0 (reverse (slice 0 b p)) fits₁ b h (omega (arith, len₁)))

  pub turned_back : written q₂ 0 (reverse (slice 0 h q₂)) ≡ turned b h p
  turned_back =
      let text : reverse (slice 0 h q₂) ≡ slice b h p ++ take b p =
      ap reverse first_part ∙ reverse-append (reverse (take b p)) (reverse (slice b h p)) ∙ ap (λ (l : List ℕ). l ++ reverse (reverse (take b p))) (reverse-reverse (slice b h p)) ∙ ap (λ (l : List ℕ). slice b h p ++ l) (reverse-reverse (take b p)) in
      let size : 0 + length (slice b h p ++ take b p) ≡ h = omega (arith, front_length b h p low inside) in
      ap (written q₂ 0) text
      ∙ ap (λ (n : ℕ). slice b h p ++ take b p ++ drop n q₂) size
      ∙ ap (λ (l : List ℕ). slice b h p ++ take b p ++ l) (drop_above q₁ b (reverse (slice b h q₁)) fits₂ h (omega (arith, len₂)) ∙ drop_above p 0 (reverse (slice 0 b p)) fits₁ h (omega (arith, len₁)))

-- ---- by what the calls answered
pub drop_turned_done : (b h c mark : ℕ) (p l₁ l₂ : List ℕ) → b + c ≤ h → h + c ≤ mark → mark ≤ length p → l₁ ≡ written p b (slice h (h + c) p) → l₂ ≡ written l₁ h (slice (h + c) mark l₁)
    → turned (b + c) h l₂ ≡ written (turned b h p) 0 (slice c mark (turned b h p))
drop_turned_done b h c mark p l₁ l₂ room above inside e f = rw (f, e) (turned_drop b h c mark p room above inside)

pub turn_back_done : (b h : ℕ) (p l₁ l₂ l₃ : List ℕ) → b ≤ h → h ≤ length p → l₁ ≡ written p 0 (reverse (slice 0 b p)) → l₂ ≡ written l₁ b (reverse (slice b h l₁)) → l₃ ≡ written l₂ 0 (reverse (slice 0 h l₂)) → l₃ ≡ turned b h p
turn_back_done b h p l₁ l₂ l₃ low inside e f g = rw (g, f, e) (turned_back b h p low inside)
