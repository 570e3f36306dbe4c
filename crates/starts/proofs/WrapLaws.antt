-- WrapLaws.antt - a turned journal: the oldest bytes dropped over the end of its turned part. * wrapped_done: what drop_wrapped does.
-- Speaks of: turned of turned, written of numbers.
-- Assumes nothing.  Source: [ours].
use Prim.Native.Nat.{ℕ, ◌+◌, ◌-◌, ◌≤◌}
use mathlib.Core.Path.{◌≡◌, sym, ap, ◌∙◌}
use mathlib.Core.List.{List, ◌++◌, append_assoc}
use native.Mathlib.Omega.{arith}
use lib.ListN.{length, take, drop}
use lib.Seq.{slice, drop-append-le, drop-append-add, drop_at, length-slice, length-take-le}
use Rattle.numbers.specs.Number.{written}
use Rattle.numbers.proofs.WrittenLaws.{take_written, length_written}
use Rattle.turned.specs.Turned.{turned}
use Rattle.turned.proofs.PartLaws.{slice_join, take_below, drop_above, slice_above, slice_below}
use Rattle.turned.proofs.TurnLaws.{length_turned, take_turned, drop_turned_above}

-- ---- the oldest c bytes dropped, where the turned part has r left, fewer than c
module _ (b h c mark : ℕ) (p : List ℕ) (low : b ≤ h) (over : h ≤ b + c) (short : c ≤ h) (above : h + c ≤ mark) (inside : mark ≤ length p) where
  abbrev r : ℕ
  r = h - b

  abbrev x₁ : List ℕ
  x₁ = slice h (h + r) p

  abbrev p₁ : List ℕ
  p₁ = written p b x₁

  len₁ : length x₁ ≡ r
  len₁ = omega (arith, length-slice h (h + r) p (omega arith))

  fits₁ : b + length x₁ ≤ length p
  fits₁ = omega (arith, len₁)

  size₁ : length p₁ ≡ length p
  size₁ = length_written p b x₁ fits₁

  abbrev x₂ : List ℕ
  x₂ = slice (h + r) (h + c) p₁

  x₂_is : x₂ ≡ slice (h + r) (h + c) p
  x₂_is = slice_above p b x₁ fits₁ (h + r) (h + c) (omega (arith, len₁))

  len₂ : length x₂ ≡ c - r
  len₂ = omega (arith, length-slice (h + r) (h + c) p₁ (omega (arith, size₁)))

  fits₂ : 0 + length x₂ ≤ length p₁
  fits₂ = omega (arith, len₂, size₁)

  abbrev p₂ : List ℕ
  p₂ = written p₁ 0 x₂

  size₂ : length p₂ ≡ length p₁
  size₂ = length_written p₁ 0 x₂ fits₂

  abbrev x₃ : List ℕ
  x₃ = slice (h + c) mark p₂

  x₃_is : x₃ ≡ slice (h + c) mark p
  x₃_is = slice_above p₁ 0 x₂ fits₂ (h + c) mark (omega (arith, len₂)) ∙ slice_above p b x₁ fits₁ (h + c) mark (omega (arith, len₁))

  len₃ : h + length x₃ ≡ mark - c
  len₃ = omega (arith, length-slice (h + c) mark p₂ (omega (arith, size₁, size₂)))

  fits₃ : h + length x₃ ≤ length p₂
  fits₃ = omega (arith, len₃, size₁, size₂)

  abbrev p₃ : List ℕ
  p₃ = written p₂ h x₃

  -- the three parts of the journal then
  part_tail : slice (c - r) h p₃ ≡ slice (c - r) b p ++ x₁
  part_tail =
      let end : b + length x₁ ≡ h = omega (arith, len₁) in
      slice_below p₂ h x₃ fits₃ (c - r) h (omega arith)
      ∙ slice_above p₁ 0 x₂ fits₂ (c - r) h (omega (arith, len₂))
      ∙ slice_join p₁ (c - r) b h (omega arith) low (omega (arith, size₁))
      ∙ ap (λ (l : List ℕ). l ++ slice b h p₁) (slice_below p b x₁ fits₁ (c - r) b (omega arith))
      ∙ ap (λ (l : List ℕ). slice (c - r) b p ++ l) (ap (λ (n : ℕ). drop b (take n p₁)) (sym end) ∙ ap (drop b) (take_written p b x₁ fits₁) ∙ drop_at (take b p) x₁ b (length-take-le b p (omega arith)))

  part_head : take (c - r) p₃ ≡ slice (h + r) (h + c) p
  part_head =
      let end : 0 + length x₂ ≡ c - r = omega (arith, len₂) in
      take_below p₂ h x₃ fits₃ (c - r) (omega arith) ∙ ap (λ (n : ℕ). take n p₂) (sym end) ∙ take_written p₁ 0 x₂ fits₂ ∙ x₂_is

  part_rest : drop h p₃ ≡ slice (h + c) mark p ++ drop (mark - c) p
  part_rest =
      ap (drop h) (append_assoc (take h p₂) x₃ (drop (h + length x₃) p₂))
      ∙ drop_at (take h p₂) (x₃ ++ drop (h + length x₃) p₂) h (length-take-le h p₂ (omega (arith, size₁, size₂)))
      ∙ ap (λ (n : ℕ). x₃ ++ drop n p₂) len₃
      ∙ ap (λ (l : List ℕ). l ++ drop (mark - c) p₂) x₃_is
      ∙ ap (λ (l : List ℕ). slice (h + c) mark p ++ l) (drop_above p₁ 0 x₂ fits₂ (mark - c) (omega (arith, len₂)) ∙ drop_above p b x₁ fits₁ (mark - c) (omega (arith, len₁)))

  -- what is kept of it
  kept_is : slice c mark (turned b h p) ≡ slice (c - r) b p ++ slice h mark p
  kept_is =
      let front = slice b h p in
      let size : length front ≡ r = length-slice b h p (omega arith) in
      let cut : length front + (c - r) ≡ c = omega arith in
      ap (drop c) (take_turned b h p low (omega arith) mark (omega arith) ∙ append_assoc front (take b p) (slice h mark p))
      ∙ ap (λ (n : ℕ). drop n (front ++ (take b p ++ slice h mark p))) (sym cut)
      ∙ drop-append-add front (take b p ++ slice h mark p) (c - r)
      ∙ drop-append-le (c - r) (take b p) (slice h mark p) (omega (arith, length-take-le b p (omega arith)))

  turned_wrapped : turned (c - r) h p₃ ≡ written (turned b h p) 0 (slice c mark (turned b h p))
  turned_wrapped =
      let v = turned b h p in
      let size : 0 + length (slice c mark v) ≡ mark - c = omega (arith, length-slice c mark v (omega (arith, length_turned b h p low (omega arith)))) in
      let first = slice (c - r) b p in
      let second = slice (h + r) (h + c) p in
      let third = slice (h + c) mark p in
      let rest = drop (mark - c) p in
      let joined : slice h mark p ≡ x₁ ++ (second ++ third) =
      slice_join p h (h + r) mark (omega arith) (omega arith) inside ∙ ap (λ (l : List ℕ). x₁ ++ l) (slice_join p (h + r) (h + c) mark (omega arith) (omega arith) inside) in
      let left : turned (c - r) h p₃ ≡ (first ++ x₁) ++ second ++ (third ++ rest) =
      ap (λ (l : List ℕ). l ++ take (c - r) p₃ ++ drop h p₃) part_tail ∙ ap (λ (l : List ℕ). (first ++ x₁) ++ l ++ drop h p₃) part_head ∙ ap (λ (l : List ℕ). (first ++ x₁) ++ second ++ l) part_rest in
      let right : written v 0 (slice c mark v) ≡ (first ++ (x₁ ++ (second ++ third))) ++ rest =
      ap (λ (n : ℕ). slice c mark v ++ drop n v) size
      ∙ ap (λ (l : List ℕ). slice c mark v ++ l) (drop_turned_above b h p low (omega arith) (mark - c) (omega arith))
      ∙ ap (λ (l : List ℕ). l ++ rest) (kept_is ∙ ap (λ (l : List ℕ). first ++ l) joined) in
      left ∙ regroup first x₁ second third rest ∙ sym right
    where
      regroup : (a b c d e : List ℕ) → (a ++ b) ++ c ++ (d ++ e) ≡ (a ++ (b ++ (c ++ d))) ++ e
      regroup a b c d e = simp append_assoc

-- by what the calls answered
pub wrapped_done : (b h c mark : ℕ) (p l₁ l₂ l₃ : List ℕ) → b ≤ h → h ≤ b + c → c ≤ h → h + c ≤ mark → mark ≤ length p
    → l₁ ≡ written p b (slice h (h + (h - b)) p) → l₂ ≡ written l₁ 0 (slice (h + (h - b)) (h + c) l₁) → l₃ ≡ written l₂ h (slice (h + c) mark l₂)
    → turned (c - (h - b)) h l₃ ≡ written (turned b h p) 0 (slice c mark (turned b h p))
wrapped_done b h c mark p l₁ l₂ l₃ low over short above inside e f g = rw (g, f, e) (turned_wrapped b h c mark p low over short above inside)
