-- SumLaws.antt - a sum that is cut at each step is the whole sum, cut once.
-- Speaks of: capped of specs/Room.antt.
-- Assumes nothing.  Source: [K5].
use Rattle.std.proofs.Common.{◌≡◌, ℕ, ◌+◌, ◌<◌, ◌≤◌, Bool, true, false, ltb, sym, refl, ap, ◌∙◌, arith, ltb-false, ltb-true, le-ltb, lt-ltb}
use Rattle.oldest.specs.Room.{largest_sum, capped}

capped_when_over : (n : ℕ) → largest_sum < n → capped n ≡ largest_sum
capped_when_over n h = rw (lt-ltb largest_sum n h)

capped_when_in : (n : ℕ) → n ≤ largest_sum → capped n ≡ n
capped_when_in n h = rw (le-ltb largest_sum n h)

capped_when_full : (m : ℕ) → capped (largest_sum + m) ≡ largest_sum
capped_when_full m = go (ltb largest_sum (largest_sum + m)) refl
  where
    go : (t : Bool) → ltb largest_sum (largest_sum + m) ≡ t → capped (largest_sum + m) ≡ largest_sum
    go true q = capped_when_over (largest_sum + m) (ltb-true largest_sum (largest_sum + m) q)
    go false q =
        let in_it = ltb-false largest_sum (largest_sum + m) q in
        capped_when_in (largest_sum + m) in_it ∙ omega arith

pub capped_sum : (a m : ℕ) → capped (capped a + m) ≡ capped (a + m)
capped_sum a m = go (ltb largest_sum a) refl
  where
    go : (t : Bool) → ltb largest_sum a ≡ t → capped (capped a + m) ≡ capped (a + m)
    go true q =
        let over = ltb-true largest_sum a q in
        ap (λ (s : ℕ). capped (s + m)) (capped_when_over a over) ∙ capped_when_full m ∙ sym (capped_when_over (a + m) (omega arith))
    go false q = ap (λ (s : ℕ). capped (s + m)) (capped_when_in a (ltb-false largest_sum a q))
