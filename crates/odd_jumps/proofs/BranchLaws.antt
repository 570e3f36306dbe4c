-- BranchLaws.antt - BRA is Bcc with the condition T: every operation word of its kind has 0 where the condition stands, so its jump is made.
-- * bra_made: where the table of operation words says BRA, `leads` says that the jump is made.
-- Source: [003 A-2], [003 B BRA], [K3].
use Prim.Native.Nat.{ℕ, ◌%◌, ◌/◌, ◌≤◌}
use native.Mathlib.Omega.{arith}
use mathlib.Core.Path.{◌≡◌, refl, ap, subst, ◌∙◌}
use mathlib.Core.Bool.{Bool, true, false, ◌&&◌, ◌||◌, not}
use mathlib.Core.List.{List, [], ◌∷◌}
use lib.Dec.{leb, eqb}
use borrow.Author.Tests.{leb-true, eq-eqb}
use Rattle.codes.specs.Fields.{condition_field}
use Rattle.bits.proofs.BitsLaws.{and_left, and_right}
use Rattle.flags.specs.Flags.{condition, condition_by}
use Rattle.bus.specs.declared.Flow.{Flow}
use Rattle.bus.specs.Bus.{View}
use Rattle.decode.specs.Kinds as k
use Rattle.decode.specs.Rows.{Row, rows, within, fits, first, kind_in, kind_of}
use Rattle.odd_jumps.specs.OddJumps.{bra, leads}

-- a row is of another kind than n, or allows only 0 to u in bits 11 to 9 and 0 to v in bits 8 to 6
abbrev held_to : ℕ → ℕ → ℕ → Row → Bool
held_to n u v w = not (eqb w.kind n) || (leb w.upper.hi u && leb w.middle.hi v)

unfoldable all_held_to : ℕ → ℕ → ℕ → List Row → Bool
all_held_to n u v [] = true
all_held_to n u v (w ∷ ws) = held_to n u v w && all_held_to n u v ws

-- a number of a span that ends at u or below
within_bound : (lo hi x u : ℕ) → (leb lo x && leb x hi) ≡ true → leb hi u ≡ true → x ≤ u
within_bound lo hi x u p q = omega (arith, leb-true x hi (and_right (leb lo x) (leb x hi) p), leb-true hi u q)

same_kind : (a b : Bool) → a ≡ true → (not a || b) ≡ true → b ≡ true
same_kind true b e h = h
same_kind false b e h = absurd (let z : ◌≡◌ {A = ℕ} 0 1 = cc in omega arith)

-- a word whose first row is of kind n has such bits; n is not what a word without a row gets
module _ (n u v l r o e : ℕ) (named : k.Illegal ≡ n → ⊥) where
  bits_of_row : (w : Row) → held_to n u v w ≡ true → w.kind ≡ n → fits w l r o e ≡ true → (r ≤ u) × (o ≤ v)
  unfolding fits
  bits_of_row w h is f =
      let low = within w.low.first e || within w.low.second e in
      let spans = same_kind (eqb w.kind n) (leb w.upper.hi u && leb w.middle.hi v) (eq-eqb w.kind n is) h in
      let f₁ = and_right (eqb w.line l) (within w.upper r && (within w.middle o && low)) f in
      let f₂ = and_right (within w.upper r) (within w.middle o && low) f₁ in (
        within_bound w.upper.lo w.upper.hi r u (and_left (within w.upper r) (within w.middle o && low) f₁)
            (and_left (leb w.upper.hi u) (leb w.middle.hi v) spans),
        within_bound w.middle.lo w.middle.hi o v (and_left (within w.middle o) low f₂)
            (and_right (leb w.upper.hi u) (leb w.middle.hi v) spans),
      )

  bits_of_first : (ws : List Row) → all_held_to n u v ws ≡ true → first ws l r o e ≡ n → (r ≤ u) × (o ≤ v)
  unfolding all_held_to first
  bits_of_first [] h q = absurd (named q)
  bits_of_first (w ∷ ws) h q =
      go (fits w l r o e) refl (bits_of_row w (and_left (held_to n u v w) (all_held_to n u v ws) h))
      (bits_of_first ws (and_right (held_to n u v w) (all_held_to n u v ws) h))
    where
      go : (b : Bool) → fits w l r o e ≡ b → (w.kind ≡ n → fits w l r o e ≡ true → (r ≤ u) × (o ≤ v)) → (first ws l r o e ≡ n → (r ≤ u) × (o ≤ v)) → (r ≤ u) × (o ≤ v)
      go true f this later = this (rw f at q) f
      go false f this later = later (rw f at q)

-- BRA's rows, by one computed test
rows_held_to : all_held_to k.Bra 0 3 rows ≡ true
unfolding all_held_to rows
rows_held_to = refl

-- so the condition of its words is 0, T: x is a word without its low six bits
condition_bits : (x : ℕ) → x / 8 % 8 ≤ 0 → x % 8 ≤ 3 → x / 4 % 16 ≡ 0
condition_bits x h i = omega arith

bra_condition : (op : ℕ) → kind_of op ≡ k.Bra → condition_field op % 16 ≡ 0
unfolding kind_of kind_in
bra_condition op q =
    let w : ℕ = op % 65536 in
    let b = bits_of_first k.Bra 0 3 (w / 4096) (w / 512 % 8) (w / 64 % 8) (w % 64) (λ z. omega arith) rows rows_held_to q in
    let of_word : op / 256 % 16 ≡ w / 256 % 16 = omega arith in
    let upper : w / 512 ≡ w / 64 / 8 = omega arith in
    let field : w / 256 ≡ w / 64 / 4 = omega arith in
    of_word ∙ ap (λ (x : ℕ). x % 16) field ∙ condition_bits (w / 64) (subst (λ (x : ℕ). x % 8 ≤ 0) upper b.0) b.1

pub bra_made : (r : List ℕ) (v : View) (op : ℕ) (f : Flow) → kind_of op ≡ k.Bra → (leads bra r v op f).made ≡ true
unfolding condition condition_by
bra_made r v op f q = rw (bra_condition op q)
