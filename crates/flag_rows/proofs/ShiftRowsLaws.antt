-- ShiftRowsLaws.antt - the flags of shifts and rotates obey their rows: arithmetic_left_obeys, arithmetic_right_obeys, logical_obeys, extend_obeys, rotate_obeys, still_obeys (no place).
-- From what is known of the last place's X, C and V: x_as_c (kinds 0 to 2, one place or more; kind 2 always), x_kept (kind 3), changed_never (to the right, or a kind above 0).
-- Uses: bits, flags, shift.
use Prim.Native.Nat.{ℕ, zero, suc, ◌%◌, ◌<◌}
use native.Mathlib.Omega.{arith}
use mathlib.Core.Path.{◌≡◌, refl, ◌∙◌}
use mathlib.Core.Bool.{Bool, true, false, ◌||◌, not, false≢true}
use lib.Dec.{eqb}
use borrow.Author.Tests.{eqb-true}
use Rattle.bits.specs.Bits.{iter}
use Rattle.flags.specs.Flags.{x_of, v_of, c_of}
use Rattle.shift.specs.Shift.{by_kind, one_left, one_right, one_place, still, shift}
use Rattle.flag_rows.specs.Marks.{Mark, as_result, by_formula, kept, cleared, row, Follows, Obeys}
use Rattle.flag_rows.specs.Rows.{sum_row, shift_row, rotate_row}
use Rattle.flag_rows.proofs.MarksLaws.{obeys_of_flags}

-- what each turn keeps holds after all of them, and what each turn brings about after one or more
module _ {A : Type 0} (f : A → A) (P : A → Type 0) where
  iter_keeps : ((a : A) → P a → P (f a)) → (n : ℕ) (a : A) → P a → P (iter f n a)
  unfolding iter
  iter_keeps h zero a p = p
  iter_keeps h (suc n) a p = iter_keeps h n (f a) (h a p)

  iter_brings : ((a : A) → P (f a)) → (n : ℕ) (a : A) → (n ≡ 0 → ⊥) → P (iter f n a)
  unfolding iter
  iter_brings h zero a e = absurd (e refl)
  iter_brings h (suc n) a e = iter_keeps (λ b p. h b) n (f a) (h a)

by_kind_same : (k : ℕ) → k < 3 → (b d : Bool) → by_kind k b b b d ≡ b
unfolding by_kind
by_kind_same zero h b d = refl
by_kind_same (suc zero) h b d = refl
by_kind_same (suc (suc zero)) h b d = refl
by_kind_same (suc (suc (suc k))) h b d = absurd (omega arith)

by_kind_above : (k : ℕ) (b d : Bool) → by_kind (suc k) b d d d ≡ d
unfolding by_kind
by_kind_above zero b d = refl
by_kind_above (suc zero) b d = refl
by_kind_above (suc (suc k)) b d = refl

or_false : (b : Bool) → (b || false) ≡ b
or_false true = refl
or_false false = refl

-- one place: X is the bit that went out, or is kept; "changed" is kept but by an arithmetic shift to the left
module _ (z : ℕ) (t : _) where
  x_of_place : (k : ℕ) → k < 3 → (left : Bool) → (one_place k left z t).x ≡ (one_place k left z t).out
  unfolding one_place one_left one_right
  x_of_place k h true = by_kind_same k h _ _
  x_of_place k h false = by_kind_same k h _ _

  x_of_rotation : (left : Bool) → (one_place 3 left z t).x ≡ t.x
  unfolding one_place one_left one_right by_kind
  x_of_rotation true = refl
  x_of_rotation false = refl

  changed_of_place : (k : ℕ) (left : Bool) → (one_place (suc k) left z t).changed ≡ t.changed
  unfolding one_place one_left one_right
  changed_of_place k true = rw (by_kind_above, or_false)
  changed_of_place k false = refl

  changed_of_right : (k : ℕ) → (one_place k false z t).changed ≡ t.changed
  unfolding one_place one_right
  changed_of_right k = refl

not_0 : (n : ℕ) → not (eqb n 0) ≡ true → n ≡ 0 → ⊥
not_0 n h e = false≢true (rw e at h)

-- all the places
module _ (v n z old : ℕ) where
  x_as_c : (k : ℕ) → k < 3 → (left : Bool) → not (eqb (n % 64) 0) ≡ true
      → (iter (one_place k left z) (n % 64) (still k v z old)).x ≡ (iter (one_place k left z) (n % 64) (still k v z old)).out
  x_as_c k h left e = iter_brings (one_place k left z) (λ t. t.x ≡ t.out) (λ t. x_of_place z t k h left) (n % 64) (still k v z old) (not_0 _ e)

  x_as_c_extended : (left : Bool) → (iter (one_place 2 left z) (n % 64) (still 2 v z old)).x ≡ (iter (one_place 2 left z) (n % 64) (still 2 v z old)).out
  unfolding by_kind
  x_as_c_extended left = iter_keeps (one_place 2 left z) (λ t. t.x ≡ t.out) (λ t p. x_of_place z t 2 (omega arith) left) (n % 64) (still 2 v z old) refl

  x_kept : (left : Bool) → (iter (one_place 3 left z) (n % 64) (still 3 v z old)).x ≡ x_of old
  x_kept left = iter_keeps (one_place 3 left z) (λ t. t.x ≡ x_of old) (λ t p. x_of_rotation z t left ∙ p) (n % 64) (still 3 v z old) refl

  changed_never : (k : ℕ) (left : Bool) → (iter (one_place (suc k) left z) (n % 64) (still (suc k) v z old)).changed ≡ false
  changed_never k left = iter_keeps (one_place (suc k) left z) (λ t. t.changed ≡ false) (λ t p. changed_of_place z t k left ∙ p) (n % 64) (still (suc k) v z old) refl

  changed_never_right : (k : ℕ) → (iter (one_place k false z) (n % 64) (still k v z old)).changed ≡ false
  changed_never_right k = iter_keeps (one_place k false z) (λ t. t.changed ≡ false) (λ t p. changed_of_right z t k ∙ p) (n % 64) (still k v z old) refl

  module _ (k : ℕ) (left : Bool) where
    shift_obeys : (t : _) → iter (one_place k left z) (n % 64) (still k v z old) ≡ t → (mx mv mc : Mark) → Follows mx (x_of old) t.x t.out
        → Follows mv (v_of old) t.changed t.changed → Follows mc (c_of old) t.out t.out → Obeys (row mx as_result as_result mv mc) z old (shift k left v n z old)
    unfolding shift
    shift_obeys t e mx mv mc fx fv fc = rw e (obeys_of_flags _ _ _ _ _ _ _ _ _ fx refl refl fv fc)

    pub still_obeys : eqb (n % 64) 0 ≡ true → (mc : Mark) → Follows mc (c_of old) (by_kind k false false (x_of old) false) (by_kind k false false (x_of old) false)
        → Obeys (row kept as_result as_result cleared mc) z old (shift k left v n z old)
    unfolding iter
    still_obeys e mc f = shift_obeys (still k v z old) (rw (eqb-true (n % 64) 0 e)) kept cleared mc refl refl f

  pub arithmetic_left_obeys : not (eqb (n % 64) 0) ≡ true → Obeys sum_row z old (shift 0 true v n z old)
  arithmetic_left_obeys h = shift_obeys 0 true _ refl as_result by_formula by_formula (x_as_c 0 (omega arith) true h) tt tt

  pub arithmetic_right_obeys : not (eqb (n % 64) 0) ≡ true → Obeys shift_row z old (shift 0 false v n z old)
  arithmetic_right_obeys h = shift_obeys 0 false _ refl as_result cleared by_formula (x_as_c 0 (omega arith) false h) (changed_never_right 0) tt

  module _ (left : Bool) where
    pub logical_obeys : not (eqb (n % 64) 0) ≡ true → Obeys shift_row z old (shift 1 left v n z old)
    logical_obeys h = shift_obeys 1 left _ refl as_result cleared by_formula (x_as_c 1 (omega arith) left h) (changed_never 0 left) tt

    pub extend_obeys : Obeys shift_row z old (shift 2 left v n z old)
    extend_obeys = shift_obeys 2 left _ refl as_result cleared by_formula (x_as_c_extended left) (changed_never 1 left) tt

    pub rotate_obeys : Obeys rotate_row z old (shift 3 left v n z old)
    rotate_obeys = shift_obeys 3 left _ refl kept cleared by_formula (x_kept left) (changed_never 2 left) tt
