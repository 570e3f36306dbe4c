-- SkipLaws.antt - a well-shaped record passed from its end without reading its numbers.
-- * skip_record: what is left is what stood before it.   * skip_start, skip_end, skip_turn: the loop of record_start.
-- Speaks of: after_lows and before_record of specs/Starts.antt, record_of of record.
-- Assumes nothing.  Source: [01 The journal].
use Prim.Native.Nat.{ℕ, zero, suc, ◌+◌, ◌-◌, ◌*◌, ◌/◌, ◌%◌, ◌^◌, ◌≤◌, ◌<◌}
use mathlib.Core.Path.{◌≡◌, refl, sym, ap, ◌∙◌}
use mathlib.Core.Bool.{Bool, true, false}
use mathlib.Core.List.{List, [], ◌∷◌, ◌++◌, append_assoc, reverse, reverse-append}
use native.Mathlib.Omega.{arith}
use lib.ListN.{length, get_or, length-append}
use lib.Dec.{ltb}
use borrow.Author.Tests.{ltb-true, ltb-false}
use Rattle.numbers.specs.Number.{groups, top, number_bytes, back}
use Rattle.numbers.proofs.NumberLaws.{groups_small, groups_large}
use Rattle.numbers.proofs.WrittenLaws.{back_suc}
use Rattle.record.specs.Change.{Change, Ascending, change_bytes, changes_bytes, record_of}
use Rattle.record.proofs.DiffLaws.{Small}
use Rattle.oldest.specs.Room.{Row, row_bytes}
use Rattle.oldest.proofs.WayLaws.{back_none}
use Rattle.oldest.proofs.RowLaws.{Good}
use Rattle.starts.specs.Starts.{after_lows, before_record}

-- ---- one byte
skip_none : (s : List ℕ) → after_lows 0 s ≡ s
skip_none [] = refl
skip_none (x ∷ s) = refl

skip_low : (n x : ℕ) (s : List ℕ) → x < 128 → after_lows (suc n) (x ∷ s) ≡ after_lows n s
skip_low n x s h = let e : suc n - (1 - x / 128) ≡ n = omega arith in ap (λ (k : ℕ). after_lows k s) e

skip_high : (n x : ℕ) (s : List ℕ) → 128 ≤ x → after_lows (suc n) (x ∷ s) ≡ after_lows (suc n) s
skip_high n x s h = let e : suc n - (1 - x / 128) ≡ suc n = omega arith in ap (λ (k : ℕ). after_lows k s) e

-- ---- a number: its last bytes, then its first, which is below 128
skip_groups : (k v n : ℕ) (s : List ℕ) → v < top k → after_lows (suc n) (reverse (groups k v) ++ s) ≡ after_lows n s
skip_groups zero v n s h = skip_low n v s (omega arith)
skip_groups (suc k) v n s h = go (ltb v 128) refl (skip_groups k (v / 128) n s)
  where
    go : (t : Bool) → ltb v 128 ≡ t → (v / 128 < top k → after_lows (suc n) (reverse (groups k (v / 128)) ++ s) ≡ after_lows n s)
        → after_lows (suc n) (reverse (groups (suc k) v) ++ s) ≡ after_lows n s
    go true e ih = let low = ltb-true v 128 e in ap (λ (l : List ℕ). after_lows (suc n) (reverse l ++ s)) (groups_small (suc k) v low) ∙ skip_low n v s low
    go false e ih =
        let big = ltb-false v 128 e in
        let x = v % 128 + 128 in
        let text : reverse (groups (suc k) v) ++ s ≡ x ∷ (reverse (groups k (v / 128)) ++ s) =
        ap (λ (l : List ℕ). reverse l ++ s) (groups_large k v big) ∙ ap (λ (l : List ℕ). l ++ s) (reverse-append (groups k (v / 128)) (x ∷ [])) in
        ap (after_lows (suc n)) text ∙ skip_high n x (reverse (groups k (v / 128)) ++ s) (omega arith) ∙ ih (omega arith)

skip_number : (v n : ℕ) (s : List ℕ) → v < 2 ^ 32 → after_lows (suc n) (reverse (number_bytes v) ++ s) ≡ after_lows n s
unfolding number_bytes
skip_number v n s h = skip_groups 4 v n s (omega arith)

number_alone : (v : ℕ) → v < 128 → number_bytes v ≡ v ∷ []
unfolding number_bytes
number_alone v h = groups_small 4 v h

-- ---- changes: two numbers each
skip_change : (c : Change) (n : ℕ) (s : List ℕ) → c.place < 2 ^ 32 → c.old < 2 ^ 32 → after_lows (suc (suc n)) (reverse (change_bytes c) ++ s) ≡ after_lows n s
skip_change c n s h l =
    let text : reverse (change_bytes c) ++ s ≡ reverse (number_bytes c.old) ++ (reverse (number_bytes c.place) ++ s) =
    ap (λ (x : List ℕ). x ++ s) (reverse-append (number_bytes c.place) (number_bytes c.old)) ∙ append_assoc (reverse (number_bytes c.old)) (reverse (number_bytes c.place)) s in
    ap (after_lows (suc (suc n))) text ∙ skip_number c.old (suc n) (reverse (number_bytes c.place) ++ s) l ∙ skip_number c.place n s h

skip_changes : (cs : List Change) (lo hi n : ℕ) (s : List ℕ) → hi ≤ 2 ^ 32 → Ascending lo hi cs → Small cs → after_lows (2 * length cs + n) (reverse (changes_bytes cs) ++ s) ≡ after_lows n s
skip_changes [] lo hi n s fits a sm = let e : 2 * 0 + n ≡ n = omega arith in ap (λ (k : ℕ). after_lows k s) e
skip_changes (c ∷ cs) lo hi n s fits a sm =
    let below = a.1 in
    let count : 2 * length (c ∷ cs) + n ≡ 2 * length cs + suc (suc n) = omega arith in
    let text : reverse (changes_bytes (c ∷ cs)) ++ s ≡ reverse (changes_bytes cs) ++ (reverse (change_bytes c) ++ s) =
    ap (λ (x : List ℕ). x ++ s) (reverse-append (change_bytes c) (changes_bytes cs)) ∙ append_assoc (reverse (changes_bytes cs)) (reverse (change_bytes c)) s in
    ap (λ (k : ℕ). after_lows k (reverse (changes_bytes (c ∷ cs)) ++ s)) count
    ∙ ap (after_lows (2 * length cs + suc (suc n))) text
    ∙ skip_changes cs (suc c.place) hi (suc (suc n)) (reverse (change_bytes c) ++ s) fits a.2 sm.1
    ∙ skip_change c n s (omega arith) sm.0

-- ---- a record: its counts, each in one byte, and its changes
record_text : (ss bs : List Change) (s : List ℕ) → length ss < 128 → length bs < 128
    → reverse (record_of ss bs) ++ s ≡ length bs ∷ length ss ∷ (reverse (changes_bytes bs) ++ (reverse (changes_bytes ss) ++ s))
unfolding record_of
record_text ss bs s h l =
    let front = changes_bytes ss ++ changes_bytes bs in
    let same : record_of ss bs ≡ front ++ length ss ∷ [] ++ length bs ∷ [] =
    ap (λ (x : List ℕ). front ++ x ++ number_bytes (length bs)) (number_alone (length ss) h) ∙ ap (λ (x : List ℕ). front ++ length ss ∷ [] ++ x) (number_alone (length bs) l) in
    ap (λ (x : List ℕ). reverse x ++ s) same
    ∙ ap (λ (x : List ℕ). x ++ s) (reverse-append (front ++ length ss ∷ []) (length bs ∷ []))
    ∙ ap (λ (x : List ℕ). length bs ∷ (x ++ s)) (reverse-append front (length ss ∷ []))
    ∙ ap (λ (x : List ℕ). length bs ∷ length ss ∷ (x ++ s)) (reverse-append (changes_bytes ss) (changes_bytes bs))
    ∙ ap (λ (x : List ℕ). length bs ∷ length ss ∷ x) (append_assoc (reverse (changes_bytes bs)) (reverse (changes_bytes ss)) s)

module _ (len : ℕ) (r : Row) (s : List ℕ) (fits : len ≤ 2 ^ 32) (g : Good len r) where
  text_is : reverse (row_bytes r) ++ s ≡ length r.bytes ∷ length r.slots ∷ (reverse (changes_bytes r.bytes) ++ (reverse (changes_bytes r.slots) ++ s))
  text_is = record_text r.slots r.bytes s (omega (arith, g.few_slots)) (omega (arith, g.few_bytes))

  pub skip_record : before_record (reverse (row_bytes r) ++ s) ≡ s
  skip_record =
      let n = length r.slots in
      let m = length r.bytes in
      let count : 2 * (n + m) ≡ 2 * m + (2 * n + 0) = omega arith in
      ap before_record text_is
      ∙ ap (λ (k : ℕ). after_lows k (reverse (changes_bytes r.bytes) ++ (reverse (changes_bytes r.slots) ++ s))) count
      ∙ skip_changes r.bytes 0 len (2 * n + 0) (reverse (changes_bytes r.slots) ++ s) fits g.bytes_ascend g.bytes_small
      ∙ skip_changes r.slots 0 Rattle.record.specs.Limits.slot_limit 0 s (omega arith) g.slots_ascend g.slots_small
      ∙ skip_none s

  pub row_two : 2 + length s ≤ length (reverse (row_bytes r) ++ s)
  row_two =
      let rest = reverse (changes_bytes r.slots) ++ s in
      omega (arith, ap length text_is, length-append (reverse (changes_bytes r.bytes)) rest, length-append (reverse (changes_bytes r.slots)) s)

-- ---- the loop of record_start
module _ (j : List ℕ) where
  starts_with : (e : ℕ) → 2 ≤ e → e ≤ length j → before_record (back j e) ≡ after_lows (2 * (get_or j (e - 2) 0 + get_or j (e - 2 + 1) 0)) (back j (e - 2))
  starts_with zero h l = absurd (omega arith)
  starts_with (suc zero) h l = absurd (omega arith)
  starts_with (suc (suc e)) h l =
      let same : e ≡ suc (suc e) - 2 = omega arith in
      let next : suc e ≡ suc (suc e) - 2 + 1 = omega arith in
      ap before_record (back_suc j (suc e) (omega arith) ∙ ap (λ (t : List ℕ). get_or j (suc e) 0 ∷ t) (back_suc j e (omega arith)))
      ∙ ap (λ (k : ℕ). after_lows (2 * (get_or j e 0 + get_or j k 0)) (back j e)) next
      ∙ ap (λ (k : ℕ). after_lows (2 * (get_or j k 0 + get_or j (suc (suc e) - 2 + 1) 0)) (back j k)) same

  pub skip_start : (e m n : ℕ) → 2 ≤ e → e ≤ length j → m ≡ get_or j (e - 2) 0 → n ≡ get_or j (e - 2 + 1) 0 → after_lows (2 * (m + n)) (back j (e - 2)) ≡ before_record (back j e)
  skip_start e m n h l p q = ap (λ (k : ℕ). after_lows (2 * (k + n)) (back j (e - 2))) p ∙ ap (λ (k : ℕ). after_lows (2 * (get_or j (e - 2) 0 + k)) (back j (e - 2))) q ∙ sym (starts_with e h l)

  pub skip_over : (left e : ℕ) → e ≡ 0 → after_lows left (back j e) ≡ back j 0
  skip_over left e z = ap (λ (k : ℕ). after_lows left (back j k)) z ∙ ap (after_lows left) (back_none j) ∙ sym (back_none j)

  pub skip_end : (left e : ℕ) → left ≡ 0 → after_lows left (back j e) ≡ back j e
  skip_end left e z = ap (λ (k : ℕ). after_lows k (back j e)) z ∙ skip_none (back j e)

  turns_with : (left e : ℕ) → 0 < left → 0 < e → e ≤ length j → after_lows left (back j e) ≡ after_lows (left - (1 - get_or j (e - 1) 0 / 128)) (back j (e - 1))
  turns_with zero e h l m = absurd (omega arith)
  turns_with (suc left) zero h l m = absurd (omega arith)
  turns_with (suc left) (suc e) h l m =
      let same : e ≡ suc e - 1 = omega arith in
      ap (after_lows (suc left)) (back_suc j e (omega arith)) ∙ ap (λ (k : ℕ). after_lows (suc left - (1 - get_or j k 0 / 128)) (back j k)) same

  pub skip_turn : (left e x : ℕ) → 0 < left → 0 < e → e ≤ length j → x ≡ get_or j (e - 1) 0 → after_lows (left - (1 - x / 128)) (back j (e - 1)) ≡ after_lows left (back j e)
  skip_turn left e x h l m q = ap (λ (y : ℕ). after_lows (left - (1 - y / 128)) (back j (e - 1))) q ∙ sym (turns_with left e h l m)
