-- RecordLaws.antt - two machines that are alike write the same record: a place that is not the same in both is changed in neither.
-- Matched, same_diffs; left_next: theorem 1 of one step from a valid state; same_record: the law.
-- Uses: bits, bus, record, bank, step.  Source: [K7], [K10], [01 The journal].
use Prim.Native.Nat.{ℕ, suc, ◌^◌, ◌<◌, ◌≤◌}
use native.Mathlib.Omega.{arith}
use mathlib.Core.Path.{◌≡◌, refl, sym, ◌∙◌, subst}
use mathlib.Core.Bool.{Bool, true, false}
use mathlib.Core.List.{List, [], ◌∷◌}
use lib.ListN.{length, get_or}
use lib.Dec.{ltb, leb, eqb}
use borrow.Author.Tests.{leb-true, ltb-true, eqb-true, eqb-false, leb-false, ltb-false}
use Rattle.codes.specs.Codes.{Ssp, NoEvent}
use Rattle.bus.specs.declared.Window.{Window}
use Rattle.bus.specs.Bus.{Board}
use Rattle.bank.specs.Bank.{ssp_of, sr_of, supervisor}
use Rattle.record.specs.Change.{changed, diffs, step_record}
use Rattle.record.proofs.ChangeLaws.{changed_same}
use Rattle.exception.specs.Exceptions.{Stepped}
use Rattle.step.specs.Steps.{one_step}
use Rattle.step.proofs.PlacesLaws.{each_at}
use Rattle.calls.proofs.ValidLaws.{Valid, lent_when_valid, kept_by}
use Rattle.fence.specs.Fence.{Alike, Left}
use Rattle.fence.proofs.OneLaws.{left_after, same_event, alike_next, user_too, slot}

-- at one place: the two agree before and after, or neither changes
data Matched (a b c d : ℕ) : Type 0 where
  both_agree : a ≡ c → b ≡ d → Matched a b c d
  both_keep : a ≡ b → c ≡ d → Matched a b c d

same_change : (i a b c d : ℕ) → Matched a b c d → changed i a b ≡ changed i c d
same_change i a b c d (both_agree p q) = cc
same_change i a b c d (both_keep p q) = changed_same i {o = a} {n = b} p ∙ sym (changed_same i {o = c} {n = d} q)

same_diffs : (i : ℕ) (a b c d : List ℕ) → length a ≡ length b → length a ≡ length c → length a ≡ length d
    → ((k : ℕ) → Matched (get_or a k 0) (get_or b k 0) (get_or c k 0) (get_or d k 0)) → diffs i a b ≡ diffs i c d
same_diffs i [] b [] d p q r h = refl
same_diffs i [] b (x ∷ c) d p q r h = absurd (omega (arith, q))
same_diffs i (x ∷ a) [] c d p q r h = absurd (omega (arith, p))
same_diffs i (x ∷ a) (y ∷ b) [] d p q r h = absurd (omega (arith, q))
same_diffs i (x ∷ a) (y ∷ b) (z ∷ c) [] p q r h = absurd (omega (arith, r))
same_diffs i (x ∷ a) (y ∷ b) (z ∷ c) (u ∷ d) p q r h =
    cc (same_change i x y z u (h 0), same_diffs (suc i) a b c d (omega (arith, p)) (omega (arith, q)) (omega (arith, r)) (λ k. h (suc k)))

-- in the window or not
module _ (win : Window) (a : ℕ) {P : Type 0} (inside : win.lo ≤ a → a < win.hi → P) (outside : (win.lo ≤ a → a < win.hi → ⊥) → P) where
  window_or_not : P
  window_or_not = go (leb win.lo a) (ltb a win.hi) refl refl
    where
      go : (b c : Bool) → leb win.lo a ≡ b → ltb a win.hi ≡ c → P
      go true true p q = inside (leb-true win.lo a p) (ltb-true a win.hi q)
      go true false p q = outside (λ l u. omega (arith, u, ltb-false a win.hi q))
      go false c p q = outside (λ l u. omega (arith, l, leb-false win.lo a p))

-- SSP or another slot
ssp_or_not : (P : ℕ → Type 0) (k : ℕ) → P Ssp → ((k ≡ Ssp → ⊥) → P k) → P k
ssp_or_not P k p q = go (eqb k Ssp) refl
  where
    go : (b : Bool) → eqb k Ssp ≡ b → P k
    go true e = subst P (sym (eqb-true k Ssp e)) p
    go false e = q (eqb-false k Ssp e)

-- theorem 1 of one step from a valid state
valid_ssp : (s m : List ℕ) → Valid s m → ssp_of s < 2 ^ 32
valid_ssp s m v = each_at (λ k v. v < 2 ^ 32) 0 s Ssp (lent_when_valid s m v).words (omega (arith, v.slots))

pub left_next : (board : Board) (s m : List ℕ) → Valid s m → supervisor (sr_of s) ≡ false → (level vector : ℕ)
    → (one_step board s m level vector).event ≡ NoEvent → Left board.window s m (one_step board s m level vector).s (one_step board s m level vector).m
left_next board s m h u level vector e = left_after board s m level vector u (valid_ssp s m h) (kept_by board s m level vector h).memory e

module _ (board board₁ : Board) (s t m n : List ℕ) (hs : Valid s m) (ht : Valid t n) (h : Alike board board₁ s t m n) (level vector : ℕ)
    (e : (one_step board s m level vector).event ≡ NoEvent) where
  abbrev a : Stepped
  a = one_step board s m level vector

  abbrev b : Stepped
  b = one_step board₁ t n level vector

  next_alike : Alike board board₁ a.s b.s a.m b.m
  next_alike = alike_next board board₁ s t m n h level vector e

  left : Left board.window s m a.s a.m
  left = left_next board s m hs h.user level vector e

  left_too : Left board.window t n b.s b.m
  left_too =
      rw h.boards.window
      (left_next board₁ t n ht (user_too board board₁ s t m n h) level vector (same_event board board₁ s t m n h level vector e))

  byte_matched : (i : ℕ) → Matched (get_or m i 0) (get_or a.m i 0) (get_or n i 0) (get_or b.m i 0)
  byte_matched i =
      window_or_not board.window i
      (λ l u. both_agree (h.memory.bytes i (omega (arith, l)) (omega (arith, u))) (next_alike.memory.bytes i (omega (arith, l)) (omega (arith, u))))
      (λ out. both_keep (sym (left.outside i out)) (sym (left_too.outside i out)))

  slot_matched : (k : ℕ) → Matched (get_or s k 0) (get_or a.s k 0) (get_or t k 0) (get_or b.s k 0)
  slot_matched k =
      ssp_or_not (λ i. Matched (get_or s i 0) (get_or a.s i 0) (get_or t i 0) (get_or b.s i 0)) k
      (both_keep (sym left.ssp) (sym left_too.ssp))
      (λ p. both_agree (slot board board₁ s t m n h k p) (slot board board₁ a.s b.s a.m b.m next_alike k p))

  pub same_record : step_record s a.s m a.m ≡ step_record t b.s n b.m
  same_record =
      let la = kept_by board s m level vector hs in
      let lb = kept_by board₁ t n level vector ht in
      let ms = same_diffs 0 m a.m n b.m (sym la.memory) h.memory.long (h.memory.long ∙ sym lb.memory) byte_matched in
      let both_slots : length s ≡ length t = hs.slots ∙ sym ht.slots in
      let ss = same_diffs 0 s a.s t b.s (sym la.slots) both_slots (both_slots ∙ sym lb.slots) slot_matched in
      cc (ms, ss)
