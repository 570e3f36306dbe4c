-- PlaceLaws.antt - the table as the code's `match` has it: an arm for each entry among the eight places of a line and of bits 8 to 6.
-- States: entry_at_place, entry_past: what one arm gives, and what the `_` gives.
-- Uses: bits, decode, Table.  Source: [ours].
use mathlib.Core.Path.{◌≡◌, refl, sym, subst, ap}
use mathlib.Core.Bool.{Bool, true, false, not}
use mathlib.Core.List.{List, [], ◌∷◌}
use mathlib.Core.Logic.{◌⊎◌, inl, inr, ⊎_elim}
use Prim.Native.Nat.{ℕ, zero, suc, ◌+◌, ◌*◌, ◌/◌, ◌%◌, ◌<◌}
use native.Mathlib.Nat.{zero-add}
use native.Mathlib.Omega.{arith}
use lib.Dec.{eqb, ltb}
use lib.ListN.{get_or, length, get_or-eq_default}
use mir.Val.{has_key}
use types.Run.{OneOf}
use borrow.Author.Tests.{eqb-true, eqb-false, eq-eqb, ltb-true, ltb-false}
use Rattle.bits.specs.Bits.{all_below}
use Rattle.bits.proofs.BitsLaws.{at_below}
use Rattle.decode.specs.Kinds as k
use Rattle.decode.proofs.RowsLaws.{keep}
use Rattle.kind_table.specs.Table.{entries, entry_at}

-- the r-th place of group g: the line and bits 8 to 6 are g's, bits 11 to 9 are r
abbrev pub place : ℕ → ℕ → ℕ
place g r = g / 8 * 64 + r * 8 + g % 8

-- the places of g, n of them from r on, whose entry is v
unfoldable pub places : ℕ → ℕ → ℕ → ℕ → List ℕ
places v g r zero = []
places v g r (suc n) = keep (eqb (entry_at (place g r)) v) (place g r) (places v g (suc r) n)

-- ---- what one arm gives

one_of_first : (i : ℕ) (is : List ℕ) (h : ℕ) → OneOf (i ∷ is) h → (h ≡ i) ⊎ OneOf is h
one_of_first i [] h x = inl x
one_of_first i (j ∷ is) h x = x

kept_tells : (b : Bool) (i : ℕ) (is : List ℕ) (h : ℕ) → OneOf (keep b i is) h → ((b ≡ true) × (h ≡ i)) ⊎ OneOf is h
kept_tells true i is h x = ⊎_elim (λ (e : h ≡ i). inl (refl, e)) (λ (y : OneOf is h). inr y) (one_of_first i is h x)
kept_tells false i is h x = inr x

places_tell : (v g r n h : ℕ) → OneOf (places v g r n) h → v ≡ entry_at h
unfolding places
places_tell v g r zero h x = absurd x
places_tell v g r (suc n) h x =
    ⊎_elim (λ (y : (eqb (entry_at (place g r)) v ≡ true) × (h ≡ place g r)). rw y.1 (sym (eqb-true (entry_at (place g r)) v y.0)))
    (λ (y : OneOf (places v g (suc r) n) h). places_tell v g (suc r) n h y)
    (kept_tells (eqb (entry_at (place g r)) v) (place g r) (places v g (suc r) n) h x)

pub entry_at_place : (g v h : ℕ) → OneOf (places v g 0 8) h → v ≡ entry_at h
entry_at_place g v h x = places_tell v g 0 8 h x

-- ---- what the `_` gives: each place below 1,024 stands in some arm

one_of_own : (i : ℕ) (is : List ℕ) → OneOf (i ∷ is) i
one_of_own i [] = refl
one_of_own i (j ∷ is) = inl refl

kept_rest : (b : Bool) (i : ℕ) (is : List ℕ) (h : ℕ) → OneOf is h → OneOf (keep b i is) h
kept_rest true i [] h x = absurd x
kept_rest true i (j ∷ is) h x = inr x
kept_rest false i is h x = x

places_begin : (v g r n k : ℕ) → k ≡ r → v ≡ entry_at (place g r) → OneOf (places v g r (suc n)) (place g k)
unfolding places
places_begin v g r n k z q =
    rw (z, eq-eqb (entry_at (place g r)) v (sym q)) (one_of_own (place g r) (places v g (suc r) n))

places_more : (v g r n k : ℕ) → OneOf (places v g (suc r) n) (place g k) → OneOf (places v g r (suc n)) (place g k)
unfolding places
places_more v g r n k x = kept_rest (eqb (entry_at (place g r)) v) (place g r) (places v g (suc r) n) (place g k) x

places_have : (g r n j : ℕ) → j < n → OneOf (places (entry_at (place g (r + j))) g r n) (place g (r + j))
places_have g r zero j l = absurd (omega arith)
places_have g r (suc n) zero l =
    let z : r + 0 ≡ r = omega arith in
    places_begin _ g r n (r + 0) z (ap (λ k. entry_at (place g k)) z)
places_have g r (suc n) (suc j) l =
    let z : suc r + j ≡ r + suc j = omega arith in
    subst (λ k. OneOf (places (entry_at (place g k)) g r (suc n)) (place g k)) z
    (places_more _ g r n (suc r + j) (places_have g (suc r) n j (omega arith)))

-- the entries of g's places, n of them from r on, each once: those that are new beside the ones seen
unfoldable news : ℕ → ℕ → ℕ → List ℕ → List ℕ
news g r zero seen = []
news g r (suc n) seen =
    let e : ℕ = entry_at (place g r) in keep (not (has_key seen e)) e (news g (suc r) n (e ∷ seen))

-- the arms of these entries of g put before others, the last one first
unfoldable arms_of : ℕ → List ℕ → List (List ℕ) → List (List ℕ)
arms_of g [] others = others
arms_of g (v ∷ vs) others = arms_of g vs (places v g 0 8 ∷ others)

-- the arms of the groups below n, the last one first
unfoldable pub arms : ℕ → List (List ℕ)
unfolding news arms_of
arms zero = []
arms (suc g) = arms_of g (news g 0 8 []) (arms g)

-- h is a place of none of these arms
abbrev pub NoneOf : List (List ℕ) → ℕ → Type 0
NoneOf [] h = Unit
NoneOf (is ∷ others) h = NoneOf others h × (OneOf is h → ⊥)

none_of_arms : (g : ℕ) (vs : List ℕ) (others : List (List ℕ)) (h : ℕ) → NoneOf (arms_of g vs others) h
    → NoneOf others h × ((v : ℕ) → has_key vs v ≡ true → OneOf (places v g 0 8) h → ⊥)
unfolding arms_of
none_of_arms g [] others h n = (n, λ v t. absurd (let z : ◌≡◌ {A = ℕ} 0 1 = cc in omega arith))
none_of_arms g (w ∷ vs) others h n =
    let m = none_of_arms g vs (places w g 0 8 ∷ others) h n in (m.0.0, λ v t. go v (eqb w v) refl t m.0.1 (m.1 v))
  where
    go : (v : ℕ) (b : Bool) → eqb w v ≡ b → has_key (w ∷ vs) v ≡ true → (OneOf (places w g 0 8) h → ⊥)
        → (has_key vs v ≡ true → OneOf (places v g 0 8) h → ⊥) → OneOf (places v g 0 8) h → ⊥
    go v true e t own f = rw (eqb-true w v e) at own
    go v false e t own f = f (rw e at t)

none_of_group : (n g h : ℕ) → g < n → NoneOf (arms n) h → (v : ℕ) → has_key (news g 0 8 []) v ≡ true → OneOf (places v g 0 8) h → ⊥
unfolding arms
none_of_group zero g h l n = absurd (omega arith)
none_of_group (suc m) g h l n = go (eqb g m) refl (none_of_arms m (news m 0 8 []) (arms m) h n) (λ p o. none_of_group m g h p o)
  where
    go : (b : Bool) → eqb g m ≡ b → NoneOf (arms m) h × ((v : ℕ) → has_key (news m 0 8 []) v ≡ true → OneOf (places v m 0 8) h → ⊥)
        → (g < m → NoneOf (arms m) h → (v : ℕ) → has_key (news g 0 8 []) v ≡ true → OneOf (places v g 0 8) h → ⊥)
        → (v : ℕ) → has_key (news g 0 8 []) v ≡ true → OneOf (places v g 0 8) h → ⊥
    go true e q f = rw (eqb-true g m e) q.1
    go false e q f = f (let z : g ≡ m → ⊥ = eqb-false g m e in omega arith) q.0

-- each entry of a group is among those: a computed test
all_new : all_below (λ g. let vs : List ℕ = news g 0 8 [] in all_below (λ r. has_key vs (entry_at (place g r))) 8) 128 ≡ true
unfolding all_below news entry_at entries
all_new = refl

entries_length : length entries ≡ 1024
unfolding entries
entries_length = refl

-- the group of a place
abbrev group : ℕ → ℕ
group h = h / 64 * 8 + h % 8

group_below : (h : ℕ) → h < 1024 → group h < 128
group_below h l = omega arith

place_of_group : (h : ℕ) → place (group h) (h / 8 % 8) ≡ h
place_of_group h = omega arith

in_an_arm : (h : ℕ) → h < 1024 → NoneOf (arms 128) h → ⊥
in_an_arm h l n =
    let g : ℕ = group h in
    let r : ℕ = h / 8 % 8 in
    let b = group_below h l in
    let c : r < 8 = omega arith in
    let t = at_below (λ g. all_below (λ r. has_key (news g 0 8 []) (entry_at (place g r))) 8) 128 all_new g b in
    none_of_group 128 g h b n (entry_at (place g r)) (at_below (λ r. has_key (news g 0 8 []) (entry_at (place g r))) 8 t r c)
    (subst (λ x. OneOf (places (entry_at (place g r)) g 0 8) x) (place_of_group h)
    (subst (λ x. OneOf (places (entry_at (place g x)) g 0 8) (place g x)) (zero-add r) (places_have g 0 8 r c)))

pub entry_past : (h : ℕ) → NoneOf (arms 128) h → k.LineF ≡ entry_at h
unfolding entry_at
entry_past h n = go (ltb h 1024) refl
  where
    go : (b : Bool) → ltb h 1024 ≡ b → k.LineF ≡ get_or entries h k.LineF
    go true e = absurd (in_an_arm h (ltb-true h 1024 e) n)
    go false e = sym (get_or-eq_default entries k.LineF {n = h} (rw entries_length (ltb-false h 1024 e)))
