-- HistoryLaws.antt - calls on one thing that are calls on another, answer for answer, stay so in any mix.
-- * after_carried: what is left is carried over. standing_carried: the same steps stand. ahead_carried: and are as little ahead.
-- Source: [00 demand 3].
use Prim.Native.Nat.{ℕ, ◌+◌}
use mathlib.Core.Path.{◌≡◌, refl, sym, ap, ◌∙◌}
use mathlib.Core.List.{List, [], ◌∷◌}
use lib.Dec.{eqb}
use Rattle.bits.specs.Bits.{pick, iter}
use Rattle.calls.specs.History.{Request, Call, step_of, run_of, undo_once, all_but_last, plain_step}
use Rattle.calls.specs.History.{Calls, after, accepted, undone, NeverAhead, left_by, standing}

-- j's calls on an X that is Good are k's on its image by f
pub record Carries {X Y : Type 0} (j : Calls X) (k : Calls Y) (f : X → Y) (Good : X → Type 0) : Type 0 where
  pub good : (c : Call) (x : X) → Good x → Good (j.next c x)
  pub next : (c : Call) (x : X) → Good x → f (j.next c x) ≡ k.next c (f x)
  pub number : (c : Call) (x : X) → Good x → j.number c x ≡ k.number c (f x)
  pub steps : (c : Call) (x : X) → Good x → j.steps c x ≡ k.steps c (f x)

module _ {X Y : Type 0} (j : Calls X) (k : Calls Y) (f : X → Y) (Good : X → Type 0) (w : Carries j k f Good) where
  -- ---- one call
  accepted_carried : (c : Call) (x : X) → Good x → accepted j c x ≡ accepted k c (f x)
  unfolding accepted
  accepted_carried (step_of level vector) x g = ap (λ (n : ℕ). pick (eqb n 0) 1 0) (w.number (step_of level vector) x g)
  accepted_carried (run_of budget stop) x g = w.steps (run_of budget stop) x g
  accepted_carried undo_once x g = refl

  undone_carried : (c : Call) (x : X) → Good x → undone j c x ≡ undone k c (f x)
  unfolding undone
  undone_carried (step_of level vector) x g = refl
  undone_carried (run_of budget stop) x g = refl
  undone_carried undo_once x g = ap (λ (n : ℕ). pick (eqb n 0) 1 0) (w.number undo_once x g)

  left_by_carried : (c : Call) (x : X) (rs : List Request) → Good x → left_by j c x rs ≡ left_by k c (f x) rs
  unfolding left_by
  left_by_carried (step_of level vector) x rs g =
      ap (λ (n : ℕ). pick (eqb n 0) (record { level = level; vector = vector } ∷ rs) rs) (w.number (step_of level vector) x g)
  left_by_carried (run_of budget stop) x rs g = ap (λ (n : ℕ). iter plain_step n rs) (w.steps (run_of budget stop) x g)
  left_by_carried undo_once x rs g = ap (λ (n : ℕ). pick (eqb n 0) (all_but_last rs) rs) (w.number undo_once x g)

  -- ---- any list of calls
  pub good_along : (cs : List Call) (x : X) → Good x → Good (after j cs x)
  good_along [] x g = g
  good_along (c ∷ cs) x g = good_along cs (j.next c x) (w.good c x g)

  pub after_carried : (cs : List Call) (x : X) → Good x → f (after j cs x) ≡ after k cs (f x)
  after_carried [] x g = refl
  after_carried (c ∷ cs) x g = after_carried cs (j.next c x) (w.good c x g) ∙ ap (after k cs) (w.next c x g)

  pub standing_carried : (cs : List Call) (x : X) (rs : List Request) → Good x → standing j cs x rs ≡ standing k cs (f x) rs
  standing_carried [] x rs g = refl
  standing_carried (c ∷ cs) x rs g =
      standing_carried cs (j.next c x) (left_by j c x rs) (w.good c x g) ∙ (λ i. standing k cs (w.next c x g i) (left_by_carried c x rs g i))

  ahead_at : (cs : List Call) {y z : Y} {n a u b : ℕ} → y ≡ z → n ≡ a → u ≡ b → NeverAhead k cs y n u → NeverAhead k cs z a b
  ahead_at cs p q r h = rw (sym p, sym q, sym r) h

  pub ahead_carried : (cs : List Call) (x : X) (n u : ℕ) → Good x → NeverAhead j cs x n u → NeverAhead k cs (f x) n u
  ahead_carried [] x n u g h = h
  ahead_carried (c ∷ cs) x n u g h =
      let rest = ahead_carried cs (j.next c x) (n + accepted j c x) (u + undone j c x) (w.good c x g) h.1 in
      let q = ap (λ (a : ℕ). n + a) (accepted_carried c x g) in
      let r = ap (λ (b : ℕ). u + b) (undone_carried c x g) in
      (h.0, ahead_at cs (w.next c x g) q r rest)
