-- RunLaws.antt - the laws of runs: spread out again they are the changes; they ascend with a gap; spaced runs are those of what they spread to.
-- * flat_of_runs, spaced_of_runs, runs_of_flat.   * bytes_of_runs, olds_of_flat, ascending_of_flat, total_of_flat, runs_few: what they hold.
-- Speaks of: specs/Runs.antt.  Assumes nothing.  Source: [K8].
use Prim.Native.Nat.{ℕ, suc, ◌+◌, ◌≤◌, ◌<◌}
use mathlib.Core.Path.{◌≡◌, refl, sym, ap, ◌∙◌}
use mathlib.Core.Bool.{Bool, true, false}
use mathlib.Core.List.{List, [], ◌∷◌, ◌++◌}
use native.Mathlib.Omega.{arith}
use lib.ListN.{length, length-append}
use lib.Dec.{eqb}
use borrow.Author.Tests.{eq-eqb, ne_eqb, eqb-true, eqb-false}
use Rattle.bits.specs.Bits.{pick}
use Rattle.numbers.proofs.NumberLaws.{Bytes}
use Rattle.record.specs.Change.{Change, Ascending, ByteOlds}
use Rattle.record.proofs.ChangeLaws.{ascending_raise}
use Rattle.runs.specs.Runs.{Stretch, joined, runs}

-- ---- runs spread out

-- the changes of old bytes from address a on
abbrev pub spread : ℕ → List ℕ → List Change
spread a [] = []
spread a (o ∷ os) = record { place = a; old = o } ∷ spread (suc a) os

-- the changes of runs
abbrev pub flat : List Stretch → List Change
flat [] = []
flat (r ∷ rs) = spread r.first r.olds ++ flat rs

-- how many old bytes runs have
abbrev pub total : List Stretch → ℕ
total [] = 0
total (r ∷ rs) = length r.olds + total rs

-- runs from lo on, none empty, with a gap between two of them and before lim
abbrev pub Spaced : ℕ → ℕ → List Stretch → Type 0
Spaced lo lim [] = Unit {0}
Spaced lo lim (r ∷ rs) =
    (lo ≤ r.first)
    × (0 < length r.olds)
    × (r.first + length r.olds < lim)
    × Spaced (suc (r.first + length r.olds)) lim rs

-- old bytes that are bytes
abbrev pub RunBytes : List Stretch → Type 0
RunBytes [] = Unit {0}
RunBytes (r ∷ rs) = Bytes r.olds × RunBytes rs

-- a change put before runs, by cases
pub joined_cases : (P : List Stretch → Type 0) (c : Change) (r : Stretch) (rs : List Stretch)
    → (suc c.place ≡ r.first → P (record { first = c.place; olds = c.old ∷ r.olds } ∷ rs))
    → ((suc c.place ≡ r.first → ⊥) → P (record { first = c.place; olds = c.old ∷ [] } ∷ r ∷ rs))
    → P (joined c (r ∷ rs))
joined_cases P c r rs f g = go (eqb (suc c.place) r.first) refl
  where
    go : (b : Bool) → eqb (suc c.place) r.first ≡ b
        → P (pick b (record { first = c.place; olds = c.old ∷ r.olds } ∷ rs) (record { first = c.place; olds = c.old ∷ [] } ∷ r ∷ rs))
    go true q = f (eqb-true (suc c.place) r.first q)
    go false q = g (eqb-false (suc c.place) r.first q)

-- ---- what runs of changes are
flat_of_joined : (c : Change) (rs : List Stretch) → flat (joined c rs) ≡ c ∷ flat rs
flat_of_joined c [] = refl
flat_of_joined c (r ∷ rs) =
    joined_cases (λ (x : List Stretch). flat x ≡ c ∷ flat (r ∷ rs)) c r rs (λ q. rw q) (λ q. refl)

pub flat_of_runs : (cs : List Change) → flat (runs cs) ≡ cs
flat_of_runs [] = refl
flat_of_runs (c ∷ cs) = flat_of_joined c (runs cs) ∙ ap (λ (l : List Change). c ∷ l) (flat_of_runs cs)

spaced_of_joined : (lo lim : ℕ) (c : Change) (rs : List Stretch) → Spaced (suc c.place) lim rs → lo ≤ c.place → suc c.place < lim
    → Spaced lo lim (joined c rs)
spaced_of_joined lo lim c [] s h k = (h, omega arith, omega arith, tt)
spaced_of_joined lo lim c (r ∷ rs) s h k =
    joined_cases (Spaced lo lim) c r rs
    (λ q. let e : c.place + suc (length r.olds) ≡ r.first + length r.olds = omega arith in (
      h,
      omega arith,
      omega (arith, e, s.2),
      rw e s.3,
    ))
    (λ q. (h, omega arith, omega arith, (omega (arith, s.0, q), s.1, s.2, s.3)))

pub spaced_of_runs : (lo hi : ℕ) (cs : List Change) → Ascending lo hi cs → Spaced lo (suc hi) (runs cs)
spaced_of_runs lo hi [] a = tt
spaced_of_runs lo hi (c ∷ cs) a =
    spaced_of_joined lo (suc hi) c (runs cs) (spaced_of_runs (suc c.place) hi cs a.2) a.0 (omega (arith, a.1))

bytes_of_joined : (c : Change) (rs : List Stretch) → c.old < 256 → RunBytes rs → RunBytes (joined c rs)
bytes_of_joined c [] h b = ((h, tt), tt)
bytes_of_joined c (r ∷ rs) h b = joined_cases RunBytes c r rs (λ q. ((h, b.0), b.1)) (λ q. ((h, tt), b))

pub bytes_of_runs : (cs : List Change) → ByteOlds cs → RunBytes (runs cs)
bytes_of_runs [] b = tt
bytes_of_runs (c ∷ cs) b = bytes_of_joined c (runs cs) b.0 (bytes_of_runs cs b.1)

-- ---- a run that cannot go on

-- no run begins at an address
abbrev pub Gap : ℕ → List Stretch → Type 0
Gap e [] = Unit {0}
Gap e (r ∷ rs) = e ≡ r.first → ⊥

-- neighbouring changes before runs that do not go on with them are one run more
pub stretch_joined : (a o : ℕ) (os : List ℕ) (cs : List Change) → Gap (a + suc (length os)) (runs cs)
    → runs (spread a (o ∷ os) ++ cs) ≡ record { first = a; olds = o ∷ os } ∷ runs cs
stretch_joined a o [] cs g = go (runs cs) g
  where
    go : (rs : List Stretch) → Gap (a + 1) rs → joined (record { place = a; old = o }) rs ≡ record { first = a; olds = o ∷ [] } ∷ rs
    go [] g = refl
    go (r ∷ rs) g = rw (ne_eqb (suc a) r.first (λ q. g (let z : a + 1 ≡ suc a = omega arith in z ∙ q)))
stretch_joined a o (p ∷ os) cs g =
    let q : suc a + suc (length os) ≡ a + suc (suc (length os)) = omega arith in
    ap (joined (record { place = a; old = o })) (stretch_joined (suc a) p os cs (rw q g)) ∙ rw (eq-eqb (suc a) (suc a) refl)

-- ---- spaced runs are the runs of their changes: no two of them could be joined
gap_of_spaced : (e lim : ℕ) (rs : List Stretch) → Spaced (suc e) lim rs → Gap e rs
gap_of_spaced e lim [] s = tt
gap_of_spaced e lim (r ∷ rs) s = λ q. absurd (omega (arith, s.0, q))

pub runs_of_flat : (lo lim : ℕ) (rs : List Stretch) → Spaced lo lim rs → runs (flat rs) ≡ rs
runs_of_flat lo lim [] s = refl
runs_of_flat lo lim (r ∷ rs) s = go r.olds refl (runs_of_flat (suc (r.first + length r.olds)) lim rs s.3)
  where
    go : (os : List ℕ) → r.olds ≡ os → runs (flat rs) ≡ rs → runs (spread r.first r.olds ++ flat rs) ≡ r ∷ rs
    go [] q e = absurd (omega (arith, s.1, ap length q))
    go (o ∷ os) q e =
        let n : length r.olds ≡ suc (length os) = ap length q in
        let gap : Gap (r.first + suc (length os)) rs = rw n at (gap_of_spaced (r.first + length r.olds) lim rs s.3) in
        ap (λ (x : List ℕ). runs (spread r.first x ++ flat rs)) q
        ∙ stretch_joined r.first o os (flat rs) (rw e gap)
        ∙ ap (λ (x : List Stretch). record { first = r.first; olds = o ∷ os } ∷ x) e
        ∙ ap (λ (x : List ℕ). record { first = r.first; olds = x } ∷ rs) (sym q)

-- ---- what runs spread to
spread_length : (a : ℕ) (os : List ℕ) → length (spread a os) ≡ length os
spread_length a [] = refl
spread_length a (o ∷ os) = ap suc (spread_length (suc a) os)

pub total_of_flat : (rs : List Stretch) → length (flat rs) ≡ total rs
total_of_flat [] = refl
total_of_flat (r ∷ rs) =
    omega (arith, length-append (spread r.first r.olds) (flat rs), spread_length r.first r.olds, total_of_flat rs)

olds_of_spread : (a : ℕ) (os : List ℕ) (cs : List Change) → Bytes os → ByteOlds cs → ByteOlds (spread a os ++ cs)
olds_of_spread a [] cs b o = o
olds_of_spread a (x ∷ os) cs b o = (b.0, olds_of_spread (suc a) os cs b.1 o)

pub olds_of_flat : (rs : List Stretch) → RunBytes rs → ByteOlds (flat rs)
olds_of_flat [] b = tt
olds_of_flat (r ∷ rs) b = olds_of_spread r.first r.olds (flat rs) b.0 (olds_of_flat rs b.1)

ascending_of_spread : (lo hi a : ℕ) (os : List ℕ) (cs : List Change) → lo ≤ a → a + length os ≤ hi → Ascending (a + length os) hi cs
    → Ascending lo hi (spread a os ++ cs)
ascending_of_spread lo hi a [] cs h k s = ascending_raise (a + 0) lo hi cs (omega arith) s
ascending_of_spread lo hi a (o ∷ os) cs h k s = (
  h,
  omega arith,
  ascending_of_spread (suc a) hi (suc a) os cs (omega arith) (omega arith) (let q : suc a + length os
      ≡ a + suc (length os) = omega arith in rw q s),
)

pub ascending_of_flat : (lo hi : ℕ) (rs : List Stretch) → Spaced lo (suc hi) rs → Ascending lo hi (flat rs)
ascending_of_flat lo hi [] s = tt
ascending_of_flat lo hi (r ∷ rs) s =
    ascending_of_spread lo hi r.first r.olds (flat rs) s.0 (omega (arith, s.2))
    (ascending_raise (suc (r.first + length r.olds)) (r.first + length r.olds) hi (flat rs) (omega arith)
    (ascending_of_flat (suc (r.first + length r.olds)) hi rs s.3))

-- ---- how many
pub runs_few : (lo lim : ℕ) (rs : List Stretch) → Spaced lo lim rs → length rs ≤ total rs
runs_few lo lim [] s = omega arith
runs_few lo lim (r ∷ rs) s = omega (arith, s.1, runs_few (suc (r.first + length r.olds)) lim rs s.3)
