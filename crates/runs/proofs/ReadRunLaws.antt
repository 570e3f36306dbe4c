-- ReadRunLaws.antt - reading runs from the end: runs that are written read back, and what reads is runs that were written.
-- * runs_all, runs_of_read.   * old_step, run_step: one turn.
-- Speaks of: read_olds and read_runs of specs/Runs.antt.  Assumes nothing.  Source: [K8].
use Prim.Native.Nat.{ℕ, zero, suc, ◌+◌, ◌-◌, ◌^◌, ◌≤◌, ◌<◌}
use mathlib.Core.Path.{◌≡◌, refl, sym, ap, ◌∙◌}
use mathlib.Core.Bool.{Bool, true, false, ◌&&◌}
use mathlib.Core.List.{List, [], ◌∷◌, ◌++◌, append_assoc, append-nil, reverse, reverse-append}
use native.Mathlib.Nat.{add-zero, zero-add}
use native.Mathlib.Omega.{arith}
use lib.ListN.{length, length-append}
use lib.Dec.{ltb, leb}
use borrow.Author.Tests.{lt-ltb, le-leb, ltb-true, leb-true}
use Rattle.bits.proofs.BitsLaws.{and_left, and_right}
use Rattle.numbers.specs.Number.{Got, got, bad, number_bytes, read_number}
use Rattle.numbers.proofs.NumberLaws.{Bytes, bytes_rest, read_of_number_bytes, bytes_of_read_number}
use Rattle.record.specs.Change.{Change}
use Rattle.undo.specs.Undo.{Parsed, parsed, broken}
use Rattle.undo.proofs.ShapeLaws.{list_of, left_of, broken_parsed}
use Rattle.oldest.proofs.OctetLaws.{bytes_append}
use Rattle.runs.specs.Runs.{Stretch, numbers_bytes, run_bytes, runs_bytes, old_then, read_olds, run_then, first_then, length_then, read_runs}
use Rattle.runs.proofs.RunLaws.{spread, flat, total, Spaced, RunBytes}

-- ---- one old byte
pub old_step : (n a : ℕ) (s : List ℕ) (acc : List Change) (o : ℕ) (s₁ : List ℕ) → read_number s ≡ got o s₁ → o < 256
    → read_olds (suc n) a s acc ≡ read_olds n a s₁ (record { place = a + n; old = o } ∷ acc)
old_step n a s acc o s₁ e h = rw (e, lt-ltb o 256 h)

-- ---- one run
pub run_step : (k lim room : ℕ) (s : List ℕ) (acc : List Change) (n : ℕ) (s₁ : List ℕ) (a : ℕ) (s₂ : List ℕ) (acc₁ : List Change) (s₃ : List ℕ)
    → read_number s ≡ got n s₁ → 0 < n → n ≤ room → read_number s₁ ≡ got a s₂ → a + n < lim → read_olds n a s₂ acc ≡ parsed acc₁ s₃
    → read_runs (suc k) lim room s acc ≡ read_runs k a (room - n) s₃ acc₁
run_step k lim room s acc n s₁ a s₂ acc₁ s₃ e₁ some few e₂ low e₃ =
    rw (e₁, lt-ltb 0 n some, le-leb n room few, e₂, lt-ltb (a + n) lim low, e₃)

-- ---- lists of numbers and runs
pub numbers_append : (a b : List ℕ) → numbers_bytes (a ++ b) ≡ numbers_bytes a ++ numbers_bytes b
numbers_append [] b = refl
numbers_append (v ∷ a) b = rw (numbers_append a b) (sym (append_assoc (number_bytes v) (numbers_bytes a) (numbers_bytes b)))

pub runs_bytes_append : (a b : List Stretch) → runs_bytes (a ++ b) ≡ runs_bytes a ++ runs_bytes b
runs_bytes_append [] b = refl
runs_bytes_append (r ∷ a) b = rw (runs_bytes_append a b) (sym (append_assoc (run_bytes r) (runs_bytes a) (runs_bytes b)))

flat_append : (a b : List Stretch) → flat (a ++ b) ≡ flat a ++ flat b
flat_append [] b = refl
flat_append (r ∷ a) b = rw (flat_append a b) (sym (append_assoc (spread r.first r.olds) (flat a) (flat b)))

total_append : (a b : List Stretch) → total (a ++ b) ≡ total a + total b
total_append [] b = sym (zero-add (total b))
total_append (r ∷ a) b = omega (arith, total_append a b)

run_bytes_append : (a b : List Stretch) → RunBytes a → RunBytes b → RunBytes (a ++ b)
run_bytes_append [] b x y = y
run_bytes_append (r ∷ a) b x y = (x.0, run_bytes_append a b x.1 y)

pub spread_append : (a : ℕ) (os : List ℕ) (o : ℕ) → spread a (os ++ o ∷ []) ≡ spread a os ++ record { place = a + length os; old = o } ∷ []
spread_append a [] o = rw (add-zero a)
spread_append a (x ∷ os) o =
    let q : suc a + length os ≡ a + suc (length os) = omega arith in
    ap (λ (l : List Change). record { place = a; old = x } ∷ l) (spread_append (suc a) os o ∙ rw q)

-- ---- written runs read back
pub olds_back : (os : List ℕ) (n a : ℕ) (s : List ℕ) (acc : List Change) → Bytes os
    → read_olds (n + length os) a (reverse (numbers_bytes os) ++ s) acc ≡ read_olds n a s (spread (a + n) os ++ acc)
olds_back [] n a s acc b = ap (λ (k : ℕ). read_olds k a s acc) (add-zero n)
olds_back (o ∷ os) n a s acc b =
    let count : n + suc (length os) ≡ suc n + length os = omega arith in
    let text : reverse (number_bytes o ++ numbers_bytes os) ++ s ≡ reverse (numbers_bytes os) ++ (reverse (number_bytes o) ++ s) =
    rw (reverse-append (number_bytes o) (numbers_bytes os)) (append_assoc (reverse (numbers_bytes os)) (reverse (number_bytes o)) s) in
    let place : a + suc n ≡ suc (a + n) = omega arith in
    ap (λ (k : ℕ). read_olds k a (reverse (numbers_bytes (o ∷ os)) ++ s) acc) count
    ∙ ap (λ (t : List ℕ). read_olds (suc n + length os) a t acc) text
    ∙ olds_back os (suc n) a (reverse (number_bytes o) ++ s) acc b.1
    ∙ old_step n a (reverse (number_bytes o) ++ s) (spread (a + suc n) os ++ acc) o s (read_of_number_bytes o s (omega (arith, b.0))) b.0
    ∙ ap (λ (x : ℕ). read_olds n a s (record { place = a + n; old = o } ∷ (spread x os ++ acc))) place

olds_all : (os : List ℕ) (a : ℕ) (s : List ℕ) (acc : List Change) → Bytes os
    → read_olds (length os) a (reverse (numbers_bytes os) ++ s) acc ≡ parsed (spread a os ++ acc) s
olds_all os a s acc b =
    ap (λ (k : ℕ). read_olds k a (reverse (numbers_bytes os) ++ s) acc) (sym (zero-add (length os)))
    ∙ olds_back os 0 a s acc b
    ∙ ap (λ (x : ℕ). parsed (spread x os ++ acc) s) (add-zero a)

abbrev pub lowest : ℕ → List Stretch → ℕ
lowest lim [] = lim
lowest lim (r ∷ rs) = r.first

below_lowest : (end lim : ℕ) (rs : List Stretch) → end < lim → Spaced (suc end) lim rs → end < lowest lim rs
below_lowest end lim [] h s = h
below_lowest end lim (r ∷ rs) h s = s.0

reverse_run : (r : Stretch) (s : List ℕ) → reverse (run_bytes r) ++ s
    ≡ reverse (number_bytes (length r.olds)) ++ (reverse (number_bytes r.first) ++ (reverse (numbers_bytes r.olds) ++ s))
reverse_run r s = simp (reverse-append, append_assoc)

pub runs_back : (rs : List Stretch) (lo lim n room : ℕ) (s : List ℕ) (acc : List Change) → Spaced lo lim rs → RunBytes rs → total rs ≤ room
    → lim ≤ 2 ^ 32
    → read_runs (length rs + n) lim room (reverse (runs_bytes rs) ++ s) acc ≡ read_runs n (lowest lim rs) (room - total rs) s (flat rs ++ acc)
runs_back [] lo lim n room s acc sp b few h = ap (λ (k : ℕ). read_runs k lim room s acc) (zero-add n)
    ∙ ap (λ (k : ℕ). read_runs n lim k s acc) (omega arith)
runs_back (r ∷ rs) lo lim n room s acc sp b few h =
    let m = length r.olds in
    let count : suc (length rs) + n ≡ length rs + suc n = omega arith in
    let text : reverse (runs_bytes (r ∷ rs)) ++ s ≡ reverse (runs_bytes rs) ++ (reverse (run_bytes r) ++ s) =
    rw (reverse-append (run_bytes r) (runs_bytes rs)) (append_assoc (reverse (runs_bytes rs)) (reverse (run_bytes r)) s) in
    let z₂ = reverse (numbers_bytes r.olds) ++ s in
    let z₁ = reverse (number_bytes r.first) ++ z₂ in
    let e₁ : read_number (reverse (run_bytes r) ++ s) ≡ got m z₁ = ap read_number (reverse_run r s)
    ∙ read_of_number_bytes m z₁ (omega (arith, sp.2)) in
    let e₂ : read_number z₁ ≡ got r.first z₂ = read_of_number_bytes r.first z₂ (omega (arith, sp.2)) in
    let left : room - total rs - m ≡ room - (m + total rs) = omega arith in
    ap (λ (k : ℕ). read_runs k lim room (reverse (runs_bytes (r ∷ rs)) ++ s) acc) count
    ∙ ap (λ (t : List ℕ). read_runs (length rs + suc n) lim room t acc) text
    ∙ runs_back rs (suc (r.first + m)) lim (suc n) room (reverse (run_bytes r) ++ s) acc sp.3 b.1 (omega arith) h
    ∙ run_step n (lowest lim rs) (room - total rs) (reverse (run_bytes r) ++ s)
    (flat rs ++ acc) m z₁ r.first z₂ (spread r.first r.olds ++ (flat rs ++ acc)) s
    e₁ sp.1 (omega arith) e₂ (below_lowest (r.first + m) lim rs sp.2 sp.3) (olds_all r.olds r.first s (flat rs ++ acc) b.0)
    ∙ ap (λ (l : List Change). read_runs n r.first (room - total rs - m) s l) (sym (append_assoc (spread r.first r.olds) (flat rs) acc))
    ∙ ap (λ (k : ℕ). read_runs n r.first k s (spread r.first r.olds ++ flat rs ++ acc)) left

pub runs_all : (rs : List Stretch) (lim room : ℕ) (s : List ℕ) → Spaced 0 lim rs → RunBytes rs → total rs ≤ room → lim ≤ 2 ^ 32
    → read_runs (length rs) lim room (reverse (runs_bytes rs) ++ s) [] ≡ parsed (flat rs) s
runs_all rs lim room s sp b few h =
    ap (λ (k : ℕ). read_runs k lim room (reverse (runs_bytes rs) ++ s) []) (sym (add-zero (length rs)))
    ∙ runs_back rs 0 lim 0 room s [] sp b few h
    ∙ ap (λ (t : List Change). parsed t s) (append-nil (flat rs))

-- ---- what reads was written
abbrev OldsRead : ℕ → ℕ → List ℕ → List Change → List Change → List ℕ → Type 0
OldsRead n a s acc cs r = (os : List ℕ) × (cs ≡ spread a os ++ acc) × (s ≡ reverse (numbers_bytes os) ++ r) × (length os ≡ n) × Bytes os

old_inv : (f : List ℕ → List Change → Parsed) (place : ℕ) (acc : List Change) (g : Got) (cs : List Change) (r : List ℕ)
    → old_then f place acc g ≡ parsed cs r
    → (o : ℕ) × (t : List ℕ) × (g ≡ got o t) × (o < 256) × (f t (record { place = place; old = o } ∷ acc) ≡ parsed cs r)
old_inv f place acc bad cs r e = broken_parsed cs r e
old_inv f place acc (got o t) cs r e = go (ltb o 256) refl
  where
    go : (b : Bool) → ltb o 256 ≡ b → (p : ℕ) × (u : List ℕ) × (got o t ≡ got p u) × (p < 256)
        × (f u (record { place = place; old = p } ∷ acc) ≡ parsed cs r)
    go true q = (o, t, refl, ltb-true o 256 q, rw q at e)
    go false q = broken_parsed cs r (rw q at e)

olds_more : (n a o : ℕ) (s s₁ : List ℕ) (acc cs : List Change) (r : List ℕ) → s ≡ reverse (number_bytes o) ++ s₁ → o < 256
    → OldsRead n a s₁ (record { place = a + n; old = o } ∷ acc) cs r → OldsRead (suc n) a s acc cs r
olds_more n a o s s₁ acc cs r e h w = (
  w.0 ++ o ∷ [],
  w.1 ∙ rw (← w.3) (sym (ap (λ (l : List Change). l ++ acc) (spread_append a w.0 o)
      ∙ append_assoc (spread a w.0) (record { place = a + length w.0; old = o } ∷ []) acc)),
  e ∙ ap (λ (l : List ℕ). reverse (number_bytes o) ++ l) w.2
      ∙ rw (numbers_append w.0 (o ∷ []), append-nil (number_bytes o), reverse-append (numbers_bytes w.0) (number_bytes o))
      (sym (append_assoc (reverse (number_bytes o)) (reverse (numbers_bytes w.0)) r)),
  length-append w.0 (o ∷ []) ∙ omega (arith, w.3),
  bytes_append w.0 (o ∷ []) w.4 (h, tt),
)

pub olds_of_read : (n a : ℕ) (s : List ℕ) (acc cs : List Change) (r : List ℕ) → read_olds n a s acc ≡ parsed cs r → Bytes s → OldsRead n a s acc cs r
olds_of_read zero a s acc cs r e h = ([], sym (list_of acc cs s r e), left_of acc cs s r e, refl, tt)
olds_of_read (suc n) a s acc cs r e h = go (old_inv (read_olds n a) (a + n) acc (read_number s) cs r e) (λ t ac f b. olds_of_read n a t ac cs r f b)
  where
    go : (o : ℕ) × (t : List ℕ) × (read_number s ≡ got o t) × (o < 256) × (read_olds n a t (record { place = a + n; old = o } ∷ acc) ≡ parsed cs r)
        → ((t : List ℕ) (ac : List Change) → read_olds n a t ac ≡ parsed cs r → Bytes t → OldsRead n a t ac cs r) → OldsRead (suc n) a s acc cs r
    go w ih =
        let e₁ = bytes_of_read_number s w.0 w.1 w.2 h in
        let b₁ = bytes_rest s (reverse (number_bytes w.0)) w.1 e₁ h in
        olds_more n a w.0 s w.1 acc cs r e₁ w.3 (ih w.1 (record { place = a + n; old = w.0 } ∷ acc) w.4 b₁)

pub record RunsRead (n lim room : ℕ) (s : List ℕ) (acc cs : List Change) (r : List ℕ) : Type 0 where
  pub stretches : List Stretch
  pub list : cs ≡ flat stretches ++ acc
  pub text : s ≡ reverse (runs_bytes stretches) ++ r
  pub count : length stretches ≡ n
  pub spaced : Spaced 0 lim stretches
  pub bytes : RunBytes stretches
  pub few : total stretches ≤ room

spaced_more : (lo a lim : ℕ) (os : List ℕ) (rs : List Stretch) → Spaced lo a rs → lo ≤ a → 0 < length os → a + length os < lim
    → Spaced lo lim (rs ++ record { first = a; olds = os } ∷ [])
spaced_more lo a lim os [] s h some low = (h, some, low, tt)
spaced_more lo a lim os (r ∷ rs) s h some low =
    (s.0, s.1, omega (arith, s.2), spaced_more (suc (r.first + length r.olds)) a lim os rs s.3 s.2 some low)

-- the parts of one run
pub record RunRead (f : ℕ → ℕ → List ℕ → List Change → Parsed) (lim room : ℕ) (acc : List Change) (g : Got) (cs : List Change)
    (r : List ℕ) : Type 0 where
  pub n : ℕ
  pub s₁ : List ℕ
  pub a : ℕ
  pub s₂ : List ℕ
  pub acc₁ : List Change
  pub s₃ : List ℕ
  pub length_read : g ≡ got n s₁
  pub some : 0 < n
  pub few : n ≤ room
  pub first_read : read_number s₁ ≡ got a s₂
  pub low : a + n < lim
  pub olds_read : read_olds n a s₂ acc ≡ parsed acc₁ s₃
  pub rest : f a (room - n) s₃ acc₁ ≡ parsed cs r

then_inv : (f : List ℕ → List Change → Parsed) (p : Parsed) (cs : List Change) (r : List ℕ) → run_then f p ≡ parsed cs r
    → (ac : List Change) × (t : List ℕ) × (p ≡ parsed ac t) × (f t ac ≡ parsed cs r)
then_inv f broken cs r e = broken_parsed cs r e
then_inv f (parsed ac t) cs r e = (ac, t, refl, e)

first_inv : (f : ℕ → ℕ → List ℕ → List Change → Parsed) (lim room n : ℕ) (acc : List Change) (g : Got) (cs : List Change) (r : List ℕ)
    → first_then f lim room n acc g ≡ parsed cs r
    → (a : ℕ) × (t : List ℕ) × (ac : List Change) × (u : List ℕ) × (g ≡ got a t) × (a + n < lim) × (read_olds n a t acc ≡ parsed ac u)
    × (f a room u ac ≡ parsed cs r)
first_inv f lim room n acc bad cs r e = broken_parsed cs r e
first_inv f lim room n acc (got a t) cs r e = go (ltb (a + n) lim) refl
  where
    go : (b : Bool) → ltb (a + n) lim ≡ b
        → (a₁ : ℕ) × (t₁ : List ℕ) × (ac : List Change) × (u : List ℕ) × (got a t ≡ got a₁ t₁) × (a₁ + n < lim)
        × (read_olds n a₁ t₁ acc ≡ parsed ac u) × (f a₁ room u ac ≡ parsed cs r)
    go false q = broken_parsed cs r (rw q at e)
    go true q = let w = then_inv (f a room) (read_olds n a t acc) cs r (rw q at e) in (a, t, w.0, w.1, refl, ltb-true (a + n) lim q, w.2, w.3)

length_inv : (f : ℕ → ℕ → List ℕ → List Change → Parsed) (lim room : ℕ) (acc : List Change) (g : Got) (cs : List Change) (r : List ℕ)
    → length_then f lim room acc g ≡ parsed cs r → RunRead f lim room acc g cs r
length_inv f lim room acc bad cs r e = broken_parsed cs r e
length_inv f lim room acc (got n t) cs r e = go (ltb 0 n && leb n room) refl
  where
    go : (b : Bool) → (ltb 0 n && leb n room) ≡ b → RunRead f lim room acc (got n t) cs r
    go false q = broken_parsed cs r (rw q at e)
    go true q =
        let w = first_inv f lim (room - n) n acc (read_number t) cs r (rw q at e) in
        record {
          n = n;
          s₁ = t;
          a = w.0;
          s₂ = w.1;
          acc₁ = w.2;
          s₃ = w.3;
          length_read = refl;
          some = ltb-true 0 n (and_left (ltb 0 n) (leb n room) q);
          few = leb-true n room (and_right (ltb 0 n) (leb n room) q);
          first_read = w.4;
          low = w.5;
          olds_read = w.6;
          rest = w.7;
        }

runs_more : (k lim room : ℕ) (s : List ℕ) (acc cs : List Change) (r : List ℕ) (n a : ℕ) (s₁ s₂ s₃ : List ℕ) (acc₁ : List Change)
    → s ≡ reverse (number_bytes n) ++ s₁ → s₁ ≡ reverse (number_bytes a) ++ s₂ → 0 < n → n ≤ room → a + n < lim
    → OldsRead n a s₂ acc acc₁ s₃ → RunsRead k a (room - n) s₃ acc₁ cs r → RunsRead (suc k) lim room s acc cs r
runs_more k lim room s acc cs r n a s₁ s₂ s₃ acc₁ e₁ e₂ some few low o w =
    let os = o.0 in
    let rs = w.stretches in
    let one : Stretch = record { first = a; olds = os } in
    let len : length os ≡ n = o.3 in
    let text₁ : s ≡ reverse (run_bytes one) ++ s₃ =
    e₁ ∙ ap (λ (l : List ℕ). reverse (number_bytes n) ++ l) (e₂ ∙ ap (λ (l : List ℕ). reverse (number_bytes a) ++ l) o.2)
    ∙ rw (← len) (sym (reverse_run one s₃)) in
    record {
      stretches = rs ++ one ∷ [];
      list =
          w.list ∙ ap (λ (l : List Change). flat rs ++ l) o.1
          ∙ rw (flat_append rs (one ∷ []), append-nil (spread a os)) (sym (append_assoc (flat rs) (spread a os) acc));
      text =
          text₁ ∙ ap (λ (l : List ℕ). reverse (run_bytes one) ++ l) w.text
          ∙ rw (runs_bytes_append rs (one ∷ []), append-nil (run_bytes one), reverse-append (runs_bytes rs) (run_bytes one))
          (sym (append_assoc (reverse (run_bytes one)) (reverse (runs_bytes rs)) r));
      count = length-append rs (one ∷ []) ∙ omega (arith, w.count);
      spaced = spaced_more 0 a lim os rs w.spaced (omega arith) (omega arith) (omega arith);
      bytes = run_bytes_append rs (one ∷ []) w.bytes (o.4, tt);
      few = omega (arith, total_append rs (one ∷ []), w.few, len);
    }

pub runs_of_read : (n lim room : ℕ) (s : List ℕ) (acc cs : List Change) (r : List ℕ) → read_runs n lim room s acc ≡ parsed cs r → Bytes s
    → RunsRead n lim room s acc cs r
runs_of_read zero lim room s acc cs r e h =
    record {
      stretches = [];
      list = sym (list_of acc cs s r e);
      text = left_of acc cs s r e;
      count = refl;
      spaced = tt;
      bytes = tt;
      few = omega arith;
    }
runs_of_read (suc k) lim room s acc cs r e h =
    go (length_inv (read_runs k) lim room acc (read_number s) cs r e) (λ l m t ac f b. runs_of_read k l m t ac cs r f b)
  where
    go : RunRead (read_runs k) lim room acc (read_number s) cs r
        → ((l m : ℕ) (t : List ℕ) (ac : List Change) → read_runs k l m t ac ≡ parsed cs r → Bytes t → RunsRead k l m t ac cs r)
        → RunsRead (suc k) lim room s acc cs r
    go w ih =
        let e₁ = bytes_of_read_number s w.n w.s₁ w.length_read h in
        let b₁ = bytes_rest s (reverse (number_bytes w.n)) w.s₁ e₁ h in
        let e₂ = bytes_of_read_number w.s₁ w.a w.s₂ w.first_read b₁ in
        let b₂ = bytes_rest w.s₁ (reverse (number_bytes w.a)) w.s₂ e₂ b₁ in
        let o = olds_of_read w.n w.a w.s₂ acc w.acc₁ w.s₃ w.olds_read b₂ in
        let b₃ = bytes_rest w.s₂ (reverse (numbers_bytes o.0)) w.s₃ o.2 b₂ in
        runs_more k lim room s acc cs r w.n w.a w.s₁ w.s₂ w.s₃ w.acc₁ e₁ e₂ w.some w.few w.low o
        (ih w.a (room - w.n) w.s₃ w.acc₁ w.rest b₃)
