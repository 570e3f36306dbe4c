-- PutLaws.antt - the laws of writing runs: what is left to write, written now, gives what was asked; the first run of a log.
-- * left_start, left_put, left_end: the loops'.   * room_1 to room_4, all_put: four parts in a row.   * run_of_prefix.
-- Speaks of: specs/Answers.antt.  Assumes nothing.  Source: [K8].
use Prim.Native.Nat.{ℕ, suc, ◌+◌, ◌/◌, ◌%◌, ◌^◌, ◌≤◌, ◌<◌}
use mathlib.Core.Path.{◌≡◌, refl, sym, ap, ◌∙◌}
use mathlib.Core.List.{List, [], ◌∷◌, ◌++◌, append_assoc, append-nil, map}
use native.Mathlib.Nat.{add-zero}
use native.Mathlib.Omega.{arith}
use lib.ListN.{length, get_or, drop, length-append, length-map}
use lib.Seq.{drop-cons}
use native.Mathlib.Numerals.{add-one, sub-one}
use borrow.Author.Tests.{eq-eqb, ne_eqb, eqb-true, eqb-false}
use Rattle.std.specs.List.{IsChunkByPrefix}
use Rattle.numbers.specs.Number.{number_bytes, written}
use Rattle.numbers.proofs.WrittenLaws.{length_written, written_written, written_none}
use Rattle.record.specs.Change.{Change, unpack}
use Rattle.runs.specs.Runs.{Stretch, joined, runs, numbers_bytes, run_bytes}
use Rattle.runs.specs.Answers.{olds, follows, BytesPut}
use Rattle.runs.proofs.RunLaws.{joined_cases, Gap}

-- ---- what is left to write
pub record Left (j₀ : List ℕ) (at : ℕ) (all : List ℕ) (j : List ℕ) (p : ℕ) (rest : List ℕ) : Type 0 where
  pub bytes : written j p rest ≡ written j₀ at all
  pub next : p + length rest ≡ at + length all
  pub same : length j ≡ length j₀

pub left_start : (j : List ℕ) (at : ℕ) (all rest : List ℕ) → rest ≡ all → Left j at all j at rest
left_start j at all rest e = record { bytes = rw e; next = rw e; same = refl }

module _ (j₀ : List ℕ) (at : ℕ) (all : List ℕ) (fits : at + length all ≤ length j₀) (j : List ℕ) (p : ℕ) (rest ch more : List ℕ) (split : rest
    ≡ ch ++ more) (left : Left j₀ at all j p rest) where
  pub left_room : p + length ch ≤ length j
  left_room = omega (arith, left.next, left.same, ap length split, length-append ch more)

  pub left_step : (p' : ℕ) (j' : List ℕ) → p' ≡ p + length ch → j' ≡ written j p ch → Left j₀ at all j' p' more
  left_step p' j' ep ej =
      record {
        bytes = rw (ej, ep) (written_written j p ch left_room more) ∙ ap (written j p) (sym split) ∙ left.bytes;
        next = omega (arith, left.next, ap length split, length-append ch more);
        same = ap length ej ∙ length_written j p ch left_room ∙ left.same;
      }

  -- the same with what the code's writers promise
  pub left_put : (p' : ℕ) (j' : List ℕ) → BytesPut j p ch j' p' → Left j₀ at all j' p' more
  left_put p' j' b = left_step p' j' b.place b.bytes

pub left_end : (j₀ : List ℕ) (at : ℕ) (all : List ℕ) (j : List ℕ) (p : ℕ) (rest : List ℕ) → rest ≡ [] → Left j₀ at all j p rest
    → BytesPut j₀ at all j p
left_end j₀ at all j p rest e left =
    let l : Left j₀ at all j p [] = rw e at left in
    record { place = omega (arith, l.next); bytes = sym (written_none j p) ∙ l.bytes }

-- ---- the entries that are left
pub log_rest : (log : List ℕ) (k : ℕ) → k < length log → map unpack (drop k log) ≡ unpack (get_or log k 0) ∷ map unpack (drop (k + 1) log)
log_rest log k h = rw add-one (ap (map unpack) (drop-cons log k 0 h))

pub olds_rest : (log : List ℕ) (k : ℕ) → k < length log
    → numbers_bytes (olds (map unpack (drop k log))) ≡ number_bytes (get_or log k 0 % 2 ^ 32) ++ numbers_bytes (olds (map unpack (drop (k + 1) log)))
olds_rest log k h = ap (λ (cs : List Change). numbers_bytes (olds cs)) (log_rest log k h)

-- ---- the first run of a log
olds_length : (cs : List Change) → length (olds cs) ≡ length cs
olds_length cs = length-map cs (λ c. c.old)

gap_of : (e : ℕ) (c : Change) (cs : List Change) → (e ≡ c.place → ⊥) → Gap e (runs (c ∷ cs))
gap_of e c cs h = go (runs cs)
  where
    go : (rs : List Stretch) → Gap e (joined c rs)
    go [] = h
    go (r ∷ rs) = joined_cases (Gap e) c r rs (λ q. h) (λ q. h)

joined_alone : (c : Change) (rs : List Stretch) → Gap (suc c.place) rs → joined c rs ≡ record { first = c.place; olds = c.old ∷ [] } ∷ rs
joined_alone c [] g = refl
joined_alone c (r ∷ rs) g = rw (ne_eqb (suc c.place) r.first g)

joined_on : (c : Change) (r : Stretch) (rs : List Stretch) → suc c.place ≡ r.first
    → joined c (r ∷ rs) ≡ record { first = c.place; olds = c.old ∷ r.olds } ∷ rs
joined_on c r rs e = rw (eq-eqb (suc c.place) r.first e)

-- each entry up to ys' last stands at the address after the one before it, and the first of zs does not
first_run : (y : ℕ) (ys zs : List ℕ)
    → ((k : ℕ) → k < length ys → suc (get_or (y ∷ (ys ++ zs)) k 0 / 2 ^ 32) ≡ get_or (ys ++ zs) k 0 / 2 ^ 32)
    → (0 < length zs → suc (get_or (y ∷ (ys ++ zs)) (length ys) 0 / 2 ^ 32) ≡ get_or (ys ++ zs) (length ys) 0 / 2 ^ 32 → ⊥)
    → runs (map unpack (y ∷ (ys ++ zs))) ≡ record { first = y / 2 ^ 32; olds = olds (map unpack (y ∷ ys)) } ∷ runs (map unpack zs)
first_run y [] [] h s = refl
first_run y [] (z ∷ zs) h s =
    joined_alone (unpack y) (runs (map unpack (z ∷ zs))) (gap_of (suc (y / 2 ^ 32)) (unpack z) (map unpack zs) (s (omega arith)))
first_run y (z ∷ ys) zs h s =
    ap (joined (unpack y)) (first_run z ys zs (λ k l. h (suc k) (omega arith)) s)
    ∙ joined_on (unpack y) (record { first = z / 2 ^ 32; olds = olds (map unpack (z ∷ ys)) }) (runs (map unpack zs)) (h 0 (omega arith))

pub run_of_prefix : (xs ys zs : List ℕ) → xs ≡ ys ++ zs → 0 < length ys → IsChunkByPrefix follows xs (length ys)
    → runs (map unpack xs) ≡ record { first = get_or ys 0 0 / 2 ^ 32; olds = olds (map unpack ys) } ∷ runs (map unpack zs)
run_of_prefix xs [] zs e h p = absurd (omega arith)
run_of_prefix xs (y ∷ ys) zs e h p =
    let q = rw e at p in
    let long : length (y ∷ (ys ++ zs)) ≡ suc (length ys + length zs) = omega (arith, length-append ys zs) in
    ap (λ (l : List ℕ). runs (map unpack l)) e
    ∙ first_run y ys zs
    (λ k l. let f = eqb-true _ _ (rw add-one at (q.0 k 0 (omega arith))) in omega (arith, f))
    (λ l same. eqb-false _ _ (rw sub-one at (q.1 (omega (arith, long, l)) 0)) (omega (arith, same)))

-- ---- four parts, one after the other
pub put_none : (j : List ℕ) (at : ℕ) → BytesPut j at [] j at
put_none j at = record { place = sym (add-zero at); bytes = sym (written_none j at) }

-- there is room for them
pub record FourFit (j₀ : List ℕ) (at : ℕ) (a b c d : List ℕ) : Type 0 where
  pub room : at + length (a ++ (b ++ (c ++ d))) ≤ length j₀

module _ (j₀ : List ℕ) (at : ℕ) (a b c d : List ℕ) (fits : FourFit j₀ at a b c d) where
  abbrev all : List ℕ
  all = a ++ (b ++ (c ++ d))

  pub room_1 : at + length a ≤ length j₀
  room_1 = omega (arith, fits.room, length-append a (b ++ (c ++ d)))

  module _ (p₁ : ℕ) (j₁ : List ℕ) (w₁ : BytesPut j₀ at a j₁ p₁) where
    left_1 : Left j₀ at all j₁ p₁ (b ++ (c ++ d))
    left_1 = left_put j₀ at all fits.room j₀ at all a (b ++ (c ++ d)) refl (left_start j₀ at all all refl) p₁ j₁ w₁

    pub room_2 : p₁ + length b ≤ length j₁
    room_2 = left_room j₀ at all fits.room j₁ p₁ (b ++ (c ++ d)) b (c ++ d) refl left_1

    module _ (p₂ : ℕ) (j₂ : List ℕ) (w₂ : BytesPut j₁ p₁ b j₂ p₂) where
      left_2 : Left j₀ at all j₂ p₂ (c ++ d)
      left_2 = left_put j₀ at all fits.room j₁ p₁ (b ++ (c ++ d)) b (c ++ d) refl left_1 p₂ j₂ w₂

      pub room_3 : p₂ + length c ≤ length j₂
      room_3 = left_room j₀ at all fits.room j₂ p₂ (c ++ d) c d refl left_2

      module _ (p₃ : ℕ) (j₃ : List ℕ) (w₃ : BytesPut j₂ p₂ c j₃ p₃) where
        left_3 : Left j₀ at all j₃ p₃ d
        left_3 = left_put j₀ at all fits.room j₂ p₂ (c ++ d) c d refl left_2 p₃ j₃ w₃

        pub room_4 : p₃ + length d ≤ length j₃
        room_4 = left_room j₀ at all fits.room j₃ p₃ d d [] (sym (append-nil d)) left_3

        pub all_put : (p₄ : ℕ) (j₄ : List ℕ) → BytesPut j₃ p₃ d j₄ p₄ → BytesPut j₀ at all j₄ p₄
        all_put p₄ j₄ w₄ = left_end j₀ at all j₄ p₄ [] refl (left_put j₀ at all fits.room j₃ p₃ d d [] (sym (append-nil d)) left_3 p₄ j₄ w₄)

-- ---- the parts of a run and of a record
pub run_parts : (log : List ℕ) (f : ℕ)
    → run_bytes (record { first = f; olds = olds (map unpack log) })
    ≡ numbers_bytes (olds (map unpack log)) ++ (number_bytes f ++ number_bytes (length log))
run_parts log f =
    let e : length (olds (map unpack log)) ≡ length log = olds_length (map unpack log) ∙ length-map log unpack in
    ap (λ (k : ℕ). numbers_bytes (olds (map unpack log)) ++ number_bytes f ++ number_bytes k) e
    ∙ append_assoc (numbers_bytes (olds (map unpack log))) (number_bytes f) (number_bytes (length log))
