-- PartLaws.antt - one law for each return of find and of part; part_verdict: the number is given exactly when the table says (demand 1);
-- part_unique: any two answers that the promise allows are equal, the part's place too.
-- Uses: codes, bits, refusals, calls.  Source: [K10].
use Prim.Native.Nat.{ℕ, ◌+◌, ◌-◌, ◌<◌, ◌≤◌}
use native.Mathlib.Omega.{arith}
use mathlib.Core.Path.{◌≡◌, refl, sym, ap, ◌∙◌, subst}
use mathlib.Core.Bool.{Bool, true, false, ◌&&◌, ◌||◌, not}
use mathlib.Core.List.{List}
use lib.ListN.{length}
use lib.Dec.{leb, eqb}
use borrow.Author.Tests.{leb-true, leb-false, le-leb, lt-leb, ne_eqb, eqb-true, eqb-false, eq-eqb, not-true, not-false}
use denote.Ref.{Bor}
use Rattle.std.specs.Prelude.{Result, Ok, Err}
use Rattle.std.specs.Result.{IsErrAnd}
use Rattle.std.proofs.lemmas.Result.{err_from_is_err_and}
use Rattle.codes.specs.Codes.{RomStart}
use Rattle.bits.specs.Bits.{pick}
use Rattle.bits.proofs.BitsLaws.{and_left, and_right, and_both}
use Rattle.refusals.specs.declared.Refusal.{Refusal}
use Rattle.refusals.specs.Refusals.{refusal_number, number_given}
use Rattle.refusals.proofs.NumberLaws.{refusal_some}
use Rattle.calls.specs.Calls.{memory_fits, rom_fits, reset_number}
use Rattle.calls.specs.Refusals.{zero_at_end}
use Rattle.calls.proofs.RefusalLaws.{Verdict, verdict, given_pick, memory_given, rom_given}
use Rattle.part.specs.Part.{lies, Where, in_memory, in_rom, refused, where_is, number_of, PartOf, Placed, Found, PartPromise, Fits, part_table, SamePart}

-- ---- the returns
module _ (m rom r : Bor (List ℕ)) (a l : ℕ) where
  pub part_found : (number_of (where_is m.now rom.now a l) ≡ 0) × Placed (where_is m.now rom.now a l) m rom l r → PartPromise m rom a l 0 r
  part_found h = record { number_is = sym h.0; part_is = h.1 }

  pub part_missing : (n : ℕ) → where_is m.now rom.now a l ≡ refused n → PartOf m 0 0 r → PartPromise m rom a l n r
  part_missing n e h = record { number_is = ap number_of (sym e); part_is = subst (λ (w : Where). Placed w m rom l r) (sym e) h }

-- k: the judgment of the lengths
module _ {A : Type 0} (m rom : Bor (List ℕ)) (a l : ℕ) (k : Result A Refusal) (e : number_given k ≡ reset_number m.now rom.now) where
  pub found_refused : (x : Refusal) (y : Result (Bor (List ℕ)) Refusal) → k ≡ Err x → IsErrAnd y (λ z. z ≡ x) → Found (where_is m.now rom.now a l) m rom l y
  unfolding where_is
  found_refused x y z t =
      let p = err_from_is_err_and y t in
      let n : refusal_number x ≡ reset_number m.now rom.now = ap number_given (sym z) ∙ e in
      let f : eqb (reset_number m.now rom.now) 0 ≡ false = ap (λ (i : ℕ). eqb i 0) (sym n) ∙ ne_eqb (refusal_number x) 0 (refusal_some x) in
      rw (p.1, p.2) (rw (f, n))

-- where the lengths fit
module _ (m rom : Bor (List ℕ)) (a l : ℕ) (z : 0 ≡ reset_number m.now rom.now) where
  found : (w : Where) (r : Bor (List ℕ)) → number_of w ≡ 0 → w ≡ where_is m.now rom.now a l → Placed w m rom l r → Found (where_is m.now rom.now a l) m rom l (Ok r)
  found w r n d h = (ap number_of (sym d) ∙ n, subst (λ (w : Where). Placed w m rom l r) d h)

  zero : eqb (reset_number m.now rom.now) 0 ≡ true
  zero = ap (λ (i : ℕ). eqb i 0) (sym z)

  pub found_in_memory : (r : Bor (List ℕ)) → true ≡ lies (length m.now) a l → PartOf m a l r → Found (where_is m.now rom.now a l) m rom l (Ok r)
  unfolding where_is
  found_in_memory r i h = found (in_memory a) r refl (rw (zero, sym i)) h

  module _ (i : false ≡ lies (length m.now) a l) where
    pub found_in_rom : (r : Bor (List ℕ)) → RomStart ≤ a → true ≡ lies (length rom.now) (a - RomStart) l → PartOf rom (a - RomStart) l r → Found (where_is m.now rom.now a l) m rom l (Ok r)
    unfolding where_is
    found_in_rom r s c h = found (in_rom (a - RomStart)) r refl (rw (zero, sym i, le-leb RomStart a s, sym c)) h

    pub where_beyond : RomStart ≤ a → false ≡ lies (length rom.now) (a - RomStart) l → where_is m.now rom.now a l ≡ refused 13
    unfolding where_is
    where_beyond s c = rw (zero, sym i, le-leb RomStart a s, sym c)

    pub where_below : a < RomStart → where_is m.now rom.now a l ≡ refused 13
    unfolding where_is
    where_below s = rw (zero, sym i, lt-leb RomStart a s)

-- ---- the same of the number x that the lengths are refused by, as the promise of a part
module _ (m rom r : Bor (List ℕ)) (a l x : ℕ) (xe : x ≡ reset_number m.now rom.now) where
  placed : (n : ℕ) (w : Where) → n ≡ number_of w → w ≡ where_is m.now rom.now a l → Placed w m rom l r → PartPromise m rom a l n r
  placed n w d e h = record { number_is = d ∙ ap number_of e; part_is = subst (λ (w : Where). Placed w m rom l r) e h }

  pub part_refused : not (eqb x 0) ≡ true → PartOf m 0 0 r → PartPromise m rom a l x r
  unfolding where_is
  part_refused t h = placed x (refused x) refl (let g = not-true (eqb x 0) t in cc) h

  module _ (t : not (eqb x 0) ≡ false) (i : Bool) (ie : i ≡ lies (length m.now) a l) where
    pub part_in_memory : i ≡ true → PartOf m a l r → PartPromise m rom a l 0 r
    unfolding where_is
    part_in_memory k h = placed 0 (in_memory a) refl (let g = not-false (eqb x 0) t in cc) h

    module _ (k : i ≡ false) where
      pub part_in_rom : (c : Bool) → leb RomStart a ≡ true → c ≡ lies (length rom.now) (a - RomStart) l → c ≡ true → PartOf rom (a - RomStart) l r
          → PartPromise m rom a l 0 r
      unfolding where_is
      part_in_rom c s e d h = placed 0 (in_rom (a - RomStart)) refl (let g = not-false (eqb x 0) t in cc) h

      pub part_beyond : (c : Bool) → leb RomStart a ≡ true → c ≡ lies (length rom.now) (a - RomStart) l → c ≡ false → PartOf m 0 0 r → PartPromise m rom a l 13 r
      unfolding where_is
      part_beyond c s e d h = placed 13 (refused 13) refl (let g = not-false (eqb x 0) t in cc) h

      pub part_below : leb RomStart a ≡ false → PartOf m 0 0 r → PartPromise m rom a l 13 r
      unfolding where_is
      part_below s h = placed 13 (refused 13) refl (let g = not-false (eqb x 0) t in cc) h

-- ---- any two answers that the promise allows are equal: the number, where the part points, and what it shows
same_part : (s r t : Bor (List ℕ)) (a l : ℕ) → PartOf s a l r → PartOf s a l t → SamePart r t
same_part s r t a l h k = record { block = h.block ∙ sym k.block; offset = h.offset ∙ sym k.offset; bytes = h.bytes ∙ sym k.bytes }

placed_unique : (w : Where) (m rom r t : Bor (List ℕ)) (l : ℕ) → Placed w m rom l r → Placed w m rom l t → SamePart r t
placed_unique (in_memory a) m rom r t l h k = same_part m r t a l h k
placed_unique (in_rom a) m rom r t l h k = same_part rom r t a l h k
placed_unique (refused n) m rom r t l h k = same_part m r t 0 0 h k

pub part_unique : (m rom r t : Bor (List ℕ)) (a l x y : ℕ) → PartPromise m rom a l x r → PartPromise m rom a l y t → (x ≡ y) × SamePart r t
part_unique m rom r t a l x y h k =
    (h.number_is ∙ sym k.number_is, placed_unique (where_is m.now rom.now a l) m rom r t l h.part_is k.part_is)

-- ---- the number is given exactly when the table says
module _ (m rom : List ℕ) (a l : ℕ) where
  abbrev fits : Bool
  fits = lies (length m) a l || (leb RomStart a && lies (length rom) (a - RomStart) l)

  number_by : (x y z w : Bool)
      → number_of (pick (eqb (pick (not x) 1 (pick (not y) 12 0)) 0) (pick z (in_memory a) (pick w (in_rom (a - RomStart)) (refused 13))) (refused (pick (not x) 1 (pick (not y) 12 0))))
      ≡ pick (not x) 1 (pick (not y) 12 (pick (not (z || w)) 13 0))
  number_by false y z w = refl
  number_by true false z w = refl
  number_by true true true w = refl
  number_by true true false true = refl
  number_by true true false false = refl

  number_is : number_of (where_is m rom a l) ≡ pick (not (memory_fits m)) 1 (pick (not (rom_fits rom m)) 12 (pick (not fits) 13 0))
  unfolding where_is reset_number
  number_is = number_by (memory_fits m) (rom_fits rom m) (lies (length m) a l) (leb RomStart a && lies (length rom) (a - RomStart) l)

  -- what the test of the last line says
  neither : fits ≡ false → (Fits 0 (length m) a l → ⊥) × (Fits RomStart (length rom) a l → ⊥)
  neither e = (
    λ f. clash (lies (length m) a l) (leb RomStart a && lies (length rom) (a - RomStart) l) e (λ h k. h (le-leb (a + l) (length m) (omega (arith, f.to)))),
    λ f. clash (lies (length m) a l) (leb RomStart a && lies (length rom) (a - RomStart) l) e
        (λ h k. k (and_both (leb RomStart a) (lies (length rom) (a - RomStart) l) (le-leb RomStart a f.from)
        (le-leb (a - RomStart + l) (length rom) (omega (arith, f.from, f.to))))),
  )
    where
      clash : (x y : Bool) → (x || y) ≡ false → ((x ≡ true → ⊥) → (y ≡ true → ⊥) → ⊥) → ⊥
      clash true y e h = let z : ◌≡◌ {A = ℕ} 0 1 = cc in absurd (omega (arith, z))
      clash false true e h = let z : ◌≡◌ {A = ℕ} 0 1 = cc in absurd (omega (arith, z))
      clash false false e h = h (λ q. let z : ◌≡◌ {A = ℕ} 0 1 = cc in omega (arith, z)) (λ q. let z : ◌≡◌ {A = ℕ} 0 1 = cc in omega (arith, z))

  one_of_them : fits ≡ true → (Fits 0 (length m) a l → ⊥) × (Fits RomStart (length rom) a l → ⊥) → ⊥
  one_of_them e h = go (lies (length m) a l) refl (leb RomStart a && lies (length rom) (a - RomStart) l) refl e
    where
      go : (x : Bool) → lies (length m) a l ≡ x → (y : Bool) → (leb RomStart a && lies (length rom) (a - RomStart) l) ≡ y → (x || y) ≡ true → ⊥
      go true p y q e = h.0 (record { from = omega arith; to = omega (arith, leb-true (a + l) (length m) p) })
      go false p true q e =
          let f = leb-true RomStart a (and_left (leb RomStart a) (lies (length rom) (a - RomStart) l) q) in
          let t = leb-true (a - RomStart + l) (length rom) (and_right (leb RomStart a) (lies (length rom) (a - RomStart) l) q) in
          h.1 (record { from = f; to = omega (arith, f, t) })
      go false p false q e = let z : ◌≡◌ {A = ℕ} 0 1 = cc in omega (arith, z)

  pub part_verdict : Verdict (part_table m rom a l) (number_of (where_is m rom a l))
  part_verdict =
      verdict (part_table m rom a l) (number_of (where_is m rom a l)) (omega arith)
      (rw number_is (memory_given (rom_given (given_pick (not fits) 13 _ (λ e. neither (not-true fits e)) (λ e. one_of_them (not-false fits e)) zero_at_end) rom m) m))
