-- TwoLaws.antt - a record of form 2: what is put reads back, and what reads is what was put; so both forms hold the same.
-- * two_reads, two_puts: of every well-shaped record.   * two_some: it is not empty.
-- Speaks of: record_two and shaped_two of specs/Two.antt, Good of oldest.  Assumes nothing.  Source: [K8].
use Prim.Native.Nat.{ℕ, suc, ◌≤◌}
use mathlib.Core.Path.{◌≡◌, refl, sym, ap, ◌∙◌}
use mathlib.Core.Bool.{true}
use mathlib.Core.List.{List, [], ◌∷◌, ◌++◌, append_assoc, append-nil, reverse, reverse-append}
use native.Mathlib.Omega.{arith}
use lib.ListN.{length, length-append}
use lib.Dec.{leb}
use borrow.Author.Tests.{lt-ltb, leb-true}
use Rattle.codes.specs.Codes.{Addresses}
use Rattle.numbers.specs.Number.{Got, got, bad, number_bytes, read_number}
use Rattle.numbers.proofs.NumberLaws.{bytes_rest, read_of_number_bytes, bytes_of_read_number, number_bytes_some}
use Rattle.record.specs.Limits.{slot_limit, byte_limit, valid_value, valid_byte}
use Rattle.record.specs.Change.{Change, ByteOlds, changes_bytes}
use Rattle.undo.specs.Undo.{parsed, Record, found, none, with_bytes, all_valid}
use Rattle.undo.proofs.JudgeLaws.{none_found, olds_of_valid}
use Rattle.undo.proofs.ShapeLaws.{if_inv, bytes_inv, sorted, bytes_of_read_changes}
use Rattle.undo.proofs.UndoLaws.{read_all}
use Rattle.oldest.specs.Room.{Row}
use Rattle.oldest.proofs.RowLaws.{Puts, Reads, small_of_olds}
use Rattle.runs.specs.Runs.{Stretch, runs, runs_bytes, read_runs}
use Rattle.runs.specs.Two.{record_two, two_slot_count, two_run_count, read_two, if_slots_valid, shaped_two}
use Rattle.runs.proofs.RunLaws.{flat, total, flat_of_runs, spaced_of_runs, runs_of_flat}
use Rattle.runs.proofs.RunLaws.{bytes_of_runs, olds_of_flat, ascending_of_flat, total_of_flat, runs_few}
use Rattle.runs.proofs.ReadRunLaws.{runs_all, runs_of_read}
use Rattle.runs.proofs.StepLaws.{two_shaped}

-- a record's bytes in form 2
abbrev pub two_bytes : Row → List ℕ
two_bytes r = record_two r.slots r.bytes

pub two_some : (ss bs : List Change) → 1 ≤ length (record_two ss bs)
unfolding record_two
two_some ss bs =
    omega (
      arith,
      number_bytes_some (length (runs bs)),
      length-append (changes_bytes ss ++ runs_bytes (runs bs) ++ number_bytes (length ss)) (number_bytes (length (runs bs))),
    )

-- the four parts, from the end
two_reversed : (ss bs : List Change) (s : List ℕ)
    → reverse (record_two ss bs) ++ s
    ≡ reverse (number_bytes (length (runs bs))) ++ (reverse (number_bytes (length ss))
    ++ (reverse (runs_bytes (runs bs)) ++ (reverse (changes_bytes ss) ++ s)))
unfolding record_two
two_reversed ss bs s = simp (reverse-append, append_assoc)

-- ---- what is put reads back
valid_of_olds : (cs : List Change) → ByteOlds cs → all_valid valid_byte cs ≡ true
valid_of_olds [] b = refl
valid_of_olds (c ∷ cs) b = rw (lt-ltb c.old 256 b.0, valid_of_olds cs b.1)

pub total_of_runs : (bs : List Change) → length bs ≡ total (runs bs)
total_of_runs bs = ap length (sym (flat_of_runs bs)) ∙ total_of_flat (runs bs)

pub two_reads : Reads shaped_two two_bytes Addresses
two_reads r s g =
    let ss = r.slots in
    let bs = r.bytes in
    let rs = runs bs in
    let sp = spaced_of_runs 0 Addresses bs g.bytes_ascend in
    let few : total rs ≤ byte_limit = omega (arith, g.few_bytes, total_of_runs bs) in
    let n : length rs ≤ byte_limit = omega (arith, runs_few 0 (suc Addresses) rs sp) in
    let z₃ = reverse (changes_bytes ss) ++ s in
    let z₂ = reverse (runs_bytes rs) ++ z₃ in
    let z₁ = reverse (number_bytes (length ss)) ++ z₂ in
    let z = reverse (number_bytes (length rs)) ++ z₁ in
    let there : read_runs (length rs) (suc Addresses) byte_limit z₂ [] ≡ parsed bs z₃ =
    runs_all rs (suc Addresses) byte_limit z₃ sp (bytes_of_runs bs (olds_of_valid bs g.bytes_valid)) few (omega arith)
    ∙ ap (λ (l : List Change). parsed l z₃) (flat_of_runs bs) in (
      ap shaped_two (two_reversed ss bs s)
          ∙ two_shaped z (length rs) z₁ (read_of_number_bytes (length rs) z₁ (omega arith)) n
          (length ss) z₂ (read_of_number_bytes (length ss) z₂ (omega (arith, g.few_slots))) g.few_slots
          bs z₃ there ss s (read_all ss slot_limit s g.slots_ascend g.slots_small (omega arith)) g.slots_valid,
      two_some ss bs,
    )

-- ---- what reads was put
abbrev Counted : ℕ → Got → (ℕ → List ℕ → Record) → List Change → List Change → List ℕ → Type 0
Counted limit g f ss bs r = (n : ℕ) × (s : List ℕ) × (g ≡ got n s) × (n ≤ limit) × (f n s ≡ found ss bs r)

slot_count_inv : (nr : ℕ) (g : Got) (ss bs : List Change) (r : List ℕ) → two_slot_count nr g ≡ found ss bs r
    → Counted slot_limit g (λ n s. with_bytes n (read_runs nr (suc Addresses) byte_limit s [])) ss bs r
slot_count_inv nr bad ss bs r e = none_found ss bs r e
slot_count_inv nr (got n s) ss bs r e =
    let w = if_inv (leb n slot_limit) (with_bytes n (read_runs nr (suc Addresses) byte_limit s [])) ss bs r e in
    (n, s, refl, leb-true n slot_limit w.1, w.0)

run_count_inv : (g : Got) (ss bs : List Change) (r : List ℕ) → two_run_count g ≡ found ss bs r
    → Counted byte_limit g (λ n s. two_slot_count n (read_number s)) ss bs r
run_count_inv bad ss bs r e = none_found ss bs r e
run_count_inv (got n s) ss bs r e =
    let w = if_inv (leb n byte_limit) (two_slot_count n (read_number s)) ss bs r e in
    (n, s, refl, leb-true n byte_limit w.1, w.0)

slots_valid_inv : (w : Record) (ss bs : List Change) (r : List ℕ) → if_slots_valid w ≡ found ss bs r
    → (w ≡ found ss bs r) × (all_valid valid_value ss ≡ true)
slots_valid_inv none ss bs r e = none_found ss bs r e
slots_valid_inv (found cs ds t) ss bs r e =
    let w = if_inv (all_valid valid_value cs) (found cs ds t) ss bs r e in
    let same : found cs ds t ≡ found ss bs r = w.0 in
    let slots : cs ≡ ss = cc in
    (same, rw (← slots) w.1)

two_whole : (ss bs : List Change) (s s₁ s₂ s₃ r : List ℕ) → s ≡ reverse (number_bytes (length (runs bs))) ++ s₁
    → s₁ ≡ reverse (number_bytes (length ss)) ++ s₂
    → s₂ ≡ reverse (runs_bytes (runs bs)) ++ s₃ → s₃ ≡ reverse (changes_bytes ss) ++ r → s ≡ reverse (record_two ss bs) ++ r
two_whole ss bs s s₁ s₂ s₃ r e₁ e₂ e₃ e₄ =
    e₁
    ∙ ap (λ (l : List ℕ). reverse (number_bytes (length (runs bs))) ++ l) (e₂
    ∙ ap (λ (l : List ℕ). reverse (number_bytes (length ss)) ++ l) (e₃ ∙ ap (λ (l : List ℕ). reverse (runs_bytes (runs bs)) ++ l) e₄))
    ∙ sym (two_reversed ss bs r)

pub two_puts : Puts shaped_two two_bytes Addresses
unfolding shaped_two read_two
two_puts s ss bs r e h =
    let x = slots_valid_inv (read_two s) ss bs r e in
    let w₁ = run_count_inv (read_number s) ss bs r x.0 in
    let e₁ = bytes_of_read_number s w₁.0 w₁.1 w₁.2 h in
    let h₁ = bytes_rest s (reverse (number_bytes w₁.0)) w₁.1 e₁ h in
    let w₂ = slot_count_inv w₁.0 (read_number w₁.1) ss bs r w₁.4 in
    let e₂ = bytes_of_read_number w₁.1 w₂.0 w₂.1 w₂.2 h₁ in
    let h₂ = bytes_rest w₁.1 (reverse (number_bytes w₂.0)) w₂.1 e₂ h₁ in
    let w₃ = bytes_inv w₂.0 (read_runs w₁.0 (suc Addresses) byte_limit w₂.1 []) ss bs r w₂.4 in
    let u = runs_of_read w₁.0 (suc Addresses) byte_limit w₂.1 [] bs w₃.0 w₃.1 h₂ in
    let flats : bs ≡ flat u.stretches = u.list ∙ append-nil (flat u.stretches) in
    let same : runs bs ≡ u.stretches = ap runs flats ∙ runs_of_flat 0 (suc Addresses) u.stretches u.spaced in
    let h₃ = bytes_rest w₂.1 (reverse (runs_bytes u.stretches)) w₃.0 u.text h₂ in
    let e₄ = bytes_of_read_changes w₂.0 slot_limit w₃.0 ss r w₃.2 h₃ in
    let o₄ = sorted w₂.0 slot_limit slot_limit w₃.0 [] ss r w₃.2 h₃ (omega arith) tt tt in
    let count : w₁.0 ≡ length (runs bs) = sym u.count ∙ ap length (sym same) in
    let olds : ByteOlds bs = rw flats (olds_of_flat u.stretches u.bytes) in (
      two_whole ss bs s w₁.1 w₂.1 w₃.0 r
          (e₁ ∙ ap (λ (k : ℕ). reverse (number_bytes k) ++ w₁.1) count)
          (e₂ ∙ ap (λ (k : ℕ). reverse (number_bytes k) ++ w₂.1) (sym e₄.1))
          (u.text ∙ ap (λ (l : List Stretch). reverse (runs_bytes l) ++ w₃.0) (sym same))
          e₄.0,
      record {
        few_slots = omega (arith, e₄.1, w₂.3);
        few_bytes = omega (arith, ap length flats, total_of_flat u.stretches, u.few);
        slots_ascend = o₄.0;
        bytes_ascend = rw flats (ascending_of_flat 0 Addresses u.stretches u.spaced);
        slots_small = o₄.1;
        bytes_small = small_of_olds bs olds;
        slots_valid = x.1;
        bytes_valid = valid_of_olds bs olds;
      },
    )
