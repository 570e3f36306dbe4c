-- Answers.antt - undo: the record that was read, the two tests, and the values put back; a law for each return.
use Rattle.std.proofs.Common.{◌≡◌, ℕ, Bool, List, refl, sym, ap, ◌∙◌, arith, rules}
use Rattle.std.specs.Prelude.{map}
use Rattle.std.proofs.lemmas.List.{map-id}
use Rattle.record.specs.Change.{Change, restore, changes}
use Rattle.undo.specs.Undo.{differs}
use Rattle.undo.proofs.JudgeLaws.{shaped_valid, olds_of_valid, undo_mark, undo_none, undo_slots, undo_bytes, undo_done}
use Rattle.undo.proofs.undo.Goals.{then-not-differ-via-then-not-differ, then-not-differ-via-else-not-differ+then-not-differ-2}
use Rattle.undo.proofs.undo.Goals as goal

pub returns-then-journal-mark : goal.returns-then-journal-mark
returns-then-journal-mark c = undo_mark _ _ _ _ c.if-journal-mark.true

pub returns-in_err-last : goal.returns-in_err-last
returns-in_err-last c = rw c.from_residual.ensures (undo_none _ _ _ _ c.if-journal-mark.false c.in_err-last.ensures)

-- a test of what is its own number
own : (m : List ℕ) (cs : List Change) (b : Bool) → b ≡ differs (map (λ (x : ℕ). x) m) cs → differs m cs ≡ b
own m cs b e = ap (λ (l : List ℕ). differs l cs) (sym (map-id m)) ∙ sym e

pub returns-then-not-differ : goal.returns-then-not-differ
returns-then-not-differ c =
    let t = c.in_ok-last.ensures in
    let inside = c.if-journal-mark.false in
    let in_slots = own c.args.slots.now (changes c.shaped_record.new.slots c.in_ok-last.last.slots) in
    let in_memory = own c.args.memory.now (changes c.shaped_record.new.bytes c.in_ok-last.last.bytes) in
    elim c.then-not-differ.branch [
      | then-not-differ-via-then-not-differ w ↦ undo_slots _ _ _ _ inside _ _ _ t.0 (in_slots _ (w.if-not-differ.ensures (λ (x : ℕ). x) (λ x y q. q)))
      | then-not-differ-via-else-not-differ+then-not-differ-2 w ↦
          undo_bytes _ _ _ _ inside _ _ _ t.0 (in_slots _ (w.if-not-differ.ensures (λ (x : ℕ). x) (λ x y q. q)))
          (in_memory _ (w.if-not-differ-2.ensures (λ (x : ℕ). x) (λ x y q. q)))
    ]

pub restore_bytes-requires : goal.restore_bytes-requires
restore_bytes-requires c =
    let t = c.in_ok-last.ensures in
    let valid = shaped_valid _ _ _ _ _ t.0 in
    (omega (arith, t.3, c.shaped_record.auto.bytes), t.5, olds_of_valid (changes c.shaped_record.new.bytes c.in_ok-last.last.bytes) valid.2)

pub returns : goal.returns
returns c =
    let t = c.in_ok-last.ensures in
    let inside = c.if-journal-mark.false in
    let of_slots = changes c.shaped_record.new.slots c.in_ok-last.last.slots in
    let of_bytes = changes c.shaped_record.new.bytes c.in_ok-last.last.bytes in
    let put = c.restore.ensures (λ (x : ℕ). x) (λ i x low q. search rules) in
    let slots = sym (map-id c.restore.new.held) ∙ put ∙ ap (restore of_slots) (map-id c.args.slots.now) in
    rw (slots, c.restore_bytes.ensures)
    (undo_done _ _ _ _ inside _ _ _ t.0 c.in_ok-last.last.start (omega (arith, t.1)) refl
    (own c.args.slots.now of_slots _ (c.if-not-differ.ensures (λ (x : ℕ). x) (λ x y q. q)))
    (own c.args.memory.now of_bytes _ (c.if-not-differ-2.ensures (λ (x : ℕ). x) (λ x y q. q))))
