-- FormedLaws.antt - refusal 8 of undo, by what a well-formed record is: Formed of undo, with no word of how one is read.
-- * undo_gives_8: the number is 8 if and only if no other line of undo's table applies and no record is Formed.
-- * undo_done_when_formed: if no other line applies and a record is Formed, its old values are put back, and the mark is its start.
-- * undo_gives_0: the number is 0 if and only if no other line applies and a record is Formed.
-- Source: [01 Calls and what they give back], [01 The journal], [K7].
use Prim.Native.Nat.{ℕ, ◌^◌, ◌≤◌}
use mathlib.Core.Path.{◌≡◌, refl, ◌∙◌}
use mathlib.Core.Logic.{◌↔◌}
use mathlib.Core.Bool.{Bool, true, false}
use mathlib.Core.List.{List, [], ◌∷◌}
use native.Mathlib.Omega.{arith}
use lib.ListN.{length}
use Rattle.bus.specs.Bus.{Board}
use Rattle.numbers.specs.Number.{back}
use Rattle.record.specs.Limits.{ValidBytes}
use Rattle.record.specs.Change.{Change, restore}
use Rattle.undo.specs.Undo.{Record, found, none, well_formed, undo_of}
use Rattle.undo.specs.Formed.{Formed}
use Rattle.std.specs.Prelude.{Some}
use Rattle.undo.proofs.ReadLaws.{length_back}
use Rattle.undo.proofs.UndoLaws.{undo_when_found}
use Rattle.undo.proofs.FormedLaws.{formed_when_found, found_when_formed, start_of_formed, none_when_unformed}
use Rattle.calls.specs.Calls.{memory_fits, rom_fits, state_fits, window_fits, undo_number, undo_call}
use Rattle.calls.specs.Refusals.{Line, this, later, NoneApplies, BadMemory, BadRom, BadState, BadWindow, first_lines, mark_line}
use Rattle.calls.proofs.ValidLaws.{fits_inv}
use Rattle.calls.proofs.RefusalLaws.{not_this, from_later, bad_memory_when, bad_rom_when, bad_state_when, bad_window_when, undo_verdict, undo_accepted, undo_number_when}

-- the lines of undo's table before the last: 1, 12, 2, 10, 4 and 7
abbrev pub undo_table_before_8 : Board → List ℕ → List ℕ → List ℕ → ℕ → List Line
undo_table_before_8 board s m j mark = first_lines board s m (mark_line j mark ∷ record { number = 7; applies = mark ≡ 0 } ∷ [])

-- a record is Formed at the mark, whatever its start and its changes
abbrev pub SomeFormed : List ℕ → List ℕ → List ℕ → ℕ → Type 0
SomeFormed s m j mark = (start : ℕ) × (ss : List Change) × (bs : List Change) × Formed s m j mark start ss bs

-- a test holds where what it finds does not apply
holds_when : (P : Type 0) (t : Bool) → (t ≡ false → P) → (P → ⊥) → t ≡ true
holds_when P true f h = refl
holds_when P false f h = absurd (h (f refl))

module _ (board : Board) (s m j : List ℕ) (mark : ℕ) where
  module _ (others : NoneApplies (undo_table_before_8 board s m j mark)) where
    fits : memory_fits m ≡ true
    fits = holds_when (BadMemory m) (memory_fits m) (bad_memory_when m) others.0

    memory_size : length m ≤ 2 ^ 32
    memory_size = omega (arith, (fits_inv m fits).2)

    tests_pass : undo_number board s m j mark ≡ 0
    tests_pass =
        let o₂ = others.1 in
        let o₃ = o₂.1 in
        let o₄ = o₃.1 in
        let o₅ = o₄.1 in
        let beside = holds_when (BadRom board.rom m) (rom_fits board.rom m) (bad_rom_when board.rom m) o₂.0 in
        let state = holds_when (BadState s) (state_fits s) (bad_state_when s) o₃.0 in
        let inside = holds_when (BadWindow board m) (window_fits board m) (bad_window_when board m) o₄.0 in
        undo_number_when board s m j mark fits state (beside, inside) (omega (arith, o₅.0)) o₅.1.0

    -- ---- a record that is Formed is undone
    pub undo_done_when_formed : (start : ℕ) (ss bs : List Change) → Formed s m j mark start ss bs
        → undo_call board s m j mark ≡ record { s = restore ss s; m = restore bs m; a = record { number = 0; mark = start } }
    undo_done_when_formed start ss bs f =
        let at = start_of_formed s m j mark start ss bs f in
        let place : length (back j start) ≡ start = length_back j start (omega (arith, at, f.in_journal)) in
        let undone : undo_of s m j mark ≡ record { slots = restore ss s; memory = restore bs m; answer = Some start } =
        undo_when_found s m j mark ss bs (back j start) (found_when_formed s m j mark start ss bs f memory_size) ∙ rw place in
        undo_accepted board s m j mark start (restore ss s) (restore bs m) tests_pass undone

    zero_when_formed : SomeFormed s m j mark → (undo_call board s m j mark).a.number ≡ 0
    zero_when_formed w = rw (undo_done_when_formed w.0 w.1 w.2 w.3)

  -- ---- 8 and 0, over a journal of bytes
  others_when_8 : (undo_call board s m j mark).a.number ≡ 8 → NoneApplies (undo_table_before_8 board s m j mark)
  others_when_8 e =
      let g₁ = ((undo_verdict board s m j mark).exactly 8).0 e in
      let g₂ = from_later (λ q. omega arith) g₁ in
      let g₃ = from_later (λ q. omega arith) g₂ in
      let g₄ = from_later (λ q. omega arith) g₃ in
      let g₅ = from_later (λ q. omega arith) g₄ in
      let g₇ = from_later (λ q. omega arith) g₅ in (
        not_this (λ q. omega arith) g₁,
        (
          not_this (λ q. omega arith) g₂,
          (
            not_this (λ q. omega arith) g₃,
            (not_this (λ q. omega arith) g₄, (not_this (λ q. omega arith) g₅, (not_this (λ q. omega arith) g₇, tt))),
          ),
        ),
      )

  pub undo_gives_8 : ValidBytes j
      → (((undo_call board s m j mark).a.number ≡ 8) ↔ (NoneApplies (undo_table_before_8 board s m j mark) × (SomeFormed s m j mark → ⊥)))
  undo_gives_8 b = (
    λ e. (others_when_8 e, λ w. omega (arith, e, zero_when_formed (others_when_8 e) w)),
    λ h. ((undo_verdict board s m j mark).exactly 8).1
        (later h.0.0 (later h.0.1.0 (later h.0.1.1.0 (later h.0.1.1.1.0 (later h.0.1.1.1.1.0 (later h.0.1.1.1.1.1.0
        (this (none_when_unformed s m j mark b (λ k ss bs f. h.1 (k, ss, bs, f))) refl))))))),
  )

  some_when_found : ValidBytes j → (well_formed s m j mark ≡ none → ⊥) → SomeFormed s m j mark
  some_when_found b h = go (well_formed s m j mark) refl
    where
      go : (w : Record) → well_formed s m j mark ≡ w → SomeFormed s m j mark
      go none q = absurd (h q)
      go (found ss bs r) q = (length r, ss, bs, formed_when_found s m j mark b ss bs r q)

  pub undo_gives_0 : ValidBytes j
      → (((undo_call board s m j mark).a.number ≡ 0) ↔ (NoneApplies (undo_table_before_8 board s m j mark) × SomeFormed s m j mark))
  undo_gives_0 b = (
    λ e. let h = (undo_verdict board s m j mark).done.0 e in
        ((h.0, (h.1.0, (h.1.1.0, (h.1.1.1.0, (h.1.1.1.1.0, (h.1.1.1.1.1.0, tt)))))), some_when_found b h.1.1.1.1.1.1.0),
    λ h. zero_when_formed h.0 h.1,
  )
