-- FlowLaws.antt - what is read on the way to a jump's target keeps SR; and a failed flow stays as it is.
-- next_word_keeps_sr, displacement-.., locate-.., pull-..; leads_keeps_sr: of all nine; room_when_failed.
-- Uses: bits, bus, operand, control.
use Prim.Native.Nat.{ℕ, zero, suc, ◌+◌, ◌%◌, ◌/◌}
use mathlib.Core.Path.{◌≡◌, refl, sym, ap, ◌∙◌}
use mathlib.Core.Bool.{false}
use mathlib.Core.List.{List, [], ◌∷◌}
use lib.ListN.{get_or}
use lib.Dec.{eqb, leb}
use Rattle.codes.specs.Codes.{Word, Long, A0, Postincrement, StackPointer}
use Rattle.bits.specs.Bits.{plus, by_size}
use Rattle.bits.proofs.BitsLaws.{pick_cases}
use Rattle.bus.specs.declared.Flow.{Flow}
use Rattle.bus.specs.declared.Fetched.{Fetched}
use Rattle.bus.specs.Bus.{View, for_writing, pins, read_word, read_long, read_sized, room, next_word, next_long}
use Rattle.bus.proofs.BusLaws.{byte_when_failed, word_when_failed}
use Rattle.operand.specs.declared.Operand.{Operand}
use Rattle.operand.specs.Operands.{in_register, indirect, postincrement, predecrement, displaced, indexed, absolute_word, absolute_long, pc_displaced, pc_indexed}
use Rattle.operand.specs.Operands.{immediate, special, locate, load, source}
use Rattle.control.specs.Control.{displacement}
use Rattle.odd_jumps.specs.OddJumps.{Nine, bcc, bra, bsr, dbcc, jmp, jsr, rts, rtr, rte, leads}

-- what holds of each entry and past the end holds of what a table gives
abbrev Every : {A : Type 0} (P : A → Type 0) → List A → Type 0
Every P [] = Unit {0}
Every P (x ∷ xs) = P x × Every P xs

of_entry : {A : Type 0} (P : A → Type 0) (xs : List A) (d : A) (i : ℕ) → Every P xs → P d → P (get_or xs i d)
of_entry P [] d i e h = h
of_entry P (x ∷ xs) d zero e h = e.0
of_entry P (x ∷ xs) d (suc i) e h = of_entry P xs d i e.1 h

-- a flow, what was read and an operand, with the SR of f
module _ (v : View) where
  word_keeps_sr : (a k : ℕ) (f : Flow) → (read_word v a k f).flow.sr ≡ f.sr
  unfolding read_word
  word_keeps_sr a k f =
      let Keeps : Fetched → Type 0 = λ w. w.flow.sr ≡ f.sr in
      pick_cases Keeps (eqb f.bad 0) (pick_cases Keeps (eqb (pins a % 2) 1) refl (pick_cases Keeps (v.word_ok (pins a)) refl refl)) refl

  long_keeps_sr : (a k : ℕ) (f : Flow) → (read_long v a k f).flow.sr ≡ f.sr
  unfolding read_long
  long_keeps_sr a k f = word_keeps_sr (plus a 2) k (read_word v a k f).flow ∙ word_keeps_sr a k f

  pub next_word_keeps_sr : (f : Flow) → (next_word v f).flow.sr ≡ f.sr
  unfolding next_word
  next_word_keeps_sr f = word_keeps_sr f.pc 18 f

  next_long_keeps_sr : (f : Flow) → (next_long v f).flow.sr ≡ f.sr
  unfolding next_long
  next_long_keeps_sr f = next_word_keeps_sr (next_word v f).flow ∙ next_word_keeps_sr f

  displacement_keeps_sr : (op : ℕ) (f : Flow) → (displacement v op f).flow.sr ≡ f.sr
  unfolding displacement
  displacement_keeps_sr op f = pick_cases (λ (w : Fetched). w.flow.sr ≡ f.sr) (eqb (op % 256) 0) (next_word_keeps_sr f) refl

  module _ (r : List ℕ) (n z : ℕ) (f : Flow) where
    abbrev Keeps : Operand → Type 0
    Keeps q = q.flow.sr ≡ f.sr

    immediate_keeps_sr : Keeps (immediate v z f)
    unfolding immediate
    immediate_keeps_sr = pick_cases Keeps (leb Long z) (next_long_keeps_sr f) (next_word_keeps_sr f)

    special_keeps_sr : Keeps (special r v n z f)
    unfolding special absolute_word absolute_long pc_displaced pc_indexed
    special_keeps_sr =
        of_entry Keeps (absolute_word v f ∷ absolute_long v f ∷ pc_displaced v f ∷ pc_indexed r v f ∷ []) (immediate v z f) n
        (next_word_keeps_sr f, (next_long_keeps_sr f, (next_word_keeps_sr f, (next_word_keeps_sr f, tt)))) immediate_keeps_sr

    locate_keeps_sr : (mode : ℕ) → Keeps (locate r v mode n z f)
    unfolding locate indirect postincrement predecrement displaced indexed
    locate_keeps_sr mode =
        of_entry Keeps
        (in_register n f ∷ in_register (A0 + n % 8) f ∷ indirect r n f ∷ postincrement r n z f ∷ predecrement r n z f ∷ displaced r v n f ∷ indexed r v n f ∷ [])
        (special r v n z f)
        mode
        (refl, (refl, (refl, (refl, (refl, (next_word_keeps_sr f, (next_word_keeps_sr f, tt))))))) special_keeps_sr

  -- (SP)+
  pull_word_keeps_sr : (r : List ℕ) (f : Flow) → (source r v Postincrement StackPointer Word f).w.flow.sr ≡ f.sr
  unfolding source locate load postincrement read_sized by_size
  pull_word_keeps_sr r f = word_keeps_sr _ _ f

  pull_long_keeps_sr : (r : List ℕ) (f : Flow) → (source r v Postincrement StackPointer Long f).w.flow.sr ≡ f.sr
  unfolding source locate load postincrement read_sized by_size
  pull_long_keeps_sr r f = long_keeps_sr _ _ f

  pull_second_keeps_sr : (r : List ℕ) (f : Flow) → (leads rte r v 0 f).flow.sr ≡ f.sr
  pull_second_keeps_sr r f =
      let c = source r v Postincrement StackPointer Word f in pull_long_keeps_sr c.r c.w.flow ∙ pull_word_keeps_sr r f

  pub leads_keeps_sr : (j : Nine) (r : List ℕ) (op : ℕ) (f : Flow) → (leads j r v op f).flow.sr ≡ f.sr
  leads_keeps_sr bcc r op f = displacement_keeps_sr op f
  leads_keeps_sr bra r op f = displacement_keeps_sr op f
  leads_keeps_sr bsr r op f = displacement_keeps_sr op f
  leads_keeps_sr dbcc r op f = next_word_keeps_sr f
  leads_keeps_sr jmp r op f = locate_keeps_sr r (op % 8) Long f (op / 8 % 8)
  leads_keeps_sr jsr r op f = locate_keeps_sr r (op % 8) Long f (op / 8 % 8)
  leads_keeps_sr rts r op f = pull_long_keeps_sr r f
  leads_keeps_sr rtr r op f = pull_second_keeps_sr r f
  leads_keeps_sr rte r op f = pull_second_keeps_sr r f

  -- after a fault no room is asked for
  pub room_when_failed : (a z : ℕ) (f : Flow) → eqb f.bad 0 ≡ false → room v a z f ≡ f
  unfolding room read_sized by_size read_long
  room_when_failed a z f h =
      let u = for_writing v in
      let word : (b : ℕ) → (read_word u b 1 f).flow ≡ f = λ b. ap (λ (w : Fetched). w.flow) (sym (word_when_failed u b 1 f h)) in
      pick_cases (λ (w : Fetched). w.flow ≡ f) (eqb z 0) (ap (λ (w : Fetched). w.flow) (sym (byte_when_failed u a 1 f h)))
      (pick_cases (λ (w : Fetched). w.flow ≡ f) (eqb z 1) (word a) (ap (λ (g : Flow). (read_word u (plus a 2) 1 g).flow) (word a) ∙ word (plus a 2)))
