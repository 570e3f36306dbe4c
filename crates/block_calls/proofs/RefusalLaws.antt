-- RefusalLaws.antt - demand 1 of the calls from C: 9 before the numbers of 01's tables, exactly; a refused call alters nothing.
-- * ibz_reset_verdict, ibz_step_verdict, ibz_run_verdict, ibz_undo_verdict: the number is n if and only if n is that of the first line of the
--   call's table that applies (exactly); it is 9 if and only if the block is not 80 bytes long (nine); it is 0 if and only if no line applies
--   (done).
-- * ibz_step_refused, ibz_run_refused, ibz_undo_refused: a call whose number is not 0, 9 or another, gives back block, memory, journal and mark
--   as given, byte for byte, and 0 for the rest.
-- * ibz_reset_refused: a reset refused by 1 or 12 leaves the block of the fixed state; ibz_reset_at_nine: one refused by 9 leaves the block.
-- Source: [K1], [K5], [K7], [01 Calls and what they give back].
use Prim.Native.Nat.{ℕ}
use mathlib.Core.Path.{◌≡◌, refl, sym, ap, subst, ◌∙◌}
use mathlib.Core.Logic.{◌↔◌}
use mathlib.Core.Bool.{Bool, true, false, ◌&&◌, not}
use mathlib.Core.List.{List, [], ◌∷◌}
use native.Mathlib.Omega.{arith}
use lib.ListN.{length}
use lib.Dec.{eqb}
use borrow.Author.Tests.{eqb-true, eqb-false, eq-eqb, ne_eqb, not-true}
use Rattle.bits.specs.Bits.{pick}
use Rattle.bits.proofs.BitsLaws.{and_left, and_right}
use Rattle.bus.specs.Bus.{Board}
use Rattle.record.specs.Limits.{ValidBytes}
use Rattle.calls.specs.declared.Manner.{Manner}
use Rattle.calls.specs.declared.Manner.TheVariants.{Dropping, Keeping}
use Rattle.calls.specs.declared.StepAnswer.{StepAnswer}
use Rattle.calls.specs.declared.RunAnswer.{RunAnswer}
use Rattle.calls.specs.declared.UndoAnswer.{UndoAnswer}
use Rattle.calls.specs.Calls.{StepCall, RunCall, UndoCall, refused_slots, reset_number, reset_answer, step_call, run_call, undo_call}
use Rattle.calls.specs.Refusals.{Line, Given, zero_at_end, this, later, NoneApplies, reset_table, step_table, run_table, undo_table}
use Rattle.calls.proofs.RefusalLaws.{Verdict, given_unique, reset_verdict, step_verdict, run_verdict, undo_verdict}
use Rattle.calls.proofs.RefusalLaws.{reset_refused, step_refused, run_refused, undo_refused}
use Rattle.block.specs.Block.{block_length, slots_in, block_of}
use Rattle.block_calls.specs.Calls.{no_block, block_fits, IbzReset, OnBlock, on_block, step_refusal, run_refusal, undo_refusal}
use Rattle.block_calls.specs.Calls.{ibz_reset, ibz_step, ibz_run, ibz_undo}
use Rattle.block_calls.specs.Refusals.{block_line, ibz_reset_table, ibz_step_table, ibz_run_table, ibz_undo_table}
use Rattle.block.proofs.BlockLaws.{block_of_slots_in}

-- ---- what is proved of a call's number c on block b and its table t
pub record IbzVerdict (b : List ℕ) (t : List Line) (c : ℕ) : Type 1 where
  pub exactly : (n : ℕ) → ((c ≡ n) ↔ Given t n)
  pub nine : (c ≡ no_block) ↔ (length b ≡ block_length → ⊥)
  pub done : (c ≡ 0) ↔ NoneApplies t

-- no number of a table is 9
abbrev without_nine : List Line → Bool
without_nine [] = true
without_nine (l ∷ ls) = not (eqb l.number no_block) && without_nine ls

given_not_nine : (t : List Line) (n : ℕ) → without_nine t ≡ true → Given t n → n ≡ no_block → ⊥
given_not_nine t n h zero_at_end q = omega arith
given_not_nine t n h (this {l = l} {ls = ls} a e) q =
    eqb-false l.number no_block (not-true (eqb l.number no_block) (and_left (not (eqb l.number no_block)) (without_nine ls) h)) (sym e ∙ q)
given_not_nine t n h (later {l = l} {ls = ls} a e) q =
    given_not_nine ls n (and_right (not (eqb l.number no_block)) (without_nine ls) h) e q

-- the number k of the machine's call, by its table, and 9 before it
module _ (b : List ℕ) (t : List Line) (k : ℕ) (v : Verdict t k) (others : without_nine t ≡ true) where
  given : Given t k
  given = (v.exactly k).0 refl

  not_nine : k ≡ no_block → ⊥
  not_nine = given_not_nine t k others given

  abbrev whole : List Line
  whole = block_line b ∷ t

  verdict_held : length b ≡ block_length → IbzVerdict b whole k
  verdict_held e =
      let fits : (length b ≡ block_length → ⊥) → ⊥ = λ h. h e in
      let g : Given whole k = later fits given in
      record {
        exactly = λ n. (λ q. subst (Given whole) q g, λ h. given_unique whole k n g h);
        nine = (λ q. absurd (not_nine q), λ h. absurd (h e));
        done = (λ q. (fits, v.done.0 q), λ h. v.done.1 h.1);
      }

  verdict_nine : (length b ≡ block_length → ⊥) → IbzVerdict b whole no_block
  verdict_nine h =
      let g : Given whole no_block = this h refl in
      record {
        exactly = λ n. (λ q. subst (Given whole) q g, λ i. given_unique whole no_block n g i);
        nine = (λ _. h, λ _. refl);
        done = (λ q. absurd (omega arith), λ i. absurd (i.0 h));
      }

  -- whatever the call gives, if its number is k where the block fits and 9 where it does not
  pub ibz_verdict : {A : Type 0} (number : A → ℕ) (x y : A) → number x ≡ k → number y ≡ no_block
      → IbzVerdict b whole (number (pick (block_fits b) x y))
  ibz_verdict number x y p q = go (block_fits b) refl
    where
      go : (f : Bool) → block_fits b ≡ f → IbzVerdict b whole (number (pick f x y))
      go true e = rw p (verdict_held (eqb-true (length b) block_length e))
      go false e = rw q (verdict_nine (eqb-false (length b) block_length e))

-- ---- a refused call on a block of bytes gives back all that it was lent
module _ {A : Type 0} (number : A → ℕ) (refusal : ℕ → A) (is : (n : ℕ) → number (refusal n) ≡ n) (b m j : List ℕ) (bytes : ValidBytes b) where
  -- the machine's call was refused
  pub record Stayed (s₁ m₁ j₁ : List ℕ) (a : A) : Type 0 where
    pub slots : s₁ ≡ slots_in b
    pub memory : m₁ ≡ m
    pub journal : j₁ ≡ j
    pub answer : a ≡ refusal (number a)

  pub on_block_refused : (s₁ m₁ j₁ : List ℕ) (a : A) → ((number a ≡ 0 → ⊥) → Stayed s₁ m₁ j₁ a)
      → (number (on_block b m j refusal s₁ m₁ j₁ a).a ≡ 0 → ⊥)
      → on_block b m j refusal s₁ m₁ j₁ a ≡ record { b = b; m = m; j = j; a = refusal (number (on_block b m j refusal s₁ m₁ j₁ a).a) }
  on_block_refused s₁ m₁ j₁ a stayed = go (block_fits b) refl
    where
      left : Bool → OnBlock A
      left f = pick f (record { b = block_of s₁; m = m₁; j = j₁; a = a }) (record { b = b; m = m; j = j; a = refusal no_block })

      go : (f : Bool) → block_fits b ≡ f → (number (left f).a ≡ 0 → ⊥) → left f ≡ record { b = b; m = m; j = j; a = refusal (number (left f).a) }
      go false e h = ap {B = OnBlock A} (λ (n : ℕ). record { b = b; m = m; j = j; a = refusal n }) (sym (is no_block))
      go true e h =
          let s = stayed h in
          let same : block_of s₁ ≡ b = ap block_of s.slots ∙ block_of_slots_in b (eqb-true (length b) block_length e) bytes in
          λ i. record { b = same i; m = s.memory i; j = s.journal i; a = s.answer i }

-- ---- reset
module _ (b m rom : List ℕ) where
  pub ibz_reset_verdict : IbzVerdict b (ibz_reset_table b m rom) (ibz_reset b m rom).a.number
  unfolding ibz_reset reset_answer
  ibz_reset_verdict = ibz_verdict b (reset_table m rom) (reset_number m rom) (reset_verdict m rom) refl (λ (c : IbzReset). c.a.number) _ _ refl refl

  pub ibz_reset_at_nine : (length b ≡ block_length → ⊥) → ibz_reset b m rom ≡ record { b = b; a = record { number = no_block; lo = 0; hi = 0 } }
  unfolding ibz_reset
  ibz_reset_at_nine h = rw (ne_eqb (length b) block_length h)

  pub ibz_reset_refused : length b ≡ block_length → (reset_number m rom ≡ 0 → ⊥) → (ibz_reset b m rom).b ≡ block_of refused_slots
  unfolding ibz_reset
  ibz_reset_refused e h = rw (eq-eqb (length b) block_length e) (ap block_of (reset_refused m rom h))

-- ---- step
module _ (w : Manner) (b : List ℕ) (board : Board) (m : List ℕ) (level vector : ℕ) (j : List ℕ) (mark : ℕ) where
  abbrev stepped : StepCall
  stepped = step_call w board (slots_in b) m level vector j mark

  abbrev step_lines : List Line
  step_lines = step_table w board (slots_in b) m level j mark

  pub ibz_step_verdict : IbzVerdict b (ibz_step_table w b board m level j mark) (ibz_step w b board m level vector j mark).a.number
  unfolding ibz_step
  ibz_step_verdict =
      let v = step_verdict w board (slots_in b) m level j mark vector in
      ibz_verdict b step_lines stepped.a.number v (others w) (λ (c : OnBlock StepAnswer). c.a.number) _ _ refl refl
    where
      others : (w : Manner) → without_nine (step_table w board (slots_in b) m level j mark) ≡ true
      others Dropping = refl
      others Keeping = refl

  pub ibz_step_refused : ValidBytes b → ((ibz_step w b board m level vector j mark).a.number ≡ 0 → ⊥)
      → (let c = ibz_step w b board m level vector j mark in c ≡ record { b = b; m = m; j = j; a = step_refusal mark c.a.number })
  unfolding ibz_step
  ibz_step_refused bytes =
      on_block_refused (λ a. a.number) (step_refusal mark) (λ n. refl) b m j bytes stepped.s stepped.m stepped.j stepped.a
      (λ h. let r = step_refused w board (slots_in b) m level j mark vector h in
      record { slots = λ i. (r i).s; memory = λ i. (r i).m; journal = λ i. (r i).j; answer = λ i. (r i).a })

-- ---- run
module _ (w : Manner) (b : List ℕ) (board : Board) (m : List ℕ) (budget stop : ℕ) (j : List ℕ) (mark : ℕ) where
  abbrev ran : RunCall
  ran = run_call w board (slots_in b) m budget stop j mark

  abbrev run_lines : List Line
  run_lines = run_table board (slots_in b) m budget j mark

  pub ibz_run_verdict : IbzVerdict b (ibz_run_table b board m budget j mark) (ibz_run w b board m budget stop j mark).a.number
  unfolding ibz_run
  ibz_run_verdict =
      let v = run_verdict board (slots_in b) m budget j mark w stop in
      ibz_verdict b run_lines ran.a.number v refl (λ (c : OnBlock RunAnswer). c.a.number) _ _ refl refl

  pub ibz_run_refused : ValidBytes b → ((ibz_run w b board m budget stop j mark).a.number ≡ 0 → ⊥)
      → (let c = ibz_run w b board m budget stop j mark in c ≡ record { b = b; m = m; j = j; a = run_refusal mark c.a.number })
  unfolding ibz_run
  ibz_run_refused bytes =
      on_block_refused (λ a. a.number) (run_refusal mark) (λ n. refl) b m j bytes ran.s ran.m ran.j ran.a
      (λ h. let r = run_refused board (slots_in b) m budget j mark w stop h in
      record { slots = λ i. (r i).s; memory = λ i. (r i).m; journal = λ i. (r i).j; answer = λ i. (r i).a })

-- ---- undo
module _ (b : List ℕ) (board : Board) (m j : List ℕ) (mark : ℕ) where
  abbrev undone : UndoCall
  undone = undo_call board (slots_in b) m j mark

  abbrev undo_lines : List Line
  undo_lines = undo_table board (slots_in b) m j mark

  pub ibz_undo_verdict : IbzVerdict b (ibz_undo_table b board m j mark) (ibz_undo b board m j mark).a.number
  unfolding ibz_undo
  ibz_undo_verdict =
      let v = undo_verdict board (slots_in b) m j mark in
      ibz_verdict b undo_lines undone.a.number v refl (λ (c : OnBlock UndoAnswer). c.a.number) _ _ refl refl

  pub ibz_undo_refused : ValidBytes b → ((ibz_undo b board m j mark).a.number ≡ 0 → ⊥)
      → (let c = ibz_undo b board m j mark in c ≡ record { b = b; m = m; j = j; a = undo_refusal mark c.a.number })
  unfolding ibz_undo
  ibz_undo_refused bytes =
      on_block_refused (λ a. a.number) (undo_refusal mark) (λ n. refl) b m j bytes undone.s undone.m j undone.a
      (λ h. let r = undo_refused board (slots_in b) m j mark h in
      record { slots = λ i. (r i).s; memory = λ i. (r i).m; journal = refl; answer = λ i. (r i).a })
