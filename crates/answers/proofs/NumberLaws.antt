-- NumberLaws.antt - the laws that the functions of this crate cite: what the first tests' judgment leaves to be judged.
-- first_refuses, first_passes.
-- Uses: bus, refusals, undo, calls.
use Prim.Native.Nat.{ℕ}
use mathlib.Core.Path.{◌≡◌, sym, ap, ◌∙◌}
use mathlib.Core.List.{List}
use Rattle.std.specs.Prelude.{Result, Ok, Err}
use Rattle.std.specs.Result.{IsErrAnd}
use Rattle.std.proofs.lemmas.Result.{err_from_is_err_and}
use Rattle.bus.specs.Bus.{Board}
use Rattle.refusals.specs.declared.Refusal.{Refusal}
use Rattle.refusals.specs.Refusals.{refusal_number, number_given}
use Rattle.refusals.proofs.NumberLaws.{refusal_some}
use Rattle.calls.specs.Calls.{first_tests}
use Rattle.calls.proofs.RefusalLaws.{first_passed, first_stopped}

-- where the first tests were judged: k is their judgment, x what the `?` after it returns
module _ {A B : Type 0} (board : Board) (s m : List ℕ) (last : ℕ) (k : Result A Refusal) (d : number_given k ≡ first_tests board s m 0) where
  pub first_refuses : (e : Refusal) (x : Result B Refusal) → k ≡ Err e → IsErrAnd x (λ y. y ≡ e) → number_given x ≡ first_tests board s m last
  first_refuses e x q t =
      let p = err_from_is_err_and x t in
      let n : refusal_number e ≡ first_tests board s m 0 = ap number_given (sym q) ∙ d in
      rw (p.1, p.2) (n ∙ sym (first_stopped board s m last (λ z. refusal_some e (n ∙ z))))

module _ {A : Type 0} (board : Board) (s m : List ℕ) (last r : ℕ) (k : Result A Refusal) (d : number_given k ≡ first_tests board s m 0) where
  pub first_passes : (x : A) → k ≡ Ok x → r ≡ last → r ≡ first_tests board s m last
  first_passes x q t = t ∙ sym (first_passed board s m last (sym d ∙ ap number_given q))
