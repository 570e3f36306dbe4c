-- EnterLaws.antt - a vector's last byte, as it stands under the frame, tells whether its handler is odd; so the code looks before it writes.
-- handler_parity: the last byte tells; small-enters-.., big-enters-.., other_enters: one law for each return.
-- Uses: bits, bus, frames.
use Rattle.std.proofs.Common.{◌≡◌, ℕ, zero, suc, ◌+◌, ◌*◌, ◌%◌, ◌<◌, Bool, true, false, not, eqb, ltb, leb, List, length, get_or, sym, refl, ap, ◌∙◌, subst, arith, ltb-false, ltb-true, lt-ltb, ne_eqb}
use lib.ListN.{get_or-eq_default}
use Rattle.bits.specs.Bits.{plus}
use Rattle.bus.specs.declared.Flow.{Flow}
use Rattle.bus.specs.declared.Fetched.{Fetched}
use Rattle.bus.specs.Bus.{View, all_of, read_word, read_long, pins}
use Rattle.frames.specs.Frames.{small_frame, big_frame}
use Rattle.frames.specs.Under.{under_small, under_big}
use Rattle.frames.proofs.UnderLaws.{Over, over_small, over_big}
use Rattle.exception.specs.Exceptions.{fresh, of_fault, handler, can_enter}

-- ---- the last byte of a vector tells whether its handler is odd

-- a word outside memory is read as 0, after a fault too
word_past : (b c : Bool) (n : List ℕ) (a k : ℕ) (f : Flow) → eqb f.bad 0 ≡ b → eqb (pins a % 2) 1 ≡ c → ltb (pins a + 1) (length n) ≡ false
    → (read_word (all_of n) a k f).value ≡ 0
unfolding read_word all_of
word_past true true n a k f d e h = cc
word_past true false n a k f d e h = cc
word_past false c n a k f d e h = cc

module _ (n : List ℕ) (k : ℕ) where
  word_at : (a : ℕ) → a % 2 ≡ 0 → a < 2048 → a + 1 < length n
      → read_word (all_of n) a k (fresh 0 0) ≡ record { value = get_or n a 0 * 256 + get_or n (a + 1) 0; flow = fresh 0 0 }
  unfolding read_word all_of
  word_at a even low h =
      let q : pins a ≡ a = omega (arith, low) in
      let o = ne_eqb (pins a % 2) 1 (λ z. omega (arith, q, z, even)) in
      let i = lt-ltb (pins a + 1) (length n) (omega (arith, q, h)) in
      cc (ap (λ (i : ℕ). get_or n i 0) q, ap (λ (i : ℕ). get_or n (i + 1) 0) q)

  -- a: the vector's place, even and below 1,024; t: whether memory has all of it
  long_parity : (t : Bool) (a : ℕ) → ltb (a + 3) (length n) ≡ t → a % 2 ≡ 0 → a < 1024
      → (read_long (all_of n) a k (fresh 0 0)).value % 2 ≡ get_or n (a + 3) 0 % 2
  unfolding read_long
  long_parity true a h even low =
      let l = ltb-true (a + 3) (length n) h in
      let e : plus a 2 ≡ a + 2 = omega (arith, low) in
      let g : a + 2 + 1 ≡ a + 3 = omega arith in
      let x = word_at a even (omega (arith, low)) (omega (arith, l)) in
      let y = word_at (a + 2) (omega (arith, even)) (omega (arith, low)) (omega (arith, l)) in
      let w = get_or n (a + 2) 0 in
      let b = get_or n (a + 3) 0 in
      let z : (read_word (all_of n) (plus a 2) k (read_word (all_of n) a k (fresh 0 0)).flow).value ≡ w * 256 + b =
      ap (λ (r : Fetched). (read_word (all_of n) (plus a 2) k r.flow).value) x
      ∙ ap (λ (i : ℕ). (read_word (all_of n) i k (fresh 0 0)).value) e ∙ ap (λ (r : Fetched). r.value) y
      ∙ ap (λ (i : ℕ). w * 256 + get_or n i 0) g in
      omega (arith, z)
  long_parity false a h even low =
      let l = ltb-false (a + 3) (length n) h in
      let e : pins (plus a 2) + 1 ≡ a + 3 = omega (arith, low) in
      let f = read_word (all_of n) a k (fresh 0 0) in
      let y : (read_word (all_of n) (plus a 2) k f.flow).value ≡ 0 =
      word_past (eqb f.flow.bad 0) (eqb (pins (plus a 2) % 2) 1) n (plus a 2) k f.flow refl refl
      (ap (λ (i : ℕ). ltb i (length n)) e ∙ h) in
      let b : get_or n (a + 3) 0 ≡ 0 = get_or-eq_default n 0 {n = a + 3} (omega (arith, l)) in
      omega (arith, y, b)

pub handler_parity : (n : List ℕ) (vec : ℕ) → handler (all_of n) vec % 2 ≡ get_or n (vec % 256 * 4 + 3) 0 % 2
unfolding handler
handler_parity n vec =
    let x = (read_long (all_of n) (vec % 256 * 4) 17 (fresh 0 0)).value in
    let e = long_parity n 17 (ltb (vec % 256 * 4 + 3) (length n)) (vec % 256 * 4) refl (omega arith) (omega arith) in
    omega (arith, e)

-- ---- whether a handler can be entered: one law for each return

not_odd : (p : ℕ) → p < 2 → not (eqb p 1) ≡ eqb p 0
not_odd zero h = refl
not_odd (suc zero) h = refl
not_odd (suc (suc p)) h = absurd (omega (arith, h))

pub other_enters : (v : View) (vec : ℕ) (j : Bool) → j ≡ of_fault vec → j ≡ false → true ≡ can_enter v vec
unfolding can_enter
other_enters v vec j e f = cc

-- n is memory with the frame over it
module _ (m n : List ℕ) (vec b c : ℕ) (j : Bool) (e : j ≡ of_fault vec) (f : j ≡ true) (o : Over (vec % 256 * 4 + 3) b c m n) where
  enters_inside : ltb (vec % 256 * 4 + 3) (length m) ≡ true → b ≡ get_or m (vec % 256 * 4 + 3) 0 → eqb (c % 2) 0 ≡ can_enter (all_of n) vec
  unfolding can_enter
  enters_inside l d =
      let p = handler_parity n vec in
      let h = o.byte (ltb-true (vec % 256 * 4 + 3) (length m) l) (sym d) in
      let k = not_odd (c % 2) (omega arith) in
      cc

  enters_outside : ltb (vec % 256 * 4 + 3) (length m) ≡ false → true ≡ can_enter (all_of n) vec
  unfolding can_enter
  enters_outside l =
      let p = handler_parity n vec in
      let q = o.same in
      let h : get_or n (vec % 256 * 4 + 3) 0 ≡ 0 =
      get_or-eq_default n 0 {n = vec % 256 * 4 + 3} (omega (arith, q, ltb-false (vec % 256 * 4 + 3) (length m) l)) in
      cc

module _ (m : List ℕ) (a vec sr pc : ℕ) (j : Bool) (e : j ≡ of_fault vec) (f : j ≡ true) where
  pub small_enters_inside : (b c : ℕ) → ltb (vec % 256 * 4 + 3) (length m) ≡ true → b ≡ get_or m (vec % 256 * 4 + 3) 0
      → c ≡ under_small (vec % 256 * 4 + 3) b a sr pc → eqb (c % 2) 0 ≡ can_enter (all_of (small_frame m a sr pc)) vec
  small_enters_inside b c l d g =
      let i = vec % 256 * 4 + 3 in
      let k = enters_inside m (small_frame m a sr pc) vec b (under_small i b a sr pc) j e f (over_small i m b a sr pc) l d in cc

  pub small_enters_outside : ltb (vec % 256 * 4 + 3) (length m) ≡ false → true ≡ can_enter (all_of (small_frame m a sr pc)) vec
  small_enters_outside l =
      let i = vec % 256 * 4 + 3 in
      enters_outside m (small_frame m a sr pc) vec 0 (under_small i 0 a sr pc) j e f (over_small i m 0 a sr pc) l

-- a fault's vector is below 4
two_by : (x : ℕ) → x < 4 → of_fault x ≡ leb 2 x
two_by zero h = refl
two_by (suc zero) h = refl
two_by (suc (suc zero)) h = refl
two_by (suc (suc (suc zero))) h = refl
two_by (suc (suc (suc (suc x)))) h = absurd (omega (arith, h))

module _ (m : List ℕ) (a bad op sr pc : ℕ) where
  abbrev end : ℕ
  end = bad % 4 * 4 + 3

  known : of_fault (bad % 4) ≡ leb 2 (bad % 4)
  known = two_by (bad % 4) (omega arith)

  cut : bad % 4 % 256 * 4 + 3 ≡ end
  cut = omega arith

  pub big_enters_inside : (b c : ℕ) → leb 2 (bad % 4) ≡ true → ltb end (length m) ≡ true → b ≡ get_or m end 0 → c ≡ under_big end b a bad op sr pc
      → eqb (c % 2) 0 ≡ can_enter (all_of (big_frame m a bad op sr pc)) (bad % 4)
  big_enters_inside b c f l d g =
      let i = bad % 4 % 256 * 4 + 3 in
      let n = big_frame m a bad op sr pc in
      let u : under_big i b a bad op sr pc ≡ c = ap (λ (x : ℕ). under_big x b a bad op sr pc) cut ∙ sym g in
      enters_inside m n (bad % 4) b c true (sym f ∙ sym known) refl (subst (λ (x : ℕ). Over i b x m n) u (over_big i m b a bad op sr pc))
      (ap (λ (x : ℕ). ltb x (length m)) cut ∙ l) (d ∙ ap (λ (x : ℕ). get_or m x 0) (sym cut))

  pub big_enters_outside : leb 2 (bad % 4) ≡ true → ltb end (length m) ≡ false → true ≡ can_enter (all_of (big_frame m a bad op sr pc)) (bad % 4)
  big_enters_outside f l =
      let i = bad % 4 % 256 * 4 + 3 in
      enters_outside m (big_frame m a bad op sr pc) (bad % 4) 0 (under_big i 0 a bad op sr pc) true (sym f ∙ sym known) refl (over_big i m 0 a bad op sr pc)
      (ap (λ (x : ℕ). ltb x (length m)) cut ∙ l)

  pub big_enters_other : leb 2 (bad % 4) ≡ false → true ≡ can_enter (all_of (big_frame m a bad op sr pc)) (bad % 4)
  big_enters_other f = other_enters (all_of (big_frame m a bad op sr pc)) (bad % 4) false (sym f ∙ sym known) refl
