-- WholeLaws.antt - values are put by going from one of a list to the next: that is the walk over all its bits, without its idle turns.
-- whole_start, -index, -room, -ready, -less, -again, -memory (the loop).
-- Uses: bits, bus, operand, plan, touch.
use Rattle.std.proofs.Common.{◌≡◌, ℕ, zero, suc, ◌+◌, ◌-◌, ◌*◌, ◌/◌, ◌%◌, ◌^◌, ◌<◌, ◌≤◌, Bool, true, false, eqb, List, length, get_or, sym, refl, ap, ◌∙◌, mul-le-mul_right, pow-suc, arith, eq-eqb, ne_eqb, eqb-true}
use native.Mathlib.Nat.{div-div-eq-div-mul}
use lib.Count.{ones, ones_step, count_trailing_zeros}
use borrow.Author.Tests.{eqb-false}
use Rattle.bits.specs.Bits.{iter, plus}
use Rattle.bits.proofs.BitsLaws.{Turns, turns_start, turns_again}
use Rattle.bits.proofs.OnesLaws.{ones_in_lem}
use Rattle.bus.specs.declared.Flow.{Flow}
use Rattle.bus.specs.Bus.{pins, put_sized}
use Rattle.touch.specs.Touch.{AllBelow, LogOk, Noted}
use Rattle.touch.proofs.TouchLaws.{noted_none, noted_then}
use Rattle.movem.specs.declared.Way.{Way}
use Rattle.movem.specs.declared.Spot.{Spot}
use Rattle.movem.specs.Movem.{listed, first_spot, next_spot, Walk}
use Rattle.movem.specs.Whole.{skipped, passed, Inside, put_value, put_values}
use Rattle.movem.proofs.MovemLaws.{walk}

-- ---- turns at which the list has nothing
module _ (f : Walk → Walk) (w : Way) (g : Flow)
    (idle : (x : List ℕ) (d : Spot) → d.flow ≡ g → listed d ≡ false → f (walk x d) ≡ walk x (next_spot w d g)) where
  -- an empty list changes nothing
  idle_rest : (n : ℕ) (x : List ℕ) (d : Spot) → d.flow ≡ g → d.list ≡ 0 → (iter f n (walk x d)).held ≡ x
  unfolding iter next_spot
  idle_rest zero x d e z = refl
  idle_rest (suc n) x d e z =
      ap (λ (t : Walk). (iter f n t).held) (idle x d e (ne_eqb (d.list % 2) 1 (omega arith)))
      ∙ idle_rest n x (next_spot w d g) refl (omega arith)

  -- the z zeros below the lowest one of a list of at most j bits
  record Skip (x : List ℕ) (d : Spot) (j z : ℕ) : Type 0 where
    there : iter f z (walk x d) ≡ walk x (record { list = d.list / 2 ^ z; index = d.index + z; at = d.at; flow = d.flow })
    odd : d.list / 2 ^ z % 2 ≡ 1
    within : z < j
    same : ones (d.list / 2 ^ z) ≡ ones d.list
    less : d.list / 2 ^ z ≤ d.list
    small : d.list / 2 ^ z < 2 ^ (j - z)

  -- a list whose lowest bit is a zero: the zeros of the rest, and that one
  skip_one : (x : List ℕ) (d : Spot) (j z : ℕ) → d.flow ≡ g → listed d ≡ false → d.index + suc j < 2 ^ 32
      → Skip x (next_spot w d g) j z → Skip x d (suc j) (suc z)
  unfolding iter next_spot
  skip_one x d j z e c b t =
      let o : d.list % 2 ≡ 0 = omega (arith, eqb-false (d.list % 2) 1 c) in
      let p : 2 * 2 ^ z ≡ 2 ^ suc z = omega (arith, pow-suc 2 z) in
      let q : d.list / 2 / 2 ^ z ≡ d.list / 2 ^ suc z = div-div-eq-div-mul d.list 2 (2 ^ z) ∙ ap (λ (y : ℕ). d.list / y) p in
      let i : plus d.index 1 + z ≡ d.index + suc z = omega arith in
      record {
        there = ap (iter f z) (idle x d e c) ∙ t.there ∙ rw (c, q, i, e);
        odd = rw q at t.odd;
        within = omega (arith, t.within);
        same = ap ones (sym q) ∙ t.same ∙ omega (arith, ones_step d.list);
        less = omega (arith, rw q at t.less);
        small = (let v : suc j - suc z ≡ j - z = omega arith in rw v (rw q at t.small));
      }

  skip_none : (x : List ℕ) (d : Spot) (j : ℕ) → listed d ≡ true → d.list < 2 ^ suc j → Skip x d (suc j) 0
  unfolding iter
  skip_none x d j c l =
      let o = eqb-true (d.list % 2) 1 c in
      let u : d.list / 2 ^ 0 ≡ d.list = omega arith in
      let i : d.index + 0 ≡ d.index = omega arith in
      let v : suc j - 0 ≡ suc j = omega arith in
      record { there = rw (u, i); odd = rw u o; within = omega arith; same = ap ones u; less = omega arith; small = rw (u, v) l }

  skip : (k j : ℕ) → j ≤ k → (x : List ℕ) (d : Spot) → d.flow ≡ g → 1 ≤ d.list → d.list < 2 ^ j → d.index + j < 2 ^ 32
      → Skip x d j (count_trailing_zeros k d.list)
  unfolding count_trailing_zeros next_spot
  skip k zero h x d e s l b = absurd (omega arith)
  skip zero (suc j) h x d e s l b = absurd (omega arith)
  skip (suc k) (suc j) h x d e s l b =
      let half : d.list < 2 * 2 ^ j = omega (arith, pow-suc 2 j, l) in
      go (listed d) refl (λ q. skip k j (omega arith) x (next_spot w d g) refl q (omega (arith, half)) (omega arith))
    where
      go : (c : Bool) → listed d ≡ c → (1 ≤ d.list / 2 → Skip x (next_spot w d g) j (count_trailing_zeros k (d.list / 2)))
          → Skip x d (suc j) (count_trailing_zeros (suc k) d.list)
      go true c r = let o = eqb-true (d.list % 2) 1 c in rw o (skip_none x d j c l)
      go false c r =
          let o : d.list % 2 ≡ 0 = omega (arith, eqb-false (d.list % 2) 1 c) in
          rw o (skip_one x d j (count_trailing_zeros k (d.list / 2)) e c b (r (omega arith)))

-- ---- a walk that puts values
value_idle : (t : List ℕ) (w : Way) (g : Flow) (x : List ℕ) (d : Spot) → d.flow ≡ g → listed d ≡ false
    → put_value t w g (walk x d) ≡ walk x (next_spot w d g)
unfolding put_value
value_idle t w g x d e h = rw h

-- more turns at once
turns_more : {A : Type 0} (f : A → A) (n k z : ℕ) (a₀ a b : A) → Turns f n k a₀ a → iter f z a ≡ b → k + z ≤ n → Turns f n (k + z) a₀ b
unfolding iter
turns_more f n k zero a₀ a b i e h = let q : k + 0 ≡ k = omega arith in rw (q, ← e) i
turns_more f n k (suc z) a₀ a b i e h =
    let q : k + suc z ≡ k + 1 + z = omega arith in
    rw q (turns_more f n (k + 1) z a₀ (f a) b (turns_again f n k a₀ a i (f a) (omega arith) refl) e (omega arith))

-- the loop: what is done of the list, and where the next value goes if there is one
pub record Whole (t : List ℕ) (w : Way) (m₀ l₀ : List ℕ) (n₀ : ℕ) (d₀ : Spot) (m l : List ℕ) (n : ℕ) (d : Spot) : Type 0 where
  pub turns : Turns (put_value t w d₀.flow) 16 d.index (walk m₀ d₀) (walk m d)
  pub flow : d.flow ≡ d₀.flow
  pub small : d.list < 2 ^ (16 - d.index)
  pub noted : Noted m₀ l₀ n₀ (d.index * 4) m l n
  pub ahead : 1 ≤ d.list → AllBelow l n (pins d.at) × (pins d.at + ones d.list * w.step ≤ length m)

pub whole_start : (t : List ℕ) (w : Way) (f : Flow) (m l : List ℕ) (n : ℕ) (d : Spot) → LogOk m l n → Inside (length m) w
    → AllBelow l n (pins w.start) → d ≡ first_spot w f → Whole t w m l n d m l n d
whole_start t w f m l n d ok i b e =
    let o = ones_in_lem 16 w.list i.short in
    rw e
    (record {
      turns = turns_start (put_value t w f) 16 (walk m (first_spot w f));
      flow = refl;
      small = i.short;
      noted = noted_none m l n ok;
      ahead = λ s. (b, rw o i.within);
    })

ones_some : (k x : ℕ) → x ≤ k → 1 ≤ x → 1 ≤ ones x
ones_some zero x l h = absurd (omega arith)
ones_some (suc k) x l h = go (eqb (x % 2) 1) refl (λ q. ones_some k (x / 2) (omega arith) q)
  where
    go : (b : Bool) → eqb (x % 2) 1 ≡ b → (1 ≤ x / 2 → 1 ≤ ones (x / 2)) → 1 ≤ ones x
    go true e r = omega (arith, ones_step x, eqb-true (x % 2) 1 e)
    go false e r =
        let z = eqb-false (x % 2) 1 e in
        let y = r (omega arith) in omega (arith, ones_step x)

-- places in memory: one more part lies above
part_fits : (a o s z len : ℕ) → s ≡ 2 * z → a + suc o * s ≤ len → a + 2 * z ≤ len
part_fits a o s z len e h = let q : suc o * s ≡ s + o * s = omega arith in omega arith

next_pins : (a s y len : ℕ) → len ≤ 2 ^ 24 → pins a + (s + y) ≤ len → s ≤ y → pins (plus a s) ≡ pins a + s
next_pins a s y len l k h = omega arith

next_part : (a o s z len : ℕ) → len ≤ 2 ^ 24 → s ≡ 2 * z → 1 ≤ o → pins a + suc o * s ≤ len
    → (pins (plus a s) ≡ pins a + 2 * z) × (pins (plus a s) + o * s ≤ len)
next_part a o s z len l e h b =
    let q : suc o * s ≡ s + o * s = omega arith in
    let r : 1 * s ≤ o * s = mul-le-mul_right s h in
    let k : pins a + (s + o * s) ≤ len = rw q at b in
    let p = next_pins a s (o * s) len l k (omega arith) in
    (omega (arith, p), omega (arith, p, k))

-- a turn of it
module _ (t : List ℕ) (w : Way) (m₀ l₀ : List ℕ) (n₀ : ℕ) (d₀ : Spot) (i : Inside (length m₀) w) (q : n₀ + 64 ≤ length l₀)
    (m l : List ℕ) (n : ℕ) (d : Spot) (s : Whole t w m₀ l₀ n₀ d₀ m l n d) (some : 1 ≤ d.list) (e : Spot) (g : e ≡ skipped d) where
  abbrev z : ℕ
  z = count_trailing_zeros 32 d.list

  over : Skip (put_value t w d₀.flow) w d₀.flow (value_idle t w d₀.flow) m d (16 - d.index) z
  over =
      skip (put_value t w d₀.flow) w d₀.flow (value_idle t w d₀.flow) 32 (16 - d.index) (omega arith) m d s.flow some s.small
      (omega (arith, s.turns.le))

  abbrev there : Spot
  there = record { list = d.list / 2 ^ z; index = d.index + z; at = d.at; flow = d.flow }

  arrived : e ≡ there
  unfolding skipped
  arrived = let p : plus d.index z ≡ d.index + z = omega (arith, over.within) in g ∙ rw p

  pub whole_index : e.index < 16
  whole_index = rw arrived (omega (arith, over.within))

  -- the ones that are left, this one among them
  rest : ones d.list ≡ suc (ones (d.list / 2 ^ z / 2))
  rest = omega (arith, over.same, over.odd, ones_step (d.list / 2 ^ z))

  inside : pins d.at + suc (ones (d.list / 2 ^ z / 2)) * w.step ≤ length m
  inside = rw rest at (s.ahead some).1

  pub whole_room : (1 ≤ w.size) × (w.size ≤ 2) × (pins e.at + 2 * w.size ≤ length m) × (n + 2 * w.size ≤ length l)
  whole_room = (
    i.part.0,
    i.part.1,
    rw arrived (part_fits (pins d.at) (ones (d.list / 2 ^ z / 2)) w.step w.size (length m) i.close inside),
    omega (arith, s.noted.most, s.noted.long, over.within, i.part),
  )

  pub whole_ready : LogOk m l n × AllBelow l n (pins e.at)
  whole_ready = (s.noted.ok, rw arrived (s.ahead some).0)

  abbrev after : Spot
  after = record { list = d.list / 2 ^ z / 2; index = d.index + z + 1; at = plus d.at w.step; flow = d.flow }

  module _ (d₁ : Spot) (h : d₁ ≡ passed w e) where
    gone : d₁ ≡ after
    unfolding passed
    gone = let p : plus (d.index + z) 1 ≡ d.index + z + 1 = omega (arith, over.within) in h ∙ rw (arrived, p)

    pub whole_less : d₁.list < d.list
    whole_less = rw gone (omega (arith, over.less))

  module _ (m₁ l₁ : List ℕ) (n₁ : ℕ) (d₁ : Spot) (h : d₁ ≡ passed w e) where
    lands : m₁ ≡ put_sized m d.at w.size (get_or t (d.index + z) 0) → walk m₁ after ≡ put_value t w d₀.flow (walk m there)
    unfolding put_value next_spot
    lands k =
        let o = eq-eqb (d.list / 2 ^ z % 2) 1 over.odd in
        let p : plus (d.index + z) 1 ≡ d.index + z + 1 = omega (arith, over.within) in
        let q = s.flow in cc

    pub whole_again : m₁ ≡ put_sized m e.at w.size (get_or t e.index 0) → Noted m l n (2 * w.size) m₁ l₁ n₁
        → AllBelow l₁ n₁ (pins e.at + 2 * w.size) → Whole t w m₀ l₀ n₀ d₀ m₁ l₁ n₁ d₁
    whole_again k a b =
        let f = put_value t w d₀.flow in
        let y = d.index + z in
        let j : 16 - d.index - z ≡ suc (16 - (y + 1)) = omega (arith, over.within) in
        let c : d.list / 2 ^ z < 2 ^ suc (16 - (y + 1)) = rw j at over.small in
        let v = turns_more f 16 d.index z (walk m₀ d₀) (walk m d) (walk m there) s.turns over.there (omega (arith, over.within)) in
        rw (gone d₁ h)
        (record {
          turns = turns_again f 16 y (walk m₀ d₀) (walk m there) v (walk m₁ after) (omega (arith, over.within)) (lands (rw arrived at k));
          flow = s.flow;
          small = omega (arith, pow-suc 2 (16 - (y + 1)), c);
          noted = noted_then m₀ l₀ n₀ (d.index * 4) m l n (2 * w.size) m₁ l₁ n₁ ((y + 1) * 4) (omega (arith, i.part)) s.noted a;
          ahead = λ more.
              let x = d.list / 2 ^ z / 2 in
              let o = ones_some x x (omega arith) more in
              let p = next_part d.at (ones x) w.step w.size (length m) s.noted.ok.size i.close o inside in
              (rw p.0 (rw arrived at b), rw a.same p.1);
        })

module _ (t : List ℕ) (w : Way) (f : Flow) (m₀ l₀ : List ℕ) (n₀ : ℕ) (d₀ : Spot) (m l : List ℕ) (n : ℕ) (d : Spot)
    (s : Whole t w m₀ l₀ n₀ d₀ m l n d) where
  pub whole_memory : d.list ≡ 0 → d₀ ≡ first_spot w f → m ≡ put_values t w f m₀
  unfolding put_values
  whole_memory e h =
      let g = d₀.flow in
      sym (idle_rest (put_value t w g) w g (value_idle t w g) (16 - d.index) m d s.flow e)
      ∙ ap (λ (y : Walk). y.held) s.turns.rest ∙ rw h
