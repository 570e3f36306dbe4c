-- NearLaws.antt - the list of the oldest starts, noted anew from a post down to place 0: one law for each turn or return of the code.
-- * filling_start, filling_more, fill_done: the loop of fill_near.
-- Speaks of: Indexed, FillFrom and FilledIs of specs/Starts.antt.
-- Assumes nothing.  Source: [ours].
use Prim.Native.Nat.{ℕ, suc, ◌+◌, ◌-◌, ◌^◌, ◌≤◌, ◌<◌}
use mathlib.Core.Path.{◌≡◌, refl, sym, ap, ◌∙◌, subst}
use mathlib.Core.List.{List, [], ◌∷◌, ◌++◌, append_assoc, append-nil, reverse, reverse-append}
use native.Mathlib.Omega.{arith}
use lib.ListN.{length, set, take, drop, length-append, length-drop, length-set, take-append-drop}
use lib.Seq.{slice, slice-cons, slice_empty, get_or-set_same, take-set-lt, drop-set-lt, take_at, take-take, length-take-le}
use Rattle.numbers.specs.Number.{back}
use Rattle.undo.proofs.ReadLaws.{length_back}
use Rattle.undo.proofs.ShapeLaws.{record_not_empty}
use Rattle.std.proofs.lemmas.Slice.{between_is}
use Rattle.oldest.specs.Room.{Row, row_bytes, rows_bytes}
use Rattle.oldest.proofs.RowLaws.{AllGood, rows_bytes_append, rows_count, back_as_reverse}
use Rattle.starts.specs.Starts.{starts_of, IsStart, before_record, Indexed, Known, IsEntry, BelowIs, FillFrom, FilledIs}
use Rattle.starts.proofs.SkipLaws.{skip_record, row_two}

-- ---- the last of some records
last_row : (rs : List Row) → 0 < length rs → (os : List Row) × (r : Row) × (rs ≡ os ++ r ∷ [])
last_row [] h = absurd (omega arith)
last_row (r ∷ []) h = ([], r, refl)
last_row (r ∷ (s ∷ rs)) h = let w = last_row (s ∷ rs) (omega arith) in (r ∷ w.0, w.1, ap (λ (l : List Row). r ∷ l) w.2)

pub good_left : (len : ℕ) (a b : List Row) → AllGood len (a ++ b) → AllGood len a
good_left len [] b g = tt
good_left len (r ∷ a) b g = (g.0, good_left len a b g.1)

pub good_right : (len : ℕ) (a b : List Row) → AllGood len (a ++ b) → AllGood len b
good_right len [] b g = g
good_right len (r ∷ a) b g = good_right len a b g.1

-- ---- on the way from the post down to place 0: what is left stands below place e
pub record Filling (len : ℕ) (v : List ℕ) (base : ℕ) (all : List Row) (n e i : ℕ) (near : List ℕ) : Type 0 where
  pub left : List Row
  pub seen : List Row
  pub both : all ≡ left ++ seen
  pub good : AllGood len left
  pub inside : e ≤ length v
  pub ends : e ≡ length (rows_bytes left)
  pub text : take e v ≡ rows_bytes left
  pub low : i < n
  pub few : n - i ≤ length seen
  pub known : slice i n near ≡ take (n - i) (starts_of (base + e) seen)

-- one more entry of the list
entry_more : (n i x : ℕ) (near : List ℕ) (ss : List ℕ) → i < n → n ≤ length near → slice (suc i) n near ≡ take (n - suc i) ss → slice i n (set near i x) ≡ take (n - i) (x ∷ ss)
entry_more n i x near ss low fits known =
    let count : suc (n - suc i) ≡ n - i = omega arith in
    slice-cons i n (set near i x) 0 (omega arith) (omega (arith, length-set near i x))
    ∙ ap (λ (v : ℕ). v ∷ slice (suc i) n (set near i x)) (get_or-set_same near i x 0 (omega arith))
    ∙ ap (λ (l : List ℕ). x ∷ l) (ap (drop (suc i)) (take-set-lt n near i x (omega arith)) ∙ drop-set-lt (suc i) (take n near) i x (omega arith))
    ∙ ap (λ (l : List ℕ). x ∷ l) known
    ∙ ap (λ (m : ℕ). take m (x ∷ ss)) count

-- the last entry, alone
entry_alone : (n x : ℕ) (near : List ℕ) (ss : List ℕ) → 0 < n → n ≤ length near → slice (n - 1) n (set near (n - 1) x) ≡ take (n - (n - 1)) (x ∷ ss)
entry_alone n x near ss some fits =
    let one : 1 ≡ n - (n - 1) = omega arith in
    let last : suc (n - 1) ≡ n = omega arith in
    slice-cons (n - 1) n (set near (n - 1) x) 0 (omega arith) (omega (arith, length-set near (n - 1) x))
    ∙ ap (λ (v : ℕ). v ∷ slice (suc (n - 1)) n (set near (n - 1) x)) (get_or-set_same near (n - 1) x 0 (omega arith))
    ∙ ap (λ (m : ℕ). x ∷ slice m n (set near (n - 1) x)) last
    ∙ ap (λ (l : List ℕ). x ∷ l) (slice_empty n (set near (n - 1) x))
    ∙ ap (λ (m : ℕ). take m (x ∷ ss)) one

-- ---- the start
module _ (len : ℕ) (v : List ℕ) (mark base post : ℕ) (inside : mark ≤ length v) (f : FillFrom len v mark base post) where
  abbrev q : ℕ
  q = f.start.0

  abbrev older : List Row
  older = take q f.all

  post_is : post ≡ base + length (rows_bytes older)
  post_is = f.start.2

  pub post_low : base ≤ post
  post_low = omega (arith, post_is)

  older_bytes : take (post - base) v ≡ rows_bytes older
  older_bytes =
      let size : length (rows_bytes older) ≡ post - base = omega (arith, post_is) in
      sym (take-take (post - base) mark v f.below)
      ∙ ap (take (post - base)) (f.bytes ∙ ap rows_bytes (sym (take-append-drop q f.all)) ∙ rows_bytes_append older (drop q f.all))
      ∙ take_at (rows_bytes older) (rows_bytes (drop q f.all)) (post - base) size

  pub filling_start : (n : ℕ) (near near' : List ℕ) → 0 < n → n ≤ length near → near' ≡ set near (n - 1) post → Filling len v base f.all n (post - base) (n - 1) near'
  filling_start n near near' some fits is =
      let here : base + (post - base) ≡ post = omega (arith, post_low) in
      let newer = drop q f.all in
      record {
        left = older;
        seen = newer;
        both = sym (take-append-drop q f.all);
        good = good_left len older newer (subst (AllGood len) (sym (take-append-drop q f.all)) f.good);
        inside = omega (arith, f.below);
        ends = omega (arith, post_is);
        text = older_bytes;
        low = omega arith;
        few = omega (arith, length-drop q f.all, f.start.1);
        known = ap (slice (n - 1) n) is ∙ first newer (omega (arith, length-drop q f.all, f.start.1)) (base + (post - base)) here;
      }
    where
      first : (rs : List Row) → 0 < length rs → (x : ℕ) → x ≡ post → slice (n - 1) n (set near (n - 1) post) ≡ take (n - (n - 1)) (starts_of x rs)
      first [] h x e = absurd (omega arith)
      first (r ∷ rs) h x e = entry_alone n post near (starts_of (post + length (row_bytes r)) rs) some fits ∙ ap (λ (m : ℕ). take (n - (n - 1)) (starts_of m (r ∷ rs))) (sym e)

-- ---- a turn: what is left ends with a record r, and is passed
some_left : (rs : List Row) → 0 < length (rows_bytes rs) → 0 < length rs
some_left [] h = absurd (omega arith)
some_left (r ∷ rs) h = omega arith

module _ (len : ℕ) (v : List ℕ) (base : ℕ) (all : List Row) (n e i : ℕ) (near : List ℕ) (fits : len ≤ 2 ^ 32) (w : Filling len v base all n e i near) (os : List Row) (r : Row) (is : w.left ≡ os ++ r ∷ []) where
  abbrev s₀ : ℕ
  s₀ = length (rows_bytes os)

  whole_text : take e v ≡ rows_bytes os ++ row_bytes r
  whole_text = w.text ∙ ap rows_bytes is ∙ rows_bytes_append os (r ∷ []) ∙ ap (λ (l : List ℕ). rows_bytes os ++ l) (append-nil (row_bytes r))

  left_ends : e ≡ s₀ + length (row_bytes r)
  left_ends = omega (arith, ap length whole_text, length-append (rows_bytes os) (row_bytes r), length-take-le e v w.inside)

  text_before : take s₀ v ≡ rows_bytes os
  text_before = sym (take-take s₀ e v (omega (arith, left_ends))) ∙ ap (take s₀) whole_text ∙ take_at (rows_bytes os) (row_bytes r) s₀ refl

  good_both : AllGood len (os ++ r ∷ [])
  good_both = subst (AllGood len) is w.good

  read_back : back v e ≡ reverse (row_bytes r) ++ back v s₀
  read_back =
      back_as_reverse v e ∙ ap reverse whole_text ∙ reverse-append (rows_bytes os) (row_bytes r)
      ∙ ap (λ (l : List ℕ). reverse (row_bytes r) ++ l) (sym (back_as_reverse v s₀ ∙ ap reverse text_before))

  left_two : 2 ≤ e
  left_two = omega (arith, row_two len r (back v s₀) fits (good_right len os (r ∷ []) good_both).0, ap length read_back, length_back v e w.inside)

  module _ (s : ℕ) (less : s ≤ e) (q : back v s ≡ before_record (back v e)) where
    start_is : s ≡ s₀
    start_is =
        let same : back v s ≡ back v s₀ = q ∙ ap before_record read_back ∙ skip_record len r (back v s₀) fits (good_right len os (r ∷ []) good_both).0 in
        omega (arith, ap length same, length_back v s (omega (arith, w.inside)), length_back v s₀ (omega (arith, w.inside, left_ends)))

    next : base + s + length (row_bytes r) ≡ base + e
    next = omega (arith, start_is, left_ends)

    abbrev newer : List ℕ
    newer = starts_of (base + s + length (row_bytes r)) w.seen

    -- what stands above the new entry are the oldest of the starts that were noted
    above : (k : ℕ) (near' : List ℕ) → length near ≡ n → BelowIs near i near' k → slice (suc k) n near' ≡ take (n - suc k) newer
    above k near' size u =
        let few : n - suc k ≤ n - i = omega (arith, u.few) in
        ap (λ (m : ℕ). slice (suc k) m near') (sym size)
        ∙ u.kept
        ∙ ap (λ (m : ℕ). take (m - suc k) (drop i near)) size
        ∙ sym (take-take (n - suc k) (n - i) (drop i near) few)
        ∙ ap (take (n - suc k)) (between_is near i n ∙ w.known)
        ∙ take-take (n - suc k) (n - i) (starts_of (base + e) w.seen) few
        ∙ ap (λ (m : ℕ). take (n - suc k) (starts_of m w.seen)) (sym next)

    filled : (k : ℕ) (near' near'' : List ℕ) → length near ≡ n → length near' ≡ n → BelowIs near i near' k → near'' ≡ set near' k (base + s) → Filling len v base all n s k near''
    filled k near' near'' size size' u e₂ =
        record {
          left = os;
          seen = r ∷ w.seen;
          both = w.both ∙ ap (λ (l : List Row). l ++ w.seen) is ∙ append_assoc os (r ∷ []) w.seen;
          good = good_left len os (r ∷ []) good_both;
          inside = omega (arith, w.inside);
          ends = start_is;
          text = ap (λ (m : ℕ). take m v) start_is ∙ text_before;
          low = omega (arith, u.low);
          few = omega (arith, u.low, u.few, w.few);
          known = ap (slice k n) e₂ ∙ entry_more n k (base + s) near' newer (omega (arith, u.low)) (omega arith) (above k near' size u);
        }

-- ---- what the code owes
module _ (len : ℕ) (v : List ℕ) (base : ℕ) (all : List Row) (n e i : ℕ) (near : List ℕ) (fits : len ≤ 2 ^ 32) (w : Filling len v base all n e i near) (some : 0 < e) where
  there : (os : List Row) × (r : Row) × (w.left ≡ os ++ r ∷ [])
  there = last_row w.left (some_left w.left (omega (arith, w.ends)))

  pub filling_two : 2 ≤ e
  filling_two = let t = there in left_two len v base all n e i near fits w t.0 t.1 t.2

  module _ (s : ℕ) (less : s ≤ e) (q : back v s ≡ before_record (back v e)) where
    pub filling_less : s < e
    filling_less =
        let t = there in
        let r = t.1 in
        omega (arith, start_is len v base all n e i near fits w t.0 t.1 t.2 s less q, left_ends len v base all n e i near fits w t.0 t.1 t.2, record_not_empty r.slots r.bytes)

    pub filling_more : (k : ℕ) (near' near'' : List ℕ) → length near ≡ n → length near' ≡ n → BelowIs near i near' k → near'' ≡ set near' k (base + s) → Filling len v base all n s k near''
    filling_more k near' near'' size size' u e₂ = let t = there in filled len v base all n e i near fits w t.0 t.1 t.2 s less q k near' near'' size size' u e₂

filling_end : (len : ℕ) (v : List ℕ) (mark base post : ℕ) (f : FillFrom len v mark base post) (n e i : ℕ) (near : List ℕ) → Filling len v base f.all n e i near → e ≡ 0 → Indexed len v mark near i n base
filling_end len v mark base post f n e i near w z =
    let none_left : w.left ≡ [] = no_rows w.left (omega (arith, w.ends, rows_count w.left)) in
    let same : f.all ≡ w.seen = w.both ∙ ap (λ (l : List Row). l ++ w.seen) none_left in
    let here : base + e ≡ base = omega arith in
    record {
      all = f.all;
      read = f.read;
      bytes = f.bytes;
      good = f.good;
      few = omega (arith, w.few, ap length same);
      known = w.known ∙ ap (λ (m : ℕ). take (n - i) (starts_of m w.seen)) here ∙ ap (λ (l : List Row). take (n - i) (starts_of base l)) (sym same);
    }
  where
    no_rows : (rs : List Row) → length rs ≡ 0 → rs ≡ []
    no_rows [] h = refl
    no_rows (r ∷ rs) h = absurd (omega arith)

pub fill_done : (len : ℕ) (v : List ℕ) (mark base post : ℕ) (f : FillFrom len v mark base post) (n e i : ℕ) (near : List ℕ) → Filling len v base f.all n e i near → e ≡ 0 → length near ≡ n → FilledIs len v mark base near i
fill_done len v mark base post f n e i near w z size =
    record { order = omega (arith, w.low); index = subst (λ (m : ℕ). Indexed len v mark near i m base) (sym size) (filling_end len v mark base post f n e i near w z) }

-- ---- a post that is known
pub fill_from : (len : ℕ) (v : List ℕ) (mark : ℕ) (posts near : List ℕ) (i base : ℕ) → Known len v mark posts near i base → base + mark < 2 ^ 64 → (post : ℕ) → IsEntry posts post → base ≤ post → post < base + mark → FillFrom len v mark base post
fill_from len v mark posts near i base x small post entry low high =
    let same = entry.2 in
    record {
      all = x.index.all;
      read = x.index.read;
      bytes = x.index.bytes;
      good = x.index.good;
      start = subst (IsStart base x.index.all) (sym same) (x.posts_ok.start x.index.all x.index.read entry.0 entry.1 (omega arith) (omega arith));
      below = omega arith;
    }
