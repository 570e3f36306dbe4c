-- KeepLaws.antt - a step's record on a turned journal: it stands as it would on the journal itself, and what is known goes on.
-- * known_when_noted, turn_none: how a run begins.   * written_turned: a record written at the mark.
-- * held_after_step: the list and the posts after it.   * turn_after_step: the turned part stays.
-- Speaks of: Known of the crate starts, Turn of specs/Held.antt.
-- Assumes nothing.  Source: [K5], [ours].
use Prim.Native.Nat.{ℕ, ◌+◌, ◌-◌, ◌^◌, ◌≤◌, ◌<◌}
use mathlib.Core.Path.{◌≡◌, refl, sym, ap, ◌∙◌, subst}
use mathlib.Core.Bool.{Bool, true, false}
use mathlib.Core.List.{List, [], ◌∷◌, ◌++◌, append-nil, reverse}
use native.Mathlib.Omega.{arith}
use lib.ListN.{length, get_or, set, take, length-append, length-set}
use lib.Seq.{take-append-le, take-append_seam, length-take-le}
use lib.Dec.{ltb}
use borrow.Author.Tests.{ltb-true, ltb-false}
use Rattle.numbers.specs.Number.{written}
use Rattle.numbers.proofs.WrittenLaws.{take_written, length_written}
use Rattle.turned.specs.Turned.{turned}
use Rattle.turned.proofs.TurnLaws.{turned_none, turned_written, length_turned}
use Rattle.oldest.specs.Room.{Row, row_bytes, rows_bytes, rows, torn, rows_of}
use Rattle.oldest.proofs.RowLaws.{Good, AllGood, good_append, rows_bytes_append, rows_of_bytes, back_as_reverse}
use Rattle.starts.specs.Starts.{IsStart, no_post, Known, NotedIs}
use Rattle.held.specs.Held.{Turn}
use Rattle.starts.proofs.StartLaws.{take_starts}
use Rattle.starts.proofs.PostLaws.{entry_of_set}

-- ---- the turned part
pub turn_after_step : (b h mark mark' : ℕ) → Turn b h mark → mark ≤ mark' → Turn b h mark'
turn_after_step b h mark mark' t more = record { low = t.low; plain = λ l. t.plain (omega arith) }

pub written_turned : (b h : ℕ) (p : List ℕ) (at : ℕ) (bs : List ℕ) → Turn b h at → h ≤ length p → at + length bs ≤ length p → written (turned b h p) at bs ≡ turned b h (written p at bs)
written_turned b h p at bs t top fits = go (ltb at h) refl
  where
    go : (u : Bool) → ltb at h ≡ u → written (turned b h p) at bs ≡ turned b h (written p at bs)
    go true e =
        let none_turned : b ≡ 0 = t.plain (ltb-true at h e) in
        ap (λ (m : ℕ). written (turned m h p) at bs) none_turned
        ∙ ap (λ (l : List ℕ). written l at bs) (turned_none h p)
        ∙ sym (turned_none h (written p at bs))
        ∙ ap (λ (m : ℕ). turned m h (written p at bs)) (sym none_turned)
    go false e = sym (turned_written b h p t.low top at bs (ltb-false at h e) fits)

-- ---- a run begins with a journal that is not turned, and a list that has no entry
pub turn_none : (h mark : ℕ) → Turn 0 h mark
turn_none h mark = record { low = omega arith; plain = λ l. refl }

pub known_when_noted : (len : ℕ) (p : List ℕ) (mark : ℕ) (posts near : List ℕ) (r : Bool) → NotedIs len p mark posts r → r ≡ true → Known len p mark posts near (length near) 0
known_when_noted len p mark posts near r w e = let noted : NotedIs len p mark posts true = rw e at w in noted near

pub torn_when_not_noted : (len : ℕ) (p : List ℕ) (mark : ℕ) (posts : List ℕ) (r : Bool) → NotedIs len p mark posts r → r ≡ false → rows_of len p mark ≡ torn
torn_when_not_noted len p mark posts r w e = rw e at w

-- ---- records are known by their bytes
rows_when_bytes : (len : ℕ) (j : List ℕ) (mark : ℕ) (rs : List Row) → len ≤ 2 ^ 32 → AllGood len rs → mark ≤ length j → take mark j ≡ rows_bytes rs → rows_of len j mark ≡ rows rs
rows_when_bytes len j mark rs fits good inside e =
    let size : mark ≡ length (rows_bytes rs) = omega (arith, ap length e, length-take-le mark j inside) in
    ap (rows_of len j) size ∙ rows_of_bytes len j rs fits good (back_as_reverse j (length (rows_bytes rs)) ∙ ap reverse (ap (λ (m : ℕ). take m j) (sym size) ∙ e))

-- ---- one record more
module _ (len : ℕ) (j : List ℕ) (mark : ℕ) (posts near : List ℕ) (i base : ℕ) (r : Row) (x : Known len j mark posts near i base) (fits : len ≤ 2 ^ 32) (room : mark + length (row_bytes r) ≤ length j) (good : Good len r) where
  abbrev all : List Row
  all = x.index.all

  abbrev then : List Row
  then = all ++ r ∷ []

  abbrev j' : List ℕ
  j' = written j mark (row_bytes r)

  abbrev mark' : ℕ
  mark' = mark + length (row_bytes r)

  text : take mark' j' ≡ rows_bytes then
  text =
      take_written j mark (row_bytes r) room
      ∙ ap (λ (l : List ℕ). l ++ row_bytes r) x.index.bytes
      ∙ sym (rows_bytes_append all (r ∷ []) ∙ ap (λ (l : List ℕ). rows_bytes all ++ l) (append-nil (row_bytes r)))

  good_then : AllGood len then
  good_then = good_append len all (r ∷ []) x.index.good (good, tt)

  read_then : rows_of len j' mark' ≡ rows then
  read_then = rows_when_bytes len j' mark' then fits good_then (omega (arith, length_written j mark (row_bytes r) room)) text

  size : length (rows_bytes all) ≡ mark
  size = omega (arith, ap length x.index.bytes, length-take-le mark j (omega arith))

  -- a start stays one
  start_stays : (y : ℕ) → IsStart base all y → IsStart base then y
  start_stays y o =
      let same : take o.0 then ≡ take o.0 all = take-append-le o.0 all (r ∷ []) (omega (arith, o.1)) in
      (o.0, omega (arith, o.1, length-append all (r ∷ [])), o.2 ∙ ap (λ (l : List Row). base + length (rows_bytes l)) (sym same))

  -- and the mark is where the new record starts
  start_new : IsStart base then (base + mark)
  start_new =
      let same : take (length all) then ≡ all = take-append_seam all (r ∷ []) in
      (length all, omega (arith, length-append all (r ∷ [])), omega (arith, size, ap (λ (l : List Row). length (rows_bytes l)) same))

  pub known_after_step : (k : ℕ) → Known len j' mark' (set posts k (base + mark)) near i base
  known_after_step k =
      record {
        order = x.order;
        index =
            record {
              all = then;
              read = read_then;
              bytes = text;
              good = good_then;
              few = omega (arith, x.index.few, length-append all (r ∷ []));
              known = x.index.known ∙ sym (take_starts base (length near - i) all r x.index.few);
            };
        posts_ok =
            record {
              start = λ rs e m l lo hi.
                  let both : rows then ≡ rows rs = sym read_then ∙ e in
                  let same : then ≡ rs = cc in
                  subst (λ (l : List Row). IsStart base l (get_or (set posts k (base + mark)) m 0)) same
                  (entry_of_set (λ (y : ℕ). base ≤ y → y < no_post → IsStart base then y) posts k (base + mark) m l
                  (λ lo hi. start_new)
                  (λ lo hi. start_stays (get_or posts m 0) (x.posts_ok.start all x.index.read m (omega (arith, length-set posts k (base + mark))) lo hi))
                  lo hi);
            };
      }

-- the same on a turned journal
pub held_after_step : (len b h : ℕ) (p : List ℕ) (mark : ℕ) (posts near : List ℕ) (i base : ℕ) (r : Row) → Known len (turned b h p) mark posts near i base → len ≤ 2 ^ 32 → Turn b h mark → h ≤ length p → mark + length (row_bytes r) ≤ length p → Good len r
    → (k : ℕ) → Known len (turned b h (written p mark (row_bytes r))) (mark + length (row_bytes r)) (set posts k (base + mark)) near i base
held_after_step len b h p mark posts near i base r x fits t top room good k =
    subst (λ (l : List ℕ). Known len l (mark + length (row_bytes r)) (set posts k (base + mark)) near i base) (written_turned b h p mark (row_bytes r) t top room)
    (known_after_step len (turned b h p) mark posts near i base r x fits (omega (arith, length_turned b h p t.low top)) good k)
