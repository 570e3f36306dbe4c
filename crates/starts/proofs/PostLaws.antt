-- PostLaws.antt - the way back from the mark to place 0, where starts are noted as posts: one law for each turn or return of the code.
-- * entry_of_set: an entry once one more is noted.   * noting_start, noting_torn, noting_more, noting_end: the loop of note_all.
-- Speaks of: rows_of of oldest, PostsOk, Known and NotedIs of specs/Starts.antt.
-- Assumes nothing.  Source: [K5], [ours].
use Prim.Native.Nat.{ℕ, suc, ◌+◌, ◌-◌, ◌≤◌, ◌<◌}
use mathlib.Core.Path.{◌≡◌, refl, sym, ap, ◌∙◌, subst}
use mathlib.Core.Bool.{Bool, true, false}
use mathlib.Core.List.{List, [], ◌∷◌}
use native.Mathlib.Omega.{arith}
use lib.ListN.{length, get_or, set, take, length-append, length-set}
use lib.Seq.{slice_empty, get_or-set_same, get_or-set_other}
use lib.Dec.{eqb}
use borrow.Author.Tests.{eqb-true, eqb-false}
use Rattle.numbers.specs.Number.{back}
use Rattle.record.specs.Change.{Change}
use Rattle.undo.specs.Undo.{found, none, shaped_record}
use Rattle.oldest.specs.Room.{Row, row_bytes, rows_bytes, rows, torn, read_rows, rows_of}
use Rattle.oldest.proofs.WayLaws.{octets_back, way_torn, way_more, way_end, length_of_record}
use Rattle.oldest.proofs.RowLaws.{AllGood, bytes_of_rows}
use Rattle.starts.specs.Starts.{starts_of, IsStart, Indexed, no_post, NotedIs}

-- ---- the way back to place e, where acc was read
pub record Walked (len : ℕ) (j : List ℕ) (mark e : ℕ) (acc : List Row) : Type 0 where
  pub fuel : ℕ
  pub enough : e ≤ fuel
  pub low : e ≤ mark
  pub way : rows_of len j mark ≡ read_rows (shaped_record len) fuel (back j e) acc

walked_start : (len : ℕ) (j : List ℕ) (mark : ℕ) → Walked len j mark mark []
unfolding rows_of
walked_start len j mark = record { fuel = mark; enough = omega arith; low = omega arith; way = refl }

module _ (len : ℕ) (j : List ℕ) (mark e : ℕ) (acc : List Row) (inside : mark ≤ length j) (some : 0 < e) (w : Walked len j mark e acc) where
  walked_torn : shaped_record len (back j e) ≡ none → rows_of len j mark ≡ torn
  walked_torn q = w.way ∙ way_torn (shaped_record len) j e some (omega (arith, w.low)) w.fuel acc w.enough q

  walked_more : (ss bs : List Change) (s : ℕ) → s < e → shaped_record len (back j e) ≡ found ss bs (back j s) → Walked len j mark s (record { slots = ss; bytes = bs } ∷ acc)
  walked_more ss bs s less q =
      record {
        fuel = w.fuel - 1;
        enough = omega (arith, w.enough);
        low = omega (arith, w.low);
        way = w.way ∙ way_more (shaped_record len) j e some (omega (arith, w.low)) w.fuel acc w.enough ss bs s q;
      }

walked_end : (len : ℕ) (j : List ℕ) (mark e : ℕ) (acc : List Row) → Walked len j mark e acc → e ≡ 0 → rows_of len j mark ≡ rows acc
walked_end len j mark e acc w z = w.way ∙ way_end (shaped_record len) w.fuel j e acc z

-- ---- an entry, once x is noted at entry k
pub entry_of_set : (P : ℕ → Type 0) (l : List ℕ) (k x q : ℕ) → q < length (set l k x) → P x → P (get_or l q 0) → P (get_or (set l k x) q 0)
entry_of_set P l k x q h new old = go (eqb q k) refl
  where
    go : (t : Bool) → eqb q k ≡ t → P (get_or (set l k x) q 0)
    go true e =
        let same = eqb-true q k e in
        let there : get_or (set l k x) q 0 ≡ x = ap (λ (m : ℕ). get_or (set l k x) m 0) same ∙ get_or-set_same l k x 0 (omega (arith, length-set l k x)) in
        subst P (sym there) new
    go false e = subst P (sym (get_or-set_other l k q x 0 (eqb-false q k e))) old

-- ---- a list with no entry says nothing but that all records were read
pub indexed_none : (len : ℕ) (j : List ℕ) (mark : ℕ) (index : List ℕ) (n base : ℕ) (rs : List Row) → rows_of len j mark ≡ rows rs → take mark j ≡ rows_bytes rs → AllGood len rs → Indexed len j mark index n n base
indexed_none len j mark index n base rs read bytes good =
    record { all = rs; read = read; bytes = bytes; good = good; few = omega arith; known = slice_empty n index ∙ sym (take_none (n - n) (omega arith)) }
  where
    take_none : (m : ℕ) → m ≡ 0 → take m (starts_of base rs) ≡ []
    take_none m e = rw e

-- ---- noting on the way back: every entry is no_post, or where one of the records that were read starts
pub record Noting (len : ℕ) (j : List ℕ) (mark e : ℕ) (posts : List ℕ) : Type 0 where
  pub acc : List Row
  pub walked : Walked len j mark e acc
  pub noted : (k : ℕ) → k < length posts → (e ≤ get_or posts k 0) × (get_or posts k 0 < no_post → IsStart e acc (get_or posts k 0))

pub noting_start : (len : ℕ) (j : List ℕ) (mark : ℕ) (posts : List ℕ) → mark ≤ no_post → ((k : ℕ) → k < length posts → get_or posts k 0 ≡ no_post) → Noting len j mark mark posts
noting_start len j mark posts fits clear =
    record { acc = []; walked = walked_start len j mark; noted = λ k h. (omega (arith, clear k h), λ l. absurd (omega (arith, clear k h))) }

module _ (len : ℕ) (j : List ℕ) (mark e : ℕ) (posts : List ℕ) (inside : mark ≤ length j) (some : 0 < e) (w : Noting len j mark e posts) where
  pub noting_torn : shaped_record len (back j e) ≡ none → NotedIs len j mark posts false
  noting_torn q = walked_torn len j mark e w.acc inside some w.walked q

  module _ (octets : (k : ℕ) → get_or j k 0 < 256) (ss bs : List Change) (s : ℕ) (less : s < e) (q : shaped_record len (back j e) ≡ found ss bs (back j s)) where
    abbrev row : Row
    row = record { slots = ss; bytes = bs }

    starts : s + length (row_bytes row) ≡ e
    starts =
        let ends : e ≤ length j = omega (arith, w.walked.low) in
        length_of_record len j e s ends (omega arith) (octets_back j octets e ends) ss bs q

    older : (x : ℕ) → IsStart e w.acc x → IsStart s (row ∷ w.acc) x
    older x o = (suc o.0, omega (arith, o.1), omega (arith, o.2, starts, length-append (row_bytes row) (rows_bytes (take o.0 w.acc))))

    pub noting_more : (k : ℕ) (posts' : List ℕ) → posts' ≡ set posts k s → Noting len j mark s posts'
    noting_more k posts' is =
        subst (Noting len j mark s) (sym is)
        (record {
          acc = row ∷ w.acc;
          walked = walked_more len j mark e w.acc inside some w.walked ss bs s less q;
          noted =
              λ m h.
              entry_of_set (λ (x : ℕ). (s ≤ x) × (x < no_post → IsStart s (row ∷ w.acc) x)) posts k s m h
              (omega arith, λ l. (0, omega arith, omega arith))
              (let o = w.noted m (omega (arith, length-set posts k s)) in (omega (arith, o.0), λ l. older (get_or posts m 0) (o.1 l)));
        })

pub noting_end : (len : ℕ) (j : List ℕ) (mark e : ℕ) (posts : List ℕ) → mark ≤ length j → ((k : ℕ) → get_or j k 0 < 256) → Noting len j mark e posts → e ≡ 0 → NotedIs len j mark posts true
noting_end len j mark e posts inside octets w z = λ near.
    let read = walked_end len j mark e w.acc w.walked z in
    let g = bytes_of_rows len j mark w.acc read (octets_back j octets mark inside) in
    record {
      order = omega arith;
      index = indexed_none len j mark near (length near) 0 w.acc read g.0 g.1;
      posts_ok =
          record {
            start = λ rs e' k h l m.
                let both : rows w.acc ≡ rows rs = sym read ∙ e' in
                let same : w.acc ≡ rs = cc in
                let o = (w.noted k h).1 m in
                subst (λ (l : List Row). IsStart 0 l (get_or posts k 0)) same (subst (λ (a : ℕ). IsStart a w.acc (get_or posts k 0)) z o);
          };
    }
