-- WayLaws.antt - the way back from the mark to place 0, one law for each turn or return of the code.
-- Speaks of: rows_of, dropped and CutIs of specs/Room.antt.
-- Assumes nothing.  Source: [K5].
use Rattle.std.proofs.Common.{◌≡◌, ℕ, zero, suc, ◌+◌, ◌-◌, ◌<◌, ◌≤◌, Bool, true, false, ltb, List, [], ◌∷◌, ◌++◌, length, get_or, take, drop, sym, refl, ap, ◌∙◌, add-one, arith, length-take-le, drop_at, le-ltb, lt-ltb}
use mathlib.Core.List.{reverse-reverse}
use lib.Seq.{slice, slice_empty, length-slice}
use Rattle.bits.specs.Bits.{pick}
use Rattle.numbers.specs.Number.{back}
use Rattle.numbers.proofs.NumberLaws.{Bytes}
use Rattle.numbers.proofs.WrittenLaws.{back_suc}
use Rattle.record.specs.Change.{Change, record_of}
use Rattle.undo.specs.Undo.{Record, found, none, shaped_record}
use Rattle.undo.proofs.ReadLaws.{length_back}
use Rattle.undo.proofs.ShapeLaws.{journal_of_shaped_record}
use Rattle.oldest.specs.Room.{Row, row_bytes, rows_bytes, Way, rows, torn, at_end, more_rows, read_rows, rows_of, dropped, CutIs}
use Rattle.oldest.specs.declared.Cut.{Cut}
use Rattle.std.specs.Prelude.{Option, Some, None}
use Rattle.oldest.proofs.MoveLaws.{slice_join}

-- ---- a journal is bytes
pub back_none : (j : List ℕ) → back j 0 ≡ []
unfolding back
back_none j = refl

pub octets_back : (j : List ℕ) → ((k : ℕ) → get_or j k 0 < 256) → (e : ℕ) → e ≤ length j → Bytes (back j e)
octets_back j b zero h = rw (back_none j) tt
octets_back j b (suc e) h = rw (back_suc j e (omega arith)) (b e, octets_back j b e (omega arith))

-- ---- one record of the way, however it is read
module _ (read : List ℕ → Record) (j : List ℕ) (e : ℕ) (some : 0 < e) (inside : e ≤ length j) where
  not_end : (a b : Way) → at_end (back j e) a b ≡ b
  not_end a b = go (back j e) (length_back j e inside)
    where
      go : (s : List ℕ) → length s ≡ e → at_end s a b ≡ b
      go [] q = absurd (omega arith)
      go (x ∷ s) q = refl

  pub way_torn : (f : ℕ) (acc : List Row) → e ≤ f → read (back j e) ≡ none → read_rows read f (back j e) acc ≡ torn
  way_torn zero acc h q = absurd (omega arith)
  way_torn (suc f) acc h q = not_end (rows acc) (more_rows (read_rows read f) acc (read (back j e))) ∙ ap (more_rows (read_rows read f) acc) q

  pub way_more : (f : ℕ) (acc : List Row) → e ≤ f → (ss bs : List Change) (s : ℕ) → read (back j e) ≡ found ss bs (back j s)
      → read_rows read f (back j e) acc ≡ read_rows read (f - 1) (back j s) (record { slots = ss; bytes = bs } ∷ acc)
  way_more zero acc h ss bs s q = absurd (omega arith)
  way_more (suc f) acc h ss bs s q =
      let one_less : f ≡ suc f - 1 = omega arith in
      not_end (rows acc) (more_rows (read_rows read f) acc (read (back j e)))
      ∙ ap (more_rows (read_rows read f) acc) q
      ∙ ap (λ (k : ℕ). read_rows read k (back j s) (record { slots = ss; bytes = bs } ∷ acc)) one_less

pub way_end : (read : List ℕ → Record) (f : ℕ) (j : List ℕ) (e : ℕ) (acc : List Row) → e ≡ 0 → read_rows read f (back j e) acc ≡ rows acc
unfolding back
way_end read zero j e acc z = rw z
way_end read (suc f) j e acc z = rw z

-- ---- the bytes of a record that was read, and where it starts
module _ (len : ℕ) (j : List ℕ) (e s : ℕ) (inside : e ≤ length j) (low : s ≤ e) (octets : Bytes (back j e)) (ss bs : List Change)
    (q : shaped_record len (back j e) ≡ found ss bs (back j s)) where
  pub part_of_record : slice s e j ≡ record_of ss bs
  unfolding back
  part_of_record =
      ap (drop s) (journal_of_shaped_record len j e ss bs (back j s) q octets)
      ∙ ap (λ (x : List ℕ). drop s (x ++ record_of ss bs)) (reverse-reverse (take s j))
      ∙ drop_at (take s j) (record_of ss bs) s (length-take-le s j (omega arith))

  pub length_of_record : s + length (record_of ss bs) ≡ e
  length_of_record = omega (arith, ap length part_of_record, length-slice s e j inside)

-- ---- the loop: what was seen from place e on
pub record Seen (len : ℕ) (j : List ℕ) (mark need e from n : ℕ) : Type 0 where
  pub fuel : ℕ
  pub rest : List Row
  pub enough : e ≤ fuel
  pub high : from ≤ mark
  pub few : n + e ≤ mark
  pub way : rows_of len j mark ≡ read_rows (shaped_record len) fuel (back j e) rest
  pub count : n ≡ dropped need e rest
  pub all : slice e mark j ≡ rows_bytes rest
  pub kept : slice from mark j ≡ rows_bytes (drop n rest)

pub seen_start : (len : ℕ) (j : List ℕ) (mark need : ℕ) → Seen len j mark need mark mark 0
unfolding rows_of
seen_start len j mark need =
    record {
      fuel = mark;
      rest = [];
      enough = omega arith;
      high = omega arith;
      few = omega arith;
      way = refl;
      count = refl;
      all = slice_empty mark j;
      kept = slice_empty mark j;
    }

module _ (len : ℕ) (j : List ℕ) (mark need e from n : ℕ) (inside : mark ≤ length j) (some : 0 < e) (w : Seen len j mark need e from n) where
  pub seen_torn : shaped_record len (back j e) ≡ none → CutIs len j mark need None
  seen_torn q = w.way ∙ way_torn (shaped_record len) j e some (omega (arith, w.few)) w.fuel w.rest w.enough q

  module _ (octets : (k : ℕ) → get_or j k 0 < 256) (ss bs : List Change) (s : ℕ) (less : s < e)
      (q : shaped_record len (back j e) ≡ found ss bs (back j s)) where
    abbrev row : Row
    row = record { slots = ss; bytes = bs }

    ends : e ≤ length j
    ends = omega (arith, w.few)

    starts : s + length (row_bytes row) ≡ e
    starts = length_of_record len j e s ends (omega arith) (octets_back j octets e ends) ss bs q

    joined : slice s mark j ≡ rows_bytes (row ∷ w.rest)
    joined =
        slice_join j s e mark (omega arith) (omega (arith, w.few)) inside
        ∙ ap (λ (x : List ℕ). x ++ slice e mark j) (part_of_record len j e s ends (omega arith) (octets_back j octets e ends) ss bs q)
        ∙ ap (λ (x : List ℕ). row_bytes row ++ x) w.all

    seen_by : (t : Bool) → ltb s need ≡ t → Seen len j mark need s (pick t from s) (pick t (n + 1) 0)
    seen_by true t =
        record {
          fuel = w.fuel - 1;
          rest = row ∷ w.rest;
          enough = omega (arith, w.enough);
          high = w.high;
          few = omega (arith, w.few);
          way = w.way ∙ way_more (shaped_record len) j e some ends w.fuel w.rest w.enough ss bs s q;
          count = rw (t, starts, ← w.count) (add-one n);
          all = joined;
          kept = w.kept ∙ ap (λ (k : ℕ). rows_bytes (drop k (row ∷ w.rest))) (sym (add-one n));
        }
    seen_by false t =
        record {
          fuel = w.fuel - 1;
          rest = row ∷ w.rest;
          enough = omega (arith, w.enough);
          high = omega (arith, w.few);
          few = omega (arith, w.few);
          way = w.way ∙ way_more (shaped_record len) j e some ends w.fuel w.rest w.enough ss bs s q;
          count = rw t;
          all = joined;
          kept = joined;
        }

    -- by whether the record that starts there goes
    pub seen_goes : s < need → Seen len j mark need s from (n + 1)
    seen_goes h = seen_by true (lt-ltb s need h)

    pub seen_stays : need ≤ s → Seen len j mark need s s 0
    seen_stays h = seen_by false (le-ltb s need h)

pub seen_end : (len : ℕ) (j : List ℕ) (mark need e from n : ℕ) → Seen len j mark need e from n → e ≡ 0 → CutIs len j mark need (Some (record { from = from; dropped = n }))
seen_end len j mark need e from n w z = (
  w.rest,
  w.way ∙ way_end (shaped_record len) w.fuel j e w.rest z,
  w.count ∙ ap (λ (k : ℕ). dropped need k w.rest) z,
  w.high,
  w.kept,
)

pub cut_low : (len : ℕ) (j : List ℕ) (mark need : ℕ) (r : Option Cut) → CutIs len j mark need r → (c : Cut) → r ≡ Some c → c.from ≤ mark
cut_low len j mark need r w c e = from_cut (rw e at w)
  where
    from_cut : CutIs len j mark need (Some c) → c.from ≤ mark
    from_cut x = x.3
