-- MadeLaws.antt - the laws that room_known cites: room that is there, and room that was made.
-- made_there, made_short.
-- Uses: record, oldest, turned, starts, held.
use Prim.Native.Nat.{ℕ, ◌-◌, ◌≤◌, ◌<◌}
use native.Mathlib.Omega.{arith}
use mathlib.Core.Path.{◌≡◌, refl, sym, ap, ◌∙◌}
use mathlib.Core.Bool.{true, false}
use mathlib.Core.List.{List}
use lib.ListN.{length, take, drop}
use lib.Seq.{length-take-le}
use lib.Dec.{ltb}
use borrow.Author.Tests.{ltb-true, ltb-false}
use Rattle.record.specs.Limits.{longest_record}
use Rattle.turned.specs.Turned.{turned}
use Rattle.turned.proofs.TurnLaws.{length_turned}
use Rattle.oldest.specs.declared.Room.{Room}
use Rattle.oldest.specs.Room.{Row, rows_bytes, rows, torn, RoomCall, without, dropped, missing, make_room}
use Rattle.oldest.proofs.RowLaws.{rows_count}
use Rattle.oldest.proofs.RoomLaws.{Made, there, refused, on_the_way, dropping, made_cases, dropped_most, room_when_there, room_enough, rows_split}
use Rattle.held.specs.declared.Held.{Held}
use Rattle.starts.specs.Starts.{Known}
use Rattle.held.specs.Held.{Turn, HeldIs}
use Rattle.full.specs.Full.{MadeIs}

module _ (len : ℕ) (p : List ℕ) (mark b h base : ℕ) (posts near : List ℕ) (i : ℕ) (low : mark ≤ length p) (top : h ≤ length p) (turn : Turn b h mark) (known : Known len (turned b h p) mark posts near i base) where
  size : length (turned b h p) ≡ length p
  size = length_turned b h p turn.low top

  pub made_there : ltb (length p - mark) longest_record ≡ false → MadeIs len (turned b h p) mark h base p posts near (record { mark = mark; moved = 0; dropped = 0; b = b; i = i; base = base })
  made_there e =
      let room = ltb-false (length p - mark) longest_record e in
      let same = room_when_there len (turned b h p) mark (omega (arith, size)) in
      record {
        journal = sym (ap (λ (c : RoomCall). c.j) same);
        answer = ap (λ (c : RoomCall). c.a) same;
        inside = omega (arith, size);
        turn = turn;
        sum = refl;
        weighs = omega arith;
        known = known;
      }

  module _ (long : longest_record ≤ length p) (e : ltb (length p - mark) longest_record ≡ true) (p₁ near₁ : List ℕ) (r : Held) (is : HeldIs len (turned b h p) mark h base p₁ posts near₁ r) where
    -- what was dropped, by the records that were read
    abbrev all : List Row
    all = known.index.all

    abbrev count : ℕ
    count = dropped (missing (turned b h p) mark) 0 all

    made_is : make_room len (turned b h p) mark ≡ without count all (turned b h p)
    made_is = go (made_cases len (turned b h p) mark)
      where
        short : length (turned b h p) - mark < longest_record
        short = let s = ltb-true (length p - mark) longest_record e in omega (arith, size)

        go : Made len (turned b h p) mark → make_room len (turned b h p) mark ≡ without count all (turned b h p)
        go (there q f) = absurd (omega (arith, short))
        go (refused q s f) = absurd (omega (arith, size))
        go (on_the_way q s t f) = absurd (let no_way : rows all ≡ torn = sym known.index.read ∙ t in let z : ◌≡◌ {A = ℕ} 0 1 = cc in omega arith)
        go (dropping q s rs t f) =
            let both : rows rs ≡ rows all = sym t ∙ known.index.read in
            let same : rs ≡ all = cc in
            rw same at f

    pub made_short : MadeIs len (turned b h p) mark h base p₁ posts near₁ (record { mark = r.mark; moved = r.mark; dropped = r.dropped; b = r.b; i = r.i; base = r.base })
    made_short =
        let s = ltb-true (length p - mark) longest_record e in
        let inside : mark ≤ length (turned b h p) = omega (arith, size) in
        let told = sym is.answer ∙ ap (λ (c : RoomCall). c.a) made_is in
        let mark_is : r.mark ≡ length (rows_bytes (drop count all)) = ap (λ (a : Room). a.mark) told in
        let count_is : r.dropped ≡ count = ap (λ (a : Room). a.dropped) told in
        let enough = room_enough (turned b h p) mark inside all known.index.bytes (omega (arith, size)) (omega (arith, size)) in
        let split = rows_split (turned b h p) mark inside all known.index.bytes count in
        let few = rows_count (take count all) in
        let gone = length-take-le count all (dropped_most (missing (turned b h p) mark) 0 all) in
        record {
          journal = is.journal;
          answer = is.answer;
          inside = omega (arith, enough, mark_is, split, inside);
          turn = is.turn;
          sum = is.sum;
          weighs = omega (arith, mark_is, count_is, split, few, gone, is.sum);
          known = is.known;
        }
