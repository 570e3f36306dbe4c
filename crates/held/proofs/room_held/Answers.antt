-- By the list, by the list noted anew, or by the way back; posts go on after each.
use native.Mathlib.Omega.{arith}
use Rattle.starts.proofs.StartLaws.{entry_low}
use Rattle.held.proofs.HeldLaws.{held_done}
use Rattle.held.proofs.room_held.Goals as goal

pub first_kept-k-requires : goal.first_kept-k-requires
first_kept-k-requires c =
    let a = c.args in
    let k = c.requires.spread_nonzero.3 in
    (k.order, entry_low _ _ _ _ _ _ _ k.order (omega arith) k.index)

pub returns-then-k-near : goal.returns-then-k-near
returns-then-k-near c =
    let a = c.args in
    let m = c.requires.mark_in_bounds in
    let s = c.requires.mark_len_bound in
    let k = c.requires.spread_nonzero.3 in
    let d = c.drop_near in
    held_done _ _ _ _ _ m.1 m.2 m.0 s.0 s.1 m.3 _ _ _ _ k.index _ _ _ _ d.ensures k.posts_ok

pub first_kept-found-requires : goal.first_kept-found-requires
first_kept-found-requires c =
    let a = c.args in
    let f = c.refill-first in
    (f.ensures.order, entry_low _ _ _ _ _ _ _ f.ensures.order (omega arith) f.ensures.index)

pub returns-then-found-near : goal.returns-then-found-near
returns-then-found-near c =
    let a = c.args in
    let m = c.requires.mark_in_bounds in
    let s = c.requires.mark_len_bound in
    let k = c.requires.spread_nonzero.3 in
    let d = c.drop_near-then-found-near in
    held_done _ _ _ _ _ m.1 m.2 m.0 s.0 s.1 m.3 _ _ _ _ k.index _ _ _ _ d.ensures k.posts_ok

pub returns : goal.returns
returns c =
    let a = c.args in
    let m = c.requires.mark_in_bounds in
    let s = c.requires.mark_len_bound in
    let k = c.requires.spread_nonzero.3 in
    let d = c.drop_walked in
    held_done _ _ _ _ _ m.1 m.2 m.0 s.0 s.1 m.3 _ _ _ _ k.index _ _ _ _ d.ensures k.posts_ok
