-- What is kept begins at entry k.
use Rattle.held.proofs.HeldLaws.{near_cut, near_done}
use Rattle.held.proofs.drop_near.Goals as goal

pub drop_oldest-turned_by-requires : goal.drop_oldest-turned_by-requires
drop_oldest-turned_by-requires c =
    let m = c.requires.mark_in_bounds in
    let s = c.requires.mark_len_bound in
    let f = c.requires.i_in_bounds in
    (m.1, m.2, near_cut _ _ _ _ _ m.1 m.2 m.0 s.0 s.1 m.3 _ s.2 _ _ _ f.0 f.3 _ f.2 f.1, m.0)

pub overflow_sub-result : goal.overflow_sub-result
overflow_sub-result c =
    let m = c.requires.mark_in_bounds in
    let s = c.requires.mark_len_bound in
    let f = c.requires.i_in_bounds in
    near_cut _ _ _ _ _ m.1 m.2 m.0 s.0 s.1 m.3 _ s.2 _ _ _ f.0 f.3 _ f.2 f.1

pub returns : goal.returns
returns c =
    let m = c.requires.mark_in_bounds in
    let s = c.requires.mark_len_bound in
    let f = c.requires.i_in_bounds in
    let d = c.drop_oldest-turned_by in
    near_done _ _ _ _ _ m.1 m.2 m.0 s.0 s.1 m.3 _ s.2 _ _ _ f.0 f.3 _ f.2 f.1 _ _ d.ensures
