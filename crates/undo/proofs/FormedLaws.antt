-- FormedLaws.antt - well-formed finds a record exactly where one is Formed, and there is at most one: what refusal 8 of undo means.
-- Speaks of: Formed of specs/Formed.antt, well-formed of specs/Undo.antt.
-- Assumes, each where it says so: a journal of bytes, and a memory of at most 2 ^ 32 bytes.  Source: [01 The journal].
use Prim.Native.Nat.{ℕ, zero, suc, ◌+◌, ◌^◌, ◌≤◌, ◌<◌}
use mathlib.Core.Path.{◌≡◌, refl, sym, ap, ◌∙◌}
use mathlib.Core.Bool.{Bool, true, false, not}
use mathlib.Core.List.{List, [], ◌∷◌, ◌++◌, reverse, reverse_aux, reverse-append}
use native.Mathlib.Omega.{arith}
use lib.ListN.{length, get_or, take, length-append, length-reverse}
use lib.Seq.{length-take-le, take_all, take_at, take-take}
use lib.Dec.{eqb, leb}
use borrow.Author.Tests.{lt-ltb, ltb-true, ne_eqb, eqb-false, leb-true, leb-false, not-true}
use Rattle.bits.proofs.BitsLaws.{and_left, and_right}
use Rattle.numbers.specs.Number.{back}
use Rattle.numbers.proofs.NumberLaws.{Bytes}
use Rattle.record.specs.Limits.{slot_limit, valid_value, valid_byte, Each, ValidBytes}
use Rattle.record.specs.Change.{Change, Ascending, record_of}
use Rattle.record.proofs.DiffLaws.{Small}
use Rattle.undo.specs.Undo.{Record, found, none, read_record, all_valid, differs, well_formed}
use Rattle.undo.specs.Formed.{Every, InOrder, Formed}
use Rattle.undo.proofs.JudgeLaws.{none_found, shaped_found, shaped_valid, well_formed_inv, well_formed_when}
use Rattle.undo.proofs.ShapeLaws.{sound_when_read, journal_of_shaped_record, record_not_empty, well_formed_below}
use Rattle.undo.proofs.UndoLaws.{read_of_record_of}

-- ---- the clauses, of one change and of each
abbrev Below : ℕ → Change → Type 0
Below hi c = c.place < hi

abbrev Under : ℕ → Change → Type 0
Under n c = c.old < n

abbrev Can : (ℕ → ℕ → Bool) → Change → Type 0
Can can c = can c.place c.old ≡ true

abbrev Unheld : List ℕ → Change → Type 0
Unheld m c = c.old ≡ get_or m c.place 0 → ⊥

every_implies : (P Q : Change → Type 0) → ((c : Change) → P c → Q c) → (cs : List Change) → Every P cs → Every Q cs
every_implies P Q f [] h = tt
every_implies P Q f (c ∷ cs) h = (f c h.0, every_implies P Q f cs h.1)

every_both : (P Q : Change → Type 0) (cs : List Change) → Every P cs → Every Q cs → Every (λ c. P c × Q c) cs
every_both P Q [] h k = tt
every_both P Q (c ∷ cs) h k = ((h.0, k.0), every_both P Q cs h.1 k.1)

-- the order, and the places below hi
in_order : (lo hi : ℕ) (cs : List Change) → Ascending lo hi cs → InOrder cs
in_order lo hi [] a = tt
in_order lo hi (c ∷ []) a = tt
in_order lo hi (c ∷ d ∷ cs) a = (omega (arith, a.2.0), in_order (suc c.place) hi (d ∷ cs) a.2)

places_below : (lo hi : ℕ) (cs : List Change) → Ascending lo hi cs → Every (Below hi) cs
places_below lo hi [] a = tt
places_below lo hi (c ∷ cs) a = (a.1, places_below (suc c.place) hi cs a.2)

ascending_from : (lo hi : ℕ) (c : Change) (cs : List Change) → lo ≤ c.place → InOrder (c ∷ cs) → Every (Below hi) (c ∷ cs) → Ascending lo hi (c ∷ cs)
ascending_from lo hi c [] h o b = (h, b.0, tt)
ascending_from lo hi c (d ∷ cs) h o b = (h, b.0, ascending_from (suc c.place) hi d cs (omega (arith, o.0)) o.1 b.1)

ascending_when : (hi : ℕ) (cs : List Change) → InOrder cs → Every (Below hi) cs → Ascending 0 hi cs
ascending_when hi [] o b = tt
ascending_when hi (c ∷ cs) o b = ascending_from 0 hi c cs (omega arith) o b

-- values that their places can hold
every_valid : (can : ℕ → ℕ → Bool) (cs : List Change) → all_valid can cs ≡ true → Every (Can can) cs
every_valid can [] e = tt
every_valid can (c ∷ cs) e =
    let this = can c.place c.old in
    (and_left this (all_valid can cs) e, every_valid can cs (and_right this (all_valid can cs) e))

valid_when : (can : ℕ → ℕ → Bool) (cs : List Change) → Every (Can can) cs → all_valid can cs ≡ true
valid_when can [] h = refl
valid_when can (c ∷ cs) h = rw (h.0, valid_when can cs h.1)

-- old values that are not the ones now held
every_differs : (m : List ℕ) (cs : List Change) → differs m cs ≡ true → Every (Unheld m) cs
every_differs m [] e = tt
every_differs m (c ∷ cs) e =
    let now = get_or m c.place 0 in
    let this = not (eqb c.old now) in
    (eqb-false c.old now (not-true (eqb c.old now) (and_left this (differs m cs) e)), every_differs m cs (and_right this (differs m cs) e))

differs_when : (m : List ℕ) (cs : List Change) → Every (Unheld m) cs → differs m cs ≡ true
differs_when m [] h = refl
differs_when m (c ∷ cs) h = rw (ne_eqb c.old (get_or m c.place 0) h.0, differs_when m cs h.1)

-- old values of 32 bits
every_small : (cs : List Change) → Small cs → Every (Under (2 ^ 32)) cs
every_small [] h = tt
every_small (c ∷ cs) h = (h.0, every_small cs h.1)

small_when : (cs : List Change) → Every (Under (2 ^ 32)) cs → Small cs
small_when [] h = tt
small_when (c ∷ cs) h = (h.0, small_when cs h.1)

-- ---- a journal of bytes, read from its end
bytes_aux : (k i : ℕ) (l acc : List ℕ) → Each (λ k v. v < 256) i l → Bytes acc → Bytes (reverse_aux (take k l) acc)
bytes_aux zero i l acc h a = a
bytes_aux (suc k) i [] acc h a = a
bytes_aux (suc k) i (x ∷ l) acc h a = bytes_aux k (suc i) l (x ∷ acc) h.1 (h.0, a)

bytes_of_back : (j : List ℕ) (mark : ℕ) → ValidBytes j → Bytes (back j mark)
unfolding back
bytes_of_back j mark b = bytes_aux mark 0 j [] b tt

module _ (slots memory j : List ℕ) (mark : ℕ) where
  -- ---- what is found is Formed, in a journal of bytes (a number above 255 would be read as a group, and no form has one)
  pub formed_when_found : ValidBytes j → (ss bs : List Change) (s : List ℕ) → well_formed slots memory j mark ≡ found ss bs s
      → Formed slots memory j mark (length s) ss bs
  formed_when_found b ss bs s e =
      let f = well_formed_inv slots memory j mark ss bs s e in
      let h = bytes_of_back j mark b in
      let v = shaped_valid (length memory) (back j mark) ss bs s f.1 in
      let r = sound_when_read (length memory) (back j mark) ss bs s v.0 h in
      let text = journal_of_shaped_record (length memory) j mark ss bs s f.1 h in
      let below = well_formed_below slots memory j mark ss bs s e h in
      let before : take (length s) j ≡ reverse s =
      sym (take-take (length s) mark j (omega (arith, below)))
      ∙ ap (take (length s)) text
      ∙ take_at (reverse s) (record_of ss bs) (length s) (length-reverse s) in
      record {
        in_journal = f.0;
        whole = text ∙ ap (λ (l : List ℕ). l ++ record_of ss bs) (sym before);
        slot_count = omega (arith, r.few_slots);
        byte_count = omega (arith, r.few_bytes);
        slot_order = in_order 0 slot_limit ss r.slots_ascend;
        byte_order = in_order 0 (length memory) bs r.bytes_ascend;
        slot_numbers = places_below 0 slot_limit ss r.slots_ascend;
        slot_values = every_both (Can valid_value) (Under (2 ^ 32)) ss (every_valid valid_value ss v.1) (every_small ss r.slots_small);
        addresses = places_below 0 (length memory) bs r.bytes_ascend;
        byte_values = every_implies (Can valid_byte) (Under 256) (λ c q. ltb-true c.old 256 q) bs (every_valid valid_byte bs v.2);
        slots_differ = every_differs slots ss f.2;
        bytes_differ = every_differs memory bs f.3;
      }

  module _ (start : ℕ) (ss bs : List Change) (f : Formed slots memory j mark start ss bs) where
    -- ---- a Formed record takes all from its start up to the mark
    pub start_of_formed : start + length (record_of ss bs) ≡ mark
    start_of_formed = go (leb start (length j)) refl
      where
        both : mark ≡ length (take start j) + length (record_of ss bs)
        both = sym (length-take-le mark j f.in_journal) ∙ ap length f.whole ∙ length-append (take start j) (record_of ss bs)

        go : (b : Bool) → leb start (length j) ≡ b → start + length (record_of ss bs) ≡ mark
        go true q = omega (arith, both, length-take-le start j (leb-true start (length j) q))
        go false q =
            let past = leb-false start (length j) q in
            absurd (omega (arith, both, f.in_journal, ap length (take_all start j (omega (arith, past))), record_not_empty ss bs))

    -- ---- what is Formed is found, with a memory whose addresses have 32 bits (longer numbers have no form)
    back_of_formed : back j mark ≡ reverse (record_of ss bs) ++ back j start
    unfolding back
    back_of_formed = ap reverse f.whole ∙ reverse-append (take start j) (record_of ss bs)

    pub found_when_formed : length memory ≤ 2 ^ 32 → well_formed slots memory j mark ≡ found ss bs (back j start)
    found_when_formed size =
        let values = every_implies (λ c. Can valid_value c × Under (2 ^ 32) c) (Can valid_value) (λ c q. q.0) ss f.slot_values in
        let words = every_implies (λ c. Can valid_value c × Under (2 ^ 32) c) (Under (2 ^ 32)) (λ c q. q.1) ss f.slot_values in
        let bytes = every_implies (Under 256) (Can valid_byte) (λ c q. lt-ltb c.old 256 q) bs f.byte_values in
        let small = every_implies (Under 256) (Under (2 ^ 32)) (λ c q. omega arith) bs f.byte_values in
        let reads : read_record (length memory) (back j mark) ≡ found ss bs (back j start) =
        ap (read_record (length memory)) back_of_formed
        ∙ read_of_record_of (length memory) ss bs (back j start) (omega (arith, f.slot_count)) (omega (arith, f.byte_count)) size
        (ascending_when slot_limit ss f.slot_order f.slot_numbers)
        (ascending_when (length memory) bs f.byte_order f.addresses)
        (small_when ss words)
        (small_when bs small) in
        well_formed_when slots memory j mark ss bs (back j start) (
          f.in_journal,
          shaped_found (length memory) (back j mark) ss bs (back j start) reads (valid_when valid_value ss values) (valid_when valid_byte bs bytes),
          differs_when slots ss f.slots_differ,
          differs_when memory bs f.bytes_differ,
        )

  -- ---- none is found exactly where none is Formed
  pub none_when_unformed : ValidBytes j → ((start : ℕ) (ss bs : List Change) → Formed slots memory j mark start ss bs → ⊥)
      → well_formed slots memory j mark ≡ none
  none_when_unformed b h = go (well_formed slots memory j mark) refl
    where
      go : (w : Record) → well_formed slots memory j mark ≡ w → w ≡ none
      go none q = refl
      go (found ss bs s) q = absurd (h (length s) ss bs (formed_when_found b ss bs s q))

  pub unformed_when_none : length memory ≤ 2 ^ 32 → well_formed slots memory j mark ≡ none
      → (start : ℕ) (ss bs : List Change) → Formed slots memory j mark start ss bs → ⊥
  unformed_when_none size e start ss bs f = none_found ss bs (back j start) (sym e ∙ found_when_formed start ss bs f size)

  -- ---- there is at most one
  pub formed_unique : length memory ≤ 2 ^ 32 → (start₁ start₂ : ℕ) (ss₁ bs₁ ss₂ bs₂ : List Change)
      → Formed slots memory j mark start₁ ss₁ bs₁ → Formed slots memory j mark start₂ ss₂ bs₂ → (start₁ ≡ start₂) × (ss₁ ≡ ss₂) × (bs₁ ≡ bs₂)
  formed_unique size start₁ start₂ ss₁ bs₁ ss₂ bs₂ f g =
      let both : found ss₁ bs₁ (back j start₁) ≡ found ss₂ bs₂ (back j start₂) =
      sym (found_when_formed start₁ ss₁ bs₁ f size) ∙ found_when_formed start₂ ss₂ bs₂ g size in
      let same_slots : ss₁ ≡ ss₂ = cc in
      let same_bytes : bs₁ ≡ bs₂ = cc in
      let same_length : length (record_of ss₁ bs₁) ≡ length (record_of ss₂ bs₂) = rw (same_slots, same_bytes) in
      (omega (arith, start_of_formed start₁ ss₁ bs₁ f, start_of_formed start₂ ss₂ bs₂ g, same_length), same_slots, same_bytes)
