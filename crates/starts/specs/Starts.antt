-- Starts.antt - the places where records start; what a list of the oldest of them says, and a table of posts. Places are counted from base, the
-- bytes that a run has dropped. Not part of any promise: a run keeps them for itself.
-- Met by: src/posts.rt, src/near.rt.  Laws: proofs/StartLaws, SkipLaws, PostLaws, NearLaws; KeepLaws of the crate held.
-- Source: [K5], [ours].
use Rattle.std.specs.Prelude.{ℕ, zero, suc, ◌+◌, ◌-◌, ◌*◌, ◌/◌, ◌%◌, ◌^◌, ◌≤◌, ◌<◌, ◌≡◌, Bool, true, false, List, [], ◌∷◌, length, get_or, take, drop}
use Rattle.std.proofs.Math.Seq.{slice}
use Rattle.oldest.specs.Room.{Row, row_bytes, rows_bytes, rows, torn, rows_of}
use Rattle.oldest.proofs.RowLaws.{AllGood}

-- Where records start, the first at place at. [ours]
abbrev pub starts_of : ℕ → List Row → List ℕ
starts_of at [] = []
starts_of at (r ∷ rs) = at ∷ starts_of (at + length (row_bytes r)) rs

-- One of these records starts at x, the first of them at place at. [ours]
abbrev pub IsStart : ℕ → List Row → ℕ → Type 0
IsStart at rs x = (q : ℕ) × (q < length rs) × (x ≡ at + length (rows_bytes (take q rs)))

-- What is left of a journal that is read from its end, once k bytes below 128 are passed. [ours]
abbrev pub after_lows : ℕ → List ℕ → List ℕ
after_lows k [] = []
after_lows zero (x ∷ s) = x ∷ s
after_lows (suc k) (x ∷ s) = after_lows (suc k - (1 - x / 128)) s

-- What is left once a record is passed: its two counts, and two numbers for each change. Of the bytes of a number the first, and no other,
-- is below 128. [01 The journal]
abbrev pub before_record : List ℕ → List ℕ
before_record [] = []
before_record (n ∷ []) = []
before_record (n ∷ m ∷ s) = after_lows (2 * (m + n)) s

-- ---- what a run knows of its journal

-- Entries i to n of a list are the starts of the oldest records below the mark. [ours]
pub record Indexed (len : ℕ) (j : List ℕ) (mark : ℕ) (index : List ℕ) (i n base : ℕ) : Type 0 where
  pub all : List Row
  pub read : rows_of len j mark ≡ rows all
  pub bytes : take mark j ≡ rows_bytes all
  pub good : AllGood len all
  pub few : n - i ≤ length all
  pub known : slice i n index ≡ take (n - i) (starts_of base all)

-- What an entry of posts holds at which nothing is noted: no journal has this place. [ours]
abbrev pub no_post : ℕ
no_post = 2 ^ 64 - 1

-- Every entry of posts at which something is noted that was not dropped is where a record starts. [ours]
pub record PostsOk (len : ℕ) (j : List ℕ) (mark base : ℕ) (posts : List ℕ) : Type 0 where
  pub start : (rs : List Row) → rows_of len j mark ≡ rows rs → (k : ℕ) → k < length posts → base ≤ get_or posts k 0 → get_or posts k 0 < no_post → IsStart base rs (get_or posts k 0)

-- Both: the list near from entry i on, and the posts. [ours]
pub record Known (len : ℕ) (j : List ℕ) (mark : ℕ) (posts near : List ℕ) (i base : ℕ) : Type 0 where
  pub order : i ≤ length near
  pub index : Indexed len j mark near i (length near) base
  pub posts_ok : PostsOk len j mark base posts

-- ---- what the code's answers say

-- The entry at which the start x is noted. [ours]
abbrev pub post_place : ℕ → ℕ → ℕ → ℕ
post_place spread count x = x / spread % count

-- x is one of the entries. [ours]
abbrev pub IsEntry : List ℕ → ℕ → Type 0
IsEntry posts x = (k : ℕ) × (k < length posts) × (x ≡ get_or posts k 0)

-- All records were read, and posts are noted, with any list that has no entry yet; or a record on the way back is not well shaped. [K5]
abbrev pub NotedIs : ℕ → List ℕ → ℕ → List ℕ → Bool → Type 0
NotedIs len j mark posts false = rows_of len j mark ≡ torn
NotedIs len j mark posts true = (near : List ℕ) → Known len j mark posts near (length near) 0

-- r is the first entry from i up to n that is at least need above base, or n. [ours]
pub record FirstIs (index : List ℕ) (i n base need r : ℕ) : Type 0 where
  pub low : i ≤ r
  pub high : r ≤ n
  pub before : (k : ℕ) → i ≤ k → k < r → get_or index k 0 - base < need
  pub here : r < n → need ≤ get_or index r 0 - base

-- The lower half of a full list stands from entry r on. [ours]
pub record HalfIs (near near' : List ℕ) (r : ℕ) : Type 0 where
  pub some : 0 < r
  pub high : r ≤ length near
  pub kept : slice r (length near) near' ≡ take (length near - r) near

-- The list from entry i on, or of a full one the oldest starts, stands above entry r. [ours]
pub record BelowIs (near : List ℕ) (i : ℕ) (near' : List ℕ) (r : ℕ) : Type 0 where
  pub low : r < length near
  pub few : length near - suc r ≤ length near - i
  pub kept : slice (suc r) (length near) near' ≡ take (length near - suc r) (drop i near)

-- A post from which the list can be noted anew: one of the records starts there. [ours]
pub record FillFrom (len : ℕ) (j : List ℕ) (mark base post : ℕ) : Type 0 where
  pub all : List Row
  pub read : rows_of len j mark ≡ rows all
  pub bytes : take mark j ≡ rows_bytes all
  pub good : AllGood len all
  pub start : IsStart base all post
  pub below : post - base ≤ mark

-- The list from entry r on. [ours]
pub record FilledIs (len : ℕ) (j : List ℕ) (mark base : ℕ) (near : List ℕ) (r : ℕ) : Type 0 where
  pub order : r ≤ length near
  pub index : Indexed len j mark near r (length near) base
