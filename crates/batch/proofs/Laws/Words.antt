-- The moves that words stand for, one after the other.
use Rattle.std.specs.Prelude.{ℕ, zero, suc, ◌+◌, ◌*◌, ◌-◌, ◌/◌, ◌<◌, ◌≤◌, ◌≡◌, refl, Bool, true, false, List, [], ◌∷◌, ltb, length, take, drop, get_or}
use native.Mathlib.Omega.{arith}
use Rattle.std.proofs.Common.{sym, ◌∙◌, length-append, get_or-take, get_or-drop, drop-drop, length-take-le, lt-ltb, le-ltb}
use Rattle.std.proofs.Math.Path.{ap}
use Rattle.std.proofs.Math.Bool.{cond, not}
use Rattle.component.specs.Stored.{stored_word}
use Rattle.component.specs.Laws.Tests.{ltb-same}
use Rattle.model.specs.Lists.{all, each}
use Rattle.model.specs.Cells.{Cell, cell_in_range}
use Rattle.model.specs.Occupancy.{remove, move_to, events}
use Rattle.model.specs.Update.{most_events, last_next, too_many_events, out_of_range, few_ids}
use Rattle.model.proofs.Laws.Members.{each-length}
use Rattle.layout.specs.Widths.{move_width}
use Rattle.batch.specs.Words.{move_at, moves_in, batch_of, early}

-- The move of words that agree on five places.
same_move : (s t : List ℕ) (a b : ℕ) → ((j : ℕ) → j < move_width → get_or s (a + j) 0 ≡ get_or t (b + j) 0) → get_or s a 0 ≡ get_or t b 0 → move_at s a ≡ move_at t b
same_move s t a b h e =
    λ i. (e i, record { grid = h 1 (omega arith) i; z = stored_word (h 4 (omega arith) i); y = stored_word (h 3 (omega arith) i); x = stored_word (h 2 (omega arith) i) })

-- The first of some moves, and the others.
pub moves_more : (n : ℕ) (s : List ℕ) → moves_in (suc n) s ≡ move_at s 0 ∷ moves_in n (drop move_width s)
unfolding moves_in
moves_more n s =
    ap (λ (m : ℕ × Cell). m ∷ moves_in n (drop move_width s))
    (same_move (take move_width s) s 0 0 (λ j h. get_or-take move_width s (0 + j) 0 (omega arith)) (get_or-take move_width s 0 0 (omega arith)))

-- The move at a place, from that place on.
pub move-from : (s : List ℕ) (at : ℕ) → move_at (drop at s) 0 ≡ move_at s at
move-from s at =
    same_move (drop at s) s 0 at
    (λ j h. get_or-drop at s (0 + j) 0 ∙ ap (λ (k : ℕ). get_or s k 0) (let e : at + (0 + j) ≡ at + j = omega arith in e))
    (get_or-drop at s 0 0 ∙ ap (λ (k : ℕ). get_or s k 0) (let e : at + 0 ≡ at = omega arith in e))

-- The moves from the i-th on.
module _ (b : List ℕ) (from moves : ℕ) where
  abbrev pub moves_left : ℕ → List (ℕ × Cell)
  moves_left i = moves_in (moves - i) (drop (from + move_width * i) b)

  -- From the first on they are all.
  pub moves-start : moves_in moves (drop from b) ≡ moves_left 0
  moves-start =
      let e : moves ≡ moves - 0 = omega arith in
      let f : from ≡ from + move_width * 0 = omega arith in
      λ i. moves_in (e i) (drop (f i) b)

  -- The i-th, and those behind it.
  pub moves-step : (i : ℕ) → i < moves → moves_left i ≡ move_at b (from + move_width * i) ∷ moves_left (i + 1)
  moves-step i h =
      let e : moves - i ≡ suc (moves - (i + 1)) = omega arith in
      let f : from + move_width * i + move_width ≡ from + move_width * (i + 1) = omega arith in
      ap (λ (n : ℕ). moves_in n (drop (from + move_width * i) b)) e
      ∙ moves_more (moves - (i + 1)) (drop (from + move_width * i) b)
      ∙ (λ j. move-from b (from + move_width * i) j ∷ moves_in (moves - (i + 1)) (drop-drop move_width (from + move_width * i) b j))
      ∙ ap (λ (n : ℕ). move_at b (from + move_width * i) ∷ moves_in (moves - (i + 1)) (drop n b)) f

  -- Behind the last there is none.
  pub moves-end : (i : ℕ) → moves ≤ i → moves_left i ≡ []
  unfolding moves_in
  moves-end i h = ap (λ (n : ℕ). moves_in n (drop (from + move_width * i) b)) (let e : moves - i ≡ 0 = omega arith in e)

-- Words are too few where the removals alone need more.
pub lacks-some : (n r m : ℕ) → n < r → true ≡ ltb n (r + move_width * m)
lacks-some n r m h = sym (lt-ltb n (r + move_width * m) (omega arith))

-- Behind the removals there is space for a fifth as many moves.
pub lacks-moves : (n r m : ℕ) → r ≤ n → ltb ((n - r) / move_width) m ≡ ltb n (r + move_width * m)
lacks-moves n r m h = ltb-same ((n - r) / move_width) m n (r + move_width * m) (λ p. omega arith) (λ p. omega arith)

-- As many moves are read as asked for.
pub moves-length : (n : ℕ) (s : List ℕ) → length (moves_in n s) ≡ n
unfolding moves_in
moves-length zero s = refl
moves-length (suc n) s = ap suc (moves-length n (drop move_width s))

-- A batch has as many events as stated.
pub events-length : (s : List ℕ) (r m : ℕ) → r ≤ length s → length (events (batch_of s r m)) ≡ r + m
unfolding batch_of
events-length s r m h =
    length-append (each remove (take r s)) (each (λ (p : ℕ × Cell). move_to p.0 p.1) (moves_in m (drop r s)))
    ∙ (λ i. each-length remove (take r s) i + each-length (λ (p : ℕ × Cell). move_to p.0 p.1) (moves_in m (drop r s)) i)
    ∙ (λ i. length-take-le r s h i + moves-length m (drop r s) i)

module _ (next : ℕ) (s : List ℕ) (r m : ℕ) (h : r ≤ length s) where
  -- The first numbers of a batch, from what its words show.
  from-words : (a b c : Bool) → too_many_events (batch_of s r m) ≡ a → out_of_range (batch_of s r m) ≡ b → few_ids next ≡ c
      → cond a 3 (cond b 4 (cond c 5 0)) ≡ early next (batch_of s r m)
  unfolding early
  from-words a b c d e f = λ i. cond (sym d i) 3 (cond (sym e i) 4 (cond (sym f i) 5 0))

  few : (b : Bool) → ltb most_events (r + m) ≡ b → too_many_events (batch_of s r m) ≡ b
  few b e = ap (ltb most_events) (events-length s r m h) ∙ e

  out : (b : Bool) → all (λ (p : ℕ × Cell). cell_in_range p.1) (moves_in m (drop r s)) ≡ b → out_of_range (batch_of s r m) ≡ not b
  unfolding batch_of
  out b e = ap not e

  -- 3.
  pub early-many : most_events < r + m → 3 ≡ early next (batch_of s r m)
  early-many k = from-words true (out_of_range (batch_of s r m)) (few_ids next) (few true (lt-ltb most_events (r + m) k)) refl refl

  module _ (k : r + m ≤ most_events) where
    -- 4.
    pub early-out : all (λ (p : ℕ × Cell). cell_in_range p.1) (moves_in m (drop r s)) ≡ false → 4 ≡ early next (batch_of s r m)
    early-out e = from-words false true (few_ids next) (few false (le-ltb most_events (r + m) k)) (out false e) refl

    module _ (e : all (λ (p : ℕ × Cell). cell_in_range p.1) (moves_in m (drop r s)) ≡ true) where
      -- 5.
      pub early-late : last_next < next → 5 ≡ early next (batch_of s r m)
      early-late l = from-words false false true (few false (le-ltb most_events (r + m) k)) (out true e) (lt-ltb last_next next l)

      -- 0.
      pub early-none : next ≤ last_next → 0 ≡ early next (batch_of s r m)
      early-none l = from-words false false false (few false (le-ltb most_events (r + m) k)) (out true e) (le-ltb last_next next l)
