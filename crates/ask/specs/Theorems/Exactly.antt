-- For each question: its number is given exactly when document 01's table says so.
use Rattle.std.specs.Prelude.{ℕ, refl, true, false, cond, ◌&&◌, List, ◌++◌, eqb, length, drop}
use Rattle.std.proofs.Math.Bool.{Bool}
use Rattle.std.proofs.Math.Option.{Option, none, some}
use Rattle.std.proofs.Math.Dec.{ltb}
use Rattle.component.specs.declared.CellId.{CellId}
use Rattle.component.specs.Coord.{coord_in_range, bad_axis}
use Rattle.component.specs.Stored.{stored, cell_id}
use Rattle.refusal.specs.Forms.{Refused}
use Rattle.refusal.specs.Forms as form
use Rattle.model.specs.Lists.{has, gather}
use Rattle.model.specs.Cells.{Cell, same}
use Rattle.model.specs.Occupancy.{occupied}
use Rattle.model.specs.Flood.{flood}
use Rattle.model.specs.Update.{touch_of}
use Rattle.model.specs.Questions.{where_is, neighbour_count, group_by, entities_in, id_list, nearby, cube}
use Rattle.model.specs.Questions as question
use Rattle.model.specs.Shortest.{shown_path}
use Rattle.layout.specs.State.{decode}
use Rattle.layout.specs.Points.{long_enough, consistent_words}
use Rattle.neighbourhood.specs.Answers.{answer_words}
use Rattle.path.specs.Walks.{cells_of}
use Rattle.told.specs.Told.{Told, done, too_long, refused, seen, fitted}
use Rattle.told.specs.Exactly.{Exactly, ExactlyPath}
use Rattle.lookups.specs.Told.{shown_of}
use Rattle.lists.specs.Told.{path_from, is_shown}
use Rattle.floods.specs.Told.{Depth, visited, depth_of}
use Rattle.consistent.specs.Answer.{state_refusal}
use Rattle.ask.specs.Answers.{cell_refusal, cells_refusal, kind_of, where_of, id_of, count_of, group_of, ids_of, occupied_of, emptied_of, entities_of, nearby_of, cube_of, flood_of, path_of}
use Rattle.ask.specs.Laws.Told.{by-cell, lookup-exactly, cell-exactly, list-exactly, cell-list-exactly}

pub kind-exactly : (w : List ℕ) → Exactly (kind_of w).number (long_enough w) (consistent_words w) true false
unfolding kind_of
kind-exactly w = lookup-exactly w (decode w).kind

pub where-exactly : (w : List ℕ) (e : ℕ) → Exactly (where_of w e).number (long_enough w) (consistent_words w) true false
unfolding where_of
where-exactly w e = lookup-exactly w (seen cell_id (where_is (decode w) e))

pub id-exactly : (w : List ℕ) (c : CellId) → Exactly (id_of w c).number (long_enough w) (consistent_words w) (coord_in_range c.coord) false
unfolding id_of
id-exactly w c = cell-exactly w c (question.id_of (decode w) (stored c))

pub count-exactly : (w : List ℕ) (c : CellId) → Exactly (count_of w c).number (long_enough w) (consistent_words w) (coord_in_range c.coord) false
unfolding count_of
count-exactly w c = cell-exactly w c (neighbour_count (decode w) (stored c))

pub group-exactly : (w : List ℕ) (g : ℕ) → Exactly (group_of w g).number (long_enough w) (consistent_words w) true false
unfolding group_of
group-exactly w g = lookup-exactly w (seen shown_of (group_by (decode w) g))

pub ids-exactly : (w answer : List ℕ) → Exactly (ids_of w answer).0.number (long_enough w) (consistent_words w) true (ltb (length answer) (length (id_list (decode w))))
unfolding ids_of
ids-exactly w answer = list-exactly w (true, length (id_list (decode w))) (id_list (decode w)) answer

pub occupied-exactly : (w answer : List ℕ) → Exactly (occupied_of w answer).0.number (long_enough w) (consistent_words w) true (ltb (length answer) (length (gather answer_words (decode w).occupancy.newly_occupied)))
unfolding occupied_of
occupied-exactly w answer = let l = (decode w).occupancy.newly_occupied in list-exactly w (true, length l) (gather answer_words l) answer

pub emptied-exactly : (w answer : List ℕ) → Exactly (emptied_of w answer).0.number (long_enough w) (consistent_words w) true (ltb (length answer) (length (gather answer_words (decode w).occupancy.newly_emptied)))
unfolding emptied_of
emptied-exactly w answer = let l = (decode w).occupancy.newly_emptied in list-exactly w (true, length l) (gather answer_words l) answer

pub entities-exactly : (w : List ℕ) (c : CellId) (answer : List ℕ)
    → Exactly (entities_of w c answer).0.number (long_enough w) (consistent_words w) (coord_in_range c.coord) (ltb (length answer) (length (entities_in (decode w) (stored c)).list))
unfolding entities_of
entities-exactly w c answer = let l = entities_in (decode w) (stored c) in cell-list-exactly w c (l.found, length l.list) l.list answer

pub nearby-exactly : (w : List ℕ) (c : CellId) (answer : List ℕ)
    → Exactly (nearby_of w c answer).0.number (long_enough w) (consistent_words w) (coord_in_range c.coord) (ltb (length answer) (length (gather answer_words (nearby (decode w) (stored c)).list)))
unfolding nearby_of
nearby-exactly w c answer = let l = nearby (decode w) (stored c) in cell-list-exactly w c (l.found, length l.list) (gather answer_words l.list) answer

pub cube-exactly : (w : List ℕ) (c : CellId) (r : ℕ) (answer : List ℕ)
    → Exactly (cube_of w c r answer).0.number (long_enough w) (consistent_words w) (coord_in_range c.coord) (ltb (length answer) (length (gather answer_words (cube (decode w) (stored c) r).list)))
unfolding cube_of
cube-exactly w c r answer = let l = cube (decode w) (stored c) r in cell-list-exactly w c (l.found, length l.list) (gather answer_words l.list) answer

pub flood-exactly : (w : List ℕ) (c : CellId) (depth : Depth) (budget : ℕ) (answer : List ℕ)
    → Exactly (flood_of w c depth budget answer).0.number (long_enough w) (consistent_words w) (coord_in_range c.coord) (ltb (length answer) (length (gather answer_words (flood (touch_of (decode w)) (decode w).occupancy (stored c) (depth_of depth) budget).cells)))
unfolding flood_of
flood-exactly w c depth budget answer =
    let f = flood (touch_of (decode w)) (decode w).occupancy (stored c) (depth_of depth) budget in
    cell-list-exactly w c (has same (occupied (decode w).occupancy) (stored c), visited f) (gather answer_words f.cells) answer

module _ (w : List ℕ) (a b : CellId) (answer : List ℕ) where
  -- The path that is asked for.
  abbrev pub asked : Option (List Cell)
  asked = shown_path (touch_of (decode w)) (occupied (decode w).occupancy) (stored a) (stored b)

  -- Whether its words are more than the slice has.
  abbrev pub overlong : Bool
  overlong = ltb (length answer) (length (gather answer_words (cells_of asked)))

  pub path-exactly : ExactlyPath (path_of w a b answer).0.number (long_enough w) (consistent_words w) (coord_in_range a.coord && coord_in_range b.coord) (is_shown asked) overlong
  unfolding path_of cells_refusal cell_refusal state_refusal fitted
  path-exactly = go (long_enough w) (consistent_words w) (coord_in_range a.coord) (coord_in_range b.coord) asked
    where
      over : Option (List Cell) → Bool
      over o = ltb (length answer) (length (gather answer_words (cells_of o)))

      both : Bool → Bool → Bool → Bool → Refused
      both l g i j = cond (eqb (by-cell w a l g i).number 0) (cond j form.none (form.out_of_range 1 (bad_axis b.coord))) (by-cell w a l g i)

      given : List Cell → Bool → Told (Bool × ℕ) × List ℕ
      given p t = cond t (too_long (length (gather answer_words p)), answer) (done (true, length p), gather answer_words p ++ drop (length (gather answer_words p)) answer)

      fits : (p : List Cell) (t : Bool) → ExactlyPath (given p t).0.number true true true true t
      fits p true = record { one = refl; two = refl; four = refl; twelve = refl; eight = refl; zero = refl }
      fits p false = record { one = refl; two = refl; four = refl; twelve = refl; eight = refl; zero = refl }

      go : (l g i j : Bool) (o : Option (List Cell))
          → ExactlyPath (cond {A = Told (Bool × ℕ) × List ℕ} (eqb (both l g i j).number 0) (path_from o answer) (refused (both l g i j), answer)).0.number l g (i && j) (is_shown o) (over o)
      go false g i j o = record { one = refl; two = refl; four = refl; twelve = refl; eight = refl; zero = refl }
      go true false i j o = record { one = refl; two = refl; four = refl; twelve = refl; eight = refl; zero = refl }
      go true true false j o = record { one = refl; two = refl; four = refl; twelve = refl; eight = refl; zero = refl }
      go true true true false o = record { one = refl; two = refl; four = refl; twelve = refl; eight = refl; zero = refl }
      go true true true true none = record { one = refl; two = refl; four = refl; twelve = refl; eight = refl; zero = refl }
      go true true true true (some p) = fits p (over (some p))
