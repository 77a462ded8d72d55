-- For each question that fills a slice: a number other than 0 leaves the slice as found.
use Prim.Native.Nat.{ℕ}
use Rattle.std.specs.Prelude.{◌≡◌, refl, true, false, eqb, ltb}
use Rattle.std.proofs.Math.Bool.{Bool, cond}
use mathlib.Core.List.{List, ◌++◌}
use Rattle.std.proofs.Math.Option.{Option, none, some}
use Rattle.std.proofs.Math.ListN.{length, drop}
use Rattle.component.specs.declared.CellId.{CellId}
use Rattle.component.specs.Stored.{stored}
use Rattle.model.specs.Lists.{has, gather}
use Rattle.model.specs.Cells.{Cell, same}
use Rattle.model.specs.Occupancy.{occupied}
use Rattle.model.specs.Flood.{flood}
use Rattle.model.specs.Update.{touch_of}
use Rattle.model.specs.Questions.{entities_in, id_list, nearby, cube}
use Rattle.model.specs.Shortest.{shown_path}
use Rattle.model.proofs.Laws.Tests.{T_false}
use Rattle.layout.specs.State.{decode}
use Rattle.neighbourhood.specs.Answers.{answer_words}
use Rattle.told.specs.Told.{Told, done, too_long, refused, fitted}
use Rattle.told.specs.Laws.Numbers.{list-kept}
use Rattle.lists.specs.Told.{path_from}
use Rattle.floods.specs.Told.{Depth, visited, depth_of}
use Rattle.consistent.specs.Answer.{state_refusal}
use Rattle.ask.specs.Answers.{cell_refusal, cells_refusal, ids_of, occupied_of, emptied_of, entities_of, nearby_of, cube_of, flood_of, path_of}

pub ids-kept : (w answer : List ℕ) → eqb (ids_of w answer).0.number 0 ≡ false → (ids_of w answer).1 ≡ answer
unfolding ids_of
ids-kept w answer = let l = id_list (decode w) in list-kept (state_refusal w) (true, length l) l answer

pub occupied-kept : (w answer : List ℕ) → eqb (occupied_of w answer).0.number 0 ≡ false → (occupied_of w answer).1 ≡ answer
unfolding occupied_of
occupied-kept w answer = let l = (decode w).occupancy.newly_occupied in list-kept (state_refusal w) (true, length l) (gather answer_words l) answer

pub emptied-kept : (w answer : List ℕ) → eqb (emptied_of w answer).0.number 0 ≡ false → (emptied_of w answer).1 ≡ answer
unfolding emptied_of
emptied-kept w answer = let l = (decode w).occupancy.newly_emptied in list-kept (state_refusal w) (true, length l) (gather answer_words l) answer

module _ (w : List ℕ) (c : CellId) (answer : List ℕ) where
  pub entities-kept : eqb (entities_of w c answer).0.number 0 ≡ false → (entities_of w c answer).1 ≡ answer
  unfolding entities_of
  entities-kept = let l = entities_in (decode w) (stored c) in list-kept (cell_refusal w c) (l.found, length l.list) l.list answer

  pub nearby-kept : eqb (nearby_of w c answer).0.number 0 ≡ false → (nearby_of w c answer).1 ≡ answer
  unfolding nearby_of
  nearby-kept = let l = nearby (decode w) (stored c) in list-kept (cell_refusal w c) (l.found, length l.list) (gather answer_words l.list) answer

  pub cube-kept : (r : ℕ) → eqb (cube_of w c r answer).0.number 0 ≡ false → (cube_of w c r answer).1 ≡ answer
  unfolding cube_of
  cube-kept r = let l = cube (decode w) (stored c) r in list-kept (cell_refusal w c) (l.found, length l.list) (gather answer_words l.list) answer

  pub flood-kept : (depth : Depth) (budget : ℕ) → eqb (flood_of w c depth budget answer).0.number 0 ≡ false → (flood_of w c depth budget answer).1 ≡ answer
  unfolding flood_of
  flood-kept depth budget =
      let f = flood (touch_of (decode w)) (decode w).occupancy (stored c) (depth_of depth) budget in
      list-kept (cell_refusal w c) (has same (occupied (decode w).occupancy) (stored c), visited f) (gather answer_words f.cells) answer

module _ (w : List ℕ) (a b : CellId) (answer : List ℕ) where
  pub path-kept : eqb (path_of w a b answer).0.number 0 ≡ false → (path_of w a b answer).1 ≡ answer
  unfolding path_of fitted
  path-kept = go (eqb (cells_refusal w a b).number 0) (shown_path (touch_of (decode w)) (occupied (decode w).occupancy) (stored a) (stored b))
    where
      given : List Cell → Bool → Told (Bool × ℕ) × List ℕ
      given p t = cond t (too_long (length (gather answer_words p)), answer) (done (true, length p), gather answer_words p ++ drop (length (gather answer_words p)) answer)

      fits : (p : List Cell) (t : Bool) → eqb (given p t).0.number 0 ≡ false → (given p t).1 ≡ answer
      fits p true e = refl
      fits p false e = absurd (T_false {b = true} e)

      go : (t : Bool) (o : Option (List Cell)) → eqb (cond {A = Told (Bool × ℕ) × List ℕ} t (path_from o answer) (refused (cells_refusal w a b), answer)).0.number 0 ≡ false
          → (cond {A = Told (Bool × ℕ) × List ℕ} t (path_from o answer) (refused (cells_refusal w a b), answer)).1 ≡ answer
      go false o e = refl
      go true none e = refl
      go true (some p) e = fits p (ltb (length answer) (length (gather answer_words p))) e
