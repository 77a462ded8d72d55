-- The answers of the list questions, by what is read of the words.
use Rattle.std.specs.Prelude.{ℕ, suc, ◌≡◌, refl, List, [], ◌∷◌, eqb, length}
use Rattle.std.proofs.Common.{arith, ◌∙◌, ne_eqb}
use Rattle.std.proofs.Math.Path.{ap}
use mathlib.Core.Bool.{Bool, true, false, cond, not}
use Rattle.component.specs.declared.CellId.{CellId}
use Rattle.component.specs.Stored.{stored}
use Rattle.model.specs.Lists.{any, has, keep, keys}
use Rattle.model.specs.Cells.{Cell, same, touch_at}
use Rattle.model.specs.Occupancy.{occupied}
use Rattle.model.specs.Flood.{flood}
use Rattle.model.specs.Update.{touch_of}
use Rattle.model.specs.Questions.{Listed, id_list, nearby, nearby_by, cube}
use Rattle.model.specs.Questions as question
use Rattle.model.proofs.Laws.Occupied.{occupied-stands}
use Rattle.model.specs.Shortest.{shown_path}
use Rattle.layout.specs.Rows.{entities_in, cells_in, net_in, groups_in}
use Rattle.layout.specs.State.{decode, entity_words, cell_words, occupied_words, emptied_words, group_words, entity_count, cell_count, occupied_count, emptied_count, group_count}
use Rattle.refusal.specs.Forms.{Refused, none}
use Rattle.told.specs.Told.{Told, refused}
use Rattle.lists.specs.Parts.{having, standing_in, any_of}
use Rattle.lists.specs.Told.{listed_numbers, listed_cells, there, path_from}
use Rattle.floods.specs.declared.Visited.{Visited}
use Rattle.floods.specs.Told.{Depth, flooded, depth_of}
use Rattle.consistent.specs.Answer.{state_refusal}
use Rattle.ask.specs.Answers.{cell_refusal, cells_refusal, ids_of, occupied_of, emptied_of, entities_of, nearby_of, cube_of, flood_of, path_of}
use Rattle.consistent.specs.Laws.Sure.{Sure}
use Rattle.ask.specs.Laws.Ways.{answered-by}
use Rattle.consistent.specs.Laws.Words.{ok}

module _ (w answer : List ℕ) (e : none ≡ state_refusal w) where
  abbrev refuse : Refused → Told (Bool × ℕ) × List ℕ
  refuse k = (refused k, answer)

  pub ids-answered : (n : ℕ) (rows : List ℕ) (a : Told (Bool × ℕ) × List ℕ) → n ≡ group_count w → rows ≡ group_words w → a ≡ listed_numbers (there (keys (groups_in n rows))) answer → a ≡ ids_of w answer
  unfolding ids_of decode
  ids-answered n rows a p q f =
      f ∙ (λ i. listed_numbers (there (keys (groups_in (p i) (q i)))) answer)
      ∙ answered-by (state_refusal w) refuse (listed_numbers (there (id_list (decode w))) answer) e

  pub occupied-answered : (n : ℕ) (rows : List ℕ) (a : Told (Bool × ℕ) × List ℕ) → n ≡ occupied_count w → rows ≡ occupied_words w → a ≡ listed_cells (there (net_in n rows)) answer → a ≡ occupied_of w answer
  unfolding occupied_of decode
  occupied-answered n rows a p q f =
      f ∙ (λ i. listed_cells (there (net_in (p i) (q i))) answer)
      ∙ answered-by (state_refusal w) refuse (listed_cells (there (decode w).occupancy.newly_occupied) answer) e

  pub emptied-answered : (n : ℕ) (rows : List ℕ) (a : Told (Bool × ℕ) × List ℕ) → n ≡ emptied_count w → rows ≡ emptied_words w → a ≡ listed_cells (there (net_in n rows)) answer → a ≡ emptied_of w answer
  unfolding emptied_of decode
  emptied-answered n rows a p q f =
      f ∙ (λ i. listed_cells (there (net_in (p i) (q i))) answer)
      ∙ answered-by (state_refusal w) refuse (listed_cells (there (decode w).occupancy.newly_emptied) answer) e

-- A list of entities holds any exactly if some entity passes.
some-kept : (p : ℕ × Cell → Bool) (t : List (ℕ × Cell)) → not (eqb (length (keys (keep p t))) 0) ≡ any p t
some-kept p [] = refl
some-kept p (x ∷ t) = go (p x) (some-kept p t)
  where
    go : (b : Bool) → not (eqb (length (keys (keep p t))) 0) ≡ any p t → not (eqb (length (keys (cond b (x ∷ keep p t) (keep p t)))) 0) ≡ mathlib.Core.Bool.◌||◌ b (any p t)
    go true e = ap not (ne_eqb (suc (length (keys (keep p t)))) 0 (λ z. omega arith))
    go false e = e

-- The entities that stand in a cell are what the question asks for.
entities-asked : (w : List ℕ) → Sure w → (c : Cell) → any_of (standing_in (decode w).occupancy.entities c) ≡ question.entities_in (decode w) c
entities-asked w sure c =
    let f : not (eqb (length (standing_in (decode w).occupancy.entities c)) 0) ≡ has same (occupied (decode w).occupancy) c =
    some-kept (λ (p : ℕ × Cell). same c p.1) (decode w).occupancy.entities ∙ occupied-stands (touch_of (decode w)) (decode w).occupancy (ok w sure).sound c in
    λ i. record { found = f i; list = standing_in (decode w).occupancy.entities c }

module _ (w : List ℕ) (c : CellId) (answer : List ℕ) (e : none ≡ cell_refusal w c) where
  abbrev refuse-cell : Refused → Told (Bool × ℕ) × List ℕ
  refuse-cell k = (refused k, answer)

  entities-read : (n : ℕ) (rows : List ℕ) → n ≡ entity_count w → rows ≡ entity_words w → entities_in n rows ≡ (decode w).occupancy.entities
  unfolding decode
  entities-read n rows p q = λ i. entities_in (p i) (q i)

  pub entities-answered : Sure w → (n : ℕ) (rows : List ℕ) (d : Cell) (a : Told (Bool × ℕ) × List ℕ) → n ≡ entity_count w → rows ≡ entity_words w → d ≡ stored c
      → a ≡ listed_numbers (any_of (standing_in (entities_in n rows) d)) answer → a ≡ entities_of w c answer
  unfolding entities_of
  entities-answered sure n rows d a p q s f =
      f ∙ (λ i. listed_numbers (any_of (standing_in (entities-read n rows p q i) (s i))) answer)
      ∙ ap (λ (l : Listed ℕ). listed_numbers l answer) (entities-asked w sure (stored c))
      ∙ answered-by (cell_refusal w c) refuse-cell (listed_numbers (question.entities_in (decode w) (stored c)) answer) e

  pub nearby-answered : (n : ℕ) (rows : List ℕ) (d : Cell) (a : Told (Bool × ℕ) × List ℕ) → n ≡ cell_count w → rows ≡ cell_words w → d ≡ stored c
      → a ≡ listed_cells (nearby_by (touch_at (decode w).kind) (having (cells_in n rows)) d) answer → a ≡ nearby_of w c answer
  unfolding nearby_of decode
  nearby-answered n rows d a p q s f =
      f ∙ (λ i. listed_cells (nearby_by (touch_at (decode w).kind) (having (cells_in (p i) (q i))) (s i)) answer)
      ∙ answered-by (cell_refusal w c) refuse-cell (listed_cells (nearby (decode w) (stored c)) answer) e

  pub cube-answered : (r : ℕ) → (n : ℕ) (rows : List ℕ) (d : Cell) (a : Told (Bool × ℕ) × List ℕ) → n ≡ cell_count w → rows ≡ cell_words w → d ≡ stored c
      → a ≡ listed_cells (cube (having (cells_in n rows)) d r) answer → a ≡ cube_of w c r answer
  unfolding cube_of decode
  cube-answered r n rows d a p q s f =
      f ∙ (λ i. listed_cells (cube (having (cells_in (p i) (q i))) (s i) r) answer)
      ∙ answered-by (cell_refusal w c) refuse-cell (listed_cells (cube (decode w) (stored c) r) answer) e

  abbrev refuse-flood : Refused → Told (Bool × Visited) × List ℕ
  refuse-flood k = (refused k, answer)

  module _ (depth : Depth) (budget : ℕ) where
    pub flood-answered : (n : ℕ) (rows : List ℕ) (d : Cell) (a : Told (Bool × Visited) × List ℕ) → n ≡ cell_count w → rows ≡ cell_words w → d ≡ stored c
        → a ≡ flooded (has same (keys (cells_in n rows)) d) (flood (touch_at (decode w).kind) (having (cells_in n rows)).occupancy d (depth_of depth) budget) answer → a ≡ flood_of w c depth budget answer
    unfolding flood_of decode
    flood-answered n rows d a p q s f =
        f ∙ (λ i. flooded (has same (keys (cells_in (p i) (q i))) (s i)) (flood (touch_at (decode w).kind) (having (cells_in (p i) (q i))).occupancy (s i) (depth_of depth) budget) answer)
        ∙ answered-by (cell_refusal w c) refuse-flood (flooded (has same (occupied (decode w).occupancy) (stored c)) (flood (touch_of (decode w)) (decode w).occupancy (stored c) (depth_of depth) budget) answer) e

module _ (w : List ℕ) (a b : CellId) (answer : List ℕ) (e : none ≡ cells_refusal w a b) where
  abbrev refuse-path : Refused → Told (Bool × ℕ) × List ℕ
  refuse-path k = (refused k, answer)

  abbrev shown : Told (Bool × ℕ) × List ℕ
  shown = path_from (shown_path (touch_of (decode w)) (occupied (decode w).occupancy) (stored a) (stored b)) answer

  pub path-answered : (n : ℕ) (rows : List ℕ) (c d : Cell) (r : Told (Bool × ℕ) × List ℕ) → n ≡ cell_count w → rows ≡ cell_words w → c ≡ stored a → d ≡ stored b
      → r ≡ path_from (shown_path (touch_at (decode w).kind) (keys (cells_in n rows)) c d) answer → r ≡ path_of w a b answer
  unfolding path_of decode
  path-answered n rows c d r p q s t f =
      f ∙ (λ i. path_from (shown_path (touch_at (decode w).kind) (keys (cells_in (p i) (q i))) (s i) (t i)) answer)
      ∙ answered-by (cells_refusal w a b) refuse-path shown e
