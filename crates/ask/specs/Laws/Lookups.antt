-- The answers of the lookups, by what is read of the words.
use Rattle.std.specs.Prelude.{ℕ, ◌≡◌, List}
use Rattle.std.proofs.Common.{ap, ◌∙◌}
use Rattle.std.proofs.Math.Dec.{eqb}
use Rattle.std.proofs.Math.Option.{Option}
use Rattle.component.specs.declared.CellId.{CellId}
use Rattle.component.specs.Stored.{stored, cell_id}
use Rattle.model.specs.Lists.{get}
use Rattle.model.specs.Cells.{Cell, same}
use Rattle.model.specs.Questions.{where_is, group_by, ones_of, neighbour_count}
use Rattle.model.specs.Questions as question
use Rattle.layout.specs.Rows.{entities_in, cells_in, ids_in, groups_in}
use Rattle.layout.specs.State as layout
use Rattle.layout.specs.State.{decode, entity_words, cell_words, id_words, group_words, entity_count, cell_count, id_count, group_count}
use Rattle.refusal.specs.Forms.{none}
use Rattle.told.specs.Told.{Told, done, refused, seen}
use Rattle.lookups.specs.declared.Shown.{Shown}
use Rattle.lookups.specs.Told.{shown_of}
use Rattle.consistent.specs.Answer.{state_refusal}
use Rattle.ask.specs.Laws.Ways.{answered-by}
use Rattle.ask.specs.Answers.{cell_refusal, kind_of, where_of, id_of, count_of, group_of}

module _ (w : List ℕ) (e : none ≡ state_refusal w) where
  pub kind-answered : (k : ℕ) → k ≡ layout.kind_of w → done k ≡ kind_of w
  unfolding kind_of decode
  kind-answered k p = ap done p
      ∙ answered-by (state_refusal w) refused (done (decode w).kind) e

module _ (w : List ℕ) (k : ℕ) (e : none ≡ state_refusal w) where
  pub where-answered : (n : ℕ) (rows : List ℕ) (r : Told (Option CellId)) → n ≡ entity_count w → rows ≡ entity_words w → r ≡ done (seen cell_id (get eqb (entities_in n rows) k)) → r ≡ where_of w k
  unfolding where_of decode
  where-answered n rows r p q f =
      f ∙ (λ i. done (seen cell_id (get eqb (entities_in (p i) (q i)) k)))
      ∙ answered-by (state_refusal w) refused (done (seen cell_id (where_is (decode w) k))) e

  pub group-answered : (n : ℕ) (rows : List ℕ) (r : Told (Option Shown)) → n ≡ group_count w → rows ≡ group_words w → r ≡ done (seen shown_of (get eqb (groups_in n rows) k)) → r ≡ group_of w k
  unfolding group_of decode
  group-answered n rows r p q f =
      f ∙ (λ i. done (seen shown_of (get eqb (groups_in (p i) (q i)) k)))
      ∙ answered-by (state_refusal w) refused (done (seen shown_of (group_by (decode w) k))) e

module _ (w : List ℕ) (c : CellId) (e : none ≡ cell_refusal w c) where
  pub id-answered : (n : ℕ) (rows : List ℕ) (d : Cell) (r : Told (Option ℕ)) → n ≡ id_count w → rows ≡ id_words w → d ≡ stored c → r ≡ done (get same (ids_in n rows) d) → r ≡ id_of w c
  unfolding id_of decode
  id-answered n rows d r p q s f =
      f ∙ (λ i. done (get same (ids_in (p i) (q i)) (s i)))
      ∙ answered-by (cell_refusal w c) refused (done (question.id_of (decode w) (stored c))) e

  pub count-answered : (n : ℕ) (rows : List ℕ) (d : Cell) (r : Told (Option ℕ)) → n ≡ cell_count w → rows ≡ cell_words w → d ≡ stored c → r ≡ done (ones_of (get same (cells_in n rows) d)) → r ≡ count_of w c
  unfolding count_of decode
  count-answered n rows d r p q s f =
      f ∙ (λ i. done (ones_of (get same (cells_in (p i) (q i)) (s i))))
      ∙ answered-by (cell_refusal w c) refused (done (neighbour_count (decode w) (stored c))) e
