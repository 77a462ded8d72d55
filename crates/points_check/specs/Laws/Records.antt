-- What point 5 is computed by.
use Rattle.std.specs.Prelude.{ℕ, suc, ◌*◌, ◌≤◌, ◌<◌, ◌≡◌, refl, Bool, false, cond, ◌&&◌, List, [], ◌∷◌, eqb, leb, drop, replicate}
use Rattle.std.proofs.Common.{arith, ◌∙◌, subst, eqb→eq, leb-true, le-leb}
use Rattle.std.proofs.Math.Path.{sym, ap}
use Rattle.std.proofs.Math.Bool.{true}
use Rattle.std.proofs.Math.Dec.{eqb_refl}
use Rattle.std.proofs.Math.ListN.{length}
use Rattle.std.proofs.lemmas.List.{length-replicate}
use Rattle.component.specs.Laws.Tests.{both}
use Rattle.model.specs.Lists.{keep, values, equal}
use Rattle.model.specs.Cells.{Cell, same, below}
use Rattle.model.specs.Update.{most_cells}
use Rattle.model.specs.Groups.{Ids, Group, records}
use Rattle.model.specs.Crowd.{how_many}
use Rattle.model.specs.Consistent.{same_record}
use Rattle.model.proofs.Laws.Tests.{T_true, true_of, same_test}
use Rattle.model.proofs.Laws.Members.{equal-in, equal-out}
use Rattle.model.specs.Facts.{Asc}
use Rattle.model.proofs.Laws.Consistency.{record-eq, record-self}
use Rattle.table.specs.Rows.{cell, cell_at, is_table4, are_zero}
use Rattle.table.specs.Laws.Images.{table-facts}
use Rattle.layout.specs.Widths.{id_width, group_width}
use Rattle.layout.specs.Rows.{groups_image, entities_in, ids_in, groups_in}
use Rattle.layout.specs.State.{groups_len}
use Rattle.layout.specs.Points.{tidy}
use Rattle.layout.proofs.Laws.Images.{ids-laws, groups-laws}
use Rattle.layout.proofs.Laws.Lengths.{groups-room}
use Rattle.partition.specs.Held.{HeldTable, HeldGroups, HeldCounts}
use Rattle.partition.specs.Laws.Records.{records-shorter}
use Rattle.points_check.specs.Marks.{Counted}
use Rattle.points_check.specs.Points.{records_right}
use Rattle.points_check.specs.Laws.Readings.{ids-keys}
use Rattle.points_check.specs.Laws.Cells.{refuted, table-zeros}

-- Rows that are a table hold the ids that stand in them.
pub held-ids : (ids : List ℕ) (n : ℕ) → is_table4 id_width n ids ≡ true → HeldTable ids n (ids_in n ids)
held-ids ids n ok =
    let f = table-facts cell id_width n ids ok in
    record {
      image = sym (ids-laws.written n ids f.fits (table-zeros id_width n ids ok) tt);
      count = sym (ids-laws.counted n ids);
      asc = subst (λ (l : List Cell). Asc below l) (sym (ids-keys n ids)) f.asc;
      fits = f.fits;
    }

-- How many entities stand in a cell is how many of their cells are it.
standing-values : (entities : List (ℕ × Cell)) (c : Cell) → length (keep (same c) (values entities)) ≡ how_many entities c
unfolding how_many
standing-values [] c = refl
standing-values (p ∷ l) c = go (same c p.1) (standing-values l c)
  where
    go : (b : Bool) → length (keep (same c) (values l)) ≡ length (keep (λ (q : ℕ × Cell). same c q.1) l)
        → length (cond b (p.1 ∷ keep (same c) (values l)) (keep (same c) (values l))) ≡ length (cond b (p ∷ keep (λ (q : ℕ × Cell). same c q.1) l) (keep (λ (q : ℕ × Cell). same c q.1) l))
    go true e = ap suc e
    go false e = e

-- Rows that are counted are what building the records asks for.
pub held-counts : (counts ids : List ℕ) (n : ℕ) (entities : List (ℕ × Cell)) → Counted (values entities) (λ j. cell_at ids (id_width * j)) n counts → n ≤ length counts → HeldCounts counts ids n entities
held-counts counts ids n entities q h = record { are = λ i k. q.is i k ∙ standing-values entities (cell_at ids (id_width * i)); fits = h }

-- What building the records asks of words that are all zero.
pub asks-records : (counts ids : List ℕ) (n len : ℕ) (entities : List (ℕ × Cell)) → is_table4 id_width n ids ≡ true → HeldCounts counts ids n entities → length entities < 9223372036854775808 → group_width * n ≤ len
    → (e : List (ℕ × Cell)) × (t : Ids) × HeldTable ids n t × HeldCounts counts ids n e × (length e < 9223372036854775808) × (replicate {A = ℕ} len 0 ≡ replicate (length (replicate {A = ℕ} len 0)) 0) × (group_width * n ≤ length (replicate {A = ℕ} len 0))
asks-records counts ids n len entities ok held few h =
    let e = length-replicate {A = ℕ} len 0 in
    (entities, ids_in n ids, held-ids ids n ok, held, few, ap (λ (k : ℕ). replicate k 0) (sym e), omega arith)

-- Words that hold the records of ids, against any words.
module _ (ents : List ℕ) (m : ℕ) (ids : List ℕ) (n : ℕ) (few : n ≤ most_cells) (built : List ℕ) (k : ℕ) (held : HeldGroups built k (records (entities_in m ents) (ids_in n ids))) (groups : List ℕ) (g : ℕ) where
  -- The records of the cells with an id.
  abbrev are : List (ℕ × Group)
  are = records (entities_in m ents) (ids_in n ids)

  abbrev right : Bool
  right = records_right ents m ids n groups g

  -- The records are those that stand in the words.
  right-records : right ≡ true → groups_in g groups ≡ are
  unfolding records_right
  right-records e =
      equal-out same_record record-eq (groups_in g groups) are
      (T_true (both (tidy group_width most_cells g groups) (equal same_record (groups_in g groups) are) e).1)

  right-count : right ≡ true → k ≡ g
  right-count e = held.count ∙ ap length (sym (right-records e)) ∙ groups-laws.counted g groups

  -- Where the counts differ.
  pub records-uncounted : (k ≡ g → ⊥) → false ≡ right
  records-uncounted f = sym (refuted right (λ e. f (right-count e)))

  module _ (long : length groups ≡ groups_len) (as_long : length built ≡ length groups) where
    right-words : right ≡ true → built ≡ groups
    unfolding records_right
    right-words e =
        let p = both (tidy group_width most_cells g groups) (equal same_record (groups_in g groups) are) e in
        let q = both (leb g most_cells) (are_zero (drop (group_width * g) groups)) p.0 in
        let room = groups-room g (leb-true g most_cells q.0) in
        held.image
        ∙ ap (λ i. groups_image i are) as_long
        ∙ ap (groups_image (length groups)) (sym (right-records e))
        ∙ groups-laws.written g groups (omega arith) q.1 tt

    words_right : k ≡ g → built ≡ groups → right ≡ true
    unfolding records_right
    words_right c e =
        let s : g ≡ length are = sym c ∙ held.count in
        let f : g ≤ most_cells = omega (arith, records-shorter (entities_in m ents) (ids_in n ids), ids-laws.counted n ids) in
        let i : groups ≡ groups_image (length built) are = sym e ∙ held.image in
        let z : are_zero (drop (group_width * g) groups) ≡ true =
        (λ j. are_zero (drop (group_width * s j) (i j))) ∙ groups-laws.zeros (length built) are (λ a m. tt) in
        let same : groups_in g groups ≡ are = (λ j. groups_in (s j) (i j)) ∙ groups-laws.read (length built) are (λ a m. tt) in
        (λ j. (le-leb g most_cells f j && z j) && true_of (equal same_record (groups_in g groups) are) (equal-in same_record record-self same) j)

    -- Where they do not, the words decide.
    pub records-by-words : k ≡ g → equal eqb built groups ≡ right
    records-by-words c =
        same_test (equal eqb built groups) right
        (λ p. T_true (words_right c (equal-out eqb (λ a b. eqb→eq a b) built groups p)))
        (λ p. equal-in eqb (λ a. eqb_refl a) (right-words (true_of right p)))
