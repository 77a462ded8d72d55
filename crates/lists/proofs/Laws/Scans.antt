-- Words are written one by one, cells four words at a time, while the rows of a table are gone over.
use Rattle.std.specs.Prelude.{ℕ, suc, ◌+◌, ◌*◌, ◌≤◌, ◌<◌, ◌≡◌, refl, Bool, true, false, List, [], ◌∷◌, ◌++◌, take, drop, set}
use Rattle.std.proofs.Common.{add-zero, add-one, arith, ◌∙◌, append_assoc, length-append, drop-drop, length-take-le, take_all, get_or-drop}
use Rattle.std.proofs.Math.Path.{sym, ap}
use Rattle.std.proofs.Math.ListN.{length, get_or}
use Rattle.std.proofs.lemmas.List.{set_split}
use Rattle.std.proofs.Math.Seq.{take-append_seam, drop-append-add}
use Rattle.model.specs.Lists.{keep, keys}
use Rattle.model.specs.Cells.{Cell, same}
use Rattle.model.proofs.Laws.Members.{each_append, each-length, keep-shorter}
use Rattle.table.specs.Moves.{over}
use Rattle.table.specs.Rows.{Kind, number, cell, rows_of, cell_at, entry_of, table_of, table1}
use Rattle.table.specs.Laws.Words.{table-length, keys_length, word_at, number_at, cell-at, entry_at}
use Rattle.layout.specs.Widths.{entity_width, entity_cell, net_width, group_width, answer_width}
use Rattle.layout.specs.Rows.{entity_of, entities_in, net_in}
use Rattle.neighbourhood.specs.Answers.{answer_words, filled}
use Rattle.neighbourhood.proofs.Laws.Lines.{each_at}
use Rattle.neighbourhood.proofs.Laws.Filling.{filled_more}
use Rattle.neighbourhood.proofs.Laws.Walking.{take-next, keep-next, keep-past}
use Rattle.lists.specs.Parts.{standing_in}
use Rattle.lookups.specs.Laws.Finds.{entity-cell}

-- Before the first word nothing is written.
pub over_none : (s : List ℕ) → s ≡ over s 0 []
unfolding over
over_none s = refl

-- The words that are written stand first.
pub over-take : (s l : List ℕ) → take (length l) (over s 0 l) ≡ l
unfolding over
over-take s l = take-append_seam l (drop (0 + length l) s)

-- One word more behind those that are written.
pub word-step : (s words l : List ℕ) (k v : ℕ) → words ≡ over s 0 l → k ≡ length l → k < length words → set words k v ≡ over s 0 (l ++ (v ∷ []))
unfolding over
word-step s words l k v e g h =
    let r : List ℕ = drop (0 + length l) s in
    let sizes : 0 + length l + 1 ≡ 0 + length (l ++ (v ∷ [])) = omega (arith, length-append l (v ∷ [])) in
    let rest : drop (suc (length l)) (l ++ r) ≡ drop (0 + length (l ++ (v ∷ []))) s =
    ap (λ (m : ℕ). drop m (l ++ r)) (sym (add-one (length l))) ∙ drop-append-add l r 1 ∙ drop-drop 1 (0 + length l) s ∙ ap (λ (m : ℕ). drop m s) sizes in
    (λ i. set (e i) (g i) v)
    ∙ set_split (l ++ r) (length l) v (omega (arith, ap length e))
    ∙ (λ i. take-append_seam l r i ++ (v ∷ rest i))
    ∙ sym (append_assoc l (v ∷ []) (drop (0 + length (l ++ (v ∷ []))) s))

-- Row i of a table.
row-entry : {K : Type 0} (kind : Kind K) (wide n : ℕ) (s : List ℕ) (i : ℕ) (d : K × List ℕ) → i < n → get_or (table_of kind wide n s) i d ≡ entry_of kind (get_or (rows_of wide n s) i [])
row-entry {K} kind wide n s i d h =
    ap (λ (j : ℕ). get_or (table_of kind wide n s) j d) (sym (add-zero i))
    ∙ sym (get_or-drop i (table_of kind wide n s) 0 d)
    ∙ ap (λ (l : List (K × List ℕ)). get_or l 0 d) (entry_at kind wide n s i h)

module _ (rows : List ℕ) (n : ℕ) where
  abbrev group_keys : List ℕ
  group_keys = keys (table1 group_width n rows)

  -- The next key of the groups' rows.
  pub key_step : (s words : List ℕ) (i : ℕ) → words ≡ over s 0 (take i group_keys) → i < length words → i < n → set words i (get_or rows (group_width * i) 0) ≡ over s 0 (take (i + 1) group_keys)
  key_step s words i e h g =
      let long : length group_keys ≡ n = keys_length number group_width n rows in
      word-step s words (take i group_keys) i (get_or rows (group_width * i) 0) e (sym (length-take-le i group_keys (omega arith))) h
      ∙ ap (λ (v : ℕ). over s 0 (take i group_keys ++ (v ∷ []))) (sym (number_at group_width n rows (omega arith) i 0 g))
      ∙ ap (over s 0) (sym (take-next group_keys i 0 (omega arith)))

  -- All keys.
  pub key-end : (s words : List ℕ) (i : ℕ) → words ≡ over s 0 (take i group_keys) → i ≡ n → words ≡ over s 0 group_keys
  key-end s words i e g = e ∙ ap (over s 0) (take_all i group_keys (omega (arith, keys_length number group_width n rows)))

  -- The next cell of a net list's rows.
  pub net-step : (s words words' : List ℕ) (i : ℕ) (c : Cell) → words ≡ filled s (take i (net_in n rows)) → i < n → c ≡ cell_at rows (net_width * i) → words' ≡ over words (answer_width * i) (answer_words c)
      → words' ≡ filled s (take (i + 1) (net_in n rows))
  unfolding net_in
  net-step s words words' i c e g q f =
      let long : length (net_in n rows) ≡ n = keys_length cell net_width n rows in
      let d : c ≡ get_or (net_in n rows) i c = q ∙ sym (cell-at net_width n rows (omega arith) i c g) in
      f ∙ (λ t. over (e t) (answer_width * i) (answer_words (d t))) ∙ filled_more s (net_in n rows) i c (omega arith)

  -- All cells.
  pub net-end : (s words : List ℕ) (i : ℕ) → words ≡ filled s (take i (net_in n rows)) → i ≡ n → words ≡ filled s (net_in n rows)
  unfolding net_in
  net-end s words i e g = e ∙ ap (filled s) (take_all i (net_in n rows) (omega (arith, keys_length cell net_width n rows)))

  -- A net list has as many cells as rows.
  pub net-long : length (net_in n rows) ≡ n
  unfolding net_in
  net-long = keys_length cell net_width n rows

  -- The row of an entity.
  entity-row : (i : ℕ) (d : ℕ × Cell) → i < n → get_or (entities_in n rows) i d ≡ (get_or rows (entity_width * i) 0, cell_at rows (entity_width * i + entity_cell))
  unfolding entities_in
  entity-row i d h =
      let long : length (table1 entity_width n rows) ≡ n = table-length number entity_width n rows in
      let k : get_or (get_or (rows_of entity_width n rows) i []) 0 0 ≡ get_or rows (entity_width * i) 0 =
      word_at entity_width n rows i 0 h (omega arith) ∙ ap (λ (m : ℕ). get_or rows m 0) (add-zero (entity_width * i)) in
      each_at entity_of (table1 entity_width n rows) i (0, []) d (omega arith)
      ∙ ap entity_of (row-entry number entity_width n rows i (0, []) h)
      ∙ (λ t. (k t, entity-cell n rows i h t))

  entities-long : length (entities_in n rows) ≡ n
  unfolding entities_in
  entities-long = each-length entity_of (table1 entity_width n rows) ∙ table-length number entity_width n rows

  -- At most as many stand in a cell as there are.
  pub standing-few : (c : Cell) → length (standing_in (entities_in n rows) c) ≤ n
  standing-few c =
      let kept : List (ℕ × Cell) = keep (λ (p : ℕ × Cell). same c p.1) (entities_in n rows) in
      omega (arith, each-length (λ (p : ℕ × Cell). p.0) kept, keep-shorter (λ (p : ℕ × Cell). same c p.1) (entities_in n rows), entities-long)

  module _ (c : Cell) (i : ℕ) (g : i < n) (b : Bool) (t : b ≡ same c (cell_at rows (entity_width * i + entity_cell))) where
    abbrev here : ℕ × Cell
    here = (get_or rows (entity_width * i) 0, cell_at rows (entity_width * i + entity_cell))

    abbrev stand : ℕ → List ℕ
    stand m = standing_in (take m (entities_in n rows)) c

    at_row : same c (get_or (entities_in n rows) i here).1 ≡ b
    at_row = ap (λ (p : ℕ × Cell). same c p.1) (entity-row i here g) ∙ sym t

    -- The entity of the next row stands in the cell.
    standing-next : b ≡ true → stand i ++ (get_or rows (entity_width * i) 0 ∷ []) ≡ stand (i + 1)
    standing-next y =
        let long = entities-long in
        ap (λ (p : ℕ × Cell). stand i ++ (p.0 ∷ [])) (sym (entity-row i here g))
        ∙ sym (each_append (λ (p : ℕ × Cell). p.0) (keep (λ (p : ℕ × Cell). same c p.1) (take i (entities_in n rows))) (get_or (entities_in n rows) i here ∷ []))
        ∙ ap keys (sym (keep-next (entities_in n rows) i here (omega arith) (λ (p : ℕ × Cell). same c p.1) (at_row ∙ y)))

    -- It does not.
    standing-past : b ≡ false → stand i ≡ stand (i + 1)
    standing-past y =
        let long = entities-long in
        ap keys (sym (keep-past (entities_in n rows) i here (omega arith) (λ (p : ℕ × Cell). same c p.1) (at_row ∙ y)))

    module _ (s words : List ℕ) (k : ℕ) (number : k ≡ length (standing_in (take i (entities_in n rows)) c)) (e : words ≡ over s 0 (standing_in (take i (entities_in n rows)) c)) where
      -- One entity more.
      pub entity-step : k < length words → b ≡ true → (k + 1 ≡ length (standing_in (take (i + 1) (entities_in n rows)) c)) × (set words k (get_or rows (entity_width * i) 0) ≡ over s 0 (standing_in (take (i + 1) (entities_in n rows)) c))
      entity-step h y =
          let q = standing-next y in
          (omega (arith, ap length q, length-append (stand i) (get_or rows (entity_width * i) 0 ∷ [])), word-step s words (stand i) k (get_or rows (entity_width * i) 0) e number h ∙ ap (over s 0) q)

      -- None.
      pub entity-past : b ≡ false → (k ≡ length (standing_in (take (i + 1) (entities_in n rows)) c)) × (words ≡ over s 0 (standing_in (take (i + 1) (entities_in n rows)) c))
      entity-past y = let q = standing-past y in (number ∙ ap length q, e ∙ ap (over s 0) q)

  -- All entities.
  pub entity-end : (c : Cell) (i : ℕ) → i ≡ n → standing_in (take i (entities_in n rows)) c ≡ standing_in (entities_in n rows) c
  entity-end c i g = ap (λ (l : List (ℕ × Cell)). standing_in l c) (take_all i (entities_in n rows) (omega (arith, entities-long)))
