-- One more entity is counted into the crowd.
use Prim.Native.Nat.{ℕ, suc, ◌+◌, ◌*◌, ◌≤◌, ◌<◌}
use native.Mathlib.Omega.{arith}
use mathlib.Core.Path.{◌≡◌, refl, sym, ap, ◌∙◌, subst}
use mathlib.Core.Bool.{true}
use mathlib.Core.List.{List, [], ◌∷◌, ◌++◌}
use lib.ListN.{length, get_or, replicate}
use Rattle.model.specs.Lists.{each, get, put}
use Rattle.model.specs.Cells.{Cell, same, below}
use Rattle.model.specs.Crowd.{how_many}
use Rattle.model.proofs.Laws.Members.{each-length}
use Rattle.layout.specs.Widths.{crowd_width, entity_cell, entity_width}
use Rattle.layout.specs.Rows.{id_row, entities_in, ids_image}
use Rattle.table.specs.Rows.{cell, cell_at, rows_of, table4, stored4, has_room4}
use Rattle.table.specs.Laws.Kinds.{cell-lawful}
use Rattle.table.specs.Laws.Next.{put_next}
use Rattle.map.specs.Told.{TableIs}
use Rattle.map.specs.Held.{tally, counted}
use Rattle.map.specs.Laws.Each.{put-each, shows-image, shows-count}
use Rattle.map.specs.Laws.Crowd.{standing-few}
use Rattle.map.specs.Laws.Tally.{tally-more, tally-shorter, tally-counted, tally-room, tally-none, entities-none, entities-more, entities-lead, entities-length}

-- No entity is counted yet.
pub count_none : (s crowd : List ℕ) → crowd ≡ replicate (length crowd) 0 → TableIs cell crowd_width 0 crowd (each id_row (tally (entities_in 0 s)))
count_none s crowd e = subst (λ (t : List (ℕ × Cell)). TableIs cell crowd_width 0 crowd (each id_row (tally t))) (entities-none s) (tally-none crowd e)

module _ (s crowd : List ℕ) (m i : ℕ) (x : TableIs cell crowd_width m crowd (each id_row (tally (entities_in i s)))) (c : Cell) (q : c ≡ cell_at s (entity_width * i + entity_cell)) where
  abbrev name : ℕ
  name = get_or (get_or (rows_of entity_width (suc i) s) i []) 0 0

  one-more : entities_in (i + 1) s ≡ entities_in i s ++ ((name, c) ∷ [])
  one-more = entities-more s i ∙ ap (λ (d : Cell). entities_in i s ++ ((name, d) ∷ [])) (sym q)

  -- There is room for its cell.
  pub count_room : (n : ℕ) → i < n → crowd_width * length (tally (entities_in n s)) ≤ length crowd → has_room4 crowd_width m crowd c ≡ true
  count_room n l h =
      let r = entities-lead s n (i + 1) (omega arith) in
      tally-room (entities_in i s) name c m crowd x
      (omega (arith, tally-shorter (entities_in (i + 1) s) r.0, ap (λ (t : List (ℕ × Cell)). length (tally t)) r.1, ap (λ (t : List (ℕ × Cell)). length (tally t)) one-more))

  module _ (k : ℕ) (f : k ≡ counted (get same (table4 crowd_width m crowd) c)) where
    is-standing : k ≡ how_many (entities_in i s) c
    is-standing = f ∙ tally-counted (entities_in i s) (table4 crowd_width m crowd) c x.is

    -- The number is at most that of the entities passed.
    pub count_fits : k ≤ i
    count_fits = omega (arith, is-standing, standing-few (entities_in i s) c, entities-length s i)

    -- It is counted.
    pub count-more : (j : ℕ) (next : List ℕ) → (j, next) ≡ stored4 (length crowd) (put below c ((k + 1) ∷ []) (table4 crowd_width m crowd)) → TableIs cell crowd_width j next (each id_row (tally (entities_in (i + 1) s)))
    count-more j next u =
        let z = put_next cell crowd_width cell-lawful m crowd x.table (length crowd) j next c ((k + 1) ∷ []) refl u in
        record {
          table = z.0;
          is = z.1 ∙ (λ l. put below c ((is-standing l + 1) ∷ []) (x.is l))
              ∙ put-each (λ (a : Cell) (v : ℕ). v ∷ []) below c (how_many (entities_in i s) c + 1) (tally (entities_in i s))
              ∙ ap (each id_row) (sym (tally-more (entities_in i s) name c) ∙ ap tally (sym one-more));
        }

-- All are counted.
pub count-all : (s crowd : List ℕ) (len m n : ℕ) → length crowd ≡ len → TableIs cell crowd_width m crowd (each id_row (tally (entities_in n s)))
    → (m ≡ length (tally (entities_in n s))) × (crowd ≡ ids_image len (tally (entities_in n s)))
unfolding ids_image
count-all s crowd len m n l x = (
  shows-count cell cell-lawful crowd_width m crowd (each id_row (tally (entities_in n s))) x ∙ each-length id_row (tally (entities_in n s)),
  shows-image cell cell-lawful crowd_width m crowd (each id_row (tally (entities_in n s))) x ∙ ap (λ (k : ℕ). ids_image k (tally (entities_in n s))) l,
)
