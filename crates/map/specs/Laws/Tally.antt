-- The tally of the entities, one entity after the other, and the crowd that it is.
use Prim.Native.Nat.{ℕ, suc, ◌+◌, ◌-◌, ◌*◌, ◌≤◌, ◌<◌}
use Rattle.std.proofs.Common.{add-one, sym, ◌∙◌, subst, ⊎_elim, take-append-drop}
use native.Mathlib.Omega.{arith}
use Rattle.std.specs.Prelude.{◌≡◌, refl, Bool, true, cond, drop, get_or, replicate}
use Rattle.std.proofs.Math.Path.{ap}
use mathlib.Core.List.Memᴰ.{append_cases}
use mathlib.Core.List.Memᴰ.{append_left}
use mathlib.Core.List.Memᴰ.{append_right}
use mathlib.Core.List.Memᴰ.{eq_of_singleton as mem-one}
use mathlib.Core.List.Memᴰ.{head}
use mathlib.Core.List.{List, [], ◌∷◌, ◌++◌, Memᴰ as Mem}
use Rattle.std.proofs.Math.ListN.{length, length-append}
use Rattle.std.proofs.Math.Seq.{drop-length}
use Rattle.model.specs.Facts.{nil, Sound}
use Rattle.model.specs.Lists.{keep, add, ascending, each, keys, values, put, get}
use Rattle.model.specs.Cells.{Cell, same, below}
use Rattle.model.specs.Occupancy.{Occupancy}
use Rattle.model.specs.Crowd.{how_many, tallied}
use Rattle.model.proofs.Laws.Tests.{cond_yes, cond_no}
use Rattle.model.proofs.Laws.Orders.{cells, differ}
use Rattle.model.proofs.Laws.Members.{keep_append, each_append, each-length, once-shorter, mem-or}
use Rattle.model.proofs.Laws.Sorted.{asc-once, asc-equal, add-out, add-in, add-self, add-asc, add-length-new, ascending-asc, ascending-in, ascending-out}
use Rattle.model.proofs.Laws.Occupied.{stands-has}
use Rattle.layout.specs.Widths.{crowd_width, entity_cell, entity_width}
use Rattle.layout.specs.Rows.{id_row, entity_of, entities_image, entities_in}
use Rattle.layout.proofs.Laws.Images.{entities-laws}
use Rattle.table.specs.Rows.{number, cell, cell_at, rows_of, entry_of, table_of, table1, table4, image_of, has_room4}
use Rattle.table.specs.Laws.Kinds.{cell-lawful}
use Rattle.table.specs.Laws.Words.{entry_at, take-table, table-length, rest_at}
use Rattle.table.specs.Laws.Next.{room-space, room-there}
use Rattle.map.specs.Told.{TableIs}
use Rattle.map.specs.Held.{tally, crowd_of, counted}
use Rattle.map.specs.Laws.Each.{keys-each, image-shows, shows-count}
use Rattle.map.specs.Laws.Crowd.{tallied-keys, tallied-put, tallied-counted, crowd-tally}

-- The cells of a list with one more, ascending.
ascending-more : (l : List Cell) (c : Cell) → ascending below (l ++ (c ∷ [])) ≡ add below c (ascending below l)
ascending-more l c =
    asc-equal cells _ _ (ascending-asc cells (l ++ (c ∷ []))) (add-asc cells c (ascending below l) (ascending-asc cells l))
    (λ a m. ⊎_elim (λ k. add-in cells c (ascending below l) (ascending-in cells l k)) (λ k. add-self cells c (ascending below l) (mem-one k)) (append_cases l (ascending-out cells (l ++ (c ∷ [])) m)))
    (λ a m. ascending-in cells (l ++ (c ∷ [])) (⊎_elim (λ e. append_right l (head e)) (λ k. append_left (c ∷ []) (ascending-out cells l k)) (add-out cells c (ascending below l) m)))

-- A list that some members lead has no fewer cells.
ascending-shorter : (l m : List Cell) → length (ascending below l) ≤ length (ascending below (l ++ m))
ascending-shorter l m =
    once-shorter (asc-once cells (ascending-asc cells l)) (ascending below (l ++ m))
    (λ a k. ascending-in cells (l ++ m) (append_left m (ascending-out cells l k)))

module _ (t : List (ℕ × Cell)) (e : ℕ) (c : Cell) where
  standing-more : (a : Cell) → how_many (t ++ ((e, c) ∷ [])) a ≡ how_many t a + length {A = ℕ × Cell} (cond (same a c) ((e, c) ∷ []) [])
  unfolding how_many
  standing-more a =
      ap length (keep_append (λ (p : ℕ × Cell). same a p.1) t ((e, c) ∷ []))
      ∙ length-append (keep (λ (p : ℕ × Cell). same a p.1) t) (cond (same a c) ((e, c) ∷ []) [])

  -- The tally with one entity more.
  pub tally-more : tally (t ++ ((e, c) ∷ [])) ≡ put below c (how_many t c + 1) (tally t)
  unfolding tally
  tally-more =
      ap (tallied (how_many (t ++ ((e, c) ∷ [])))) (ap (ascending below) (each_append (λ (p : ℕ × Cell). p.1) t ((e, c) ∷ [])) ∙ ascending-more (values t) c)
      ∙ tallied-put (how_many (t ++ ((e, c) ∷ []))) (how_many t) c (ascending below (values t)) (ascending-asc cells (values t)) (how_many t c + 1)
      (standing-more c ∙ ap (λ (l : List (ℕ × Cell)). how_many t c + length l) (cond_yes (same c c) ((e, c) ∷ []) [] (cells.same_self c)))
      (λ a n. standing-more a ∙ ap (λ (l : List (ℕ × Cell)). how_many t a + length l) (cond_no (same a c) ((e, c) ∷ []) [] (differ cells n)) ∙ plus-zero (how_many t a))
    where
      plus-zero : (k : ℕ) → k + 0 ≡ k
      plus-zero k = omega arith

-- A tally has as many rows as cells.
tally-length : (t : List (ℕ × Cell)) → length (tally t) ≡ length (ascending below (values t))
unfolding tally
tally-length t = each-length (λ a. (a, how_many t a)) (ascending below (values t))

-- A tally of entities that lead others has no more rows.
pub tally-shorter : (t u : List (ℕ × Cell)) → length (tally t) ≤ length (tally (t ++ u))
tally-shorter t u =
    omega (
      arith,
      tally-length t,
      tally-length (t ++ u),
      ascending-shorter (values t) (values u),
      ap (λ (l : List Cell). length (ascending below l)) (each_append (λ (p : ℕ × Cell). p.1) t u),
    )

-- What a lookup in the rows of a tally finds is the number that stand there.
pub tally-counted : (t : List (ℕ × Cell)) (u : List (Cell × List ℕ)) (c : Cell) → u ≡ each id_row (tally t) → counted (get same u c) ≡ how_many t c
unfolding tally
tally-counted t u c e = tallied-counted t (ascending below (values t)) (ascending-asc cells (values t)) (stands-has t) u c e

-- There is room for the number of a cell where a tally with one entity more fits.
pub tally-room : (t : List (ℕ × Cell)) (e : ℕ) (c : Cell) (m : ℕ) (s : List ℕ) → TableIs cell crowd_width m s (each id_row (tally t)) → crowd_width * length (tally (t ++ ((e, c) ∷ []))) ≤ length s → has_room4 crowd_width m s c ≡ true
unfolding tally
tally-room t e c m s x h =
    ⊎_elim
    (λ k. room-there cell crowd_width cell-lawful m s (subst (λ l. Mem c l) (sym keyed) k))
    (λ n. room-space cell crowd_width m s c (omega (arith, h, grown n, shows-count cell cell-lawful crowd_width m s (each id_row (tally t)) x, each-length id_row (tally t), tally-length t)))
    (mem-or cells c (ascending below (values t)))
  where
    keyed : keys (table4 crowd_width m s) ≡ ascending below (values t)
    keyed = ap keys x.is ∙ keys-each (λ (a : Cell) (k : ℕ). k ∷ []) (tally t) ∙ tallied-keys (how_many t) (ascending below (values t))

    grown : (Mem c (ascending below (values t)) → ⊥) → length (tally (t ++ ((e, c) ∷ []))) ≡ suc (length (ascending below (values t)))
    grown n =
        tally-length (t ++ ((e, c) ∷ []))
        ∙ ap length (ap (ascending below) (each_append (λ (p : ℕ × Cell). p.1) t ((e, c) ∷ [])) ∙ ascending-more (values t) c)
        ∙ add-length-new cells c (ascending below (values t)) n

-- Words that are zero show the tally of no entity.
pub tally-none : (s : List ℕ) → s ≡ replicate (length s) 0 → TableIs cell crowd_width 0 s (each id_row (tally []))
unfolding tally image_of
tally-none s e =
    let z : length s ≡ length s - 0 = omega arith in
    image-shows cell cell-lawful crowd_width 0 s [] (e ∙ ap (λ (n : ℕ). replicate n 0) z) refl (omega arith) refl nil

module _ (n : ℕ) (s : List ℕ) (i : ℕ) where
  abbrev row : List ℕ
  row = get_or (rows_of entity_width n s) i []

  -- The cell of row i stands behind its first word.
  pub entity-cell : i < n → cell_at s (entity_width * i + entity_cell) ≡ cell_at (drop 1 (get_or (rows_of entity_width n s) i [])) 0
  entity-cell l =
      let h : entity_width * i + entity_cell + 1 ≡ entity_width * i + 2 = omega arith in
      let g : entity_width * i + entity_cell + 2 ≡ entity_width * i + 3 = omega arith in
      let f : entity_width * i + entity_cell + 3 ≡ entity_width * i + 4 = omega arith in
      λ j. record {
        grid = sym (rest_at entity_width n s i entity_cell 0 l (omega arith)) j;
        z = (ap (λ (m : ℕ). get_or s m 0) h ∙ sym (rest_at entity_width n s i entity_cell 1 l (omega arith))) j;
        y = (ap (λ (m : ℕ). get_or s m 0) g ∙ sym (rest_at entity_width n s i entity_cell 2 l (omega arith))) j;
        x = (ap (λ (m : ℕ). get_or s m 0) f ∙ sym (rest_at entity_width n s i entity_cell 3 l (omega arith))) j;
      }

-- No row has no entity.
pub entities-none : (s : List ℕ) → [] ≡ entities_in 0 s
unfolding entities_in table_of
entities-none s = refl

-- The entities of one more row.
pub entities-more : (s : List ℕ) (i : ℕ) → entities_in (i + 1) s ≡ entities_in i s ++ ((get_or (get_or (rows_of entity_width (suc i) s) i []) 0 0, cell_at s (entity_width * i + entity_cell)) ∷ [])
unfolding entities_in
entities-more s i =
    let t : List (ℕ × List ℕ) = table1 entity_width (suc i) s in
    let behind : drop (suc i) t ≡ [] = ap (λ (k : ℕ). drop k t) (sym (table-length number entity_width (suc i) s)) ∙ drop-length t in
    let split : t ≡ table1 entity_width i s ++ (entry_of number (get_or (rows_of entity_width (suc i) s) i []) ∷ []) =
    sym (take-append-drop i t)
    ∙ (λ j. take-table number entity_width (suc i) i s (omega arith) j ++ (entry_at number entity_width (suc i) s i (omega arith) ∙ ap (λ (l : List (ℕ × List ℕ)). entry_of number (get_or (rows_of entity_width (suc i) s) i []) ∷ l) behind) j) in
    ap (λ (k : ℕ). each entity_of (table1 entity_width k s)) (add-one i)
    ∙ ap (each entity_of) split
    ∙ each_append entity_of (table1 entity_width i s) (entry_of number (get_or (rows_of entity_width (suc i) s) i []) ∷ [])
    ∙ ap (λ (c : Cell). each entity_of (table1 entity_width i s) ++ ((get_or (get_or (rows_of entity_width (suc i) s) i []) 0 0, c) ∷ [])) (sym (entity-cell (suc i) s i (omega arith)))

-- The entities of the first rows lead those of all rows.
pub entities-lead : (s : List ℕ) (n i : ℕ) → i ≤ n → (u : List (ℕ × Cell)) × (entities_in n s ≡ entities_in i s ++ u)
unfolding entities_in
entities-lead s n i h = (
  each entity_of (drop i (table1 entity_width n s)),
  ap (each entity_of) (sym (take-append-drop i (table1 entity_width n s)) ∙ ap (λ (l : List (ℕ × List ℕ)). l ++ drop i (table1 entity_width n s)) (take-table number entity_width n i s h))
      ∙ each_append entity_of (table1 entity_width i s) (drop i (table1 entity_width n s)),
)

-- There are as many entities as rows.
pub entities-length : (s : List ℕ) (n : ℕ) → length (entities_in n s) ≡ n
entities-length s n = entities-laws.counted n s

-- A tally of the entities in words is the crowd of the occupancy that they stand for.
pub crowd-of-words : (touch : Cell → Cell → Bool) (o : Occupancy) → Sound touch o → (n : ℕ) (s : List ℕ) → s ≡ entities_image (length s) o.entities → n ≡ length o.entities
    → tally (entities_in n s) ≡ crowd_of o
crowd-of-words touch o ok n s e c =
    ap tally ((λ i. entities_in (c i) (e i)) ∙ entities-laws.read (length s) o.entities (λ a m. tt)) ∙ sym (crowd-tally touch o ok)
