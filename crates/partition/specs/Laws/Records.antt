-- The group records of cells with one more at the end.
use Prim.Native.Nat.{ℕ, suc, ◌+◌, ◌*◌, ◌≤◌, ◌<◌}
use Rattle.std.proofs.Common.{arith, add-one, sym, ap, ◌∙◌, subst, ⊎_elim, length-append, length-take, take-append-drop, take-suc, drop-cons, take_all}
use Rattle.std.specs.Prelude.{◌≡◌, refl, eqb, ltb, length, take, drop, get_or}
use mathlib.Core.List.Memᴰ.{append_right}
use mathlib.Core.List.Memᴰ.{eq_of_singleton as mem-one}
use mathlib.Core.List.Memᴰ.{head}
use mathlib.Core.List.Memᴰ.{not-nil as mem-nil}
use mathlib.Core.List.Memᴰ.{tail}
use mathlib.Core.List.{List, [], ◌∷◌, ◌++◌, append-nil, Memᴰ as Mem}
use Rattle.std.proofs.Math.Option.{Option, some}
use Rattle.std.proofs.Math.Dec.{eqb_refl}
use Rattle.model.specs.Facts.{Asc}
use Rattle.model.specs.Lists.{keep, has, keys, get, put, values, ascending}
use Rattle.model.specs.Cells.{Cell, same}
use Rattle.model.specs.Groups.{Ids, members, Group, standing_at, lower, higher, corner_at, record_of, records}
use Rattle.model.specs.Crowd.{how_many}
use Rattle.model.proofs.Laws.Tests.{neqb-of}
use Rattle.model.proofs.Laws.Orders.{numbers, cells, is-or}
use Rattle.model.proofs.Laws.Members.{Once, once-head, once-tail, keep_append, keep-yes, keep-no, keep-none, keep_out, key_in, key-out, each_append, run-append, keep-shorter, each-length, gather-out}
use Rattle.model.proofs.Laws.Sorted.{asc-once, ascending-asc, ascending-length}
use Rattle.model.proofs.Laws.Tables.{keys_length, put-asc, table_same, get-put-self, get-put-other}
use Rattle.model.proofs.Laws.Records.{shown_of, records-get, records-keys}
use Rattle.model.proofs.Laws.EntityRows.{standing-last}
use Rattle.layout.specs.Widths.{id_width, cell_id, group_width}
use Rattle.partition.specs.Held.{HeldTable, HeldGroups, HeldCounts, grown, few, row_in}
use Rattle.partition.specs.Laws.Held.{plain_at}
use Rattle.table.specs.Rows.{cell_at}

-- What is shown of cells with a new one at the end.
shown-more : (entities : List (ℕ × Cell)) (l : List Cell) (c : Cell) → (Mem c l → ⊥) → shown_of entities (l ++ c ∷ []) ≡ some (grown (shown_of entities l) c (how_many entities c))
shown-more entities [] c n = λ i. some (record { grid = c.grid; count = 1; entities = alone i; low = corner_at c; high = corner_at c })
  where
    alone : standing_at entities (c ∷ []) ≡ how_many entities c
    alone = standing-last entities [] c n ∙ ap (λ (l : List (ℕ × Cell)). length l + how_many entities c) (keep-none (λ (p : ℕ × Cell). has same [] p.1) entities (λ p m. tt)) ∙ omega arith
shown-more entities (d ∷ l) c n = λ i. some (record {
  grid = d.grid;
  count = suc (longer i);
  entities = standing-last entities (d ∷ l) c n i;
  low = run-append lower (corner_at d) l (c ∷ []) i;
  high = run-append higher (corner_at d) l (c ∷ []) i;
})
  where
    longer : length (l ++ c ∷ []) ≡ suc (length l)
    longer = length-append l (c ∷ []) ∙ omega arith

module _ (t : Ids) (c : Cell) (g : ℕ) where
  members-split : (a : ℕ) → members (t ++ (c, g) ∷ []) a ≡ members t a ++ keys (keep (λ (p : Cell × ℕ). eqb a p.1) ((c, g) ∷ []))
  members-split a =
      ap keys (keep_append (λ (p : Cell × ℕ). eqb a p.1) t ((c, g) ∷ []))
      ∙ each_append (λ (p : Cell × ℕ). p.0) (keep (λ (p : Cell × ℕ). eqb a p.1) t) (keep (λ (p : Cell × ℕ). eqb a p.1) ((c, g) ∷ []))

  -- A cell of a group is one of the cells.
  member-key : Mem c (members t g) → Mem c (keys t)
  member-key m = let r = key-out (keep (λ (p : Cell × ℕ). eqb g p.1) t) m in subst (λ (d : Cell). Mem d (keys t)) (sym r.2) (key_in (keep_out (λ (p : Cell × ℕ). eqb g p.1) t r.1).0)

  -- The group of the last cell has it as its last.
  members-more : members (t ++ (c, g) ∷ []) g ≡ members t g ++ c ∷ []
  members-more = members-split g ∙ ap (λ (l : List (Cell × ℕ)). members t g ++ keys l) (keep-yes (λ (p : Cell × ℕ). eqb g p.1) (c, g) [] (eqb_refl g))

  -- Another group is as it was.
  members-other : (a : ℕ) → (a ≡ g → ⊥) → members (t ++ (c, g) ∷ []) a ≡ members t a
  members-other a n =
      members-split a
      ∙ ap (λ (l : List (Cell × ℕ)). members t a ++ keys l) (keep-no (λ (p : Cell × ℕ). eqb a p.1) (c, g) [] (neqb-of a g n))
      ∙ append-nil (members t a)

  module _ (entities : List (ℕ × Cell)) where
    abbrev recorded : Ids → List (ℕ × Group)
    recorded u = records entities u

    records-asc : (u : Ids) → Asc ltb (keys (recorded u))
    records-asc u = subst (λ (l : List ℕ). Asc ltb l) (sym (records-keys entities u)) (ascending-asc numbers (values u))

    -- The records of cells with a new one at the end are the records of the cells, with that cell's group grown.
    records-more : (Mem c (keys t) → ⊥) → recorded (t ++ (c, g) ∷ []) ≡ put ltb g (grown (get eqb (recorded t) g) c (how_many entities c)) (recorded t)
    records-more new =
        let v : Group = grown (get eqb (recorded t) g) c (how_many entities c) in
        table_same numbers (recorded (t ++ (c, g) ∷ [])) (put ltb g v (recorded t))
        (records-asc (t ++ (c, g) ∷ [])) (put-asc numbers (recorded t) g v (records-asc t))
        (λ a. ⊎_elim
        (λ e. ap (λ (h : ℕ). get eqb (recorded (t ++ (c, g) ∷ [])) h) e
        ∙ records-get entities (t ++ (c, g) ∷ []) g ∙ ap (shown_of entities) members-more ∙ shown-more entities (members t g) c (λ m. new (member-key m))
        ∙ ap (λ (o : Option Group). some (grown o c (how_many entities c))) (sym (records-get entities t g))
        ∙ sym (get-put-self numbers (recorded t) g v)
        ∙ ap (λ (h : ℕ). get eqb (put ltb g v (recorded t)) h) (sym e))
        (λ n. records-get entities (t ++ (c, g) ∷ []) a ∙ ap (shown_of entities) (members-other a n) ∙ sym (records-get entities t a)
        ∙ sym (get-put-other numbers (recorded t) g v a n))
        (is-or numbers a g))

-- There are at most as many records as cells.
pub records-shorter : (entities : List (ℕ × Cell)) (t : Ids) → length (records entities t) ≤ length t
records-shorter entities t =
    let a = keys_length (records entities t) in
    let b = ap length (records-keys entities t) in
    let c = each-length (λ (p : Cell × ℕ). p.1) t in
    omega (arith, ascending-length numbers (values t))

-- A group has at most as many cells as there are, and as many entities.
pub records-few : (entities : List (ℕ × Cell)) (t : Ids) → length t < 9223372036854775808 → length entities < 9223372036854775808 → few (records entities t)
records-few entities t h f q m =
    let r : (g : ℕ) × Mem g (ascending ltb (values t)) × Mem q (record_of entities g (members t g)) = gather-out (λ g. record_of entities g (members t g)) (ascending ltb (values t)) m in
    go r.0 (members t r.0) refl r.2
  where
    go : (g : ℕ) (l : List Cell) → members t g ≡ l → Mem q (record_of entities g l) → (q.1.count < 9223372036854775808) × (q.1.entities < 9223372036854775808)
    go g [] e k = absurd (mem-nil k)
    go g (c ∷ cs) e k =
        let a : q.1.count ≡ suc (length cs) = ap (λ (p : ℕ × Group). p.1.count) (mem-one k) in
        let s : q.1.entities ≡ standing_at entities (c ∷ cs) = ap (λ (p : ℕ × Group). p.1.entities) (mem-one k) in
        let b : length (members t g) ≡ suc (length cs) = ap length e in
        let d = keys_length (keep (λ (p : Cell × ℕ). eqb g p.1) t) in
        (omega (arith, keep-shorter (λ (p : Cell × ℕ). eqb g p.1) t), omega (arith, s, keep-shorter (λ (p : ℕ × Cell). has same (c ∷ cs) p.1) entities))

-- In a list without repeats a cell is not before its place.
not-before : (l : List Cell) (c : Cell) (m : List Cell) → Once (l ++ c ∷ m) → Mem c l → ⊥
not-before [] c m o k = mem-nil k
not-before (d ∷ l) c m o (head e) = once-head o (subst (λ (x : Cell). Mem x (l ++ c ∷ m)) e (append_right l (head refl)))
not-before (d ∷ l) c m o (tail k) = not-before l c m (once-tail o) k

module _ (words counts groups : List ℕ) (n k i : ℕ) (entities : List (ℕ × Cell)) (t : Ids) (held : HeldTable words n t) (counted : HeldCounts counts words n entities) (done : HeldGroups groups k (records entities (take i t))) (h : i < n) (len : group_width * n ≤ length groups) where
  abbrev row : Cell × ℕ
  row = row_in words i

  -- No more stand in the cell than there are.
  pub count-few : length entities < 9223372036854775808 → get_or counts i 0 < 9223372036854775808
  unfolding how_many
  count-few f = omega (arith, counted.are i h, keep-shorter (λ (p : ℕ × Cell). same row.0 p.1) entities)

  -- What counting one more cell asks.
  pub turn-asks : n < 9223372036854775808 → length entities < 9223372036854775808 → (l : List (ℕ × Group)) × HeldGroups groups k l × few l × (group_width * k + group_width ≤ length groups)
  turn-asks b f =
      let s : length (take i t) ≤ i = omega (arith, length-take i t) in
      let r = records-shorter entities (take i t) in
      let c : k ≡ length (records entities (take i t)) = done.count in
      (records entities (take i t), done, records-few entities (take i t) (omega arith) f, omega arith)

  -- The first rows, one more of them.
  taken_more : take (i + 1) t ≡ take i t ++ row ∷ []
  taken_more =
      let c : n ≡ length t = held.count in
      let d : ◌≡◌ {A = List (Cell × ℕ)} (get_or t i row ∷ drop (suc i) t) (row ∷ drop (suc i) t) = sym (drop-cons t i row (omega arith)) ∙ plain_at words n t held i h in
      ap (λ (m : ℕ). take m t) (add-one i) ∙ take-suc t i row (omega arith) ∙ ap (λ (q : Cell × ℕ). take i t ++ q ∷ []) (ap (λ (l : List (Cell × ℕ)). get_or l 0 row) d)

  -- The cell of a row is not in a row before it.
  new-cell : Mem row.0 (keys (take i t)) → ⊥
  new-cell m =
      let e : t ≡ take i t ++ row ∷ drop (suc i) t = sym (take-append-drop i t) ∙ ap (λ (l : List (Cell × ℕ)). take i t ++ l) (plain_at words n t held i h) in
      not-before (keys (take i t)) row.0 (keys (drop (suc i) t))
      (subst Once (ap keys e ∙ each_append (λ (p : Cell × ℕ). p.0) (take i t) (row ∷ drop (suc i) t)) (asc-once cells held.asc)) m

  -- What counting one more cell gives.
  pub turn-done : (r : ℕ) (x : List ℕ) (d : Cell) → d ≡ cell_at words (id_width * i)
      → ((l : List (ℕ × Group)) → HeldGroups groups k l → HeldGroups x r (put ltb (get_or words (id_width * i + cell_id) 0) (grown (get eqb l (get_or words (id_width * i + cell_id) 0)) d (get_or counts i 0)) l))
      → HeldGroups x r (records entities (take (i + 1) t))
  turn-done r x d b f =
      let u : List (ℕ × Group) = records entities (take i t) in
      subst (λ (l : List (ℕ × Group)). HeldGroups x r l) (sym (ap (records entities) taken_more ∙ records-more (take i t) row.0 row.1 entities new-cell))
      (subst (λ (m : ℕ). HeldGroups x r (put ltb row.1 (grown (get eqb u row.1) row.0 m) u)) (counted.are i h)
      (subst (λ (c : Cell). HeldGroups x r (put ltb row.1 (grown (get eqb u row.1) c (get_or counts i 0)) u)) b (f u done)))

-- The records of all cells are held in the end.
pub all_done : (words groups : List ℕ) (n k i : ℕ) (entities : List (ℕ × Cell)) (t : Ids) → HeldTable words n t → HeldGroups groups k (records entities (take i t)) → n ≤ i → HeldGroups groups k (records entities t)
all_done words groups n k i entities t held done h =
    let c : n ≡ length t = held.count in
    subst (λ (u : Ids). HeldGroups groups k (records entities u)) (take_all i t (omega arith)) done
