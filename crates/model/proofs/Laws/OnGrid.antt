-- Occupancy on one grid: a passage elsewhere changes nothing there, and a passage there does what it does on the grid by itself.
use Rattle.std.specs.Prelude.{ℕ, ◌≡◌, refl, Bool, true, false, cond, not, T, eqb, ltb}
use Rattle.std.proofs.Common.{sym, ◌∙◌, ap, ap₂, subst, T_not}
use mathlib.Core.List.{List, ◌∷◌, Memᴰ as Mem}
use Rattle.model.specs.Facts.{Asc, Sound, Net}
use Rattle.model.specs.Lists.{keep, has, without, add, run, put, only, drop_key}
use Rattle.model.specs.Cells.{Cell, same, below}
use Rattle.model.specs.Masks.{masked}
use Rattle.model.specs.Occupancy.{Occupancy, Batch, Passage, leaves, enters, events, occupied, stands_in, with_entities, start_batch, open_cell, close_cell, pass, trace, play_batch}
use Rattle.model.specs.Runs.{on_grid, passage_on}
use Rattle.model.proofs.Laws.Tests.{T_true, T_false, same_test}
use Rattle.model.proofs.Laws.Orders.{numbers, cells, differ}
use Rattle.model.proofs.Laws.Members.{keep-in, keep_out, keep-swap, any-in, any_out}
use Rattle.model.proofs.Laws.Sorted.{keep-asc, keep-add-yes, keep-add-no}
use Rattle.model.proofs.Laws.Tables.{keys-only}
use Rattle.model.proofs.Laws.Masks.{masked_on}
use Rattle.model.proofs.Laws.Touching.{Touching}
use Rattle.model.proofs.Laws.Occupied.{Fits, FitsAll, fits-nil, fits-cons, occupied-asc, pass-sound, start-sound, trace-fits, trace-run}
use Rattle.model.proofs.Laws.Minus.{minus-self}
use Rattle.model.proofs.Laws.Net.{pass-net}
use Rattle.model.proofs.Laws.Rows.{rows-put-yes, rows-put-no, rows-drop-no}
use Rattle.model.proofs.Laws.View.{keep-sub}
use Rattle.model.proofs.Laws.Lock.{has_on}

-- What stands on the grid.
abbrev pub viewed : ℕ → Occupancy → Occupancy
viewed grid o =
    record {
      entities = keep (λ (p : ℕ × Cell). on_grid grid p.1) o.entities;
      masks = only (on_grid grid) o.masks;
      newly_occupied = keep (on_grid grid) o.newly_occupied;
      newly_emptied = keep (on_grid grid) o.newly_emptied;
    }

-- Two occupancies with equal parts are equal.
occ-equal : {o p : Occupancy} → o.entities ≡ p.entities → o.masks ≡ p.masks → o.newly_occupied ≡ p.newly_occupied → o.newly_emptied ≡ p.newly_emptied → o ≡ p
occ-equal a b c d = λ i. record { entities = a i; masks = b i; newly_occupied = c i; newly_emptied = d i }

-- Touching does not leave a grid.
pub stays_on : {touch : Cell → Cell → Bool} → Touching touch → (grid : ℕ) (a b : Cell) → T (touch a b) → T (on_grid grid a) → T (on_grid grid b)
stays_on laws grid a b t o = subst (λ g. T (eqb grid g)) (laws.one-grid a b t) o

-- Whether some entity stands in a cell of the grid is seen on the grid.
pub stands_on : (grid : ℕ) (l : List (ℕ × Cell)) (c : Cell) → T (on_grid grid c) → stands_in l c ≡ stands_in (keep (λ (p : ℕ × Cell). on_grid grid p.1) l) c
stands_on grid l c o =
    same_test (stands_in l c) (stands_in (keep on l) c)
    (λ t. let r : (p : ℕ × Cell) × Mem p l × T (at p) = any_out at l t in any-in at (keep-in on r.1 (subst (λ d. T (on_grid grid d)) (cells.same-eq c r.0.1 r.2) o)) r.2)
    (λ t. let r : (p : ℕ × Cell) × Mem p (keep on l) × T (at p) = any_out at (keep on l) t in any-in at (keep_out on l r.1).0 r.2)
  where
    on : ℕ × Cell → Bool
    on p = on_grid grid p.1

    at : ℕ × Cell → Bool
    at p = same c p.1

-- The occupied cells of the grid.
pub occupied-on : (grid : ℕ) (o : Occupancy) → occupied (viewed grid o) ≡ keep (on_grid grid) (occupied o)
occupied-on grid o = keys-only (on_grid grid) o.masks

module _ (touch : Cell → Cell → Bool) (laws : Touching touch) (grid : ℕ) where
  -- Whether a cell is of the grid.
  abbrev on : Cell → Bool
  on = on_grid grid

  -- A cell of the grid joins one net list unless it leaves the other.
  joins-on : (c : Cell) → T (on c) → (l m : List Cell) → Asc below l → keep on (cond (has same m c) l (add below c l)) ≡ cond (has same (keep on m) c) (keep on l) (add below c (keep on l))
  joins-on c u l m s = go (has same m c) ∙ ap (λ b. cond b (keep on l) (add below c (keep on l))) (has_on on m c u)
    where
      go : (b : Bool) → keep on (cond b l (add below c l)) ≡ cond b (keep on l) (add below c (keep on l))
      go true = refl
      go false = keep-add-yes cells on c l s u

  module _ (c : Cell) (o : Occupancy) where
    module _ (u : T (on c)) (occ-asc : Asc below (occupied o)) (was : List Cell) (was-asc : Asc below was) (net : Net was o) where
      -- A cell of the grid opens on the grid by itself.
      open-on : viewed grid (open_cell touch c o) ≡ open_cell touch c (viewed grid o)
      open-on =
          occ-equal refl
          (masked_on touch on (stays_on laws grid) (add below c (occupied o)) ∙ ap (masked touch) (keep-add-yes cells on c (occupied o) occ-asc u ∙ ap (add below c) (sym (occupied-on grid o))))
          (joins-on c u o.newly_occupied o.newly_emptied (subst (Asc below) (sym net.opened) (keep-asc _ _ occ-asc)))
          (keep-swap on (λ d. not (same c d)) o.newly_emptied)

      -- A cell of the grid closes on the grid by itself.
      close-on : viewed grid (close_cell touch c o) ≡ close_cell touch c (viewed grid o)
      close-on =
          occ-equal refl
          (masked_on touch on (stays_on laws grid) (without same c (occupied o)) ∙ ap (masked touch) (keep-swap on (λ d. not (same c d)) (occupied o) ∙ ap (without same c) (sym (occupied-on grid o))))
          (keep-swap on (λ d. not (same c d)) o.newly_occupied)
          (joins-on c u o.newly_emptied o.newly_occupied (subst (Asc below) (sym net.emptied) (keep-asc _ _ was-asc)))

    module _ (exact : o.masks ≡ masked touch (occupied o)) (n : T (not (on c))) where
      -- A cell of the grid is another.
      other : (d : Cell) → T (on d) → T (not (same c d))
      other d u = differ cells {a = c} {b = d} (λ e. T_not (on c) n (subst (λ x. T (on x)) (sym e) u))

      -- Cells that are the same on the grid have the same masks there.
      masks-same : (l : List Cell) → keep on l ≡ keep on (occupied o) → only on (masked touch l) ≡ only on o.masks
      masks-same l e = masked_on touch on (stays_on laws grid) l ∙ ap (masked touch) e ∙ sym (masked_on touch on (stays_on laws grid) (occupied o)) ∙ ap (only on) (sym exact)

      -- In the net lists of the grid it does not show.
      joins-off : (b : Bool) (l : List Cell) → keep on (cond b l (add below c l)) ≡ keep on l
      joins-off true l = refl
      joins-off false l = keep-add-no cells on c l n

      -- To open a cell of another grid changes nothing on this one.
      open-off : viewed grid (open_cell touch c o) ≡ viewed grid o
      open-off =
          occ-equal refl
          (masks-same (add below c (occupied o)) (keep-add-no cells on c (occupied o) n))
          (joins-off (has same o.newly_emptied c) o.newly_occupied)
          (keep-sub on (λ d. not (same c d)) o.newly_emptied (λ d m u. other d u))

      -- To close a cell of another grid changes nothing on this one.
      close-off : viewed grid (close_cell touch c o) ≡ viewed grid o
      close-off =
          occ-equal refl
          (masks-same (without same c (occupied o)) (keep-sub on (λ d. not (same c d)) (occupied o) (λ d m u. other d u)))
          (keep-sub on (λ d. not (same c d)) o.newly_occupied (λ d m u. other d u))
          (joins-off (has same o.newly_occupied c) o.newly_emptied)

  module _ (o : Occupancy) (ok : Sound touch o) where
    -- A passage of the grid does what it does on the grid by itself.
    pass_on : (was : List Cell) → Asc below was → Net was o → (p : Passage) → T (passage_on grid p) → viewed grid (pass touch o p) ≡ pass touch (viewed grid o) p
    pass_on was was-asc net (leaves e c) u = ap₂ (λ t x. with_entities t x) drop' (go (stands_in (drop_key eqb e o.entities) c)) ∙ ap (λ b. with_entities (drop_key eqb e (viewed grid o).entities) (cond b (viewed grid o) (close_cell touch c (viewed grid o)))) stands'
      where
        drop' : keep (λ (p : ℕ × Cell). on p.1) (drop_key eqb e o.entities) ≡ drop_key eqb e (viewed grid o).entities
        drop' = keep-swap (λ (p : ℕ × Cell). on p.1) (λ (p : ℕ × Cell). not (eqb e p.0)) o.entities

        stands' : stands_in (drop_key eqb e o.entities) c ≡ stands_in (drop_key eqb e (viewed grid o).entities) c
        stands' = stands_on grid (drop_key eqb e o.entities) c u ∙ ap (λ t. stands_in t c) drop'

        go : (b : Bool) → viewed grid (cond b o (close_cell touch c o)) ≡ cond b (viewed grid o) (close_cell touch c (viewed grid o))
        go true = refl
        go false = close-on c o u (occupied-asc touch o ok) was was-asc net
    pass_on was was-asc net (enters e c) u = ap₂ (λ t x. with_entities t x) put' (go (stands_in o.entities c)) ∙ ap (λ b. with_entities (put ltb e c (viewed grid o).entities) (cond b (viewed grid o) (open_cell touch c (viewed grid o)))) (stands_on grid o.entities c u)
      where
        put' : keep (λ (p : ℕ × Cell). on p.1) (put ltb e c o.entities) ≡ put ltb e c (viewed grid o).entities
        put' = rows-put-yes numbers (λ (p : ℕ × Cell). on p.1) o.entities ok.asc e c u

        go : (b : Bool) → viewed grid (cond b o (open_cell touch c o)) ≡ cond b (viewed grid o) (open_cell touch c (viewed grid o))
        go true = refl
        go false = open-on c o u (occupied-asc touch o ok) was was-asc net

    -- A passage elsewhere changes nothing on the grid.
    pass-off : (p : Passage) → Fits o.entities p → T (not (passage_on grid p)) → viewed grid (pass touch o p) ≡ viewed grid o
    pass-off (leaves e c) fits n = ap₂ (λ t x. with_entities t x) (rows-drop-no numbers (λ (p : ℕ × Cell). on p.1) o.entities ok.asc e c fits n) (go (stands_in (drop_key eqb e o.entities) c))
      where
        go : (b : Bool) → viewed grid (cond b o (close_cell touch c o)) ≡ viewed grid o
        go true = refl
        go false = close-off c o ok.exact n
    pass-off (enters e c) fits n = ap₂ (λ t x. with_entities t x) (rows-put-no numbers (λ (p : ℕ × Cell). on p.1) o.entities ok.asc e c fits n) (go (stands_in o.entities c))
      where
        go : (b : Bool) → viewed grid (cond b o (open_cell touch c o)) ≡ viewed grid o
        go true = refl
        go false = open-off c o ok.exact n

  -- Passages that fit do on the grid what those of the grid do there by themselves.
  passes_on : (was : List Cell) → Asc below was → {o : Occupancy} {ps : List Passage} → FitsAll touch o ps → Sound touch o → Net was o → viewed grid (run (pass touch) o ps) ≡ run (pass touch) (viewed grid o) (keep (passage_on grid) ps)
  passes_on was was-asc fits-nil ok net = refl
  passes_on was was-asc (fits-cons {o} {p} {ps} h r) ok net =
      passes_on was was-asc r (pass-sound touch o p ok h) (pass-net touch was was-asc o p ok net h) ∙ go (passage_on grid p) refl
    where
      go : (b : Bool) → passage_on grid p ≡ b → run (pass touch) (viewed grid (pass touch o p)) (keep (passage_on grid) ps) ≡ run (pass touch) (viewed grid o) (cond b (p ∷ keep (passage_on grid) ps) (keep (passage_on grid) ps))
      go true e = ap (λ x. run (pass touch) x (keep (passage_on grid) ps)) (pass_on o ok was was-asc net p (T_true e))
      go false e = ap (λ x. run (pass touch) x (keep (passage_on grid) ps)) (pass-off o ok p h (T_false e))

  -- A batch does on the grid what its passages of the grid do there by themselves.
  pub batch-on : (b : Batch) (o : Occupancy) → Sound touch o → viewed grid (play_batch touch b o) ≡ run (pass touch) (start_batch (viewed grid o)) (keep (passage_on grid) (trace touch (start_batch o) (events b)))
  batch-on b o ok =
      ap (viewed grid) (trace-run touch (start_batch o) (events b))
      ∙ passes_on (occupied o) (occupied-asc touch o ok) (trace-fits touch (start_batch o) (events b)) (start-sound touch o ok)
      (record { opened = sym (minus-self cells (occupied o)); emptied = sym (minus-self cells (occupied o)) })

  -- Batches with the same passages of the grid leave the same there.
  pub batches-agree : (b d : Batch) (o p : Occupancy) → Sound touch o → Sound touch p → viewed grid o ≡ viewed grid p →
      keep (passage_on grid) (trace touch (start_batch o) (events b)) ≡ keep (passage_on grid) (trace touch (start_batch p) (events d)) → viewed grid (play_batch touch b o) ≡ viewed grid (play_batch touch d p)
  batches-agree b d o p ok ok' e f = batch-on b o ok ∙ ap₂ (λ x l. run (pass touch) (start_batch x) l) e f ∙ sym (batch-on d p ok')
