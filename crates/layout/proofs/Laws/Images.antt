-- Each table is read from its words as it was written, and its words are written as they were read.
use Prim.Native.Nat.{ℕ, zero, suc, ◌+◌, ◌-◌, ◌*◌, ◌≤◌}
use Rattle.std.proofs.Common.{mul-suc, sym, ◌∙◌, ⊎_elim, length-drop, length-take-le, drop_at}
use native.Mathlib.Omega.{arith}
use Rattle.std.specs.Prelude.{◌≡◌, refl, true, drop}
use Rattle.std.proofs.Math.Path.{ap}
use mathlib.Core.List.Memᴰ.{cases_cons as mem-cons}
use mathlib.Core.List.Memᴰ.{not-nil as mem-nil}
use mathlib.Core.List.{List, [], ◌++◌, Memᴰ as Mem}
use Rattle.std.proofs.Math.ListN.{length, take, replicate}
use Rattle.model.specs.Lists.{each, gather}
use Rattle.model.specs.Cells.{Cell}
use Rattle.model.proofs.Laws.Tests.{T_true}
use Rattle.model.proofs.Laws.Members.{each-each, each_same, each-length}
use Rattle.table.specs.Rows.{Kind, number, cell, are_zero, row_of, table_of, image_of, are_wide}
use Rattle.table.specs.Laws.Kinds.{Lawful, number-lawful, cell-lawful}
use Rattle.table.specs.Laws.Words.{table-length, words-all}
use Rattle.table.specs.Laws.Images.{are-zeros, words-length, image-length, table-of-image}
use Rattle.layout.specs.Widths.{entity_width, cell_width, net_width, id_width, group_width}
use Rattle.layout.specs.Rows.{entity_row, entity_of, net_row, id_row, id_of, group_row, group_of, entities_image, cells_image, net_image, ids_image, groups_image, entities_in, cells_in, net_in, ids_in, groups_in}
use Rattle.layout.specs.Facts.{TableLaws, Any, Anyhow}
use Rattle.layout.proofs.Laws.Zeros.{padded}
use Rattle.layout.proofs.Laws.Rows.{entity-written, id-written, group-written, net-written, rows-wide}

-- The rows that are read have w words.
table-wide : {K : Type 0} (kind : Kind K) (w n : ℕ) (s : List ℕ) → kind.size ≤ w → w * n ≤ length s → (p : K × List ℕ) → Mem p (table_of kind w n s) → kind.size + length p.1 ≡ w
unfolding table_of
table-wide kind w zero s h l p m = absurd (mem-nil m)
table-wide {K} kind w (suc n) s h l p m =
    let q = mul-suc w n in
    ⊎_elim
    (λ e. ap (λ (r : K × List ℕ). kind.size + length r.1) e
    ∙ omega (arith, length-drop kind.size (take w s), length-take-le w s (omega arith)))
    (λ k. table-wide kind w n (drop w s) h (omega (arith, length-drop w s)) p k)
    (mem-cons m)

module _ {A K : Type 0} (kind : Kind K) (laws : Lawful kind) (w : ℕ) (wide : kind.size ≤ w)
    (row : A → K × List ℕ) (of : K × List ℕ → A)
    (Good : A → Type 0) (good : (a : A) → Good a → (of (row a) ≡ a) × (kind.size + length (row a).1 ≡ w))
    (Fair : ℕ → List ℕ → Type 0)
    (fair : (n : ℕ) (s : List ℕ) → Fair n s → (p : K × List ℕ) → Mem p (table_of kind w n s) → kind.size + length p.1 ≡ w → row (of p) ≡ p) where
  all-wide : (t : List A) → ((a : A) → Mem a t → Good a) → are_wide kind w (each row t) ≡ true
  all-wide t g = rows-wide kind w row t (λ a m. (good a (g a m)).1)

  read_again : (len : ℕ) (t : List A) → ((a : A) → Mem a t → Good a) → each of (table_of kind w (length t) (image_of kind len (each row t))) ≡ t
  read_again len t g =
      ap (λ (n : ℕ). each of (table_of kind w n (image_of kind len (each row t)))) (sym (each-length row t))
      ∙ ap (each of) (table-of-image kind laws w len (each row t) (all-wide t g))
      ∙ each-each of row t
      ∙ each_same (λ a. of (row a)) t (λ a m. (good a (g a m)).0)

  written-again : (n : ℕ) (s : List ℕ) → w * n ≤ length s → are_zero (drop (w * n) s) ≡ true → Fair n s
      → image_of kind (length s) (each row (each of (table_of kind w n s))) ≡ s
  unfolding image_of
  written-again n s h z f =
      let back : each row (each of (table_of kind w n s)) ≡ table_of kind w n s =
      each-each row of (table_of kind w n s)
      ∙ each_same (λ p. row (of p)) (table_of kind w n s) (λ p m. fair n s f p m (table-wide kind w n s wide h p m)) in
      ap (image_of kind (length s)) back
      ∙ ap (λ (r : List ℕ). r ++ replicate (length s - length r) 0) (words-all kind w laws wide n s h)
      ∙ ap (λ (m : ℕ). take (w * n) s ++ replicate (length s - m) 0) (length-take-le (w * n) s h)
      ∙ padded (w * n) s (T_true z)

  image-zeros : (len : ℕ) (t : List A) → ((a : A) → Mem a t → Good a) → are_zero (drop (w * length t) (image_of kind len (each row t))) ≡ true
  unfolding image_of
  image-zeros len t g =
      let r : List ℕ = gather (row_of kind) (each row t) in
      let e : length r ≡ w * length t =
      words-length kind laws w (each row t) (all-wide t g) ∙ ap (λ (n : ℕ). w * n) (each-length row t) in
      ap are_zero (drop_at r (replicate (len - length r) 0) (w * length t) e) ∙ are-zeros (len - length r)

  image-long : (len : ℕ) (t : List A) → ((a : A) → Mem a t → Good a) → w * length t ≤ len → length (image_of kind len (each row t)) ≡ len
  image-long len t g h =
      image-length kind laws w len (each row t) (all-wide t g) (omega (arith, ap (λ (n : ℕ). w * n) (each-length row t)))

  image-none : (len : ℕ) → image_of kind len (each row []) ≡ replicate len 0
  unfolding image_of
  image-none len = let e : len - 0 ≡ len = omega arith in ap (λ (n : ℕ). replicate n 0) e

  -- The laws of a table from those of its rows.
  pub table-laws : TableLaws w (λ len t. image_of kind len (each row t)) (λ n s. each of (table_of kind w n s)) Good Fair
  table-laws =
      record {
        read = read_again;
        written = written-again;
        long = image-long;
        zeros = image-zeros;
        counted = λ n s. each-length of (table_of kind w n s) ∙ table-length kind w n s;
        none = image-none;
      }

-- The table of entities.
pub entities-laws : TableLaws entity_width entities_image entities_in Any Anyhow
unfolding entities_image entities_in
entities-laws =
    table-laws number number-lawful entity_width (omega arith) entity_row entity_of Any (λ p g. (refl, refl)) Anyhow
    (λ n s f p m e. entity-written p.0 p.1 (omega arith))

-- The table of a net list.
pub net-laws : TableLaws net_width net_image net_in Any Anyhow
unfolding net_image net_in
net-laws =
    table-laws cell cell-lawful net_width (omega arith) net_row (λ (p : Cell × List ℕ). p.0) Any (λ p g. (refl, refl)) Anyhow
    (λ n s f p m e. net-written p.0 p.1 (omega arith))

-- The table of cells with an id.
pub ids-laws : TableLaws id_width ids_image ids_in Any Anyhow
unfolding ids_image ids_in
ids-laws =
    table-laws cell cell-lawful id_width (omega arith) id_row id_of Any (λ p g. (refl, refl)) Anyhow
    (λ n s f p m e. id-written p.0 p.1 (omega arith))

-- The table of groups.
pub groups-laws : TableLaws group_width groups_image groups_in Any Anyhow
unfolding groups_image groups_in
groups-laws =
    table-laws number number-lawful group_width (omega arith) group_row group_of Any (λ p g. (refl, refl)) Anyhow
    (λ n s f p m e. group-written p.0 p.1 (omega arith))

-- The table of occupied cells, with their masks.
pub cells-laws : TableLaws cell_width cells_image cells_in Any Anyhow
unfolding cells_image cells_in
cells-laws =
    table-laws cell cell-lawful cell_width (omega arith) id_row id_of Any (λ p g. (refl, refl)) Anyhow
    (λ n s f p m e. id-written p.0 p.1 (omega arith))
