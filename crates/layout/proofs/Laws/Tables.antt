-- When words are those of a table.
use Rattle.std.specs.Prelude.{ℕ, ◌*◌, ◌≤◌, ◌≡◌, true, ◌&&◌, List, leb, length, drop}
use Rattle.std.proofs.Common.{leb-true, le-leb}
use Rattle.component.specs.Laws.Tests.{both}
use Rattle.model.specs.Facts.{Asc}
use Rattle.model.specs.Lists.{keys, is_ascending}
use Rattle.model.proofs.Laws.Tests.{true_of}
use Rattle.model.proofs.Laws.Sorted.{is_ascending-in}
use Rattle.table.specs.Rows.{Kind, table_of, is_table_of, are_zero}
use Rattle.layout.specs.Points.{tidy}

-- Tidy rows whose keys ascend are a table.
pub table-by : {K : Type 0} (kind : Kind K) (wide most n : ℕ) (s : List ℕ) → kind.size ≤ wide → tidy wide most n s ≡ true → (n ≤ most → wide * n ≤ length s)
    → Asc kind.less (keys (table_of kind wide n s)) → is_table_of kind wide n s ≡ true
unfolding is_table_of
table-by kind wide most n s a t room asc =
    let p = both (leb n most) (are_zero (drop (wide * n) s)) t in
    let fit : wide * n ≤ length s = room (leb-true n most p.0) in
    let up : is_ascending kind.less (keys (table_of kind wide n s)) ≡ true = true_of (is_ascending kind.less (keys (table_of kind wide n s))) (is_ascending-in asc) in
    λ i. le-leb kind.size wide a i && (le-leb (wide * n) (length s) fit i && (up i && p.1 i))
