-- The numbers of the crowd, read row by row.
use Rattle.std.specs.Prelude.{ℕ, ◌+◌, ◌*◌, ◌<◌, ◌≡◌, List, [], ◌∷◌, ◌++◌, length, take, get_or, set}
use Rattle.std.proofs.Common.{add-one, arith, sym, ap, ◌∙◌, take-suc-set, take_all}
use Rattle.model.specs.Lists.{each, values}
use Rattle.model.specs.Cells.{Cell}
use Rattle.model.specs.Crowd.{how_many}
use Rattle.model.specs.Occupancy.{Occupancy, occupied}
use Rattle.model.proofs.Laws.Members.{each-each, each_append}
use Rattle.layout.specs.Widths.{crowd_width, crowd_count}
use Rattle.layout.specs.Rows.{ids_in}
use Rattle.map.specs.Held.{crowd_of}
use Rattle.partition.specs.Held.{row_in}
use Rattle.partition.specs.Laws.Held.{read_length, read_at}
use Rattle.partition.specs.Laws.Join.{take_more}

-- The numbers of a crowd are how many stand in each occupied cell.
pub crowd-values : (o : Occupancy) → values (crowd_of o) ≡ each (how_many o.entities) (occupied o)
unfolding crowd_of
crowd-values o = each-each (λ (p : Cell × ℕ). p.1) (λ c. (c, how_many o.entities c)) (occupied o)

module _ (crowd : List ℕ) (n : ℕ) where
  abbrev rows : List (Cell × ℕ)
  rows = ids_in n crowd

  -- One number more.
  pub counts-more : (counts : List ℕ) (i : ℕ) → i < n → i < length counts → take i counts ≡ values (take i (ids_in n crowd))
      → take (i + 1) (set counts i (get_or crowd (crowd_width * i + crowd_count) 0)) ≡ values (take (i + 1) (ids_in n crowd))
  counts-more counts i h l e =
      let v : ℕ = get_or crowd (crowd_width * i + crowd_count) 0 in
      ap (λ (m : ℕ). take m (set counts i v)) (add-one i)
      ∙ take-suc-set counts i v l
      ∙ ap (λ (k : List ℕ). k ++ v ∷ []) e
      ∙ sym (each_append (λ (p : Cell × ℕ). p.1) (take i rows) (row_in crowd i ∷ []))
      ∙ ap values (sym (take_more rows i (row_in crowd i) (read_at crowd n i h)))
      ∙ ap (λ (m : ℕ). values (take m rows)) (sym (add-one i))

  -- All numbers.
  pub counts_all : (counts : List ℕ) (i : ℕ) → i ≡ n → take i counts ≡ values (take i (ids_in n crowd)) → take n counts ≡ values (ids_in n crowd)
  counts_all counts i c e =
      ap (λ (m : ℕ). take m counts) (sym c) ∙ e ∙ ap values (take_all i rows (omega (arith, c, read_length crowd n)))
