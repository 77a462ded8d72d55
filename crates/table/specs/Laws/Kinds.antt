-- What is asked of a kind of key, and that both kinds have it.
use Rattle.std.specs.Prelude.{ℕ, ◌≤◌, ◌≡◌, Some, ltb, refl, List, [], ◌∷◌, ◌++◌, length, drop}
use Rattle.std.proofs.Common.{arith, rules}
use Rattle.std.specs.Ordering.{partial_lt, nat_cmp}
use Rattle.component.specs.declared.Cell.{Cell}
use Rattle.component.specs.contracts.CellPartialOrd.TheImpl.{partial_cmp-value}
use Rattle.model.proofs.Laws.Orders.{Ordered, numbers, cells}
use Rattle.component.specs.Order.{below}
use Rattle.table.specs.Rows.{Kind, number, cell}

-- The order is strict and total, a key has as many words as said, and it is read as it was written.
pub record Lawful {K : Type 0} (kind : Kind K) : Type 0 where
  pub order : Ordered kind.equal kind.less
  pub long : (k : K) → length (kind.write k) ≡ kind.size
  pub reads : (k : K) (v : List ℕ) → kind.read (kind.write k ++ v) ≡ k
  pub writes : (r : List ℕ) → kind.size ≤ length r → kind.write (kind.read r) ++ drop kind.size r ≡ r

number-writes : (r : List ℕ) → 1 ≤ length r → number.write (number.read r) ++ drop 1 r ≡ r
number-writes [] h = absurd (omega arith)
number-writes (a ∷ r) h = refl

-- The key of one word.
pub number-lawful : Lawful number
number-lawful = record { order = numbers; long = λ k. refl; reads = λ k v. refl; writes = number-writes }

cell-writes : (r : List ℕ) → 4 ≤ length r → cell.write (cell.read r) ++ drop 4 r ≡ r
cell-writes [] h = absurd (omega arith)
cell-writes (a ∷ []) h = absurd (omega arith)
cell-writes (a ∷ b ∷ []) h = absurd (omega arith)
cell-writes (a ∷ b ∷ c ∷ []) h = absurd (omega arith)
cell-writes (a ∷ b ∷ c ∷ d ∷ r) h = refl

-- The key of four words.
pub cell-lawful : Lawful cell
cell-lawful = record { order = cells; long = λ k. refl; reads = λ k v. refl; writes = cell-writes }

-- A key of either kind has some words, and its order is that of the code's `<`.
pub number-some : 1 ≤ 1
number-some = omega arith

pub number-less : (a b : ℕ) → partial_lt (λ x y. Some (nat_cmp x y)) a b ≡ ltb a b
number-less a b = search rules

pub cell-some : 1 ≤ 4
cell-some = omega arith

pub cell-less : (a b : Cell) → partial_lt partial_cmp-value.it a b ≡ below a b
cell-less a b = search rules
