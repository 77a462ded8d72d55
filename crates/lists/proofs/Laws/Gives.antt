-- Lists are given.
use Rattle.std.specs.Prelude.{ℕ, ◌*◌, ◌≤◌, ◌≡◌, Bool, List, length, take}
use Rattle.std.proofs.Common.{arith, sym, ap, ◌∙◌, length-take-le}
use Rattle.model.specs.Lists.{gather, keys}
use Rattle.model.specs.Cells.{Cell}
use Rattle.model.specs.Questions.{Listed}
use Rattle.model.proofs.Laws.Members.{each-each}
use Rattle.table.specs.Rows.{table1}
use Rattle.layout.specs.Widths.{group_width, answer_width}
use Rattle.layout.specs.Rows.{group_of, groups_in}
use Rattle.neighbourhood.specs.Answers.{answer_words}
use Rattle.neighbourhood.proofs.Laws.Filling.{words_long}
use Rattle.model.specs.Groups.{Group}
use Rattle.lists.specs.Told.{listed, listed_numbers, listed_cells}

-- A list of numbers that stand in words.
pub numbers-listed : (found : Bool) (count len : ℕ) (words : List ℕ) (l : Listed ℕ) (answer : List ℕ) → found ≡ l.found → take len words ≡ l.list → len ≤ length words → count ≡ len
    → listed found count (take len words) answer ≡ listed_numbers l answer
numbers-listed found count len words l answer f e h c =
    let n : count ≡ length l.list = c ∙ sym (length-take-le len words h) ∙ ap length e in
    λ i. listed (f i) (n i) (e i) answer

-- A list of cells that stand in words.
pub cells-listed : (found : Bool) (count len : ℕ) (words : List ℕ) (l : Listed Cell) (answer : List ℕ) → found ≡ l.found → take len words ≡ gather answer_words l.list → len ≤ length words → answer_width * count ≡ len
    → listed found count (take len words) answer ≡ listed_cells l answer
cells-listed found count len words l answer f e h c =
    let n : count ≡ length l.list = omega (arith, c, length-take-le len words h, ap length e, words_long l.list) in
    λ i. listed (f i) (n i) (e i) answer

-- The ids are the keys of the groups' rows.
pub group-keys : (n : ℕ) (rows : List ℕ) → keys (table1 group_width n rows) ≡ keys (groups_in n rows)
unfolding groups_in
group-keys n rows = sym (each-each (λ (p : ℕ × Group). p.0) group_of (table1 group_width n rows))
