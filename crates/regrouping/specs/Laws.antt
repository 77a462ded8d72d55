-- The numbers that are counted, beside the rows of the cells.
use Rattle.std.specs.Prelude.{ℕ, suc, ◌<◌, ◌≡◌, List, ◌∷◌, length, drop, get_or}
use Rattle.std.proofs.Common.{arith, sym, ap, ◌∙◌, length-take, get_or-take, drop-cons}
use Rattle.model.specs.Lists.{each, keys}
use Rattle.model.specs.Cells.{Cell}
use Rattle.model.specs.Crowd.{how_many}
use Rattle.model.specs.Groups.{Ids}
use Rattle.model.proofs.Laws.Members.{each-length}
use Rattle.model.proofs.Laws.Tables.{keys_length}
use Rattle.partition.specs.Held.{HeldTable, HeldCounts, row_in}
use Rattle.partition.specs.Laws.Held.{plain_at, each-drop}
use Rattle.regrouping.specs.Regrouping.{Counted}

module _ {A : Type 0} (f : A → ℕ) where
  -- Number i of a list is that of the member with which the list goes on from place i.
  each_at : (l : List A) (i : ℕ) (a : A) → drop i l ≡ a ∷ drop (suc i) l → i < length l → get_or (each f l) i 0 ≡ f a
  each_at l i a e h =
      let g : i < length (each f l) = omega (arith, each-length f l) in
      ap (λ (m : List ℕ). get_or m 0 0) (sym (drop-cons (each f l) i 0 g) ∙ sym (each-drop f i l) ∙ ap (each f) e)

module _ (ids : List ℕ) (n : ℕ) (t : Ids) (held : HeldTable ids n t) (counts : List ℕ) (entities : List (ℕ × Cell)) (c : Counted counts entities (keys t)) where
  size : length (keys t) ≡ n
  size = keys_length t ∙ sym held.count

  cells-at : (i : ℕ) → i < n → drop i (keys t) ≡ (row_in ids i).0 ∷ drop (suc i) (keys t)
  cells-at i h =
      sym (each-drop (λ (p : Cell × ℕ). p.0) i t) ∙ ap keys (plain_at ids n t held i h)
      ∙ ap (λ (l : List Cell). (row_in ids i).0 ∷ l) (each-drop (λ (p : Cell × ℕ). p.0) (suc i) t)

  -- What is counted in the cells of a table, in their order, is counted row by row.
  pub counts-held : HeldCounts counts ids n entities
  counts-held =
      record {
        are = λ i h. sym (get_or-take (length (keys t)) counts i 0 (omega (arith, size))) ∙ ap (λ (l : List ℕ). get_or l i 0) c
            ∙ each_at (how_many entities) (keys t) i (row_in ids i).0 (cells-at i h) (omega (arith, size));
        fits = omega (arith, size, ap length c, each-length (how_many entities) (keys t), length-take (length (keys t)) counts);
      }
