-- The rows beside a cell stand between the first of its lowest plane and the first behind its highest.
use Rattle.std.specs.Prelude.{ℕ, suc, ◌+◌, ◌-◌, ◌≤◌, ◌<◌, ◌≡◌, Bool, true, false, cond, not, List, [], ◌∷◌, eqb, ltb, length, take}
use Rattle.std.proofs.Common.{arith, ap, ◌∙◌, sym, subst, ⊎_elim, T_not, lt→ltb}
use Rattle.std.proofs.Math.Path.{refl}
use mathlib.Core.List.Memᴰ.{cases_cons as mem-cons}
use Rattle.std.proofs.Math.Dec.{T, not_T, ltb→lt, leb→le}
use Rattle.component.specs.Around.{Within}
use Rattle.model.specs.Facts.{Asc}
use Rattle.model.specs.Lists.{keep, keys}
use Rattle.model.specs.Cells.{Cell, below}
use Rattle.model.proofs.Laws.Tests.{and-snd, and_both, or_cases, or_left, or_right, cond_yes, cond_no, decided, eqb_of}
use Rattle.model.proofs.Laws.Orders.{Ordered, asym, cells}
use Rattle.model.proofs.Laws.Members.{keep-no, keep-none}
use Rattle.model.proofs.Laws.Sorted.{asc-head, asc-tail}
use Rattle.std.specs.Prelude.{Result, Ok, Err}
use Rattle.table.specs.Rows.{cell, further, placed, place_of, table4, is_table4}
use Rattle.table.specs.Laws.Images.{table-facts}
use Rattle.table.specs.Laws.Places.{is_within, place-within}
use Rattle.table.specs.Laws.Words.{keys_length}
use Rattle.layout.specs.Widths.{cell_width}
use Rattle.neighbourhood.specs.Rows.{row_for}
use Rattle.neighbourhood.specs.Beside.{beside, plane_start}
use Rattle.neighbourhood.proofs.Laws.Cubes.{beside-out}

further-placed : (q : Result ℕ ℕ) → placed (further q) ≡ suc (placed q)
further-placed (Ok i) = refl
further-placed (Err i) = refl

module _ {K : Type 0} {eq lt : K → K → Bool} (laws : Ordered eq lt) where
  -- The place of a key is behind what is less, and before all else.
  placed_past : (key a : K) (l : List K) → T (lt a key) → placed (place_of lt (a ∷ l) key) ≡ suc (placed (place_of lt l key))
  placed_past key a l t =
      ap placed (cond_no (lt key a) _ _ (not_T (lt key a) (asym laws a key t)) ∙ cond_yes (lt a key) _ _ t) ∙ further-placed (place_of lt l key)

  placed-stop : (key a : K) (l : List K) → T (not (lt a key)) → placed (place_of lt (a ∷ l) key) ≡ 0
  placed-stop key a l t = go (lt key a) ∙ ap placed (cond_no (lt a key) (further (place_of lt l key)) (Ok 0) t)
    where
      go : (b : Bool) → placed (cond b (Err 0) (cond (lt a key) (further (place_of lt l key)) (Ok 0))) ≡ placed (cond (lt a key) (further (place_of lt l key)) (Ok 0))
      go true = sym (ap placed (cond_no (lt a key) (further (place_of lt l key)) (Ok 0) t))
      go false = refl

  -- A greater key has no lower place.
  placed-up : (k m : K) → T (lt k m) → (l : List K) → placed (place_of lt l k) ≤ placed (place_of lt l m)
  placed-up k m s [] = omega arith
  placed-up k m s (a ∷ l) =
      ⊎_elim (λ t. omega (arith, placed_past k a l t, placed_past m a l (laws.trans a k m t s), placed-up k m s l))
      (λ t. omega (arith, placed-stop k a l t)) (decided (lt a k))

  module _ (key : K) (p : K → Bool) where
    -- Where nothing less passes, nothing before the place does.
    kept-before : ((a : K) → T (p a) → T (lt a key) → ⊥) → (l : List K) → keep p (take (placed (place_of lt l key)) l) ≡ []
    kept-before f [] = refl
    kept-before f (a ∷ l) =
        ⊎_elim (λ t. ap (λ m. keep p (take m (a ∷ l))) (placed_past key a l t) ∙ keep-no p a (take (placed (place_of lt l key)) l) (not_T (p a) (λ u. f a u t)) ∙ kept-before f l)
        (λ t. ap (λ m. keep p (take m (a ∷ l))) (placed-stop key a l t)) (decided (lt a key))

    -- Where only what is less passes, all that does stands before the place.
    kept_from : ((a : K) → T (p a) → T (lt a key)) → (l : List K) → Asc lt l → keep p (take (placed (place_of lt l key)) l) ≡ keep p l
    kept_from f [] s = refl
    kept_from f (a ∷ l) s =
        ⊎_elim (λ t. ap (λ m. keep p (take m (a ∷ l))) (placed_past key a l t) ∙ ap (λ k. cond (p a) (a ∷ k) k) (kept_from f l (asc-tail s)))
        (λ t.
        ap (λ m. keep p (take m (a ∷ l))) (placed-stop key a l t)
        ∙ sym (keep-none p (a ∷ l)
        (λ b m. not_T (p b) (λ u. T_not (lt a key) t (⊎_elim (λ e. subst (λ x. T (lt x key)) e (f b u)) (λ k. laws.trans a b key (asc-head s b k) (f b u)) (mem-cons m)))))) (decided (lt a key))

-- A cell of a lower plane comes before a plane, and one of that plane or a higher does not.
before-plane : (d : Cell) (grid z : ℕ) → d.grid ≡ grid → d.z < z → T (below d (plane_start grid z))
before-plane d grid z e h =
    or_right (ltb d.grid grid) _ (and_both (eqb d.grid grid) _ (eqb_of d.grid grid e) (or_left (ltb d.z z) _ (lt→ltb d.z z h)))

behind-plane : (d : Cell) (grid z : ℕ) → d.grid ≡ grid → z ≤ d.z → T (below d (plane_start grid z)) → ⊥
behind-plane d grid z e h t =
    ⊎_elim (λ p. omega (arith, ltb→lt d.grid grid p))
    (λ p. ⊎_elim (λ q. omega (arith, ltb→lt d.z z q))
    (λ q. ⊎_elim (λ u. omega (arith, ltb→lt d.y 0 u)) (λ u. omega (arith, ltb→lt d.x 0 (and-snd (eqb d.y 0) _ u)))
    (or_cases (ltb d.y 0) _ (and-snd (eqb d.z z) _ q)))
    (or_cases (ltb d.z z) _ (and-snd (eqb d.grid grid) _ p)))
    (or_cases (ltb d.grid grid) _ t)

module _ (words : List ℕ) (n : ℕ) (ok : is_table4 cell_width n words ≡ true) where
  -- A plane begins among the rows, or at their end.
  pub plane-within : (c : Cell) → row_for words n c ≤ n
  unfolding row_for
  plane-within c = go (place_of below (keys (table4 cell_width n words)) c) (place-within below c (keys (table4 cell_width n words)))
    where
      go : (q : Result ℕ ℕ) → T (is_within q (length (keys (table4 cell_width n words)))) → placed q ≤ n
      go (Ok i) t = omega (arith, ltb→lt i (length (keys (table4 cell_width n words))) t, keys_length cell cell_width n words)
      go (Err i) t = omega (arith, leb→le i (length (keys (table4 cell_width n words))) t, keys_length cell cell_width n words)

  module _ (r : ℕ) (c : Cell) where
    -- The first row of the lowest plane is not behind the first behind the highest.
    pub planes-order : row_for words n (plane_start c.grid (c.z - r)) ≤ row_for words n (plane_start c.grid (c.z + r + 1))
    unfolding row_for
    planes-order = placed-up cells (plane_start c.grid (c.z - r)) (plane_start c.grid (c.z + r + 1)) (before-plane (plane_start c.grid (c.z - r)) c.grid (c.z + r + 1) refl (omega arith)) (keys (table4 cell_width n words))

    -- No row before the lowest plane is beside the cell.
    pub beside-start : keep (beside r c) (take (row_for words n (plane_start c.grid (c.z - r))) (keys (table4 cell_width n words))) ≡ []
    unfolding row_for
    beside-start =
        kept-before cells (plane_start c.grid (c.z - r)) (beside r c)
        (λ d t. let w : Within r c d = (beside-out r c d t).0 in behind-plane d c.grid (c.z - r) w.grid (omega (arith, w.z.0))) (keys (table4 cell_width n words))

    -- No row behind the highest plane is.
    pub beside-stop : keep (beside r c) (take (row_for words n (plane_start c.grid (c.z + r + 1))) (keys (table4 cell_width n words))) ≡ keep (beside r c) (keys (table4 cell_width n words))
    unfolding row_for
    beside-stop =
        kept_from cells (plane_start c.grid (c.z + r + 1)) (beside r c)
        (λ d t. let w : Within r c d = (beside-out r c d t).0 in before-plane d c.grid (c.z + r + 1) w.grid (omega (arith, w.z.1))) (keys (table4 cell_width n words)) (table-facts cell cell_width n words ok).asc
