-- Each row is read as it was written, and written as it was read.
use Rattle.std.specs.Prelude.{ℕ, ◌+◌, ◌≡◌, refl, true, eqb, length}
use Rattle.std.proofs.Common.{arith, ap, ◌∙◌}
use mathlib.Core.List.{List, [], ◌∷◌, Memᴰ as Mem}
use Rattle.model.specs.Lists.{each}
use Rattle.model.specs.Cells.{Cell}
use Rattle.model.proofs.Laws.Tests.{true_of, eqb_of}
use Rattle.model.proofs.Laws.Members.{all-in, each-out}
use Rattle.table.specs.Rows.{Kind, number, cell, are_wide}
use Rattle.layout.specs.Rows.{entity_row, entity_of, net_row, id_row, id_of, group_row, group_of}

-- The words of an entity's row are written as they were read.
pub entity-written : (k : ℕ) (ws : List ℕ) → length ws ≡ 4 → entity_row (entity_of (k, ws)) ≡ (k, ws)
entity-written k [] e = absurd (omega arith)
entity-written k (a ∷ []) e = absurd (omega arith)
entity-written k (a ∷ b ∷ []) e = absurd (omega arith)
entity-written k (a ∷ b ∷ c ∷ []) e = absurd (omega arith)
entity-written k (a ∷ b ∷ c ∷ d ∷ []) e = refl
entity-written k (a ∷ b ∷ c ∷ d ∷ f ∷ ws) e = absurd (omega arith)

-- The words of the row of a cell with an id are written as they were read.
pub id-written : (c : Cell) (ws : List ℕ) → length ws ≡ 1 → id_row (id_of (c, ws)) ≡ (c, ws)
id-written c [] e = absurd (omega arith)
id-written c (a ∷ []) e = refl
id-written c (a ∷ b ∷ ws) e = absurd (omega arith)

-- The words of a group's row are written as they were read.
pub group-written : (k : ℕ) (ws : List ℕ) → length ws ≡ 9 → group_row (group_of (k, ws)) ≡ (k, ws)
group-written k [] e = absurd (omega arith)
group-written k (a ∷ []) e = absurd (omega arith)
group-written k (a ∷ b ∷ []) e = absurd (omega arith)
group-written k (a ∷ b ∷ c ∷ []) e = absurd (omega arith)
group-written k (a ∷ b ∷ c ∷ d ∷ []) e = absurd (omega arith)
group-written k (a ∷ b ∷ c ∷ d ∷ f ∷ []) e = absurd (omega arith)
group-written k (a ∷ b ∷ c ∷ d ∷ f ∷ g ∷ []) e = absurd (omega arith)
group-written k (a ∷ b ∷ c ∷ d ∷ f ∷ g ∷ h ∷ []) e = absurd (omega arith)
group-written k (a ∷ b ∷ c ∷ d ∷ f ∷ g ∷ h ∷ i ∷ []) e = absurd (omega arith)
group-written k (a ∷ b ∷ c ∷ d ∷ f ∷ g ∷ h ∷ i ∷ j ∷ []) e = refl
group-written k (a ∷ b ∷ c ∷ d ∷ f ∷ g ∷ h ∷ i ∷ j ∷ l ∷ ws) e = absurd (omega arith)

-- The words of a net list's row are written as they were read.
pub net-written : (c : Cell) (ws : List ℕ) → length ws ≡ 0 → net_row c ≡ (c, ws)
net-written c [] e = refl
net-written c (a ∷ ws) e = absurd (omega arith)

-- Rows that all have w words are wide.
pub rows-wide : {A K : Type 0} (kind : Kind K) (w : ℕ) (row : A → K × List ℕ) (t : List A)
    → ((a : A) → Mem a t → kind.size + length (row a).1 ≡ w) → are_wide kind w (each row t) ≡ true
rows-wide {A} {K} kind w row t f =
    true_of (are_wide kind w (each row t))
    (all-in (λ (p : K × List ℕ). eqb (kind.size + length p.1) w) (each row t)
    (λ p m. let r = each-out row t m in
    eqb_of (kind.size + length p.1) w (ap (λ (q : K × List ℕ). kind.size + length q.1) r.2 ∙ f r.0 r.1)))

-- Rows of entities have 5 words.
pub entities-wide : (t : List (ℕ × Cell)) → are_wide number 5 (each entity_row t) ≡ true
entities-wide t = rows-wide number 5 entity_row t (λ p m. refl)

-- Rows of net lists have 4 words.
pub nets-wide : (t : List Cell) → are_wide cell 4 (each net_row t) ≡ true
nets-wide t = rows-wide cell 4 net_row t (λ p m. refl)

-- Rows of cells with an id have 5 words.
pub ids-wide : (t : List (Cell × ℕ)) → are_wide cell 5 (each id_row t) ≡ true
ids-wide t = rows-wide cell 5 id_row t (λ p m. refl)
