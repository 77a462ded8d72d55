-- The refusals, one after the other.
use Rattle.std.specs.Prelude.{ℕ, ◌≡◌, Result, Ok, Err, Bool, cond, not, List, eqb}
use Rattle.std.proofs.Common.{arith, sym, ap, ◌∙◌, eqb→eq, ne_eqb}
use Rattle.std.proofs.Math.Path.{refl}
use Rattle.std.proofs.Math.Bool.{true, false}
use Rattle.component.specs.declared.CellId.{CellId}
use Rattle.component.specs.Coord.{bad_axis, coord_in_range}
use Rattle.component.specs.Stored.{stored}
use Rattle.component.specs.Range.{cell_in_range}
use Rattle.component.specs.Laws.Range.{range-of-stored}
use Rattle.refusal.specs.Forms.{Refused}
use Rattle.refusal.specs.declared.Refusal.{Refusal}
use Rattle.refusal.specs.Forms.{form, none, too_short, broken, out_of_range}
use Rattle.refusal.proofs.Theorems.{form-refuses}
use Rattle.model.proofs.Laws.Tests.{neqb→ne, T_true, T_false}
use Rattle.layout.specs.Points.{long_enough, consistent_words, first_broken}
use Rattle.std.specs.Result.{IsErrAnd}
use Rattle.std.specs.Prelude.{Option as Found}
use Rattle.std.proofs.Math.Option.{Option}
use Rattle.told.specs.Told.{Told, too_long, refused, failed, told_of, found_told, unless, unless_refused}
use Rattle.lists.specs.declared.Listed.{Listed}
use Rattle.lists.specs.Told.{listing_told}
use Rattle.floods.specs.declared.Visited.{Visited}
use Rattle.floods.specs.declared.Flooded.{Flooded}
use Rattle.floods.specs.Told.{flooding_told}
use Rattle.consistent.specs.Answer.{passed, state_refusal}
use Rattle.consistent.specs.Laws.Sure.{Sure, sure-of}
use Rattle.ask.specs.Answers.{cell_refusal, cells_refusal}

-- What the test of a cell's range answers, by its position.
abbrev ranged_by : ℕ → CellId → Bool → Refused
ranged_by at c b = cond b none (out_of_range at (bad_axis c.coord))

abbrev pub ranged : ℕ → CellId → Refused
ranged at c = ranged_by at c (coord_in_range c.coord)

-- No refusal has the number 0.
form-some : (r : Refusal) → eqb (form r).number 0 ≡ false
form-some r = ne_eqb (form r).number 0 (form-refuses r)

module _ {A : Type 0} (s : Refused) (refuse : Refused → A) (answer : A) where
  -- After a refusal nothing is answered.
  pub refused-by : (r : Refusal) → form r ≡ s → refuse s ≡ unless s refuse answer
  refused-by r e =
      let h : eqb s.number 0 ≡ false = ap (λ (x : Refused). eqb x.number 0) (sym e) ∙ form-some r in
      ap (λ (b : Bool). cond b answer (refuse s)) (sym h)

  -- With none it is.
  pub answered-by : none ≡ s → answer ≡ unless s refuse answer
  answered-by e = ap (λ (x : Refused). unless x refuse answer) e

-- A refusal that is not 8 is told by its place.
failed-place : {B : Type 0} (s : Refused) → eqb s.number 8 ≡ false → failed {B = B} s ≡ refused s
failed-place {B} s h = ap (λ (b : Bool). cond {A = Told B} b (too_long s.at) (refused s)) h

-- A call that ends with a refusal tells it.
pub ends-with : {A : Type 0} (r : Refusal) (q : Result A Refusal) → IsErrAnd q (λ y. y ≡ r) → passed q ≡ form r
ends-with r (Ok u) f = absurd f
ends-with r (Err y) f = ap form f

module _ (s : Refused) (r : Refusal) (e : form r ≡ s) where
  -- A test that ends with the refusal of one that it stands on.
  pub test-ends : {A : Type 0} (next : Refused) (q : Result A Refusal) → IsErrAnd q (λ y. y ≡ r) → passed q ≡ unless s (λ k. k) next
  test-ends next q f = ends-with r q f ∙ e ∙ refused-by s (λ k. k) next r e

  module _ {B : Type 0} (h : eqb s.number 8 ≡ false) where
    -- What is told of it.
    told-place : (y : Refusal) → y ≡ r → failed {B = B} (form y) ≡ refused s
    told-place y f = ap (λ (z : Refusal). failed {B = B} (form z)) f ∙ ap (failed {B = B}) e ∙ failed-place s h

    -- A question that ends so.
    pub kind-ends : (v : Told B) (q : Result B Refusal) → IsErrAnd q (λ y. y ≡ r) → told_of q ≡ unless s refused v
    kind-ends v (Ok b) f = absurd f
    kind-ends v (Err y) f = told-place y f ∙ refused-by s refused v r e

    list-ends : (answer : List ℕ) (a : Told B × List ℕ) (y : Refusal) → y ≡ r → (failed {B = B} (form y), answer) ≡ unless_refused s answer a
    list-ends answer a y f = (λ i. (told-place y f i, answer)) ∙ refused-by s (λ k. (refused {B = B} k, answer)) a r e

  pub lookup-ends : {B : Type 0} → eqb s.number 8 ≡ false → (v : Told (Option B)) (q : Result (Found B) Refusal) → IsErrAnd q (λ y. y ≡ r) → found_told q ≡ unless s refused v
  lookup-ends {B} h v (Ok b) f = absurd f
  lookup-ends {B} h v (Err y) f = told-place {B = Option B} h y f ∙ refused-by s refused v r e

  pub listing-ends : eqb s.number 8 ≡ false → (answer : List ℕ) (a : Told (Bool × ℕ) × List ℕ) (q : Result Listed Refusal) → IsErrAnd q (λ y. y ≡ r) → ◌≡◌ {A = Told (Bool × ℕ) × List ℕ} (listing_told q, answer) (unless_refused s answer a)
  listing-ends h answer a (Ok b) f = absurd f
  listing-ends h answer a (Err y) f = list-ends h answer a y f

  pub flooding-ends : eqb s.number 8 ≡ false → (answer : List ℕ) (a : Told (Bool × Visited) × List ℕ) (q : Result Flooded Refusal) → IsErrAnd q (λ y. y ≡ r) → ◌≡◌ {A = Told (Bool × Visited) × List ℕ} (flooding_told q, answer) (unless_refused s answer a)
  flooding-ends h answer a (Ok b) f = absurd f
  flooding-ends h answer a (Err y) f = list-ends h answer a y f

-- A cell that is not refused is in range, and its state is sure.
range-of : (w : List ℕ) (c : CellId) → (cell_refusal w c).number ≡ 0 → Sure w × (cell_in_range (stored c) ≡ true)
unfolding cell_refusal
range-of w c e = go (eqb (state_refusal w).number 0) (coord_in_range c.coord) refl refl e
  where
    go : (a b : Bool) → eqb (state_refusal w).number 0 ≡ a → coord_in_range c.coord ≡ b → (cond a (ranged_by 0 c b) (state_refusal w)).number ≡ 0 → Sure w × (cell_in_range (stored c) ≡ true)
    go true true p q k = (sure-of w (eqb→eq (state_refusal w).number 0 (T_true p)), sym (range-of-stored c) ∙ q)
    go true false p q k = absurd (omega arith)
    go false b p q k = absurd (neqb→ne (state_refusal w).number 0 (T_false p) k)

-- The same of a refusal that is equal.
pub range-by : (w : List ℕ) (c : CellId) (r : Refused) → r ≡ cell_refusal w c → r.number ≡ 0 → Sure w × (cell_in_range (stored c) ≡ true)
range-by w c r e h = range-of w c (sym (ap (λ (x : Refused). x.number) e) ∙ h)

-- Words of which two cells are not refused are those of a consistent state.
pub both-sure : (w : List ℕ) (a b : CellId) (r : Refused) → r ≡ cells_refusal w a b → r.number ≡ 0 → Sure w
unfolding cells_refusal
both-sure w a b r e h = go (eqb (cell_refusal w a).number 0) refl (sym (ap (λ (x : Refused). x.number) e) ∙ h)
  where
    go : (t : Bool) → eqb (cell_refusal w a).number 0 ≡ t → (cond t (ranged 1 b) (cell_refusal w a)).number ≡ 0 → Sure w
    go true p k = (range-of w a (eqb→eq (cell_refusal w a).number 0 (T_true p))).0
    go false p k = absurd (neqb→ne (cell_refusal w a).number 0 (T_false p) k)

-- The refusals of a question are never 8.
pub state-not8 : (w : List ℕ) → eqb (state_refusal w).number 8 ≡ false
unfolding state_refusal
state-not8 w = go (long_enough w) (consistent_words w)
  where
    go : (l g : Bool) → eqb (cond (not l) too_short (cond g none (broken (first_broken w)))).number 8 ≡ false
    go false g = refl
    go true true = refl
    go true false = refl

then-not8 : (at : ℕ) (c : CellId) (s : Refused) → eqb s.number 8 ≡ false → eqb (unless s (λ r. r) (ranged at c)).number 8 ≡ false
then-not8 at c s h = go (eqb s.number 0) (coord_in_range c.coord)
  where
    go : (a b : Bool) → eqb (cond a (ranged_by at c b) s).number 8 ≡ false
    go true true = refl
    go true false = refl
    go false b = h

pub cell-not8 : (w : List ℕ) (c : CellId) → eqb (cell_refusal w c).number 8 ≡ false
unfolding cell_refusal
cell-not8 w c = then-not8 0 c (state_refusal w) (state-not8 w)

pub cells-not8 : (w : List ℕ) (a b : CellId) → eqb (cells_refusal w a b).number 8 ≡ false
unfolding cells_refusal
cells-not8 w a b = then-not8 1 b (cell_refusal w a) (cell-not8 w a)
