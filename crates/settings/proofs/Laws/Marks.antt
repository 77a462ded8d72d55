-- Laws of a grid's mark among records.
use Rattle.std.specs.Prelude.{ℕ, suc, ◌+◌, ◌<◌, ◌≤◌, ◌≡◌, refl, Bool, true, false, cond, not, ◌||◌, List, [], ◌∷◌, length, T, eqb}
use Rattle.std.proofs.Common.{arith, sym, ap, ◌∙◌, subst, eq-eqb, ne_eqb, length-append}
use Rattle.settings.specs.Records.{grid_of}
use Rattle.settings.specs.Keeping.{has, joined}
use Rattle.settings.specs.Table.{mark_of}
use Rattle.settings.specs.Whole.{Ones, none, more, Whole}
use Rattle.settings.proofs.Laws.Parsing.{joined-more}
use Rattle.settings.proofs.Laws.Records.{one_size}

pub mark-more : (g m : ℕ) (r : List ℕ) (rs : List (List ℕ)) → mark_of g m (r ∷ rs) ≡ mark_of g (cond (eqb (grid_of r) g) (suc (length (joined rs))) m) rs
unfolding mark_of
mark-more g m r rs = refl

pub mark-end : (g m : ℕ) → mark_of g m [] ≡ m
unfolding mark_of
mark-end g m = refl

has-by : (g a b m : ℕ) (rs : List (List ℕ)) (t : Bool) → (has g rs ≡ true → (a b : ℕ) → mark_of g a rs ≡ mark_of g b rs)
    → (t || has g rs) ≡ true → mark_of g (cond t m a) rs ≡ mark_of g (cond t m b) rs
has-by g a b m rs true i e = refl
has-by g a b m rs false i e = i e a b

-- Where some record is of the grid, the mark before is not asked.
pub mark-has : (g : ℕ) (rs : List (List ℕ)) → has g rs ≡ true → (a b : ℕ) → mark_of g a rs ≡ mark_of g b rs
unfolding mark_of has
mark-has g [] e a b = absurd (subst T (sym e) tt)
mark-has g (r ∷ rs) e a b = has-by g a b (suc (length (joined rs))) rs (eqb (grid_of r) g) (mark-has g rs) e

none-by : (g m k : ℕ) (rs : List (List ℕ)) (t : Bool) → (has g rs ≡ false → mark_of g m rs ≡ m) → (t || has g rs) ≡ false → mark_of g (cond t k m) rs ≡ m
none-by g m k rs true i e = absurd (subst T e tt)
none-by g m k rs false i e = i e

-- Where no record is of the grid, it stays.
pub mark-none : (g m : ℕ) (rs : List (List ℕ)) → has g rs ≡ false → mark_of g m rs ≡ m
unfolding mark_of has
mark-none g m [] e = refl
mark-none g m (r ∷ rs) e = none-by g m (suc (length (joined rs))) rs (eqb (grid_of r) g) (mark-none g m rs) e

-- The mark of records with one in front, by whether a later one is of the grid.
some-by : (g m : ℕ) (r : List ℕ) (rs : List (List ℕ)) → length (joined rs) < length (joined (r ∷ rs)) → (has g rs ≡ true → mark_of g 0 rs ≤ length (joined rs))
    → (t u : Bool) → has g rs ≡ u → (t || u) ≡ true → mark_of g (cond t (suc (length (joined rs))) m) rs ≤ length (joined (r ∷ rs))
some-by g m r rs l i t true e d = let s = i e in let q = mark-has g rs e (cond t (suc (length (joined rs))) m) 0 in omega arith
some-by g m r rs l i true false e d = let q = mark-none g (suc (length (joined rs))) rs e in omega arith
some-by g m r rs l i false false e d = absurd (subst T (sym d) tt)

has_more : (g : ℕ) (r : List ℕ) (rs : List (List ℕ)) → has g (r ∷ rs) ≡ (eqb (grid_of r) g || has g rs)
unfolding has
has_more g r rs = refl

has-none : {A : Type 0} (g : ℕ) → has g [] ≡ true → A
unfolding has
has-none g e = absurd (subst T (sym e) tt)

-- Where some record is of the grid, its mark is at most the length of them all.
pub mark-some : {two : Bool} (g m : ℕ) {rs : List (List ℕ)} → Ones two rs → has g rs ≡ true → mark_of g m rs ≤ length (joined rs)
mark-some g m none e = has-none g e
mark-some g m (more {r} {rs} o os) e =
    let n = one_size o in
    let l = length-append r (joined rs) in
    let k = ap length (joined-more r rs) in
    let q = mark-more g m r rs in
    let s = some-by g m r rs (omega arith) (λ h. mark-some g 0 os h) (eqb (grid_of r) g) (has g rs) refl (sym (has_more g r rs) ∙ e) in
    omega arith

-- The mark of a grid whose record is in front of others tells whether they have one of the grid.
pub mark-front : (g : ℕ) (r : List ℕ) (rs : List (List ℕ)) → grid_of r ≡ g → mark_of g 0 (r ∷ rs) ≡ mark_of g (suc (length (joined rs))) rs
mark-front g r rs e = mark-more g 0 r rs ∙ ap (λ (t : Bool). mark_of g (cond t (suc (length (joined rs))) 0) rs) (eq-eqb (grid_of r) g e)

later-by : (g m : ℕ) {b : List ℕ} {rs : List (List ℕ)} → Whole rs b → m ≡ mark_of g (suc (length b)) rs → (t : Bool) → has g rs ≡ t → not (eqb m (length b + 1)) ≡ t
later-by g m {b} {rs} w e true d =
    let l = mark-some g (suc (length b)) w.ones d in
    let s = ap length w.same in
    ap not (ne_eqb m (length b + 1) (λ q. absurd (omega arith)))
later-by g m {b} {rs} w e false d = let n = mark-none g (suc (length b)) rs d in ap not (eq-eqb m (length b + 1) (omega arith))

-- A mark that is not the one of a last record in front of the bytes says that they have one of the grid.
pub mark-later : (g m : ℕ) {b : List ℕ} {rs : List (List ℕ)} → Whole rs b → m ≡ mark_of g (suc (length b)) rs → not (eqb m (length b + 1)) ≡ has g rs
mark-later g m {b} {rs} w e = later-by g m w e (has g rs) refl
