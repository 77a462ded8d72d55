-- The first broken point is the only one that is told: it is broken, and every point that is tried before it holds.
use Rattle.std.specs.Prelude.{ℕ, zero, suc, ◌<◌, ◌≡◌, refl, Bool, true, false, ◌↔◌, List, [], ◌∷◌, get_or}
use Rattle.std.proofs.Common.{arith, sym, ◌∙◌, eqb→eq}
use Rattle.std.proofs.Math.Path.{ap}
use Rattle.std.proofs.Math.Dec.{eqb}
use Rattle.component.specs.First.{FirstAt}
use Rattle.model.specs.Lists.{keys, values}
use Rattle.model.proofs.Laws.Tests.{T_true}
use Rattle.layout.specs.Points.{points, first_of, first_broken, consistent_words}

-- The test at a place has this number, fails, and those before it hold.
pub record FirstNumbered (n : ℕ) (tests : List (ℕ × Bool)) : Type 0 where
  pub place : ℕ
  pub number : get_or (keys tests) place 0 ≡ n
  pub first : FirstAt place (values tests)

-- Behind a test that holds the first that fails is one further.
further : (k p : ℕ) (l : List (ℕ × Bool)) → FirstAt p (values l) → FirstAt (suc p) (values ((k, true) ∷ l))
further k p l f = record { fails = f.fails; before = go }
  where
    go : (q : ℕ) → q < suc p → get_or (values ((k, true) ∷ l)) q true ≡ true
    go zero h = refl
    go (suc q) h = f.before q (omega arith)

-- What is found is the first that fails.
found_first : (n : ℕ) (l : List (ℕ × Bool)) → 0 < n → first_of l ≡ n → FirstNumbered n l
found_first n [] h e = absurd (omega arith)
found_first n ((k, false) ∷ l) h e = record { place = 0; number = e; first = record { fails = refl; before = λ q b. absurd (omega arith) } }
found_first n ((k, true) ∷ l) h e = let r = found_first n l h e in record { place = suc r.place; number = r.number; first = further k r.place l r.first }

-- The first that fails is found.
first_found : (n : ℕ) (l : List (ℕ × Bool)) → FirstNumbered n l → first_of l ≡ n
first_found n l r = go r.place l r.number r.first
  where
    go : (p : ℕ) (m : List (ℕ × Bool)) → get_or (keys m) p 0 ≡ n → FirstAt p (values m) → first_of m ≡ n
    go p [] e f = absurd (T_true {b = false} (sym f.fails))
    go zero ((k, false) ∷ m) e f = e
    go zero ((k, true) ∷ m) e f = absurd (T_true {b = false} (sym f.fails))
    go (suc p) ((k, false) ∷ m) e f = absurd (T_true {b = false} (f.before 0 (omega arith)))
    go (suc p) ((k, true) ∷ m) e f = go p m e (record { fails = f.fails; before = λ q h. f.before (suc q) (omega arith) })

-- Nothing is found where all hold, and, of numbers above 0, nowhere else.
none_found : (l : List (ℕ × Bool)) → ((q : ℕ) → get_or (values l) q true ≡ true) → first_of l ≡ 0
none_found [] h = refl
none_found ((k, true) ∷ l) h = none_found l (λ q. h (suc q))
none_found ((k, false) ∷ l) h = absurd (T_true {b = false} (h 0))

found_none : (l : List (ℕ × Bool)) → ((q : ℕ) → eqb (get_or (keys l) q 1) 0 ≡ false) → first_of l ≡ 0 → (q : ℕ) → get_or (values l) q true ≡ true
found_none [] k e q = refl
found_none ((n, true) ∷ l) k e zero = refl
found_none ((n, true) ∷ l) k e (suc q) = found_none l (λ p. k (suc p)) e q
found_none ((n, false) ∷ l) k e q = absurd (T_true {b = false} (sym (k 0) ∙ ap (λ m. eqb m 0) e))

-- The points are numbered from 1 to 9.
numbered : (w : List ℕ) (q : ℕ) → eqb (get_or (keys (points w)) q 1) 0 ≡ false
numbered w zero = refl
numbered w (suc zero) = refl
numbered w (suc (suc zero)) = refl
numbered w (suc (suc (suc zero))) = refl
numbered w (suc (suc (suc (suc zero)))) = refl
numbered w (suc (suc (suc (suc (suc zero))))) = refl
numbered w (suc (suc (suc (suc (suc (suc zero)))))) = refl
numbered w (suc (suc (suc (suc (suc (suc (suc zero))))))) = refl
numbered w (suc (suc (suc (suc (suc (suc (suc (suc zero)))))))) = refl
numbered w (suc (suc (suc (suc (suc (suc (suc (suc (suc q))))))))) = refl

module _ (w : List ℕ) where
  -- The point that is told is broken, and those tried before it hold; and a point of which this is so is told.
  pub first-broken-exactly : (n : ℕ) → 0 < n → (first_broken w ≡ n) ↔ FirstNumbered n (points w)
  unfolding first_broken
  first-broken-exactly n h = (found_first n (points w) h, first_found n (points w))

  -- Words that no point breaks are consistent, and no others.
  pub consistent-unbroken : (consistent_words w ≡ true) ↔ ((p : ℕ) → get_or (values (points w)) p true ≡ true)
  unfolding first_broken
  consistent-unbroken = (
    λ e. found_none (points w) (numbered w) (eqb→eq (first_broken w) 0 (T_true e)),
    λ h. ap (λ n. eqb n 0) (none_found (points w) h),
  )
