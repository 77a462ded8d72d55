-- Laws of reading: a fault is told for every grid alike, and what is read is told of the records.
use Rattle.std.specs.Prelude.{Ok, Err, Some, None}
use Rattle.settings.specs.Answers.{Reading}
use Rattle.settings.specs.declared.kinds.ReadError.TheVariants as reading_error
use Rattle.std.specs.Prelude.{ℕ, ◌<◌, ◌≤◌, ◌≡◌, refl, Bool, true, false, cond, ◌||◌, List, [], ◌∷◌, ◌++◌, length, take, T, ltb, eqb}
use Rattle.std.proofs.Common.{arith, sym, ap, ◌∙◌, subst, ltb-true, ltb-false, lt-ltb, le-ltb, eq-eqb}
use Rattle.settings.specs.declared.kinds.Settings.{Settings}
use Rattle.settings.specs.declared.kinds.Fault.{Fault}
use Rattle.settings.specs.Settings.{good_of}
use Rattle.settings.specs.Records.{grid_of, settings_of}
use Rattle.settings.specs.Parsing.{Records, whole, faulty, records_of}
use Rattle.settings.specs.Reading.{last_of, shown, tell, read_of}
use Rattle.settings.specs.Keeping.{has}
use Rattle.settings.specs.Whole.{Ones, none, more}
use Rattle.settings.proofs.Laws.Records.{one_size, one-good}

-- What a reader says within the slice.
pub read-in : (two : Bool) (s : List ℕ) (n g : ℕ) → n ≤ length s → read_of two s n g ≡ tell g (records_of two (take n s))
unfolding read_of
read-in two s n g h = simp (le-ltb (length s) n h)

pub read-over : (two : Bool) (s : List ℕ) (n g : ℕ) → length s < n → read_of two s n g ≡ Err reading_error.Overlong
unfolding read_of
read-over two s n g h = simp (lt-ltb (length s) n h)

over-faulty : {f : Fault} {p : ℕ} {A : Type 0} → ◌≡◌ {A = Reading} (Err reading_error.Overlong) (Err (reading_error.Faulty f p)) → A
over-faulty e = let z : ◌≡◌ {A = ℕ} 0 1 = cc in absurd (omega arith)

told-by : (r : List ℕ) {f : Fault} {p : ℕ} {A : Type 0} (t : Bool) → ◌≡◌ {A = Reading} (cond t (Ok None) (Ok (Some (settings_of r)))) (Err (reading_error.Faulty f p)) → A
told-by r true e = let z : ◌≡◌ {A = ℕ} 0 1 = cc in absurd (omega arith)
told-by r false e = let z : ◌≡◌ {A = ℕ} 0 1 = cc in absurd (omega arith)

-- Of a record that holds no fault is told.
pub told-not : (r : List ℕ) {f : Fault} {p : ℕ} {A : Type 0} → shown r ≡ Err (reading_error.Faulty f p) → A
told-not r e = told-by r (ltb (length r) 12) e

-- Bytes of which a fault is told have that fault.
pub tell-faulty : (g : ℕ) (m : Records) {f : Fault} {p : ℕ} → tell g m ≡ Err (reading_error.Faulty f p) → m ≡ faulty f p
tell-faulty g (whole rs) e = told-not (last_of g [] rs) e
tell-faulty g (faulty h q) e = cc

faulty-by : (two : Bool) (s : List ℕ) (n g : ℕ) {f : Fault} {p : ℕ} (t : Bool) → ltb (length s) n ≡ t → read_of two s n g ≡ Err (reading_error.Faulty f p)
    → (n ≤ length s) × (records_of two (take n s) ≡ faulty f p)
faulty-by two s n g true e d = over-faulty (sym (read-over two s n g (ltb-true (length s) n e)) ∙ d)
faulty-by two s n g false e d =
    let h = ltb-false (length s) n e in
    (h, tell-faulty g (records_of two (take n s)) (sym (read-in two s n g h) ∙ d))

-- A slice of which a fault is told has that fault.
pub read-faulty : (two : Bool) (s : List ℕ) (n g : ℕ) {f : Fault} {p : ℕ} → read_of two s n g ≡ Err (reading_error.Faulty f p) → (n ≤ length s) × (records_of two (take n s) ≡ faulty f p)
read-faulty two s n g d = faulty-by two s n g (ltb (length s) n) refl d

whole_by : (two : Bool) (s : List ℕ) (n g : ℕ) → n ≤ length s → ((f : Fault) (p : ℕ) → read_of two s n g ≡ Err (reading_error.Faulty f p) → ⊥)
    → (m : Records) → records_of two (take n s) ≡ m → (rs : List (List ℕ)) × (records_of two (take n s) ≡ whole rs)
whole_by two s n g h z (whole rs) e = (rs, e)
whole_by two s n g h z (faulty f p) e = absurd (z f p (read-in two s n g h ∙ ap (tell g) e))

-- A slice of which no fault is told is whole records.
pub read_whole : (two : Bool) (s : List ℕ) (n g : ℕ) → n ≤ length s → ((f : Fault) (p : ℕ) → read_of two s n g ≡ Err (reading_error.Faulty f p) → ⊥)
    → (rs : List (List ℕ)) × (records_of two (take n s) ≡ whole rs)
read_whole two s n g h z = whole_by two s n g h z (records_of two (take n s)) refl

-- A record behind the others is the last of its grid.
pub last-behind : (g : ℕ) (h : List ℕ) (rs : List (List ℕ)) (r : List ℕ) → last_of g h (rs ++ (r ∷ [])) ≡ cond (eqb (grid_of r) g) r (last_of g h rs)
unfolding last_of
last-behind g h [] r = refl
last-behind g h (q ∷ rs) r = last-behind g (cond (eqb (grid_of q) g) q h) rs r

last-by : (g : ℕ) (h k r : List ℕ) (rs : List (List ℕ)) (t : Bool) → (has g rs ≡ true → (a b : List ℕ) → last_of g a rs ≡ last_of g b rs)
    → (t || has g rs) ≡ true → last_of g (cond t r h) rs ≡ last_of g (cond t r k) rs
last-by g h k r rs true i e = refl
last-by g h k r rs false i e = i e h k

-- Where some record is of the grid, what was held before is not asked.
pub last_has : (g : ℕ) (rs : List (List ℕ)) → has g rs ≡ true → (h k : List ℕ) → last_of g h rs ≡ last_of g k rs
unfolding last_of has
last_has g [] e h k = absurd (subst T (sym e) tt)
last_has g (r ∷ rs) e h k = last-by g h k r rs (eqb (grid_of r) g) (last_has g rs) e

other-by : (g : ℕ) (h r : List ℕ) (rs : List (List ℕ)) (t : Bool) → (has g rs ≡ false → (k : List ℕ) → last_of g k rs ≡ k) → (t || has g rs) ≡ false → last_of g (cond t r h) rs ≡ h
other-by g h r rs true i e = absurd (subst T e tt)
other-by g h r rs false i e = i e h

-- Where no record is of the grid, what was held before holds.
pub last_none : (g : ℕ) (rs : List (List ℕ)) → has g rs ≡ false → (h : List ℕ) → last_of g h rs ≡ h
unfolding last_of has
last_none g [] e h = refl
last_none g (r ∷ rs) e h = other-by g h r rs (eqb (grid_of r) g) (last_none g rs) e

-- A record with none of its grid behind it is the last.
pub last-is : (g : ℕ) (h : List ℕ) (front : List (List ℕ)) (r : List ℕ) (behind : List (List ℕ)) → grid_of r ≡ g → has g behind ≡ false → last_of g h (front ++ (r ∷ behind)) ≡ r
unfolding last_of
last-is g h [] r behind e n = ap (λ (t : Bool). last_of g (cond t r h) behind) (eq-eqb (grid_of r) g e) ∙ last_none g behind n r
last-is g h (q ∷ front) r behind e n = last-is g (cond (eqb (grid_of q) g) q h) front r behind e n

-- A record among records with nothing wrong has at least 12 bytes.
pub one-among : {two : Bool} (front : List (List ℕ)) (r : List ℕ) (behind : List (List ℕ)) → Ones two (front ++ (r ∷ behind)) → 12 ≤ length r
one-among [] r behind (more o os) = (one_size o).0
one-among (q ∷ front) r behind (more o os) = one-among front r behind os

-- What is said of a record that is long enough has nothing wrong.
Sayable : List ℕ → Type 0
Sayable r = 12 ≤ length r → good_of (settings_of r) ≡ Ok tt

sayable-by : (r h : List ℕ) (t : Bool) → Sayable r → Sayable h → Sayable (cond t r h)
sayable-by r h true a b = a
sayable-by r h false a b = b

sayable-last : {two : Bool} (g : ℕ) (h : List ℕ) {rs : List (List ℕ)} → Sayable h → Ones two rs → Sayable (last_of g h rs)
unfolding last_of Sayable
sayable-last g h b none = b
sayable-last g h b (more {r} {rs} o os) = sayable-last g (cond (eqb (grid_of r) g) r h) (sayable-by r h (eqb (grid_of r) g) (λ l. one-good o) b) os

shown_by : (r : List ℕ) (a : Settings) (t : Bool) → ltb (length r) 12 ≡ t → Sayable r → ◌≡◌ {A = Reading} (cond t (Ok None) (Ok (Some (settings_of r)))) (Ok (Some a)) → good_of a ≡ Ok tt
unfolding Sayable
shown_by r a true e s d = let z : ◌≡◌ {A = ℕ} 0 1 = cc in absurd (omega arith)
shown_by r a false e s d = let q : settings_of r ≡ a = cc in ap good_of (sym q) ∙ s (ltb-false (length r) 12 e)

-- What is told as found of whole records has nothing wrong.
pub shown-good : {two : Bool} (g : ℕ) {rs : List (List ℕ)} (a : Settings) → Ones two rs → shown (last_of g [] rs) ≡ Ok (Some a) → good_of a ≡ Ok tt
unfolding Sayable
shown-good g {rs} a os d = shown_by (last_of g [] rs) a (ltb (length (last_of g [] rs)) 12) refl (sayable-last g [] (λ l. absurd (omega arith)) os) d
