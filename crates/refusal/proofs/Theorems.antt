-- What is told of a refusal tells which it was, so that a promise on what is told fixes the answer.
use Rattle.std.specs.Prelude.{ℕ, ◌≡◌, refl, cond, ◌==◌, Result, Ok, Err}
use Rattle.std.proofs.Common.{sym, ap, ◌∙◌, arith}
use Rattle.component.specs.declared.Axis.{Axis}
use Rattle.component.specs.Coord.{axis_number}
use Rattle.refusal.specs.declared.Point.{Point}
use Rattle.refusal.specs.declared.Refusal.{Refusal}
use Rattle.refusal.specs.Forms.{Refused, point_number, form, outcome}

-- The axis of a number.
abbrev axis_of : ℕ → Axis
axis_of n = cond (n == 0) Axis.X (cond (n == 1) Axis.Y Axis.Z)

axis-back : (a : Axis) → axis_of (axis_number a) ≡ a
axis-back Axis.X = refl
axis-back Axis.Y = refl
axis-back Axis.Z = refl

-- The point of a number.
abbrev point_of : ℕ → Point
point_of n =
    cond (n == 1) Point.Entities
    (cond (n == 2) Point.Cells
    (cond (n == 3) Point.Masks
    (cond (n == 4) Point.Ids
    (cond (n == 5) Point.Records
    (cond (n == 6) Point.NextId (cond (n == 7) Point.Coordinates (cond (n == 8) Point.Nets Point.Kind)))))))

point-back : (p : Point) → point_of (point_number p) ≡ p
point-back Point.Entities = refl
point-back Point.Cells = refl
point-back Point.Masks = refl
point-back Point.Ids = refl
point-back Point.Records = refl
point-back Point.NextId = refl
point-back Point.Coordinates = refl
point-back Point.Nets = refl
point-back Point.Kind = refl

-- The refusal of a number and a place.
abbrev pub refusal_of : ℕ → ℕ → ℕ → Refusal
refusal_of n at axis =
    cond (n == 1) Refusal.TooShort
    (cond (n == 2) (Refusal.Broken (point_of at))
    (cond (n == 3) Refusal.TooManyEvents
    (cond (n == 4) (Refusal.OutOfRange at (axis_of axis))
    (cond (n == 5) Refusal.FewIds
    (cond (n == 6) Refusal.TooManyEntities
    (cond (n == 7) Refusal.TooManyCells
    (cond (n == 8) (Refusal.TooLong at)
    (cond (n == 10) (cond (at == 0) (Refusal.BadCoordinate (axis_of axis)) Refusal.BadError)
    (cond (n == 11) (cond (at == 0) Refusal.BadEdge (Refusal.BadOrigin (axis_of axis)))
    (cond (n == 12) Refusal.NoPath Refusal.UnknownKind))))))))))

-- The way back from what is told of a refusal.
abbrev pub refusal_back : Refused → Refusal
refusal_back f = refusal_of f.number f.at f.axis

pub form-back : (r : Refusal) → refusal_back (form r) ≡ r
form-back Refusal.TooShort = refl
form-back (Refusal.Broken p) = ap Refusal.Broken (point-back p)
form-back Refusal.TooManyEvents = refl
form-back (Refusal.OutOfRange at a) = ap (Refusal.OutOfRange at) (axis-back a)
form-back Refusal.FewIds = refl
form-back Refusal.TooManyEntities = refl
form-back Refusal.TooManyCells = refl
form-back (Refusal.TooLong k) = refl
form-back (Refusal.BadCoordinate a) = ap Refusal.BadCoordinate (axis-back a)
form-back Refusal.BadError = refl
form-back Refusal.BadEdge = refl
form-back (Refusal.BadOrigin a) = ap Refusal.BadOrigin (axis-back a)
form-back Refusal.NoPath = refl
form-back Refusal.UnknownKind = refl

-- Two refusals of which the same is told are the same.
pub form-one : (p q : Refusal) → form p ≡ form q → p ≡ q
form-one p q e = sym (form-back p) ∙ (ap refusal_back e ∙ form-back q)

-- The way back from what is told of a call.
abbrev pub outcome_back : Refused → Result (Unit {0}) Refusal
outcome_back f = cond (f.number == 0) (Ok tt) (Err (refusal_back f))

outcome-at : (r : Refusal) → outcome_back (form r) ≡ Err (refusal_back (form r))
outcome-at Refusal.TooShort = refl
outcome-at (Refusal.Broken p) = refl
outcome-at Refusal.TooManyEvents = refl
outcome-at (Refusal.OutOfRange at a) = refl
outcome-at Refusal.FewIds = refl
outcome-at Refusal.TooManyEntities = refl
outcome-at Refusal.TooManyCells = refl
outcome-at (Refusal.TooLong k) = refl
outcome-at (Refusal.BadCoordinate a) = refl
outcome-at Refusal.BadError = refl
outcome-at Refusal.BadEdge = refl
outcome-at (Refusal.BadOrigin a) = refl
outcome-at Refusal.NoPath = refl
outcome-at Refusal.UnknownKind = refl

pub outcome-back : (r : Result (Unit {0}) Refusal) → outcome_back (outcome r) ≡ r
outcome-back (Ok _) = refl
outcome-back (Err r) = outcome-at r ∙ ap Err (form-back r)

-- Two answers of which the same is told are the same.
pub outcome-one : (p q : Result (Unit {0}) Refusal) → outcome p ≡ outcome q → p ≡ q
outcome-one p q e = sym (outcome-back p) ∙ (ap outcome_back e ∙ outcome-back q)

-- A refusal has a number other than 0.
pub form-refuses : (r : Refusal) → (form r).number ≡ 0 → ⊥
form-refuses Refusal.TooShort e = omega arith
form-refuses (Refusal.Broken p) e = omega arith
form-refuses Refusal.TooManyEvents e = omega arith
form-refuses (Refusal.OutOfRange at a) e = omega arith
form-refuses Refusal.FewIds e = omega arith
form-refuses Refusal.TooManyEntities e = omega arith
form-refuses Refusal.TooManyCells e = omega arith
form-refuses (Refusal.TooLong k) e = omega arith
form-refuses (Refusal.BadCoordinate a) e = omega arith
form-refuses Refusal.BadError e = omega arith
form-refuses Refusal.BadEdge e = omega arith
form-refuses (Refusal.BadOrigin a) e = omega arith
form-refuses Refusal.NoPath e = omega arith
form-refuses Refusal.UnknownKind e = omega arith

-- The same of answers with the words that they leave.
pub outcome-filled-one : {A : Type 0} (p q : Result (Unit {0}) Refusal × A) (t : Refused × A)
    → ◌≡◌ {A = Refused × A} (outcome p.0, p.1) t → ◌≡◌ {A = Refused × A} (outcome q.0, q.1) t → p ≡ q
outcome-filled-one {A} p q t e f =
    let u : ◌≡◌ {A = Refused × A} (outcome p.0, p.1) (outcome q.0, q.1) = e ∙ sym f in
    let first : p.0 ≡ q.0 = outcome-one p.0 q.0 (ap (λ (x : Refused × A). x.0) u) in
    let second : p.1 ≡ q.1 = ap (λ (x : Refused × A). x.1) u in
    λ i. (first i, second i)

-- A point that is broken has a number other than 0.
pub point-counts : (p : Point) → point_number p ≡ 0 → ⊥
point-counts Point.Entities e = omega arith
point-counts Point.Cells e = omega arith
point-counts Point.Masks e = omega arith
point-counts Point.Ids e = omega arith
point-counts Point.Records e = omega arith
point-counts Point.NextId e = omega arith
point-counts Point.Coordinates e = omega arith
point-counts Point.Nets e = omega arith
point-counts Point.Kind e = omega arith
