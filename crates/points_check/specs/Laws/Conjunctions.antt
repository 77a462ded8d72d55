-- Conjunctions in another order.
use Rattle.std.specs.Prelude.{◌≡◌, refl, Bool, true, false, ◌&&◌}
use Rattle.std.proofs.Common.{sym, ap, ◌∙◌}

-- Nothing holds together with what fails.
pub and-false : (a : Bool) → (a && false) ≡ false
and-false true = refl
and-false false = refl

-- The parts of point 1.
within-rest : (d u z : Bool) → (d && (u && z)) ≡ (z && (d && (u && d)))
within-rest false u z = sym (and-false z)
within-rest true false z = sym (and-false z)
within-rest true true true = refl
within-rest true true false = refl

pub within-order : (a b d f u z : Bool) → (b ≡ true → f ≡ true) → (a && (b && (d && (f && (u && z))))) ≡ (a && ((b && z) && (d && (u && (b && d)))))
within-order false b d f u z h = refl
within-order true false d f u z h = refl
within-order true true d f u z h = ap (λ (g : Bool). d && (g && (u && z))) (h refl) ∙ within-rest d u z

-- The parts of point 8.
pub nets-order : (x y a z b u i : Bool) → ((x && (a && z)) && ((y && (b && u)) && i)) ≡ ((x && z) && ((y && u) && (a && (b && (x && (y && i))))))
nets-order false y a z b u i = refl
nets-order true false a z b u i = and-false (a && z) ∙ sym (and-false z)
nets-order true true false z b u i = sym (ap (λ (t : Bool). z && t) (and-false u) ∙ and-false z)
nets-order true true true false b u i = refl
nets-order true true true true false u i = sym (and-false u)
nets-order true true true true true false i = refl
nets-order true true true true true true i = refl
