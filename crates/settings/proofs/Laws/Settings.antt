-- What holds of settings with nothing wrong.
use Rattle.std.specs.Prelude.{Ok, Err}
use Rattle.settings.specs.Answers.{Check}
use Rattle.std.specs.Prelude.{ℕ, ◌≡◌, refl, Bool, true, false, cond, not}
use Rattle.std.proofs.Common.{arith, sym}
use Rattle.settings.specs.declared.kinds.Settings.{Settings}
use Rattle.settings.specs.declared.kinds.Fault.{Fault}
use Rattle.settings.specs.Settings.{edge_ok, kind_ok, origin_ok, good_of}

bad-fine : {f : Fault} {A : Type 0} → ◌≡◌ {A = Check} (Err f) (Ok tt) → A
bad-fine e = let z : ◌≡◌ {A = ℕ} 0 1 = cc in absurd (omega arith)

-- Where nothing is wrong, a test that tells a fault failed.
pub passed : (f : Fault) (y : Check) (t : Bool) → cond t (Err f) y ≡ Ok tt → (t ≡ false) × (y ≡ Ok tt)
passed f y true e = bad-fine e
passed f y false e = (refl, e)

not-no : (t : Bool) → not t ≡ false → t ≡ true
not-no true e = refl
not-no false e = sym e

-- The edge, the kind and the origin are ones that may be.
pub good-parts : (a : Settings) → good_of a ≡ Ok tt → (edge_ok a.edge ≡ true) × (kind_ok a.kind ≡ true) × (origin_ok a ≡ true)
unfolding good_of
good-parts a e =
    let p = passed _ _ (not (edge_ok a.edge)) e in
    let q = passed _ _ (not (kind_ok a.kind)) p.1 in
    let r = passed _ _ (not (origin_ok a)) q.1 in
    (not-no (edge_ok a.edge) p.0, not-no (kind_ok a.kind) q.0, not-no (origin_ok a) r.0)
