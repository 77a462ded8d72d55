-- The number q goes in by its bits and reads back as it was.
use Rattle.std.proofs.Common.{◌≡◌, ℕ, zero, suc, ◌^◌, ◌<◌, ◌≤◌, ℤ, pos, negsuc, ◌-ℤ◌, sym, refl, ap, ◌∙◌, subst, zero-add, arith, to_z-of_z, w32, SFits, to_z}
use mir.Facts.{to_z_pos}
use Rattle.exact.specs.Units.{exact}
use Rattle.exact.specs.Laws.Whole.{said-zero}
use Rattle.metres.proofs.Laws.Cell.{sign_above, sign_below}
use Rattle.metres.proofs.NearPlace.cell_number.Goals as goal

small : (q : ℕ) → q ≤ 1048576 → q < 2 ^ 31
small q h = omega arith

back : (q : ℕ) → q ≤ 1048576 → to_z w32 q ≡ pos q
back q h = to_z_pos w32 (small q h)

less_one : (q : ℕ) → negsuc 0 -ℤ pos q ≡ negsuc q
less_one zero = refl
less_one (suc q) = ap (λ (n : ℕ). negsuc (suc n)) (zero-add q)

turned : (q : ℕ) → q ≤ 1048576 → negsuc 0 -ℤ to_z w32 q ≡ negsuc q
turned q h = ap (λ (z : ℤ). negsuc 0 -ℤ z) (back q h) ∙ less_one q

fitting : (q : ℕ) → q ≤ 1048576 → SFits w32 (negsuc 0 -ℤ to_z w32 q)
fitting q h = subst (SFits w32) (sym (turned q h)) (record { sfits = small q h })

pub returns-then-self : goal.returns-then-self
returns-then-self c =
    to_z-of_z (fitting c.args.q c.requires) ∙ turned c.args.q c.requires
    ∙ sign_below (exact c.args.self.metres) c.args.q (said-zero c.args.self.metres c.args.self.near.known c.if-self.true)

pub returns : goal.returns
returns c =
    back c.args.q c.requires
    ∙ sign_above (exact c.args.self.metres) c.args.q (said-zero c.args.self.metres c.args.self.near.known c.if-self.false)
