-- A group's record is exact: its grid, its cell count, and its corners are those of its present cells.
use Rattle.std.specs.Prelude.{ℕ, zero, suc, ◌≤◌, min, max, ◌≡◌, refl, ◌⊎◌, Bool, T, eqb, ltb, length}
use Rattle.std.proofs.Common.{arith, sym, ◌∙◌, ap, subst, inl, inr, ⊎_elim}
use mathlib.Core.List.Memᴰ.{cases_cons as mem-cons}
use mathlib.Core.List.Memᴰ.{head}
use mathlib.Core.List.Memᴰ.{not-nil as mem-nil}
use mathlib.Core.List.Memᴰ.{tail}
use mathlib.Core.List.{List, [], ◌∷◌, Memᴰ as Mem}
use Rattle.std.proofs.Math.Option.{some}
use Rattle.model.specs.Facts.{At, Ok}
use Rattle.model.specs.Lists.{run, ascending, keys, values, get}
use Rattle.model.specs.Cells.{Cell, same}
use Rattle.model.specs.Paths.{Path, stop, step}
use Rattle.model.specs.Groups.{Group, Corner, members, group_of, corner_at, lower, higher}
use Rattle.model.specs.Update.{State}
use Rattle.model.specs.Questions.{id_of, id_list, group_by}
use Rattle.model.specs.Consistent.{consistent_by}
use Rattle.model.proofs.Laws.Orders.{cells}
use Rattle.model.proofs.Laws.Tables.{at_mem, asc-fair}
use Rattle.model.proofs.Laws.Values.{value_in}
use Rattle.model.proofs.Laws.Fine.{members-out}
use Rattle.model.proofs.Laws.Touching.{Touching}
use Rattle.model.proofs.Laws.Records.{shown_of, members-cons, records-keys, records-get}
use Rattle.model.proofs.Laws.Consistency.{ok_out, ids-asc}

-- n stands in R to what f gives for each of the cells, and one of them has it.
pub record Extreme (R : ℕ → ℕ → Type 0) (f : Cell → ℕ) (l : List Cell) (n : ℕ) : Type 0 where
  pub bound : (c : Cell) → Mem c l → R n (f c)
  pub taken : (c : Cell) × Mem c l × (f c ≡ n)

-- n is the least of what f gives for the cells, and one of them has it.
abbrev pub Least : (Cell → ℕ) → List Cell → ℕ → Type 0
Least = Extreme (λ m n. m ≤ n)

-- n is the largest of what f gives for the cells, and one of them has it.
abbrev pub Largest : (Cell → ℕ) → List Cell → ℕ → Type 0
Largest = Extreme (λ m n. n ≤ m)

-- The group shows exactly these cells: of its grid, as many as it counts, its corners the least and the largest on each axis.
pub record Shows (l : List Cell) (g : Group) : Type 0 where
  pub grid : (c : Cell) → Mem c l → c.grid ≡ g.grid
  pub count : g.count ≡ length l
  pub low_x : Least (λ c. c.x) l g.low.x
  pub low-y : Least (λ c. c.y) l g.low.y
  pub low-z : Least (λ c. c.z) l g.low.z
  pub high-x : Largest (λ c. c.x) l g.high.x
  pub high-y : Largest (λ c. c.y) l g.high.y
  pub high-z : Largest (λ c. c.z) l g.high.z

-- A choice of one of two numbers that stands in R to both, made one after the other, stands in R to all.
module _ (R : ℕ → ℕ → Type 0) (pick : ℕ → ℕ → ℕ) (self : (m : ℕ) → R m m) (trans : (l m n : ℕ) → R l m → R m n → R l n)
    (fst : (m n : ℕ) → R (pick m n) m) (snd : (m n : ℕ) → R (pick m n) n) (one : (m n : ℕ) → (pick m n ≡ m) ⊎ (pick m n ≡ n)) (f : Cell → ℕ) where
  abbrev picked : ℕ → List Cell → ℕ
  picked m cs = run (λ (k : ℕ) (d : Cell). pick k (f d)) m cs

  picked_first : (cs : List Cell) (m : ℕ) → R (picked m cs) m
  picked_first [] m = self m
  picked_first (d ∷ ds) m = trans _ _ _ (picked_first ds (pick m (f d))) (fst m (f d))

  picked-each : (cs : List Cell) (m : ℕ) (c : Cell) → Mem c cs → R (picked m cs) (f c)
  picked-each [] m c k = absurd (mem-nil k)
  picked-each (d ∷ ds) m c k =
      ⊎_elim (λ e. subst (λ x. R (picked (pick m (f d)) ds) (f x)) (sym e) (trans _ _ _ (picked_first ds (pick m (f d))) (snd m (f d))))
      (λ j. picked-each ds (pick m (f d)) c j) (mem-cons k)

  picked-one : (cs : List Cell) (m : ℕ) → (picked m cs ≡ m) ⊎ ((c : Cell) × Mem c cs × (f c ≡ picked m cs))
  picked-one [] m = inl refl
  picked-one (d ∷ ds) m =
      ⊎_elim (λ e. ⊎_elim (λ h. inl (e ∙ h)) (λ h. inr (d, head refl, sym (e ∙ h))) (one m (f d)))
      (λ r. inr (r.0, tail r.1, r.2)) (picked-one ds (pick m (f d)))

  extreme : (c : Cell) (cs : List Cell) → Extreme R f (c ∷ cs) (picked (f c) cs)
  extreme c cs =
      record {
        bound = λ d m. ⊎_elim (λ e. subst (λ x. R (picked (f c) cs) (f x)) (sym e) (picked_first cs (f c))) (λ k. picked-each cs (f c) d k) (mem-cons m);
        taken = ⊎_elim (λ e. (c, head refl, sym e)) (λ r. (r.0, tail r.1, r.2)) (picked-one cs (f c));
      }

le-or : (m n : ℕ) → (m ≤ n) ⊎ (n ≤ m)
le-or zero n = inl (omega arith)
le-or (suc m) zero = inr (omega arith)
le-or (suc m) (suc n) = ⊎_elim (λ h. inl (omega arith)) (λ h. inr (omega arith)) (le-or m n)

least : (f : Cell → ℕ) (c : Cell) (cs : List Cell) → Least f (c ∷ cs) (run (λ (k : ℕ) (d : Cell). min k (f d)) (f c) cs)
least =
    extreme (λ m n. m ≤ n) min (λ m. omega arith) (λ l m n h k. omega arith) (λ m n. omega arith) (λ m n. omega arith)
    (λ m n. ⊎_elim (λ h. inl (omega arith)) (λ h. inr (omega arith)) (le-or m n))

largest : (f : Cell → ℕ) (c : Cell) (cs : List Cell) → Largest f (c ∷ cs) (run (λ (k : ℕ) (d : Cell). max k (f d)) (f c) cs)
largest =
    extreme (λ m n. n ≤ m) max (λ m. omega arith) (λ l m n h k. omega arith) (λ m n. omega arith) (λ m n. omega arith)
    (λ m n. ⊎_elim (λ h. inr (omega arith)) (λ h. inl (omega arith)) (le-or m n))

-- A corner is taken axis by axis.
axis : (grow : Corner → Cell → Corner) (pick : ℕ → ℕ → ℕ) (f : Corner → ℕ) (g : Cell → ℕ) → ((p : Corner) (c : Cell) → f (grow p c) ≡ pick (f p) (g c)) →
    (cs : List Cell) (p : Corner) → f (run grow p cs) ≡ run (λ (k : ℕ) (d : Cell). pick k (g d)) (f p) cs
axis grow pick f g h [] p = refl
axis grow pick f g h (c ∷ cs) p = axis grow pick f g h cs (grow p c) ∙ ap (λ (k : ℕ). run (λ (k : ℕ) (d : Cell). pick k (g d)) k cs) (h p c)

-- The corners of a group are exact.
module _ (entities : List (ℕ × Cell)) (c : Cell) (cs : List Cell) where
  low : (f : Corner → ℕ) (g : Cell → ℕ) → ((p : Corner) (d : Cell) → f (lower p d) ≡ min (f p) (g d)) → f (corner_at c) ≡ g c → Least g (c ∷ cs) (f (group_of entities c cs).low)
  low f g h e = subst (λ n. Least g (c ∷ cs) n) (ap (λ (k : ℕ). run (λ (k : ℕ) (d : Cell). min k (g d)) k cs) (sym e) ∙ sym (axis lower min f g h cs (corner_at c))) (least g c cs)

  high : (f : Corner → ℕ) (g : Cell → ℕ) → ((p : Corner) (d : Cell) → f (higher p d) ≡ max (f p) (g d)) → f (corner_at c) ≡ g c → Largest g (c ∷ cs) (f (group_of entities c cs).high)
  high f g h e = subst (λ n. Largest g (c ∷ cs) n) (ap (λ (k : ℕ). run (λ (k : ℕ) (d : Cell). max k (g d)) k cs) (sym e) ∙ sym (axis higher max f g h cs (corner_at c))) (largest g c cs)

  -- What is shown of a first cell and others of its grid.
  pub shows : ((d : Cell) → Mem d (c ∷ cs) → d.grid ≡ c.grid) → Shows (c ∷ cs) (group_of entities c cs)
  shows one =
      record {
        grid = one;
        count = refl;
        low_x = low (λ p. p.x) (λ d. d.x) (λ p d. refl) refl;
        low-y = low (λ p. p.y) (λ d. d.y) (λ p d. refl) refl;
        low-z = low (λ p. p.z) (λ d. d.z) (λ p d. refl) refl;
        high-x = high (λ p. p.x) (λ d. d.x) (λ p d. refl) refl;
        high-y = high (λ p. p.y) (λ d. d.y) (λ p d. refl) refl;
        high-z = high (λ p. p.z) (λ d. d.z) (λ p d. refl) refl;
      }

module _ (touch : Cell → Cell → Bool) (laws : Touching touch) where
  -- A path stays on its grid.
  one-grid : {D : Cell → Type 0} {b a : Cell} → Path touch D a b → a.grid ≡ b.grid
  one-grid (stop d e) = ap (λ (c : Cell). c.grid) e
  one-grid (step {a} {c} d t w) = laws.one-grid a c t ∙ one-grid w

  module _ (s : State) (t : T (consistent_by touch s)) where
    ok : Ok touch s
    ok = ok_out touch laws.flip s t

    -- The ids shown are those that a cell has, ascending.
    pub ids-exact : id_list s ≡ ascending ltb (values s.groups.ids)
    ids-exact = ap keys ok.records-are ∙ records-keys s.occupancy.entities s.groups.ids

    -- The group of an id that a cell has shows exactly the cells with that id.
    pub corners-exact : (a : Cell) (g : ℕ) → id_of s a ≡ some g → (r : Group) × (group_by s g ≡ some r) × Shows (members s.groups.ids g) r
    corners-exact a g e =
        let is : At same s.groups.ids a g = record { is = e } in
        let m = members-cons s.groups.ids (value_in (at_mem cells s.groups.ids is)) in (
          group_of s.occupancy.entities m.0 m.1,
          ap (λ (l : List (ℕ × Group)). get eqb l g) ok.records-are ∙ records-get s.occupancy.entities s.groups.ids g ∙ ap (shown_of s.occupancy.entities) m.2,
          subst (λ (l : List Cell). Shows l (group_of s.occupancy.entities m.0 m.1)) (sym m.2) (shows s.occupancy.entities m.0 m.1 (λ d k. one m.0 m.1 m.2 d k)),
        )
      where
        fair : (c : Cell) → Mem c (members s.groups.ids g) → At same s.groups.ids c g
        fair c k = members-out s.groups.ids g (asc-fair cells s.groups.ids (ids-asc touch s ok)) k

        one : (c : Cell) (cs : List Cell) → members s.groups.ids g ≡ c ∷ cs → (d : Cell) → Mem d (c ∷ cs) → d.grid ≡ c.grid
        one c cs f d k =
            let p = fair d (subst (λ l. Mem d l) (sym f) k) in
            let q = fair c (subst (λ l. Mem c l) (sym f) (head refl)) in
            one-grid ((ok.shared (d, g) (c, g) (at_mem cells s.groups.ids p) (at_mem cells s.groups.ids q)).0 refl)
