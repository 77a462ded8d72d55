-- Rules 2 and 3 keep the invariant: cells that leave, and the groups that fall into pieces.
use Rattle.std.specs.Prelude.{ℕ, ◌<◌, ◌≡◌, refl, Bool, cond, not, T, eqb, length}
use Rattle.std.proofs.Common.{arith, le_refl, sym, ◌∙◌, subst, ⊎_elim, T_not, eqb→eq}
use mathlib.Core.List.Memᴰ.{cases_cons as mem-cons}
use mathlib.Core.List.Memᴰ.{head}
use mathlib.Core.List.Memᴰ.{not-nil as mem-nil}
use mathlib.Core.List.Memᴰ.{tail}
use mathlib.Core.List.{List, [], ◌∷◌, Memᴰ as Mem}
use Rattle.std.proofs.Math.Dec.{eqb_refl}
use Rattle.model.specs.Facts.{At, In}
use Rattle.model.specs.Cells.{Cell, same}
use Rattle.model.proofs.Laws.Orders.{cells, numbers}
use Rattle.model.specs.Lists.{any, has, run}
use Rattle.model.specs.Groups.{Ids, Groups, members, rule2, rule3, affected, take_next, split, split_into, parts, largest_piece}
use Rattle.model.specs.Paths.{Path, stop, step}
use Rattle.model.proofs.Laws.Tests.{decided}
use Rattle.model.proofs.Laws.Members.{keep-in, each_in, any-in, of-has}
use Rattle.model.proofs.Laws.Sorted.{ascending-in}
use Rattle.model.proofs.Laws.Walks.{wider, first}
use Rattle.model.proofs.Laws.Tables.{at_mem, at_only, at-of-only, fair-change, fair-only}
use Rattle.model.proofs.Laws.Keys.{in-keys, keys-take, keys-takes}
use Rattle.model.proofs.Laws.Takes.{take_cases, take-under, not-takes}
use Rattle.model.proofs.Laws.Fine.{members-in, members-out, Fine}
use Rattle.model.proofs.Laws.Pieces.{largest-of, takers, takers-out, takers-or, Piece, pieces_are, pieces-cover}

module _ (touch : Cell → Cell → Bool) (flip : (a b : Cell) → T (touch a b) → T (touch b a)) where
  module _ (emptied : List Cell) (s : Groups) (ok : Fine touch [] s) where
    abbrev left : Ids
    left = (rule2 touch emptied s).ids

    abbrev stays : Cell → Bool
    stays a = not (has same emptied a)

    -- The group of a cell beside one that left is affected.
    affected-in : {a x : Cell} {g : ℕ} → At same left a g → Mem x emptied → T (touch x a) → Mem g (affected touch emptied left)
    affected-in {a} {x} p m t =
        ascending-in numbers _ (each_in (λ (q : Cell × ℕ). q.1) (keep-in (λ (q : Cell × ℕ). any (λ d. touch d q.0) emptied) (at_mem cells left p) (any-in (λ d. touch d a) m t)))

    -- A path in a group that is not affected stays.
    stay : {b a : Cell} {g : ℕ} → At same left a g → (Mem g (affected touch emptied left) → ⊥) → Path touch (In same s.ids) a b → Path touch (In same left) a b
    stay {g = g} p n (stop d e) = stop (g, p) e
    stay {b} {a} {g} p n (step {c = x} d t w) =
        ⊎_elim (λ u. absurd (n (affected-in p (of-has cells emptied u) (flip a x t))))
        (λ u. step (g, p) t (stay (at_x u) n w))
        (decided (has same emptied x))
      where
        at_x : T (stays x) → At same left x g
        at_x u =
            let f : In same s.ids x = first touch w in
            let q : At same left x f.0 = at_only cells stays s.ids f.1 u in
            subst (λ h. At same left x h) (sym (ok.edge (at-of-only cells stays s.ids p).0 f.1 t)) q

    -- Rule 2 leaves only the affected groups in several pieces.
    pub rule2-fine : Fine touch (affected touch emptied left) (rule2 touch emptied s)
    rule2-fine =
        record {
          fair = fair-only cells stays s.ids ok.fair;
          under = λ p. ok.under (at-of-only cells stays s.ids p).0;
          edge = λ p q t. ok.edge (at-of-only cells stays s.ids p).0 (at-of-only cells stays s.ids q).0 t;
          joined = λ p q n. stay p n (ok.joined (at-of-only cells stays s.ids p).0 (at-of-only cells stays s.ids q).0 (λ k. mem-nil k));
        }

  -- A piece that is joined by paths and that no cell outside it touches.
  pub record Solid (ids : Ids) (p : List Cell) : Type 0 where
    pub closed : {a b : Cell} → Mem a p → In same ids b → T (touch a b) → Mem b p
    pub linked : {a b : Cell} → Mem a p → Mem b p → Path touch (In same ids) a b

  module _ (s : Groups) (p : List Cell) where
    -- A solid piece is solid after a piece takes the next id.
    pub solid-take : {q : List Cell} → Solid s.ids q → Solid (take_next touch s p).ids q
    solid-take ok =
        record {
          closed = λ m d t. ok.closed m (in-keys (keys-take touch s p) d) t;
          linked = λ m k. wider touch (λ x d. in-keys (sym (keys-take touch s p)) d) (ok.linked m k);
        }

    -- A solid piece that takes the next id keeps the invariant.
    pub take-fine : (gs : List ℕ) → Fine touch gs s → Solid s.ids p → Fine touch gs (take_next touch s p)
    take-fine gs ok solid =
        record {
          fair = fair-change cells (λ a h. cond (has same p a) s.next h) s.ids ok.fair;
          under = λ {a} {g} q. take-under touch s p (λ b h r. ok.under r) a g q;
          edge = λ {a} {b} {g} {h} q r t.
              ⊎_elim
              (λ k. ⊎_elim (λ j. k.1 ∙ sym j.1) (λ j. absurd (j.0 (solid.closed k.0 (h, j.1) t))) (take_cases touch s p r))
              (λ k. ⊎_elim (λ j. absurd (k.0 (solid.closed j.0 (g, k.1) (flip a b t)))) (λ j. ok.edge k.1 j.1 t) (take_cases touch s p r))
              (take_cases touch s p q);
          joined = λ {a} {b} {g} q r n.
              wider touch (λ x d. in-keys (sym (keys-take touch s p)) d)
              (⊎_elim
              (λ k. ⊎_elim (λ j. solid.linked k.0 j.0) (λ j. let e = k.1 in let h = ok.under j.1 in absurd (omega arith)) (take_cases touch s p r))
              (λ k. ⊎_elim (λ j. let e = j.1 in let h = ok.under k.1 in absurd (omega arith)) (λ j. ok.joined k.1 j.1 n) (take_cases touch s p r))
              (take_cases touch s p q));
        }

  -- Solid pieces that take the next ids one after the other keep the invariant.
  pub takes-fine : (ps : List (List Cell)) (s : Groups) (gs : List ℕ) → Fine touch gs s → ((p : List Cell) → Mem p ps → Solid s.ids p) → Fine touch gs (run (take_next touch) s ps)
  takes-fine [] s gs ok solid = ok
  takes-fine (p ∷ ps) s gs ok solid =
      takes-fine ps (take_next touch s p) gs (take-fine s p gs ok (solid p (head refl))) (λ q m. solid-take s p (solid q (tail m)))

  module _ (s : Groups) (g : ℕ) (gs : List ℕ) (ok : Fine touch (g ∷ gs) s) where
    abbrev group : List Cell
    group = members s.ids g

    -- The parts of a group are solid.
    pub piece-solid : {p : List Cell} → Mem p (parts touch group) → Solid s.ids p
    piece-solid {p} m =
        record {
          closed = λ {a} {b} k d t. piece.closed k (beside (piece.sub k) d t) t;
          linked = λ k j. wider touch (λ x h. (g, members-out s.ids g ok.fair h)) (piece.linked k j);
        }
      where
        piece : Piece touch group p
        piece = pieces_are touch flip (length group) group (le_refl (length group)) m

        beside : {a b : Cell} → Mem a group → In same s.ids b → T (touch a b) → Mem b group
        beside {a} {b} k d t = members-in s.ids (subst (λ h. At same s.ids b h) (sym (ok.edge (members-out s.ids g ok.fair k) d.1 t)) d.1)

    module _ (p : List Cell) (ps : List (List Cell)) (is : parts touch group ≡ p ∷ ps) where
      abbrev others : List (List Cell)
      others = takers touch p ps

      abbrev s' : Groups
      s' = run (take_next touch) s others

      other-solid : (q : List Cell) → Mem q others → Solid s.ids q
      other-solid q m = piece-solid (subst (λ l. Mem q l) (sym is) (takers-out touch p ps m))

      whole : Fine touch (g ∷ gs) s'
      whole = takes-fine others s (g ∷ gs) ok other-solid

      -- The group's id is below the next id.
      pub split-bound : g < s.next
      split-bound = let c : (x : Cell) × Mem x group = some-cell group is in ok.under (members-out s.ids g ok.fair c.1)
        where
          some-cell : (l : List Cell) → parts touch l ≡ p ∷ ps → (x : Cell) × Mem x l
          some-cell [] e = let z : ◌≡◌ {A = ℕ} 0 1 = cc in absurd (omega arith)
          some-cell (x ∷ l) e = (x, head refl)

      -- Who is left in the group is in the largest piece.
      pub in-largest : {a : Cell} → At same s'.ids a g → Mem a (largest_piece touch p ps).0
      in-largest {a} q = find (not-takes touch others s q split-bound)
        where
          find : At same s.ids a g × ((x : List Cell) → Mem x others → Mem a x → ⊥) → Mem a (largest_piece touch p ps).0
          find r =
              let c : (x : List Cell) × Mem x (parts touch group) × Mem a x = pieces-cover touch flip (length group) group (le_refl (length group)) (members-in s.ids r.0) in
              ⊎_elim (λ e. subst (λ y. Mem a y) e c.2) (λ m. absurd (r.1 c.0 m c.2)) (takers-or touch p ps (subst (λ l. Mem c.0 l) is c.1))

      largest-solid : Solid s.ids (largest_piece touch p ps).0
      largest-solid = piece-solid (subst (λ l. Mem (largest_piece touch p ps).0 l) (sym is) (largest-of touch p ps))

      split-some : Fine touch gs s'
      split-some =
          record {
            fair = whole.fair;
            under = λ q. whole.under q;
            edge = λ q r t. whole.edge q r t;
            joined = λ {a} {b} {g = h} q r n.
                ⊎_elim (λ t. let e : h ≡ g = eqb→eq h g t in
                wider touch (λ x d. in-keys (sym (keys-takes touch others s)) d)
                (largest-solid.linked (in-largest (subst (λ k. At same s'.ids a k) e q)) (in-largest (subst (λ k. At same s'.ids b k) e r))))
                (λ t. whole.joined q r (λ m. ⊎_elim (λ e. T_not (eqb h g) t (subst (λ k. T (eqb h k)) e (eqb_refl h))) (λ k. n k) (mem-cons m)))
                (decided (eqb h g));
          }

    split-none : parts touch group ≡ [] → Fine touch gs s
    split-none is =
        record {
          fair = ok.fair;
          under = λ q. ok.under q;
          edge = λ q r t. ok.edge q r t;
          joined = λ {a} {b} {g = h} q r n. ok.joined q r (λ m. ⊎_elim (λ e. no_cell (subst (λ k. At same s.ids a k) e q)) (λ k. n k) (mem-cons m));
        }
      where
        no_cell : {a : Cell} → At same s.ids a g → ⊥
        no_cell {a} q =
            let c : (x : List Cell) × Mem x (parts touch group) × Mem a x = pieces-cover touch flip (length group) group (le_refl (length group)) (members-in s.ids q) in
            mem-nil (subst (λ l. Mem c.0 l) is c.1)

    -- A split leaves the group in one piece.
    pub split-fine : Fine touch gs (split touch s g)
    split-fine = go (parts touch group) refl
      where
        go : (l : List (List Cell)) → parts touch group ≡ l → Fine touch gs (split_into touch s l)
        go [] e = split-none e
        go (p ∷ ps) e = split-some p ps e

  -- Splits of all open groups keep the invariant.
  pub splits-fine : (gs : List ℕ) (s : Groups) → Fine touch gs s → Fine touch [] (run (split touch) s gs)
  splits-fine [] s ok = ok
  splits-fine (g ∷ gs) s ok = splits-fine gs (split touch s g) (split-fine s g gs ok)

  -- Rules 2 and 3 keep the invariant.
  pub rules23-fine : (emptied : List Cell) (s : Groups) → Fine touch [] s → Fine touch [] (rule3 touch emptied (rule2 touch emptied s))
  unfolding rule3
  rules23-fine emptied s ok = splits-fine (affected touch emptied (rule2 touch emptied s).ids) (rule2 touch emptied s) (rule2-fine emptied s ok)
