-- The test that ids are shared exactly by joined cells.
use Rattle.std.specs.Prelude.{Bool, true, false, T, eqb}
use Rattle.std.proofs.Common.{⊎_elim, eqb→eq}
use mathlib.Core.List.Memᴰ.{cases_cons as mem-cons}
use mathlib.Core.List.Memᴰ.{cast as mem-cast}
use mathlib.Core.List.Memᴰ.{head}
use mathlib.Core.List.Memᴰ.{tail}
use mathlib.Core.List.{List, ◌∷◌, Memᴰ as Mem}
use Rattle.model.specs.Facts.{Shared}
use Rattle.model.specs.Lists.{without, keys}
use Rattle.model.specs.Cells.{Cell, same}
use Rattle.model.specs.Paths.{Joined}
use Rattle.model.specs.Groups.{Ids, part}
use Rattle.model.specs.Consistent.{joined_in, agree}
use Rattle.model.specs.Shared.{shared_in}
use Rattle.model.proofs.Laws.Tests.{eqb_of}
use Rattle.model.proofs.Laws.Orders.{cells, is-or}
use Rattle.model.proofs.Laws.Members.{all-in, all-out, has_of, of-has, without_in, without-out, key_in}
use Rattle.model.proofs.Laws.Walks.{wider, back, part-path, part-of-path}

-- Two tests agree exactly if each follows from the other.
pub agree-in : (p q : Bool) → (T p → T q) → (T q → T p) → T (agree p q)
agree-in true q f g = f tt
agree-in false true f g = g tt
agree-in false false f g = tt

pub agree-out : (p q : Bool) → T (agree p q) → (T p → T q) × (T q → T p)
agree-out true q t = (λ u. t, λ u. tt)
agree-out false true t = absurd t
agree-out false false t = (λ u. u, λ u. u)

module _ (touch : Cell → Cell → Bool) (flip : (a b : Cell) → T (touch a b) → T (touch b a)) where
  -- The cells of a list are a cell of it and the others.
  split-in : (l : List Cell) (a x : Cell) → Mem x l → Mem x (a ∷ without same a l)
  split-in l a x m = ⊎_elim (λ e. head e) (λ n. tail (without_in cells a m n)) (is-or cells x a)

  split-out : (l : List Cell) (a x : Cell) → Mem a l → Mem x (a ∷ without same a l) → Mem x l
  split-out l a x k m = ⊎_elim (λ e. mem-cast e k) (λ j. (without-out cells a l j).0) (mem-cons m)

  -- The test of being joined finds exactly what paths join.
  pub joined-in : (l : List Cell) (a b : Cell) → Joined touch l a b → T (joined_in touch l a b)
  joined-in l a b w =
      has_of cells (part-of-path touch flip a (without same a l) (back touch flip (wider touch (λ x m. split-in l a x m) w)))

  pub joined-out : (l : List Cell) (a b : Cell) → Mem a l → T (joined_in touch l a b) → Joined touch l a b
  joined-out l a b k t =
      back touch flip (wider touch (λ x m. split-out l a x k m) (part-path touch flip a (without same a l) (of-has cells (part touch a (without same a l)) t)))

  -- The test says exactly that.
  pub shared-in : (ids : Ids) → Shared touch ids → T (shared_in touch ids)
  shared-in ids h =
      all-in _ ids (λ p m. all-in _ ids (λ q k.
      agree-in (eqb p.1 q.1) (joined_in touch (keys ids) p.0 q.0)
      (λ t. joined-in (keys ids) p.0 q.0 ((h p q m k).0 (eqb→eq p.1 q.1 t)))
      (λ t. eqb_of p.1 q.1 ((h p q m k).1 (joined-out (keys ids) p.0 q.0 (key_in m) t)))))

  pub shared-out : (ids : Ids) → T (shared_in touch ids) → Shared touch ids
  shared-out ids t p q m k =
      let r = agree-out (eqb p.1 q.1) (joined_in touch (keys ids) p.0 q.0) (all-out _ ids (all-out _ ids t m) k) in (
        λ e. joined-out (keys ids) p.0 q.0 (key_in m) (r.0 (eqb_of p.1 q.1 e)),
        λ w. eqb→eq p.1 q.1 (r.1 (joined-in (keys ids) p.0 q.0 w)),
      )
