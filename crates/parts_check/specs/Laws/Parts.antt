-- What a flood from an unmarked row does to rows marked by connected parts.
use Rattle.std.specs.Prelude.{ℕ, zero, suc, ◌+◌, ◌≤◌, ◌<◌, ◌≡◌, refl, ◌⊎◌, Bool, true, false, cond, length, get_or}
use Rattle.std.proofs.Common.{arith, sym, ap, ◌∙◌, subst, inl, inr, ⊎_elim, T_not, ltb→lt}
use mathlib.Core.List.Memᴰ.{cases_cons as mem-cons}
use mathlib.Core.List.Memᴰ.{cast as mem-cast}
use mathlib.Core.List.Memᴰ.{head}
use mathlib.Core.List.Memᴰ.{tail}
use mathlib.Core.List.{List, ◌∷◌, Memᴰ as Mem}
use Rattle.model.specs.Lists.{has, keys, count, without}
use Rattle.model.specs.Cells.{Cell, same, touch_at}
use Rattle.model.specs.Groups.{part}
use Rattle.model.specs.Paths.{stop, step, Path, Joined}
use Rattle.model.proofs.Laws.Tests.{T_true, T_false}
use Rattle.model.proofs.Laws.Orders.{cells, numbers, is-or, order-cases}
use Rattle.model.proofs.Laws.Members.{each-out, has_of, of-has, without_in, without-out}
use Rattle.model.proofs.Laws.Kinds.{kind-touching}
use Rattle.model.proofs.Laws.Walks.{wider, join, back, part-path, part-of-path}
use Rattle.model.proofs.Laws.Reaching.{flood-part}
use Rattle.neighbourhood.specs.Rows.{row_cell}
use Rattle.neighbourhood.specs.Standing.{Cells, open_cells, flood_from, Floodable}
use Rattle.neighbourhood.proofs.Laws.Reads.{row-occupied}
use Rattle.neighbourhood.proofs.Laws.Unmarked.{counted-under, rows-keys, open-once, open_in, open-out}
use Rattle.parts_check.specs.Parts.{Linked, Labelled}

module _ {kind : ℕ} (words : List ℕ) (n : ℕ) (t : List (Cell × ℕ)) (k : Cells kind words n t) where
  there : (j : ℕ) → j < n → Mem (row_cell words j) (keys t)
  there j h = row-occupied words n t k j h

  linked-self : (j : ℕ) → j < n → Linked kind words t j j
  linked-self j h = stop (there j h) refl

  linked_on : {a b c : Cell} → Joined (touch_at kind) (keys t) a b → Joined (touch_at kind) (keys t) b c → Joined (touch_at kind) (keys t) a c
  linked_on v w = join (touch_at kind) v w

  linked-back : {a b : Cell} → Joined (touch_at kind) (keys t) a b → Joined (touch_at kind) (keys t) b a
  linked-back w = back (touch_at kind) (kind-touching kind).flip w

  -- No row is passed yet.
  pub labels-start : (marks : List ℕ) → ((j : ℕ) → j < n → get_or marks j 0 ≡ 0) → Labelled kind words n t 0 marks
  labels-start marks z =
      record {
        none = λ j h e l g w. absurd (omega arith);
        some = λ j l h e. let f = z j h in absurd (omega arith);
      }

  module _ (i : ℕ) (marks : List ℕ) (d : Labelled kind words n t i marks) where
    -- A row that is marked is passed over.
    pub labels-skip : i < n → (get_or marks i 0 ≡ 0 → ⊥) → Labelled kind words n t (i + 1) marks
    labels-skip h m =
        record {
          none = λ j g e l f w. ⊎_elim (λ q. d.none j g e l q w) (λ q. absurd (old j g e (subst (λ x. Linked kind words t x j) q w))) (below_or l f);
          some = λ j l g e. let r = d.some j l g e in (let f = r.0 in omega arith, r.1, r.2);
        }
      where
        below_or : (l : ℕ) → l < i + 1 → (l < i) ⊎ (l ≡ i)
        below_or l f = ⊎_elim (λ x. inl (ltb→lt l i x)) (λ x. ⊎_elim (λ y. inr y) (λ y. absurd (let z = ltb→lt i l y in omega arith)) x) (order-cases numbers l i)

        old : (j : ℕ) → j < n → get_or marks j 0 ≡ 0 → Linked kind words t i j → ⊥
        old j g e w = go (get_or marks i 0) refl
          where
            go : (x : ℕ) → get_or marks i 0 ≡ x → ⊥
            go zero q = m q
            go (suc f) q = let r = d.some i f h q in d.none j g e f r.0 (linked_on r.1 w)

    -- A row that is not marked is linked to none that is.
    labels-free : i < n → get_or marks i 0 ≡ 0 → (j : ℕ) → j < n → Linked kind words t j i → get_or marks j 0 ≡ 0
    labels-free h z j g w = go (get_or marks j 0) refl
      where
        go : (x : ℕ) → get_or marks j 0 ≡ x → get_or marks j 0 ≡ 0
        go zero q = q
        go (suc f) q = let r = d.some j f g q in absurd (d.none i h z f r.0 (linked_on r.1 w))

    -- It can be flooded from.
    pub labels-asks : (queue : List ℕ) → i < n → get_or marks i 0 ≡ 0 → i + 1 < 18446744073709551616 → n ≤ length marks → n ≤ length queue → Floodable words n i (i + 1) 0 marks queue
    labels-asks queue h z u a b =
        record {
          kind = kind;
          table = t;
          cells = k;
          seeded = h;
          unmarked = z;
          labelled = λ e. absurd (omega arith);
          small = omega arith;
          marks_fit = a;
          queue_fits = b;
        }

    module _ (h : i < n) (z : get_or marks i 0 ≡ 0) where
      abbrev c : Cell
      c = row_cell words i

      abbrev free : List Cell
      free = open_cells words n marks

      flood-is : flood_from kind free c ≡ part (touch_at kind) c (without same c free)
      flood-is = flood-part (touch_at kind) free (open-once words n t k marks) c (open_in words n marks i h z)

      -- The flood reaches only rows linked to it.
      reached-linked : (j : ℕ) → Mem (row_cell words j) (flood_from kind free c) → Linked kind words t i j
      reached-linked j m = linked-back (wider (touch_at kind) occupied (part-path (touch_at kind) (kind-touching kind).flip c (without same c free) (subst (λ l. Mem (row_cell words j) l) flood-is m)))
        where
          occupied : (x : Cell) → Mem x (c ∷ without same c free) → Mem x (keys t)
          occupied x v =
              ⊎_elim (λ e. mem-cast e (there i h))
              (λ o. let r = open-out words n marks (without-out cells c free o).0 in mem-cast r.3 (there r.0 r.1)) (mem-cons v)

      -- A cell that is linked to it is not marked.
      stays_open : (x : Cell) → Mem x (keys t) → Joined (touch_at kind) (keys t) x c → Mem x (c ∷ without same c free)
      stays_open x v w =
          let r = each-out (row_cell words) (count 0 n) (subst (λ l. Mem x l) (sym (rows-keys words n t k)) v) in
          let g = counted-under n r.0 r.1 in
          let o : Mem x free = mem-cast r.2 (open_in words n marks r.0 g (labels-free h z r.0 g (subst (λ y. Joined (touch_at kind) (keys t) y c) r.2 w))) in
          ⊎_elim (λ e. head e) (λ e. tail (without_in cells c o e)) (is-or cells x c)

      open-path : {x : Cell} → Joined (touch_at kind) (keys t) x c → Path (touch_at kind) (λ y. Mem y (c ∷ without same c free)) x c
      open-path (stop v e) = stop (head e) e
      open-path {x} (step v u w) = step (stays_open x v (step v u w)) u (open-path w)

      -- It reaches all of them.
      linked-reached : (j : ℕ) → Linked kind words t i j → Mem (row_cell words j) (flood_from kind free c)
      linked-reached j w = subst (λ l. Mem (row_cell words j) l) (sym flood-is) (part-of-path (touch_at kind) (kind-touching kind).flip c (without same c free) (open-path (linked-back w)))

    -- A row that is not marked is flooded from.
    pub labels-flood : (h : i < n) → get_or marks i 0 ≡ 0 → (marks' : List ℕ)
        → ((j : ℕ) → j < n → get_or marks' j 0 ≡ cond (has same (flood_from kind (open_cells words n marks) (row_cell words i)) (row_cell words j)) (i + 1) (get_or marks j 0))
        → Labelled kind words n t (i + 1) marks'
    labels-flood h z marks' f = record { none = none'; some = some' }
      where
        none' : (j : ℕ) → j < n → get_or marks' j 0 ≡ 0 → (l : ℕ) → l < i + 1 → Linked kind words t l j → ⊥
        none' j g e l q w = go (has same (flood_from kind (open_cells words n marks) (row_cell words i)) (row_cell words j)) refl
          where
            go : (b : Bool) → has same (flood_from kind (open_cells words n marks) (row_cell words i)) (row_cell words j) ≡ b → ⊥
            go true x = let y = f j g ∙ ap {B = ℕ} (λ (b : Bool). cond b (i + 1) (get_or marks j 0)) x in omega arith
            go false x =
                let y = sym (f j g ∙ ap {B = ℕ} (λ (b : Bool). cond b (i + 1) (get_or marks j 0)) x) ∙ e in
                ⊎_elim (λ u. d.none j g y l (ltb→lt l i u) w)
                (λ u. ⊎_elim
                (λ v. T_not (has same (flood_from kind (open_cells words n marks) (row_cell words i)) (row_cell words j)) (T_false x)
                (has_of cells (linked-reached h z j (subst (λ a. Linked kind words t a j) v w))))
                (λ v. absurd (let a = ltb→lt i l v in omega arith)) u)
                (order-cases numbers l i)

        some' : (j l : ℕ) → j < n → get_or marks' j 0 ≡ suc l → (l < i + 1) × Linked kind words t l j × ((a : ℕ) → a < l → Linked kind words t a l → ⊥)
        some' j l g e = go (has same (flood_from kind (open_cells words n marks) (row_cell words i)) (row_cell words j)) refl
          where
            go : (b : Bool) → has same (flood_from kind (open_cells words n marks) (row_cell words i)) (row_cell words j) ≡ b → (l < i + 1) × Linked kind words t l j × ((a : ℕ) → a < l → Linked kind words t a l → ⊥)
            go true x =
                let y = sym (f j g ∙ ap {B = ℕ} (λ (b : Bool). cond b (i + 1) (get_or marks j 0)) x) ∙ e in
                let q : i ≡ l = omega arith in (
                  omega arith,
                  subst (λ a. Linked kind words t a j) q (reached-linked h z j (of-has cells (flood_from kind (open_cells words n marks) (row_cell words i)) (T_true x))),
                  subst (λ m. (a : ℕ) → a < m → Linked kind words t a m → ⊥) q (λ a u w. d.none i h z a u w),
                )
            go false x =
                let y = sym (f j g ∙ ap {B = ℕ} (λ (b : Bool). cond b (i + 1) (get_or marks j 0)) x) ∙ e in
                let r = d.some j l g y in
                (let u = r.0 in omega arith, r.1, r.2)

  module _ (i : ℕ) (marks : List ℕ) (done : n ≤ i) (d : Labelled kind words n t i marks) where
    -- In the end each row has a mark.
    pub label_of : (j : ℕ) → j < n → (f : ℕ) × (get_or marks j 0 ≡ suc f)
    label_of j h = go (get_or marks j 0) refl
      where
        go : (x : ℕ) → get_or marks j 0 ≡ x → (f : ℕ) × (get_or marks j 0 ≡ suc f)
        go zero e = absurd (d.none j h e j (omega arith) (linked-self j h))
        go (suc f) e = (f, e)

    same_first : (a b : ℕ) → Linked kind words t a b → ((l : ℕ) → l < a → Linked kind words t l a → ⊥) → ((l : ℕ) → l < b → Linked kind words t l b → ⊥) → a ≡ b
    same_first a b w f g =
        ⊎_elim (λ u. absurd (g a (ltb→lt a b u) w))
        (λ u. ⊎_elim (λ v. v) (λ v. absurd (f b (ltb→lt b a v) (linked-back w))) u)
        (order-cases numbers a b)

    -- Linked rows have the same mark, and no others.
    pub linked-same : (j l : ℕ) → j < n → l < n → Linked kind words t j l → get_or marks j 0 ≡ get_or marks l 0
    linked-same j l h g w =
        let a = label_of j h in
        let b = label_of l g in
        let p = d.some j a.0 h a.1 in
        let q = d.some l b.0 g b.1 in
        let e : a.0 ≡ b.0 = same_first a.0 b.0 (linked_on (linked_on p.1 w) (linked-back q.1)) p.2 q.2 in
        a.1 ∙ ap suc e ∙ sym b.1

    pub same-linked : (j l : ℕ) → j < n → l < n → get_or marks j 0 ≡ get_or marks l 0 → Linked kind words t j l
    same-linked j l h g e =
        let a = label_of j h in
        let p = d.some j a.0 h a.1 in
        let q = d.some l a.0 g (sym e ∙ a.1) in
        linked_on (linked-back p.1) q.1

    -- The first row of a part is marked with one more than itself.
    pub first-marked : (j f : ℕ) → j < n → get_or marks j 0 ≡ suc f → f < n → get_or marks f 0 ≡ suc f
    first-marked j f h e g =
        let p = d.some j f h e in
        linked-same f j g h p.1 ∙ e
