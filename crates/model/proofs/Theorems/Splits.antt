-- Rule 3: which piece keeps the id of a group that falls into pieces, and which ids the others take.
use Rattle.std.specs.Prelude.{ℕ, ◌+◌, ◌<◌, ◌≡◌, ◌⊎◌, ◌↔◌, Bool, T, length}
use Rattle.std.proofs.Common.{sym, ◌∙◌, ap, subst}
use mathlib.Core.List.{List, ◌∷◌, Memᴰ as Mem}
use Rattle.model.specs.Facts.{Asc, At}
use Rattle.model.specs.Lists.{run, keys}
use Rattle.model.specs.Cells.{Cell, same, below}
use Rattle.model.specs.Groups.{Groups, members, parts, smaller, largest_piece, take_next, split, split_into}
use Rattle.model.proofs.Laws.Sorted.{sort-out}
use Rattle.model.proofs.Laws.Tables.{at_once}
use Rattle.model.proofs.Laws.Keys.{members-asc}
use Rattle.model.proofs.Laws.Pairs.{Pairs, pairs-nth, Nth, nth-mem, sort-stable}
use Rattle.model.proofs.Laws.Takes.{Apart, takes-next, takes-other, nth-takes, nth-takes-only}
use Rattle.model.proofs.Laws.Fine.{Fine, members-out}
use Rattle.model.proofs.Laws.Pieces.{takers, takers-out, takers-or, largest-of}
use Rattle.model.proofs.Laws.PieceOrder.{Least, LeastBelow, pieces-sub, pieces-apart, pieces-least, others-pairs, largest-pairs, largest-first, takers-apart, parts-least}
use Rattle.model.proofs.Laws.Split.{in-largest}

module _ (touch : Cell → Cell → Bool) (s : Groups) (g : ℕ) (p : List Cell) (ps : List (List Cell)) (is : parts touch (members s.ids g) ≡ p ∷ ps) where
  split-is : split touch s g ≡ run (take_next touch) s (takers touch p ps)
  split-is = ap (split_into touch s) is

  all_apart : Pairs Apart (p ∷ ps)
  all_apart = subst (Pairs Apart) is (pieces-apart touch (length (members s.ids g)) (members s.ids g))

  in_group : {q : List Cell} {a : Cell} → Mem q (p ∷ ps) → Mem a q → Mem a (members s.ids g)
  in_group {q} m k = pieces-sub touch (length (members s.ids g)) (members s.ids g) (subst (λ l. Mem q l) (sym is) m) k

  module _ (asc : Asc below (keys s.ids)) where
    by-least : Pairs LeastBelow (p ∷ ps)
    by-least = subst (Pairs LeastBelow) is (pieces-least touch (length (members s.ids g)) (members s.ids g) (members-asc s.ids g asc))

    -- Each piece has a least cell, and it is the piece's first.
    pub piece-least : {q : List Cell} → Mem q (p ∷ ps) → (c : Cell) × (m : List Cell) × (q ≡ c ∷ m) × Least q c
    piece-least {q} m = parts-least touch (members s.ids g) (members-asc s.ids g asc) (subst (λ l. Mem q l) (sym is) m)

    -- Each other piece has fewer cells than the one that keeps the id, or as many and a higher least cell.
    pub largest-of-equals : {q : List Cell} → Mem q (largest_piece touch p ps).1 →
        (length q < length (largest_piece touch p ps).0) ⊎ ((length q ≡ length (largest_piece touch p ps).0) × LeastBelow (largest_piece touch p ps).0 q)
    largest-of-equals m = largest-first touch p ps by-least m

    -- Of two pieces that take new ids, the one that takes the lower id has fewer cells, or as many and a lower least cell.
    pub new-ids-in-order : {q r : List Cell} {i j : ℕ} → Nth q (takers touch p ps) i → Nth r (takers touch p ps) j → i < j →
        (length q < length r) ⊎ ((length q ≡ length r) × LeastBelow q r)
    new-ids-in-order m n h = pairs-nth (sort-stable length LeastBelow (largest_piece touch p ps).1 (others-pairs touch p ps by-least)) m n h

  -- Each piece keeps the id or takes a new one.
  pub keeps-or-takes : {q : List Cell} → Mem q (p ∷ ps) → (q ≡ (largest_piece touch p ps).0) ⊎ Mem q (takers touch p ps)
  keeps-or-takes m = takers-or touch p ps m

  -- A split takes one new id for each piece but the one that keeps the id.
  pub split-next : (split touch s g).next ≡ s.next + length (takers touch p ps)
  split-next = ap (λ (t : Groups). t.next) split-is ∙ takes-next touch (takers touch p ps) s

  module _ (flip : (a b : Cell) → T (touch a b) → T (touch b a)) (gs : List ℕ) (ok : Fine touch (g ∷ gs) s) where
    -- The cells that keep the id of a group that is split are exactly those of its largest piece.
    pub largest-keeps : (a : Cell) → At same (split touch s g).ids a g ↔ Mem a (largest_piece touch p ps).0
    largest-keeps a = (
      (λ q. in-largest touch flip s g gs ok p ps is (subst (λ (t : Groups). At same t.ids a g) split-is q)),
      (λ m. subst (λ (t : Groups). At same t.ids a g) (sym split-is)
          (takes-other touch (takers touch p ps) s (members-out s.ids g ok.fair (in_group (largest-of touch p ps) m))
          (λ q k j. largest-pairs touch (λ x y f b i l. f b l i) p ps all_apart (sort-out (smaller touch) (largest_piece touch p ps).1 k) a m j))),
    )

    -- The cells that have the k-th new id are exactly those of the k-th piece that takes one.
    pub new-ids : {q : List Cell} {k : ℕ} → Nth q (takers touch p ps) k → (a : Cell) → At same (split touch s g).ids a (s.next + k) ↔ Mem a q
    new-ids {q} {k} n a = (
      (λ r. nth-takes-only touch s n (λ b h d. ok.under d) (subst (λ (t : Groups). At same t.ids a (s.next + k)) split-is r)),
      (λ m. subst (λ (t : Groups). At same t.ids a (s.next + k)) (sym split-is)
          (nth-takes touch s n (takers-apart touch p ps all_apart) (g, members-out s.ids g ok.fair (in_group (takers-out touch p ps (nth-mem n)) m)) m)),
    )

    -- A split changes the id of no cell of another group.
    pub split-elsewhere : {a : Cell} {h : ℕ} → At same s.ids a h → (h ≡ g → ⊥) → At same (split touch s g).ids a h
    split-elsewhere {a} {h} r n =
        subst (λ (t : Groups). At same t.ids a h) (sym split-is)
        (takes-other touch (takers touch p ps) s r (λ q m k. n (at_once r (members-out s.ids g ok.fair (in_group (takers-out touch p ps m) k)))))
