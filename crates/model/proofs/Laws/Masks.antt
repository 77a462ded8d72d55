-- Masks: each cell's among some cells.
use Rattle.std.specs.Prelude.{◌≡◌, refl, Bool, true, false, cond, ◌&&◌, ◌||◌, T}
use Rattle.std.proofs.Common.{sym, ◌∙◌, ap₂}
use Rattle.std.proofs.Math.Path.{ap}
use mathlib.Core.List.Memᴰ.{head}
use mathlib.Core.List.Memᴰ.{tail}
use mathlib.Core.List.{List, [], ◌∷◌, Memᴰ as Mem}
use Rattle.std.proofs.Math.Option.{none, some}
use Rattle.model.specs.Lists.{keep, has, each, add, keys, get, put, only, change}
use Rattle.model.specs.Cells.{Cell, Offset, offsets26, leads}
use Rattle.model.specs.Masks.{number, leads_to, mask_of, masked}
use Rattle.model.proofs.Laws.Tests.{T_true, T_false, and-fst, same_test}
use Rattle.model.proofs.Laws.Orders.{Ordered}
use Rattle.model.proofs.Laws.Members.{keep-in, keep_out, keep-each, any-in, any_out, each-each, each-ext}

-- A table whose values follow from its keys is made of its keys.
pub rows-of-keys : {K W : Type 0} (f : K → W) (t : List (K × W)) → ((p : K × W) → Mem p t → p.1 ≡ f p.0) → t ≡ each (λ k. (k, f k)) (keys t)
rows-of-keys f [] h = refl
rows-of-keys f (p ∷ t) h = ap₂ (λ v r. (p.0, v) ∷ r) (h p (head refl)) (rows-of-keys f t (λ q m. h q (tail m)))

-- The keys of a table that is made of its keys.
pub keys-made : {K W : Type 0} (f : K → W) (l : List K) → keys (each (λ k. (k, f k)) l) ≡ l
keys-made f [] = refl
keys-made f (k ∷ l) = ap (λ r. k ∷ r) (keys-made f l)

-- The rows of a table that is made of its keys.
pub only-made : {K W : Type 0} (on : K → Bool) (f : K → W) (l : List K) → only on (each (λ k. (k, f k)) l) ≡ each (λ k. (k, f k)) (keep on l)
only-made on f l = keep-each (λ k. (k, f k)) (λ p. on p.0) l

-- What stands under a key of a table that is made of its keys.
pub get-made : {K W : Type 0} {eq lt : K → K → Bool} (laws : Ordered eq lt) (f : K → W) (l : List K) (c : K) → get eq (each (λ k. (k, f k)) l) c ≡ cond (has eq l c) (some (f c)) none
get-made laws f [] c = refl
get-made {K} {W} {eq} {lt} laws f (k ∷ l) c = go (eq c k) refl (get-made laws f l c)
  where
    go : (b : Bool) → eq c k ≡ b → get eq (each (λ k. (k, f k)) l) c ≡ cond (has eq l c) (some (f c)) none
        → cond b (some (f k)) (get eq (each (λ k. (k, f k)) l) c) ≡ cond (b || has eq l c) (some (f c)) none
    go true e r = ap (λ (d : K). some (f d)) (sym (laws.same-eq c k (T_true e)))
    go false e r = r

-- A table that is made of its keys, with one key more.
pub made-add : {K W : Type 0} {eq lt : K → K → Bool} (laws : Ordered eq lt) (f : K → W) (c : K) (l : List K) → each (λ k. (k, f k)) (add lt c l) ≡ put lt c (f c) (each (λ k. (k, f k)) l)
made-add laws f c [] = refl
made-add {K} {W} {eq} {lt} laws f c (x ∷ l) = go (lt c x) (lt x c) refl refl (made-add laws f c l)
  where
    row : K → K × W
    row k = (k, f k)

    go : (s t : Bool) → lt c x ≡ s → lt x c ≡ t → each row (add lt c l) ≡ put lt c (f c) (each row l) →
        each row (cond s (c ∷ x ∷ l) (cond t (x ∷ add lt c l) (x ∷ l))) ≡ cond s (row c ∷ row x ∷ each row l) (cond t (row x ∷ put lt c (f c) (each row l)) (row c ∷ each row l))
    go true t d e r = refl
    go false true d e r = ap (λ k. row x ∷ k) r
    go false false d e r = ap (λ k. row k ∷ each row l) (sym (laws.tri c x (T_false d) (T_false e)))

-- Its values changed by a rule.
pub made-change : {K W : Type 0} (f : K → W) (g : K → W → W) (l : List K) → change g (each (λ k. (k, f k)) l) ≡ each (λ k. (k, g k (f k))) l
made-change {K} {W} f g l = each-each (λ (p : K × W). (p.0, g p.0 p.1)) (λ k. (k, f k)) l

module _ (touch : Cell → Cell → Bool) where
  -- The masked cells are the cells.
  pub keys-masked : (cells : List Cell) → keys (masked touch cells) ≡ cells
  keys-masked cells = keys-made (mask_of touch cells) cells

  -- A mask looks at the touching cells alone.
  pub mask-sub : (on : Cell → Bool) (cells : List Cell) (c : Cell) → ((d : Cell) → Mem d cells → T (touch c d) → T (on d)) → mask_of touch (keep on cells) c ≡ mask_of touch cells c
  unfolding mask_of
  mask-sub on cells c h = ap number (each-ext (leads_to touch (keep on cells) c) (leads_to touch cells c) offsets26 (λ o m. one o))
    where
      one : (o : Offset) → leads_to touch (keep on cells) c o ≡ leads_to touch cells c o
      one o =
          same_test (leads_to touch (keep on cells) c o) (leads_to touch cells c o)
          (λ t. let r = any_out (λ d. touch c d && leads c d o) (keep on cells) t in any-in (λ d. touch c d && leads c d o) (keep_out on cells r.1).0 r.2)
          (λ t. let r = any_out (λ d. touch c d && leads c d o) cells t in any-in (λ d. touch c d && leads c d o) (keep-in on r.1 (h r.0 r.1 (and-fst (touch c r.0) _ r.2))) r.2)

  -- The masks of a set of cells that touching does not leave.
  pub masked_on : (on : Cell → Bool) → ((c d : Cell) → T (touch c d) → T (on c) → T (on d)) → (cells : List Cell) → only on (masked touch cells) ≡ masked touch (keep on cells)
  masked_on on stays cells =
      only-made on (mask_of touch cells) cells
      ∙ each-ext (λ c. (c, mask_of touch cells c)) (λ c. (c, mask_of touch (keep on cells) c)) (keep on cells)
      (λ c m. ap (λ n. (c, n)) (sym (mask-sub on cells c (λ d k t. stays c d t (keep_out on cells m).1))))
