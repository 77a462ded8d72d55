-- The tables after a cell opens or closes.
use Rattle.std.specs.Prelude.{ℕ, ◌≡◌, refl, Bool, true, false, cond, not, List, [], ◌∷◌}
use Rattle.std.proofs.Common.{ap, ◌∙◌}
use Rattle.component.specs.Order.{same, below}
use Rattle.component.specs.declared.Cell.{Cell}
use Rattle.component.specs.Adjacent.{has_room}
use Rattle.model.specs.Lists.{has, each, add, without, keys, put, drop_key, change}
use Rattle.model.specs.Cells.{offsets_of, touch_at}
use Rattle.model.specs.Masks.{mask_of, masked}
use Rattle.model.proofs.Laws.Tests.{T_false, same_test}
use Rattle.model.proofs.Laws.Orders.{Ordered, cells}
use Rattle.model.proofs.Laws.Members.{keep-each, each-each, each_same}
use Rattle.model.proofs.Laws.Kinds.{kind-touching}
use Rattle.model.specs.Places.{slot}
use Rattle.model.proofs.Laws.Slots.{joined, left, masked-add, masked-without}
use Rattle.layout.specs.Rows.{neighbour_of, id_row, net_row}
use Rattle.map.specs.Told.{revised_mask, revised, of_kind, told}
use Rattle.map.specs.Laws.Each.{change-each}
use Rattle.map.specs.Laws.Near.{told-cell}

-- What the mask of d becomes when c joins or leaves.
abbrev pub rule_of : ℕ → Bool → Cell → Cell → ℕ → ℕ
rule_of kind true c d m = joined (offsets_of kind) c d m
rule_of kind false c d m = left (offsets_of kind) c d m

rule-is : (kind : ℕ) (joins : Bool) (c d : Cell) (m : ℕ) → cond (touch_at kind d c) (revised_mask joins (slot d c) m) m ≡ rule_of kind joins c d m
unfolding revised_mask touch_at
rule-is kind true c d m = refl
rule-is kind false c d m = refl

-- The word of a row that is revised or not.
word-is : (joins b : Bool) (w m : ℕ) → cond b (revised joins w (m ∷ [])) (m ∷ []) ≡ cond b (revised_mask joins w m) m ∷ []
unfolding revised
word-is joins true w m = refl
word-is joins false w m = refl

-- The masks once c has joined those of its neighbours, or left them.
pub masks-told : (kind : ℕ) (joins : Bool) (c : Cell) → has_room 1 c ≡ true → (t : List (Cell × ℕ)) → change (told (of_kind kind) joins (neighbour_of c) 26) (each id_row t) ≡ each id_row (change (rule_of kind joins c) t)
masks-told kind joins c room t = change-each (λ d m. m ∷ []) (told (of_kind kind) joins (neighbour_of c) 26) (rule_of kind joins c) t (λ p q. one p.0 p.1)
  where
    turned : (d : Cell) → touch_at kind c d ≡ touch_at kind d c
    turned d = same_test (touch_at kind c d) (touch_at kind d c) ((kind-touching kind).flip c d) ((kind-touching kind).flip d c)

    one : (d : Cell) (m : ℕ) → told (of_kind kind) joins (neighbour_of c) 26 d (m ∷ []) ≡ rule_of kind joins c d m ∷ []
    one d m =
        told-cell kind c room joins d (m ∷ [])
        ∙ word-is joins (touch_at kind c d) (slot d c) m
        ∙ ap (λ (b : Bool). cond b (revised_mask joins (slot d c) m) m ∷ []) (turned d)
        ∙ ap (λ (n : ℕ). n ∷ []) (rule-is kind joins c d m)

-- All masks of some cells once c has joined them, and once it has left.
pub masks-joined : (kind : ℕ) (l : List Cell) (c : Cell) → masked (touch_at kind) (add below c l) ≡ put below c (mask_of (touch_at kind) l c) (change (rule_of kind true c) (masked (touch_at kind) l))
unfolding touch_at
masks-joined kind l c = masked-add (offsets_of kind) l c

pub masks-left : (kind : ℕ) (l : List Cell) (c : Cell) → masked (touch_at kind) (without same c l) ≡ change (rule_of kind false c) (drop_key same c (masked (touch_at kind) l))
unfolding touch_at
masks-left kind l c = masked-without (offsets_of kind) l c

module _ {eq lt : Cell → Cell → Bool} (laws : Ordered eq lt) (c : Cell) where
  -- A cell that is put into a net list is added.
  net-put : (l : List Cell) → put lt c [] (each net_row l) ≡ each net_row (add lt c l)
  net-put [] = refl
  net-put (x ∷ l) = go (lt c x) (lt x c) refl refl (net-put l)
    where
      go : (a b : Bool) → lt c x ≡ a → lt x c ≡ b → put lt c [] (each net_row l) ≡ each net_row (add lt c l)
          → cond a ((c, []) ∷ (x, []) ∷ each net_row l) (cond b ((x, []) ∷ put lt c [] (each net_row l)) ((c, []) ∷ each net_row l))
          ≡ each net_row (cond a (c ∷ x ∷ l) (cond b (x ∷ add lt c l) (x ∷ l)))
      go true b d e h = refl
      go false true d e h = ap (λ (k : List (Cell × List ℕ)). (x, []) ∷ k) h
      go false false d e h = ap (λ (y : Cell). net_row y ∷ each net_row l) (laws.tri c x (T_false d) (T_false e))

-- The keys of the rows of a net list are its cells.
pub net-keys : (l : List Cell) → keys (each net_row l) ≡ l
net-keys l = each-each (λ (p : Cell × List ℕ). p.0) net_row l ∙ each_same (λ c. c) l (λ a m. refl)

-- Both net lists after a cell leaves the one or joins the other.
module _ (c : Cell) (from to : List Cell) where
  pub net-left : (u : List (Cell × List ℕ)) → u ≡ each net_row from → drop_key same c u ≡ each net_row (without same c from)
  net-left u e = ap (drop_key same c) e ∙ keep-each net_row (λ (p : Cell × List ℕ). not (same c p.0)) from

  pub net-joined : (u v : List (Cell × List ℕ)) → u ≡ each net_row from → v ≡ each net_row to
      → cond (has same (keys u) c) v (put below c [] v) ≡ each net_row (cond (has same from c) to (add below c to))
  net-joined u v e f =
      (λ i. cond (has same ((ap keys e ∙ net-keys from) i) c) (f i) (put below c [] (f i)))
      ∙ go (has same from c)
    where
      go : (b : Bool) → cond b (each net_row to) (put below c [] (each net_row to)) ≡ each net_row (cond b to (add below c to))
      go true = refl
      go false = net-put cells c to
