-- The ids of a set of cells that touching does not leave, such as a grid: what rule 1 does there does not depend on the other cells.
use Rattle.std.specs.Prelude.{ℕ, suc, ◌≡◌, refl, Bool, true, false, cond, ◌&&◌, not, T, eqb, ltb, length}
use Rattle.std.proofs.Common.{sym, ◌∙◌, ap, ap₂, subst, ⊎_elim, T_not, eqb→eq}
use mathlib.Core.List.Memᴰ.{cases_cons as mem-cons}
use mathlib.Core.List.Memᴰ.{head}
use mathlib.Core.List.Memᴰ.{not-nil as mem-nil}
use mathlib.Core.List.Memᴰ.{tail}
use mathlib.Core.List.{List, [], ◌∷◌, Memᴰ as Mem}
use Rattle.std.proofs.Math.Dec.{not_T}
use Rattle.model.specs.Lists.{keep, has, keys, values, put, only, change}
use Rattle.model.specs.Cells.{Cell, same, below}
use Rattle.model.specs.Groups.{Ids, Groups, members, size, found_at, largest_group, merge, join_found, rule1}
use Rattle.model.specs.Paths.{Path, stop, step}
use Rattle.model.proofs.Laws.Tests.{and-snd, and_both, false_of, same_test}
use Rattle.model.proofs.Laws.Orders.{cells, numbers}
use Rattle.model.proofs.Laws.Members.{keep_out, keep-ext, keep-keep, of-has}
use Rattle.model.specs.Facts.{Asc, At}
use Rattle.model.proofs.Laws.Tables.{put-out, only-put-yes, only-put-no, only-change, change-same}
use Rattle.model.proofs.Laws.Fine.{Fine}
use Rattle.model.proofs.Laws.Join.{found-out}

-- A weaker test before a stronger one changes nothing.
pub keep-sub : {A : Type 0} (t p : A → Bool) (l : List A) → ((q : A) → Mem q l → T (t q) → T (p q)) → keep t (keep p l) ≡ keep t l
keep-sub t p l h = keep-keep t p l ∙ keep-ext (λ q. p q && t q) t l (λ q m. same_test (p q && t q) (t q) (and-snd (p q) (t q)) (λ u. and_both (p q) (t q) (h q m u) u))

-- The largest group does not depend on the cells of other groups.
largest-agree : (i j : Ids) (g : ℕ) (gs : List ℕ) → ((h : ℕ) → Mem h (g ∷ gs) → members i h ≡ members j h) → largest_group i g gs ≡ largest_group j g gs
largest-agree i j g [] e = refl
largest-agree i j g (h ∷ hs) e =
    ap (λ k. largest_group i k hs) (ap₂ (λ a b. cond (ltb (length a) (length b)) h g) (e g (head refl)) (e h (tail (head refl))))
    ∙ largest-agree i j (cond (ltb (size j g) (size j h)) h g) hs (λ k m. e k (inner (ltb (size j g) (size j h)) k m))
  where
    inner : (b : Bool) (k : ℕ) → Mem k (cond b h g ∷ hs) → Mem k (g ∷ h ∷ hs)
    inner true k m = tail m
    inner false k m = ⊎_elim (λ d. head d) (λ j. tail (tail j)) (mem-cons m)

-- The members of a group whose cells are all in the set.
pub members-on : (on : Cell → Bool) (ids : Ids) (h : ℕ) → ((q : Cell × ℕ) → Mem q ids → T (eqb h q.1) → T (on q.0)) → members (only on ids) h ≡ members ids h
members-on on ids h f = ap keys (keep-sub (λ (q : Cell × ℕ). eqb h q.1) (λ (q : Cell × ℕ). on q.0) ids f)

-- The ids of a set of cells.
abbrev pub view : (Cell → Bool) → Groups → Groups
view on s = record { ids = only on s.ids; next = s.next }

module _ (touch : Cell → Cell → Bool) (on : Cell → Bool) (stays : (a b : Cell) → T (touch a b) → T (on a) → T (on b)) where
  -- A path does not leave the set.
  pub path-on : {D : Cell → Type 0} {b a : Cell} → Path touch D a b → T (on a) → T (on b)
  path-on (stop d e) o = subst (λ x. T (on x)) e o
  path-on {D} {b} {a} (step {c = x} d t w) o = path-on w (stays a x t o)

  module _ (s : Groups) (ok : Fine touch [] s) (asc : Asc below (keys s.ids)) (c : Cell) where
    -- A group is in the set or outside it.
    one_side : {a b : Cell} {g : ℕ} → At same s.ids a g → At same s.ids b g → T (on a) → T (on b)
    one_side p q o = path-on (ok.joined p q (λ m. mem-nil m)) o

    module _ (o : T (on c)) where
      -- The groups found at a cell of the set are found on the set.
      found-on : found_at touch (only on s.ids) c ≡ found_at touch s.ids c
      found-on = ap values (keep-sub (λ (p : Cell × ℕ). touch c p.0) (λ (p : Cell × ℕ). on p.0) s.ids (λ q m t. stays c q.0 t o))

      -- The cells of a group found are all in the set.
      found_side : (g : ℕ) (gs : List ℕ) → found_at touch s.ids c ≡ g ∷ gs → (h : ℕ) → Mem h (g ∷ gs) → (q : Cell × ℕ) → Mem q (put below c g s.ids) → T (eqb h q.1) → T (on q.0)
      found_side g gs is h m q k t =
          ⊎_elim (λ e. subst (λ x. T (on x)) (sym (ap (λ (p : Cell × ℕ). p.0) e)) o)
          (λ j.
          let r : (a : Cell) × At same s.ids a h × T (touch c a) = found-out touch s.ids c ok.fair (subst (λ l. Mem h l) (sym is) m) in
          one_side (subst (λ x. At same s.ids r.0 x) (eqb→eq h q.1 t) r.1) (ok.fair q j) (stays c r.0 r.2 o))
          (put-out cells s.ids c g k)

      -- A cell of the set joins the groups found on the set by itself.
      join-on : (l : List ℕ) → found_at touch s.ids c ≡ l → view on (join_found touch s c l) ≡ join_found touch (view on s) c l
      join-on [] is = λ i. record { ids = only-put-yes cells on s.ids c s.next asc o i; next = suc s.next }
      join-on (g ∷ gs) is = λ i. record { ids = same' i; next = s.next }
        where
          ids₁ : Ids
          ids₁ = put below c g s.ids

          put' : only on ids₁ ≡ put below c g (only on s.ids)
          put' = only-put-yes cells on s.ids c g asc o

          big : largest_group ids₁ g gs ≡ largest_group (put below c g (only on s.ids)) g gs
          big = sym (largest-agree (only on ids₁) ids₁ g gs (λ h m. members-on on ids₁ h (found_side g gs is h m))) ∙ ap (λ i. largest_group i g gs) put'

          same' : only on (merge (largest_group ids₁ g gs) (g ∷ gs) ids₁) ≡ merge (largest_group (put below c g (only on s.ids)) g gs) (g ∷ gs) (put below c g (only on s.ids))
          same' =
              only-change on (λ x h. cond (has eqb (g ∷ gs) h) (largest_group ids₁ g gs) h) ids₁
              ∙ ap₂ (λ (w : ℕ) (i : Ids). merge w (g ∷ gs) i) big put'

      -- For a cell of the set, rule 1 does what it does on the set by itself.
      pub rule1-on : view on (rule1 touch s c) ≡ rule1 touch (view on s) c
      rule1-on = join-on (found_at touch s.ids c) refl ∙ ap (λ l. join_found touch (view on s) c l) (sym found-on)

    module _ (flip : (a b : Cell) → T (touch a b) → T (touch b a)) (n : T (not (on c))) where
      -- For another cell, rule 1 changes nothing on the set.
      pub rule1-off : only on (rule1 touch s c).ids ≡ only on s.ids
      rule1-off = go (found_at touch s.ids c) refl
        where
          go : (l : List ℕ) → found_at touch s.ids c ≡ l → only on (join_found touch s c l).ids ≡ only on s.ids
          go [] is = only-put-no cells on s.ids c s.next n
          go (g ∷ gs) is =
              only-change on to ids₁ ∙ ap (change to) (only-put-no cells on s.ids c g n)
              ∙ change-same to (only on s.ids) (λ q m. untouched q (keep_out (λ (x : Cell × ℕ). on x.0) s.ids m))
            where
              ids₁ : Ids
              ids₁ = put below c g s.ids

              to : Cell → ℕ → ℕ
              to x h = cond (has eqb (g ∷ gs) h) (largest_group ids₁ g gs) h

              untouched : (q : Cell × ℕ) → Mem q s.ids × T (on q.0) → to q.0 q.1 ≡ q.1
              untouched q m =
                  ap (λ b. cond b (largest_group ids₁ g gs) q.1)
                  (false_of (has eqb (g ∷ gs) q.1) (not_T (has eqb (g ∷ gs) q.1) (λ t.
                  let r : (a : Cell) × At same s.ids a q.1 × T (touch c a) = found-out touch s.ids c ok.fair (subst (λ l. Mem q.1 l) (sym is) (of-has numbers (g ∷ gs) t)) in
                  T_not (on c) n (stays r.0 c (flip c r.0 r.2) (one_side (ok.fair q m.0) r.1 m.1)))))
