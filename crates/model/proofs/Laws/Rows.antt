-- The rows of a table that pass a test of key and value.
use Rattle.std.specs.Prelude.{◌≡◌, Bool, true, false, cond, not, T}
use Rattle.std.proofs.Common.{sym, ◌∙◌, subst, ⊎_elim, T_not}
use mathlib.Core.List.{List, [], ◌∷◌, Memᴰ as Mem}
use Rattle.model.specs.Facts.{Asc, cons, At, Free}
use Rattle.model.specs.Lists.{keep, keys, put, drop_key}
use Rattle.model.proofs.Laws.Orders.{Ordered, differ}
use Rattle.model.proofs.Laws.Members.{keep-in, keep_out, keep_all, keep-swap, key_in, key-out}
use Rattle.model.proofs.Laws.Sorted.{asc-head, asc-tail}
use Rattle.model.proofs.Laws.Tables.{at_mem, key-free, put-out, put_self, put_in, put-asc, mem-put-out, asc-one-row, table-equal}

module _ {K W : Type 0} {eq lt : K → K → Bool} (laws : Ordered eq lt) (p : K × W → Bool) where
  -- The keys of the rows that pass are ascending.
  pub rows-asc : (t : List (K × W)) → Asc lt (keys t) → Asc lt (keys (keep p t))
  rows-asc [] s = s
  rows-asc (q ∷ t) s = go (p q) (rows-asc t (asc-tail s))
    where
      go : (b : Bool) → Asc lt (keys (keep p t)) → Asc lt (keys (cond b (q ∷ keep p t) (keep p t)))
      go true r = cons (λ b m. let k = key-out (keep p t) m in subst (λ c. T (lt q.0 c)) (sym k.2) (asc-head s k.0.0 (key_in (keep_out p t k.1).0))) r
      go false r = r

  module _ (t : List (K × W)) (s : Asc lt (keys t)) (k : K) (v : W) where
    -- A row that passes is put in before or after the test.
    pub rows-put-yes : T (p (k, v)) → keep p (put lt k v t) ≡ put lt k v (keep p t)
    rows-put-yes u =
        table-equal laws _ _ (rows-asc (put lt k v t) (put-asc laws t k v s)) (put-asc laws (keep p t) k v (rows-asc t s))
        (λ q m. let r : Mem q (put lt k v t) × T (p q) = keep_out p (put lt k v t) m in
        ⊎_elim (λ e. subst (λ x. Mem x (put lt k v (keep p t))) (sym e) (put_self laws (keep p t) k v))
        (λ j. put_in laws (keep p t) k v j.1 (keep-in p j.0 r.1)) (mem-put-out laws t k v s r.0))
        (λ q m. ⊎_elim (λ e. subst (λ x. Mem x (keep p (put lt k v t))) (sym e) (keep-in p (put_self laws t k v) u))
        (λ j. let r : Mem q t × T (p q) = keep_out p t j.0 in keep-in p (put_in laws t k v j.1 r.0) r.1) (mem-put-out laws (keep p t) k v (rows-asc t s) m))

    -- A row that fails, put in under a free key, changes nothing of what passes.
    pub rows-put-no : Free eq t k → T (not (p (k, v))) → keep p (put lt k v t) ≡ keep p t
    rows-put-no free n =
        table-equal laws _ _ (rows-asc (put lt k v t) (put-asc laws t k v s)) (rows-asc t s)
        (λ q m. let r : Mem q (put lt k v t) × T (p q) = keep_out p (put lt k v t) m in
        ⊎_elim (λ e. absurd (T_not (p (k, v)) n (subst (λ x. T (p x)) e r.1))) (λ j. keep-in p j r.1) (put-out laws t k v r.0))
        (λ q m. let r : Mem q t × T (p q) = keep_out p t m in
        keep-in p (put_in laws t k v (λ e. key-free laws t free (subst (λ x. Mem x (keys t)) e (key_in r.0))) r.0) r.1)

    -- To leave out a row that fails changes nothing of what passes.
    pub rows-drop-no : At eq t k v → T (not (p (k, v))) → keep p (drop_key eq k t) ≡ keep p t
    rows-drop-no d n =
        keep-swap p (λ (q : K × W). not (eq k q.0)) t
        ∙ keep_all (λ (q : K × W). not (eq k q.0)) (keep p t) (λ q m.
        let r : Mem q t × T (p q) = keep_out p t m in
        differ laws (λ e. T_not (p (k, v)) n
        (subst (λ w. T (p (k, w))) (asc-one-row laws t s (subst (λ x. Mem (x, q.1) t) (sym e) r.0) (at_mem laws t d))
        (subst (λ x. T (p (x, q.1))) (sym e) r.1))))
