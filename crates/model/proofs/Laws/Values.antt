-- The values of a table, as a set, and its rows after each operation.
use Rattle.std.specs.Prelude.{◌≡◌, ◌⊎◌, Bool, not}
use Rattle.std.proofs.Common.{sym, ap, subst, inl, inr, ⊎_elim}
use mathlib.Core.List.{List, Memᴰ as Mem}
use Rattle.model.specs.Lists.{keys, values, put, drop_key}
use Rattle.model.proofs.Laws.Orders.{Ordered, differ}
use Rattle.model.proofs.Laws.Members.{keep-in, keep_out, each_in, each-out, key_in}
use Rattle.model.specs.Facts.{Asc, At, Free}
use Rattle.model.proofs.Laws.Tables.{at_mem, key-free, put-out, put_self, put_in, asc-one-row}

module _ {K W : Type 0} where
  -- The value of a row is a value.
  pub value_in : {q : K × W} {t : List (K × W)} → Mem q t → Mem q.1 (values t)
  value_in m = each_in (λ (p : K × W). p.1) m

  -- A value is the value of a row.
  pub value_row : {v : W} (t : List (K × W)) → Mem v (values t) → (q : K × W) × Mem q t × (v ≡ q.1)
  value_row t m = each-out (λ (p : K × W). p.1) t m

  -- A value stands in a row beside some key.
  pub value_out : {v : W} (t : List (K × W)) → Mem v (values t) → (k : K) × Mem (k, v) t
  value_out {v} t m =
      let r : (p : K × W) × Mem p t × (v ≡ p.1) = value_row t m in
      (r.0.0, subst (λ w. Mem (r.0.0, w) t) (sym r.2) r.1)

module _ {K W : Type 0} {eq lt : K → K → Bool} (laws : Ordered eq lt) (t : List (K × W)) (k : K) where
  -- A value after one is put is that one or an old one.
  pub value-put-out : (v : W) {w : W} → Mem w (values (put lt k v t)) → (w ≡ v) ⊎ Mem w (values t)
  value-put-out v {w} m =
      let r : (j : K) × Mem (j, w) (put lt k v t) = value_out (put lt k v t) m in
      ⊎_elim (λ e. inl (ap (λ (p : K × W). p.1) e)) (λ j. inr (value_in j)) (put-out laws t k v r.1)

  -- The value that is put is a value.
  pub value-put-self : (v : W) → Mem v (values (put lt k v t))
  value-put-self v = value_in (put_self laws t k v)

  -- At a free key no value is lost.
  pub value-put-in : (v : W) {w : W} → Free eq t k → Mem w (values t) → Mem w (values (put lt k v t))
  value-put-in v {w} n m =
      let r : (j : K) × Mem (j, w) t = value_out t m in
      value_in (put_in laws t k v (λ e. key-free laws t n (subst (λ j. Mem j (keys t)) e (key_in r.1))) r.1)

  -- A value after a key is dropped is an old one.
  pub value-drop-out : {w : W} → Mem w (values (drop_key eq k t)) → Mem w (values t)
  value-drop-out {w} m =
      let r : (j : K) × Mem (j, w) (drop_key eq k t) = value_out (drop_key eq k t) m in
      value_in (keep_out (λ (p : K × W). not (eq k p.0)) t r.1).0

  -- Only the value of the dropped key is lost.
  pub value-drop-in : {v w : W} → Asc lt (keys t) → At eq t k v → Mem w (values t) → (w ≡ v → ⊥) → Mem w (values (drop_key eq k t))
  value-drop-in {v} {w} s p m n =
      let r : (j : K) × Mem (j, w) t = value_out t m in
      value_in (keep-in (λ (q : K × W). not (eq k q.0)) r.1
      (differ laws (λ e. n (asc-one-row laws t s (subst (λ j. Mem (j, w) t) (sym e) r.1) (at_mem laws t p)))))
