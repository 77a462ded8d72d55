-- What a put or a removal stores is a table again, and is read as that table.
use Prim.Native.Nat.{ℕ, zero, suc, ◌+◌, ◌*◌, ◌≤◌}
use Rattle.std.proofs.Math.Nat.{mul-suc}
use Rattle.std.proofs.Common.{arith, sym, ap, ◌∙◌, subst, ⊎_elim, le→leb}
use Rattle.std.specs.Prelude.{◌≡◌, Bool, true, not, eqb, leb, take, drop}
use mathlib.Core.List.{List, Memᴰ as Mem}
use Rattle.std.proofs.Math.Dec.{T}
use Rattle.std.proofs.Math.ListN.{length, length-drop}
use Rattle.std.proofs.Math.Seq.{length-take-le}
use Rattle.model.specs.Facts.{Asc}
use Rattle.model.specs.Lists.{has, is_ascending, keys, put, drop_key}
use Rattle.model.proofs.Laws.Tests.{and_both, T_true, true_of, eqb_of, or_left, or_right}
use Rattle.model.proofs.Laws.Members.{all-in, all-out, keep_out, has_of}
use Rattle.model.proofs.Laws.Sorted.{is_ascending-in}
use Rattle.model.proofs.Laws.Tables.{put-out, put-asc, drop-asc}
use Rattle.table.specs.Rows.{Kind, table_of, stored_of, are_wide, is_table_of, has_room_of}
use Rattle.table.specs.Laws.Kinds.{Lawful}
use Rattle.table.specs.Laws.Images.{table-facts, table-of-image, image-is-table}

module _ {K : Type 0} (kind : Kind K) (w : ℕ) where
  -- There is room if one more row fits.
  pub room-space : (n : ℕ) (s : List ℕ) (k : K) → w * suc n ≤ length s → has_room_of kind w n s k ≡ true
  unfolding has_room_of
  room-space n s k h =
      true_of (has_room_of kind w n s k) (or_left (leb (w * suc n) (length s)) (has kind.equal (keys (table_of kind w n s)) k) (le→leb (w * suc n) (length s) h))

  abbrev is_wide : K × List ℕ → Bool
  is_wide p = eqb (kind.size + length p.1) w

  -- The rows of a table have its width.
  pub table-wide : (n : ℕ) (s : List ℕ) → kind.size ≤ w → w * n ≤ length s → are_wide kind w (table_of kind w n s) ≡ true
  unfolding table_of
  table-wide n s h k = true_of (are_wide kind w (table_of kind w n s)) (go n s k)
    where
      go : (n : ℕ) (s : List ℕ) → w * n ≤ length s → T (are_wide kind w (table_of kind w n s))
      go zero s k = tt
      go (suc n) s k =
          let q = mul-suc w n in
          let l : length (take w s) ≡ w = length-take-le w s (omega arith) in
          let d = length-drop kind.size (take w s) in
          let e = length-drop w s in
          and_both (eqb (kind.size + length (drop kind.size (take w s))) w) (are_wide kind w (table_of kind w n (drop w s)))
          (eqb_of (kind.size + length (drop kind.size (take w s))) w (omega arith)) (go n (drop w s) (omega arith))

  module _ (laws : Lawful kind) where
    -- There is room if the key is there.
    pub room-there : (n : ℕ) (s : List ℕ) {k : K} → Mem k (keys (table_of kind w n s)) → has_room_of kind w n s k ≡ true
    unfolding has_room_of
    room-there n s {k} m =
        true_of (has_room_of kind w n s k) (or_right (leb (w * suc n) (length s)) (has kind.equal (keys (table_of kind w n s)) k) (has_of laws.order m))

    -- After a put all rows have the width.
    pub put-wide : (t : List (K × List ℕ)) (k : K) (v : List ℕ) → kind.size + length v ≡ w → are_wide kind w t ≡ true → are_wide kind w (put kind.less k v t) ≡ true
    put-wide t k v h e =
        true_of (are_wide kind w (put kind.less k v t))
        (all-in is_wide (put kind.less k v t)
        (λ q m. ⊎_elim (λ f. subst (λ p. T (is_wide p)) (sym f) (eqb_of (kind.size + length v) w h)) (λ j. all-out is_wide t (T_true e) j) (put-out laws.order t k v m)))

    -- After a removal all rows have the width.
    pub drop-wide : (t : List (K × List ℕ)) (k : K) → are_wide kind w t ≡ true → are_wide kind w (drop_key kind.equal k t) ≡ true
    drop-wide t k e =
        true_of (are_wide kind w (drop_key kind.equal k t))
        (all-in is_wide (drop_key kind.equal k t)
        (λ q m. all-out is_wide t (T_true e) (keep_out (λ (p : K × List ℕ). not (kind.equal k p.0)) t m).0))

    -- A table of ascending keys and rows of one width that is stored is a table, and is read as it was.
    pub stored_next : (len r : ℕ) (x : List ℕ) (t : List (K × List ℕ)) → kind.size ≤ w → are_wide kind w t ≡ true → Asc kind.less (keys t)
        → (r, x) ≡ stored_of kind len t → (is_table_of kind w r x ≡ true) × (table_of kind w r x ≡ t)
    stored_next len r x t h e a q = (
      ap (λ (p : ℕ × List ℕ). is_table_of kind w p.0 p.1) q
          ∙ image-is-table kind laws w len t h e
          ∙ true_of (is_ascending kind.less (keys t)) (is_ascending-in a),
      ap (λ (p : ℕ × List ℕ). table_of kind w p.0 p.1) q ∙ table-of-image kind laws w len t e,
    )

    module _ (n : ℕ) (s : List ℕ) (ok : is_table_of kind w n s ≡ true) (len r : ℕ) (x : List ℕ) where
      -- What is stored after a put.
      pub put_next : (k : K) (v : List ℕ) → kind.size + length v ≡ w → (r, x) ≡ stored_of kind len (put kind.less k v (table_of kind w n s))
          → (is_table_of kind w r x ≡ true) × (table_of kind w r x ≡ put kind.less k v (table_of kind w n s))
      put_next k v h q =
          let f = table-facts kind w n s ok in
          stored_next len r x (put kind.less k v (table_of kind w n s)) f.wide
          (put-wide (table_of kind w n s) k v h (table-wide n s f.wide f.fits))
          (put-asc laws.order (table_of kind w n s) k v f.asc) q

      -- What is stored after a removal.
      pub drop-next : (k : K) → (r, x) ≡ stored_of kind len (drop_key kind.equal k (table_of kind w n s))
          → (is_table_of kind w r x ≡ true) × (table_of kind w r x ≡ drop_key kind.equal k (table_of kind w n s))
      drop-next k q =
          let f = table-facts kind w n s ok in
          stored_next len r x (drop_key kind.equal k (table_of kind w n s)) f.wide
          (drop-wide (table_of kind w n s) k (table-wide n s f.wide f.fits))
          (drop-asc laws.order k (table_of kind w n s) f.asc) q
