-- A table that is written and read again, and words that are read and written again.
use Prim.Native.Nat.{ℕ, zero, suc, ◌+◌, ◌-◌, ◌*◌, ◌≤◌}
use Rattle.std.proofs.Common.{mul-suc, mul-zero, arith, sym, ◌∙◌, eqb→eq, le→leb, length-append, length-drop, take_at, drop_at}
use Rattle.std.specs.Prelude.{◌≡◌, ◌&&◌, eqb, drop}
use Rattle.std.proofs.Math.Path.{refl, ap}
use Rattle.std.proofs.Math.Bool.{Bool, true, and-true}
use mathlib.Core.List.{List, [], ◌∷◌, ◌++◌, append_assoc}
use Rattle.std.proofs.Math.Dec.{T, leb, leb→le}
use Rattle.std.proofs.Math.ListN.{length, take, replicate, take-append-drop}
use Rattle.std.proofs.lemmas.List.{length-replicate}
use Rattle.std.proofs.Math.Seq.{length-take-le}
use Rattle.model.specs.Facts.{Asc}
use Rattle.model.specs.Lists.{is_ascending, gather, keys}
use Rattle.model.proofs.Laws.Tests.{and-fst, and-snd, T_true, true_of}
use Rattle.model.proofs.Laws.Sorted.{is_ascending-out}
use Rattle.table.specs.Rows.{Kind, are_zero, entry_of, row_of, table_of, image_of, are_wide, is_table_of}
use Rattle.table.specs.Laws.Kinds.{Lawful}
use Rattle.table.specs.Laws.Words.{words-all}

-- Words that are all zero are so many zeros.
pub zeros-are : (l : List ℕ) → T (are_zero l) → l ≡ replicate (length l) 0
zeros-are [] t = refl
zeros-are (x ∷ l) t = λ i. sym (eqb→eq 0 x (and-fst (eqb 0 x) (are_zero l) t)) i ∷ zeros-are l (and-snd (eqb 0 x) (are_zero l) t) i

-- So many zeros are all zero.
pub are-zeros : (m : ℕ) → are_zero (replicate m 0) ≡ true
are-zeros zero = refl
are-zeros (suc m) = are-zeros m

module _ {K : Type 0} (kind : Kind K) where
  -- What is known of words that are a table's.
  pub record Facts (w n : ℕ) (s : List ℕ) : Type 0 where
    pub wide : kind.size ≤ w
    pub fits : w * n ≤ length s
    pub asc : Asc kind.less (keys (table_of kind w n s))
    pub zeros : drop (w * n) s ≡ replicate (length s - w * n) 0

  -- What the test of a table shows.
  pub table-facts : (w n : ℕ) (s : List ℕ) → is_table_of kind w n s ≡ true → Facts w n s
  unfolding is_table_of
  table-facts w n s e =
      let c : Bool = is_ascending kind.less (keys (table_of kind w n s)) in
      let d : Bool = are_zero (drop (w * n) s) in
      let t : T (leb kind.size w && (leb (w * n) (length s) && (c && d))) = T_true e in
      let u : T (leb (w * n) (length s) && (c && d)) = and-snd (leb kind.size w) (leb (w * n) (length s) && (c && d)) t in
      let v : T (c && d) = and-snd (leb (w * n) (length s)) (c && d) u in
      record {
        wide = leb→le kind.size w (and-fst (leb kind.size w) (leb (w * n) (length s) && (c && d)) t);
        fits = leb→le (w * n) (length s) (and-fst (leb (w * n) (length s)) (c && d) u);
        asc = is_ascending-out (keys (table_of kind w n s)) (and-fst c d v);
        zeros = zeros-are (drop (w * n) s) (and-snd c d v) ∙ ap (λ (m : ℕ). replicate m 0) (length-drop (w * n) s);
      }

  module _ (laws : Lawful kind) where
    -- Words that are a table's are the words of that table.
    pub image-of-table : (w n : ℕ) (s : List ℕ) → is_table_of kind w n s ≡ true → image_of kind (length s) (table_of kind w n s) ≡ s
    unfolding image_of
    image-of-table w n s e =
        let f = table-facts w n s e in
        let l : length (take (w * n) s) ≡ w * n = length-take-le (w * n) s f.fits in
        ap (λ (r : List ℕ). r ++ replicate (length s - length r) 0) (words-all kind w laws f.wide n s f.fits)
        ∙ ap (λ (m : ℕ). take (w * n) s ++ replicate (length s - m) 0) l
        ∙ ap (λ (r : List ℕ). take (w * n) s ++ r) (sym f.zeros)
        ∙ take-append-drop (w * n) s

    module _ (w : ℕ) where
      abbrev first-wide : K × List ℕ → Bool
      first-wide p = eqb (kind.size + length p.1) w

      row-length : (p : K × List ℕ) (t : List (K × List ℕ)) → are_wide kind w (p ∷ t) ≡ true → length (row_of kind p) ≡ w
      row-length p t e =
          length-append (kind.write p.0) p.1
          ∙ ap (λ (m : ℕ). m + length p.1) (laws.long p.0)
          ∙ eqb→eq (kind.size + length p.1) w (and-fst (first-wide p) (are_wide kind w t) (T_true e))

      rest-wide : (p : K × List ℕ) (t : List (K × List ℕ)) → are_wide kind w (p ∷ t) ≡ true → are_wide kind w t ≡ true
      rest-wide p t e = true_of (are_wide kind w t) (and-snd (first-wide p) (are_wide kind w t) (T_true e))

      -- The words of n rows of width w are w * n.
      pub words-length : (t : List (K × List ℕ)) → are_wide kind w t ≡ true → length (gather (row_of kind) t) ≡ w * length t
      words-length [] e = sym (mul-zero w)
      words-length (p ∷ t) e =
          length-append (row_of kind p) (gather (row_of kind) t)
          ∙ omega (arith, row-length p t e, words-length t (rest-wide p t e), mul-suc w (length t))

      -- The image of a table that fits has the length asked for.
      pub image-length : (len : ℕ) (t : List (K × List ℕ)) → are_wide kind w t ≡ true → w * length t ≤ len → length (image_of kind len t) ≡ len
      unfolding image_of
      image-length len t e h =
          let l = words-length t e in
          simp (length-append, length-replicate) (omega arith)

      entry_row : (p : K × List ℕ) → entry_of kind (row_of kind p) ≡ p
      entry_row p = λ i. (laws.reads p.0 p.1 i, drop_at (kind.write p.0) p.1 kind.size (laws.long p.0) i)

      read-words : (t : List (K × List ℕ)) (z : List ℕ) → are_wide kind w t ≡ true → table_of kind w (length t) (gather (row_of kind) t ++ z) ≡ t
      unfolding table_of
      read-words [] z e = refl
      read-words (p ∷ t) z e =
          let r : List ℕ = row_of kind p in
          let u : List ℕ = gather (row_of kind) t ++ z in
          let a : (r ++ gather (row_of kind) t) ++ z ≡ r ++ u = append_assoc r (gather (row_of kind) t) z in
          ap (λ (l : List ℕ). entry_of kind (take w l) ∷ table_of kind w (length t) (drop w l)) a
          ∙ (λ i. entry_of kind (take_at r u w (row-length p t e) i) ∷ table_of kind w (length t) (drop_at r u w (row-length p t e) i))
          ∙ (λ i. entry_row p i ∷ read-words t z (rest-wide p t e) i)

      -- A table that is written is read again.
      pub table-of-image : (len : ℕ) (t : List (K × List ℕ)) → are_wide kind w t ≡ true → table_of kind w (length t) (image_of kind len t) ≡ t
      unfolding image_of
      table-of-image len t e = read-words t (replicate (len - length (gather (row_of kind) t)) 0) e

      -- The image has the words of all rows.
      pub image-fits : (len : ℕ) (t : List (K × List ℕ)) → are_wide kind w t ≡ true → w * length t ≤ length (image_of kind len t)
      unfolding image_of
      image-fits len t e =
          let l = words-length t e in
          simp (length-append) (omega arith)

      image-zeros : (len : ℕ) (t : List (K × List ℕ)) → are_wide kind w t ≡ true → are_zero (drop (w * length t) (image_of kind len t)) ≡ true
      unfolding image_of
      image-zeros len t e =
          ap are_zero (drop_at (gather (row_of kind) t) (replicate (len - length (gather (row_of kind) t)) 0) (w * length t) (words-length t e))
          ∙ are-zeros (len - length (gather (row_of kind) t))

      -- The image of rows of one width is a table's exactly if the keys ascend.
      pub image-is-table : (len : ℕ) (t : List (K × List ℕ)) → kind.size ≤ w → are_wide kind w t ≡ true
          → is_table_of kind w (length t) (image_of kind len t) ≡ is_ascending kind.less (keys t)
      unfolding is_table_of
      image-is-table len t h e =
          let m : ℕ = w * length t in
          let s : List ℕ = image_of kind len t in
          let a : leb kind.size w ≡ true = true_of (leb kind.size w) (le→leb kind.size w h) in
          let b : leb m (length s) ≡ true = true_of (leb m (length s)) (le→leb m (length s) (image-fits len t e)) in
          let c : keys (table_of kind w (length t) s) ≡ keys t = ap keys (table-of-image len t e) in
          (λ i. a i && (b i && (is_ascending kind.less (c i) && image-zeros len t e i)))
          ∙ and-true (is_ascending kind.less (keys t))
