-- The image of a table in a longer slice is the image with more zeros.
use Rattle.std.specs.Prelude.{ℕ, zero, suc, ◌+◌, ◌-◌, ◌≤◌, ◌≡◌, List, ◌++◌, length, take, drop, replicate}
use Rattle.std.proofs.Common.{arith, sym, ap, ◌∙◌, append_assoc, length-append, take_at}
use Rattle.std.proofs.lemmas.List.{length-replicate, replicate-append-replicate}
use Rattle.model.specs.Lists.{gather, each}
use Rattle.table.specs.Rows.{Kind, number, cell, row_of, image_of}
use Rattle.table.specs.Moves.{over}
use Rattle.layout.specs.Rows.{entity_row, net_row, id_row, group_row, entities_image, cells_image, net_image, ids_image, groups_image}
use Rattle.writing.specs.Laws.Writing.{over-front}

-- What is asked of an image: with more words it has more zeros.
pub record Extends {A : Type 0} (image : ℕ → List A → List ℕ) : Type 0 where
  pub more : (len k : ℕ) (t : List A) → length (image len t) ≡ len → image len t ++ replicate k 0 ≡ image (len + k) t

-- Zeros behind some words and zeros up to a length.
zeros-more : (r : List ℕ) (len k : ℕ) → length (r ++ replicate (len - length r) 0) ≡ len → (r ++ replicate (len - length r) 0) ++ replicate k 0 ≡ r ++ replicate (len + k - length r) 0
zeros-more r len k e =
    let h : length r + (len - length r) ≡ len = omega (arith, e, length-append r (replicate (len - length r) 0), length-replicate {A = ℕ} (len - length r) 0) in
    let f : len - length r + k ≡ len + k - length r = omega arith in
    append_assoc r (replicate (len - length r) 0) (replicate k 0)
    ∙ ap (λ (l : List ℕ). r ++ l) (replicate-append-replicate (len - length r) k 0)
    ∙ ap (λ (m : ℕ). r ++ replicate m 0) f

image-more : {K : Type 0} (kind : Kind K) (len k : ℕ) (t : List (K × List ℕ)) → length (image_of kind len t) ≡ len → image_of kind len t ++ replicate k 0 ≡ image_of kind (len + k) t
unfolding image_of
image-more kind len k t e = zeros-more (gather (row_of kind) t) len k e

pub entities-extend : Extends entities_image
unfolding entities_image
entities-extend = record { more = λ len k t e. image-more number len k (each entity_row t) e }

pub cells-extend : Extends cells_image
unfolding cells_image
cells-extend = record { more = λ len k t e. image-more cell len k (each id_row t) e }

pub net-extend : Extends net_image
unfolding net_image
net-extend = record { more = λ len k t e. image-more cell len k (each net_row t) e }

pub ids-extend : Extends ids_image
unfolding ids_image
ids-extend = record { more = λ len k t e. image-more cell len k (each id_row t) e }

pub groups-extend : Extends groups_image
unfolding groups_image
groups-extend = record { more = λ len k t e. image-more number len k (each group_row t) e }

-- Zeros behind some zeros.
drop-zeros : (n m : ℕ) → drop n (replicate {A = ℕ} m 0) ≡ replicate (m - n) 0
drop-zeros zero m = let e : m ≡ m - 0 = omega arith in ap (λ (j : ℕ). replicate j 0) e
drop-zeros (suc n) zero = let e : 0 ≡ 0 - suc n = omega arith in ap (λ (j : ℕ). replicate j 0) e
drop-zeros (suc n) (suc m) = let e : m - n ≡ suc m - suc n = omega arith in drop-zeros n m ∙ ap (λ (j : ℕ). replicate j 0) e

module _ {A : Type 0} {image : ℕ → List A → List ℕ} (ext : Extends image) (t : List A) (len : ℕ) (long : length (image len t) ≡ len) where
  -- An image that is written over zeros is an image.
  pub loaded : (zeros row : List ℕ) → zeros ≡ replicate (length zeros) 0 → row ≡ image len t → len ≤ length zeros → over zeros 0 row ≡ image (length zeros) t
  loaded zeros row z e h =
      let n : length row ≡ len = ap length e ∙ long in
      let f : len + (length zeros - len) ≡ length zeros = omega arith in
      over-front zeros row
      ∙ (λ i. e i ++ drop (n i) (z i))
      ∙ ap (λ (l : List ℕ). image len t ++ l) (drop-zeros len (length zeros))
      ∙ ext.more len (length zeros - len) t long
      ∙ ap (λ (m : ℕ). image m t) f

  -- The front of an image is an image.
  pub front : (s : List ℕ) → s ≡ image (length s) t → len ≤ length s → take len s ≡ image len t
  front s e h =
      let f : length s ≡ len + (length s - len) = omega arith in
      ap (take len) (e ∙ ap (λ (m : ℕ). image m t) f ∙ sym (ext.more len (length s - len) t long))
      ∙ take_at (image len t) (replicate (length s - len) 0) len long
