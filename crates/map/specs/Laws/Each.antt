-- Rows of words for the rows of a table: what is done to the one is done to the other.
use Rattle.std.specs.Prelude.{ℕ, ◌*◌, ◌≤◌, ◌≡◌, refl, Bool, true, false, cond, not, length}
use Rattle.std.proofs.Common.{sym, ap, ◌∙◌}
use mathlib.Core.List.{List, [], ◌∷◌, Memᴰ as Mem}
use Rattle.std.proofs.Math.Option.{Option, none, some}
use Rattle.model.specs.Facts.{Asc}
use Rattle.model.specs.Lists.{each, keys, get, put, drop_key, change, is_ascending}
use Rattle.model.proofs.Laws.Tests.{true_of}
use Rattle.model.proofs.Laws.Members.{keep-each, each-each, each-ext}
use Rattle.model.proofs.Laws.Sorted.{is_ascending-in}
use Rattle.table.specs.Rows.{Kind, table_of, image_of, are_wide, is_table_of}
use Rattle.table.specs.Laws.Kinds.{Lawful}
use Rattle.table.specs.Laws.Words.{table-length}
use Rattle.table.specs.Laws.Images.{table-facts, image-is-table, table-of-image, image-of-table}
use Rattle.map.specs.Told.{TableIs}

module _ {K U W : Type 0} (g : K → U → W) where
  -- The row for a row: the same key, and what g makes of key and value.
  abbrev pub row_by : K × U → K × W
  row_by p = (p.0, g p.0 p.1)

  -- The keys stay.
  pub keys-each : (t : List (K × U)) → keys (each row_by t) ≡ keys t
  keys-each t = each-each (λ (p : K × W). p.0) row_by t

  -- A value is put in.
  pub put-each : (lt : K → K → Bool) (k : K) (v : U) (t : List (K × U)) → put lt k (g k v) (each row_by t) ≡ each row_by (put lt k v t)
  put-each lt k v [] = refl
  put-each lt k v (p ∷ t) = go (lt k p.0) (lt p.0 k) (put-each lt k v t)
    where
      go : (b c : Bool) → put lt k (g k v) (each row_by t) ≡ each row_by (put lt k v t)
          → cond b ((k, g k v) ∷ row_by p ∷ each row_by t) (cond c (row_by p ∷ put lt k (g k v) (each row_by t)) ((k, g k v) ∷ each row_by t))
          ≡ each row_by (cond b ((k, v) ∷ p ∷ t) (cond c (p ∷ put lt k v t) ((k, v) ∷ t)))
      go true c e = refl
      go false true e = ap (λ (l : List (K × W)). row_by p ∷ l) e
      go false false e = refl

  -- A key is left out.
  pub drop-each : (eq : K → K → Bool) (k : K) (t : List (K × U)) → drop_key eq k (each row_by t) ≡ each row_by (drop_key eq k t)
  drop-each eq k t = keep-each row_by (λ (p : K × W). not (eq k p.0)) t

  -- The values are changed by rules that agree.
  pub change-each : (F : K → W → W) (G : K → U → U) (t : List (K × U)) → ((p : K × U) → Mem p t → F p.0 (g p.0 p.1) ≡ g p.0 (G p.0 p.1))
      → change F (each row_by t) ≡ each row_by (change G t)
  change-each F G t h =
      each-each (λ (q : K × W). (q.0, F q.0 q.1)) row_by t
      ∙ each-ext (λ (p : K × U). (p.0, F p.0 (g p.0 p.1))) (λ (p : K × U). (p.0, g p.0 (G p.0 p.1))) t (λ p m. ap (λ (w : W). (p.0, w)) (h p m))
      ∙ sym (each-each row_by (λ (p : K × U). (p.0, G p.0 p.1)) t)

  -- What stands under a key of the rows.
  abbrev pub under : K → Option U → Option W
  under k none = none
  under k (some v) = some (g k v)

-- The lookup of a key, where equal keys are one.
pub get-each : {K U W : Type 0} (g : K → U → W) (eq : K → K → Bool) → ((a b : K) → eq a b ≡ true → a ≡ b) → (t : List (K × U)) (k : K) → get eq (each (row_by g) t) k ≡ under g k (get eq t k)
get-each g eq sound [] k = refl
get-each {K} {U} {W} g eq sound (p ∷ t) k = go (eq k p.0) refl (get-each g eq sound t k)
  where
    go : (b : Bool) → eq k p.0 ≡ b → get eq (each (row_by g) t) k ≡ under g k (get eq t k)
        → cond b (some (g p.0 p.1)) (get eq (each (row_by g) t) k) ≡ under g k (cond b (some p.1) (get eq t k))
    go true e h = ap (λ (a : K). some (g a p.1)) (sym (sound k p.0 e))
    go false e h = h

module _ {K : Type 0} (kind : Kind K) (laws : Lawful kind) (w n : ℕ) (s : List ℕ) (t : List (K × List ℕ)) where
  -- Words that are the image of a table show it.
  pub image-shows : s ≡ image_of kind (length s) t → n ≡ length t → kind.size ≤ w → are_wide kind w t ≡ true → Asc kind.less (keys t) → TableIs kind w n s t
  image-shows e c h v a =
      record {
        table =
            (λ i. is_table_of kind w (c i) (e i)) ∙ image-is-table kind laws w (length s) t h v ∙ true_of (is_ascending kind.less (keys t)) (is_ascending-in a);
        is = (λ i. table_of kind w (c i) (e i)) ∙ table-of-image kind laws w (length s) t v;
      }

  -- Words that show a table are its image.
  pub shows-image : TableIs kind w n s t → s ≡ image_of kind (length s) t
  shows-image x = sym (image-of-table kind laws w n s x.table) ∙ ap (image_of kind (length s)) x.is

  -- The count is the number of its rows.
  pub shows-count : TableIs kind w n s t → n ≡ length t
  shows-count x = sym (table-length kind w n s) ∙ ap length x.is

  -- The rows fit.
  pub shows-fit : TableIs kind w n s t → w * n ≤ length s
  shows-fit x = (table-facts kind w n s x.table).fits
